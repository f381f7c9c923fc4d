-- One step of folding: the edge that is looked for is there, and what it gives keeps what holds.
use Rattle.std.proofs.Common.{◌≡◌, ℕ, ◌<◌, List, Option, Some, None, length, set, replicate, refl, sym, ap, ◌∙◌, subst, inl, inr, arith}
use Rattle.std.proofs.lemmas.List.{length-replicate}
use Rattle.srp_core.specs.declared.route.Route.{Route}
use Rattle.srp_core.specs.Filling.{CanBeFolded, IsFoldedPart, IsNextToFold}
use Rattle.srp_core.specs.Lifts.{GroupTakes, IsFirstOn, IsFold}
use Rattle.srp_core.specs.Problem.{Problem, count, initial, key_of}
use Rattle.srp_core.specs.Quotient.{group_of}
use Rattle.srp_core.specs.Routes.{size_of, path_of}
use Rattle.srp_core.specs.Stability.{label, IsCandidate, of_init, of_edge}
use Rattle.srp_core.proofs.Filling.{IsGood, IsFilled, IsEven, nothing, extended, at_set, set_good}
use Rattle.srp_core.proofs.FoldExists.{Picked, kept, even, one_first, make}
use Rattle.srp_core.proofs.GroupMatching.{IsIn, quotient_matching}
use Rattle.srp_core.proofs.LiftedLabels.{first_on}
use Rattle.srp_core.proofs.LiftSteps.{one_source}
use Rattle.srp_core.proofs.Matching.{IsMatching, converse, keys_agree}
use Rattle.srp_core.proofs.Offers.{cases_label}

pub no_labels : (S Q : Problem) (groups : List ℕ) (L : List (Option Route)) → IsFoldedPart S Q groups L (replicate (count Q) None)
no_labels S Q groups L = record {
  fitting = record { total = length-replicate (count Q) None; routes = λ u r e. absurd (nothing Q u r e) };
  held = λ g m e. absurd (nothing Q g m e);
  keyed = λ u m h e. absurd (nothing Q (group_of groups u) m e);
  started = λ u m i h e init. absurd (nothing Q (group_of groups u) m e);
  taken = λ u source r m h first e f none on. absurd (nothing Q (group_of groups u) m e);
}

module _ (S Q : Problem) (groups : List ℕ) (L : List (Option Route)) (can : CanBeFolded S Q groups L) where
  abbrev Picks : List (Option Route) → ℕ → Route → Type 0
  Picks E g m = Picked S can.problem_rules groups can.admissible Q can.small_rules can.quotient can.protocol L can.stable E g m

  matching : IsMatching Q S (λ g u. IsIn S groups u g)
  matching = converse S Q (IsIn S groups) (quotient_matching S can.problem_rules groups can.admissible Q can.small_rules can.quotient)

  is_even : IsEven S (λ g u. IsIn S groups u g) L
  is_even = even S can.problem_rules groups can.admissible Q can.small_rules can.quotient can.protocol L can.stable

  module _ (E : List (Option Route)) (part : IsFoldedPart S Q groups L E) where
    state : IsGood Q S (λ g u. IsIn S groups u g) E L
    state = record {
      supported = record { fitting = part.fitting; held = part.held };
      tied = record {
        held = λ g u m x e. (let k = part.keyed u m x.inside (ap (label E) x.of_group ∙ e) in
            record { route = k.0; labelled = k.1; keyed = sym k.2 });
      };
    }

    pick : (g : ℕ) (m : Route) → label E g ≡ Some m → Picks E g m
    pick g m e = record {
      started = λ u i h x init. part.started u m i h (ap (label E) x ∙ e) init;
      taken = λ u source r h x first f none on. subst (λ k. GroupTakes S Q E k (group_of groups source) m r) x
          (part.taken u source r m h first (ap (label E) x ∙ e) f none on);
    }

    -- labels with one more, that is what folding asks for
    put : (u : ℕ) (r m : Route) → u < count S → label L u ≡ Some r → label E (group_of groups u) ≡ None → Picks E (group_of groups u) m →
        IsCandidate Q E (group_of groups u) m → key_of Q m ≡ key_of S r → IsFoldedPart S Q groups L (set E (group_of groups u) (Some m))
    put u r m h asked empty picked cand k =
        let b = group_of groups u in
        let x : IsIn S groups u b = record { inside = h; of_group = refl } in
        let g = set_good Q S (λ g v. IsIn S groups v g) matching can.small_rules can.problem_rules L can.stable is_even E state b u m r x asked empty cand k in
        let ext = extended Q S (λ g v. IsIn S groups v g) matching can.small_rules can.problem_rules L can.stable is_even E b m empty in
        let total = part.fitting.total in
        let within = can.quotient.inside u h in
        let inside : b < length E = omega (arith, total, within) in
        let pick_at = kept S can.problem_rules groups can.admissible Q can.small_rules can.quotient can.protocol L can.stable E (set E b (Some m)) in
        let picks : (v : ℕ) (n : Route) → label (set E b (Some m)) v ≡ Some n → Picks (set E b (Some m)) v n =
        λ v n e. elim (at_set Q S (λ g w. IsIn S groups w g) matching can.small_rules can.problem_rules L can.stable is_even E b v m n inside e) [
          | inl now ↦ subst (λ w. Picks (set E b (Some m)) w n) (sym now.0) (subst (Picks (set E b (Some m)) b) now.1 (pick_at b m ext picked))
          | inr old ↦ pick_at v n ext (pick v n old)
        ] in
        record {
          fitting = g.supported.fitting;
          held = g.supported.held;
          keyed = λ v n hv e. (let t = g.tied.held (group_of groups v) v n (record { inside = hv; of_group = refl }) e in (t.route, t.labelled, sym t.keyed));
          started = λ v n i hv e init. (picks (group_of groups v) n e).started v i hv refl init;
          taken = λ v source s n hv first e f none on. (picks (group_of groups v) n e).taken v source s hv refl first f none on;
        }

  start_is : (u : ℕ) (r i : Route) → initial S u ≡ Some i → IsCandidate S L u r → r ≡ i
  start_is u r i init (of_init f) = cc
  start_is u r i init (of_edge edge has imp over) =
      (let none : initial S u ≡ None = ap (initial S) (sym imp) ∙ can.problem_rules.starts.unoriginated can.protocol edge has in absurd (cc))

  source_by : (u : ℕ) (r : Route) → initial S u ≡ None → IsCandidate S L u r → (source : ℕ) × IsFirstOn S (path_of r) source
  source_by u r none (of_init f) = absurd (cc)
  source_by u r none (of_edge edge has imp over) = (edge.exporter, first_on S can.problem_rules can.protocol L r edge has over)

  pub some_source : (u : ℕ) (r : Route) → u < count S → label L u ≡ Some r → initial S u ≡ None → (source : ℕ) × IsFirstOn S (path_of r) source
  some_source u r h asked none = source_by u r none (can.stable.held u r h asked)

  module _ (E : List (Option Route)) (u : ℕ) (r : Route) (next : IsNextToFold S Q groups L E u r) where
    before : IsFilled (λ g v. IsIn S groups v g) E L (size_of r)
    before = record { filled = λ g v s x e small. (let f = next.below.filled v s x.inside e small in (f.0, ap (label E) (sym x.of_group) ∙ f.1)) }

    pub fold_found : (source : ℕ) → initial S u ≡ None → IsFirstOn S (path_of r) source →
        (m : Route) × GroupTakes S Q E (group_of groups u) (group_of groups source) m r
    fold_found source none on =
        let t = make S can.problem_rules groups can.admissible Q can.small_rules can.quotient can.protocol L can.stable E (state E next.part)
        (group_of groups u) u r (record { inside = next.inside; of_group = refl }) next.asked next.empty before in
        (t.0, t.1.taken u source r next.inside refl next.first next.asked none on)

    one_start : (v : ℕ) → v < count S → group_of groups v ≡ group_of groups u → initial S v ≡ initial S u
    one_start v h x = can.admissible.origins v u h next.inside x

    pub fold_started : (i : Route) → initial S u ≡ Some i → IsFoldedPart S Q groups L (set E (group_of groups u) (Some i))
    fold_started i init =
        let is = start_is u r i init (can.stable.held u r next.inside next.asked) in
        let agree = keys_agree S Q (IsIn S groups) (quotient_matching S can.problem_rules groups can.admissible Q can.small_rules can.quotient) i in
        put E next.part u r i next.inside next.asked next.empty
        (record {
          started = λ v j h x there. (let k : Some i ≡ Some j = sym init ∙ sym (one_start v h x) ∙ there in cc);
          taken = λ v source s h x first f none on. (let k : Some i ≡ None = sym init ∙ sym (one_start v h x) ∙ none in absurd (cc));
        })
        (of_init (can.quotient.origins u next.inside ∙ init)) (sym agree ∙ ap (key_of S) (sym is))

    pub fold_taken : (source : ℕ) (m : Route) → initial S u ≡ None → IsFirstOn S (path_of r) source →
        GroupTakes S Q E (group_of groups u) (group_of groups source) m r → IsFoldedPart S Q groups L (set E (group_of groups u) (Some m))
    fold_taken source m none on takes =
        put E next.part u r m next.inside next.asked next.empty
        (record {
          started = λ v j h x there. (let k : Some j ≡ None = sym there ∙ one_start v h x ∙ none in absurd (cc));
          taken = λ v other s h x first f none' on'.
              (let same : v ≡ u = one_first S can.problem_rules groups can.admissible Q can.small_rules can.quotient can.protocol L can.stable v u x first
              next.first in
              let there : label L u ≡ Some s = subst (λ w. label L w ≡ Some s) same f in
              let asked = next.asked in
              let is : r ≡ s = cc in
              let one : source ≡ other = one_source S can.problem_rules can.protocol (path_of r) source other on
              (subst (λ p. IsFirstOn S (path_of p) other) (sym is) on') in
              subst (λ w. GroupTakes S Q E (group_of groups u) (group_of groups w) m s) one
              (subst (GroupTakes S Q E (group_of groups u) (group_of groups source) m) is takes));
        })
        (of_edge takes.edge takes.edge_in takes.importer takes.over) takes.keyed

  pub fold_whole : (E : List (Option Route)) → IsFoldedPart S Q groups L E →
      ((u : ℕ) (r : Route) → u < count S → label L u ≡ Some r → (m : Route) × (label E (group_of groups u) ≡ Some m)) → IsFold S Q groups L E
  fold_whole E part full = record {
    fitting = part.fitting;
    empty = λ u h e. elim (cases_label (label E (group_of groups u))) [
      | inl none ↦ none
      | inr there ↦ (let k = part.keyed u there.0 h there.1 in let lk = k.1 in absurd (cc))
    ];
    started = λ u i h init. elim (cases_label (label L u)) [
      | inl none ↦ absurd (can.stable.none u i h none (of_init init))
      | inr there ↦ (let f = full u there.0 h there.1 in f.1 ∙ ap Some (part.started u f.0 i h f.1 init))
    ];
    taken = λ u source r h first e none on. (let f = full u r h e in (f.0, f.1, part.taken u source r f.0 h first f.1 e none on));
  }
