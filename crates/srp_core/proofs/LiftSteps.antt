-- One step of lifting: the edge that is looked for is there, and what it gives keeps what holds.
use Rattle.std.proofs.Common.{◌≡◌, ℕ, ◌<◌, List, Option, Some, None, set, replicate, length, refl, sym, ap, ◌∙◌, subst, inl, inr, arith, length-set}
use Rattle.std.proofs.lemmas.List.{length-replicate}
use Rattle.base_kit.specs.declared.protocol.Protocol.TheVariants.{Bgp as OverBgp}
use Rattle.srp_core.specs.declared.route.Route.{Route}
use Rattle.srp_core.specs.Filling.{CanBeLifted, IsLiftedPart, IsNextToLift}
use Rattle.srp_core.specs.Lifts.{TakesFrom, IsFirstOn, IsLift}
use Rattle.srp_core.specs.Problem.{Problem, count, number, initial, key_of, IsProblem}
use Rattle.srp_core.specs.Quotient.{group_of}
use Rattle.srp_core.specs.Routes.{size_of, path_of}
use Rattle.srp_core.specs.Stability.{label, IsCandidate, of_init, of_edge}
use Rattle.srp_core.proofs.Filling.{IsGood, IsFilled, nothing, extended, at_set, set_good}
use Rattle.srp_core.proofs.GroupMatching.{IsIn, quotient_matching}
use Rattle.srp_core.proofs.LiftExists.{AllFilled, PicksFrom, Picked, kept, even, make}
use Rattle.srp_core.proofs.LiftedLabels.{first_on}
use Rattle.srp_core.proofs.Matching.{keys_agree}
use Rattle.srp_core.proofs.Offers.{cases_label, label_in, grows}
use Rattle.srp_core.proofs.Sources.{heads}

-- a path begins with the number of one router
pub one_source : (P : Problem) → IsProblem P → P.protocol ≡ OverBgp → (path : List ℕ) (v w : ℕ) → IsFirstOn P path v → IsFirstOn P path w → v ≡ w
one_source P good bgp path v w a b =
    let numbers : number P v ≡ number P w = a.numbered ∙ heads a.number_of b.number_of a.rest b.rest path a.path_is b.path_is ∙ sym b.numbered in
    (good.numbers bgp).distinct v w a.inside b.inside numbers (λ z. a.some_number (sym a.numbered ∙ z))

pub no_labels : (S Q : Problem) (groups : List ℕ) (M : List (Option Route)) → IsLiftedPart S Q groups M (replicate (count S) None)
no_labels S Q groups M = record {
  fitting = record { total = length-replicate (count S) None; routes = λ u r e. absurd (nothing S u r e) };
  held = λ u r e. absurd (nothing S u r e);
  keyed = λ u r e. absurd (nothing S u r e);
  started = λ u r i e init. absurd (nothing S u r e);
  taken = λ u source r m e f none on. absurd (nothing S u r e);
}

module _ (S Q : Problem) (groups : List ℕ) (M : List (Option Route)) (can : CanBeLifted S Q groups M) where
  module _ (E : List (Option Route)) (part : IsLiftedPart S Q groups M E) where
    state : IsGood S Q (IsIn S groups) E M
    state = record {
      supported = record { fitting = part.fitting; held = part.held };
      tied = record {
        held = λ u g r x e. (let k = part.keyed u r e in
            record { route = k.0; labelled = subst (λ h. label M h ≡ Some k.0) x.of_group k.1; keyed = sym k.2 });
      };
    }

    pick : (u : ℕ) (r : Route) → label E u ≡ Some r →
        Picked S can.problem_rules groups can.admissible Q can.small_rules can.quotient can.protocol M can.stable E u r
    pick u r e = record {
      started = λ i h init. part.started u r i e init;
      taken = λ source m h f none on. (let t = part.taken u source r m e f none on in record { takes = t.0; source_filled = record { filled = t.1.filled } });
    }

    -- labels with one more, that is what lifting asks for
    put : (u : ℕ) (m r : Route) → u < count S → label M (group_of groups u) ≡ Some m → label E u ≡ None →
        Picked S can.problem_rules groups can.admissible Q can.small_rules can.quotient can.protocol M can.stable E u r → IsCandidate S E u r →
        key_of S r ≡ key_of Q m → IsLiftedPart S Q groups M (set E u (Some r))
    put u m r h asked empty picked cand k =
        let matching = quotient_matching S can.problem_rules groups can.admissible Q can.small_rules can.quotient in
        let is_even = even S can.problem_rules groups can.admissible Q can.small_rules can.quotient can.protocol M can.stable in
        let g = set_good S Q (IsIn S groups) matching can.problem_rules can.small_rules M can.stable is_even E state u (group_of groups u) r m
        (record { inside = h; of_group = refl }) asked empty cand k in
        let ext = extended S Q (IsIn S groups) matching can.problem_rules can.small_rules M can.stable is_even E u r empty in
        let total = part.fitting.total in
        let inside : u < length E = omega (arith, total) in
        let at = at_set S Q (IsIn S groups) matching can.problem_rules can.small_rules M can.stable is_even E u in
        let pick_at = kept S can.problem_rules groups can.admissible Q can.small_rules can.quotient can.protocol M can.stable E (set E u (Some r)) in
        let picks : (v : ℕ) (s : Route) → label (set E u (Some r)) v ≡ Some s →
        Picked S can.problem_rules groups can.admissible Q can.small_rules can.quotient can.protocol M can.stable (set E u (Some r)) v s =
        λ v s e. elim (at v r s inside e) [
          | inl now ↦ subst (λ w. Picked S can.problem_rules groups can.admissible Q can.small_rules can.quotient can.protocol M can.stable (set E u (Some r)) w
              s) (sym now.0) (subst (Picked S can.problem_rules groups can.admissible Q can.small_rules can.quotient can.protocol M can.stable
              (set E u (Some r)) u) now.1 (pick_at u r ext picked))
          | inr old ↦ pick_at v s ext (pick v s old)
        ] in
        let bound : (v : ℕ) (s : Route) → label (set E u (Some r)) v ≡ Some s → v < count S =
        λ v s e. (let l = label_in (set E u (Some r)) v s e in let n = length-set E u (Some r) in omega arith) in
        record {
          fitting = g.supported.fitting;
          held = g.supported.held;
          keyed = λ v s e. elim (at v r s inside e) [
            | inl now ↦ (m, subst (λ w. label M (group_of groups w) ≡ Some m) (sym now.0) asked, ap (key_of S) (sym now.1) ∙ k)
            | inr old ↦ part.keyed v s old
          ];
          started = λ v s i e init. (picks v s e).started i (bound v s e) init;
          taken = λ v source s n e f none on. (let t = (picks v s e).taken source n (bound v s e) f none on in
              (t.takes, record { filled = t.source_filled.filled }));
        }

  -- an initial route is the label of the group
  start_is : (u : ℕ) (m i : Route) → u < count S → initial S u ≡ Some i → IsCandidate Q M (group_of groups u) m → m ≡ i
  start_is u m i h init (of_init f) = (let there : initial S u ≡ Some m = sym (can.quotient.origins u h) ∙ f in cc)
  start_is u m i h init (of_edge edge has imp over) =
      (let none : initial S u ≡ None = sym (can.quotient.origins u h) ∙ ap (initial Q) (sym imp) ∙ can.small_rules.starts.unoriginated can.protocol edge has in
      absurd (cc))

  -- the route of the group came from the group that is first on its path
  record CameFrom (u : ℕ) (m : Route) : Type 0 where
    source : ℕ
    first : IsFirstOn Q (path_of m) source
    from : Route
    labelled : label M source ≡ Some from
    shorter : size_of from < size_of m

  came_by : (u : ℕ) (m : Route) → u < count S → initial S u ≡ None → IsCandidate Q M (group_of groups u) m → CameFrom u m
  came_by u m h none (of_init f) = (let there : initial S u ≡ Some m = sym (can.quotient.origins u h) ∙ f in absurd (cc))
  came_by u m h none (of_edge edge has imp over) = record {
    source = edge.exporter;
    first = first_on Q can.small_rules can.protocol M m edge has over;
    from = over.from;
    labelled = over.labelled;
    shorter = grows Q can.small_rules edge over.from m has over.stepped;
  }

  came : (u : ℕ) (m : Route) → u < count S → label M (group_of groups u) ≡ Some m → initial S u ≡ None → CameFrom u m
  came u m h asked none = came_by u m h none (can.stable.held (group_of groups u) m (can.quotient.inside u h) asked)

  pub some_source : (u : ℕ) (m : Route) → u < count S → label M (group_of groups u) ≡ Some m → initial S u ≡ None →
      (source : ℕ) × IsFirstOn Q (path_of m) source
  some_source u m h asked none = let c = came u m h asked none in (c.source, c.first)

  module _ (E : List (Option Route)) (u : ℕ) (m : Route) (next : IsNextToLift S Q groups M E u m) where
    before : IsFilled (IsIn S groups) E M (size_of m)
    before = record { filled = λ w g s x e small. next.below.filled w s x.inside (ap (label M) x.of_group ∙ e) small }

    pub lift_found : (source : ℕ) → initial S u ≡ None → IsFirstOn Q (path_of m) source → (r : Route) × TakesFrom S Q groups E u source r m
    lift_found source none on =
        let t = make S can.problem_rules groups can.admissible Q can.small_rules can.quotient can.protocol M can.stable E (state E next.part) u
        (group_of groups u) m (record { inside = next.inside; of_group = refl }) next.asked next.empty before in
        (t.0, (t.1.taken source m next.inside next.asked none on).takes)

    pub lift_started : (i : Route) → initial S u ≡ Some i → IsLiftedPart S Q groups M (set E u (Some i))
    lift_started i init =
        let is = start_is u m i next.inside init (can.stable.held (group_of groups u) m (can.quotient.inside u next.inside) next.asked) in
        let agree = keys_agree S Q (IsIn S groups) (quotient_matching S can.problem_rules groups can.admissible Q can.small_rules can.quotient) i in
        put E next.part u m i next.inside next.asked next.empty
        (record {
          started = λ j h init'. (let k : Some i ≡ Some j = sym init ∙ init' in cc);
          taken =
              λ source n h f none on. (let k : Some i ≡ None = sym init ∙ none in absurd (cc));
        })
        (of_init init) (agree ∙ ap (key_of Q) (sym is))

    pub lift_taken : (source : ℕ) (r : Route) → initial S u ≡ None → IsFirstOn Q (path_of m) source → TakesFrom S Q groups E u source r m →
        IsLiftedPart S Q groups M (set E u (Some r))
    lift_taken source r none on takes =
        let c = came u m next.inside next.asked none in
        let one = λ (other : ℕ) (first : IsFirstOn Q (path_of m) other). one_source Q can.small_rules can.protocol (path_of m) other source first on in
        let from : label M source ≡ Some c.from = subst (λ w. label M w ≡ Some c.from) (one c.source c.first) c.labelled in
        let filled : AllFilled S can.problem_rules groups can.admissible Q can.small_rules can.quotient can.protocol M can.stable E source =
        record { filled = λ w h x. next.below.filled w c.from h (ap (label M) x ∙ from) c.shorter } in
        let picks : PicksFrom S can.problem_rules groups can.admissible Q can.small_rules can.quotient can.protocol M can.stable E u source r m =
        record { takes = takes; source_filled = filled } in
        put E next.part u m r next.inside next.asked next.empty
        (record {
          started = λ i h init. (let k : Some i ≡ None = sym init ∙ none in absurd (cc));
          taken = λ other n h f none' on'.
              (let asked = next.asked in
              let same : m ≡ n = cc in
              let is : source ≡ other = sym (one other (subst (λ p. IsFirstOn Q (path_of p) other) (sym same) on')) in
              subst (λ w. PicksFrom S can.problem_rules groups can.admissible Q can.small_rules can.quotient can.protocol M can.stable E u w r n) is
              (subst (PicksFrom S can.problem_rules groups can.admissible Q can.small_rules can.quotient can.protocol M can.stable E u source r) same
              picks));
        })
        (of_edge takes.edge takes.edge_in takes.importer takes.over) takes.keyed

  pub lift_whole : (E : List (Option Route)) → IsLiftedPart S Q groups M E →
      ((u : ℕ) (m : Route) → u < count S → label M (group_of groups u) ≡ Some m → (r : Route) × (label E u ≡ Some r)) → IsLift S Q groups M E
  lift_whole E part full = record {
    fitting = part.fitting;
    empty = λ u h e. elim (cases_label (label E u)) [
      | inl none ↦ none
      | inr there ↦ (let k = part.keyed u there.0 there.1 in let lk = k.1 in absurd (cc))
    ];
    started = λ u r m h e init. (let there = full u m h e in there.1 ∙ ap Some (part.started u there.0 r there.1 init));
    taken = λ u source m h e none on. (let there = full u m h e in (there.0, there.1, (part.taken u source there.0 m there.1 e none on).0));
  }
