-- The facts on which the laws rest, as laws of their own; and that a quotient is a problem.
use Rattle.std.proofs.Common.{◌≡◌, ◌≢◌, ◌⊎◌, ℕ, zero, suc, ◌<◌, true, false, cond, not, List, [], ◌∷◌, ◌++◌, length, Option, Some, refl, sym, ap, ◌∙◌, subst, inl, inr, arith}
use Rattle.std.specs.Prelude.{Contains, nat_eq, ◌&&◌, slice_index}
use Rattle.std.proofs.lemmas.Bool.{cases_Bool, and_parts, and_from, eq-eqb, or_left, not_from_false, ne_eqb}
use Rattle.srp_core.specs.declared.route.Route.{Route}
use Rattle.base_kit.specs.declared.act_graph.Edge.{Edge}
use Rattle.srp_core.specs.Routes.{size_of, path_of, is_on}
use Rattle.srp_core.specs.Acts.{prepended}
use Rattle.srp_core.specs.Problem.{Problem, count, number, is_lone, act_of, step_over, key_of, IsProblem}
use Rattle.srp_core.specs.Stability.{label, IsCandidate, of_init, of_edge, IsStable}
use Rattle.srp_core.specs.Quotient.{group_of, IsAdmissible, first_number, IsQuotient}
use Rattle.srp_core.specs.Laws.{HasPath, HasBetter}
use Rattle.srp_core.proofs.Steps.{step_repeats}
use Rattle.srp_core.proofs.Offers.{edge_act, IsSupported, stable_supported, grows, loop_check}
use Rattle.srp_core.proofs.Matching.{IsInner, lone_check, inner_offer}
use Rattle.srp_core.proofs.GroupMatching.{IsIn, AreTogether, not_lone_inside, together, equal_held, quotient_matching}

-- where a list with repeats before it is cut at the last place of a number
split_repeated : (k n a : ℕ) (p before after : List ℕ) → prepended k n p ≡ before ++ (a ∷ after) → is_on a after ≡ false →
    ((front : List ℕ) × (p ≡ front ++ (a ∷ after))) ⊎ ((n ≡ a) × (p ≡ after))
split_repeated zero n a p before after e h = inl (before, e)
split_repeated (suc zero) n a p [] after e h = let x : n ≡ a = cc in let y : p ≡ after = cc in inr (x, y)
split_repeated (suc (suc k)) n a p [] after e h =
    let x : n ≡ a = cc in
    let y : n ∷ prepended k n p ≡ after = cc in
    let t : is_on a (n ∷ prepended k n p) ≡ true = or_left (nat_eq n a) (is_on a (prepended k n p)) (eq-eqb n a x) in
    let f : is_on a (n ∷ prepended k n p) ≡ false = subst (λ l. is_on a l ≡ false) (sym y) h in absurd (cc)
split_repeated (suc k) n a p (b ∷ before) after e h = let rest : prepended k n p ≡ before ++ (a ∷ after) = cc in split_repeated k n a p before after rest h

not_nothing : (before after : List ℕ) (a : ℕ) → [] ≡ before ++ (a ∷ after) → ⊥
not_nothing [] after a e = cc
not_nothing (b ∷ before) after a e = cc

module _ (P : Problem) (good : IsProblem P) where
  chain_at : (L : List (Option Route)) → IsSupported P L → (n u a : ℕ) (r : Route) (before after : List ℕ) → size_of r < n → path_of r ≡ before ++ (a ∷ after) →
      is_on a after ≡ false → IsCandidate P L u r → HasPath P L a after
  chain_at L sup zero u a r before after less e h cand = absurd (omega arith)
  chain_at L sup (suc n) u a r before after less e h (of_init i) = absurd (not_nothing before after a (sym (good.starts.paths u r i) ∙ e))
  chain_at L sup (suc n) u a r before after less e h (of_edge edge i imp over) =
      let g = grows P good edge over.from r i over.stepped in
      let up = sup.held edge.exporter over.from over.labelled in
      elim (step_repeats P.protocol (act_of P edge) (number P edge.exporter) over.from r (edge_act P good edge i) over.stepped) [
        | inl empty ↦ absurd (not_nothing before after a (sym empty ∙ e))
        | inr k ↦ elim (split_repeated k.0 (number P edge.exporter) a (path_of over.from) before after (sym k.2 ∙ e) h) [
          | inl there ↦ chain_at L sup n edge.exporter a over.from there.0 after (omega arith) there.1 h up
          | inr here ↦ record {
            router = edge.exporter;
            inside = (good.edges.inside edge i).exporter_in;
            numbered = here.0;
            some_number =
                subst (λ x. x ≢ 0) here.0 ((good.numbers k.1).exporters edge i);
            route = over.from;
            labelled = over.labelled;
            same = here.1;
          }
        ]
      ]

  pub chains : (L : List (Option Route)) → IsStable P L → (u a : ℕ) (r : Route) (before after : List ℕ) → label L u ≡ Some r →
      path_of r ≡ before ++ (a ∷ after) → is_on a after ≡ false → HasPath P L a after
  chains L st u a r before after lab e h = let sup = stable_supported P good L st in
      chain_at L sup (suc (size_of r)) u a r before after (omega arith) e h (sup.held u r lab)

  pub loop_checks : (L : List (Option Route)) → IsStable P L → (e : Edge) (r c : Route) → Contains P.edges e → is_lone P e.importer ≡ false →
      label L e.exporter ≡ Some r → step_over P e r ≡ Some c → is_on (number P e.importer) (path_of c) ≡ true → HasBetter P L e.importer c
  loop_checks L st e r c i l lab s h = let b = loop_check P good L st e r c i l lab s h in record { own = b.route; labelled = b.labelled; better = b.better }

  module _ (groups : List ℕ) (adm : IsAdmissible P groups) where
    pub inner_edge : (L : List (Option Route)) → IsStable P L → (e : Edge) (r c : Route) → Contains P.edges e →
        group_of groups e.importer ≡ group_of groups e.exporter → label L e.exporter ≡ Some r → step_over P e r ≡ Some c → HasBetter P L e.importer c
    inner_edge L st e r c i same lab s =
        let ge = good.edges.inside e i in
        let R = AreTogether P groups in
        let m = together P good groups adm in
        let x : AreTogether P groups e.importer e.importer = record { left = ge.importer_in; right = ge.importer_in; same = refl } in
        let inner : IsInner P (AreTogether P groups) e.importer e.importer e =
        record {
          not_lone = not_lone_inside P good groups adm e.importer e ge.importer_in i refl (sym same);
          inner =
              record { left = ge.exporter_in; right = ge.importer_in; same = sym same };
        } in
        let held = λ (b a : ℕ) (r : Route) (y : AreTogether P groups b a) (lb : label L b ≡ Some r). equal_held P good groups adm L st b a r y lb in
        let held' = λ (b a a' : ℕ) (r : Route) (y : AreTogether P groups b a) (z : AreTogether P groups b a') (lb : label L a ≡ Some r). equal_held P good
        groups adm L st a a' r (record { left = y.right; right = z.right; same = sym y.same ∙ z.same }) lb in
        let b = inner_offer P P (AreTogether P groups) m good good L st held' L st.fitting held e.importer e.importer e r c x i refl inner lab s in
        record { own = b.route; labelled = b.labelled; better = b.better }

    pub first_some : (numbers gs : List ℕ) (u wanted : ℕ) → u < length numbers → length gs ≡ length numbers → slice_index gs u ≡ wanted →
        slice_index numbers u ≢ 0 → first_number numbers gs wanted ≢ 0
    unfolding first_number
    first_some [] gs u wanted h t e z = absurd (omega arith)
    first_some (n ∷ numbers) [] u wanted h t e z = absurd (omega arith)
    first_some (n ∷ numbers) (g ∷ gs) zero wanted h t e z =
        let b : (nat_eq g wanted && not (nat_eq n 0)) ≡ true =
        and_from (nat_eq g wanted) (not (nat_eq n 0)) (eq-eqb g wanted e) (not_from_false (nat_eq n 0) (ne_eqb n 0 z)) in
        λ y. z (sym (ap (λ q. cond q n (first_number numbers gs wanted)) b) ∙ y)
    first_some (n ∷ numbers) (g ∷ gs) (suc u) wanted h t e z =
        let rest = first_some numbers gs u wanted (omega arith) (omega arith) e z in
        elim (cases_Bool (nat_eq g wanted && not (nat_eq n 0))) [
          | inr f ↦ λ y. rest (sym (ap (λ q. cond q n (first_number numbers gs wanted)) f) ∙ y)
          | inl b ↦ let nz : n ≢ 0 = λ w. (let p = and_parts (nat_eq g wanted) (not (nat_eq n 0)) b in let q : not (nat_eq n 0) ≡ false =
              ap not (eq-eqb n 0 w) in let r = p.1 in cc) in λ y. nz (sym (ap (λ q. cond q n (first_number numbers gs wanted)) b) ∙ y)
        ]

-- for routes of one key a lone router's number is on both paths or on none
pub lone_checks : (S : Problem) (good : IsProblem S) (groups : List ℕ) (adm : IsAdmissible S groups) (Q : Problem) (goodq : IsProblem Q)
    (q : IsQuotient S groups Q) (u : ℕ) (r m : Route) → u < count S → is_lone S u ≡ true → key_of S r ≡ key_of Q m →
    is_on (number S u) (path_of r) ≡ is_on (number Q (group_of groups u)) (path_of m)
lone_checks S good groups adm Q goodq q u r m h l k =
    sym (lone_check S Q (IsIn S groups) (quotient_matching S good groups adm Q goodq q) good goodq u (group_of groups u) r m
    (record { inside = h; of_group = refl }) (q.lone u h ∙ l) k)
