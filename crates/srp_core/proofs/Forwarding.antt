-- Forwarding along a matching.
use Rattle.std.proofs.Common.{◌≡◌, ℕ, false, List, Option, Some, refl, sym, ap, ◌∙◌, subst, inl, inr}
use Rattle.std.proofs.lemmas.Bool.{cases_Bool}
use Rattle.srp_core.specs.declared.route.Route.{Route}
use Rattle.srp_core.specs.Routes.{path_of, is_on}
use Rattle.srp_core.specs.Problem.{Problem, number, is_lone, key_of, IsProblem}
use Rattle.srp_core.specs.Stability.{label, IsStable, ForwardsTo}
use Rattle.srp_core.proofs.KeyOrder.{irreflexive}
use Rattle.srp_core.proofs.Offers.{loop_check}
use Rattle.srp_core.proofs.Matching.{IsMatching, keys_agree, matched_step, lone_check, inner_offer}
use Rattle.srp_core.proofs.Filling.{IsTied, IsEven}

pub even_from_ties : (B A : Problem) (R : ℕ → ℕ → Type 0) (E L : List (Option Route)) → IsTied B A R E L → IsTied A B (λ y z. R z y) L E → IsEven A R L
even_from_ties B A R E L down up = record {
  held = λ b a a' r x y e.
      (let h = up.held a b r x e in
      let h' = down.held b a' h.route y h.labelled in
      record { route = h'.route; labelled = h'.labelled; keyed = h'.keyed ∙ h.keyed });
}

pub forwarded : (B A : Problem) (R : ℕ → ℕ → Type 0) → IsMatching B A R → IsProblem B → IsProblem A → (L : List (Option Route)) → IsStable A L →
    (E : List (Option Route)) → IsStable B E → IsTied B A R E L → IsTied A B (λ y z. R z y) L E → (b a v : ℕ) → R b a → ForwardsTo B E b v →
    (w : ℕ) × ForwardsTo A L a w × R v w
forwarded B A R m gb ga L st E stE down up b a v x f =
    let over = f.over in
    let h = down.held b a f.route x f.labelled in
    let lh = h.labelled in
    elim (m.forth b a f.edge x f.edge_in f.importer) [
      | inr inner ↦
          let better = inner_offer B A R m gb ga L st (even_from_ties B A R E L down up).held E stE.fitting down.held b a f.edge over.from f.candidate x
          f.edge_in f.importer inner over.labelled over.stepped in
          let same : better.route ≡ h.route = (let lb = better.labelled in cc) in
          absurd (irreflexive (key_of A better.route) (key_of A f.candidate) (ap (key_of A) same ∙ h.keyed ∙ sym f.same ∙ keys_agree B A R m f.candidate)
          better.better)
      | inl p ↦
          let r' = down.held f.edge.exporter p.other.exporter over.from p.exporter over.labelled in
          let t = matched_step B A R m gb ga f.edge p.other over.from r'.route f.candidate f.edge_in p.other_in p.exporter p.alike
          (stE.fitting.routes f.edge.exporter over.from over.labelled) (st.fitting.routes p.other.exporter r'.route r'.labelled) (sym r'.keyed) over.stepped
          in
          let k : key_of A t.0 ≡ key_of A h.route = sym t.2 ∙ f.same ∙ sym h.keyed in
          let passes : is_on (number A p.other.importer) (path_of t.0) ≡ false = elim (cases_Bool (is_lone A a)) [
            | inl l ↦ ap (λ w. is_on (number A w) (path_of t.0)) p.importer ∙ lone_check B A R m gb ga b a f.candidate t.0 x l t.2
                ∙ ap (λ w. is_on (number B w) (path_of f.candidate)) (sym f.importer) ∙ over.passes
            | inr l ↦ elim (cases_Bool (is_on (number A p.other.importer) (path_of t.0))) [
              | inr g ↦ g
              | inl g ↦
                  let better = loop_check A ga L st p.other r'.route t.0 p.other_in (subst (λ w. is_lone A w ≡ false) (sym p.importer) l) r'.labelled t.1 g in
                  let there : label L a ≡ Some better.route = subst (λ w. label L w ≡ Some better.route) p.importer better.labelled in
                  let same : better.route ≡ h.route = cc in
                  absurd (irreflexive (key_of A better.route) (key_of A t.0) (ap (key_of A) same ∙ sym k) better.better)
            ]
          ] in (
            p.other.exporter,
            record {
              route = h.route;
              labelled = h.labelled;
              edge = p.other;
              edge_in = p.other_in;
              importer = p.importer;
              exporter = refl;
              candidate = t.0;
              over = record { from = r'.route; labelled = r'.labelled; stepped = t.1; passes = passes };
              same = k;
            },
            subst (λ w. R w p.other.exporter) f.exporter p.exporter,
          )
    ]
