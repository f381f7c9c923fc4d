-- Where there is no tie there is none without links that are spare.
use Rattle.std.proofs.Common.{◌≡◌, ℕ, List, Option, Some, sym, ◌∙◌, subst, arith}
use Rattle.route_run.specs.Rounds.{HasNoLone}
use Rattle.srp_core.specs.declared.route.Route.{Route}
use Rattle.srp_core.specs.Problem.{Problem, key_of, IsProblem}
use Rattle.srp_core.specs.Routes.{preference_of, size_of}
use Rattle.srp_core.specs.Stability.{label, IsCandidateOver, IsCandidate, of_init, of_edge, IsStable}
use Rattle.srp_core.proofs.Offers.{stable_supported}
use Rattle.asking_laws.specs.Spare.{HasNoTie}
use Rattle.asking_laws.proofs.PlainKeys.{plain, keyed_plain, weak_parts}
use Rattle.asking_laws.proofs.Chosen.{passes_check}
use Rattle.asking_laws.proofs.Both.{IsPartOf, HaveKeysOf, carried, sizes, preferences, same_step}
use Rattle.asking_laws.proofs.NoTies.{untied}

module _ (P Q : Problem) (gp : IsProblem P) (gq : IsProblem Q) (np : HasNoLone P) (nq : HasNoLone Q) (part : IsPartOf P Q) (L M : List (Option Route))
    (sp : IsStable P L) (sq : IsStable Q M) (come : HaveKeysOf M L) (tie : HasNoTie P L) where
  plain_same : (u : ℕ) (r c : Route) → label M u ≡ Some r → IsCandidate Q M u c → preference_of c ≡ preference_of r → size_of c ≡ size_of r → plain c ≡ plain r
  plain_same u r c lab (of_init e) preference size =
      let own = come.there u r lab in
      untied P gp np L sp tie u own.route c own.labelled (of_init (sym (part.init u) ∙ e)) (preference ∙ sym (preferences own.route r own.keyed))
      (size ∙ sym (sizes own.route r own.keyed)) ∙ own.keyed
  plain_same u r c lab (of_edge e i imp over) preference size =
      let own = come.there u r lab in
      let before = part.edges e i in
      let t = carried Q P (sym part.protocol) e (λ s. sym (same_step P Q gp gq np nq part e s)) M L sq.fitting sp.fitting come over.from c over.labelled
      over.stepped in
      let held : label L e.importer ≡ Some own.route = subst (λ v. label L v ≡ Some own.route) (sym imp) own.labelled in
      let long : size_of t.route ≡ size_of own.route = sizes t.route c t.keyed ∙ size ∙ sym (sizes own.route r own.keyed) in
      let there : IsCandidateOver P L e t.route = record {
        from = t.from;
        labelled = t.labelled;
        stepped = t.stepped;
        passes = passes_check P gp np L (stable_supported P gp L sp) e t.from t.route own.route before t.labelled t.stepped held (omega arith);
      } in
      sym t.keyed
      ∙ untied P gp np L sp tie u own.route t.route own.labelled (of_edge e before imp there)
      (preferences t.route c t.keyed ∙ preference ∙ sym (preferences own.route r own.keyed)) long
      ∙ own.keyed

  pub no_tie_left : HasNoTie Q M
  no_tie_left = record {
    same = λ u r c lab candidate weak.
        let parts = weak_parts (key_of Q c) (key_of Q r) weak in
        keyed_plain Q nq c ∙ plain_same u r c lab candidate parts.0 parts.1 ∙ sym (keyed_plain Q nq r);
  }
