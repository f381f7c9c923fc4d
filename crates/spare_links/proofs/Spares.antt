-- Links that are spare by the links over which routers forward and routes tie.
use Rattle.std.proofs.Common.{◌≡◌, ◌≢◌, ℕ, zero, suc, ◌<◌, Bool, true, false, cond, not, ◌&&◌, ◌||◌, List, [], ◌∷◌, length, nat_eq, Option, Some, None, refl, sym, ◌∙◌, ap, subst, inl, inr, arith}
use Rattle.std.specs.Prelude.{Contains, IfSome, bytes_eq, slice_index_or}
use Rattle.std.specs.List.{list_any}
use Rattle.std.proofs.lemmas.Bool.{cases_eq, and_parts, eqb-true, eq-eqb, ne_eqb}
use Rattle.std.proofs.lemmas.Slice.Eq.{bytes_eq-Decides}
use Rattle.base_kit.specs.declared.act_graph.Edge.{Edge}
use Rattle.base_kit.specs.declared.protocol.Protocol.TheVariants.{Ospf as OverOspf}
use Rattle.route_run.specs.Rounds.{HasNoLone}
use Rattle.srp_core.specs.declared.route.Route.{Route}
use Rattle.srp_core.specs.declared.route.Route.TheVariants.{Bgp, Ospf}
use Rattle.srp_core.specs.Candidates.{over}
use Rattle.srp_core.specs.Problem.{Problem, count, initial, key_of, IsProblem}
use Rattle.srp_core.specs.Routes.{preference_of, size_of, path_of, comms_of, chosen, IsRouteOf}
use Rattle.srp_core.specs.Stability.{label, IsCandidateOver, IsCandidate, of_init, of_edge, IsStable}
use Rattle.srp_core.specs.Without.{is_left}
use Rattle.srp_core.proofs.CandidateLists.{over_candidate, candidate_over}
use Rattle.srp_core.proofs.KeyParts.{same_others}
use Rattle.asking_laws.specs.Spare.{ForwardsOver, HasElsewhere, by_edge, LosesSpareLinks, HasNoTie}
use Rattle.asking_laws.proofs.Chosen.{label_inside}
use Rattle.asking_laws.proofs.PlainKeys.{plain, keyed_plain, weak_parts}
use Rattle.spare_links.specs.declared.standing.Standing.TheVariants.{Apart, Same, Tied}
use Rattle.spare_links.specs.declared.ways.Ways.{Ways}
use Rattle.spare_links.specs.declared.ways.Ways.TheVariants.{Nowhere, OneLink, MoreLinks}
use Rattle.spare_links.specs.Spare.{link_down, TiesBeside, AreSpare}
use Rattle.spare_links.specs.Standing.{standing_of, standing_to, standing_over}
use Rattle.spare_links.proofs.Left.{cases_protocol}
use Rattle.spare_links.specs.Ways.{GoesOver, TiesOver, TiesAt, AreAllLinks, AreWays, AreTies}

-- ---- how two routes stand

-- two routes agree in what decides where no router is lone
record Agree (c r : Route) : Type 0 where
  preference : preference_of c ≡ preference_of r
  size : size_of c ≡ size_of r
  comms : comms_of c ≡ comms_of r

agree_same : (c r : Route) → Agree c r → standing_of c r ≡ Same
agree_same c r a =
    rw (
      eq-eqb (preference_of c) (preference_of r) a.preference,
      eq-eqb (size_of c) (size_of r) a.size,
      (bytes_eq-Decides (comms_of c) (comms_of r)).1 a.comms,
    ) refl

same_agree : (c r : Route) → standing_of c r ≡ Same → Agree c r
same_agree c r e = level (nat_eq (preference_of c) (preference_of r) && nat_eq (size_of c) (size_of r)) refl e
  where
    equal : (b : Bool) → bytes_eq (comms_of c) (comms_of r) ≡ b → cond b Same Tied ≡ Same → comms_of c ≡ comms_of r
    equal true is e = (bytes_eq-Decides (comms_of c) (comms_of r)).0 is
    equal false is e = absurd cc

    level : (b : Bool) → (nat_eq (preference_of c) (preference_of r) && nat_eq (size_of c) (size_of r)) ≡ b →
        cond b (cond (bytes_eq (comms_of c) (comms_of r)) Same Tied) Apart ≡ Same → Agree c r
    level true is e = let parts = and_parts _ _ is in record {
      preference = eqb-true (preference_of c) (preference_of r) parts.0;
      size = eqb-true (size_of c) (size_of r) parts.1;
      comms = equal (bytes_eq (comms_of c) (comms_of r)) refl e;
    }
    level false is e = absurd cc

-- routes of one preference and size that do not tie have the same communities
not_tied : (c r : Route) → preference_of c ≡ preference_of r → size_of c ≡ size_of r → standing_of c r ≢ Tied → comms_of c ≡ comms_of r
not_tied c r preference size untied = by (bytes_eq (comms_of c) (comms_of r)) refl
  where
    by : (b : Bool) → bytes_eq (comms_of c) (comms_of r) ≡ b → comms_of c ≡ comms_of r
    by true is = (bytes_eq-Decides (comms_of c) (comms_of r)).0 is
    by false is =
        absurd (untied (rw (eq-eqb (preference_of c) (preference_of r) preference, eq-eqb (size_of c) (size_of r) size, is) refl))

-- ---- where no router is lone

unmarked : (marks : List Bool) → list_any (λ mark. mark) marks ≡ false → (u : ℕ) → slice_index_or marks u false ≡ false
unmarked [] none u = refl
unmarked (true ∷ marks) none u = absurd cc
unmarked (false ∷ marks) none zero = refl
unmarked (false ∷ marks) none (suc u) = unmarked marks none u

pub none_lone : (P : Problem) → list_any (λ mark. mark) P.lone ≡ false → HasNoLone P
none_lone P none u inside = unmarked P.lone none u

none_chosen : (path : List ℕ) → chosen (λ n. false) path ≡ []
unfolding chosen
none_chosen [] = refl
none_chosen (x ∷ path) = none_chosen path

plain_same : (c r : Route) → Agree c r → plain c ≡ plain r
plain_same c r a = λ i. record {
  preference = a.preference i;
  size = a.size i;
  comms = a.comms i;
  lone = (none_chosen (path_of c) ∙ sym (none_chosen (path_of r))) i;
}

ospf_bare : (r : Route) → IsRouteOf OverOspf r → comms_of r ≡ []
ospf_bare (Bgp lp path comms) is = absurd is
ospf_bare (Ospf cost) is = refl

module _ (P : Problem) (good : IsProblem P) (none : HasNoLone P) (L : List (Option Route)) (st : IsStable P L) (ways : List Ways)
    (are : AreWays P L P.edges ways) where
  keyed : (c r : Route) → Agree c r → key_of P c ≡ key_of P r
  keyed c r a = keyed_plain P none c ∙ plain_same c r a ∙ sym (keyed_plain P none r)

  -- ---- no tie

  module _ (untied : (edge : Edge) → Contains P.edges edge → standing_over P L edge ≢ Tied) where
    -- a label beside an initial route has no communities
    label_bare : (u : ℕ) (r c : Route) → label L u ≡ Some r → initial P u ≡ Some c → IsCandidate P L u r → comms_of r ≡ []
    label_bare u r c lab e (of_init e') = good.starts.bare u r e'
    label_bare u r c lab e (of_edge edge i imp over) = elim (cases_protocol P.protocol) [
      | inl bgp ↦ absurd (let silent = subst (λ (v : ℕ). initial P v ≡ None) imp (good.starts.unoriginated bgp edge i) in cc)
      | inr ospf ↦ ospf_bare r (subst (λ p. IsRouteOf p r) ospf (st.fitting.routes u r lab))
    ]

    same_comms : (u : ℕ) (r c : Route) → label L u ≡ Some r → IsCandidate P L u c → preference_of c ≡ preference_of r → size_of c ≡ size_of r →
        comms_of c ≡ comms_of r
    same_comms u r c lab (of_init e) preference size =
        good.starts.bare u c e ∙ sym (label_bare u r c lab e (st.held u r (label_inside P good none L st u r lab) lab))
    same_comms u r c lab (of_edge edge i imp cand) preference size =
        let there : label L edge.importer ≡ Some r = subst (λ v. label L v ≡ Some r) (sym imp) lab in
        let stands : standing_over P L edge ≡ standing_of c r =
        ap (λ o. standing_to o (label L edge.importer)) (candidate_over P L edge c cand) ∙ ap (standing_to (Some c)) there in
        not_tied c r preference size (subst (λ s. s ≢ Tied) stands (untied edge i))

    no_tie : HasNoTie P L
    no_tie = record {
      same = λ u r c lab cand weak.
          let parts = weak_parts (key_of P c) (key_of P r) weak in
          keyed c r (record { preference = parts.0; size = parts.1; comms = same_comms u r c lab cand parts.0 parts.1 });
    }

  -- ---- elsewhere

  module _ (link : ℕ) (only : (u : ℕ) → u < length ways → slice_index_or ways u Nowhere ≢ OneLink link) where
    of_link : (edge : Edge) → is_left (link_down link) edge ≡ false → edge.link ≡ link
    of_link edge lost = by (nat_eq edge.link link) refl lost
      where
        by : (b : Bool) → nat_eq edge.link link ≡ b → (not (b || false) && (not false && not false)) ≡ false → edge.link ≡ link
        by true is e = eqb-true edge.link link is
        by false is e = absurd cc

    other_left : (edge : Edge) → edge.link ≢ link → is_left (link_down link) edge ≡ true
    other_left edge other = ap (λ b. not (b || false) && (not false && not false)) (ne_eqb edge.link link other)

    goes_over : (edge : Edge) → Contains P.edges edge → ForwardsOver P L edge → GoesOver P L P.edges edge.importer edge.link
    goes_over edge i f =
        let parts = same_others P P f.candidate f.route f.same in
        record {
          edge = edge;
          edge_in = i;
          importer = refl;
          of_link = refl;
          same =
              ap (λ o. standing_to o (label L edge.importer)) (candidate_over P L edge f.candidate f.over) ∙ ap (standing_to (Some f.candidate)) f.labelled
              ∙ agree_same f.candidate f.route (record { preference = parts.0; size = parts.1; comms = parts.2 });
        }

    -- what stands as the label of route r does
    over_same : (edge : Edge) (o : Option Route) (r : Route) → over P L edge ≡ o → label L edge.importer ≡ Some r → standing_to o (Some r) ≡ Same →
        (c : Route) × IsCandidateOver P L edge c × Agree c r
    over_same edge None r is lab e = absurd cc
    over_same edge (Some c) r is lab e = (c, over_candidate P L edge c is, same_agree c r e)

    by_other : (u other : ℕ) (r : Route) → label L u ≡ Some r → GoesOver P L P.edges u other → other ≢ link → HasElsewhere P (link_down link) L u r
    by_other u other r lab g differ =
        let there : label L g.edge.importer ≡ Some r = subst (λ v. label L v ≡ Some r) (sym g.importer) lab in
        let found = over_same g.edge (over P L g.edge) r refl there (sym (ap (standing_to (over P L g.edge)) there) ∙ g.same) in
        by_edge g.edge found.0 g.edge_in (other_left g.edge (λ e. differ (sym g.of_link ∙ e))) g.importer found.1 (keyed found.0 r found.2)

    elsewhere : (u : ℕ) (r : Route) (w : Ways) → u < length ways → label L u ≡ Some r → GoesOver P L P.edges u link → slice_index_or ways u Nowhere ≡ w →
        AreAllLinks (GoesOver P L P.edges u) w → HasElsewhere P (link_down link) L u r
    elsewhere u r Nowhere lt lab g is all = absurd (all link g)
    elsewhere u r (OneLink one) lt lab g is all = absurd (only u lt (is ∙ ap OneLink (sym (all.only link g))))
    elsewhere u r MoreLinks lt lab g is all = elim (cases_eq all.first link) [
      | inl same ↦ by_other u all.second r lab all.second_goes (λ e. all.differ (same ∙ sym e))
      | inr differ ↦ by_other u all.first r lab all.first_goes differ
    ]

    loses : LosesSpareLinks P (link_down link) L
    loses = record {
      rules = good;
      none_lone = none;
      links = λ u. refl;
      stable = st;
      spare = λ edge f i lost.
          let inside = (good.edges.inside edge i).importer_in in
          let total = are.total in
          elsewhere edge.importer f.route (slice_index_or ways edge.importer Nowhere) (omega arith) f.labelled
          (subst (GoesOver P L P.edges edge.importer) (of_link edge lost) (goes_over edge i f)) refl (are.each edge.importer inside);
    }

  -- ---- ties beside a link

  module _ (ties : Ways) (tied : Option ℕ) (tying : AreTies P L P.edges ties tied) where
    beside : (link other : ℕ) → TiesOver P L P.edges other → other ≢ link → TiesBeside P L link
    beside link other t differ = record { edge = t.edge; edge_in = t.edge_in; other = λ e. differ (sym t.of_link ∙ e); tied = t.tied }

    tied_beside : (link u : ℕ) (w : Ways) → AreAllLinks (TiesOver P L P.edges) w → w ≢ OneLink link → TiesAt P L P.edges u → TiesBeside P L link
    tied_beside link u Nowhere all other at = absurd (all at.edge.link (record { edge = at.edge; edge_in = at.edge_in; of_link = refl; tied = at.tied }))
    tied_beside link u (OneLink one) all other at = beside link one all.it_goes (λ e. other (ap OneLink e))
    tied_beside link u MoreLinks all other at = elim (cases_eq all.first link) [
      | inl same ↦ beside link all.second all.second_goes (λ e. all.differ (same ∙ sym e))
      | inr differ ↦ beside link all.first all.first_goes differ
    ]

    where_tied : (t : Option ℕ) → IfSome t (TiesAt P L P.edges) → IfSome t (λ u. u < count P)
    where_tied None at = tt
    where_tied (Some u) at = subst (λ v. v < count P) at.importer (good.edges.inside at.edge at.edge_in).importer_in

    some_beside : (t : Option ℕ) → IfSome t (TiesAt P L P.edges) → t ≢ None → (link : ℕ) → ties ≢ OneLink link → TiesBeside P L link
    some_beside None at some link other = absurd (some refl)
    some_beside (Some u) at some link other = tied_beside link u ties tying.links other at

    pub are_spare : (marks : List Bool) → ((link : ℕ) → slice_index_or marks link false ≡ true → (u : ℕ) → u < length ways →
        slice_index_or ways u Nowhere ≢ OneLink link) →
        ((link : ℕ) → slice_index_or marks link false ≡ true → ties ≢ OneLink link) → AreSpare P L marks tied
    are_spare marks only apart = record {
      spare = λ link marked. loses link (only link marked);
      untied = λ none_tied. no_tie (tying.none none_tied);
      router = where_tied tied tying.some;
      beside = λ some link marked. some_beside tied tying.some some link (apart link marked);
    }
