-- A router takes its best offer, and what it took is offered to others, edge by edge.
use Rattle.std.proofs.Common.{◌≡◌, ◌≢◌, ℕ, ◌<◌, Bool, true, false, cond, List, [], ◌∷◌, ◌++◌, length, set, Option, Some, None, refl, sym, ap, ◌∙◌, subst, inl, inr, arith, length-set, get_or-set_other}
use Rattle.std.specs.Prelude.{Contains, filter_map, is_some, nat_eq}
use Rattle.std.proofs.lemmas.Bool.{cases_eq, eqb-true, eq-eqb}
use Rattle.std.proofs.lemmas.List.Elements.{Contains-push, Contains-push_cases, Contains-append_left}
use Rattle.base_kit.specs.declared.act_graph.Edge.{Edge}
use Rattle.base_kit.proofs.Elements.{contains_in, in_contains, in_filter_map, filter_map_in}
use Rattle.refine_partition.specs.declared.imports.Import.{Import}
use Rattle.refine_partition.specs.Index.{import_from}
use Rattle.srp_core.specs.declared.route.Route.{Route}
use Rattle.srp_core.specs.Routes.{IsRouteOf}
use Rattle.srp_core.specs.Candidates.{over}
use Rattle.srp_core.specs.Problem.{Problem, count, IsProblem}
use Rattle.srp_core.specs.Stability.{label, IsCandidate, of_init, of_edge}
use Rattle.srp_core.proofs.CandidateLists.{over_candidate, candidate_over}
use Rattle.srp_core.proofs.Filling.{Extends, candidate_kept}
use Rattle.srp_core.proofs.Offers.{candidate_offer, offer_route}
use Rattle.solution_search.specs.declared.bests.Best.{Best}
use Rattle.solution_search.specs.declared.bests.Difference.{Difference}
use Rattle.solution_search.specs.declared.board.Board.{Board}
use Rattle.solution_search.specs.declared.board.Tie.{Tie}
use Rattle.solution_search.specs.declared.settling.Outcome.{Outcome}
use Rattle.solution_search.specs.declared.settling.Outcome.TheVariants.{Fine, Upset}
use Rattle.solution_search.specs.Bests.{IsBestOf, KnowsBest, HoldsBest}
use Rattle.solution_search.specs.Boards.{State, state_of, best_at, is_tied, noted_at_take, Adds, Takes, Knows, IsState, edge_of, IsMetBy, met_before, met_over, IsPart}
use Rattle.solution_search.specs.Cases.{IsBeaten}
use Rattle.solution_search.specs.Offers.{IsOfferOf}
use Rattle.solution_search.proofs.Compared.{knows_by, holds_by}
use Rattle.solution_search.proofs.Known.{MoreAt, tie_is_noted, added_knows, added_beaten, upset_labelled}
use Rattle.solution_search.proofs.Taking.{at_set, not_set, set_extends}

none_in : {X : Type 0} (x : X) → Contains [] x → ⊥
none_in x h = let l = h.1 in omega arith

-- the same routes are met
pub known_by : (P : Problem) (tied tied' : Bool) (A B : ℕ → Route → Type 0) (state : State) → ((u : ℕ) (c : Route) → A u c → B u c) →
    ((u : ℕ) (c : Route) → B u c → A u c) →
    (tied' ≡ false → tied ≡ false) → Knows P tied A state → Knows P tied' B state
known_by P tied tied' A B state there back kept k = record {
  fitting = k.fitting;
  waits = k.waits;
  bests = k.bests;
  unsettled = λ u h e. knows_by P (A u) (B u) (best_at state.bests u) (there u) (back u) (k.unsettled u h e);
  settled = λ u r e. holds_by P tied tied' (A u) (B u) r (there u) (back u) kept (k.settled u r e);
}

-- ---- an edge by what it is to its importer

pub import_is : (exporter : ℕ) (e : Edge) (i : Import) → import_from exporter e ≡ Some i → (e.exporter ≡ exporter) × (i.importer ≡ e.importer) × (i.act ≡ e.act)
import_is exporter e i is = by (nat_eq e.exporter exporter) refl is
  where
    by : (b : Bool) → nat_eq e.exporter exporter ≡ b → cond b (Some (record { importer = e.importer; act = e.act })) None ≡ Some i →
        (e.exporter ≡ exporter) × (i.importer ≡ e.importer) × (i.act ≡ e.act)
    by false t f = absurd (cc)
    by true t f =
        let same : record { importer = e.importer; act = e.act } ≡ i = cc in
        (eqb-true e.exporter exporter t, ap (λ (k : Import). k.importer) (sym same), ap (λ (k : Import). k.act) (sym same))

pub import_of_edge : (exporter : ℕ) (e : Edge) → e.exporter ≡ exporter → import_from exporter e ≡ Some (record { importer = e.importer; act = e.act })
import_of_edge exporter e same = ap (λ (b : Bool). cond b (Some (record { importer = e.importer; act = e.act })) None) (eq-eqb e.exporter exporter same)

-- what such an edge gives is a candidate
real_candidate : (P : Problem) (L : List (Option Route)) (exporter : ℕ) (i : Import) (e : Edge) → Contains P.edges e → import_from exporter e ≡ Some i →
    (c : Route) →
    over P L (edge_of exporter i) ≡ Some c → IsCandidate P L i.importer c
real_candidate P L exporter i e at is c gives =
    let parts = import_is exporter e i is in
    let same : over P L e ≡ Some c =
    ap (λ (n : ℕ). over P L (record { importer = n; exporter = e.exporter; act = e.act; link = 0 })) (sym parts.1)
    ∙ ap (λ (n : ℕ). over P L (record { importer = i.importer; exporter = n; act = e.act; link = 0 })) parts.0
    ∙ ap (λ (n : ℕ). over P L (record { importer = i.importer; exporter = exporter; act = n; link = 0 })) (sym parts.2) ∙ gives in
    of_edge e at (sym parts.1) (over_candidate P L e c same)

-- ---- taking

at_take_stays : (tie : Option Tie) (w : ℕ) (o : Option Difference) → is_some (noted_at_take tie w o) ≡ false → (is_some tie ≡ false) × (o ≡ None)
at_take_stays tie w None e = (e, refl)
at_take_stays tie w (Some by) e = let noted = tie_is_noted tie w by in absurd (cc)

pub taken_tied : (old new : Board) (u : ℕ) (best : Best) → Takes old new u best → is_tied new ≡ false → (is_tied old ≡ false) × (best.tied ≡ None)
taken_tied old new u best t e = at_take_stays old.tie u best.tied (ap (λ (x : Option Tie). is_some x) (sym t.tie) ∙ e)

module _ (P : Problem) (good : IsProblem P) where
  -- the state behind a take, before any edge is done
  pub taken_part : (old new : Board) (u : ℕ) (best : Best) → u < count P → best_at old.bests.items u ≡ Some best → label old.labels u ≡ None →
      IsState P (is_tied old) (state_of old) → Takes old new u best → IsPart P (is_tied new) old.labels u [] (state_of new)
  taken_part old new u best inside e empty state t = record {
    unsettled = empty;
    route = best.route;
    taken = t.labels;
    knows = record {
      fitting = record {
        total = ap (λ (l : List (Option Route)). length l) t.labels ∙ length-set old.labels u (Some best.route) ∙ state.knows.fitting.total;
        routes = λ v r f. elim (at_set old.labels u v best.route r within (labelled v (Some r) f)) [
          | inl new ↦ subst (IsRouteOf P.protocol) new.1
              (offer_route P good u best.route (candidate_offer P good old.labels u best.route state.knows.fitting q.held))
          | inr before ↦ state.knows.fitting.routes v r before
        ];
      };
      waits = ap (λ (l : List (Option ℕ)). length l) t.waits ∙ state.knows.waits;
      bests = ap (λ (l : List (Option Best)). length l) t.bests ∙ length-set old.bests.items u None ∙ state.knows.bests;
      unsettled = λ v h f. (let n = not_set old.labels u v best.route within (labelled v None f) in
          subst (KnowsBest P (Met v)) (sym (best_other v n.0))
          (knows_by P (IsCandidate P old.labels v) (Met v) (best_at old.bests.items v) (there v) (back v) (state.knows.unsettled v h n.1)));
      settled = λ v r f. elim (at_set old.labels u v best.route r within (labelled v (Some r) f)) [
        | inr before ↦
            holds_by P (is_tied old) (is_tied new) (IsCandidate P old.labels v) (Met v) r (there v) (back v)
            (λ x. (taken_tied old new u best t x).0) (state.knows.settled v r before)
        | inl here ↦
            subst (λ (w : ℕ). HoldsBest P (is_tied new) (Met w) r) (sym here.0)
            (subst (λ (x : Route). HoldsBest P (is_tied new) (Met u) x) here.1 own)
      ];
    };
  }
    where
      q : IsBestOf P (IsCandidate P old.labels u) best
      q = (state.knows.unsettled u inside empty).some best e

      within : u < length old.labels
      within = let l = state.knows.fitting.total in omega (arith, l, inside)

      Met : ℕ → Route → Type 0
      Met v c = IsMetBy P old.labels new.labels u [] v c

      labelled : (v : ℕ) (o : Option Route) → label new.labels v ≡ o → label (set old.labels u (Some best.route)) v ≡ o
      labelled v o f = ap (λ (l : List (Option Route)). label l v) (sym t.labels) ∙ f

      best_other : (v : ℕ) → v ≢ u → best_at new.bests.items v ≡ best_at old.bests.items v
      best_other v differ = ap (λ (l : List (Option Best)). best_at l v) t.bests ∙ get_or-set_other old.bests.items u v None None differ

      there : (v : ℕ) (c : Route) → IsCandidate P old.labels v c → Met v c
      there v c cand = met_before cand

      back : (v : ℕ) (c : Route) → Met v c → IsCandidate P old.labels v c
      back v c (met_before cand) = cand
      back v c (met_over i at imp gives) = absurd (none_in i at)

      own : HoldsBest P (is_tied new) (Met u) best.route
      own = record {
        held = met_before q.held;
        unbeaten = λ c m. q.unbeaten c (back u c m);
        same = λ untied c m. q.same (taken_tied old new u best t untied).1 c (back u c m);
      }

  -- ---- one edge more

  -- an edge that gives nothing
  pub part_nothing : (tied : Bool) (before : List (Option Route)) (exporter : ℕ) (done : List Import) (i : Import) (state : State) →
      over P state.labels (edge_of exporter i) ≡ None → IsPart P tied before exporter done state → IsPart P tied before exporter (done ++ i ∷ []) state
  part_nothing tied before exporter done i state none part = record {
    unsettled = part.unsettled;
    route = part.route;
    taken = part.taken;
    knows = known_by P tied tied (IsMetBy P before state.labels exporter done) (IsMetBy P before state.labels exporter (done ++ i ∷ [])) state there back
        (λ x. x) part.knows;
  }
    where
      there : (u : ℕ) (c : Route) → IsMetBy P before state.labels exporter done u c → IsMetBy P before state.labels exporter (done ++ i ∷ []) u c
      there u c (met_before cand) = met_before cand
      there u c (met_over j at imp gives) = met_over j (Contains-append_left done (i ∷ []) j at) imp gives

      back : (u : ℕ) (c : Route) → IsMetBy P before state.labels exporter (done ++ i ∷ []) u c → IsMetBy P before state.labels exporter done u c
      back u c (met_before cand) = met_before cand
      back u c (met_over j at imp gives) = elim (Contains-push_cases done i j at) [
        | inl old ↦ met_over j old imp gives
        | inr new ↦ (let nothing = ap (λ (k : Import). over P state.labels (edge_of exporter k)) new in absurd (cc))
      ]

  module _ (before : List (Option Route)) (exporter : ℕ) (done : List Import) (i : Import) (old new : Board) (offer : Best) (outcome : Outcome) (route : Route)
      (gives : over P old.labels (edge_of exporter i) ≡ Some route) (is_offer : IsOfferOf P route offer) (inside : i.importer < count P)
      (adds : Adds P old new i.importer offer outcome) (part : IsPart P (is_tied old) before exporter done (state_of old)) where
    offered : over P new.labels (edge_of exporter i) ≡ Some offer.route
    offered = ap (λ (l : List (Option Route)). over P l (edge_of exporter i)) adds.labels ∙ gives ∙ ap Some (sym is_offer.same)

    -- an edge that gives an offer
    pub part_offer : outcome ≡ Fine → IsPart P (is_tied new) before exporter (done ++ i ∷ []) (state_of new)
    part_offer fine = record {
      unsettled = part.unsettled;
      route = part.route;
      taken = adds.labels ∙ part.taken;
      knows = known_by P (is_tied new) (is_tied new) (MoreAt (IsMetBy P before old.labels exporter done) i.importer offer.route)
          (IsMetBy P before new.labels exporter (done ++ i ∷ [])) (state_of new) there back (λ x. x)
          (added_knows P (IsMetBy P before old.labels exporter done) old new i.importer offer outcome part.knows inside is_offer.fresh adds fine);
    }
      where
        there : (u : ℕ) (c : Route) → MoreAt (IsMetBy P before old.labels exporter done) i.importer offer.route u c →
            IsMetBy P before new.labels exporter (done ++ i ∷ []) u c
        there u c (inl (met_before cand)) = met_before cand
        there u c (inl (met_over j at imp is)) = met_over j (Contains-append_left done (i ∷ []) j at) imp
            (ap (λ (l : List (Option Route)). over P l (edge_of exporter j)) adds.labels ∙ is)
        there u c (inr here) = met_over i (Contains-push done i) (sym here.0) (offered ∙ ap Some (sym here.1))

        back : (u : ℕ) (c : Route) → IsMetBy P before new.labels exporter (done ++ i ∷ []) u c →
            MoreAt (IsMetBy P before old.labels exporter done) i.importer offer.route u c
        back u c (met_before cand) = inl (met_before cand)
        back u c (met_over j at imp is) = elim (Contains-push_cases done i j at) [
          | inl earlier ↦ inl (met_over j earlier imp (ap (λ (l : List (Option Route)). over P l (edge_of exporter j)) (sym adds.labels) ∙ is))
          | inr last ↦
              let same : Some offer.route ≡ Some c = sym offered ∙ ap (λ (k : Import). over P new.labels (edge_of exporter k)) last ∙ is in
              let c_is : c ≡ offer.route = cc in inr (sym imp ∙ ap (λ (k : Import). k.importer) (sym last), c_is)
        ]

    -- an edge whose offer beats a label
    pub part_upset : (e : Edge) → Contains P.edges e → import_from exporter e ≡ Some i → outcome ≡ Upset → IsBeaten P (is_tied new) new.labels
    part_upset e at is upset =
        let some = upset_labelled P (IsMetBy P before old.labels exporter done) old new i.importer offer outcome part.knows inside is_offer.fresh adds upset in
        added_beaten P (IsMetBy P before old.labels exporter done) old new i.importer offer outcome part.knows inside is_offer.fresh adds upset some.0 some.1
        (real_candidate P new.labels exporter i e at is offer.route offered)

  -- ---- all edges done

  pub part_done : (tied : Bool) (before : List (Option Route)) (exporter : ℕ) (done : List Import) (state : State) → exporter < count P →
      done ≡ filter_map (import_from exporter) P.edges → IsPart P tied before exporter done state → IsState P tied state
  part_done tied before exporter done state inside all part = record {
    knows = known_by P tied tied (IsMetBy P before state.labels exporter done) (IsCandidate P state.labels) state there back (λ x. x) part.knows;
  }
    where
      within : exporter < length before
      within =
          let t = ap (λ (l : List (Option Route)). length l) part.taken ∙ length-set before exporter (Some part.route) in
          let n = part.knows.fitting.total in
          omega (arith, t, n, inside)

      extends : Extends before state.labels
      extends = subst (Extends before) (sym part.taken) (set_extends before exporter part.route part.unsettled)

      there : (u : ℕ) (c : Route) → IsMetBy P before state.labels exporter done u c → IsCandidate P state.labels u c
      there u c (met_before cand) = candidate_kept P before state.labels u c extends cand
      there u c (met_over i at imp gives) =
          let real = filter_map_in (import_from exporter) P.edges i (in_contains (filter_map (import_from exporter) P.edges) i
          (subst (λ (l : List Import). Contains l i) all at)) in
          subst (λ (v : ℕ). IsCandidate P state.labels v c) imp
          (real_candidate P state.labels exporter i real.0 (contains_in P.edges real.0 real.1) real.2 c gives)

      back : (u : ℕ) (c : Route) → IsCandidate P state.labels u c → IsMetBy P before state.labels exporter done u c
      back u c (of_init e) = met_before (of_init e)
      back u c (of_edge e at imp gives) = elim (cases_eq e.exporter exporter) [
        | inl same ↦
            let i : Import = record { importer = e.importer; act = e.act } in
            let listed = in_filter_map (import_from exporter) P.edges e i (in_contains P.edges e at) (import_of_edge exporter e same) in
            met_over i (subst (λ (l : List Import). Contains l i) (sym all) (contains_in (filter_map (import_from exporter) P.edges) i listed)) imp
            (ap (λ (n : ℕ). over P state.labels (record { importer = e.importer; exporter = n; act = e.act; link = 0 })) (sym same)
            ∙ candidate_over P state.labels e c gives)
        | inr differ ↦
            met_before (of_edge e at imp (record {
              from = gives.from;
              labelled = sym (get_or-set_other before exporter e.exporter (Some part.route) None differ)
                  ∙ ap (λ (l : List (Option Route)). label l e.exporter) (sym part.taken) ∙ gives.labelled;
              stepped = gives.stepped;
              passes = gives.passes;
            }))
      ]
