-- What a settled router gives the others, edge by edge, and what the board knows then.
use Rattle.std.proofs.Common.{◌≡◌, ℕ, ◌<◌, false, List, [], ◌∷◌, ◌++◌, length, Option, Some, None, refl, sym, ap, ◌∙◌, subst, arith}
use Rattle.std.specs.Prelude.{Contains, filter_map, slice_index_or}
use Rattle.std.specs.Ordering.{nat_cmp}
use Rattle.std.specs.Cmp.Lexicographic.{slice_cmp}
use Rattle.std.specs.declared.cmp.Ordering.{Ordering}
use Rattle.base_kit.specs.declared.act_graph.Edge.{Edge}
use Rattle.base_kit.proofs.Elements.{contains_in, in_contains, filter_map_in}
use Rattle.refine_partition.specs.declared.imports.Import.{Import}
use Rattle.refine_partition.specs.Index.{import_from}
use Rattle.srp_core.specs.declared.route.Route.{Route}
use Rattle.srp_core.specs.declared.route.Act.TheVariants.{Cost}
use Rattle.srp_core.specs.Candidates.{over}
use Rattle.srp_core.specs.Problem.{Problem, count, number, is_lone_number, step_over, IsProblem}
use Rattle.srp_core.specs.Routes.{path_of, comms_of, chosen}
use Rattle.srp_core.specs.Stability.{label}
use Rattle.srp_core.proofs.CandidateLists.{over_candidate}
use Rattle.solution_search.specs.declared.bests.Best.{Best}
use Rattle.solution_search.specs.declared.bests.Rank.TheVariants as Rank
use Rattle.solution_search.specs.declared.board.Board.{Board}
use Rattle.solution_search.specs.declared.settling.Outcome.{Outcome}
use Rattle.solution_search.specs.declared.settling.Outcome.TheVariants.{Fine, Upset}
use Rattle.solution_search.specs.Bests.{fresh_of, rank_by, rank_of}
use Rattle.solution_search.specs.Boards.{state_of, best_at, is_tied, IsTieWithin, Fits, GoesOn, better_than, rank_at, Adds, Takes, edge_of, IsPart}
use Rattle.solution_search.specs.Offers.{IsOfferOf, OffersRoute}
use Rattle.solution_search.specs.Settled.{PartComesTo, HasGiven, HasSpread, HasSettled}
use Rattle.solution_search.specs.Weighing.{AreWorse}
use Rattle.solution_search.proofs.Adding.{adds_worse, beaten_by_label}
use Rattle.solution_search.proofs.Known.{added_tied}
use Rattle.solution_search.proofs.Pending.{goes_same, goes_trans, put_goes, put_fits, rank_within, taken_goes}
use Rattle.solution_search.proofs.Spreading.{import_is, part_nothing, part_offer, part_upset, part_done, taken_part, taken_tied}

-- the board after some of the edges
pub record Spread (P : Problem) (initial board : Board) (router : ℕ) (done : List Import) : Type 0 where
  pub goes : GoesOn initial board
  pub fits : Fits (count P) board
  pub labels : board.labels ≡ initial.labels
  pub waits : board.waits.items ≡ initial.waits.items
  pub tied : is_tied board ≡ false → is_tied initial ≡ false
  pub part : (before : List (Option Route)) → IsPart P (is_tied initial) before router [] (state_of initial) →
      IsPart P (is_tied board) before router done (state_of board)

-- a route that is offered, or none
pub offers_none : (P : Problem) (o : Option Route) (offer : Option Best) → OffersRoute P o offer → offer ≡ None → o ≡ None
offers_none P None offer h e = refl
offers_none P (Some route) None h e = absurd h
offers_none P (Some route) (Some offer) h e = absurd (cc)

pub offers_some : (P : Problem) (o : Option Route) (offer : Option Best) (best : Best) → OffersRoute P o offer → offer ≡ Some best →
    (route : Route) × (o ≡ Some route) × IsOfferOf P route best
offers_some P None None best h e = absurd (cc)
offers_some P None (Some offer) best h e = absurd h
offers_some P (Some route) None best h e = absurd h
offers_some P (Some route) (Some offer) best h e = (route, refl, (let same : offer ≡ best = cc in subst (IsOfferOf P route) same h))

module _ (P : Problem) (good : IsProblem P) where
  -- the ends and the act of an edge that is listed
  pub import_inside : (exporter : ℕ) (i : Import) (e : Edge) → Contains P.edges e → import_from exporter e ≡ Some i →
      (i.importer < count P) × (i.act < length P.acts)
  import_inside exporter i e at is =
      let parts = import_is exporter e i is in
      let rules = good.edges.inside e at in (
        subst (λ (n : ℕ). n < count P) (sym parts.1) rules.importer_in,
        subst (λ (n : ℕ). n < length P.acts) (sym parts.2) rules.act_in,
      )

  pub listed_edge : (exporter : ℕ) (imports : List Import) (i : Import) → imports ≡ filter_map (import_from exporter) P.edges → Contains imports i →
      (e : Edge) × Contains P.edges e × (import_from exporter e ≡ Some i)
  listed_edge exporter imports i all at =
      let real = filter_map_in (import_from exporter) P.edges i (in_contains (filter_map (import_from exporter) P.edges) i
      (subst (λ (l : List Import). Contains l i) all at)) in
      (real.0, contains_in P.edges real.0 real.1, real.2)

  -- the edge gives nothing, and the board is as it was
  pub given_nothing : (board : Board) (router : ℕ) (i : Import) → Fits (count P) board → over P board.labels (edge_of router i) ≡ None →
      HasGiven P board board router i Fine
  given_nothing board router i fits none = record {
    goes = goes_same board board refl refl;
    fits = fits;
    labels = refl;
    waits = refl;
    tied = λ e. e;
    comes = λ before done edge at is part. part_nothing P good (is_tied board) before router done i (state_of board) none part;
  }

  pub given_offer : (old new : Board) (router : ℕ) (i : Import) (offer : Best) (outcome : Outcome) (route : Route) → Fits (count P) old → i.importer < count P →
      over P old.labels (edge_of router i) ≡ Some route → IsOfferOf P route offer → Adds P old new i.importer offer outcome →
      HasGiven P old new router i outcome
  given_offer old new router i offer outcome route fits inside gives is_offer adds = record {
    goes = put_goes old new i.importer put within adds.labels adds.waits adds.put;
    fits = put_fits (count P) old new i.importer put fits inside adds.labels adds.waits adds.put
        (subst (IsTieWithin (count P)) (sym adds.tie)
        (rank_within (count P) old.tie i.importer (rank_at P (label old.labels i.importer) offer) fits.tie inside));
    labels = adds.labels;
    waits = adds.waits;
    tied = added_tied P old new i.importer offer outcome adds;
    comes = λ before done edge at is part. by outcome refl before done edge at is part;
  }
    where
      put : Option Best
      put = better_than (label old.labels i.importer) (best_at old.bests.items i.importer) offer

      within : i.importer < length old.bests.items
      within = let b = fits.bests in omega (arith, b, inside)

      by : (o : Outcome) → outcome ≡ o → (before : List (Option Route)) (done : List Import) (edge : Edge) → Contains P.edges edge →
          import_from router edge ≡ Some i →
          IsPart P (is_tied old) before router done (state_of old) → PartComesTo P (is_tied new) before router (done ++ i ∷ []) (state_of new) o
      by Fine e before done edge at is part =
          part_offer P good before router done i old new offer outcome route gives is_offer inside adds part e
      by Upset e before done edge at is part =
          part_upset P good before router done i old new offer outcome route gives is_offer inside adds part edge at is e

  -- each route that the edge may give is worse than some other one, and such an offer changes nothing
  given_worse : (board : Board) (router : ℕ) (i : Import) (from : Route) (best : Best) → Fits (count P) board → i.importer < count P →
      label board.labels router ≡ Some from → AreWorse (slice_index_or P.acts i.act (Cost 0)) from best.route →
      ((offer : Best) → rank_of offer best ≡ Rank.Worse → Adds P board board i.importer offer Fine) → HasGiven P board board router i Fine
  given_worse board router i from best fits inside labelled worse adds = by (over P board.labels (edge_of router i)) refl
    where
      by : (o : Option Route) → over P board.labels (edge_of router i) ≡ o → HasGiven P board board router i Fine
      by None e = given_nothing board router i fits e
      by (Some route) e =
          let offer : Best = record { route = route; lone = chosen (is_lone_number P) (path_of route); tied = None } in
          let gives = over_candidate P board.labels (edge_of router i) route e in
          let same : gives.from ≡ from = (let a = gives.labelled in cc) in
          let stepped = subst (λ (r : Route). step_over P (edge_of router i) r ≡ Some route) same gives.stepped in
          let weak = worse.worse (number P router) route offer.lone best.lone stepped in
          let rank : rank_of offer best ≡ Rank.Worse =
          ap (λ (o : Ordering). rank_by o (slice_cmp nat_cmp (comms_of route) (comms_of best.route)) (slice_cmp nat_cmp offer.lone best.lone)) weak in
          given_offer board board router i offer Fine route fits inside e (record { same = refl; fresh = record { lone = refl; untied = refl } })
          (adds offer rank)

  -- it is worse than the best offer of the importer
  pub beaten_by_best : (board : Board) (router : ℕ) (i : Import) (from : Route) (best : Best) → Fits (count P) board → i.importer < count P →
      label board.labels router ≡ Some from → label board.labels i.importer ≡ None → best_at board.bests.items i.importer ≡ Some best →
      AreWorse (slice_index_or P.acts i.act (Cost 0)) from best.route → HasGiven P board board router i Fine
  beaten_by_best board router i from best fits inside labelled unsettled known worse = given_worse board router i from best fits inside labelled worse
      (λ offer. adds_worse P board i.importer offer unsettled best known)

  -- it is worse than the label of the importer
  pub beaten_by_own : (board : Board) (router : ℕ) (i : Import) (from own : Route) → Fits (count P) board → i.importer < count P →
      label board.labels router ≡ Some from → label board.labels i.importer ≡ Some own → AreWorse (slice_index_or P.acts i.act (Cost 0)) from own →
      HasGiven P board board router i Fine
  beaten_by_own board router i from own fits inside labelled settled worse = given_worse board router i from (fresh_of P own) fits inside labelled worse
      (λ offer. beaten_by_label P board i.importer offer own settled)

  pub spread_none : (board : Board) (router : ℕ) → Fits (count P) board → Spread P board board router []
  spread_none board router fits = record {
    goes = goes_same board board refl refl;
    fits = fits;
    labels = refl;
    waits = refl;
    tied = λ e. e;
    part = λ before part. part;
  }

  pub spread_more : (initial old new : Board) (router : ℕ) (done : List Import) (i : Import) (e : Edge) → Contains P.edges e → import_from router e ≡ Some i →
      Spread P initial old router done → HasGiven P old new router i Fine → Spread P initial new router (done ++ i ∷ [])
  spread_more initial old new router done i e at is s g = record {
    goes = goes_trans initial old new s.goes g.goes;
    fits = g.fits;
    labels = g.labels ∙ s.labels;
    waits = g.waits ∙ s.waits;
    tied = λ x. s.tied (g.tied x);
    part = λ before part. g.comes before done e at is (s.part before part);
  }

  pub spread_upset : (initial old new : Board) (router : ℕ) (done : List Import) (i : Import) (e : Edge) → Contains P.edges e → import_from router e ≡ Some i →
      Spread P initial old router done → HasGiven P old new router i Upset → HasSpread P initial new router Upset
  spread_upset initial old new router done i e at is s g = record {
    goes = goes_trans initial old new s.goes g.goes;
    fits = g.fits;
    labels = g.labels ∙ s.labels;
    waits = g.waits ∙ s.waits;
    tied = λ x. s.tied (g.tied x);
    comes = λ before part. g.comes before done e at is (s.part before part);
  }

  pub spread_all : (initial new : Board) (router : ℕ) (done : List Import) → router < count P → done ≡ filter_map (import_from router) P.edges →
      Spread P initial new router done → HasSpread P initial new router Fine
  spread_all initial new router done inside all s = record {
    goes = s.goes;
    fits = s.fits;
    labels = s.labels;
    waits = s.waits;
    tied = s.tied;
    comes = λ before part. part_done P good (is_tied new) before router done (state_of new) inside all (s.part before part);
  }

  -- the router takes its best offer and gives it to the others
  pub settled : (old mid new : Board) (router : ℕ) (best : Best) (outcome : Outcome) → Fits (count P) old → router < count P →
      best_at old.bests.items router ≡ Some best →
      label old.labels router ≡ None → Takes old mid router best → HasSpread P mid new router outcome → HasSettled P old new router best outcome
  settled old mid new router best outcome fits inside e empty t s = record {
    goes = goes_trans old mid new (taken_goes old mid router best (let l = fits.labels in omega (arith, l, inside)) e empty t) s.goes;
    fits = s.fits;
    labels = s.labels ∙ t.labels;
    waits = s.waits ∙ t.waits;
    tied = λ x. (taken_tied old mid router best t (s.tied x)).0;
    untied = λ x. (taken_tied old mid router best t (s.tied x)).1;
    comes = λ state. s.comes old.labels (taken_part P good old mid router best inside e empty state t);
  }
