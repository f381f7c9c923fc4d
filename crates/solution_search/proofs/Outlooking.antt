-- A table that is closed foresees all that routers may hold.
use Rattle.std.proofs.Common.{◌≡◌, ℕ, ◌<◌, ◌≤◌, Bool, true, false, not, All, List, [], length, get_or, Option, Some, None, refl, sym, ap, ◌∙◌, subst, arith}
use Rattle.std.specs.Prelude.{◌&&◌, ◌||◌, nat_eq, nat_lt, nat_le, slice_index_or, Contains, filter_map}
use Rattle.std.proofs.lemmas.Bool.{lt-ltb, le-leb, eq-eqb}
use Rattle.std.proofs.lemmas.List.{get_or_default}
use Rattle.base_kit.specs.declared.act_graph.Edge.{Edge}
use Rattle.base_kit.proofs.Elements.{contains_in, in_contains, in_filter_map}
use Rattle.refine_partition.specs.declared.imports.Import.{Import}
use Rattle.refine_partition.specs.Index.{import_from}
use Rattle.srp_core.specs.declared.route.Route.{Route}
use Rattle.srp_core.specs.declared.route.Act.{Act}
use Rattle.srp_core.specs.declared.route.Act.TheVariants.{Cost}
use Rattle.srp_core.specs.Acts.{step_by}
use Rattle.srp_core.specs.Routes.{preference_of, size_of, comms_of}
use Rattle.srp_core.specs.Problem.{Problem, count, number, act_of, initial, key_of, IsProblem}
use Rattle.srp_core.specs.Stability.{label, IsCandidate, of_init, of_edge}
use Rattle.solution_search.specs.declared.ahead.foreseen.Foreseen.{Foreseen}
use Rattle.solution_search.specs.declared.ahead.images.Image.{Image}
use Rattle.solution_search.specs.declared.bests.Best.{Best}
use Rattle.solution_search.specs.Ahead.{TakesPart, Passes, MayHold, holds_offer, holds_import, NothingComes}
use Rattle.solution_search.specs.Bests.{KnowsBest}
use Rattle.solution_search.specs.Boards.{State, best_at, case_of, IsState}
use Rattle.solution_search.specs.Cases.{Case, waits_above}
use Rattle.solution_search.specs.Looks.{is_above}
use Rattle.solution_search.specs.Outlooks.{IsOneForeseen, IsForeseen, Table, foreseen_at, ForeseesAll, IsImageOf, HasImage, IsImage, is_unbeaten_by, may_pass, IsFollowedOver, IsFollowed, IsListFollowed, IsClosedAt, GivesNothing}
use Rattle.solution_search.proofs.Carried.{candidate_in}
use Rattle.solution_search.proofs.Opened.{is_above_of}
use Rattle.solution_search.proofs.Spreading.{import_of_edge}
use Rattle.solution_search.proofs.WeakOrder.{IsNoWorse, higher, not_longer, weakly_no_worse}

and_true : (a b : Bool) → a ≡ true → b ≡ true → (a && b) ≡ true
and_true true b e f = f
and_true false b e f = absurd (cc)

or_left : (a b : Bool) → a ≡ true → (a || b) ≡ true
or_left true b e = refl
or_left false b e = absurd (cc)

or_right : (a b : Bool) → b ≡ true → (a || b) ≡ true
or_right true b e = refl
or_right false b e = e

-- what holds of all holds of one
pub all_in : {X : Type 0} (Q : X → Type 0) (xs : List X) (x : X) → All Q xs → Contains xs x → Q x
all_in Q xs x all inside = subst Q inside.2 (all inside.0 x inside.1)

pub may_unsettled : (P : Problem) (case : Case) (without : Option ℕ) (u : ℕ) (r : Route) → MayHold P case without u r → label case.labels u ≡ None
may_unsettled P case without u r (holds_offer _ _ part offer passes) = part.unsettled
may_unsettled P case without _ r (holds_import e from _ i part may st passes) = part.unsettled

-- an act of the table
pub act_is : (P : Problem) (acts : List Act) (k : ℕ) (a : Act) → a ≡ get_or acts k a → acts ≡ P.acts → k < length P.acts → slice_index_or P.acts k (Cost 0) ≡ a
act_is P acts k a is same less = get_or_default P.acts k (Cost 0) a less ∙ ap (λ (l : List Act). get_or l k a) (sym same) ∙ sym is

pub not_true : (b : Bool) → not b ≡ true → b ≡ false
not_true true e = absurd (cc)
not_true false e = refl

-- the label of a router, and what is foreseen for it
pub label_is : (labels slice : List (Option Route)) (u : ℕ) (o : Option Route) → o ≡ get_or slice u o → slice ≡ labels → u < length labels → label labels u ≡ o
label_is labels slice u o is same less = get_or_default labels u None o less ∙ ap (λ (l : List (Option Route)). get_or l u o) (sym same) ∙ sym is

pub list_is : (table : Table) (u : ℕ) (l items : List Foreseen) → l ≡ get_or table u l → u < length table → items ≡ l → items ≡ foreseen_at table u
list_is table u l items is less same = same ∙ is ∙ get_or_default table u l [] less

-- what a settled router has is followed
pub closed_settled : (P : Problem) (case : Case) (without : Option ℕ) (table : Table) (router : ℕ) (l : Route) → label case.labels router ≡ Some l →
    (from : Foreseen) → IsOneForeseen from l → IsFollowed P case without table router from → IsClosedAt P case without table router
closed_settled P case without table router l is from one followed = record {
  settled = λ r e. (let same : l ≡ r = cc in (from, subst (IsOneForeseen from) same one, followed));
  first = λ e r init. absurd (cc);
  rest = λ e. absurd (cc);
}

-- what another router may hold is followed
pub closed_unsettled : (P : Problem) (case : Case) (without : Option ℕ) (table : Table) (router : ℕ) → label case.labels router ≡ None →
    ((r : Route) → initial P router ≡ Some r → IsForeseen (foreseen_at table router) r) → IsListFollowed P case without table router →
    IsClosedAt P case without table router
closed_unsettled P case without table router none first rest = record {
  settled = λ r e. absurd (cc);
  first = λ e r init. first r init;
  rest = λ e. rest;
}

module _ (P : Problem) (good : IsProblem P) where
  module _ (tied : Bool) (state : State) (known : IsState P tied state) where
    -- what passes passes by its preference and its size, or by a smaller size
    pub passes_may : (u : ℕ) (route : Route) (size : ℕ) → u < count P → label state.labels u ≡ None → size ≤ size_of route →
        Passes P (case_of state) u route → may_pass state u (preference_of route) size ≡ true
    passes_may u route size inside none le passes =
        and_true (is_above (slice_index_or state.waits u None) (preference_of route)) (is_unbeaten_by (best_at state.bests u) (preference_of route) size)
        (is_above_of (waits_above (case_of state) u) (preference_of route) passes.above) (by (best_at state.bests u) refl)
      where
        k : KnowsBest P (IsCandidate P state.labels u) (best_at state.bests u)
        k = known.knows.unsettled u inside none

        unbeaten : (best : Best) → IsNoWorse (key_of P route) (key_of P best.route) → is_unbeaten_by (Some best) (preference_of route) size ≡ true
        unbeaten best (higher h) = or_left (nat_lt (preference_of best.route) (preference_of route))
            (nat_eq (preference_of best.route) (preference_of route) && nat_le size (size_of best.route))
            (lt-ltb (preference_of best.route) (preference_of route) h)
        unbeaten best (not_longer p l) = or_right (nat_lt (preference_of best.route) (preference_of route))
            (nat_eq (preference_of best.route) (preference_of route) && nat_le size (size_of best.route))
            (and_true (nat_eq (preference_of best.route) (preference_of route)) (nat_le size (size_of best.route))
            (eq-eqb (preference_of best.route) (preference_of route) (sym p)) (le-leb size (size_of best.route) (omega (arith, le, l))))

        by : (o : Option Best) → best_at state.bests u ≡ o → is_unbeaten_by o (preference_of route) size ≡ true
        by None e = refl
        by (Some best) e =
            unbeaten best (weakly_no_worse (key_of P route) (key_of P best.route)
            (passes.unbeaten best.route (record { unsettled = none; candidate = (k.some best e).held })))

    module _ (without : Option ℕ) (table : Table) (importer act : ℕ) (from : Foreseen) where
      -- a router that does not take part
      pub followed_apart : ¬ TakesPart (case_of state) without importer → IsFollowedOver P (case_of state) without table importer act from
      followed_apart apart = record { each = λ n source route part one st passes. absurd (apart part) }

      -- nothing comes over the edge
      pub followed_none : (image : Option Image) → IsImage (slice_index_or P.acts act (Cost 0)) from image → image ≡ None →
          IsFollowedOver P (case_of state) without table importer act from
      followed_none image is none = record {
        each = λ n source route part one st passes.
            absurd (subst (λ (o : Option Image). HasImage o route) none (is.each n source route one st));
      }

      module _ (image : Option Image) (is : IsImage (slice_index_or P.acts act (Cost 0)) from image) (i : Image) (some : image ≡ Some i) where
        is_image : (n : ℕ) (source route : Route) → IsOneForeseen from source → step_by (slice_index_or P.acts act (Cost 0)) n source ≡ Some route →
            IsImageOf i route
        is_image n source route one st = subst (λ (o : Option Image). HasImage o route) some (is.each n source route one st)

        -- what comes does not pass
        pub followed_stopped : importer < count P → may_pass state importer i.preference i.size ≡ false →
            IsFollowedOver P (case_of state) without table importer act from
        followed_stopped inside stops = record {
          each = λ n source route part one st passes.
              (let has = is_image n source route one st in
              let may = passes_may importer route i.size inside part.unsettled has.size passes in
              let may' : may_pass state importer i.preference i.size ≡ true = ap (λ p. may_pass state importer p i.size) has.preference ∙ may in
              absurd (cc));
        }

        -- what comes is foreseen
        pub followed_found : ((route : Route) → i.comms ≡ comms_of route → i.size ≤ size_of route → IsForeseen (foreseen_at table importer) route) →
            IsFollowedOver P (case_of state) without table importer act from
        followed_found found = record {
          each = λ n source route part one st passes. (let has = is_image n source route one st in found route has.comms has.size);
        }

    -- nothing comes over the edge
    pub gives_none : (edge : Edge) (from : Foreseen) (image : Option Image) → IsImage (act_of P edge) from image → image ≡ None →
        GivesNothing P (case_of state) edge from
    gives_none edge from image is none = record {
      none = λ source route one st passes. subst (λ (o : Option Image). HasImage o route) none (is.each (number P edge.exporter) source route one st);
    }

    -- nothing that comes over the edge passes
    pub gives_stopped : (edge : Edge) → edge.importer < count P → label state.labels edge.importer ≡ None → (from : Foreseen) (image : Option Image) →
        IsImage (act_of P edge) from image → (i : Image) → image ≡ Some i → may_pass state edge.importer i.preference i.size ≡ false →
        GivesNothing P (case_of state) edge from
    gives_stopped edge inside empty from image is i some stops = record {
      none = λ source route one st passes.
          (let has : IsImageOf i route = subst (λ (o : Option Image). HasImage o route) some (is.each (number P edge.exporter) source route one st) in
          let may = passes_may edge.importer route i.size inside empty has.size passes in
          let may' : may_pass state edge.importer i.preference i.size ≡ true = ap (λ p. may_pass state edge.importer p i.size) has.preference ∙ may in
          absurd (cc));
    }

  -- ---- all edges of an exporter

  pub followed_all : (case : Case) (without : Option ℕ) (table : Table) (exporter : ℕ) (from : Foreseen) (imports : List Import) →
      imports ≡ filter_map (import_from exporter) P.edges →
      ((i : Import) → Contains imports i → IsFollowedOver P case without table i.importer i.act from) → IsFollowed P case without table exporter from
  followed_all case without table exporter from imports all each = record {
    over = λ e at same.
        (let i : Import = record { importer = e.importer; act = e.act } in
        let listed = in_filter_map (import_from exporter) P.edges e i (in_contains P.edges e at) (import_of_edge exporter e same) in
        each i (subst (λ (l : List Import). Contains l i) (sym all) (contains_in (filter_map (import_from exporter) P.edges) i listed)));
  }

  -- ---- the whole table

  module _ (case : Case) (without : Option ℕ) (table : Table) (closed : (u : ℕ) → u < count P → IsClosedAt P case without table u) where
    all_foreseen : (u : ℕ) (r : Route) → MayHold P case without u r → IsForeseen (foreseen_at table u) r
    all_foreseen u r (holds_offer _ _ part offer passes) = by offer.candidate
      where
        by : IsCandidate P case.labels u r → IsForeseen (foreseen_at table u) r
        by (of_init e) = (closed u (candidate_in P good case.labels u r offer.candidate)).first part.unsettled r e
        by (of_edge e i imp over) =
            let s = (closed e.exporter (good.edges.inside e i).exporter_in).settled over.from over.labelled in
            let f = s.2.over e i refl in
            subst (λ v. IsForeseen (foreseen_at table v) r) imp
            (f.each (number P e.exporter) over.from r (subst (TakesPart case without) (sym imp) part) s.1 over.stepped
            (subst (λ v. Passes P case v r) (sym imp) passes))
    all_foreseen _ r (holds_import e from _ i part may st passes) =
        let before = all_foreseen e.exporter from may in
        let none = may_unsettled P case without e.exporter from may in
        let f = all_in (IsFollowed P case without table e.exporter) (foreseen_at table e.exporter) before.foreseen
        ((closed e.exporter (good.edges.inside e i).exporter_in).rest none) before.inside in
        (f.over e i refl).each (number P e.exporter) from r part before.is_one st passes

    pub closed_foresees : length table ≡ count P → ForeseesAll P case without table
    closed_foresees total = record { total = total; all = all_foreseen }

  -- what edges give a router of what is foreseen does not pass
  pub nothing_foreseen : (case : Case) (without : Option ℕ) (table : Table) → ForeseesAll P case without table → (router : ℕ) →
      ((e : Edge) → Contains P.edges e → e.importer ≡ router → label case.labels e.exporter ≡ None →
      All (GivesNothing P case e) (foreseen_at table e.exporter)) →
      NothingComes P case without router
  nothing_foreseen case without table foresees router each = record {
    none = λ e from r i imp may st passes.
        (let f = foresees.all e.exporter from may in
        (all_in (GivesNothing P case e) (foreseen_at table e.exporter) f.foreseen
        (each e i imp (may_unsettled P case without e.exporter from may)) f.inside).none
        from r f.is_one st (subst (λ v. Passes P case v r) (sym imp) passes));
  }
