-- The ends of sessions that are left, and what they import.
use Rattle.std.proofs.Common.{◌≡◌, ◌⊎◌, ℕ, true, false, ◌&&◌, List, Option, Some, None, refl, sym, ◌∙◌, ap, subst, inl, inr}
use Rattle.std.specs.Prelude.{nat_eq, slice_get}
use Rattle.std.proofs.lemmas.Bool.{cases_eq}
use Rattle.base_kit.specs.Prefixes.{Prefix}
use Rattle.base_kit.proofs.SetFacts.{same_number}
use Rattle.cfg_ast.specs.declared.bgp.Neighbor.{Neighbor}
use Rattle.cfg_ast.specs.declared.network.Network.{Network}
use Rattle.cfg_ast.specs.declared.network.Router.{Router}
use Rattle.cfg_ast.specs.meaning.Topology.{neighbors_of, cost_of}
use Rattle.route_maps.specs.Sessions.{session_import}
use Rattle.srp_core.specs.declared.route.Act.{Act}
use Rattle.srp_core.specs.declared.route.Act.TheVariants.{Import, Cost}
use Rattle.srp_core.specs.ProblemOf.{start_route, Direction, SessionEnds, CarriesRoutes, MeansLink}
use Rattle.shutdown_laws.specs.Shutdown.{shut_line, shut_on, with_shutdown}
use Rattle.shutdown_laws.proofs.ChangedLists.{at_place, at_other, was_there}
use Rattle.shutdown_laws.proofs.ShutRouters.{neighbors_shut, same_start, same_import_into, same_import_from}

module _ (n : Network) (r i : ℕ) where
  -- the router, maybe with the shut line
  abbrev IsShut : Router → Router → Type 0
  IsShut u v = (v ≡ u) ⊎ (v ≡ shut_on i u)

  -- the line at that place is not the one that is shut
  abbrev IsOff : ℕ → ℕ → Type 0
  IsOff x item = (nat_eq x r && nat_eq item i) ≡ false

  record After (x : ℕ) (u : Router) : Type 0 where
    router : Router
    at : slice_get (with_shutdown n r i).routers x ≡ Some router
    shut : IsShut u router

  after : (x : ℕ) (u : Router) → slice_get n.routers x ≡ Some u → After x u
  after x u at = elim (cases_eq x r) [
    | inl same ↦ record {
      router = shut_on i u;
      at = subst (λ y. slice_get (with_shutdown n r i).routers y ≡ Some (shut_on i u)) (sym same)
          (at_place (shut_on i) r n.routers u (subst (λ y. slice_get n.routers y ≡ Some u) same at));
      shut = inr refl;
    }
    | inr other ↦ record { router = u; at = at_other (shut_on i) r n.routers x other ∙ at; shut = inl refl }
  ]

  record Before (x : ℕ) (v : Router) : Type 0 where
    router : Router
    at : slice_get n.routers x ≡ Some router
    shut : IsShut router v

  before : (x : ℕ) (v : Router) → slice_get (with_shutdown n r i).routers x ≡ Some v → Before x v
  before x v at = elim (cases_eq x r) [
    | inl same ↦ (
        let was = was_there (shut_on i) r n.routers v (subst (λ y. slice_get (with_shutdown n r i).routers y ≡ Some v) same at) in
        record { router = was.0; at = subst (λ y. slice_get n.routers y ≡ Some was.0) (sym same) was.1; shut = inr was.2 })
    | inr other ↦ record { router = v; at = sym (at_other (shut_on i) r n.routers x other) ∙ at; shut = inl refl }
  ]

  one_router : (x : ℕ) (u v : Router) → slice_get n.routers x ≡ Some u → slice_get n.routers x ≡ Some v → u ≡ v
  one_router x u v e f = by (slice_get n.routers x) e f
    where
      by : (o : Option Router) → o ≡ Some u → o ≡ Some v → u ≡ v
      by None e f = absurd cc
      by (Some w) e f = (let a : w ≡ u = cc in let b : w ≡ v = cc in sym a ∙ b)

  -- a changed router stands at the place
  shut_is_there : (x : ℕ) (u : Router) → slice_get n.routers x ≡ Some u → slice_get (with_shutdown n r i).routers x ≡ Some (shut_on i u) →
      (x ≡ r) ⊎ (shut_on i u ≡ u)
  shut_is_there x u at at' = elim (cases_eq x r) [
    | inl same ↦ inl same
    | inr other ↦ inr (
        let there = sym (at_other (shut_on i) r n.routers x other) ∙ at' in
        one_router x (shut_on i u) u there at)
  ]

  -- lines that are not shut are where they were
  line_at : (x item : ℕ) (u : Router) → (x ≡ r) ⊎ (shut_on i u ≡ u) → IsOff x item →
      slice_get (neighbors_of (shut_on i u)) item ≡ slice_get (neighbors_of u) item
  line_at x item u (inr same) off = ap (λ (w : Router). slice_get (neighbors_of w) item) same
  line_at x item u (inl here) off =
      ap (λ (xs : List Neighbor). slice_get xs item) (neighbors_shut i u)
      ∙ at_other shut_line i (neighbors_of u) item (λ same.
      let yes_there : (nat_eq x r && nat_eq item i) ≡ true = ap (λ b. b && nat_eq item i) (same_number x r here) ∙ same_number item i same in absurd cc)

  line_after : (x item : ℕ) (u v : Router) → slice_get n.routers x ≡ Some u → slice_get (with_shutdown n r i).routers x ≡ Some v → IsShut u v → IsOff x item →
      slice_get (neighbors_of v) item ≡ slice_get (neighbors_of u) item
  line_after x item u v at at' (inl same) off = ap (λ (w : Router). slice_get (neighbors_of w) item) same
  line_after x item u v at at' (inr shut) off =
      ap (λ (w : Router). slice_get (neighbors_of w) item) shut
      ∙ line_at x item u (shut_is_there x u at (subst (λ w. slice_get (with_shutdown n r i).routers x ≡ Some w) shut at')) off

  start_after : (prefix : Prefix) (u v : Router) → IsShut u v → start_route prefix v ≡ start_route prefix u
  start_after prefix u v (inl same) = ap (start_route prefix) same
  start_after prefix u v (inr shut) = ap (start_route prefix) shut ∙ same_start i prefix u

  cost_after : (item : ℕ) (u v : Router) → IsShut u v → cost_of v item ≡ cost_of u item
  cost_after item u v (inl same) = ap (λ w. cost_of w item) same
  cost_after item u v (inr shut) = ap (λ w. cost_of w item) shut

  import_after : (prefix : Prefix) (u u' : Router) (out : Neighbor) (v v' : Router) (into : Neighbor) (comms : List ℕ) → IsShut u u' → IsShut v v' →
      session_import prefix u' out v' into comms ≡ session_import prefix u out v into comms
  import_after prefix u u' out v v' into comms first second = exporter first ∙ importer second
    where
      exporter : IsShut u u' → session_import prefix u' out v' into comms ≡ session_import prefix u out v' into comms
      exporter (inl same) = ap (λ w. session_import prefix w out v' into comms) same
      exporter (inr shut) = ap (λ w. session_import prefix w out v' into comms) shut ∙ same_import_from i prefix u out v' into comms

      importer : IsShut v v' → session_import prefix u out v' into comms ≡ session_import prefix u out v into comms
      importer (inl same) = ap (λ w. session_import prefix u out w into comms) same
      importer (inr shut) = ap (λ w. session_import prefix u out w into comms) shut ∙ same_import_into i prefix u out v into comms

  -- the direction under another number, away from the line
  abbrev pub numbered : ℕ → Direction → Direction
  numbered link d = record d { link = link }

  module _ (prefix : Prefix) (d : Direction) (link : ℕ) (exporter_off : IsOff d.exporter d.exporter_item)
      (importer_off : IsOff d.importer d.importer_item) where
    ends_after : SessionEnds n d → SessionEnds (with_shutdown n r i) (numbered link d)
    ends_after e =
        let u = after d.exporter e.exporter e.exporter_at in
        let v = after d.importer e.importer e.importer_at in
        record {
          exporter = u.router;
          exporter_at = u.at;
          exporter_line = e.exporter_line;
          exporter_line_at = line_after d.exporter d.exporter_item e.exporter u.router e.exporter_at u.at u.shut exporter_off ∙ e.exporter_line_at;
          importer = v.router;
          importer_at = v.at;
          importer_line = e.importer_line;
          importer_line_at = line_after d.importer d.importer_item e.importer v.router e.importer_at v.at v.shut importer_off ∙ e.importer_line_at;
        }

    import_same : (e : SessionEnds n d) (comms : List ℕ) →
        session_import prefix (ends_after e).exporter (ends_after e).exporter_line (ends_after e).importer (ends_after e).importer_line comms
        ≡ session_import prefix e.exporter e.exporter_line e.importer e.importer_line comms
    unfolding ends_after
    import_same e comms =
        import_after prefix e.exporter (after d.exporter e.exporter e.exporter_at).router e.exporter_line e.importer
        (after d.importer e.importer e.importer_at).router e.importer_line comms (after d.exporter e.exporter e.exporter_at).shut
        (after d.importer e.importer e.importer_at).shut

    start_same : (e : SessionEnds n d) → start_route prefix (ends_after e).importer ≡ start_route prefix e.importer
    unfolding ends_after
    start_same e =
        start_after prefix e.importer (after d.importer e.importer e.importer_at).router (after d.importer e.importer e.importer_at).shut

    pub carries_after : CarriesRoutes n prefix d → CarriesRoutes (with_shutdown n r i) prefix (numbered link d)
    carries_after c = record {
      ends = ends_after c.ends;
      unoriginated = start_same c.ends ∙ c.unoriginated;
      comms = c.comms;
      is_set = c.is_set;
      imported = c.imported;
      accepted = import_same c.ends c.comms ∙ c.accepted;
    }

    pub means_after : (act : Act) → MeansLink n prefix d act → MeansLink (with_shutdown n r i) prefix (numbered link d) act
    means_after (Import out sends into) m =
        record { ends = ends_after m.ends; same = λ comms up. m.same comms up ∙ sym (import_same m.ends comms) }
    means_after (Cost cost) m = (let v = after d.importer m.importer m.importer_at in
        record { importer = v.router; importer_at = v.at; same = cost_after d.importer_item m.importer v.router v.shut ∙ m.same })

    -- and back
    ends_before : SessionEnds (with_shutdown n r i) (numbered link d) → SessionEnds n d
    ends_before e =
        let u = before d.exporter e.exporter e.exporter_at in
        let v = before d.importer e.importer e.importer_at in
        record {
          exporter = u.router;
          exporter_at = u.at;
          exporter_line = e.exporter_line;
          exporter_line_at = sym (line_after d.exporter d.exporter_item u.router e.exporter u.at e.exporter_at u.shut exporter_off) ∙ e.exporter_line_at;
          importer = v.router;
          importer_at = v.at;
          importer_line = e.importer_line;
          importer_line_at = sym (line_after d.importer d.importer_item v.router e.importer v.at e.importer_at v.shut importer_off) ∙ e.importer_line_at;
        }

    pub carries_before : CarriesRoutes (with_shutdown n r i) prefix (numbered link d) → CarriesRoutes n prefix d
    unfolding ends_before
    carries_before c =
        let u = before d.exporter c.ends.exporter c.ends.exporter_at in
        let v = before d.importer c.ends.importer c.ends.importer_at in
        record {
          ends = ends_before c.ends;
          unoriginated = sym (start_after prefix v.router c.ends.importer v.shut) ∙ c.unoriginated;
          comms = c.comms;
          is_set = c.is_set;
          imported = c.imported;
          accepted =
              sym (import_after prefix u.router c.ends.exporter c.ends.exporter_line v.router c.ends.importer c.ends.importer_line c.comms u.shut v.shut)
              ∙ c.accepted;
        }
