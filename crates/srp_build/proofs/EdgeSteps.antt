-- The edges of sessions, one direction after another.
use Rattle.std.proofs.Common.{◌≡◌, ℕ, ◌+◌, ◌<◌, List, [], ◌∷◌, ◌++◌, ◌⊎◌, inl, inr, length, take, get_or, slice_get, Option, Some, refl, sym, ◌∙◌, ap, subst, arith}
use Rattle.std.specs.Prelude.{Contains}
use Rattle.base_kit.specs.declared.act_graph.Edge.{Edge}
use Rattle.base_kit.proofs.Elements.{contains_in, in_contains, in_left, in_right}
use Rattle.cfg_ast.specs.declared.network.Router.{Router}
use Rattle.dd_core.specs.Sets.{Shown}
use Rattle.route_maps.specs.declared.plain.Plain.{Plain}
use Rattle.srp_core.specs.declared.route.Route.{Route}
use Rattle.srp_build.specs.declared.acts.BgpAct.{BgpAct}
use Rattle.srp_build.specs.declared.bgp_edges.BgpEdges.{BgpEdges}
use Rattle.srp_build.specs.declared.hops.Hop.{Hop}
use Rattle.srp_build.specs.LineMaps.{LineMaps}
use Rattle.srp_build.specs.declared.imports.ImportByMaps.{ImportByMaps}
use Rattle.srp_build.specs.ActOrder.{AreByFirstUse}
use Rattle.srp_build.specs.BgpActs.{IsNewAct}
use Rattle.srp_build.specs.BgpEdges.{import_at, IsLeftOut, IsEdgeOfSession, Skips, TakesDirection, TakesHop, IsFirstWithAct, AreEdgesOfSessions}
use Rattle.srp_build.specs.FirstActs.{IsFirstWith}
use Rattle.srp_build.specs.HopEdges.{edge_with, AreEdgesOf}
use Rattle.srp_build.specs.MetImports.{IsActOver, AreRight}
use Rattle.srp_build.proofs.FirstUse.{length_last, get_front, get_last, within_get, take_more, front_or_last, IsOldOrNext, first_use_next, no_first_use}
use Rattle.srp_build.proofs.HopEdges.{edge_last, left_last, edges_as}
use Rattle.srp_build.proofs.ImportSteps.{right_at_first}

-- the acts are the same, or there is one more
abbrev CameTo : List BgpAct → List BgpAct → Hop → ImportByMaps → ℕ → Type 0
CameTo old new hop import number = (new ≡ old) ⊎ IsNewAct old new hop import number

act_kept : (old new : List BgpAct) (hop : Hop) (import : ImportByMaps) (number : ℕ) → CameTo old new hop import number → (k : ℕ) (act : BgpAct) →
    slice_get old k ≡ Some act → slice_get new k ≡ Some act
act_kept old new hop import number (inl same) k act at = ap (λ (l : List BgpAct). slice_get l k) same ∙ at
act_kept old new hop import number (inr is) k act at = ap (λ (l : List BgpAct). slice_get l k) is.last ∙ get_front old (is.act ∷ []) k act at

over_kept : (maps : List Plain) (old new : List BgpAct) (hop : Hop) (import : ImportByMaps) (number : ℕ) → CameTo old new hop import number →
    (s : ImportByMaps) (k : ℕ) → IsActOver maps old s k → IsActOver maps new s k
over_kept maps old new hop import number came s k over =
    record { act = over.act; at = act_kept old new hop import number came k over.act over.at; one = over.one }

-- an act is an old one, or the new one
old_or_new : (old new : List BgpAct) (hop : Hop) (import : ImportByMaps) (number : ℕ) → CameTo old new hop import number → (k : ℕ) (act : BgpAct) →
    slice_get new k ≡ Some act → (slice_get old k ≡ Some act) ⊎ ((act.first ≡ hop) × (act.import ≡ import))
old_or_new old new hop import number (inl same) k act at = inl (ap (λ (l : List BgpAct). slice_get l k) (sym same) ∙ at)
old_or_new old new hop import number (inr is) k act at = elim (front_or_last old is.act k act (ap (λ (l : List BgpAct). slice_get l k) (sym is.last) ∙ at)) [
  | inl before ↦ inl before
  | inr last ↦ inr (ap (λ (a : BgpAct). a.first) (sym last.1) ∙ is.first, ap (λ (a : BgpAct). a.import) (sym last.1) ∙ is.over)
]

next_number : (maps : List Plain) (old new : List BgpAct) (hop : Hop) (import : ImportByMaps) (number : ℕ) → CameTo old new hop import number →
    IsActOver maps new import number → IsOldOrNext (length old) (length new) number
next_number maps old new hop import number (inl same) over =
    let inside = within_get new number over.act over.at in
    let e = ap (λ (l : List BgpAct). length l) same in
    inl (e, omega arith)
next_number maps old new hop import number (inr is) over = inr (ap (λ (l : List BgpAct). length l) is.last ∙ length_last old is.act, is.next)

within_more : (hops : List Hop) (hop other : Hop) → Contains hops other → Contains (hops ++ hop ∷ []) other
within_more hops hop other has = contains_in _ other (in_left hops (hop ∷ []) other (in_contains hops other has))

module _ (shown shown' : Shown) (routers : List Router) (init : List (Option Route)) (maps : LineMaps) (hops : List Hop) (hop : Hop) (old new : BgpEdges)
    (so_far : AreEdgesOfSessions shown routers init maps hops old) (right : AreRight shown' maps.maps new.acts new.imports) where
  abbrev before : List BgpAct
  before = old.acts.acts.items

  abbrev after : List BgpAct
  after = new.acts.acts.items

  skipped : Skips routers init maps old new hop → AreEdgesOfSessions shown' routers init maps (hops ++ hop ∷ []) new
  skipped skips = record {
    right = right;
    over = λ k act at. so_far.over k act (ap (λ (l : List BgpAct). slice_get l k) (sym skips.acts) ∙ at);
    within = λ k act at. within_more hops hop act.first (so_far.within k act (ap (λ (l : List BgpAct). slice_get l k) (sym skips.acts) ∙ at));
    each = subst (λ (a : List BgpAct). AreEdgesOf (IsEdgeOfSession routers init maps a) (IsLeftOut routers init maps) (hops ++ hop ∷ []) new.edges)
        (sym skips.acts)
        (subst (λ (e : List Edge). AreEdgesOf (IsEdgeOfSession routers init maps before) (IsLeftOut routers init maps) (hops ++ hop ∷ []) e) (sym skips.edges)
        (left_last (IsEdgeOfSession routers init maps before) (IsLeftOut routers init maps) hop skips.left hops old.edges so_far.each));
    in_order = subst (λ (a : List BgpAct). AreByFirstUse new.edges (length a)) (sym skips.acts)
        (subst (λ (e : List Edge). AreByFirstUse e (length before)) (sym skips.edges) so_far.in_order);
    first = subst (λ (e : List Edge). (place : ℕ) (edge : Edge) → slice_get e place ≡ Some edge → IsFirstWith e place edge.act → IsFirstWithAct after edge)
        (sym skips.edges)
        (subst (λ (a : List BgpAct). (place : ℕ) (edge : Edge) → slice_get old.edges place ≡ Some edge → IsFirstWith old.edges place edge.act →
        IsFirstWithAct a edge) (sym skips.acts) so_far.first);
  }

  -- an edge that is first among more was first, or it is the last one
  first_kept : (last edge : Edge) (place : ℕ) → slice_get old.edges place ≡ Some edge → IsFirstWith (old.edges ++ last ∷ []) place edge.act →
      IsFirstWith old.edges place edge.act
  first_kept last edge place at is_first =
      record { first = λ earlier other less there. is_first.first earlier other less (get_front old.edges (last ∷ []) earlier other there) }

  -- the last edge is first with its act only if that is new
  last_first : (number : ℕ) (import : ImportByMaps) → CameTo before after hop import number → IsActOver maps.maps after import number →
      IsFirstWith (old.edges ++ edge_with number hop ∷ []) (length old.edges) number → IsFirstWithAct after (edge_with number hop)
  last_first number import (inl same) over is_first =
      let inside = within_get after number over.act over.at in
      let e = ap (λ (l : List BgpAct). length l) same in
      let used = so_far.in_order.used number (omega arith) in
      absurd (is_first.first used.earlier used.edge used.before (get_front old.edges (edge_with number hop ∷ []) used.earlier used.edge used.at) used.same)
  last_first number import (inr is) over is_first = record {
    act = is.act;
    at = ap (λ (k : ℕ). slice_get after k) is.next ∙ ap (λ (l : List BgpAct). slice_get l (length before)) is.last ∙ get_last before is.act;
    same = ap (edge_with number) (sym is.first);
  }

  is_kept : (number : ℕ) (import : ImportByMaps) → CameTo before after hop import number → (edge : Edge) → IsFirstWithAct before edge
      → IsFirstWithAct after edge
  is_kept number import came edge is = record { act = is.act; at = act_kept before after hop import number came edge.act is.act is.at; same = is.same }

  taken : TakesDirection routers init maps old new hop → AreEdgesOfSessions shown' routers init maps (hops ++ hop ∷ []) new
  taken takes =
      let last : Edge = edge_with takes.number hop in
      let has : IsEdgeOfSession routers init maps after hop last =
      record { same = refl; open_to = takes.open_to; import = takes.import; import_is = takes.import_is; act = takes.act } in
      let kept = edges_as (IsEdgeOfSession routers init maps before) (IsEdgeOfSession routers init maps after) (IsLeftOut routers init maps)
      (λ h e of. record {
        same = of.same;
        open_to = of.open_to;
        import = of.import;
        import_is = of.import_is;
        act =
            over_kept maps.maps before after hop takes.import takes.number takes.came of.import e.act of.act;
      }) hops old.edges so_far.each in
      record {
        right = right;
        over = λ k act at. elim (old_or_new before after hop takes.import takes.number takes.came k act at) [
          | inl there ↦ so_far.over k act there
          | inr came ↦ ap (import_at routers maps) came.0 ∙ takes.import_is ∙ ap (λ (s : ImportByMaps). Some s) (sym came.1)
        ];
        within = λ k act at. elim (old_or_new before after hop takes.import takes.number takes.came k act at) [
          | inl there ↦ within_more hops hop act.first (so_far.within k act there)
          | inr came ↦ contains_in _ act.first (in_right hops (hop ∷ []) act.first (inl (sym came.0)))
        ];
        each = subst (λ (e : List Edge). AreEdgesOf (IsEdgeOfSession routers init maps after) (IsLeftOut routers init maps) (hops ++ hop ∷ []) e)
            (sym takes.edges)
            (edge_last (IsEdgeOfSession routers init maps after) (IsLeftOut routers init maps) hop last has hops old.edges kept);
        in_order = subst (λ (e : List Edge). AreByFirstUse e (length after)) (sym takes.edges)
            (first_use_next (length before) (length after) old.edges last so_far.in_order
            (next_number maps.maps before after hop takes.import takes.number takes.came takes.act));
        first = subst (λ (e : List Edge). (place : ℕ) (edge : Edge) → slice_get e place ≡ Some edge → IsFirstWith e place edge.act → IsFirstWithAct after edge)
            (sym takes.edges)
            (λ place edge at is_first. elim (front_or_last old.edges last place edge at) [
              | inl there ↦ is_kept takes.number takes.import takes.came edge (so_far.first place edge there (first_kept last edge place there is_first))
              | inr is_last ↦ subst (IsFirstWithAct after) is_last.1 (last_first takes.number takes.import takes.came takes.act
                  (subst (λ (k : ℕ). IsFirstWith (old.edges ++ last ∷ []) k takes.number) is_last.0
                  (subst (λ (e : Edge). IsFirstWith (old.edges ++ last ∷ []) place e.act) (sym is_last.1) is_first)))
            ]);
      }

  pub next_hop : TakesHop routers init maps old new hop → AreEdgesOfSessions shown' routers init maps (hops ++ hop ∷ []) new
  next_hop (inl skips) = skipped skips
  next_hop (inr takes) = taken takes

-- no direction yet
pub edges_at_first : (shown : Shown) (routers : List Router) (init : List (Option Route)) (maps : LineMaps) (hops : List Hop) (found : BgpEdges) → hops ≡ [] →
    found.acts.acts.items ≡ [] → found.imports.met.items ≡ [] → found.edges ≡ [] → AreEdgesOfSessions shown routers init maps hops found
edges_at_first shown routers init maps hops found no_hops no_acts no_imports no_edges = record {
  right = right_at_first shown maps.maps found.acts found.imports no_acts no_imports;
  over = λ k act at. absurd (nothing k act at);
  within = λ k act at. absurd (nothing k act at);
  each = subst (λ (h : List Hop). AreEdgesOf (IsEdgeOfSession routers init maps found.acts.acts.items) (IsLeftOut routers init maps) h found.edges)
      (sym no_hops)
      (subst (λ (e : List Edge). AreEdgesOf (IsEdgeOfSession routers init maps found.acts.acts.items) (IsLeftOut routers init maps) [] e) (sym no_edges) tt);
  in_order = subst (λ (a : List BgpAct). AreByFirstUse found.edges (length a)) (sym no_acts)
      (subst (λ (e : List Edge). AreByFirstUse e 0) (sym no_edges) no_first_use);
  first = λ place edge at is_first. (let none = ap (λ (l : List Edge). slice_get l place) no_edges in absurd cc);
}
  where
    nothing : (k : ℕ) (act : BgpAct) → slice_get found.acts.acts.items k ≡ Some act → ⊥
    nothing k act at = (let none = ap (λ (l : List BgpAct). slice_get l k) no_acts in cc)

-- one more direction of a list
pub edges_next : (shown shown' : Shown) (routers : List Router) (init : List (Option Route)) (maps : LineMaps) (hops : List Hop) (i : ℕ) (hop d : Hop)
    (old new : BgpEdges) → i < length hops → get_or hops i d ≡ hop
    → AreEdgesOfSessions shown routers init maps (take i hops) old → AreRight shown' maps.maps new.acts new.imports → TakesHop routers init maps old new hop →
    AreEdgesOfSessions shown' routers init maps (take (i + 1) hops) new
edges_next shown shown' routers init maps hops i hop d old new inside at so_far right takes =
    subst (λ (l : List Hop). AreEdgesOfSessions shown' routers init maps l new) (sym (take_more hops i hop d inside at))
    (next_hop shown shown' routers init maps (take i hops) hop old new so_far right takes)
