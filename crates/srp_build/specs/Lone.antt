-- Routers that accept with different preferences, by the first edge of each.
use Rattle.std.specs.Prelude.{◌≡◌, ℕ, Bool, true, false, List, map, length, Option, Some, None, Contains, slice_get}
use Rattle.base_kit.specs.declared.act_graph.Edge.{Edge}
use Rattle.dd_core.specs.Sets.{Shown}
use Rattle.policy_dd.specs.Edge.{IsEdgeFn}
use Rattle.policy_dd.specs.Imports.{DifferInPreference, HaveOnePreference}
use Rattle.route_maps.specs.declared.plain.Imported.{Imported}
use Rattle.srp_build.specs.declared.acts.BgpAct.{BgpAct}
use Rattle.srp_build.specs.declared.lone.Mark.{Mark}

-- some routes that both acts accept have different preferences
pub record Differ (shown : Shown) (acts : List BgpAct) (a b : ℕ) : Type 0 where
  pub differ : (f g : BgpAct) (F G : List ℕ → Option Imported) → slice_get acts a ≡ Some f → slice_get acts b ≡ Some g → IsEdgeFn shown f.function F →
      IsEdgeFn shown g.function G → DifferInPreference F G

-- all routes that both acts accept have one preference
pub record Agree (shown : Shown) (acts : List BgpAct) (a b : ℕ) : Type 0 where
  pub one : (f g : BgpAct) (F G : List ℕ → Option Imported) → slice_get acts a ≡ Some f → slice_get acts b ≡ Some g → IsEdgeFn shown f.function F →
      IsEdgeFn shown g.function G → HaveOnePreference F G

-- the mark says whether the acts differ
pub record TellsApart (shown : Shown) (acts : List BgpAct) (a b : ℕ) (mark : Mark) : Type 0 where
  pub first : mark.first ≡ Some a
  pub lone : mark.lone ≡ true → Differ shown acts a b
  pub alone : mark.lone ≡ false → Agree shown acts a b

-- a mark and the next one, by one more act
pub data IsNextMark (shown : Shown) (acts : List BgpAct) (mark : Mark) (act : ℕ) (next : Mark) : Type 0 where
  begins : mark.first ≡ None → TellsApart shown acts act act next → IsNextMark shown acts mark act next
  again : mark.first ≡ Some act → next ≡ mark → IsNextMark shown acts mark act next
  stays : (first : ℕ) → mark.first ≡ Some first → mark.lone ≡ true → next ≡ mark → IsNextMark shown acts mark act next
  goes_on : (first : ℕ) → mark.first ≡ Some first → mark.lone ≡ false → TellsApart shown acts first act next → IsNextMark shown acts mark act next

-- an edge of the router with that act
pub record HasEdgeWith (edges : List Edge) (router act : ℕ) : Type 0 where
  pub edge : Edge
  pub edge_in : Contains edges edge
  pub importer : edge.importer ≡ router
  pub same : edge.act ≡ act

-- two edges of the router whose acts differ
pub record HasTwo (shown : Shown) (acts : List BgpAct) (edges : List Edge) (router : ℕ) : Type 0 where
  pub first : ℕ
  pub second : ℕ
  pub first_there : HasEdgeWith edges router first
  pub second_there : HasEdgeWith edges router second
  pub differ : Differ shown acts first second

-- what the mark of a router says of its edges
pub record IsMark (shown : Shown) (acts : List BgpAct) (edges : List Edge) (router : ℕ) (mark : Mark) : Type 0 where
  pub none : mark.first ≡ None → (act : ℕ) → HasEdgeWith edges router act → ⊥
  pub some : (first : ℕ) → mark.first ≡ Some first → HasEdgeWith edges router first
  pub lone : mark.lone ≡ true → HasTwo shown acts edges router
  pub alone : mark.lone ≡ false → (first act : ℕ) → mark.first ≡ Some first → HasEdgeWith edges router act → Agree shown acts first act

pub record AreLoneMarks (shown : Shown) (acts : List BgpAct) (count : ℕ) (edges : List Edge) (marks : List Mark) : Type 0 where
  pub total : length marks ≡ count
  pub each : (router : ℕ) (mark : Mark) → slice_get marks router ≡ Some mark → IsMark shown acts edges router mark

-- the routers whose marks say so
pub record AreLone (shown : Shown) (acts : List BgpAct) (count : ℕ) (edges : List Edge) (lone : List Bool) : Type 0 where
  pub marks : List Mark
  pub are : AreLoneMarks shown acts count edges marks
  pub read : lone ≡ map (λ (mark : Mark). mark.lone) marks
