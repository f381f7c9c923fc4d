-- What the calls compute from the nodes of a function: whether a node depends on a community outside the
-- universe, the nodes of the parts, and the entries, which follow from the values on the set of the
-- communities that a settled fixing has as present.
use Rattle.std.specs.Prelude.{◌≡◌, ℕ, Bool, true, false, not, ◌&&◌, List, [], ◌∷◌, ◌++◌, Option, Some, None, Result, Ok, Err, ◌⊎◌, filter, nat_eq, if◌then◌else◌}
use Rattle.std.specs.List.{AllByRecursion, list_all}
use Rattle.base_kit.specs.declared.ids.Community.{Community}
use Rattle.base_kit.specs.Sets.{has, with_number}
use Rattle.cfg_ast.specs.declared.policy.Change.{Change}
use Rattle.cfg_ast.specs.declared.policy.CommunityList.{CommunityList}
use Rattle.dd_core.specs.Reach.{DependsOnOthers}
use Rattle.dd_core.specs.Sets.{Shown, value_of}
use Rattle.policy_dd.specs.declared.edge.EdgeFn.{EdgeFn}
use Rattle.policy_dd.specs.Edge.{by_number, IsEdgeFn}
use Rattle.route_maps.specs.declared.plain.Imported.{Imported}
use Rattle.route_maps.specs.declared.plain.Plain.{Plain}
use Rattle.route_maps.specs.declared.plain.PlainEntry.{PlainEntry}
use Rattle.canon_policy.specs.declared.fixing.Fixing.{Fixing}
use Rattle.canon_policy.specs.declared.lists.CanonEdge.{CanonEdge}
use Rattle.canon_policy.specs.declared.lists.CanonRefusal.{CanonRefusal}
use Rattle.canon_policy.specs.declared.lists.CanonRefusal.TheVariants.{NoCanon, Memory}
use Rattle.canon_policy.specs.declared.parts.PartNodes.{PartNodes}
use Rattle.canon_policy.specs.declared.parts.PartNodes.TheVariants.{Told, Carried}
use Rattle.canon_policy.specs.declared.parts.Nodes.{Nodes}
use Rattle.canon_policy.specs.Canonical.{in_parts}
use Rattle.canon_policy.specs.Entries.{match_of, deletion_of, addition_of, replacement_by, denying}
use Rattle.canon_policy.specs.Fixings.{Asked, yes}
use Rattle.canon_policy.specs.Fixings.Part.{number}
use Rattle.canon_policy.specs.Functions.{accepts, keeps, preference}

-- the nodes mean some import, in the one form
pub record IsEdgeForm (shown : Shown) (edge : EdgeFn) : Type 0 where
  pub import : List ℕ → Option Imported
  pub means : IsEdgeFn shown edge import

-- the nodes of a table
abbrev pub nodes_of : List (ℕ × ℕ) → List ℕ
nodes_of [] = []
nodes_of (case ∷ cases) = case.1 ∷ nodes_of cases

-- all nodes of a function except that of keeping
abbrev pub told_nodes : EdgeFn → List ℕ
told_nodes edge = edge.permit ∷ (nodes_of edge.lps ++ (nodes_of edge.adds ++ nodes_of (by_number edge.outs)))

-- one of the nodes depends on a community outside the universe
pub record SomeNeedsOthers (shown : Shown) (nodes : List ℕ) : Type 0 where
  pub node : ℕ
  pub there : has nodes node ≡ true
  pub depends : DependsOnOthers shown node

-- none does
abbrev pub NoneNeedsOthers : Shown → List ℕ → Type 0
NoneNeedsOthers shown nodes = AllByRecursion (λ node. DependsOnOthers shown node → ⊥) nodes

-- the communities whose nodes are true on the set
abbrev pub carried_in : Shown → List ℕ → List (Community × ℕ) → List ℕ
carried_in shown set [] = []
carried_in shown set (case ∷ cases) =
    if value_of shown set case.1 then case.0.0 ∷ carried_in shown set cases else carried_in shown set cases

-- those that may be in a set that agrees, and are not in the result where they are
abbrev pub is_out : Shown → Fixing → Community × ℕ → Bool
is_out shown fixing case = not (has fixing.absent case.0.0) && not (value_of shown (with_number case.0.0 fixing.present) case.1)

abbrev pub deleted_in : Shown → Fixing → List (Community × ℕ) → List ℕ
deleted_in shown fixing [] = []
deleted_in shown fixing (case ∷ cases) =
    if is_out shown fixing case then case.0.0 ∷ deleted_in shown fixing cases else deleted_in shown fixing cases

abbrev pub is_not_present : Fixing → ℕ → Bool
is_not_present fixing c = not (has fixing.present c)

-- the first preference other than 100 whose node is true
abbrev pub lp_in : Shown → List ℕ → List (ℕ × ℕ) → Option ℕ
lp_in shown set [] = None
lp_in shown set (case ∷ cases) =
    if not (nat_eq case.0 100) && value_of shown set case.1 then Some case.0 else lp_in shown set cases

abbrev pub count_in : Shown → List ℕ → List (ℕ × ℕ) → ℕ
count_in shown set [] = 0
count_in shown set (case ∷ cases) = if value_of shown set case.1 then case.0 else count_in shown set cases

-- The names of the change. They are added if communities outside the universe are kept, and else replace
-- all.
abbrev pub names_made : Shown → EdgeFn → Fixing → List ℕ
names_made shown edge fixing =
    if value_of shown fixing.present edge.rest then filter (is_not_present fixing) (carried_in shown fixing.present edge.outs)
    else carried_in shown fixing.present edge.outs

abbrev pub change_made : Shown → EdgeFn → Fixing → Option Change
change_made shown edge fixing =
    if value_of shown fixing.present edge.rest then addition_of (names_made shown edge fixing) else replacement_by (names_made shown edge fixing)

abbrev pub deletion_made : Shown → EdgeFn → Fixing → Option CommunityList
deletion_made shown edge fixing =
    if value_of shown fixing.present edge.rest then deletion_of (deleted_in shown fixing edge.outs) else None

unfoldable pub in_made : Shown → EdgeFn → ℕ → Fixing → PlainEntry
in_made shown edge seq fixing =
    if value_of shown fixing.present edge.permit then record {
      seq = seq;
      permit = true;
      lists = match_of fixing.present;
      lp = lp_in shown fixing.present edge.lps;
      change = change_made shown edge fixing;
      delete = deletion_made shown edge fixing;
      adds = 0;
      exact = false;
    } else denying seq fixing

unfoldable pub out_made : Shown → EdgeFn → ℕ → Fixing → PlainEntry
out_made shown edge seq fixing =
    if value_of shown fixing.present edge.permit then record {
      seq = seq;
      permit = true;
      lists = match_of fixing.present;
      lp = None;
      change = None;
      delete = None;
      adds = count_in shown fixing.present edge.adds;
      exact = false;
    } else denying seq fixing

-- what is asked of the in list, of these communities alone
abbrev pub asked_of : List ℕ → (List ℕ → Option Imported) → List ℕ → Asked
asked_of universe f keys = record {
  accepted = accepts f;
  kept = keeps f universe;
  parts = number (λ set. yes (keeps f universe set)) ∷ number (preference f) ∷ in_parts universe f keys;
}

abbrev pub carried_nodes : List (Community × ℕ) → List PartNodes
carried_nodes [] = []
carried_nodes (case ∷ cases) = Carried case.0 case.1 ∷ carried_nodes cases

-- the nodes of the parts of both lists
abbrev pub in_nodes : EdgeFn → Nodes
in_nodes edge = record { permit = edge.permit; rest = edge.rest; parts = Told (edge.rest ∷ []) ∷ Told (nodes_of edge.lps) ∷ carried_nodes edge.outs }

abbrev pub out_nodes : EdgeFn → Nodes
out_nodes edge = record { permit = edge.permit; rest = edge.rest; parts = Told (nodes_of edge.adds) ∷ [] }

-- the list that there is, or none, or out of memory
abbrev pub IsListOf : Result Plain CanonRefusal → Option Plain → Type 0
IsListOf (Ok plain) list = list ≡ Some plain
IsListOf (Err NoCanon) list = list ≡ None
IsListOf (Err Memory) list = Unit {0}

-- the same of both lists
abbrev pub AreListsOf : Result CanonEdge CanonRefusal → Option CanonEdge → Type 0
AreListsOf (Ok lists) canonical = canonical ≡ Some lists
AreListsOf (Err NoCanon) canonical = canonical ≡ None
AreListsOf (Err Memory) canonical = Unit {0}

-- every count is 0
abbrev pub has_no_count : List (ℕ × ℕ) → Bool
has_no_count adds = list_all (λ case. nat_eq case.0 0) adds

-- the last entry permits, or denies
pub record EndsIn (permit : Bool) (entries : List PlainEntry) : Type 0 where
  pub before : List PlainEntry
  pub last : PlainEntry
  pub split : entries ≡ before ++ last ∷ []
  pub permit_is : last.permit ≡ permit

-- the last entry denies, or there is none or it permits
abbrev pub EndsInDeny : List PlainEntry → Bool → Type 0
EndsInDeny entries true = EndsIn false entries
EndsInDeny entries false = (entries ≡ []) ⊎ EndsIn true entries
