-- Nodes of a store that tell the parts of a function on the sets that agree with a fixing.
use Rattle.std.specs.Prelude.{◌≡◌, ℕ, ◌<◌, Bool, true, ◌||◌, List, [], ◌∷◌, ◌++◌, Option, Some, None, Result, Ok, Err, length, nat_le, nat_lt, if◌then◌else◌}
use Rattle.std.specs.List.{AllByRecursion, list_any}
use Rattle.base_kit.specs.declared.ids.Community.{Community}
use Rattle.base_kit.specs.Sets.{has}
use Rattle.dd_core.specs.Restrict.{IsPartOf}
use Rattle.dd_core.specs.Sets.{Shown, Means, value_of}
use Rattle.canon_policy.specs.declared.fixing.Fixing.{Fixing}
use Rattle.canon_policy.specs.declared.lists.CanonRefusal.{CanonRefusal}
use Rattle.canon_policy.specs.declared.lists.CanonRefusal.TheVariants.{NoCanon, Memory}
use Rattle.canon_policy.specs.declared.parts.PartNodes.{PartNodes}
use Rattle.canon_policy.specs.declared.parts.PartNodes.TheVariants.{Told, Carried}
use Rattle.canon_policy.specs.declared.parts.Nodes.{Nodes}
use Rattle.canon_policy.specs.Fixings.{Part, Asked, agreeing}
use Rattle.canon_policy.specs.Fixings.Part.{number, community}

-- the nodes are nodes of the store
abbrev pub AreInside : Shown → List ℕ → Type 0
AreInside shown nodes = AllByRecursion (λ node. node < length shown.nodes) nodes

abbrev pub IsPartInside : Shown → PartNodes → Type 0
IsPartInside shown (Told nodes) = AreInside shown nodes
IsPartInside shown (Carried c node) = (has shown.universe c.0 ≡ true) × (node < length shown.nodes)

pub record AreFunctionNodesInside (shown : Shown) (nodes : Nodes) : Type 0 where
  pub permit : nodes.permit < length shown.nodes
  pub rest : nodes.rest < length shown.nodes
  pub parts : AllByRecursion (IsPartInside shown) nodes.parts

-- all nodes have one value on both sets
abbrev pub AgreeAt : Shown → List ℕ → List ℕ → List ℕ → Type 0
AgreeAt shown nodes a b = AllByRecursion (λ node. value_of shown a node ≡ value_of shown b node) nodes

-- the part has one number on two sets exactly if each node has one value on both
pub record NodesTellPart (shown : Shown) (nodes : List ℕ) (part : List ℕ → ℕ) : Type 0 where
  pub same : (a b : List ℕ) → AgreeAt shown nodes a b → part a ≡ part b
  pub apart : (a b : List ℕ) → part a ≡ part b → AgreeAt shown nodes a b

-- on the sets that agree with a fixing
abbrev pub IsTold : Shown → Fixing → PartNodes → Part → Type 0
IsTold shown fixing (Told nodes) (number part) = NodesTellPart shown nodes (λ set. part (agreeing fixing set))
IsTold shown fixing (Carried c node) (community d test) = (c.0 ≡ d) × Means shown node (λ set. test (agreeing fixing set))
IsTold shown fixing _ _ = ⊥

abbrev pub ArePartsTold : Shown → Fixing → List PartNodes → List Part → Type 0
ArePartsTold shown fixing [] [] = Unit {0}
ArePartsTold shown fixing [] (part ∷ parts) = ⊥
ArePartsTold shown fixing (nodes ∷ more) [] = ⊥
ArePartsTold shown fixing (nodes ∷ more) (part ∷ parts) = IsTold shown fixing nodes part × ArePartsTold shown fixing more parts

pub record AreNodesOf (shown : Shown) (fixing : Fixing) (nodes : Nodes) (asked : Asked) : Type 0 where
  pub permit : Means shown nodes.permit (λ set. asked.accepted (agreeing fixing set))
  pub rest : Means shown nodes.rest (λ set. asked.kept (agreeing fixing set))
  pub parts : ArePartsTold shown fixing nodes.parts asked.parts

abbrev pub community_number : Community → ℕ
community_number c = c.0

-- the lesser of two numbers, if there are any
abbrev pub lesser : Option ℕ → Option ℕ → Option ℕ
lesser None b = b
lesser (Some a) None = Some a
lesser (Some a) (Some b) = if nat_le a b then Some a else Some b

-- each node has on a set the value that the other has where the set is made to agree
abbrev pub IsFixed : Shown → Shown → Fixing → ℕ → ℕ → Type 0
IsFixed old new alone n m = Means new m (λ set. value_of old (agreeing alone set) n)

abbrev pub AreFixed : Shown → Shown → Fixing → List ℕ → List ℕ → Type 0
AreFixed old new alone [] [] = Unit {0}
AreFixed old new alone [] (m ∷ ms) = ⊥
AreFixed old new alone (n ∷ ns) [] = ⊥
AreFixed old new alone (n ∷ ns) (m ∷ ms) = IsFixed old new alone n m × AreFixed old new alone ns ms

abbrev pub IsPartFixed : Shown → Shown → Fixing → PartNodes → PartNodes → Type 0
IsPartFixed old new alone (Told ns) (Told ms) = AreFixed old new alone ns ms
IsPartFixed old new alone (Carried c n) (Carried d m) = (c ≡ d) × IsFixed old new alone n m
IsPartFixed old new alone _ _ = ⊥

abbrev pub ArePartsFixed : Shown → Shown → Fixing → List PartNodes → List PartNodes → Type 0
ArePartsFixed old new alone [] [] = Unit {0}
ArePartsFixed old new alone [] (m ∷ ms) = ⊥
ArePartsFixed old new alone (n ∷ ns) [] = ⊥
ArePartsFixed old new alone (n ∷ ns) (m ∷ ms) = IsPartFixed old new alone n m × ArePartsFixed old new alone ns ms

pub record AreNodesFixed (old new : Shown) (alone : Fixing) (nodes made : Nodes) : Type 0 where
  pub permit : IsFixed old new alone nodes.permit made.permit
  pub rest : IsFixed old new alone nodes.rest made.rest
  pub parts : ArePartsFixed old new alone nodes.parts made.parts

-- all that it fixes are communities of the universe
pub record IsFixingWithin (universe : List ℕ) (fixing : Fixing) : Type 0 where
  pub present : IsPartOf universe fixing.present
  pub absent : IsPartOf universe fixing.absent

-- more fixings than a list has entries, or one with more communities present than a line names
abbrev pub is_broad : Fixing → Bool
is_broad fixing = nat_lt 32 (length fixing.present)

unfoldable pub are_over : List Fixing → Bool
are_over fixings = nat_lt 65535 (length fixings) || list_any is_broad fixings

-- the fixings came last, or with them there are too many
abbrev pub IsWalked : List Fixing → List Fixing → Result (Unit {0}) CanonRefusal → List Fixing → Type 0
IsWalked old new (Ok done) fixings = new ≡ old ++ fixings
IsWalked old new (Err NoCanon) fixings = are_over (old ++ fixings) ≡ true
IsWalked old new (Err Memory) fixings = Unit {0}

abbrev pub IsWalkedFromNothing : Result (List Fixing) CanonRefusal → List Fixing → Type 0
IsWalkedFromNothing (Ok found) fixings = found ≡ fixings
IsWalkedFromNothing (Err NoCanon) fixings = are_over fixings ≡ true
IsWalkedFromNothing (Err Memory) fixings = Unit {0}
