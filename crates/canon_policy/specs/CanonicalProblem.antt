-- The problem with the canonical acts of its edges. A canonical act depends only on what its edge
-- imports.
use Rattle.std.specs.Prelude.{◌≡◌, ◌≢◌, ℕ, Bool, true, List, ◌∷◌, ◌++◌, length, Option, Some, None, Result, Ok, Err, Contains, slice_index_or}
use Rattle.std.specs.List.{AllByRecursion}
use Rattle.std.specs.Option.{is_some, option_map}
use Rattle.base_kit.specs.declared.act_graph.Edge.{Edge}
use Rattle.cfg_ast.specs.printing.WellFormed.{IsBetween}
use Rattle.route_maps.specs.Maps.{import_of}
use Rattle.srp_core.specs.declared.route.Act.{Act}
use Rattle.srp_core.specs.declared.route.Act.TheVariants.{Import, Cost}
use Rattle.srp_core.specs.Problem.{Problem, act_of}
use Rattle.canon_policy.specs.declared.lists.CanonEdge.{CanonEdge}
use Rattle.canon_policy.specs.declared.problem.CanonSrpRefusal.{CanonSrpRefusal}
use Rattle.canon_policy.specs.declared.problem.CanonSrpRefusal.TheVariants.{NoCanon, Memory}
use Rattle.canon_policy.specs.Canonical.{canonical_lists_of}

-- a session with these lists, over which communities are sent
abbrev pub session_with : CanonEdge → Act
session_with lists = Import lists.out true lists.into

-- The canonical act: an import has the canonical lists of its function, and a cost stays.
unfoldable pub canonical_act : List ℕ → Act → Option Act
canonical_act universe (Import out sends into) = option_map session_with (canonical_lists_of universe (import_of out sends into))
canonical_act universe (Cost cost) = Some (Cost cost)

-- Each edge gets the canonical act in place of its act. Acts that no edge has stay as they are, and so
-- does all else.
pub record IsCanonicalProblem (universe : List ℕ) (old new : Problem) : Type 0 where
  pub protocol : new.protocol ≡ old.protocol
  pub names : new.names ≡ old.names
  pub numbers : new.numbers ≡ old.numbers
  pub init : new.init ≡ old.init
  pub lone : new.lone ≡ old.lone
  pub edges : new.edges ≡ old.edges
  pub count : length new.acts ≡ length old.acts
  pub used : (edge : Edge) → Contains old.edges edge → canonical_act universe (act_of old edge) ≡ Some (act_of new edge)
  pub unused : (place : ℕ) → ((edge : Edge) → Contains old.edges edge → edge.act ≢ place)
      → slice_index_or new.acts place (Cost 0) ≡ slice_index_or old.acts place (Cost 0)

-- the edge's act has canonical lists
abbrev pub has_canonical : List ℕ → Problem → Edge → Bool
has_canonical universe problem edge = is_some (canonical_act universe (act_of problem edge))

-- the place of the first edge, in the order of edges, whose act has no canonical lists
pub record IsFirstWithout (universe : List ℕ) (problem : Problem) (place : ℕ) : Type 0 where
  pub before : List Edge
  pub edge : Edge
  pub after : List Edge
  pub split : problem.edges ≡ before ++ edge ∷ after
  pub place_is : length before ≡ place
  pub none : canonical_act universe (act_of problem edge) ≡ None
  pub earlier : AllByRecursion (λ earlier. has_canonical universe problem earlier ≡ true) before

-- the problem with canonical acts, or the first edge without one, or out of memory
abbrev pub IsCanonicalOr : List ℕ → Problem → Result Problem CanonSrpRefusal → Type 0
IsCanonicalOr universe old (Ok new) = IsCanonicalProblem universe old new
IsCanonicalOr universe old (Err (NoCanon place)) = IsFirstWithout universe old place
IsCanonicalOr universe old (Err Memory) = Unit {0}

-- communities that a line can name: none of them is set aside
abbrev pub AreCommunities : List ℕ → Type 0
AreCommunities universe = AllByRecursion (IsBetween 1 4294901759) universe
