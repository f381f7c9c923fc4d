-- Laws of canonical lists.
use Rattle.std.specs.Prelude.{◌≡◌, ℕ, true, List, Option, Some}
use Rattle.base_kit.specs.Sets.{IsAscending}
use Rattle.policy_dd.specs.Imports.{AreOneImport}
use Rattle.route_maps.specs.declared.plain.Imported.{Imported}
use Rattle.route_maps.specs.Maps.{import_of}
use Rattle.srp_core.specs.declared.route.Act.{Act}
use Rattle.srp_core.specs.Acts.{ActsAlike}
use Rattle.canon_policy.specs.declared.lists.CanonEdge.{CanonEdge}
use Rattle.canon_policy.specs.Functions.{on_sets}
use Rattle.canon_policy.specs.Plain.{IsPlain}
use Rattle.canon_policy.specs.Uniform.{IsUniform}
use Rattle.canon_policy.specs.Canonical.{canonical_lists_of}
use Rattle.canon_policy.specs.CanonicalProblem.{canonical_act}
use Rattle.srp_core.specs.ActMaps.{IsPrintableAct, IsActWithin}

-- Functions that import every set alike have equal lists.
abbrev pub EqualFunctionsHaveEqualLists : Type 0
EqualFunctionsHaveEqualLists = (universe : List ℕ) (f g : List ℕ → Option Imported) → AreOneImport f g
    → canonical_lists_of universe f ≡ canonical_lists_of universe g

-- The same holds of functions over two universes, if each is uniform over its own: the universe does not
-- matter.
abbrev pub UniverseDoesNotMatter : Type 0
UniverseDoesNotMatter = (universe other : List ℕ) (f g : List ℕ → Option Imported) → IsAscending universe → IsAscending other → IsUniform universe (on_sets f)
    → IsUniform other (on_sets g) → AreOneImport f g → canonical_lists_of universe f ≡ canonical_lists_of other g

-- What is written for an edge depends only on what it imports: acts that act alike have equal canonical
-- acts, or neither has one. This holds for all maps by which the acts were given, and for all other
-- communities that the networks name.
abbrev pub AlikeActsAreWrittenAlike : Type 0
AlikeActsAreWrittenAlike = (universe other : List ℕ) (first second : Act) → IsAscending universe → IsAscending other
    → IsPrintableAct first → IsPrintableAct second
    → IsActWithin universe first → IsActWithin other second → ActsAlike first second → canonical_act universe first ≡ canonical_act other second

-- The canonical lists of a function import every set as it does. Communities are sent.
abbrev pub CanonicalListsImportAlike : Type 0
CanonicalListsImportAlike = (universe : List ℕ) (f : List ℕ → Option Imported) (lists : CanonEdge) → IsAscending universe → IsPlain universe (on_sets f)
    → canonical_lists_of universe f ≡ Some lists → AreOneImport (import_of lists.out true lists.into) f

-- So functions with equal lists import every set alike.
abbrev pub EqualListsMeanEqualFunctions : Type 0
EqualListsMeanEqualFunctions = (universe : List ℕ) (f g : List ℕ → Option Imported) (lists : CanonEdge) → IsAscending universe
    → IsPlain universe (on_sets f) → IsPlain universe (on_sets g) → canonical_lists_of universe f ≡ Some lists
    → canonical_lists_of universe g ≡ Some lists → AreOneImport f g
