-- The names of classes: those of a few in a list of pairs. The table is asked first.
use Rattle.std.specs.Prelude.{ℕ, List, [], ◌∷◌, Option, Some, None, nat_eq, if◌then◌else◌}
use Rattle.std.specs.Option.{option_or}
use Rattle.std.specs.declared.hash.FoldHasher.{FoldHasher}
use Rattle.std.specs.declared.hash.BuildHasherDefault.{BuildHasherDefault}
use Rattle.std.specs.HashMap.{get, HashMap}
use Rattle.refine_partition.specs.declared.class_names.ClassNames.{ClassNames as NamesOf}

-- the name of the last pair with this class, or what was found before
abbrev pub named_among : {V : Type 0} → ℕ → List (ℕ × V) → Option V → Option V
named_among class [] found = found
named_among class (pair ∷ pairs) found = named_among class pairs (if nat_eq pair.0 class then Some pair.1 else found)

-- the name in the table, if there is one
abbrev pub table_name : {V : Type 0} → Option (HashMap ℕ V (BuildHasherDefault FoldHasher)) → ℕ → Option V
table_name None class = None
table_name (Some table) class = get nat_eq table class

abbrev pub class_name : {V : Type 0} → NamesOf V → ℕ → Option V
class_name names class = option_or (table_name names.table class) (named_among class names.few.items None)

-- names that are numbers
abbrev pub ClassNames : Type 0
ClassNames = NamesOf ℕ
