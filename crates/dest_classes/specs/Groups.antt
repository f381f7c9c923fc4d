-- Prefixes in groups by what tells classes apart.
use Rattle.std.specs.Prelude.{ℕ, Bool, ◌&&◌, List, [], ◌∷◌, ◌++◌, nat_eq, if◌then◌else◌}
use Rattle.base_kit.specs.Prefixes.{Prefix}
use Rattle.cfg_ast.specs.declared.classes.DestClass.{DestClass}
use Rattle.cfg_ast.specs.declared.classes.Origin.{Origin}
use Rattle.cfg_ast.specs.meaning.Classes.{same_items, same_origin}
use Rattle.dest_classes.specs.declared.groups.Signature.{Signature}
use Rattle.dest_classes.specs.declared.cells.Member.{Member}
use Rattle.dest_classes.specs.contracts.groups.SignaturePartialEq.TheImpl as signature_eq

-- how `==` compares signatures
abbrev pub same_signature : Signature → Signature → Bool
same_signature = (signature_eq.ghosts).eq

-- the prefixes with these originators and of this cell
pub record Group : Type 0 where
  pub origins : List Origin
  pub cell : ℕ
  pub prefixes : List Prefix

abbrev pub shown_group : Signature × List Prefix → Group
shown_group e = record { origins = e.0.origins.items; cell = e.0.cell; prefixes = e.1 }

abbrev pub belongs : Member → Group → Bool
belongs member group = same_items same_origin member.origins group.origins && nat_eq member.cell group.cell

-- a member put into its group, or into a new one at the end
abbrev pub grouped_with : Member → List Group → List Group
grouped_with member [] = record { origins = member.origins; cell = member.cell; prefixes = member.prefix ∷ [] } ∷ []
grouped_with member (group ∷ groups) = if belongs member group then record group { prefixes = group.prefixes ++ member.prefix ∷ [] } ∷ groups else group
    ∷ grouped_with member groups

abbrev pub grouped_with_all : List Member → List Group → List Group
grouped_with_all [] groups = groups
grouped_with_all (member ∷ members) groups = grouped_with_all members (grouped_with member groups)

abbrev pub class_from : Group → DestClass
class_from group = record { prefixes = group.prefixes; origins = group.origins }
