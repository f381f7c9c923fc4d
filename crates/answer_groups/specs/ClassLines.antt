-- The text of the command `classes`: a line for each class, in order.
use Rattle.std.specs.Prelude.{ℕ, List, [], ◌++◌, codes, decimal, flat_map, slice_get, Option, Some, None}
use Rattle.std.specs.List.{enumerate_from}
use Rattle.std.specs.Option.{option_map_or}
use Rattle.base_kit.specs.Prefixes.{Prefix}
use Rattle.cfg_ast.specs.declared.network.Network.{Network}
use Rattle.cfg_ast.specs.declared.network.Router.{Router}
use Rattle.cfg_ast.specs.declared.classes.DestClass.{DestClass}
use Rattle.cfg_ast.specs.declared.classes.Origin.{Origin}
use Rattle.cfg_ast.specs.meaning.Classes.{classes_of}
use Rattle.cfg_ast.specs.printing.Printed.{prefix_text}

-- the name of a router by its place
abbrev pub router_name_at : Network → ℕ → List ℕ
router_name_at network place = option_map_or (λ (router : Router). router.name) (slice_get network.routers place) []

-- a prefix behind a blank
abbrev pub prefix_word : Prefix → List ℕ
prefix_word p = codes " " ++ prefix_text p

abbrev pub cost_suffix : Option ℕ → List ℕ
cost_suffix None = []
cost_suffix (Some cost) = codes ":" ++ decimal cost

-- the name of an originating router behind a blank, in OSPF with its cost
abbrev pub origin_word : Network → Origin → List ℕ
origin_word network origin = codes " " ++ router_name_at network origin.router ++ cost_suffix origin.cost

-- the line of a class with its number
abbrev pub class_line : Network → ℕ × DestClass → List ℕ
class_line network (number, class) =
    codes "class " ++ decimal number ++ codes " prefixes" ++ flat_map prefix_word class.prefixes ++ codes " origins" ++ flat_map (origin_word network) class.origins ++ codes "\n"

-- the lines of these classes, numbered from 1
abbrev pub class_lines : Network → List DestClass → List ℕ
class_lines network classes = flat_map (class_line network) (enumerate_from 1 classes)

-- the output of `classes`
abbrev pub classes_text : Network → List ℕ
classes_text network = class_lines network (classes_of network)
