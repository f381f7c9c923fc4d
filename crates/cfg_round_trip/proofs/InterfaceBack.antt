-- The printed lines of an interface are read back as the interface.
use Rattle.std.proofs.Common.{◌≡◌, ℕ, Bool, true, false, List, [], ◌∷◌, ◌++◌, Option, Some, None, Ok, refl}
use Rattle.std.specs.Prelude.{IfSome}
use Rattle.std.specs.Option.{option_map}
use Rattle.cfg_ast.specs.meaning.Addresses.{Address}
use Rattle.cfg_ast.specs.declared.interface.Interface.{Interface}
use Rattle.cfg_ast.specs.declared.items.Scope.TheVariants as scope
use Rattle.cfg_ast.specs.declared.items.RouterItem.{RouterItem}
use Rattle.cfg_ast.specs.text.TextLines.{TextLine}
use Rattle.cfg_ast.specs.text.RouterForms.{router_item_of}
use Rattle.cfg_ast.specs.text.Stanzas.{set_interface}
use Rattle.cfg_ast.specs.text.Reading.{in_interface, take_inner}
use Rattle.cfg_ast.specs.printing.Printed.{line_of_given, line_if, closing, ip_address_line, cost_line, shutdown_line}
use Rattle.cfg_ast.specs.printing.Bare.{bare_address, bare_interface}
use Rattle.cfg_ast.specs.printing.WellFormed.{IsBetween, IsWellFormedAddress, IsWellFormedInterface}
use Rattle.cfg_round_trip.proofs.ItemsBack.{address_item, cost_item, shutdown_item}
use Rattle.cfg_round_trip.proofs.ReadBack.{Inner, inner_none, inner_then, inner_line, inner_closing}

taken : (l : TextLine) (i j : Interface) (said : RouterItem) → router_item_of scope.Interface l.number l.words ≡ Ok said →
    set_interface l.number said i ≡ Ok j → take_inner l (in_interface i) ≡ Ok (in_interface j)
unfolding take_inner
taken l i j said read set = rw (read, set) refl

abbrev interface_with : List ℕ → Option Address → Option ℕ → Bool → Interface
interface_with name address cost shut = record { name = name; line = 0; address = address; cost = cost; shut = shut }

address_stage : (name : List ℕ) (o : Option Address) → IfSome o IsWellFormedAddress →
    Inner (line_of_given ip_address_line o) (in_interface (interface_with name None None false))
    (in_interface (interface_with name (option_map bare_address o) None false))
unfolding ip_address_line set_interface
address_stage name None is = inner_none _
address_stage name (Some a) is = inner_line (ip_address_line a) _ _ refl refl (taken (ip_address_line a) _ _ _ (address_item a is) refl)

cost_stage : (name : List ℕ) (address : Option Address) (o : Option ℕ) → IfSome o (IsBetween 1 65535) →
    Inner (line_of_given cost_line o) (in_interface (interface_with name address None false)) (in_interface (interface_with name address o false))
unfolding cost_line set_interface
cost_stage name address None is = inner_none _
cost_stage name address (Some cost) is = inner_line (cost_line cost) _ _ refl refl (taken (cost_line cost) _ _ _ (cost_item cost is) refl)

shut_stage : (name : List ℕ) (address : Option Address) (cost : Option ℕ) (shut : Bool) →
    Inner (line_if shut shutdown_line) (in_interface (interface_with name address cost false)) (in_interface (interface_with name address cost shut))
unfolding set_interface
shut_stage name address cost false = inner_none _
shut_stage name address cost true = inner_line shutdown_line _ _ refl refl (taken shutdown_line _ _ _ shutdown_item refl)

-- the lines behind the first
abbrev pub interface_rest : Interface → List TextLine
interface_rest i = line_of_given ip_address_line i.address ++ line_of_given cost_line i.cost ++ line_if i.shut shutdown_line ++ closing ∷ []

pub interface_inner : (i : Interface) → IsWellFormedInterface i →
    Inner (interface_rest i) (in_interface (interface_with i.name None None false)) (in_interface (bare_interface i))
interface_inner i is =
    let address = option_map bare_address i.address in
    inner_then (line_of_given ip_address_line i.address ++ line_of_given cost_line i.cost ++ line_if i.shut shutdown_line) (closing ∷ []) _ _ _
    (inner_then (line_of_given ip_address_line i.address ++ line_of_given cost_line i.cost) (line_if i.shut shutdown_line) _ _ _
    (inner_then (line_of_given ip_address_line i.address) (line_of_given cost_line i.cost) _ _ _ (address_stage i.name i.address is.address)
    (cost_stage i.name address i.cost is.cost))
    (shut_stage i.name address i.cost i.shut))
    (inner_closing (in_interface (bare_interface i)))
