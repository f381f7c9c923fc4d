-- Laws of classes and of the problems that are built for them.
use Rattle.std.specs.Prelude.{◌≡◌, ℕ, Bool, [], List, Option, None, Contains}
use Rattle.std.specs.List.{AllByRecursion}
use Rattle.base_kit.specs.Prefixes.{Prefix}
use Rattle.cfg_ast.specs.declared.classes.DestClass.{DestClass}
use Rattle.cfg_ast.specs.declared.network.Network.{Network}
use Rattle.cfg_ast.specs.declared.network.Router.{Router}
use Rattle.cfg_ast.specs.meaning.Classes.{classes_of}
use Rattle.cfg_ast.specs.meaning.PolicyFaults.{undefined_list_lines, delete_list_lines, communities_of}
use Rattle.cfg_ast.specs.meaning.RouterFaults.{protocol_of}
use Rattle.cfg_ast.specs.printing.WellFormed.{IsWellFormed}
use Rattle.policy_dd.specs.Imports.{AcceptsSome, HaveOnePreference}
use Rattle.route_maps.specs.declared.plain.Imported.{Imported}
use Rattle.specialize.specs.OnePrefix.{plain_of}
use Rattle.srp_core.specs.ActMaps.{IsPrintableAct, IsActWithin}
use Rattle.srp_core.specs.Problem.{Problem}
use Rattle.srp_build.specs.ActOrder.{AreActsByFirstUse}
use Rattle.srp_build.specs.FirstActs.{HasFirstActs}

-- A network without a `router` line has no class.
abbrev pub NoClassWithoutProcess : Type 0
NoClassWithoutProcess = (n : Network) → protocol_of n ≡ None → classes_of n ≡ []

-- The maps of a router mean the same for all prefixes of a class.
abbrev pub MapsOfClass : Type 0
MapsOfClass = (n : Network) (class : DestClass) (p q : Prefix) → Contains (classes_of n) class → Contains class.prefixes p → Contains class.prefixes q →
    (router : Router) → Contains n.routers router
    → (name list : Option (List ℕ)) (inbound : Bool) → plain_of router name list p inbound ≡ plain_of router name list q inbound

-- Suppose that a first import accepts something, and that the routes which it and each of two others
-- accept have one preference. Then the routes of these two others have one preference as well. So a
-- router is lone exactly if some edge, the first itself included, does not agree with the first.
abbrev pub FirstDecidesLone : Type 0
FirstDecidesLone = (first f g : List ℕ → Option Imported) → AcceptsSome first → HaveOnePreference first f → HaveOnePreference first g → HaveOnePreference f g

-- The acts of a problem that are those of first edges can be printed, if the network names only lists
-- that it defines, and its deletion lists have one community a line.
abbrev pub ActsPrint : Type 0
ActsPrint = (n : Network) (p : Prefix) (problem : Problem) → IsWellFormed n → undefined_list_lines n ≡ [] → delete_list_lines n ≡ [] →
    AreActsByFirstUse problem → HasFirstActs n p problem → AllByRecursion IsPrintableAct problem.acts

-- They name only communities that the network names.
abbrev pub ActsStayWithin : Type 0
ActsStayWithin = (n : Network) (p : Prefix) (problem : Problem) → AreActsByFirstUse problem → HasFirstActs n p problem →
    AllByRecursion (IsActWithin (communities_of n)) problem.acts
