-- What is refused of a request: classes, names and pairs that the network does not have.
use Rattle.std.specs.Prelude.{ℕ, List, ◌++◌, codes, ◌≡◌, Option, Some, None, Result, Ok, Err}
use Rattle.cfg_ast.specs.declared.network.Network.{Network}
use Rattle.cfg_ast.specs.meaning.Classes.{classes_of}
use Rattle.cfg_ast.specs.meaning.Topology.{links_of}
use Rattle.ask_words.specs.NameLists.{word_of_lost}
use Rattle.ask_words.specs.declared.request.Lost.{Lost}
use Rattle.ask_words.specs.declared.request.Request.{Request}
use Rattle.ask_names.specs.Networks.{names_of}
use Rattle.ask_names.specs.Routers.{unknown_name, unjoined}
use Rattle.ask_names.specs.Selection.{selected}
use Rattle.ask_names.specs.declared.selection.Span.{Span}
use Rattle.ask_requests.specs.declared.fault.Fault.{Fault}
use Rattle.ask_requests.specs.declared.fault.Fault.TheVariants.{NoClass, UnknownRouter, NoLink}

abbrev pub link_fault : Option Lost → Option Fault
link_fault None = None
link_fault (Some pair) = Some (NoLink (word_of_lost pair))

abbrev pub name_fault : Option (List ℕ) → Option Lost → Option Fault
name_fault None pair = link_fault pair
name_fault (Some name) pair = Some (UnknownRouter name)

abbrev pub class_fault : Option Span → Option (List ℕ) → Option Lost → Option Fault
class_fault None name pair = Some NoClass
class_fault (Some span) name pair = name_fault name pair

-- The classes are looked up before the names, and the names before the pairs.
unfoldable pub request_fault : Network → Request → Option Fault
request_fault network request = class_fault (selected request.classes (classes_of network)) (unknown_name (names_of network) request)
    (unjoined (names_of network) (links_of network) request.down)

abbrev pub fault_kind : Fault → List ℕ
fault_kind NoClass = codes "NoClass"
fault_kind (UnknownRouter name) = codes "UnknownRouter"
fault_kind (NoLink pair) = codes "NoLink"

-- what the network does not have, where this word was given for the classes
abbrev pub named_by : List ℕ → Fault → List ℕ
named_by word NoClass = word
named_by word (UnknownRouter name) = name
named_by word (NoLink pair) = pair

-- the reason of a refusal
abbrev pub reason_of : List ℕ → Fault → List ℕ
reason_of word fault = fault_kind fault ++ (codes " " ++ named_by word fault)

-- the places of the classes, or the fault that decides
abbrev pub IsSpanOf : Network → Request → Result Span Fault → Type 0
IsSpanOf network request (Ok span) = (selected request.classes (classes_of network) ≡ Some span) × (request_fault network request ≡ None)
IsSpanOf network request (Err fault) = request_fault network request ≡ Some fault
