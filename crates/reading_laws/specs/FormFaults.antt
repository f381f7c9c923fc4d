-- The faults of form of the lines of running configurations in the style of Cisco IOS ("show
-- running-config"; Cisco IOS command references for interfaces, OSPF, BGP and route maps): each line
-- is judged by the lines before it, and the first line with a fault decides.
use Rattle.std.specs.Prelude.{◌≡◌, ℕ, Bool, true, false, ◌&&◌, List, [], ◌∷◌, ◌==◌, if◌then◌else◌, Option, Some, None, Result, Ok, Err, bytes_eq}
use Rattle.std.specs.List.{list_any, cons_option}
use Rattle.base_kit.specs.Prefixes.{Prefix, same_prefix}
use Rattle.cfg_ast.specs.declared.line.Line.{Line}
use Rattle.cfg_ast.specs.declared.items.Scope.TheVariants as scope
use Rattle.cfg_ast.specs.declared.items.RouterItem.{RouterItem}
use Rattle.cfg_ast.specs.declared.items.RouterItem.TheVariants as item
use Rattle.cfg_ast.specs.declared.items.PolicyScope.TheVariants as policy_scope
use Rattle.cfg_ast.specs.declared.items.PolicyItem.{PolicyItem}
use Rattle.cfg_ast.specs.declared.items.PolicyItem.TheVariants as policy
use Rattle.cfg_ast.specs.declared.refusal.FormFault.{FormFault}
use Rattle.cfg_ast.specs.declared.refusal.Kind.TheVariants as kind
use Rattle.cfg_ast.specs.declared.refusal.ReadRefusal.{ReadRefusal}
use Rattle.cfg_ast.specs.declared.refusal.ReadRefusal.TheVariants as refusal
use Rattle.cfg_ast.specs.text.Lines.{lines_of}
use Rattle.cfg_ast.specs.text.TextLines.{TextLine}
use Rattle.cfg_ast.specs.text.RouterForms.{router_item_of}
use Rattle.cfg_ast.specs.text.PolicyForms.{policy_item_of}
use Rattle.cfg_ast.specs.text.PolicyLines.{is_policy_line}
use Rattle.cfg_ast.specs.text.Stanzas.{refusal_of}
use Rattle.cfg_ast.specs.text.Reading.{at_start, steps, ending, texts_of, network_of_text}

-- ---- what may stand once

-- what a top line gives a router; entries by the name of their list or map, and their sequence number
pub data Thing : Type 0 where
  host_name : Thing
  interface : List ℕ → Thing
  bgp : Thing
  ospf : Thing
  prefix_entry : List ℕ → ℕ → Thing
  map_entry : List ℕ → ℕ → Thing

-- what a line of a stanza gives: an interface, a BGP process, its neighbour of an address, or an entry of
-- a route map
pub data StanzaPart : Type 0 where
  address : StanzaPart
  cost : StanzaPart
  network : Prefix → StanzaPart
  preference : StanzaPart
  remote_as : ℕ → StanzaPart
  list_in : ℕ → StanzaPart
  list_out : ℕ → StanzaPart
  map_in : ℕ → StanzaPart
  map_out : ℕ → StanzaPart
  match_prefixes : StanzaPart
  match_communities : StanzaPart
  set_preference : StanzaPart
  set_communities : StanzaPart
  set_comm_list : StanzaPart
  set_prepend : StanzaPart

-- what may stand once: a thing, or a part of the thing whose stanza it stands in
pub data What : Type 0 where
  whole : Thing → What
  part : Thing → StanzaPart → What

-- whether two are the same
abbrev pub same_thing : Thing → Thing → Bool
same_thing host_name host_name = true
same_thing (interface m) (interface n) = bytes_eq m n
same_thing bgp bgp = true
same_thing ospf ospf = true
same_thing (prefix_entry m j) (prefix_entry n k) = bytes_eq m n && (j == k)
same_thing (map_entry m j) (map_entry n k) = bytes_eq m n && (j == k)
same_thing _ _ = false

abbrev pub same_part : StanzaPart → StanzaPart → Bool
same_part address address = true
same_part cost cost = true
same_part (network p) (network q) = same_prefix p q
same_part preference preference = true
same_part (remote_as a) (remote_as b) = a == b
same_part (list_in a) (list_in b) = a == b
same_part (list_out a) (list_out b) = a == b
same_part (map_in a) (map_in b) = a == b
same_part (map_out a) (map_out b) = a == b
same_part match_prefixes match_prefixes = true
same_part match_communities match_communities = true
same_part set_preference set_preference = true
same_part set_communities set_communities = true
same_part set_comm_list set_comm_list = true
same_part set_prepend set_prepend = true
same_part _ _ = false

abbrev pub same_what : What → What → Bool
same_what (whole t) (whole u) = same_thing t u
same_what (part t p) (part u q) = same_thing t u && same_part p q
same_what _ _ = false

-- ---- what a line says

-- the stanza to which indented lines belong: none, one that is not read, or that of a thing
pub data Open : Type 0 where
  nothing : Open
  unread : Open
  within : Thing → Open

-- what a line gives that may stand once, the neighbour that it adds to, the stanza that it opens as a
-- top line, and whether it ends the router
pub record Saying : Type 0 where
  pub gives : Option What
  pub peer : Option ℕ
  pub opens : Open
  pub ends : Bool

-- a line that gives nothing that may stand once
abbrev pub silent : Saying
silent = record { gives = None; peer = None; opens = nothing; ends = false }

-- a line that gives this
abbrev pub giving : What → Saying
giving w = record { gives = Some w; peer = None; opens = nothing; ends = false }

-- a line that gives a thing and opens its stanza
abbrev pub opening_stanza : Thing → Saying
opening_stanza t = record { gives = Some (whole t); peer = None; opens = within t; ends = false }

-- a line that adds to a neighbour
abbrev pub adding : ℕ → Option What → Saying
adding addr w = record { gives = w; peer = Some addr; opens = nothing; ends = false }

-- a line that is not read, with its stanza
abbrev pub ignoring : Saying
ignoring = record { gives = None; peer = None; opens = unread; ends = false }

-- the line `end`
abbrev pub end_of_router : Saying
end_of_router = record { gives = None; peer = None; opens = nothing; ends = true }

-- a top line
abbrev pub top_saying : RouterItem → Saying
top_saying (item.Hostname _) = giving (whole host_name)
top_saying (item.Interface name) = opening_stanza (interface name)
top_saying (item.Bgp _) = opening_stanza bgp
top_saying (item.Ospf _) = opening_stanza ospf
top_saying item.End = end_of_router
top_saying item.Ignored = ignoring
top_saying _ = silent

-- a top line of a list or a route map
abbrev pub list_saying : PolicyItem → Saying
list_saying (policy.PrefixEntry name e) = giving (whole (prefix_entry name e.seq))
list_saying (policy.MapHead name e) = opening_stanza (map_entry name e.seq)
list_saying policy.Ignored = ignoring
list_saying _ = silent

-- a line of an interface
abbrev pub interface_saying : Thing → RouterItem → Saying
interface_saying t (item.IpAddress _) = giving (part t address)
interface_saying t (item.Cost _) = giving (part t cost)
interface_saying t _ = silent

-- a line of a BGP process: the lists and maps of a neighbour stand once in each direction
abbrev pub bgp_saying : RouterItem → Saying
bgp_saying (item.Network net) = giving (part bgp (network net.prefix))
bgp_saying (item.Base _) = giving (part bgp preference)
bgp_saying (item.RemoteAs addr _) = giving (part bgp (remote_as addr))
bgp_saying (item.PeerShut addr) = adding addr None
bgp_saying (item.PeerSends addr) = adding addr None
bgp_saying (item.PeerList addr _ true) = adding addr (Some (part bgp (list_in addr)))
bgp_saying (item.PeerList addr _ false) = adding addr (Some (part bgp (list_out addr)))
bgp_saying (item.PeerMap addr _ true) = adding addr (Some (part bgp (map_in addr)))
bgp_saying (item.PeerMap addr _ false) = adding addr (Some (part bgp (map_out addr)))
bgp_saying _ = silent

-- a line of an OSPF process: a setting that stands twice says the same twice
abbrev pub ospf_saying : RouterItem → Saying
ospf_saying _ = silent

-- a line of an entry of a route map: each kind stands once
abbrev pub entry_saying : Thing → PolicyItem → Saying
entry_saying t (policy.MatchPrefixes _) = giving (part t match_prefixes)
entry_saying t (policy.MatchComms _ _) = giving (part t match_communities)
entry_saying t (policy.Lp _) = giving (part t set_preference)
entry_saying t (policy.Comms _) = giving (part t set_communities)
entry_saying t (policy.Delete _) = giving (part t set_comm_list)
entry_saying t (policy.Prepend _) = giving (part t set_prepend)
entry_saying t _ = silent

-- what the item says that a line is read as, or the fault of its head or form
abbrev pub means : {X : Type 0} → (X → Saying) → Result X FormFault → Result Saying FormFault
means saying (Ok x) = Ok (saying x)
means saying (Err fault) = Err fault

-- a top line, by the table that its first words choose
abbrev pub top_says : TextLine → Result Saying FormFault
top_says l =
    if is_policy_line l.words then means list_saying (policy_item_of policy_scope.Top l.number l.words)
    else means top_saying (router_item_of scope.Top l.number l.words)

-- a line of the stanza of a thing; host names and entries of prefix lists have none
abbrev pub stanza_says : TextLine → Thing → Result Saying FormFault
stanza_says l (interface name) = means (interface_saying (interface name)) (router_item_of scope.Interface l.number l.words)
stanza_says l bgp = means bgp_saying (router_item_of scope.Bgp l.number l.words)
stanza_says l ospf = means ospf_saying (router_item_of scope.Ospf l.number l.words)
stanza_says l (map_entry name seq) = means (entry_saying (map_entry name seq)) (policy_item_of policy_scope.Entry l.number l.words)
stanza_says l host_name = Ok silent
stanza_says l (prefix_entry _ _) = Ok silent

-- an indented line, by the stanza that is open
abbrev pub inner_says : TextLine → Open → Result Saying FormFault
inner_says l nothing = Ok silent
inner_says l unread = Ok silent
inner_says l (within t) = stanza_says l t

-- ---- what the lines before give, the nearest first

-- a line that is not indented
abbrev pub is_top : TextLine → Bool
is_top l = l.indent == 0

-- the stanza that a top line opens
abbrev pub opens_of : Result Saying FormFault → Open
opens_of (Ok s) = s.opens
opens_of (Err fault) = nothing

-- the stanza that the nearest top line opens
abbrev pub open_of : List TextLine → Open
open_of [] = nothing
open_of (l ∷ past) = if is_top l then opens_of (top_says l) else open_of past

-- what a line says after the lines before it
unfoldable pub says : List TextLine → TextLine → Result Saying FormFault
says past l = if is_top l then top_says l else inner_says l (open_of past)

-- with what one more line gives: after the end of a router nothing is given to the next
abbrev pub given_with_line : Result Saying FormFault → List What → List What
given_with_line (Ok s) ws = if s.ends then [] else cons_option s.gives ws
given_with_line (Err fault) ws = ws

-- what the lines of this router give that may stand once
abbrev pub given : List TextLine → List What
given [] = []
given (l ∷ past) = given_with_line (says past l) (given past)

-- one of them is this
unfoldable pub is_given : List TextLine → What → Bool
is_given past w = list_any (λ (v : What). same_what v w) (given past)

-- ---- the fault of a line

-- the first fault, or else the second
abbrev pub fault_or_else : Option ReadRefusal → Option ReadRefusal → Option ReadRefusal
fault_or_else None b = b
fault_or_else (Some a) b = Some a

-- the fault, where the condition holds
abbrev pub when : Bool → ReadRefusal → Option ReadRefusal
when true fault = Some fault
when false fault = None

-- an indented line where no stanza is open
abbrev pub homeless : ℕ → Open → Option ReadRefusal
homeless n nothing = Some (refusal.At n kind.Misplaced)
homeless n unread = None
homeless n (within t) = None

-- a line that adds to a neighbour before the neighbour's `remote-as` line
abbrev pub stranger : List TextLine → ℕ → Option ℕ → Option ReadRefusal
stranger past n None = None
stranger past n (Some addr) = if is_given past (part bgp (remote_as addr)) then None else Some (refusal.At n kind.Misplaced)

-- what may stand once, and stands a second time
abbrev pub repeated : List TextLine → ℕ → Option What → Option ReadRefusal
repeated past n None = None
repeated past n (Some w) = when (is_given past w) (refusal.At n kind.Repeated)

-- the end of a router that has no host name
abbrev pub nameless : List TextLine → ℕ → Bool → Option ReadRefusal
nameless past n false = None
nameless past n true = if is_given past (whole host_name) then None else Some (refusal.At n kind.NoHostname)

-- the faults of a line in their order: its head and form, its place, what it repeats, and a missing host
-- name
abbrev pub saying_fault : List TextLine → ℕ → Result Saying FormFault → Option ReadRefusal
saying_fault past n (Err fault) = Some (refusal_of n fault)
saying_fault past n (Ok s) = fault_or_else (stranger past n s.peer) (fault_or_else (repeated past n s.gives) (nameless past n s.ends))

-- the fault of a line after the lines before it
unfoldable pub fault_of : List TextLine → TextLine → Option ReadRefusal
fault_of past l = fault_or_else (if is_top l then None else homeless l.number (open_of past)) (saying_fault past l.number (says past l))

-- the fault of the first line that has one, the lines before the nearest first
abbrev pub first_form_fault : List TextLine → List TextLine → Option ReadRefusal
first_form_fault past [] = None
first_form_fault past (l ∷ ls) = fault_or_else (fault_of past l) (first_form_fault (l ∷ past) ls)

-- the fault, where there is one
abbrev pub fault_in : {X : Type 0} → Result X ReadRefusal → Option ReadRefusal
fault_in (Ok x) = None
fault_in (Err fault) = Some fault

-- Reading stops at the first line that has a fault by the lines before it, and at no other.
abbrev pub FirstFaultDecides : Type 0
FirstFaultDecides = (ls : List TextLine) → fault_in (steps at_start ls) ≡ first_form_fault [] ls

-- the fault of a text: of its lines as such, or else the first fault of form, or else a missing end
abbrev pub text_fault : List ℕ → Result (List Line) ReadRefusal → Option ReadRefusal
text_fault bs (Err fault) = Some fault
text_fault bs (Ok ls) = fault_or_else (first_form_fault [] (texts_of bs ls)) (fault_in (ending (texts_of bs ls)))

-- A text is refused with this fault, and with no other.
abbrev pub TextFaultDecides : Type 0
TextFaultDecides = (bs : List ℕ) → fault_in (network_of_text bs) ≡ text_fault bs (lines_of bs)
