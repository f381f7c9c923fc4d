-- The network of a text: its lines, read one after the other.
use Rattle.std.specs.Prelude.{◌≡◌, ℕ, ◌-◌, Bool, true, false, ◌&&◌, List, [], ◌∷◌, ◌++◌, length, map, slice_get, ◌==◌, if◌then◌else◌, Option, Some, None, Result, Ok, Err, codes, bytes_eq, is_some}
use Rattle.std.specs.List.{list_any}
use Rattle.cfg_ast.specs.declared.network.Named.{Named}
use Rattle.cfg_ast.specs.declared.network.Network.{Network}
use Rattle.cfg_ast.specs.declared.network.Router.{Router}
use Rattle.cfg_ast.specs.declared.interface.Interface.{Interface}
use Rattle.cfg_ast.specs.declared.bgp.BgpProcess.{BgpProcess}
use Rattle.cfg_ast.specs.declared.ospf.OspfProcess.{OspfProcess}
use Rattle.cfg_ast.specs.declared.policy.MapEntry.{MapEntry}
use Rattle.cfg_ast.specs.declared.items.PolicyScope.TheVariants as policy_scope
use Rattle.cfg_ast.specs.declared.items.PolicyItem.{PolicyItem}
use Rattle.cfg_ast.specs.declared.items.PolicyItem.TheVariants as policy
use Rattle.cfg_ast.specs.text.PolicyForms.{policy_item_of}
use Rattle.cfg_ast.specs.text.PolicyLines.{is_policy_line, has_prefix_entry, with_prefix_entry, with_community_line, has_map_entry, with_map_entry, set_entry}
use Rattle.cfg_ast.specs.declared.policy.PrefixList.{PrefixList}
use Rattle.cfg_ast.specs.declared.policy.CommunityList.{CommunityList}
use Rattle.cfg_ast.specs.declared.policy.RouteMap.{RouteMap}
use Rattle.cfg_ast.specs.declared.line.Line.{Line}
use Rattle.cfg_ast.specs.declared.items.Scope.TheVariants as scope
use Rattle.cfg_ast.specs.declared.items.RouterItem.{RouterItem}
use Rattle.cfg_ast.specs.declared.items.RouterItem.TheVariants as item
use Rattle.cfg_ast.specs.declared.refusal.Kind.TheVariants as kind
use Rattle.cfg_ast.specs.declared.refusal.ReadRefusal.{ReadRefusal}
use Rattle.cfg_ast.specs.declared.refusal.ReadRefusal.TheVariants as refusal
use Rattle.cfg_ast.specs.text.Lines.{lines_of}
use Rattle.cfg_ast.specs.text.TextLines.{TextLine, text_line}
use Rattle.cfg_ast.specs.text.RouterForms.{router_item_of}
use Rattle.cfg_ast.specs.meaning.Meaning.{judged}
use Rattle.cfg_ast.specs.text.Stanzas.{said_at, once, set_interface, set_bgp, set_ospf}
use Rattle.cfg_ast.specs.text.Steps.{◌>>=◌}

-- the stanza to which indented lines belong
pub data Stanza : Type 0 where
  closed : Stanza
  ignored : Stanza
  in_interface : Interface → Stanza
  in_bgp : BgpProcess → Stanza
  in_ospf : OspfProcess → Stanza
  in_entry : List ℕ → MapEntry → Stanza

-- the router whose lines are being read
pub record Draft : Type 0 where
  pub name : Option Named
  pub interfaces : List Interface
  pub bgp : Option BgpProcess
  pub ospf : Option OspfProcess
  pub prefix_lists : List PrefixList
  pub community_lists : List CommunityList
  pub route_maps : List RouteMap
  pub stanza : Stanza

-- what the lines so far give
pub record State : Type 0 where
  pub routers : List Router
  pub draft : Draft

abbrev pub no_draft : Draft
no_draft = record {
  name = None;
  interfaces = [];
  bgp = None;
  ospf = None;
  prefix_lists = [];
  community_lists = [];
  route_maps = [];
  stanza = closed;
}

abbrev pub at_start : State
at_start = record { routers = []; draft = no_draft }

-- ---- top lines

abbrev pub closing_stanza : Stanza → Draft → Draft
closing_stanza closed d = d
closing_stanza ignored d = record d { stanza = closed }
closing_stanza (in_interface i) d = record d { interfaces = d.interfaces ++ i ∷ []; stanza = closed }
closing_stanza (in_bgp b) d = record d { bgp = Some b; stanza = closed }
closing_stanza (in_ospf o) d = record d { ospf = Some o; stanza = closed }
closing_stanza (in_entry name e) d = record d { route_maps = with_map_entry name e d.route_maps; stanza = closed }

-- a top line closes the open stanza
unfoldable pub with_closed : Draft → Draft
with_closed d = closing_stanza d.stanza d

unfoldable pub has_interface : List Interface → List ℕ → Bool
has_interface interfaces name = list_any (λ (i : Interface). bytes_eq i.name name) interfaces

abbrev pub new_interface : ℕ → List ℕ → Interface
new_interface n name = record { name = name; line = n; address = None; cost = None; shut = false }

abbrev pub new_bgp : ℕ → ℕ → BgpProcess
new_bgp n number = record { number = number; line = n; base = None; networks = []; neighbors = [] }

abbrev pub new_ospf : ℕ → ℕ → OspfProcess
new_ospf n number = record { number = number; line = n; passive_default = false; passive = []; not_passive = []; areas = [] }

-- the top lines that do not end a router
unfoldable pub take_line : ℕ → RouterItem → Draft → Result Draft ReadRefusal
take_line n (item.Hostname name) d = once n (is_some d.name) (record d { name = Some (record { name = name; line = n }) })
take_line n (item.Interface name) d = once n (has_interface d.interfaces name) (record d { stanza = in_interface (new_interface n name) })
take_line n (item.Bgp number) d = once n (is_some d.bgp) (record d { stanza = in_bgp (new_bgp n number) })
take_line n (item.Ospf number) d = once n (is_some d.ospf) (record d { stanza = in_ospf (new_ospf n number) })
take_line n item.Ignored d = Ok (record d { stanza = ignored })
take_line n _ d = Ok d

-- the router that a top line `end` ends
abbrev pub named_router : ℕ → Option Named → Draft → Result Router ReadRefusal
named_router n None d = Err (refusal.At n kind.NoHostname)
named_router n (Some host) d = Ok (record {
  name = host.name;
  line = host.line;
  interfaces = d.interfaces;
  bgp = d.bgp;
  ospf = d.ospf;
  prefix_lists = d.prefix_lists;
  community_lists = d.community_lists;
  route_maps = d.route_maps;
})

abbrev pub end_router : ℕ → State → Result State ReadRefusal
end_router n s = named_router n s.draft.name s.draft >>= (λ (r : Router). Ok (record { routers = s.routers ++ r ∷ []; draft = no_draft }))

abbrev pub ends_router : RouterItem → Bool
ends_router item.End = true
ends_router _ = false

unfoldable pub take_top : ℕ → RouterItem → State → Result State ReadRefusal
take_top n said s = if ends_router said then end_router n s else take_line n said s.draft >>= (λ (d : Draft). Ok (record { routers = s.routers; draft = d }))

-- ---- top lines of lists and route maps

unfoldable pub take_policy : ℕ → PolicyItem → Draft → Result Draft ReadRefusal
take_policy n (policy.PrefixEntry name e) d =
    once n (has_prefix_entry d.prefix_lists name e.seq) (record d { prefix_lists = with_prefix_entry name e d.prefix_lists })
take_policy n (policy.CommunityLine name line) d = Ok (record d { community_lists = with_community_line name line d.community_lists })
take_policy n (policy.MapHead name e) d = once n (has_map_entry d.route_maps name e.seq) (record d { stanza = in_entry name e })
take_policy n policy.Ignored d = Ok (record d { stanza = ignored })
take_policy n _ d = Ok d

unfoldable pub step_policy : State → TextLine → Result State ReadRefusal
step_policy s l = said_at l.number (policy_item_of policy_scope.Top l.number l.words) >>=
    (λ (said : PolicyItem). take_policy l.number said (with_closed s.draft) >>= (λ (d : Draft). Ok (record { routers = s.routers; draft = d })))

unfoldable pub step_router : State → TextLine → Result State ReadRefusal
step_router s l = said_at l.number (router_item_of scope.Top l.number l.words) >>=
    (λ (said : RouterItem). take_top l.number said (record s { draft = with_closed s.draft }))

abbrev pub step_top : State → TextLine → Result State ReadRefusal
step_top s l = if is_policy_line l.words then step_policy s l else step_router s l

-- ---- lines of stanzas

unfoldable pub take_inner : TextLine → Stanza → Result Stanza ReadRefusal
take_inner l closed = Err (refusal.At l.number kind.Misplaced)
take_inner l ignored = Ok ignored
take_inner l (in_interface i) = said_at l.number (router_item_of scope.Interface l.number l.words) >>=
    (λ (said : RouterItem). set_interface l.number said i >>= (λ (j : Interface). Ok (in_interface j)))
take_inner l (in_bgp b) = said_at l.number (router_item_of scope.Bgp l.number l.words) >>=
    (λ (said : RouterItem). set_bgp l.number said b >>= (λ (c : BgpProcess). Ok (in_bgp c)))
take_inner l (in_ospf o) = said_at l.number (router_item_of scope.Ospf l.number l.words) >>= (λ (said : RouterItem). Ok (in_ospf (set_ospf said o)))
take_inner l (in_entry name e) = said_at l.number (policy_item_of policy_scope.Entry l.number l.words) >>=
    (λ (said : PolicyItem). set_entry l.number said e >>= (λ (f : MapEntry). Ok (in_entry name f)))

abbrev pub step_inner : State → TextLine → Result State ReadRefusal
step_inner s l = take_inner l s.draft.stanza >>= (λ (stanza : Stanza). Ok (record s { draft = record s.draft { stanza = stanza } }))

-- ---- all lines

unfoldable pub step : State → TextLine → Result State ReadRefusal
step s l = if l.indent == 0 then step_top s l else step_inner s l

unfoldable pub steps : State → List TextLine → Result State ReadRefusal
steps s [] = Ok s
steps s (l ∷ ls) = step s l >>= (λ (t : State). steps t ls)

abbrev pub is_end : List (List ℕ) → Bool
is_end (word ∷ []) = bytes_eq word (codes "end")
is_end _ = false

abbrev pub end_at : Option TextLine → Result (Unit {0}) ReadRefusal
end_at None = Ok tt
end_at (Some l) = if l.indent == 0 && is_end l.words then Ok tt else Err (refusal.At l.number kind.NoEnd)

-- there is no line, or the last is the top line `end`
unfoldable pub ending : List TextLine → Result (Unit {0}) ReadRefusal
ending ls = end_at (slice_get ls (length ls - 1))

-- the network of the lines that are not skipped, or the first fault of one
unfoldable pub network_of_lines : List TextLine → Result Network ReadRefusal
network_of_lines ls = steps at_start ls >>= (λ (s : State). ending ls >>= (λ _. Ok (record { routers = s.routers })))

abbrev pub texts_of : List ℕ → List Line → List TextLine
texts_of bs ls = map (text_line bs) ls

-- the network of a text, or its first line fault, or else its first form fault
unfoldable pub network_of_text : List ℕ → Result Network ReadRefusal
network_of_text bs = lines_of bs >>= (λ (ls : List Line). network_of_lines (texts_of bs ls))

-- some text gives the network
abbrev pub IsGiven : Network → Type 0
IsGiven network = (bs : List ℕ) × (network_of_text bs ≡ Ok network)

-- the network of a text that may be used, or the fault that decides
unfoldable pub reading_of : List ℕ → Result Network ReadRefusal
reading_of bs = network_of_text bs >>= judged
