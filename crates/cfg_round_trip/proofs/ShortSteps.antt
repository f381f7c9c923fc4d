-- Route maps that a text gives have only match lines that are printed short.
use Rattle.std.proofs.Common.{◌≡◌, ℕ, ◌+◌, ◌≤◌, true, false, List, [], ◌∷◌, Option, Some, None, Result, Ok, Err, refl, arith}
use Rattle.std.specs.Prelude.{IfOk, is_some, ◌==◌, nat_lt}
use Rattle.std.specs.List.{AllByRecursion}
use Rattle.std.proofs.lemmas.Bool.{eqb-false}
use Rattle.std.proofs.lemmas.Result.{IfOk-at_ok}
use Rattle.cfg_ast.specs.declared.network.Named.{Named}
use Rattle.cfg_ast.specs.declared.network.Network.{Network}
use Rattle.cfg_ast.specs.declared.line.Line.{Line}
use Rattle.cfg_ast.specs.declared.policy.MapEntry.{MapEntry}
use Rattle.cfg_ast.specs.declared.policy.RouteMap.{RouteMap}
use Rattle.cfg_ast.specs.declared.items.Scope.TheVariants as scope
use Rattle.cfg_ast.specs.declared.items.RouterItem.{RouterItem}
use Rattle.cfg_ast.specs.declared.items.RouterItem.TheVariants as item
use Rattle.cfg_ast.specs.declared.items.PolicyScope.TheVariants as policy_scope
use Rattle.cfg_ast.specs.declared.items.PolicyItem.{PolicyItem}
use Rattle.cfg_ast.specs.declared.items.PolicyItem.TheVariants as policy
use Rattle.cfg_ast.specs.declared.refusal.ReadRefusal.{ReadRefusal}
use Rattle.cfg_ast.specs.text.TextLines.{TextLine}
use Rattle.cfg_ast.specs.text.Lines.{lines_of}
use Rattle.cfg_ast.specs.text.RouterForms.{router_item_of}
use Rattle.cfg_ast.specs.text.PolicyForms.{policy_item_of}
use Rattle.cfg_ast.specs.text.Stanzas.{set_interface, set_bgp}
use Rattle.cfg_ast.specs.text.Steps.{◌>>=◌}
use Rattle.cfg_ast.specs.text.PolicyLines.{is_policy_line, is_route_map, put_map_entry, with_map_entry, has_prefix_entry, has_map_entry, set_entry}
use Rattle.cfg_ast.specs.text.Reading.{Stanza, closed, ignored, in_interface, in_bgp, in_ospf, in_entry, Draft, State, at_start, closing_stanza, with_closed, has_interface, take_line, named_router, ends_router, take_top, take_policy, step_policy, step_router, take_inner, step, steps, ending, network_of_lines, texts_of, network_of_text, IsGiven}
use Rattle.given_laws.proofs.Given.{IsAny, any_result, either, then_step, then_said, stands_once}
use Rattle.given_laws.proofs.Each.{all_push}
use Rattle.given_laws.proofs.Lists.{put_all, changed_all}
use Rattle.cfg_round_trip.proofs.ShortTexts.{joined, IsShortText, lines_short}
use Rattle.cfg_round_trip.specs.ShortMaps.{IsShortEntry, IsShortMap, HasShortMaps}
use Rattle.cfg_round_trip.proofs.ShortNames.{IsShortItem, outside_item, inside_item}

abbrev IsShortStanza : Stanza → Type 0
IsShortStanza (in_entry name e) = IsShortEntry e
IsShortStanza _ = Unit {0}

abbrev IsShortDraft : Draft → Type 0
IsShortDraft d = AllByRecursion IsShortMap d.route_maps × IsShortStanza d.stanza

record IsShortState (s : State) : Type 0 where
  routers : AllByRecursion HasShortMaps s.routers
  draft : IsShortDraft s.draft

-- ---- top lines

maps_step : (name : List ℕ) (e : MapEntry) (maps : List RouteMap) → IsShortEntry e → AllByRecursion IsShortMap maps →
    AllByRecursion IsShortMap (with_map_entry name e maps)
maps_step name e maps is all =
    changed_all IsShortMap IsShortMap (is_route_map name) (put_map_entry e) _ maps (λ m short. short)
    (λ m here short. put_all IsShortEntry (λ (x : MapEntry). nat_lt e.seq x.seq) e m.entries is short) (is, tt) all

closing_step : (st : Stanza) (d : Draft) → AllByRecursion IsShortMap d.route_maps → IsShortStanza st → d.stanza ≡ st → IsShortDraft (closing_stanza st d)
closing_step closed d maps is same = (maps, rw same tt)
closing_step (in_entry name e) d maps is same = (maps_step name e d.route_maps is maps, tt)
closing_step _ d maps is same = (maps, tt)

closed_step : (d : Draft) → IsShortDraft d → IsShortDraft (with_closed d)
unfolding with_closed
closed_step d is = closing_step d.stanza d is.0 is.1 refl

line_step : (n : ℕ) (said : RouterItem) (d : Draft) → IsShortDraft d → IfOk (take_line n said d) IsShortDraft
unfolding take_line
line_step n (item.Hostname name) d is = stands_once IsShortDraft n (is_some d.name) _ (λ e. is)
line_step n (item.Interface name) d is = stands_once IsShortDraft n (has_interface d.interfaces name) _ (λ e. (is.0, tt))
line_step n (item.Bgp number) d is = stands_once IsShortDraft n (is_some d.bgp) _ (λ e. (is.0, tt))
line_step n (item.Ospf number) d is = stands_once IsShortDraft n (is_some d.ospf) _ (λ e. (is.0, tt))
line_step n item.Ignored d is = (is.0, tt)
line_step n _ d is = is

policy_step : (n : ℕ) (said : PolicyItem) (d : Draft) → IsShortItem false said → IsShortDraft d → IfOk (take_policy n said d) IsShortDraft
unfolding take_policy
policy_step n (policy.PrefixEntry name e) d said is = stands_once IsShortDraft n (has_prefix_entry d.prefix_lists name e.seq) _ (λ b. is)
policy_step n (policy.CommunityLine name line) d said is = is
policy_step n (policy.MapHead name e) d said is = stands_once IsShortDraft n (has_map_entry d.route_maps name e.seq) _ (λ b. (is.0, said))
policy_step n policy.Ignored d said is = (is.0, tt)
policy_step n _ d said is = is

router_step : (n : ℕ) (name : Option Named) (d : Draft) → AllByRecursion IsShortMap d.route_maps → IfOk (named_router n name d) HasShortMaps
router_step n None d maps = tt
router_step n (Some host) d maps = maps

top_step : (n : ℕ) (said : RouterItem) (s : State) → IsShortState s → IfOk (take_top n said s) IsShortState
unfolding take_top
top_step n said s is =
    either IsShortState (ends_router said) _ _
    (λ e. then_step HasShortMaps IsShortState (named_router n s.draft.name s.draft) _ (router_step n s.draft.name s.draft is.draft.0)
    (λ r short. record { routers = all_push HasShortMaps s.routers r is.routers short; draft = (tt, tt) }))
    (λ e. then_step IsShortDraft IsShortState (take_line n said s.draft) _ (line_step n said s.draft is.draft)
    (λ d short. record { routers = is.routers; draft = short }))

-- ---- lines of stanzas

entry_step : (n : ℕ) (said : PolicyItem) (e : MapEntry) → IsShortItem true said → IsShortEntry e → IfOk (set_entry n said e) IsShortEntry
unfolding set_entry
entry_step n (policy.MatchPrefixes names) e said is = stands_once IsShortEntry n (is_some e.prefixes) _ (λ b. (said, is.1))
entry_step n (policy.MatchComms names exact) e said is = stands_once IsShortEntry n (is_some e.comms) _ (λ b. (is.0, said))
entry_step n (policy.Lp lp) e said is = stands_once IsShortEntry n (is_some e.lp) _ (λ b. is)
entry_step n (policy.Comms change) e said is = stands_once IsShortEntry n (is_some e.change) _ (λ b. is)
entry_step n (policy.Delete list) e said is = stands_once IsShortEntry n (is_some e.delete) _ (λ b. is)
entry_step n (policy.Prepend prepend) e said is = stands_once IsShortEntry n (is_some e.prepend) _ (λ b. is)
entry_step n _ e said is = is

inner_step : (l : TextLine) (st : Stanza) → 1 + joined l.words ≤ 1024 → IsShortStanza st → IfOk (take_inner l st) IsShortStanza
unfolding take_inner
inner_step l closed short is = tt
inner_step l ignored short is = tt
inner_step l (in_interface i) short is =
    then_said IsAny IsShortStanza l.number (router_item_of scope.Interface l.number l.words) _ (any_result (router_item_of scope.Interface l.number l.words))
    (λ said any.
    then_step IsAny IsShortStanza (set_interface l.number said i) _ (any_result (set_interface l.number said i)) (λ j any. tt))
inner_step l (in_bgp b) short is =
    then_said IsAny IsShortStanza l.number (router_item_of scope.Bgp l.number l.words) _ (any_result (router_item_of scope.Bgp l.number l.words)) (λ said any.
    then_step IsAny IsShortStanza (set_bgp l.number said b) _ (any_result (set_bgp l.number said b)) (λ c any. tt))
inner_step l (in_ospf o) short is = then_said IsAny IsShortStanza l.number (router_item_of scope.Ospf l.number l.words) _
    (any_result (router_item_of scope.Ospf l.number l.words)) (λ said any. tt)
inner_step l (in_entry name e) short is =
    then_said (IsShortItem true) IsShortStanza l.number (policy_item_of policy_scope.Entry l.number l.words) _ (inside_item l.number l.words short)
    (λ said item.
    then_step IsShortEntry IsShortStanza (set_entry l.number said e) _ (entry_step l.number said e item is) (λ f whole. whole))

-- ---- all lines

one_step : (s : State) (l : TextLine) → IsShortText l → IsShortState s → IfOk (step s l) IsShortState
unfolding step step_policy step_router
one_step s l text is =
    either IsShortState (l.indent == 0) _ _
    (λ top. either IsShortState (is_policy_line l.words) _ _
    (λ listed. then_said (IsShortItem false) IsShortState l.number (policy_item_of policy_scope.Top l.number l.words) _
    (outside_item policy_scope.Top l.number l.words) (λ said item.
    then_step IsShortDraft IsShortState (take_policy l.number said (with_closed s.draft)) _
    (policy_step l.number said (with_closed s.draft) item (closed_step s.draft is.draft)) (λ d short. record { routers = is.routers; draft = short })))
    (λ other. then_said IsAny IsShortState l.number (router_item_of scope.Top l.number l.words) _ (any_result (router_item_of scope.Top l.number l.words))
    (λ said any.
    top_step l.number said (record s { draft = with_closed s.draft }) (record { routers = is.routers; draft = closed_step s.draft is.draft }))))
    (λ inner. then_step IsShortStanza IsShortState (take_inner l s.draft.stanza) _
    (inner_step l s.draft.stanza (let short = text.short in let some = eqb-false l.indent 0 inner in omega arith) is.draft.1) (λ st short.
    record { routers = is.routers; draft = (is.draft.0, short) }))

all_steps : (ls : List TextLine) (s : State) → AllByRecursion IsShortText ls → IsShortState s → IfOk (steps s ls) IsShortState
unfolding steps
all_steps [] s texts is = is
all_steps (l ∷ ls) s texts is = then_step IsShortState IsShortState (step s l) _ (one_step s l texts.0 is) (λ t next. all_steps ls t texts.1 next)

-- ---- the network

abbrev AreShortRouters : Network → Type 0
AreShortRouters network = AllByRecursion HasShortMaps network.routers

of_lines : (ls : List TextLine) → AllByRecursion IsShortText ls → IfOk (network_of_lines ls) AreShortRouters
unfolding network_of_lines
of_lines ls texts =
    then_step IsShortState AreShortRouters (steps at_start ls) _ (all_steps ls at_start texts (record { routers = tt; draft = (tt, tt) }))
    (λ s is. then_step IsAny AreShortRouters (ending ls) _ (any_result (ending ls)) (λ x any.
    let routers : AreShortRouters (record { routers = s.routers }) = is.routers in routers))

of_result : (bs : List ℕ) (r : Result (List Line) ReadRefusal) → lines_of bs ≡ r →
    IfOk (r >>= (λ (ls : List Line). network_of_lines (texts_of bs ls))) AreShortRouters
of_result bs (Err fault) e = tt
of_result bs (Ok ls) e = of_lines (texts_of bs ls) (lines_short bs ls e)

pub given_is_short : (network : Network) → IsGiven network → AllByRecursion HasShortMaps network.routers
unfolding network_of_text
given_is_short network (bs, e) = IfOk-at_ok AreShortRouters e (of_result bs (lines_of bs) refl)
