-- Each line keeps what is well formed of a router that is being read.
use Rattle.std.proofs.Common.{◌≡◌, ℕ, true, false, List, [], ◌∷◌, Option, Some, None, refl, ap, ◌∙◌}
use Rattle.std.specs.Prelude.{IfSome, IfOk, is_some, ◌==◌}
use Rattle.std.specs.List.{AllByRecursion, IsDistinct}
use Rattle.cfg_ast.specs.declared.network.Named.{Named}
use Rattle.cfg_ast.specs.declared.interface.Interface.{Interface}
use Rattle.cfg_ast.specs.declared.bgp.BgpProcess.{BgpProcess}
use Rattle.cfg_ast.specs.declared.ospf.OspfProcess.{OspfProcess}
use Rattle.cfg_ast.specs.declared.policy.PrefixList.{PrefixList}
use Rattle.cfg_ast.specs.declared.policy.CommunityList.{CommunityList}
use Rattle.cfg_ast.specs.declared.policy.RouteMap.{RouteMap}
use Rattle.cfg_ast.specs.declared.items.Scope.TheVariants as scope
use Rattle.cfg_ast.specs.declared.items.RouterItem.{RouterItem}
use Rattle.cfg_ast.specs.declared.items.RouterItem.TheVariants as item
use Rattle.cfg_ast.specs.declared.items.PolicyScope.TheVariants as policy_scope
use Rattle.cfg_ast.specs.declared.items.PolicyItem.{PolicyItem}
use Rattle.cfg_ast.specs.declared.items.PolicyItem.TheVariants as policy
use Rattle.cfg_ast.specs.text.TextLines.{TextLine}
use Rattle.cfg_ast.specs.text.Words.{is_router_name}
use Rattle.cfg_ast.specs.text.PolicyLines.{is_policy_line, has_prefix_entry, has_map_entry}
use Rattle.cfg_ast.specs.text.Reading.{Stanza, closed, ignored, in_interface, in_bgp, in_ospf, in_entry, Draft, State, no_draft, at_start, closing_stanza, with_closed, has_interface, take_line, named_router, end_router, ends_router, take_top, take_policy, step_policy, step_router, take_inner, step, steps}
use Rattle.cfg_ast.specs.text.RouterForms.{router_item_of}
use Rattle.cfg_ast.specs.text.PolicyForms.{policy_item_of}
use Rattle.cfg_ast.specs.printing.WellFormed.{IsListName, IsWellFormedInterface, same_interface, IsWellFormedBgp, IsWellFormedOspf, IsWellFormedPrefixList, same_prefix_list, IsWellFormedCommunityList, same_community_list, IsWellFormedMapEntry, IsWellFormedRouteMap, same_route_map, IsWellFormedRouter}
use Rattle.given_laws.proofs.Given.{either, then_step, then_said, stands_once}
use Rattle.given_laws.proofs.Each.{all_push, distinct_new, distinct_nil}
use Rattle.given_laws.proofs.RouterItems.{AreWords, IsRouterItem, a_router_item}
use Rattle.given_laws.proofs.PolicyItems.{IsPolicyItem, a_policy_item}
use Rattle.given_laws.proofs.StanzaSteps.{IsInterfaceOf, interface_step, ospf_step, IsEntryOf, entry_step}
use Rattle.given_laws.proofs.BgpSteps.{bgp_step}
use Rattle.given_laws.proofs.ListSteps.{prefix_lists_step, prefix_lists_once, community_lists_step, community_lists_once, route_maps_step, route_maps_once}

abbrev IsHost : Named → Type 0
IsHost host = is_router_name host.name ≡ true

-- what is read of a router except its open stanza
pub record AreParts (host : Option Named) (ins : List Interface) (b : Option BgpProcess) (o : Option OspfProcess) (ps : List PrefixList)
    (cs : List CommunityList) (ms : List RouteMap) : Type 0 where
  pub named : IfSome host IsHost
  pub interfaces : AllByRecursion IsWellFormedInterface ins
  pub interfaces_once : IsDistinct same_interface ins
  pub bgp : IfSome b IsWellFormedBgp
  pub ospf : IfSome o IsWellFormedOspf
  pub prefix_lists : AllByRecursion IsWellFormedPrefixList ps
  pub prefix_lists_once : IsDistinct same_prefix_list ps
  pub community_lists : AllByRecursion IsWellFormedCommunityList cs
  pub community_lists_once : IsDistinct same_community_list cs
  pub route_maps : AllByRecursion IsWellFormedRouteMap ms
  pub route_maps_once : IsDistinct same_route_map ms

abbrev pub HasParts : Draft → Type 0
HasParts d = AreParts d.name d.interfaces d.bgp d.ospf d.prefix_lists d.community_lists d.route_maps

-- an open stanza, which is new to the interfaces and route maps
abbrev pub IsStanza : List Interface → List RouteMap → Stanza → Type 0
IsStanza interfaces maps closed = Unit {0}
IsStanza interfaces maps ignored = Unit {0}
IsStanza interfaces maps (in_interface i) = IsWellFormedInterface i × (has_interface interfaces i.name ≡ false)
IsStanza interfaces maps (in_bgp b) = IsWellFormedBgp b
IsStanza interfaces maps (in_ospf o) = IsWellFormedOspf o
IsStanza interfaces maps (in_entry name e) = IsListName name × IsWellFormedMapEntry e × (has_map_entry maps name e.seq ≡ false)

abbrev pub IsDraft : Draft → Type 0
IsDraft d = HasParts d × IsStanza d.interfaces d.route_maps d.stanza

-- ---- a stanza is closed

closing_step : (stanza : Stanza) (d : Draft) → HasParts d → IsStanza d.interfaces d.route_maps stanza → d.stanza ≡ stanza → IsDraft (closing_stanza stanza d)
unfolding has_interface
closing_step closed d has is same = (has, rw same tt)
closing_step ignored d has is same = (has, tt)
closing_step (in_interface i) d has is same = (
  record {
    named = has.named;
    interfaces = all_push IsWellFormedInterface d.interfaces i has.interfaces is.0;
    interfaces_once = distinct_new same_interface d.interfaces i has.interfaces_once is.1;
    bgp = has.bgp;
    ospf = has.ospf;
    prefix_lists = has.prefix_lists;
    prefix_lists_once = has.prefix_lists_once;
    community_lists = has.community_lists;
    community_lists_once = has.community_lists_once;
    route_maps = has.route_maps;
    route_maps_once = has.route_maps_once;
  },
  tt,
)
closing_step (in_bgp b) d has is same = (
  record {
    named = has.named;
    interfaces = has.interfaces;
    interfaces_once = has.interfaces_once;
    bgp = is;
    ospf = has.ospf;
    prefix_lists = has.prefix_lists;
    prefix_lists_once = has.prefix_lists_once;
    community_lists = has.community_lists;
    community_lists_once = has.community_lists_once;
    route_maps = has.route_maps;
    route_maps_once = has.route_maps_once;
  },
  tt,
)
closing_step (in_ospf o) d has is same = (
  record {
    named = has.named;
    interfaces = has.interfaces;
    interfaces_once = has.interfaces_once;
    bgp = has.bgp;
    ospf = is;
    prefix_lists = has.prefix_lists;
    prefix_lists_once = has.prefix_lists_once;
    community_lists = has.community_lists;
    community_lists_once = has.community_lists_once;
    route_maps = has.route_maps;
    route_maps_once = has.route_maps_once;
  },
  tt,
)
closing_step (in_entry name e) d has is same = (
  record {
    named = has.named;
    interfaces = has.interfaces;
    interfaces_once = has.interfaces_once;
    bgp = has.bgp;
    ospf = has.ospf;
    prefix_lists = has.prefix_lists;
    prefix_lists_once = has.prefix_lists_once;
    community_lists = has.community_lists;
    community_lists_once = has.community_lists_once;
    route_maps = route_maps_step name e d.route_maps is.0 is.1 is.2 has.route_maps;
    route_maps_once = route_maps_once name e d.route_maps has.route_maps_once;
  },
  tt,
)

closed_step : (d : Draft) → IsDraft d → IsDraft (with_closed d)
unfolding with_closed
closed_step d is = closing_step d.stanza d is.0 is.1 refl

-- ---- top lines

line_step : (n : ℕ) (said : RouterItem) (d : Draft) → IsRouterItem said → IsDraft d → IfOk (take_line n said d) IsDraft
unfolding take_line
line_step n (item.Hostname name) d said is =
    stands_once IsDraft n (is_some d.name) _ (λ e. (
      record {
        named = said;
        interfaces = is.0.interfaces;
        interfaces_once = is.0.interfaces_once;
        bgp = is.0.bgp;
        ospf = is.0.ospf;
        prefix_lists = is.0.prefix_lists;
        prefix_lists_once = is.0.prefix_lists_once;
        community_lists = is.0.community_lists;
        community_lists_once = is.0.community_lists_once;
        route_maps = is.0.route_maps;
        route_maps_once = is.0.route_maps_once;
      },
      is.1,
    ))
line_step n (item.Interface name) d said is =
    stands_once IsDraft n (has_interface d.interfaces name) _ (λ none. (is.0, (record { name = said; address = tt; cost = tt }, none)))
line_step n (item.Bgp number) d said is =
    stands_once IsDraft n (is_some d.bgp) _ (λ e.
    (is.0, record { number = said; base = tt; networks = tt; networks_once = distinct_nil _; neighbors = tt; neighbors_once = distinct_nil _ }))
line_step n (item.Ospf number) d said is =
    stands_once IsDraft n (is_some d.ospf) _
    (λ e. (
      is.0,
      record {
        number = said;
        passive = tt;
        passive_once = distinct_nil _;
        not_passive = tt;
        not_passive_once = distinct_nil _;
        areas = tt;
        areas_once = distinct_nil _;
      },
    ))
line_step n item.Ignored d said is = (is.0, tt)
line_step n _ d said is = is

policy_step : (n : ℕ) (said : PolicyItem) (d : Draft) → IsPolicyItem said → IsDraft d → IfOk (take_policy n said d) IsDraft
unfolding take_policy
policy_step n (policy.PrefixEntry name e) d said is =
    stands_once IsDraft n (has_prefix_entry d.prefix_lists name e.seq) _ (λ none. (
      record {
        named = is.0.named;
        interfaces = is.0.interfaces;
        interfaces_once = is.0.interfaces_once;
        bgp = is.0.bgp;
        ospf = is.0.ospf;
        prefix_lists = prefix_lists_step name e d.prefix_lists said.0 said.1 none is.0.prefix_lists;
        prefix_lists_once = prefix_lists_once name e d.prefix_lists is.0.prefix_lists_once;
        community_lists = is.0.community_lists;
        community_lists_once = is.0.community_lists_once;
        route_maps = is.0.route_maps;
        route_maps_once = is.0.route_maps_once;
      },
      is.1,
    ))
policy_step n (policy.CommunityLine name line) d said is = (
  record {
    named = is.0.named;
    interfaces = is.0.interfaces;
    interfaces_once = is.0.interfaces_once;
    bgp = is.0.bgp;
    ospf = is.0.ospf;
    prefix_lists = is.0.prefix_lists;
    prefix_lists_once = is.0.prefix_lists_once;
    community_lists = community_lists_step name line d.community_lists said.0 said.1 is.0.community_lists;
    community_lists_once = community_lists_once name line d.community_lists is.0.community_lists_once;
    route_maps = is.0.route_maps;
    route_maps_once = is.0.route_maps_once;
  },
  is.1,
)
policy_step n (policy.MapHead name e) d said is = stands_once IsDraft n (has_map_entry d.route_maps name e.seq) _ (λ none. (is.0, (said.0, said.1, none)))
policy_step n policy.Ignored d said is = (is.0, tt)
policy_step n _ d said is = is

-- ---- the state

pub record IsState (s : State) : Type 0 where
  pub routers : AllByRecursion IsWellFormedRouter s.routers
  pub draft : IsDraft s.draft

no_parts : HasParts no_draft
no_parts = record {
  named = tt;
  interfaces = tt;
  interfaces_once = distinct_nil _;
  bgp = tt;
  ospf = tt;
  prefix_lists = tt;
  prefix_lists_once = distinct_nil _;
  community_lists = tt;
  community_lists_once = distinct_nil _;
  route_maps = tt;
  route_maps_once = distinct_nil _;
}

pub start_is : IsState at_start
start_is = record { routers = tt; draft = (no_parts, tt) }

router_step : (n : ℕ) (name : Option Named) (d : Draft) → IfSome name IsHost → HasParts d → IfOk (named_router n name d) IsWellFormedRouter
router_step n None d named has = tt
router_step n (Some host) d named has = record {
  name = named;
  interfaces = has.interfaces;
  interfaces_once = has.interfaces_once;
  bgp = has.bgp;
  ospf = has.ospf;
  prefix_lists = has.prefix_lists;
  prefix_lists_once = has.prefix_lists_once;
  community_lists = has.community_lists;
  community_lists_once = has.community_lists_once;
  route_maps = has.route_maps;
  route_maps_once = has.route_maps_once;
}

end_step : (n : ℕ) (s : State) → IsState s → IfOk (end_router n s) IsState
end_step n s is =
    then_step IsWellFormedRouter IsState (named_router n s.draft.name s.draft) _ (router_step n s.draft.name s.draft is.draft.0.named is.draft.0) (λ r whole.
    record { routers = all_push IsWellFormedRouter s.routers r is.routers whole; draft = (no_parts, tt) })

top_step : (n : ℕ) (said : RouterItem) (s : State) → IsRouterItem said → IsState s → IfOk (take_top n said s) IsState
unfolding take_top
top_step n said s item is =
    either IsState (ends_router said) _ _ (λ e. end_step n s is)
    (λ e. then_step IsDraft IsState (take_line n said s.draft) _ (line_step n said s.draft item is.draft)
    (λ d whole. record { routers = is.routers; draft = whole }))

inner_step : (l : TextLine) (interfaces : List Interface) (maps : List RouteMap) (stanza : Stanza) → AreWords l.words → IsStanza interfaces maps stanza →
    IfOk (take_inner l stanza) (IsStanza interfaces maps)
unfolding take_inner
inner_step l interfaces maps closed are is = tt
inner_step l interfaces maps ignored are is = tt
inner_step l interfaces maps (in_interface i) are is =
    then_said IsRouterItem (IsStanza interfaces maps) l.number (router_item_of scope.Interface l.number l.words) _
    (a_router_item scope.Interface l.number l.words are) (λ said item.
    then_step (IsInterfaceOf i) (IsStanza interfaces maps) _ _ (interface_step l.number said i item is.0)
    (λ j whole. (whole.0, ap (has_interface interfaces) whole.1 ∙ is.1)))
inner_step l interfaces maps (in_bgp b) are is =
    then_said IsRouterItem (IsStanza interfaces maps) l.number (router_item_of scope.Bgp l.number l.words) _ (a_router_item scope.Bgp l.number l.words are)
    (λ said item.
    then_step IsWellFormedBgp (IsStanza interfaces maps) _ _ (bgp_step l.number said b item is) (λ c whole. whole))
inner_step l interfaces maps (in_ospf o) are is =
    then_said IsRouterItem (IsStanza interfaces maps) l.number (router_item_of scope.Ospf l.number l.words) _ (a_router_item scope.Ospf l.number l.words are)
    (λ said item. ospf_step said o item is)
inner_step l interfaces maps (in_entry name e) are is =
    then_said IsPolicyItem (IsStanza interfaces maps) l.number (policy_item_of policy_scope.Entry l.number l.words) _
    (a_policy_item policy_scope.Entry l.number l.words are) (λ said item.
    then_step (IsEntryOf e) (IsStanza interfaces maps) _ _ (entry_step l.number said e item is.1)
    (λ f whole. (is.0, whole.0, ap (has_map_entry maps name) whole.1 ∙ is.2)))

-- ---- all lines

one_step : (s : State) (l : TextLine) → AreWords l.words → IsState s → IfOk (step s l) IsState
unfolding step step_policy step_router
one_step s l are is =
    either IsState (l.indent == 0) _ _
    (λ top. either IsState (is_policy_line l.words) _ _
    (λ listed. then_said IsPolicyItem IsState l.number (policy_item_of policy_scope.Top l.number l.words) _
    (a_policy_item policy_scope.Top l.number l.words are) (λ said item.
    then_step IsDraft IsState _ _ (policy_step l.number said (with_closed s.draft) item (closed_step s.draft is.draft))
    (λ d whole. record { routers = is.routers; draft = whole })))
    (λ other. then_said IsRouterItem IsState l.number (router_item_of scope.Top l.number l.words) _ (a_router_item scope.Top l.number l.words are) (λ said item.
    top_step l.number said (record s { draft = with_closed s.draft }) item (record { routers = is.routers; draft = closed_step s.draft is.draft }))))
    (λ inner. then_step (IsStanza s.draft.interfaces s.draft.route_maps) IsState (take_inner l s.draft.stanza) _
    (inner_step l s.draft.interfaces s.draft.route_maps s.draft.stanza are is.draft.1) (λ stanza whole.
    record { routers = is.routers; draft = (is.draft.0, whole) }))

abbrev pub IsLineOfWords : TextLine → Type 0
IsLineOfWords l = AreWords l.words

pub all_steps : (ls : List TextLine) (s : State) → AllByRecursion IsLineOfWords ls → IsState s → IfOk (steps s ls) IsState
unfolding steps
all_steps [] s are is = is
all_steps (l ∷ ls) s are is = then_step IsState IsState (step s l) _ (one_step s l are.0 is) (λ t next. all_steps ls t are.1 next)
