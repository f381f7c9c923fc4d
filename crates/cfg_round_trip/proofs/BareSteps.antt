-- Reading does not depend on line numbers.
use Rattle.std.proofs.Common.{◌≡◌, ℕ, Bool, true, false, List, [], ◌∷◌, map, Option, Some, None, Ok, refl, sym, ap, ◌∙◌}
use Rattle.std.specs.Prelude.{bytes_eq, ◌==◌, if◌then◌else◌}
use Rattle.std.specs.Option.{option_map}
use Rattle.std.proofs.lemmas.List.{map_push}
use Rattle.cfg_ast.specs.declared.network.Named.{Named}
use Rattle.cfg_ast.specs.declared.network.Router.{Router}
use Rattle.cfg_ast.specs.declared.interface.Interface.{Interface}
use Rattle.cfg_ast.specs.declared.policy.PrefixList.{PrefixList}
use Rattle.cfg_ast.specs.declared.policy.CommunityList.{CommunityList}
use Rattle.cfg_ast.specs.declared.policy.RouteMap.{RouteMap}
use Rattle.cfg_ast.specs.declared.items.Scope.TheVariants as scope
use Rattle.cfg_ast.specs.declared.items.RouterItem.{RouterItem}
use Rattle.cfg_ast.specs.declared.items.RouterItem.TheVariants as item
use Rattle.cfg_ast.specs.declared.items.PolicyScope.TheVariants as policy_scope
use Rattle.cfg_ast.specs.declared.items.PolicyItem.{PolicyItem}
use Rattle.cfg_ast.specs.declared.items.PolicyItem.TheVariants as policy
use Rattle.cfg_ast.specs.text.TextLines.{TextLine}
use Rattle.cfg_ast.specs.text.PolicyLines.{is_policy_line}
use Rattle.cfg_ast.specs.text.Steps.{◌>>=◌}
use Rattle.cfg_ast.specs.text.Reading.{Stanza, closed, ignored, in_interface, in_bgp, in_ospf, in_entry, Draft, State, no_draft, closing_stanza, with_closed, has_interface, take_line, named_router, end_router, ends_router, take_top, take_policy, step_policy, step_router, take_inner, step_inner, step, steps}
use Rattle.cfg_ast.specs.printing.Bare.{bare_line, bare_named, bare_interface, bare_bgp, bare_map_entry, bare_router}
use Rattle.cfg_round_trip.proofs.Bare.{bare_item, bare_policy, bare_stanza, bare_draft, bare_state, on_result, then_same, said_same, once_same, is_some-map, any-map}
use Rattle.cfg_round_trip.proofs.BareForms.{router_item_same, policy_item_same}
use Rattle.cfg_round_trip.proofs.BareStanzas.{set_interface_same, set_bgp_same, set_ospf_same, set_entry_same}
use Rattle.cfg_round_trip.proofs.BareLists.{with_prefix_entry_same, has_prefix_entry_same, with_community_line_same, with_map_entry_same, has_map_entry_same}

-- ---- top lines

abbrev with_interfaces : Draft → List Interface → Draft
with_interfaces d interfaces = record d { interfaces = interfaces; stanza = closed }

abbrev with_maps : Draft → List RouteMap → Draft
with_maps d maps = record d { route_maps = maps; stanza = closed }

abbrev with_prefix_lists : Draft → List PrefixList → Draft
with_prefix_lists d lists = record d { prefix_lists = lists }

abbrev with_community_lists : Draft → List CommunityList → Draft
with_community_lists d lists = record d { community_lists = lists }

closing_same : (stanza : Stanza) (d : Draft) → closing_stanza (bare_stanza stanza) (bare_draft d) ≡ bare_draft (closing_stanza stanza d)
closing_same closed d = refl
closing_same ignored d = refl
closing_same (in_interface i) d = ap (with_interfaces (bare_draft d)) (sym (map_push bare_interface d.interfaces i))
closing_same (in_bgp b) d = refl
closing_same (in_ospf o) d = refl
closing_same (in_entry name e) d = ap (with_maps (bare_draft d)) (with_map_entry_same name e d.route_maps)

with_closed_same : (d : Draft) → with_closed (bare_draft d) ≡ bare_draft (with_closed d)
unfolding with_closed
with_closed_same d = closing_same d.stanza d

has_interface_same : (interfaces : List Interface) (name : List ℕ) → has_interface (map bare_interface interfaces) name ≡ has_interface interfaces name
unfolding has_interface
has_interface_same interfaces name = any-map bare_interface (λ (i : Interface). bytes_eq i.name name) (λ (i : Interface). bytes_eq i.name name) (λ i. refl)
    interfaces

take_line_same : (n : ℕ) (said : RouterItem) (d : Draft) → take_line 0 (bare_item said) (bare_draft d) ≡ on_result bare_draft (take_line n said d)
unfolding take_line
take_line_same n (item.Hostname name) d = once_same bare_draft n _ _ _ _ (is_some-map _ d.name) refl
take_line_same n (item.Interface name) d = once_same bare_draft n _ _ _ _ (has_interface_same d.interfaces name) refl
take_line_same n (item.Bgp number) d = once_same bare_draft n _ _ _ _ (is_some-map _ d.bgp) refl
take_line_same n (item.Ospf number) d = once_same bare_draft n _ _ _ _ (is_some-map _ d.ospf) refl
take_line_same n item.Ignored d = refl
take_line_same n _ d = refl

named_router_same : (n : ℕ) (name : Option Named) (d : Draft) →
    named_router 0 (option_map bare_named name) (bare_draft d) ≡ on_result bare_router (named_router n name d)
named_router_same n None d = refl
named_router_same n (Some host) d = refl

end_router_same : (n : ℕ) (s : State) → end_router 0 (bare_state s) ≡ on_result bare_state (end_router n s)
end_router_same n s =
    then_same bare_router bare_state _ _ _ _ (named_router_same n s.draft.name s.draft)
    (λ r. ap (λ (rs : List Router). Ok (let t : State = record { routers = rs; draft = no_draft } in t)) (sym (map_push bare_router s.routers r)))

ends_same : (said : RouterItem) → ends_router (bare_item said) ≡ ends_router said
ends_same item.End = refl
ends_same _ = refl

take_top_same : (n : ℕ) (said : RouterItem) (s : State) → take_top 0 (bare_item said) (bare_state s) ≡ on_result bare_state (take_top n said s)
unfolding take_top
take_top_same n said s =
    ap (λ (b : Bool). if b then end_router 0 (bare_state s) else take_line 0 (bare_item said) (bare_draft s.draft) >>=
    (λ (d : Draft). Ok (let t : State = record { routers = map bare_router s.routers; draft = d } in t))) (ends_same said) ∙ by (ends_router said)
  where
    by : (b : Bool) → (if b then end_router 0 (bare_state s) else take_line 0 (bare_item said) (bare_draft s.draft) >>=
        (λ (d : Draft). Ok (let t : State = record { routers = map bare_router s.routers; draft = d } in t)))
        ≡ on_result bare_state (if b then end_router n s else take_line n said s.draft >>=
        (λ (d : Draft). Ok (let t : State = record { routers = s.routers; draft = d } in t)))
    by true = end_router_same n s
    by false = then_same bare_draft bare_state _ _ _ _ (take_line_same n said s.draft) (λ d. refl)

take_policy_same : (n : ℕ) (said : PolicyItem) (d : Draft) → take_policy 0 (bare_policy said) (bare_draft d) ≡ on_result bare_draft (take_policy n said d)
unfolding take_policy
take_policy_same n (policy.PrefixEntry name e) d =
    once_same bare_draft n _ _ _ _ (has_prefix_entry_same d.prefix_lists name e.seq)
    (ap (with_prefix_lists (bare_draft d)) (with_prefix_entry_same name e d.prefix_lists))
take_policy_same n (policy.CommunityLine name line) d =
    ap (λ (lists : List CommunityList). Ok (with_community_lists (bare_draft d) lists)) (with_community_line_same name line d.community_lists)
take_policy_same n (policy.MapHead name e) d = once_same bare_draft n _ _ _ _ (has_map_entry_same d.route_maps name e.seq) refl
take_policy_same n policy.Ignored d = refl
take_policy_same n _ d = refl

step_policy_same : (s : State) (l : TextLine) → step_policy (bare_state s) (bare_line l) ≡ on_result bare_state (step_policy s l)
unfolding step_policy
step_policy_same s l =
    said_same bare_policy bare_state l.number _ _ _ _ (policy_item_same policy_scope.Top l.number l.words) (λ said.
    then_same bare_draft bare_state _ _ _ _ (ap (take_policy 0 (bare_policy said)) (with_closed_same s.draft)
    ∙ take_policy_same l.number said (with_closed s.draft)) (λ d. refl))

step_router_same : (s : State) (l : TextLine) → step_router (bare_state s) (bare_line l) ≡ on_result bare_state (step_router s l)
unfolding step_router
step_router_same s l =
    said_same bare_item bare_state l.number _ _ _ _ (router_item_same scope.Top l.number l.words) (λ said.
    ap (λ (d : Draft). take_top 0 (bare_item said) (let t : State = record { routers = map bare_router s.routers; draft = d } in t)) (with_closed_same s.draft)
    ∙ take_top_same l.number said (record s { draft = with_closed s.draft }))

-- ---- lines of stanzas

take_inner_same : (l : TextLine) (stanza : Stanza) → take_inner (bare_line l) (bare_stanza stanza) ≡ on_result bare_stanza (take_inner l stanza)
unfolding take_inner
take_inner_same l closed = refl
take_inner_same l ignored = refl
take_inner_same l (in_interface i) =
    said_same bare_item bare_stanza l.number _ _ _ _ (router_item_same scope.Interface l.number l.words)
    (λ said. then_same bare_interface bare_stanza _ _ _ _ (set_interface_same l.number said i) (λ j. refl))
take_inner_same l (in_bgp b) =
    said_same bare_item bare_stanza l.number _ _ _ _ (router_item_same scope.Bgp l.number l.words)
    (λ said. then_same bare_bgp bare_stanza _ _ _ _ (set_bgp_same l.number said b) (λ c. refl))
take_inner_same l (in_ospf o) =
    said_same bare_item bare_stanza l.number _ _ _ _ (router_item_same scope.Ospf l.number l.words) (λ said. ap (λ p. Ok (in_ospf p)) (set_ospf_same said o))
take_inner_same l (in_entry name e) =
    said_same bare_policy bare_stanza l.number _ _ _ _ (policy_item_same policy_scope.Entry l.number l.words)
    (λ said. then_same bare_map_entry bare_stanza _ _ _ _ (set_entry_same l.number said e) (λ f. refl))

-- ---- all lines

step_same : (s : State) (l : TextLine) → step (bare_state s) (bare_line l) ≡ on_result bare_state (step s l)
unfolding step
step_same s l = by (l.indent == 0) (is_policy_line l.words)
  where
    by : (top listed : Bool) → (if top then (if listed then step_policy (bare_state s) (bare_line l) else step_router (bare_state s) (bare_line l))
        else step_inner (bare_state s) (bare_line l))
        ≡ on_result bare_state (if top then (if listed then step_policy s l else step_router s l) else step_inner s l)
    by true true = step_policy_same s l
    by true false = step_router_same s l
    by false listed = then_same bare_stanza bare_state _ _ _ _ (take_inner_same l s.draft.stanza) (λ stanza. refl)

-- reading lines without their numbers gives the same except for line numbers
pub steps_same : (ls : List TextLine) (s : State) → steps (bare_state s) (map bare_line ls) ≡ on_result bare_state (steps s ls)
unfolding steps
steps_same [] s = refl
steps_same (l ∷ ls) s = then_same bare_state bare_state _ _ _ _ (step_same s l) (λ t. steps_same ls t)
