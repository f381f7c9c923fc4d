-- A top line, in the state that agrees with the lines before.
use Rattle.std.proofs.Common.{◌≡◌, ℕ, Bool, true, false, ◌||◌, List, [], ◌∷◌, ◌++◌, Option, Some, None, Result, Ok, Err, refl, sym, ap, ◌∙◌, is_some, inl, inr}
use Rattle.cfg_ast.specs.declared.network.Named.{Named}
use Rattle.cfg_ast.specs.declared.network.Router.{Router}
use Rattle.cfg_ast.specs.declared.interface.Interface.{Interface}
use Rattle.cfg_ast.specs.declared.bgp.BgpProcess.{BgpProcess}
use Rattle.cfg_ast.specs.declared.ospf.OspfProcess.{OspfProcess}
use Rattle.cfg_ast.specs.declared.policy.PrefixEntry.{PrefixEntry}
use Rattle.cfg_ast.specs.declared.policy.CommunityList.{CommunityList}
use Rattle.cfg_ast.specs.declared.policy.MapEntry.{MapEntry}
use Rattle.cfg_ast.specs.declared.items.Scope.TheVariants as scope
use Rattle.cfg_ast.specs.declared.items.RouterItem.{RouterItem}
use Rattle.cfg_ast.specs.declared.items.RouterItem.TheVariants as item
use Rattle.cfg_ast.specs.declared.items.PolicyScope.TheVariants as policy_scope
use Rattle.cfg_ast.specs.declared.items.PolicyItem.{PolicyItem}
use Rattle.cfg_ast.specs.declared.items.PolicyItem.TheVariants as policy
use Rattle.cfg_ast.specs.declared.refusal.FormFault.{FormFault}
use Rattle.cfg_ast.specs.declared.refusal.Kind.TheVariants as kind
use Rattle.cfg_ast.specs.declared.refusal.ReadRefusal.TheVariants as refusal
use Rattle.cfg_ast.specs.text.TextLines.{TextLine}
use Rattle.cfg_ast.specs.text.RouterForms.{router_item_of}
use Rattle.cfg_ast.specs.text.PolicyForms.{policy_item_of}
use Rattle.cfg_ast.specs.text.PolicyLines.{is_policy_line, has_prefix_entry, with_prefix_entry, has_map_entry, with_community_line}
use Rattle.cfg_ast.specs.text.Stanzas.{has_network, has_neighbor, once, said_at, refusal_of}
use Rattle.cfg_ast.specs.text.Steps.{◌>>=◌}
use Rattle.cfg_ast.specs.text.Reading.{Stanza, closed, ignored, in_interface, in_bgp, in_ospf, in_entry, Draft, State, no_draft, has_interface, with_closed, closing_stanza, new_interface, new_bgp, new_ospf, take_line, take_top, take_policy, step_policy, step_router, end_router, step}
use Rattle.reading_laws.specs.FormFaults.{Thing, host_name, interface, bgp, ospf, prefix_entry, map_entry, StanzaPart, address, cost, What, whole, part, same_what, Open, nothing, unread, within, Saying, silent, end_of_router, top_saying, list_saying, means, top_says, is_top, says, is_given}
use Rattle.reading_laws.proofs.EmptyHeads.{head_is_empty}
use Rattle.reading_laws.proofs.AddedItems.{has_push, prefix_put, map_put}
use Rattle.reading_laws.proofs.Given.{same_self, hits, given_next, given_none, has_thing, has_part, IsOf, SameOpen, Agrees, Outcome, agrees_next, says_top, open_top, fault_top}

-- ---- the router with the open stanza closed

closing_closes : (d : Draft) (st : Stanza) → d.stanza ≡ st → (closing_stanza st d).stanza ≡ closed
closing_closes d closed e = e
closing_closes d ignored e = refl
closing_closes d (in_interface i) e = refl
closing_closes d (in_bgp b) e = refl
closing_closes d (in_ospf o) e = refl
closing_closes d (in_entry name x) e = refl

closed_now : (d : Draft) → (with_closed d).stanza ≡ closed
unfolding with_closed
closed_now d = closing_closes d d.stanza refl

pub closed_same : (d : Draft) → d.stanza ≡ closed → with_closed d ≡ d
unfolding with_closed
closed_same d e = rw e refl

-- what a top line adds to a router whose stanza is closed
abbrev Adds : Draft → Option What → Draft → Type 0
Adds c o d = (u : Thing) → has_thing (with_closed d) u ≡ (hits o (whole u) || has_thing c u)

names : (c : Draft) (h : Named) → c.stanza ≡ closed → Adds c (Some (whole host_name)) (record c { name = Some h })
names c h e host_name = rw (closed_same (record c { name = Some h }) e) refl
names c h e _ = rw (closed_same (record c { name = Some h }) e) refl

lists : (c : Draft) (name : List ℕ) (x : PrefixEntry) → c.stanza ≡ closed →
    Adds c (Some (whole (prefix_entry name x.seq))) (record c { prefix_lists = with_prefix_entry name x c.prefix_lists })
lists c name x e (prefix_entry n k) = rw (closed_same (record c { prefix_lists = with_prefix_entry name x c.prefix_lists }) e)
    (prefix_put name x c.prefix_lists n k)
lists c name x e _ = rw (closed_same (record c { prefix_lists = with_prefix_entry name x c.prefix_lists }) e) refl

matches : (c : Draft) (cs : List CommunityList) → c.stanza ≡ closed → Adds c None (record c { community_lists = cs })
matches c cs e host_name = rw (closed_same (record c { community_lists = cs }) e) refl
matches c cs e _ = rw (closed_same (record c { community_lists = cs }) e) refl

stays : (c : Draft) → c.stanza ≡ closed → Adds c None c
stays c e u = rw (closed_same c e) refl

skips : (c : Draft) → Adds c None (record c { stanza = ignored })
unfolding with_closed
skips c host_name = refl
skips c _ = refl

adds_interface : (c : Draft) (i : Interface) → Adds c (Some (whole (interface i.name))) (record c { stanza = in_interface i })
unfolding with_closed
adds_interface c i (interface n) = has_push c.interfaces i n
adds_interface c i _ = refl

adds_bgp : (c : Draft) (b : BgpProcess) → Adds c (Some (whole bgp)) (record c { stanza = in_bgp b })
unfolding with_closed
adds_bgp c b bgp = refl
adds_bgp c b _ = refl

adds_ospf : (c : Draft) (o : OspfProcess) → Adds c (Some (whole ospf)) (record c { stanza = in_ospf o })
unfolding with_closed
adds_ospf c o ospf = refl
adds_ospf c o _ = refl

adds_entry : (c : Draft) (name : List ℕ) (e : MapEntry) → Adds c (Some (whole (map_entry name e.seq))) (record c { stanza = in_entry name e })
unfolding with_closed
adds_entry c name e (map_entry n k) = map_put name e c.route_maps n k
adds_entry c name e _ = refl

-- ---- what comes of a top line

-- the stanza that a top line opens, which has nothing yet
abbrev Opens : Thing → Stanza → Open → Type 0
Opens t st nothing = st ≡ closed
Opens t st unread = ⊥
Opens t st (within u) = (u ≡ t) × IsOf st t × ((p : StanzaPart) → has_part st p ≡ false)

-- a line that gives a thing
abbrev thing_line : Thing → Open → Saying
thing_line t o = record { gives = Some (whole t); peer = None; opens = o; ends = false }

opened_new : (past : List TextLine) (l : TextLine) (t : Thing) (st : Stanza) (o : Open) → says past l ≡ Ok (thing_line t o) →
    ((p : StanzaPart) → is_given past (part t p) ≡ false) → Opens t st o → SameOpen (l ∷ past) st o
opened_new past l t st nothing said none opens = opens
opened_new past l t st unread said none opens = absurd opens
opened_new past l t st (within u) said none opens =
    let next : (w : What) → is_given (l ∷ past) w ≡ (same_what (whole t) w || is_given past w) =
    λ w. given_next past l (thing_line t (within u)) (Some (whole t)) w said refl refl in
    rw opens.0 (
      opens.1,
      rw (next (whole t), same_self t) refl,
      λ p. rw (opens.2 p, next (part t p), none p) refl,
    )

gives_thing : (past : List TextLine) (l : TextLine) (s : State) (t : Thing) (o : Open) (d : Draft) → Agrees past s → is_top l ≡ true →
    top_says l ≡ Ok (thing_line t o)
    → step s l ≡ (once l.number (has_thing (with_closed s.draft) t) d >>= (λ (e : Draft). Ok (record { routers = s.routers; draft = e })))
    → Adds (with_closed s.draft) (Some (whole t)) d → Opens t d.stanza o → (b : Bool) → has_thing (with_closed s.draft) t ≡ b → Outcome past l s
gives_thing past l s t o d ag top told stepped adds opens true has =
    let was : is_given past (whole t) ≡ true = sym (ag.things t) ∙ has in
    inl (refusal.At l.number kind.Repeated, stepped ∙ rw has refl, fault_top past l (Ok (thing_line t o)) top told ∙ rw was refl)
gives_thing past l s t o d ag top told stepped adds opens false has =
    let was : is_given past (whole t) ≡ false = sym (ag.things t) ∙ has in
    let said : says past l ≡ Ok (thing_line t o) = says_top past l (Ok (thing_line t o)) top told in
    let next : State = record { routers = s.routers; draft = d } in
    inr (
      next,
      stepped ∙ rw has refl,
      fault_top past l (Ok (thing_line t o)) top told ∙ rw was refl,
      agrees_next past l s next (thing_line t o) (Some (whole t)) ag said refl refl tt adds
          (rw (open_top past l (Ok (thing_line t o)) top told) (opened_new past l t d.stanza o said (λ p. ag.fresh t p was) opens)),
    )

-- a line that gives nothing, and ends no router
abbrev plain_line : Open → Saying
plain_line o = record { gives = None; peer = None; opens = o; ends = false }

gives_nothing : (past : List TextLine) (l : TextLine) (s : State) (o : Open) (d : Draft) → Agrees past s → is_top l ≡ true → top_says l ≡ Ok (plain_line o)
    → step s l ≡ Ok (record { routers = s.routers; draft = d }) → Adds (with_closed s.draft) None d → SameOpen (l ∷ past) d.stanza o → Outcome past l s
gives_nothing past l s o d ag top told stepped adds opens =
    let next : State = record { routers = s.routers; draft = d } in
    inr (
      next,
      stepped,
      fault_top past l (Ok (plain_line o)) top told,
      agrees_next past l s next (plain_line o) None ag (says_top past l (Ok (plain_line o)) top told) refl refl tt adds
          (rw (open_top past l (Ok (plain_line o)) top told) opens),
    )

-- a router that is still to come has nothing
nothing_yet : (u : Thing) → has_thing (with_closed no_draft) u ≡ false
unfolding with_closed has_interface has_prefix_entry has_map_entry
nothing_yet host_name = refl
nothing_yet _ = refl

abbrev ended : Named → Draft → Router
ended host d = record {
  name = host.name;
  line = host.line;
  interfaces = d.interfaces;
  bgp = d.bgp;
  ospf = d.ospf;
  prefix_lists = d.prefix_lists;
  community_lists = d.community_lists;
  route_maps = d.route_maps;
}

ends_case : (past : List TextLine) (l : TextLine) (s : State) → Agrees past s → is_top l ≡ true → top_says l ≡ Ok end_of_router →
    step s l ≡ end_router l.number (record { routers = s.routers; draft = with_closed s.draft })
    → (o : Option Named) → (with_closed s.draft).name ≡ o → Outcome past l s
ends_case past l s ag top told stepped None has =
    let was : is_given past (whole host_name) ≡ false = sym (ag.things host_name) ∙ ap (λ (h : Option Named). is_some h) has in
    inl (refusal.At l.number kind.NoHostname, stepped ∙ rw has refl, fault_top past l (Ok end_of_router) top told ∙ rw was refl)
ends_case past l s ag top told stepped (Some h) has =
    let was : is_given past (whole host_name) ≡ true = sym (ag.things host_name) ∙ ap (λ (h : Option Named). is_some h) has in
    let none : (w : What) → is_given (l ∷ past) w ≡ false = λ w. given_none past l end_of_router w (says_top past l (Ok end_of_router) top told) refl in
    let next : State = record { routers = s.routers ++ ended h (with_closed s.draft) ∷ []; draft = no_draft } in
    inr (
      next,
      stepped ∙ rw has refl,
      fault_top past l (Ok end_of_router) top told ∙ rw was refl,
      record {
        things = λ u. nothing_yet u ∙ sym (none (whole u));
        open_is = rw (open_top past l (Ok end_of_router) top told) refl;
        fresh = λ t p not. none (part t p);
      },
    )

-- ---- a line of the table of router lines

router_says : (l : TextLine) (r : Result RouterItem FormFault) → is_policy_line l.words ≡ false → router_item_of scope.Top l.number l.words ≡ r →
    top_says l ≡ means top_saying r
router_says l r plain read = rw (plain, read) refl

router_steps : (s : State) (l : TextLine) (r : Result RouterItem FormFault) → is_top l ≡ true → is_policy_line l.words ≡ false →
    router_item_of scope.Top l.number l.words ≡ r
    → step s l ≡ (said_at l.number r >>= (λ (said : RouterItem). take_top l.number said (record { routers = s.routers; draft = with_closed s.draft })))
unfolding step step_router
router_steps s l r top plain read = rw (top, plain, read) refl

-- an item of another scope
other_item : (past : List TextLine) (l : TextLine) (s : State) → Agrees past s → is_top l ≡ true → top_says l ≡ Ok silent →
    step s l ≡ Ok (record { routers = s.routers; draft = with_closed s.draft }) → Outcome past l s
other_item past l s ag top told stepped =
    gives_nothing past l s nothing (with_closed s.draft) ag top told stepped (stays (with_closed s.draft) (closed_now s.draft)) (closed_now s.draft)

new_interface_has : (n : ℕ) (name : List ℕ) (p : StanzaPart) → has_part (in_interface (new_interface n name)) p ≡ false
new_interface_has n name address = refl
new_interface_has n name cost = refl
new_interface_has n name _ = refl

new_bgp_has : (n number : ℕ) (p : StanzaPart) → has_part (in_bgp (new_bgp n number)) p ≡ false
unfolding has_network has_neighbor
new_bgp_has n number address = refl
new_bgp_has n number _ = refl

router_case : (past : List TextLine) (l : TextLine) (s : State) → Agrees past s → is_top l ≡ true → is_policy_line l.words ≡ false →
    (r : Result RouterItem FormFault) → router_item_of scope.Top l.number l.words ≡ r → Outcome past l s
unfolding take_top take_line
router_case past l s ag top plain (Err f) read =
    inl (refusal_of l.number f, router_steps s l _ top plain read, fault_top past l _ top (router_says l _ plain read))
router_case past l s ag top plain (Ok (item.Hostname name)) read =
    let h : Named = record { name = name; line = l.number } in
    gives_thing past l s host_name nothing (record (with_closed s.draft) { name = Some h }) ag top (router_says l _ plain read)
    (router_steps s l _ top plain read) (names (with_closed s.draft) h (closed_now s.draft)) (closed_now s.draft) (is_some (with_closed s.draft).name) refl
router_case past l s ag top plain (Ok (item.Interface name)) read =
    let i : Interface = new_interface l.number name in
    gives_thing past l s (interface name) (within (interface name)) (record (with_closed s.draft) { stanza = in_interface i }) ag top
    (router_says l _ plain read) (router_steps s l _ top plain read) (adds_interface (with_closed s.draft) i) (refl, refl, new_interface_has l.number name)
    (has_interface (with_closed s.draft).interfaces name) refl
router_case past l s ag top plain (Ok (item.Bgp number)) read =
    gives_thing past l s bgp (within bgp) (record (with_closed s.draft) { stanza = in_bgp (new_bgp l.number number) }) ag top (router_says l _ plain read)
    (router_steps s l _ top plain read) (adds_bgp (with_closed s.draft) (new_bgp l.number number)) (refl, tt, new_bgp_has l.number number)
    (is_some (with_closed s.draft).bgp) refl
router_case past l s ag top plain (Ok (item.Ospf number)) read =
    gives_thing past l s ospf (within ospf) (record (with_closed s.draft) { stanza = in_ospf (new_ospf l.number number) }) ag top (router_says l _ plain read)
    (router_steps s l _ top plain read) (adds_ospf (with_closed s.draft) (new_ospf l.number number)) (refl, tt, λ p. refl)
    (is_some (with_closed s.draft).ospf) refl
router_case past l s ag top plain (Ok item.End) read =
    ends_case past l s ag top (router_says l _ plain read) (router_steps s l _ top plain read) (with_closed s.draft).name refl
router_case past l s ag top plain (Ok item.Ignored) read =
    gives_nothing past l s unread (record (with_closed s.draft) { stanza = ignored }) ag top (router_says l _ plain read) (router_steps s l _ top plain read)
    (skips (with_closed s.draft)) refl
router_case past l s ag top plain (Ok _) read = other_item past l s ag top (router_says l _ plain read) (router_steps s l _ top plain read)

-- ---- a line of the table of lists and route maps

policy_says : (l : TextLine) (r : Result PolicyItem FormFault) → is_policy_line l.words ≡ true → policy_item_of policy_scope.Top l.number l.words ≡ r →
    top_says l ≡ means list_saying r
policy_says l r listed read = rw (listed, read) refl

policy_steps : (s : State) (l : TextLine) (r : Result PolicyItem FormFault) → is_top l ≡ true → is_policy_line l.words ≡ true →
    policy_item_of policy_scope.Top l.number l.words ≡ r
    → step s l ≡ (said_at l.number r >>= (λ (said : PolicyItem). take_policy l.number said (with_closed s.draft) >>=
    (λ (d : Draft). Ok (record { routers = s.routers; draft = d }))))
unfolding step step_policy
policy_steps s l r top listed read = rw (top, listed, read) refl

listed_case : (past : List TextLine) (l : TextLine) (s : State) → Agrees past s → is_top l ≡ true → is_policy_line l.words ≡ true →
    (r : Result PolicyItem FormFault) → policy_item_of policy_scope.Top l.number l.words ≡ r → Outcome past l s
unfolding take_policy
listed_case past l s ag top listed (Err f) read =
    inl (refusal_of l.number f, policy_steps s l _ top listed read, fault_top past l _ top (policy_says l _ listed read))
listed_case past l s ag top listed (Ok (policy.PrefixEntry name e)) read =
    gives_thing past l s (prefix_entry name e.seq) nothing
    (record (with_closed s.draft) { prefix_lists = with_prefix_entry name e (with_closed s.draft).prefix_lists }) ag top (policy_says l _ listed read)
    (policy_steps s l _ top listed read) (lists (with_closed s.draft) name e (closed_now s.draft)) (closed_now s.draft)
    (has_prefix_entry (with_closed s.draft).prefix_lists name e.seq) refl
listed_case past l s ag top listed (Ok (policy.MapHead name e)) read =
    gives_thing past l s (map_entry name e.seq) (within (map_entry name e.seq)) (record (with_closed s.draft) { stanza = in_entry name e }) ag top
    (policy_says l _ listed read) (policy_steps s l _ top listed read) (adds_entry (with_closed s.draft) name e)
    (refl, (refl, refl), head_is_empty policy_scope.Top l.number l.words name e read) (has_map_entry (with_closed s.draft).route_maps name e.seq) refl
listed_case past l s ag top listed (Ok (policy.CommunityLine name line)) read =
    let cs : List CommunityList = with_community_line name line (with_closed s.draft).community_lists in
    gives_nothing past l s nothing (record (with_closed s.draft) { community_lists = cs }) ag top (policy_says l _ listed read)
    (policy_steps s l _ top listed read) (matches (with_closed s.draft) cs (closed_now s.draft)) (closed_now s.draft)
listed_case past l s ag top listed (Ok policy.Ignored) read =
    gives_nothing past l s unread (record (with_closed s.draft) { stanza = ignored }) ag top (policy_says l _ listed read) (policy_steps s l _ top listed read)
    (skips (with_closed s.draft)) refl
listed_case past l s ag top listed (Ok _) read = other_item past l s ag top (policy_says l _ listed read) (policy_steps s l _ top listed read)

-- ---- all top lines

pub top_case : (past : List TextLine) (l : TextLine) (s : State) → Agrees past s → is_top l ≡ true → (b : Bool) → is_policy_line l.words ≡ b → Outcome past l s
top_case past l s ag top true listed = listed_case past l s ag top listed (policy_item_of policy_scope.Top l.number l.words) refl
top_case past l s ag top false plain = router_case past l s ag top plain (router_item_of scope.Top l.number l.words) refl
