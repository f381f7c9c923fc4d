-- A line of a BGP process, in the state that agrees with the lines before.
use Rattle.std.proofs.Common.{◌≡◌, ℕ, Bool, true, false, ◌||◌, List, [], ◌∷◌, ◌++◌, Option, Some, None, Result, Ok, Err, refl, sym, ◌∙◌, is_some, ◌==◌, if◌then◌else◌, inl}
use Rattle.cfg_ast.specs.declared.network.Named.{Named}
use Rattle.cfg_ast.specs.declared.bgp.Base.{Base}
use Rattle.cfg_ast.specs.declared.bgp.Neighbor.{Neighbor}
use Rattle.cfg_ast.specs.declared.bgp.NetLine.{NetLine}
use Rattle.cfg_ast.specs.declared.bgp.BgpProcess.{BgpProcess}
use Rattle.cfg_ast.specs.declared.items.Scope.TheVariants as scope
use Rattle.cfg_ast.specs.declared.items.RouterItem.{RouterItem}
use Rattle.cfg_ast.specs.declared.items.RouterItem.TheVariants as item
use Rattle.cfg_ast.specs.declared.refusal.FormFault.{FormFault}
use Rattle.cfg_ast.specs.declared.refusal.Kind.TheVariants as kind
use Rattle.cfg_ast.specs.declared.refusal.ReadRefusal.{ReadRefusal}
use Rattle.cfg_ast.specs.declared.refusal.ReadRefusal.TheVariants as refusal
use Rattle.cfg_ast.specs.text.TextLines.{TextLine}
use Rattle.cfg_ast.specs.text.RouterForms.{router_item_of}
use Rattle.cfg_ast.specs.text.Stanzas.{once, said_at, set_bgp, set_process, set_neighbor, new_neighbor, has_network, has_neighbor, at_neighbor}
use Rattle.cfg_ast.specs.text.Steps.{◌>>=◌}
use Rattle.base_kit.specs.Prefixes.{same_prefix}
use Rattle.cfg_ast.specs.text.Reading.{Stanza, in_bgp, State, with_closed, take_inner}
use Rattle.reading_laws.specs.FormFaults.{Thing, host_name, bgp, StanzaPart, network, preference, remote_as, list_in, list_out, map_in, map_out, part, same_part, within, Saying, adding, bgp_saying, means, inner_says, is_given, when, repeated}
use Rattle.reading_laws.proofs.Given.{has_thing, bgp_has, peer_has, has_list_in, has_list_out, has_map_in, has_map_out, Outcome, fault_within}
use Rattle.reading_laws.proofs.AddedItems.{any_push}
use Rattle.reading_laws.proofs.Peers.{put_at, at_stranger, at_known, Puts, of_peer, put_parts, push_test}
use Rattle.reading_laws.proofs.StanzaLines.{Within, SameThing, of, adds_part, inner_step, goes_on, gives_part, gives_none, stops}

same_bgp : (s : State) (b c : BgpProcess) → s.draft.stanza ≡ in_bgp b → SameThing s bgp (in_bgp c)
unfolding with_closed
same_bgp s b c stands = (tt, λ u. kept u)
  where
    kept : (u : Thing) → has_thing (with_closed (record s.draft { stanza = in_bgp c })) u ≡ has_thing (with_closed s.draft) u
    kept host_name = rw stands refl
    kept _ = rw stands refl

bgp_takes : (l : TextLine) (b : BgpProcess) (r : Result RouterItem FormFault) → router_item_of scope.Bgp l.number l.words ≡ r →
    take_inner l (in_bgp b) ≡ (said_at l.number r >>= (λ (said : RouterItem). set_bgp l.number said b >>= (λ (c : BgpProcess). Ok (in_bgp c))))
unfolding take_inner
bgp_takes l b r read = rw read refl

bgp_says : (l : TextLine) (r : Result RouterItem FormFault) → router_item_of scope.Bgp l.number l.words ≡ r → inner_says l (within bgp) ≡ means bgp_saying r
bgp_says l r read = rw read refl

-- ---- the process itself

has_base : (b : BgpProcess) (x : Base) (p : StanzaPart) → bgp_has (record b { base = Some x }) p ≡ (same_part preference p || bgp_has b p)
has_base b x preference = refl
has_base b x _ = refl

has_net : (b : BgpProcess) (x : NetLine) (p : StanzaPart) → bgp_has (record b { networks = b.networks ++ x ∷ [] }) p
    ≡ (same_part (network x.prefix) p || bgp_has b p)
unfolding has_network
has_net b x (network q) = any_push (λ (net : NetLine). same_prefix net.prefix q) b.networks x
has_net b x _ = refl

has_peer : (b : BgpProcess) (n addr remote : ℕ) (p : StanzaPart) →
    bgp_has (record b { neighbors = b.neighbors ++ new_neighbor n addr remote ∷ [] }) p ≡ (same_part (remote_as addr) p || bgp_has b p)
unfolding has_neighbor
has_peer b n addr remote (remote_as a) = any_push (λ (p : Neighbor). p.addr == a) b.neighbors (new_neighbor n addr remote)
has_peer b n addr remote (list_in a) = push_test has_list_in (new_neighbor n addr remote) refl b.neighbors a
has_peer b n addr remote (list_out a) = push_test has_list_out (new_neighbor n addr remote) refl b.neighbors a
has_peer b n addr remote (map_in a) = push_test has_map_in (new_neighbor n addr remote) refl b.neighbors a
has_peer b n addr remote (map_out a) = push_test has_map_out (new_neighbor n addr remote) refl b.neighbors a
has_peer b n addr remote _ = refl

-- ---- a neighbour

-- a line that adds this to the neighbour of this address
abbrev peer_line : ℕ → Option StanzaPart → Saying
peer_line addr o = adding addr (of bgp o)

abbrev peers_in : BgpProcess → List Neighbor → Stanza
peers_in b peers = in_bgp (record b { neighbors = peers })

-- the neighbour stands: the line is its first of this kind, or is repeated
known_case : (past : List TextLine) (l : TextLine) (s : State) (b : BgpProcess) (addr : ℕ) (o : Option StanzaPart) (peers : List Neighbor) →
    Within past l s bgp (in_bgp b) → inner_says l (within bgp) ≡ Ok (peer_line addr o) → is_given past (part bgp (remote_as addr)) ≡ true
    → ((p : StanzaPart) → bgp_has (record b { neighbors = peers }) p ≡ (adds_part o p || bgp_has b p))
    → (c : Bool) → take_inner l (in_bgp b) ≡ (once l.number c peers >>= (λ (ps : List Neighbor). Ok (peers_in b ps))) →
    repeated past l.number (of bgp o) ≡ when c (refusal.At l.number kind.Repeated) → Outcome past l s
known_case past l s b addr o peers w told stands adds true takes again =
    inl (
      refusal.At l.number kind.Repeated,
      inner_step s l (in_bgp b) w.inner w.stands
          ∙ rw takes refl,
      fault_within past l bgp (Ok (peer_line addr o)) w.inner w.opened told ∙ rw (stands, again) refl,
    )
known_case past l s b addr o peers w told stands adds false takes again =
    goes_on past l s bgp (in_bgp b) (peers_in b peers) o (peer_line addr o) w told refl refl
    (fault_within past l bgp (Ok (peer_line addr o)) w.inner w.opened told ∙ rw (stands, again) refl) takes
    (same_bgp s b (record b { neighbors = peers }) w.stands) adds

-- what a line of a neighbour does: it changes the neighbour where it passes no test yet
abbrev Changes : ℕ → (Neighbor → Result Neighbor ReadRefusal) → (Neighbor → Bool) → (Neighbor → Neighbor) → Type 0
Changes n change test put = (p : Neighbor) → change p ≡ once n (test p) (put p)

regroup : (n : ℕ) (c : Bool) (b : BgpProcess) (peers : List Neighbor)
    → ((once n c peers >>= (λ (ps : List Neighbor). Ok (record b { neighbors = ps }))) >>= (λ (d : BgpProcess). Ok (in_bgp d))) ≡ (once n c peers >>=
    (λ (ps : List Neighbor). Ok (peers_in b ps)))
regroup n true b peers = refl
regroup n false b peers = refl

peer_case : (past : List TextLine) (l : TextLine) (s : State) (b : BgpProcess) (addr : ℕ) (o : Option StanzaPart) (said : RouterItem) (test : Neighbor → Bool)
    (put : Neighbor → Neighbor) → Within past l s bgp (in_bgp b) → inner_says l (within bgp) ≡ Ok (peer_line addr o)
    → take_inner l (in_bgp b) ≡ ((at_neighbor l.number addr (set_neighbor l.number said) b.neighbors >>=
    (λ (ps : List Neighbor). Ok (record b { neighbors = ps }))) >>= (λ (d : BgpProcess). Ok (in_bgp d)))
    → Changes l.number (set_neighbor l.number said) test put
    → (has_neighbor b.neighbors addr ≡ true → (p : StanzaPart)
    → bgp_has (record b { neighbors = put_at addr put b.neighbors }) p ≡ (adds_part o p || bgp_has b p))
    → repeated past l.number (of bgp o) ≡ when (peer_has test b.neighbors addr) (refusal.At l.number kind.Repeated)
    → (c : Bool) → has_neighbor b.neighbors addr ≡ c → Outcome past l s
peer_case past l s b addr o said test put w told takes changes adds again false has =
    let was : is_given past (part bgp (remote_as addr)) ≡ false = sym (w.parts (remote_as addr)) ∙ has in
    inl (
      refusal.At l.number kind.Misplaced,
      inner_step s l (in_bgp b) w.inner w.stands
          ∙ rw (takes, at_stranger l.number addr (set_neighbor l.number said) b.neighbors has) refl,
      fault_within past l bgp (Ok (peer_line addr o)) w.inner w.opened told ∙ rw was refl,
    )
peer_case past l s b addr o said test put w told takes changes adds again true has =
    known_case past l s b addr o (put_at addr put b.neighbors) w told (sym (w.parts (remote_as addr)) ∙ has) (adds has) (peer_has test b.neighbors addr)
    (takes ∙ rw (at_known l.number addr (set_neighbor l.number said) test put changes b.neighbors has)
    (regroup l.number (peer_has test b.neighbors addr) b (put_at addr put b.neighbors))) again

-- what is given a neighbour is repeated
again_part : (past : List TextLine) (l : TextLine) (s : State) (b : BgpProcess) (q : StanzaPart) → Within past l s bgp (in_bgp b) →
    repeated past l.number (Some (part bgp q)) ≡ when (bgp_has b q) (refusal.At l.number kind.Repeated)
again_part past l s b q w = rw (w.parts q) refl

abbrev no_test : Neighbor → Bool
no_test p = false

never : (n addr : ℕ) (peers : List Neighbor) → peer_has no_test peers addr ≡ false
never n addr [] = refl
never n addr (p ∷ peers) = rw (never n addr peers) (alike (p.addr == addr))
  where
    alike : (b : Bool) → (if b then false else false) ≡ false
    alike true = refl
    alike false = refl

again_none : (past : List TextLine) (l : TextLine) (b : BgpProcess) (addr : ℕ) →
    repeated past l.number None ≡ when (peer_has no_test b.neighbors addr) (refusal.At l.number kind.Repeated)
again_none past l b addr = rw (never l.number addr b.neighbors) refl

-- the five kinds of lines of a neighbour, by the parts that they give
of_none : (addr : ℕ) (p : StanzaPart) → of_peer addr false false false false p ≡ false
of_none addr (list_in a) = refl
of_none addr _ = refl

of_list_in : (addr : ℕ) (p : StanzaPart) → of_peer addr true false false false p ≡ same_part (list_in addr) p
of_list_in addr (list_in a) = refl
of_list_in addr _ = refl

of_list_out : (addr : ℕ) (p : StanzaPart) → of_peer addr false true false false p ≡ same_part (list_out addr) p
of_list_out addr (list_out a) = refl
of_list_out addr _ = refl

of_map_in : (addr : ℕ) (p : StanzaPart) → of_peer addr false false true false p ≡ same_part (map_in addr) p
of_map_in addr (map_in a) = refl
of_map_in addr _ = refl

of_map_out : (addr : ℕ) (p : StanzaPart) → of_peer addr false false false true p ≡ same_part (map_out addr) p
of_map_out addr (map_out a) = refl
of_map_out addr _ = refl

abbrev put_shut : Neighbor → Neighbor
put_shut p = record p { shut = true }

abbrev put_sends : Neighbor → Neighbor
put_sends p = record p { sends = true }

abbrev put_list_in : Named → Neighbor → Neighbor
put_list_in x p = record p { list_in = Some x }

abbrev put_list_out : Named → Neighbor → Neighbor
put_list_out x p = record p { list_out = Some x }

abbrev put_map_in : Named → Neighbor → Neighbor
put_map_in x p = record p { map_in = Some x }

abbrev put_map_out : Named → Neighbor → Neighbor
put_map_out x p = record p { map_out = Some x }

-- ---- each line of the process

pub bgp_case : (past : List TextLine) (l : TextLine) (s : State) (b : BgpProcess) → Within past l s bgp (in_bgp b) → (r : Result RouterItem FormFault) →
    router_item_of scope.Bgp l.number l.words ≡ r → Outcome past l s
unfolding set_bgp set_process set_neighbor
bgp_case past l s b w (Err f) read = stops past l s bgp (in_bgp b) f w (bgp_says l _ read) (bgp_takes l b _ read)
bgp_case past l s b w (Ok (item.Base x)) read =
    gives_part past l s bgp (in_bgp b) preference in_bgp (record b { base = Some x }) w (bgp_says l _ read) (bgp_takes l b _ read)
    (same_bgp s b (record b { base = Some x }) w.stands) (has_base b x) (is_some b.base) refl
bgp_case past l s b w (Ok (item.Network x)) read =
    gives_part past l s bgp (in_bgp b) (network x.prefix) in_bgp (record b { networks = b.networks ++ x ∷ [] }) w (bgp_says l _ read) (bgp_takes l b _ read)
    (same_bgp s b (record b { networks = b.networks ++ x ∷ [] }) w.stands) (has_net b x) (has_network b.networks x.prefix) refl
bgp_case past l s b w (Ok (item.RemoteAs addr remote)) read =
    let c : BgpProcess = record b { neighbors = b.neighbors ++ new_neighbor l.number addr remote ∷ [] } in
    gives_part past l s bgp (in_bgp b) (remote_as addr) in_bgp c w (bgp_says l _ read) (bgp_takes l b _ read) (same_bgp s b c w.stands)
    (has_peer b l.number addr remote) (has_neighbor b.neighbors addr) refl
bgp_case past l s b w (Ok (item.PeerShut addr)) read =
    let puts : Puts addr put_shut false false false false =
    record { same_addr = λ p. refl; lists_in = λ p. refl; lists_out = λ p. refl; maps_in = λ p. refl; maps_out = λ p. refl } in
    peer_case past l s b addr None (item.PeerShut addr) no_test put_shut w (bgp_says l _ read) (bgp_takes l b _ read) (λ p. refl)
    (λ has p. put_parts b addr put_shut false false false false puts has p ∙ rw (of_none addr p) refl) (again_none past l b addr)
    (has_neighbor b.neighbors addr) refl
bgp_case past l s b w (Ok (item.PeerSends addr)) read =
    let puts : Puts addr put_sends false false false false =
    record { same_addr = λ p. refl; lists_in = λ p. refl; lists_out = λ p. refl; maps_in = λ p. refl; maps_out = λ p. refl } in
    peer_case past l s b addr None (item.PeerSends addr) no_test put_sends w (bgp_says l _ read) (bgp_takes l b _ read) (λ p. refl)
    (λ has p. put_parts b addr put_sends false false false false puts has p ∙ rw (of_none addr p) refl) (again_none past l b addr)
    (has_neighbor b.neighbors addr) refl
bgp_case past l s b w (Ok (item.PeerList addr x true)) read =
    let puts : Puts addr (put_list_in x) true false false false =
    record { same_addr = λ p. refl; lists_in = λ p. refl; lists_out = λ p. refl; maps_in = λ p. refl; maps_out = λ p. refl } in
    peer_case past l s b addr (Some (list_in addr)) (item.PeerList addr x true) has_list_in (put_list_in x) w (bgp_says l _ read) (bgp_takes l b _ read)
    (λ p. refl) (λ has p. put_parts b addr (put_list_in x) true false false false puts has p ∙ rw (of_list_in addr p) refl)
    (again_part past l s b (list_in addr) w) (has_neighbor b.neighbors addr) refl
bgp_case past l s b w (Ok (item.PeerList addr x false)) read =
    let puts : Puts addr (put_list_out x) false true false false =
    record { same_addr = λ p. refl; lists_in = λ p. refl; lists_out = λ p. refl; maps_in = λ p. refl; maps_out = λ p. refl } in
    peer_case past l s b addr (Some (list_out addr)) (item.PeerList addr x false) has_list_out (put_list_out x) w (bgp_says l _ read) (bgp_takes l b _ read)
    (λ p. refl) (λ has p. put_parts b addr (put_list_out x) false true false false puts has p ∙ rw (of_list_out addr p) refl)
    (again_part past l s b (list_out addr) w) (has_neighbor b.neighbors addr) refl
bgp_case past l s b w (Ok (item.PeerMap addr x true)) read =
    let puts : Puts addr (put_map_in x) false false true false =
    record { same_addr = λ p. refl; lists_in = λ p. refl; lists_out = λ p. refl; maps_in = λ p. refl; maps_out = λ p. refl } in
    peer_case past l s b addr (Some (map_in addr)) (item.PeerMap addr x true) has_map_in (put_map_in x) w (bgp_says l _ read) (bgp_takes l b _ read) (λ p. refl)
    (λ has p. put_parts b addr (put_map_in x) false false true false puts has p ∙ rw (of_map_in addr p) refl) (again_part past l s b (map_in addr) w)
    (has_neighbor b.neighbors addr) refl
bgp_case past l s b w (Ok (item.PeerMap addr x false)) read =
    let puts : Puts addr (put_map_out x) false false false true =
    record { same_addr = λ p. refl; lists_in = λ p. refl; lists_out = λ p. refl; maps_in = λ p. refl; maps_out = λ p. refl } in
    peer_case past l s b addr (Some (map_out addr)) (item.PeerMap addr x false) has_map_out (put_map_out x) w (bgp_says l _ read) (bgp_takes l b _ read)
    (λ p. refl) (λ has p. put_parts b addr (put_map_out x) false false false true puts has p ∙ rw (of_map_out addr p) refl)
    (again_part past l s b (map_out addr) w) (has_neighbor b.neighbors addr) refl
bgp_case past l s b w (Ok _) read =
    gives_none past l s bgp (in_bgp b) (in_bgp b) w (bgp_says l _ read) (bgp_takes l b _ read) (same_bgp s b b w.stands) (λ p. refl)
