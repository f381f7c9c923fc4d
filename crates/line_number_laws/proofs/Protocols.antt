-- The protocol of a network without faults does not depend on line numbers.
use Rattle.std.proofs.Common.{◌≡◌, ℕ, zero, suc, Bool, true, false, cond, not, ◌&&◌, List, [], ◌∷◌, Option, Some, None, map, filter, length, refl, sym, ap, subst, ◌∙◌, length-append}
use Rattle.std.specs.Prelude.{flat_map, nat_lt, slice_get}
use Rattle.std.specs.Option.{option_map}
use Rattle.std.specs.List.{list_all}
use Rattle.std.proofs.lemmas.List.Concat.{flat_map-cons}
use Rattle.std.proofs.lemmas.List.Folds.{list_all-append}
use Rattle.base_kit.specs.declared.protocol.Protocol.{Protocol}
use Rattle.base_kit.specs.declared.protocol.Protocol.TheVariants as protocol
use Rattle.cfg_ast.specs.declared.bgp.BgpProcess.{BgpProcess}
use Rattle.cfg_ast.specs.declared.network.Network.{Network}
use Rattle.cfg_ast.specs.declared.network.Router.{Router}
use Rattle.cfg_ast.specs.declared.ospf.OspfProcess.{OspfProcess}
use Rattle.cfg_ast.specs.meaning.RouterFaults.{ProtocolLine, of_bgp, of_ospf, lines_in_order, protocol_lines_of, protocol_lines, is_same_protocol, same_protocol, unlike_first, mixed_protocol_lines}
use Rattle.cfg_check.specs.Items.{line_of_protocol}
use Rattle.cfg_ast.specs.printing.Bare.{bare_bgp, bare_ospf, bare_router, bare}
use Rattle.line_number_laws.specs.Laws.{ProtocolAside}
use Rattle.line_number_laws.proofs.RouterLines.{no_items}

-- The `router` lines of a router with two processes may change places: in both orders they have one
-- protocol, or in neither.

is_of : Protocol → ProtocolLine → Bool
is_of q line = is_same_protocol q line.protocol

is_itself : (q : Protocol) → is_same_protocol q q ≡ true
is_itself protocol.Bgp = refl
is_itself protocol.Ospf = refl

is_one : (q r : Protocol) → is_same_protocol q r ≡ true → q ≡ r
is_one protocol.Bgp protocol.Bgp same = refl
is_one protocol.Bgp protocol.Ospf same = absurd cc
is_one protocol.Ospf protocol.Bgp same = absurd cc
is_one protocol.Ospf protocol.Ospf same = refl

all_like : (first : ProtocolLine) (lines : List ProtocolLine) → filter (λ line. not (same_protocol first line)) lines ≡ [] →
    list_all (is_of first.protocol) lines ≡ true
unfolding is_of
all_like first [] none = refl
all_like first (line ∷ lines) none = step (same_protocol first line) none (all_like first lines)
  where
    step : (b : Bool) → cond (not b) (line ∷ filter (λ other. not (same_protocol first other)) lines)
        (filter (λ other. not (same_protocol first other)) lines) ≡ []
        → (filter (λ other. not (same_protocol first other)) lines ≡ [] → list_all (is_of first.protocol) lines ≡ true) →
        (b && list_all (is_of first.protocol) lines) ≡ true
    step true none ih = ih none
    step false none ih = absurd cc

none_unlike : (first : ProtocolLine) (lines : List ProtocolLine) → list_all (is_of first.protocol) lines ≡ true →
    filter (λ line. not (same_protocol first line)) lines ≡ []
unfolding is_of
none_unlike first [] all = refl
none_unlike first (line ∷ lines) all = step (same_protocol first line) all (none_unlike first lines)
  where
    step : (b : Bool) → (b && list_all (is_of first.protocol) lines) ≡ true
        → (list_all (is_of first.protocol) lines ≡ true → filter (λ other. not (same_protocol first other)) lines ≡ []) →
        cond (not b) (line ∷ filter (λ other. not (same_protocol first other)) lines) (filter (λ other. not (same_protocol first other)) lines) ≡ []
    step true all ih = ih all
    step false all ih = absurd cc

and_first : (a b : Bool) → (a && b) ≡ true → a ≡ true
and_first true b both = refl
and_first false b both = both

and_second : (a b : Bool) → (a && b) ≡ true → b ≡ true
and_second true b both = both
and_second false b both = absurd cc

one_protocol : (lines : List ProtocolLine) → unlike_first same_protocol lines ≡ [] → (q : Protocol) × (list_all (is_of q) lines ≡ true)
unfolding is_of
one_protocol [] none = (protocol.Bgp, refl)
one_protocol (line ∷ lines) none = (line.protocol, rw (is_itself line.protocol) (all_like line lines none))

no_other : (q : Protocol) (lines : List ProtocolLine) → list_all (is_of q) lines ≡ true → unlike_first same_protocol lines ≡ []
unfolding is_of
no_other q [] all = refl
no_other q (line ∷ lines) all =
    let same : q ≡ line.protocol = is_one q line.protocol (and_first (is_of q line) (list_all (is_of q) lines) all) in
    none_unlike line lines (let P : Protocol → Type 0 = λ r. list_all (is_of r) lines ≡ true in
    subst P same (and_second (is_of q line) (list_all (is_of q) lines) all))

in_order_bare : (q : Protocol) (b : Option BgpProcess) (o : Option OspfProcess) →
    list_all (is_of q) (lines_in_order (option_map bare_bgp b) (option_map bare_ospf o)) ≡ list_all (is_of q) (lines_in_order b o)
unfolding is_of
in_order_bare q None None = refl
in_order_bare q None (Some o) = refl
in_order_bare q (Some b) None = refl
in_order_bare q (Some b) (Some o) = step q (nat_lt b.line o.line) where
  step : (r : Protocol) (before : Bool) → (is_same_protocol r protocol.Ospf && (is_same_protocol r protocol.Bgp && true)) ≡ list_all (is_of r)
      (cond before (of_bgp b ∷ of_ospf o ∷ []) (of_ospf o ∷ of_bgp b ∷ []))
  step protocol.Bgp true = refl
  step protocol.Bgp false = refl
  step protocol.Ospf true = refl
  step protocol.Ospf false = refl

protocols_bare : (q : Protocol) (routers : List Router) →
    list_all (is_of q) (flat_map protocol_lines_of (map bare_router routers)) ≡ list_all (is_of q) (flat_map protocol_lines_of routers)
protocols_bare q [] = refl
protocols_bare q (r ∷ routers) =
    ap (list_all (is_of q)) (flat_map-cons protocol_lines_of (bare_router r) (map bare_router routers))
    ∙ list_all-append (is_of q) (protocol_lines_of (bare_router r)) (flat_map protocol_lines_of (map bare_router routers))
    ∙ rw (in_order_bare q r.bgp r.ospf, protocols_bare q routers) (sym (list_all-append (is_of q) (protocol_lines_of r) (flat_map protocol_lines_of routers)))
    ∙ ap (list_all (is_of q)) (sym (flat_map-cons protocol_lines_of r routers))

pub mixed_aside : (m n : Network) → bare m ≡ bare n → mixed_protocol_lines n ≡ [] → mixed_protocol_lines m ≡ []
unfolding mixed_protocol_lines
mixed_aside m n same none =
    let one = one_protocol (protocol_lines n) (no_items line_of_protocol (unlike_first same_protocol (protocol_lines n)) none) in
    let routers : map bare_router m.routers ≡ map bare_router n.routers = ap (λ (k : Network). k.routers) same in
    ap (map line_of_protocol)
    (no_other one.0 (protocol_lines m)
    (sym (protocols_bare one.0 m.routers) ∙ ap (λ (rs : List Router). list_all (is_of one.0) (flat_map protocol_lines_of rs)) routers
    ∙ protocols_bare one.0 n.routers ∙ one.1))

-- The protocol of the first line.

-- of so many lines
abbrev first_of : Protocol → ℕ → Option Protocol
first_of q zero = None
first_of q (suc n) = Some q

first_is : (q : Protocol) (lines : List ProtocolLine) → list_all (is_of q) lines ≡ true →
    option_map (λ (l : ProtocolLine). l.protocol) (slice_get lines 0) ≡ first_of q (length lines)
unfolding is_of
first_is q [] all = refl
first_is q (line ∷ lines) all = ap (λ r. Some r) (sym (is_one q line.protocol (and_first (is_of q line) (list_all (is_of q) lines) all)))

order_length : (b : Option BgpProcess) (o : Option OspfProcess) →
    length (lines_in_order (option_map bare_bgp b) (option_map bare_ospf o)) ≡ length (lines_in_order b o)
order_length None None = refl
order_length None (Some o) = refl
order_length (Some b) None = refl
order_length (Some b) (Some o) = step (nat_lt b.line o.line) where
  step : (before : Bool) → 2 ≡ length (cond before (of_bgp b ∷ of_ospf o ∷ []) (of_ospf o ∷ of_bgp b ∷ []))
  step true = refl
  step false = refl

lines_length : (routers : List Router) → length (flat_map protocol_lines_of (map bare_router routers)) ≡ length (flat_map protocol_lines_of routers)
lines_length [] = refl
lines_length (r ∷ routers) =
    ap (λ (ls : List ProtocolLine). length ls) (flat_map-cons protocol_lines_of (bare_router r) (map bare_router routers))
    ∙ length-append (protocol_lines_of (bare_router r)) (flat_map protocol_lines_of (map bare_router routers))
    ∙ rw (order_length r.bgp r.ospf, lines_length routers) (sym (length-append (protocol_lines_of r) (flat_map protocol_lines_of routers)))
    ∙ ap (λ (ls : List ProtocolLine). length ls) (sym (flat_map-cons protocol_lines_of r routers))

pub aside : ProtocolAside
unfolding mixed_protocol_lines
aside m n same ok =
    let one = one_protocol (protocol_lines n) (no_items line_of_protocol (unlike_first same_protocol (protocol_lines n)) ok.mixed_protocols) in
    let routers : map bare_router m.routers ≡ map bare_router n.routers = ap (λ (k : Network). k.routers) same in
    let all = sym (protocols_bare one.0 m.routers) ∙ ap (λ (rs : List Router). list_all (is_of one.0) (flat_map protocol_lines_of rs)) routers
    ∙ protocols_bare one.0 n.routers ∙ one.1 in
    let many = sym (lines_length m.routers) ∙ ap (λ (rs : List Router). length (flat_map protocol_lines_of rs)) routers ∙ lines_length n.routers in
    first_is one.0 (protocol_lines m) all ∙ ap (first_of one.0) many ∙ sym (first_is one.0 (protocol_lines n) one.1)
