-- The printed lines of a BGP process are read back as the process.
use Rattle.std.proofs.Common.{◌≡◌, ℕ, Bool, true, false, List, [], ◌∷◌, ◌++◌, map, Option, Some, None, Result, Ok, refl, sym, ap, ◌∙◌}
use Rattle.std.specs.Prelude.{IfSome, codes, ◌==◌}
use Rattle.std.specs.Option.{option_map}
use Rattle.std.specs.List.{AllByRecursion, IsDistinct, list_any, flat_map}
use Rattle.std.proofs.lemmas.Bool.{eq-eqb, or_parts}
use Rattle.std.proofs.lemmas.List.{append-nil}
use Rattle.cfg_ast.specs.declared.network.Named.{Named}
use Rattle.cfg_ast.specs.declared.bgp.Base.{Base}
use Rattle.cfg_ast.specs.declared.bgp.NetLine.{NetLine}
use Rattle.cfg_ast.specs.declared.bgp.Neighbor.{Neighbor}
use Rattle.cfg_ast.specs.declared.bgp.BgpProcess.{BgpProcess}
use Rattle.cfg_ast.specs.declared.items.Scope.TheVariants as scope
use Rattle.cfg_ast.specs.declared.items.RouterItem.{RouterItem}
use Rattle.cfg_ast.specs.declared.items.RouterItem.TheVariants as item
use Rattle.cfg_ast.specs.declared.refusal.ReadRefusal.{ReadRefusal}
use Rattle.cfg_ast.specs.text.TextLines.{TextLine}
use Rattle.cfg_ast.specs.text.RouterForms.{router_item_of}
use Rattle.cfg_ast.specs.text.Stanzas.{has_network, has_neighbor, set_neighbor, at_neighbor, peer_of, set_process, set_bgp}
use Rattle.cfg_ast.specs.text.Reading.{in_bgp, take_inner}
use Rattle.cfg_ast.specs.printing.Printed.{line_of_given, line_if, closing, base_line, network_line, remote_line, peer_shut_line, peer_sends_line, applied_line, neighbor_lines}
use Rattle.cfg_ast.specs.printing.Bare.{bare_named, bare_base, bare_net, bare_neighbor, bare_bgp}
use Rattle.cfg_ast.specs.printing.WellFormed.{IsBetween, IsNumber, IsWellFormedBase, IsWellFormedNamed, IsWellFormedNetLine, same_net, IsWellFormedNeighbor, same_neighbor, IsWellFormedBgp}
use Rattle.cfg_round_trip.proofs.ItemsBack.{base_item, network_item, remote_item, peer_shut_item, peer_sends_item, peer_list_item, peer_map_item}
use Rattle.cfg_round_trip.proofs.ReadBack.{at_stanza, Inner, inner_none, inner_then, inner_line, inner_closing, AreNew, new_to_none, new_to_more, grown}

taken : (l : TextLine) (b c : BgpProcess) (said : RouterItem) → router_item_of scope.Bgp l.number l.words ≡ Ok said → set_bgp l.number said b ≡ Ok c →
    take_inner l (in_bgp b) ≡ Ok (in_bgp c)
unfolding take_inner
taken l b c said read set = rw (read, set) refl

abbrev process_with : ℕ → Option Base → List NetLine → List Neighbor → BgpProcess
process_with number base networks neighbors = record { number = number; line = 0; base = base; networks = networks; neighbors = neighbors }

base_stage : (number : ℕ) (o : Option Base) → IfSome o IsWellFormedBase →
    Inner (line_of_given base_line o) (in_bgp (process_with number None [] [])) (in_bgp (process_with number (option_map bare_base o) [] []))
unfolding base_line set_bgp set_process
base_stage number None is = inner_none _
base_stage number (Some base) is = inner_line (base_line base) _ _ refl refl (taken (base_line base) _ _ _ (base_item base is) refl)

-- ---- networks

net_is_new : (number : ℕ) (base : Option Base) (done : List NetLine) (net : NetLine) → list_any (λ earlier. same_net earlier net) done ≡ false
    → set_bgp 0 (item.Network (bare_net net)) (process_with number base done []) ≡ Ok (process_with number base (done ++ bare_net net ∷ []) [])
unfolding set_bgp set_process has_network
net_is_new number base done net new = rw new refl

networks_stage : (number : ℕ) (base : Option Base) (done nets : List NetLine) → AllByRecursion IsWellFormedNetLine nets → IsDistinct same_net nets →
    AreNew same_net done nets
    → Inner (map network_line nets) (in_bgp (process_with number base done [])) (in_bgp (process_with number base (done ++ map bare_net nets) []))
unfolding network_line IsDistinct
networks_stage number base done [] are once new rs d =
    inner_none _ rs d ∙ ap (λ (nets : List NetLine). Ok (at_stanza rs d (in_bgp (process_with number base nets [])))) (sym (append-nil done))
networks_stage number base done (net ∷ nets) are once new rs d =
    inner_then (network_line net ∷ []) (map network_line nets) _ (in_bgp (process_with number base (done ++ bare_net net ∷ []) [])) _
    (inner_line (network_line net) _ _ refl refl (taken (network_line net) _ _ _ (network_item net are.0) (net_is_new number base done net new.0)))
    (networks_stage number base (done ++ bare_net net ∷ []) nets are.1 once.1 (new_to_more same_net done (bare_net net) nets new.1 once.0)) rs d
    ∙ ap (λ (ns : List NetLine). Ok (at_stanza rs d (in_bgp (process_with number base ns [])))) (grown done (bare_net net) (map bare_net nets))

-- ---- a neighbour

-- a process whose last neighbour is this one
abbrev ends_with : BgpProcess → List Neighbor → Neighbor → BgpProcess
ends_with b done p = record b { neighbors = done ++ p ∷ [] }

at_last : (addr : ℕ) (change : Neighbor → Result Neighbor ReadRefusal) (done : List Neighbor) (p q : Neighbor) → p.addr ≡ addr →
    list_any (λ (x : Neighbor). x.addr == addr) done ≡ false → change p ≡ Ok q
    → at_neighbor 0 addr change (done ++ p ∷ []) ≡ Ok (done ++ q ∷ [])
unfolding at_neighbor
at_last addr change [] p q here new changes = rw (eq-eqb p.addr addr here, changes) refl
at_last addr change (x ∷ done) p q here new changes =
    let both = or_parts (x.addr == addr) (list_any (λ (y : Neighbor). y.addr == addr) done) new in
    rw (both.0, at_last addr change done p q here both.1 changes) refl

-- a line of the last neighbour
peer_taken : (l : TextLine) (b : BgpProcess) (done : List Neighbor) (p q : Neighbor) (said : RouterItem) → router_item_of scope.Bgp l.number l.words ≡ Ok said →
    l.number ≡ 0 → peer_of said ≡ Some p.addr
    → list_any (λ (x : Neighbor). x.addr == p.addr) done ≡ false → set_neighbor 0 said p ≡ Ok q →
    take_inner l (in_bgp (ends_with b done p)) ≡ Ok (in_bgp (ends_with b done q))
unfolding set_bgp
peer_taken l b done p q said read zero of new changes =
    taken l (ends_with b done p) (ends_with b done q) said read
    (ap (λ n. set_bgp n said (ends_with b done p)) zero ∙ rw (of, at_last p.addr (set_neighbor 0 said) done p q refl new changes) refl)

abbrev neighbor_with : ℕ → ℕ → Bool → Bool → Option Named → Option Named → Option Named → Option Named → Neighbor
neighbor_with addr remote shut sends list_in list_out map_in map_out = record {
  addr = addr;
  remote = remote;
  line = 0;
  shut = shut;
  sends = sends;
  list_in = list_in;
  list_out = list_out;
  map_in = map_in;
  map_out = map_out;
}

abbrev Lasts : BgpProcess → List Neighbor → List TextLine → Neighbor → Neighbor → Type 0
Lasts b done ls p q = Inner ls (in_bgp (ends_with b done p)) (in_bgp (ends_with b done q))

abbrev IsNewTo : List Neighbor → ℕ → Type 0
IsNewTo done addr = list_any (λ (x : Neighbor). x.addr == addr) done ≡ false

remote_stage : (b : BgpProcess) (addr remote : ℕ) → IsNumber addr → IsBetween 1 4294967295 remote → IsNewTo b.neighbors addr
    → Inner (remote_line addr remote ∷ []) (in_bgp b) (in_bgp (ends_with b b.neighbors (neighbor_with addr remote false false None None None None)))
unfolding remote_line set_bgp set_process has_neighbor
remote_stage b addr remote is range new =
    inner_line (remote_line addr remote) _ _ refl refl (taken (remote_line addr remote) _ _ _ (remote_item addr remote is range) (rw new refl))

shut_stage : (b : BgpProcess) (done : List Neighbor) (addr remote : ℕ) (shut : Bool) → IsNumber addr → IsNewTo done addr
    → Lasts b done (line_if shut (peer_shut_line addr)) (neighbor_with addr remote false false None None None None)
    (neighbor_with addr remote shut false None None None None)
unfolding peer_shut_line set_neighbor
shut_stage b done addr remote false is new = inner_none _
shut_stage b done addr remote true is new =
    inner_line (peer_shut_line addr) _ _ refl refl (peer_taken (peer_shut_line addr) b done _ _ _ (peer_shut_item addr is) refl refl new refl)

sends_stage : (b : BgpProcess) (done : List Neighbor) (addr remote : ℕ) (shut sends : Bool) → IsNumber addr → IsNewTo done addr
    → Lasts b done (line_if sends (peer_sends_line addr)) (neighbor_with addr remote shut false None None None None)
    (neighbor_with addr remote shut sends None None None None)
unfolding peer_sends_line set_neighbor
sends_stage b done addr remote shut false is new = inner_none _
sends_stage b done addr remote shut true is new =
    inner_line (peer_sends_line addr) _ _ refl refl (peer_taken (peer_sends_line addr) b done _ _ _ (peer_sends_item addr is) refl refl new refl)

list_in_stage : (b : BgpProcess) (done : List Neighbor) (addr remote : ℕ) (shut sends : Bool) (o : Option Named) → IsNumber addr → IsNewTo done addr →
    IfSome o IsWellFormedNamed
    → Lasts b done (line_of_given (applied_line addr (codes "prefix-list") (codes "in")) o) (neighbor_with addr remote shut sends None None None None)
    (neighbor_with addr remote shut sends (option_map bare_named o) None None None)
unfolding applied_line set_neighbor
list_in_stage b done addr remote shut sends None is new named = inner_none _
list_in_stage b done addr remote shut sends (Some list) is new named =
    inner_line (applied_line addr (codes "prefix-list") (codes "in") list) _ _ refl refl
    (peer_taken (applied_line addr (codes "prefix-list") (codes "in") list) b done _ _ _ (peer_list_item addr true list is named) refl refl new refl)

list_out_stage : (b : BgpProcess) (done : List Neighbor) (addr remote : ℕ) (shut sends : Bool) (li o : Option Named) → IsNumber addr → IsNewTo done addr →
    IfSome o IsWellFormedNamed
    → Lasts b done (line_of_given (applied_line addr (codes "prefix-list") (codes "out")) o) (neighbor_with addr remote shut sends li None None None)
    (neighbor_with addr remote shut sends li (option_map bare_named o) None None)
unfolding applied_line set_neighbor
list_out_stage b done addr remote shut sends li None is new named = inner_none _
list_out_stage b done addr remote shut sends li (Some list) is new named =
    inner_line (applied_line addr (codes "prefix-list") (codes "out") list) _ _ refl refl
    (peer_taken (applied_line addr (codes "prefix-list") (codes "out") list) b done _ _ _ (peer_list_item addr false list is named) refl refl new refl)

map_in_stage : (b : BgpProcess) (done : List Neighbor) (addr remote : ℕ) (shut sends : Bool) (li lo o : Option Named) → IsNumber addr → IsNewTo done addr →
    IfSome o IsWellFormedNamed
    → Lasts b done (line_of_given (applied_line addr (codes "route-map") (codes "in")) o) (neighbor_with addr remote shut sends li lo None None)
    (neighbor_with addr remote shut sends li lo (option_map bare_named o) None)
unfolding applied_line set_neighbor
map_in_stage b done addr remote shut sends li lo None is new named = inner_none _
map_in_stage b done addr remote shut sends li lo (Some m) is new named =
    inner_line (applied_line addr (codes "route-map") (codes "in") m) _ _ refl refl
    (peer_taken (applied_line addr (codes "route-map") (codes "in") m) b done _ _ _ (peer_map_item addr true m is named) refl refl new refl)

map_out_stage : (b : BgpProcess) (done : List Neighbor) (addr remote : ℕ) (shut sends : Bool) (li lo mi o : Option Named) → IsNumber addr → IsNewTo done addr →
    IfSome o IsWellFormedNamed
    → Lasts b done (line_of_given (applied_line addr (codes "route-map") (codes "out")) o) (neighbor_with addr remote shut sends li lo mi None)
    (neighbor_with addr remote shut sends li lo mi (option_map bare_named o))
unfolding applied_line set_neighbor
map_out_stage b done addr remote shut sends li lo mi None is new named = inner_none _
map_out_stage b done addr remote shut sends li lo mi (Some m) is new named =
    inner_line (applied_line addr (codes "route-map") (codes "out") m) _ _ refl refl
    (peer_taken (applied_line addr (codes "route-map") (codes "out") m) b done _ _ _ (peer_map_item addr false m is named) refl refl new refl)

neighbor_inner : (b : BgpProcess) (p : Neighbor) → IsWellFormedNeighbor p → IsNewTo b.neighbors p.addr →
    Inner (neighbor_lines p) (in_bgp b) (in_bgp (ends_with b b.neighbors (bare_neighbor p)))
unfolding neighbor_lines
neighbor_inner b p is new =
    let done = b.neighbors in
    let one = remote_line p.addr p.remote ∷ [] in
    let two = line_if p.shut (peer_shut_line p.addr) in
    let three = line_if p.sends (peer_sends_line p.addr) in
    let four = line_of_given (applied_line p.addr (codes "prefix-list") (codes "in")) p.list_in in
    let five = line_of_given (applied_line p.addr (codes "prefix-list") (codes "out")) p.list_out in
    let six = line_of_given (applied_line p.addr (codes "route-map") (codes "in")) p.map_in in
    let seven = line_of_given (applied_line p.addr (codes "route-map") (codes "out")) p.map_out in
    let li = option_map bare_named p.list_in in
    let lo = option_map bare_named p.list_out in
    let mi = option_map bare_named p.map_in in
    inner_then (one ++ two ++ three ++ four ++ five ++ six) seven _ _ _
    (inner_then (one ++ two ++ three ++ four ++ five) six _ _ _
    (inner_then (one ++ two ++ three ++ four) five _ _ _
    (inner_then (one ++ two ++ three) four _ _ _
    (inner_then (one ++ two) three _ _ _
    (inner_then one two _ _ _ (remote_stage b p.addr p.remote is.addr is.remote new) (shut_stage b done p.addr p.remote p.shut is.addr new))
    (sends_stage b done p.addr p.remote p.shut p.sends is.addr new))
    (list_in_stage b done p.addr p.remote p.shut p.sends p.list_in is.addr new is.list_in))
    (list_out_stage b done p.addr p.remote p.shut p.sends li p.list_out is.addr new is.list_out))
    (map_in_stage b done p.addr p.remote p.shut p.sends li lo p.map_in is.addr new is.map_in))
    (map_out_stage b done p.addr p.remote p.shut p.sends li lo mi p.map_out is.addr new is.map_out)

neighbors_stage : (number : ℕ) (base : Option Base) (nets : List NetLine) (done ps : List Neighbor) → AllByRecursion IsWellFormedNeighbor ps →
    IsDistinct same_neighbor ps → AreNew same_neighbor done ps
    → Inner (flat_map neighbor_lines ps) (in_bgp (process_with number base nets done)) (in_bgp (process_with number base nets (done ++ map bare_neighbor ps)))
unfolding IsDistinct
neighbors_stage number base nets done [] are once new rs d =
    inner_none _ rs d ∙ ap (λ (ps : List Neighbor). Ok (at_stanza rs d (in_bgp (process_with number base nets ps)))) (sym (append-nil done))
neighbors_stage number base nets done (p ∷ ps) are once new rs d =
    inner_then (neighbor_lines p) (flat_map neighbor_lines ps) _ (in_bgp (process_with number base nets (done ++ bare_neighbor p ∷ []))) _
    (neighbor_inner (process_with number base nets done) p are.0 new.0)
    (neighbors_stage number base nets (done ++ bare_neighbor p ∷ []) ps are.1 once.1 (new_to_more same_neighbor done (bare_neighbor p) ps new.1 once.0)) rs d
    ∙ ap (λ (qs : List Neighbor). Ok (at_stanza rs d (in_bgp (process_with number base nets qs)))) (grown done (bare_neighbor p) (map bare_neighbor ps))

-- ---- the process

-- the lines behind the first
abbrev pub bgp_rest : BgpProcess → List TextLine
bgp_rest b = line_of_given base_line b.base ++ map network_line b.networks ++ flat_map neighbor_lines b.neighbors ++ closing ∷ []

pub bgp_inner : (b : BgpProcess) → IsWellFormedBgp b → Inner (bgp_rest b) (in_bgp (process_with b.number None [] [])) (in_bgp (bare_bgp b))
bgp_inner b is =
    let one = line_of_given base_line b.base in
    let two = map network_line b.networks in
    let three = flat_map neighbor_lines b.neighbors in
    let base = option_map bare_base b.base in
    inner_then (one ++ two ++ three) (closing ∷ []) _ _ _
    (inner_then (one ++ two) three _ _ _
    (inner_then one two _ _ _ (base_stage b.number b.base is.base)
    (networks_stage b.number base [] b.networks is.networks is.networks_once (new_to_none same_net b.networks)))
    (neighbors_stage b.number base (map bare_net b.networks) [] b.neighbors is.neighbors is.neighbors_once (new_to_none same_neighbor b.neighbors)))
    (inner_closing (in_bgp (bare_bgp b)))
