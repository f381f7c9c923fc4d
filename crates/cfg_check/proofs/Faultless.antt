-- A network without faults has none of any kind, and so it has few routers. Public: crates above may cite it.
use Rattle.std.proofs.Common.{◌≡◌, ℕ, zero, suc, ◌≤◌, List, [], ◌∷◌, ◌++◌, length, map, slice_get, refl, arith}
use Rattle.std.specs.Option.{option_to_list}
use Rattle.cfg_ast.specs.declared.network.Network.{Network}
use Rattle.cfg_ast.specs.declared.refusal.Kind.{Kind}
use Rattle.cfg_ast.specs.declared.refusal.Kind.TheVariants as kind
use Rattle.cfg_ast.specs.declared.refusal.Fault.{Fault}
use Rattle.cfg_ast.specs.meaning.Meaning.{meaning_faults, faults_at}
use Rattle.cfg_ast.specs.meaning.PolicyFaults.{undefined_map_lines, undefined_list_lines, delete_list_lines, too_many_communities_lines, prepend_form_lines, prepend_in_lines}
use Rattle.cfg_ast.specs.meaning.RouterFaults.{first_beyond, shared_name_lines, shared_as_lines, internal_peer_lines, mixed_protocol_lines, other_area_lines, shared_address_lines, overlapping_lines, loopback_mask_lines, no_cost_lines, too_many_routers_lines, too_many_neighbors_lines, too_many_links_lines}
use Rattle.cfg_check.specs.Items.{router_line}
use Rattle.cfg_check.specs.Faultless.{IsFaultless}

not_nil : {X : Type 0} (x : X) (xs : List X) → x ∷ xs ≡ [] → ⊥
not_nil x xs e = cc

pub map_nil : {X Y : Type 0} (f : X → Y) (xs : List X) → map f xs ≡ [] → xs ≡ []
map_nil f [] none = refl
map_nil f (x ∷ xs) none = absurd (not_nil (f x) (map f xs) none)

-- all faults but those of the last kind, and the lines of the last kind
cut_last : (fs : List Fault) (what : Kind) (lines : List ℕ) → fs ++ faults_at what lines ≡ [] → (fs ≡ []) × (lines ≡ [])
cut_last [] what lines none = (refl, map_nil (λ line. record { line = line; kind = what }) lines none)
cut_last (f ∷ fs) what lines none = absurd (not_nil f (fs ++ faults_at what lines) none)

-- no fault at all is no fault of any kind
pub faultless_of : (n : Network) → meaning_faults n ≡ [] → IsFaultless n
unfolding meaning_faults
faultless_of n none =
    let f1 : List Fault = faults_at kind.SharedName (shared_name_lines n) in
    let f2 : List Fault = f1 ++ faults_at kind.SharedAs (shared_as_lines n) in
    let f3 : List Fault = f2 ++ faults_at kind.InternalPeer (internal_peer_lines n) in
    let f4 : List Fault = f3 ++ faults_at kind.MixedProtocols (mixed_protocol_lines n) in
    let f5 : List Fault = f4 ++ faults_at kind.OtherArea (other_area_lines n) in
    let f6 : List Fault = f5 ++ faults_at kind.UndefinedMap (undefined_map_lines n) in
    let f7 : List Fault = f6 ++ faults_at kind.UndefinedList (undefined_list_lines n) in
    let f8 : List Fault = f7 ++ faults_at kind.DeleteListForm (delete_list_lines n) in
    let f9 : List Fault = f8 ++ faults_at kind.SharedAddress (shared_address_lines n) in
    let f10 : List Fault = f9 ++ faults_at kind.OverlappingInterfaces (overlapping_lines n) in
    let f11 : List Fault = f10 ++ faults_at kind.LoopbackMask (loopback_mask_lines n) in
    let f12 : List Fault = f11 ++ faults_at kind.NoCost (no_cost_lines n) in
    let f13 : List Fault = f12 ++ faults_at kind.TooManyRouters (too_many_routers_lines n) in
    let f14 : List Fault = f13 ++ faults_at kind.TooManyCommunities (too_many_communities_lines n) in
    let f15 : List Fault = f14 ++ faults_at kind.TooManyNeighbors (too_many_neighbors_lines n) in
    let f16 : List Fault = f15 ++ faults_at kind.TooManyLinks (too_many_links_lines n) in
    let f17 : List Fault = f16 ++ faults_at kind.PrependForm (prepend_form_lines n) in
    let c18 = cut_last f17 kind.PrependIn (prepend_in_lines n) none in
    let c17 = cut_last f16 kind.PrependForm (prepend_form_lines n) c18.0 in
    let c16 = cut_last f15 kind.TooManyLinks (too_many_links_lines n) c17.0 in
    let c15 = cut_last f14 kind.TooManyNeighbors (too_many_neighbors_lines n) c16.0 in
    let c14 = cut_last f13 kind.TooManyCommunities (too_many_communities_lines n) c15.0 in
    let c13 = cut_last f12 kind.TooManyRouters (too_many_routers_lines n) c14.0 in
    let c12 = cut_last f11 kind.NoCost (no_cost_lines n) c13.0 in
    let c11 = cut_last f10 kind.LoopbackMask (loopback_mask_lines n) c12.0 in
    let c10 = cut_last f9 kind.OverlappingInterfaces (overlapping_lines n) c11.0 in
    let c9 = cut_last f8 kind.SharedAddress (shared_address_lines n) c10.0 in
    let c8 = cut_last f7 kind.DeleteListForm (delete_list_lines n) c9.0 in
    let c7 = cut_last f6 kind.UndefinedList (undefined_list_lines n) c8.0 in
    let c6 = cut_last f5 kind.UndefinedMap (undefined_map_lines n) c7.0 in
    let c5 = cut_last f4 kind.OtherArea (other_area_lines n) c6.0 in
    let c4 = cut_last f3 kind.MixedProtocols (mixed_protocol_lines n) c5.0 in
    let c3 = cut_last f2 kind.InternalPeer (internal_peer_lines n) c4.0 in
    let c2 = cut_last f1 kind.SharedAs (shared_as_lines n) c3.0 in
    let c1 = cut_last [] kind.SharedName (shared_name_lines n) c2.0 in
    record {
      shared_name = c1.1;
      shared_as = c2.1;
      internal_peer = c3.1;
      mixed_protocols = c4.1;
      other_area = c5.1;
      undefined_map = c6.1;
      undefined_list = c7.1;
      delete_list = c8.1;
      shared_address = c9.1;
      overlapping = c10.1;
      loopback_mask = c11.1;
      no_cost = c12.1;
      too_many_routers = c13.1;
      too_many_communities = c14.1;
      too_many_neighbors = c15.1;
      too_many_links = c16.1;
      prepend_form = c17.1;
      prepend_in = c18.1;
    }

pub none_beyond : {X : Type 0} (xs : List X) (k : ℕ) → option_to_list (slice_get xs k) ≡ [] → length xs ≤ k
none_beyond [] k none = omega arith
none_beyond (x ∷ xs) zero none = absurd (not_nil x [] none)
none_beyond (x ∷ xs) (suc k) none = let shorter : length xs ≤ k = none_beyond xs k none in omega arith

pub few_routers : (n : Network) → IsFaultless n → length n.routers ≤ 4096
unfolding too_many_routers_lines
few_routers n faultless = none_beyond n.routers 4096 (map_nil router_line (first_beyond 4096 n.routers) faultless.too_many_routers)
