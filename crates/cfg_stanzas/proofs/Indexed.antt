-- A set or a map beside a list, after an item was put last or changed in its place.
use Rattle.std.proofs.Common.{◌≡◌, ℕ, ◌<◌, true, false, cond, List, [], ◌∷◌, ◌++◌, length, get_or, Some, refl, sym, ap, ◌∙◌, arith}
use Rattle.std.specs.Prelude.{is_some, nat_eq}
use Rattle.std.proofs.Math.ListN.{set}
use Rattle.std.specs.List.{list_any, position}
use Rattle.std.specs.Ordering.{nat_cmp, is_eq}
use Rattle.std.specs.declared.cmp.Ordering.{Ordering}
use Rattle.std.specs.BTreeMap as tree
use Rattle.std.specs.BTreeSet as sorted
use Rattle.std.proofs.lemmas.Bool.Decides.{nat_tests}
use Rattle.base_kit.specs.Prefixes.{Prefix, same_prefix}
use Rattle.cfg_ast.specs.declared.bgp.NetLine.{NetLine}
use Rattle.cfg_ast.specs.declared.bgp.Neighbor.{Neighbor}
use Rattle.cfg_ast.specs.declared.ospf.AreaLine.{AreaLine}
use Rattle.cfg_ast.specs.text.Stanzas.{same_area_line, has_network, has_neighbor}
use Rattle.numbered_names.proofs.Firsts.{any_last, any_same, any_some, none_by, number_is, parts_kept, place_by, position_by}
use Rattle.cfg_stanzas.specs.Indexes.{HasKeys, HasAddresses, prefix_order, area_order, area_key, net_prefix}

-- ---- sets

pub keys_noted : {X K : Type 0} (order : K → K → Ordering) (key : X → K) (s n : sorted.BTreeSet K) (items : List X) (x : X) (k : K) → k ≡ key x →
    sorted.Updates order s n k true → HasKeys order key s items → HasKeys order key n (items ++ x ∷ [])
keys_noted order key s n items x k is updates has = λ wanted.
    updates.0 wanted ∙ ap (λ j. cond (is_eq (order j wanted)) true (sorted.contains order s wanted)) is
    ∙ ap (cond (is_eq (order (key x) wanted)) true) (has wanted) ∙ any_last (λ y. is_eq (order (key y) wanted)) items x

pub has_area : (s : sorted.BTreeSet (ℕ × ℕ × ℕ)) (areas : List AreaLine) (area : AreaLine) → HasKeys area_order area_key s areas →
    sorted.contains area_order s (area_key area) ≡ list_any (same_area_line area) areas
has_area s areas area has = has (area_key area) ∙ any_same (λ x. is_eq (area_order (area_key x) (area_key area))) (same_area_line area) (λ x. same x) areas
  where
    same : (x : AreaLine) → is_eq (area_order (area_key x) (area_key area)) ≡ same_area_line area x
    same x = grind (arith, nat_tests)

pub has_prefix : (s : sorted.BTreeSet Prefix) (nets : List NetLine) (prefix : Prefix) → HasKeys prefix_order net_prefix s nets →
    sorted.contains prefix_order s prefix ≡ has_network nets prefix
unfolding has_network
has_prefix s nets prefix has = has prefix ∙ any_same (λ x. is_eq (prefix_order (net_prefix x) prefix)) (λ net. same_prefix net.prefix prefix) (λ x. same x) nets
  where
    same : (x : NetLine) → is_eq (prefix_order (net_prefix x) prefix) ≡ same_prefix x.prefix prefix
    same x = grind (arith, nat_tests)

-- ---- neighbours

same_number : (j k : ℕ) → is_eq (nat_cmp j k) ≡ nat_eq j k
same_number j k = grind (arith, nat_tests)

pub has_address : (m : tree.BTreeMap ℕ ℕ) (peers : List Neighbor) (addr : ℕ) → HasAddresses m peers →
    is_some (tree.get nat_cmp m addr) ≡ has_neighbor peers addr
unfolding has_neighbor
has_address m peers addr has = ap is_some (has addr) ∙ sym (any_some (λ (p : Neighbor). nat_eq p.addr addr) peers)

pub addresses_noted : (m n : tree.BTreeMap ℕ ℕ) (peers : List Neighbor) (p : Neighbor) → has_neighbor peers p.addr ≡ false →
    tree.Updates nat_cmp m n p.addr (Some (length peers)) → HasAddresses m peers → HasAddresses n (peers ++ p ∷ [])
unfolding has_neighbor
addresses_noted m n peers p absent updates has = λ wanted.
    updates.0 wanted ∙ ap (λ b. cond b (Some (length peers)) (tree.get nat_cmp m wanted)) (same_number p.addr wanted)
    ∙ ap (cond (nat_eq p.addr wanted) (Some (length peers))) (has wanted)
    ∙ place_by (λ (q : Neighbor). nat_eq q.addr wanted) peers p (nat_eq p.addr wanted) refl
    (λ e. ap (λ (a : ℕ). position (λ (q : Neighbor). nat_eq q.addr a) peers) (sym (number_is p.addr wanted e))
    ∙ none_by (position (λ (q : Neighbor). nat_eq q.addr p.addr) peers) (sym (any_some (λ (q : Neighbor). nat_eq q.addr p.addr) peers) ∙ absent))

abbrev address_of : Neighbor → ℕ
address_of p = p.addr

pub addresses_kept : (m : tree.BTreeMap ℕ ℕ) (peers : List Neighbor) (i : ℕ) (p d : Neighbor) → i < length peers → p.addr ≡ (get_or peers i d).addr →
    HasAddresses m peers → HasAddresses m (set peers i p)
addresses_kept m peers i p d lt same has = λ wanted. has wanted
    ∙ sym (position_by (λ a. nat_eq a wanted) address_of (set peers i p) peers (parts_kept address_of peers i p d lt same))
