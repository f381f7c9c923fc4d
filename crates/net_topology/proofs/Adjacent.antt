-- The index over subnets finds the adjacencies.
use Rattle.std.proofs.Common.{◌≡◌, ℕ, Bool, true, false, ◌&&◌, List, [], ◌∷◌, flat_map, nat_lt, Option, Some, None, refl, ◌∙◌, ap}
use Rattle.std.specs.Option.{option_map}
use Rattle.cfg_ast.specs.meaning.Addresses.{Address}
use Rattle.cfg_ast.specs.declared.interface.Interface.{Interface}
use Rattle.cfg_ast.specs.declared.network.Network.{Network}
use Rattle.cfg_ast.specs.meaning.Topology.{Place, places, interfaces_of, are_adjacent, active_address, both_in_one_subnet, same_subnet, adjacencies_of}
use Rattle.buckets.specs.Buckets.{is_at_pair}
use Rattle.cfg_check.specs.Items.{active_address_on}
use Rattle.net_topology.specs.declared.adjacencies.Spot.{Spot}
use Rattle.net_topology.specs.Spots.{spot_at, spot_of, spots, pair_of, is_later, spot_link, links_in}
use Rattle.net_topology.proofs.ActiveAddresses.{active_here}
use Rattle.net_topology.proofs.Joined.{IsIndexed, AreGood, joined_by_index}

and_false : (b : Bool) → (b && false) ≡ false
and_false true = refl
and_false false = refl

and_turned : (a b : Bool) → (a && b) ≡ (b && a)
and_turned true true = refl
and_turned true false = refl
and_turned false true = refl
and_turned false false = refl

none_right : (o : Option Address) → both_in_one_subnet o None ≡ false
none_right None = refl
none_right (Some a) = refl

no_spot : (r i : ℕ) (o : Option Address) → option_map (spot_at r i) o ≡ None → o ≡ None
no_spot r i None e = refl
no_spot r i (Some a) e = cc

some_spot : (r i : ℕ) (o : Option Address) (s : Spot) → option_map (spot_at r i) o ≡ Some s → (a : Address) × (o ≡ Some a) × (spot_at r i a ≡ s)
some_spot r i None s e = cc
some_spot r i (Some a) s e = (a, refl, cc)

near_at : (u v i j : ℕ) (o w : Option Address) (s t : Spot) → option_map (spot_at u i) o ≡ Some s → option_map (spot_at v j) w ≡ Some t →
    (nat_lt u v && both_in_one_subnet o w) ≡ (is_at_pair pair_of (pair_of s) t && is_later s t)
near_at u v i j None w s t e f = cc
near_at u v i j (Some a) None s t e f = cc
near_at u v i j (Some a) (Some b) s t e f =
    let low : spot_at u i a ≡ s = cc in
    let high : spot_at v j b ≡ t = cc in
    and_turned (nat_lt u v) (same_subnet a b)
    ∙ ap (λ (x : Spot). is_at_pair pair_of (pair_of x) (spot_at v j b) && is_later x (spot_at v j b)) low
    ∙ ap (λ (y : Spot). is_at_pair pair_of (pair_of s) y && is_later s y) high

link_at : (u v i j : ℕ) (o w : Option Address) (s t : Spot) → option_map (spot_at u i) o ≡ Some s → option_map (spot_at v j) w ≡ Some t →
    record { low = u; high = v; low_item = i; high_item = j } ≡ spot_link s t
link_at u v i j None w s t e f = cc
link_at u v i j (Some a) None s t e f = cc
link_at u v i j (Some a) (Some b) s t e f =
    let low : spot_at u i a ≡ s = cc in
    let high : spot_at v j b ≡ t = cc in
    ap (λ (x : Spot). spot_link x (spot_at v j b)) low ∙ ap (λ (y : Spot). spot_link s y) high

any_place : Place Interface → Type 0
any_place p = Unit {0}

all_good : (ps : List (Place Interface)) → AreGood any_place ps
unfolding any_place
all_good [] = tt
all_good (p ∷ ps) = (tt, all_good ps)

adjacent_here : (p q : Place Interface) →
    are_adjacent p q ≡ (nat_lt p.router q.router && both_in_one_subnet (active_address_on p.owner p.value) (active_address_on q.owner q.value))
adjacent_here p q =
    ap (λ (o : Option Address). nat_lt p.router q.router && both_in_one_subnet o (active_address q)) (active_here p)
    ∙ ap (λ (o : Option Address). nat_lt p.router q.router && both_in_one_subnet (active_address_on p.owner p.value) o) (active_here q)

are_indexed : IsIndexed any_place spot_of are_adjacent (λ s t. is_at_pair pair_of (pair_of s) t) is_later spot_link
are_indexed = record {
  left = λ p q e. adjacent_here p q ∙ ap (λ (o : Option Address). nat_lt p.router q.router && both_in_one_subnet o (active_address_on q.owner q.value))
      (no_spot p.router p.item (active_address_on p.owner p.value) e) ∙ and_false (nat_lt p.router q.router);
  right = λ p q e. adjacent_here p q ∙ ap (λ (o : Option Address). nat_lt p.router q.router && both_in_one_subnet (active_address_on p.owner p.value) o)
      (no_spot q.router q.item (active_address_on q.owner q.value) e)
      ∙ ap (λ (b : Bool). nat_lt p.router q.router && b) (none_right (active_address_on p.owner p.value)) ∙ and_false (nat_lt p.router q.router);
  both = λ p q s t g h e f. adjacent_here p q ∙ near_at p.router q.router p.item q.item (active_address_on p.owner p.value) (active_address_on q.owner q.value)
      s t e f;
  same = λ p q s t e f. link_at p.router q.router p.item q.item (active_address_on p.owner p.value) (active_address_on q.owner q.value) s t e f;
}

pub adjacencies_by_index : (n : Network) → adjacencies_of n ≡ flat_map (links_in (spots n)) (spots n)
unfolding adjacencies_of spots
adjacencies_by_index n = joined_by_index any_place spot_of are_adjacent (λ s t. is_at_pair pair_of (pair_of s) t) is_later spot_link are_indexed
    (places interfaces_of n) (all_good (places interfaces_of n))
