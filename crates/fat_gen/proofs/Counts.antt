-- How many switches and cables a fat tree has.
use Rattle.std.proofs.Common.{◌≡◌, ℕ, zero, suc, ◌+◌, ◌*◌, ◌≤◌, List, length, flat_map, arith, length-append}
use Rattle.std.proofs.Math.Nat.{mul-le-mul}
use Rattle.std.specs.List.{range_with_len}
use Rattle.std.proofs.lemmas.List.FromFn.{length-map-range_with_len}
use Rattle.fat_gen.specs.declared.switch.Switch.TheVariants.{Core, Aggregation, Edge}
use Rattle.fat_gen.specs.Switches.{core_switches, aggregation_switches, edge_switches, pod_switches, switches}
use Rattle.fat_gen.specs.Cables.{core_cable, core_cables, edge_cable, edge_cables, switch_cables, pod_cables, cables}
use Rattle.fat_gen.specs.Laws.{CountsByHalf}

-- lists of one length, one after the other
joined_length : {X : Type 0} (f : ℕ → List X) (m a n : ℕ) → ((i : ℕ) → length (f i) ≡ m) → length (flat_map f (range_with_len a n)) ≡ n * m
joined_length f m a zero same = omega arith
joined_length f m a (suc n) same =
    let rest : length (flat_map f (range_with_len (a + 1) n)) ≡ n * m = joined_length f m (a + 1) n same in
    let first : length (f a) ≡ m = same a in
    omega (arith, length-append (f a) (flat_map f (range_with_len (a + 1) n)))

pod_count : (half pod : ℕ) → length (pod_switches half pod) ≡ half + half
pod_count half pod =
    let aggregations : length (aggregation_switches half pod) ≡ half = length-map-range_with_len (λ number. Aggregation pod number) 0 half in
    let edges : length (edge_switches half pod) ≡ half = length-map-range_with_len (λ number. Edge pod number) 0 half in
    omega (arith, length-append (aggregation_switches half pod) (edge_switches half pod))

pub switch_count : (half : ℕ) → length (switches half) ≡ 5 * (half * half)
switch_count half =
    let cores : length (core_switches half) ≡ half * half = length-map-range_with_len (λ number. Core number) 0 (half * half) in
    let pods : length (flat_map (pod_switches half) (range_with_len 0 (2 * half))) ≡ (2 * half) * (half + half) =
    joined_length (pod_switches half) (half + half) 0 (2 * half) (pod_count half) in
    omega (arith, length-append (core_switches half) (flat_map (pod_switches half) (range_with_len 0 (2 * half))))

switch_cable_count : (half pod number : ℕ) → length (switch_cables half pod number) ≡ half + half
switch_cable_count half pod number =
    let cores : length (core_cables half pod number) ≡ half = length-map-range_with_len (core_cable half pod number) (number * half) half in
    let edges : length (edge_cables half pod number) ≡ half = length-map-range_with_len (edge_cable half pod number) 0 half in
    omega (arith, length-append (core_cables half pod number) (edge_cables half pod number))

pub cable_count : (half : ℕ) → length (cables half) ≡ 4 * (half * half * half)
cable_count half =
    let whole : length (cables half) ≡ (2 * half) * (half * (half + half)) =
    joined_length (pod_cables half) (half * (half + half)) 0 (2 * half)
    (λ pod. joined_length (switch_cables half pod) (half + half) 0 half (switch_cable_count half pod)) in
    omega arith

pub few_switches : (half : ℕ) → half ≤ 10 → length (switches half) ≤ 500
few_switches half small =
    let square : half * half ≤ 10 * 10 = mul-le-mul small small in
    omega (arith, switch_count half)

pub few_cables : (half : ℕ) → half ≤ 10 → length (cables half) ≤ 4000
few_cables half small =
    let square : half * half ≤ 10 * 10 = mul-le-mul small small in
    let cube : half * half * half ≤ 10 * 10 * 10 = mul-le-mul square small in
    omega (arith, cable_count half)

pub counts_by_half : CountsByHalf
counts_by_half half = record { switches = switch_count half; cables = cable_count half }
