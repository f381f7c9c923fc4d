-- The switches of a fat tree (Al-Fares, Loukissas and Vahdat, A Scalable, Commodity Data Center Network
-- Architecture, SIGCOMM 2008). The size is the number of ports of a switch; let h be half of it. There
-- are h * h core switches, and 2 * h pods of h aggregation and h edge switches each.
use Rattle.std.specs.Prelude.{ℕ, ◌+◌, ◌*◌, List, ◌++◌, map, flat_map}
use Rattle.std.specs.List.{range_with_len}
use Rattle.fat_gen.specs.declared.switch.Switch.{Switch}
use Rattle.fat_gen.specs.declared.switch.Switch.TheVariants.{Core, Aggregation, Edge}

abbrev pub core_switches : ℕ → List Switch
core_switches half = map (λ number. Core number) (range_with_len 0 (half * half))

abbrev pub aggregation_switches : ℕ → ℕ → List Switch
aggregation_switches half pod = map (λ number. Aggregation pod number) (range_with_len 0 half)

abbrev pub edge_switches : ℕ → ℕ → List Switch
edge_switches half pod = map (λ number. Edge pod number) (range_with_len 0 half)

abbrev pub pod_switches : ℕ → ℕ → List Switch
pod_switches half pod = aggregation_switches half pod ++ edge_switches half pod

-- all switches, in order: the cores, and then pod by pod
abbrev pub switches : ℕ → List Switch
switches half = core_switches half ++ flat_map (pod_switches half) (range_with_len 0 (2 * half))

-- the place of an aggregation switch in that order
abbrev pub aggregation_place : ℕ → ℕ → ℕ → ℕ
aggregation_place half pod number = half * half + pod * (2 * half) + number

-- the place of an edge switch in that order
abbrev pub edge_place : ℕ → ℕ → ℕ → ℕ
edge_place half pod number = half * half + pod * (2 * half) + half + number
