-- The acts of the edges between groups, as a table with a cell for each group, each group and each act.
use Rattle.std.specs.Prelude.{◌≡◌, ℕ, zero, suc, ◌+◌, ◌-◌, ◌*◌, ◌<◌, ◌≤◌, Bool, false, ◌&&◌, All, List, length, max, nat_eq, slice_index, slice_index_or, if◌then◌else◌}
use Rattle.std.specs.List.{list_any}
use Rattle.base_kit.specs.declared.act_graph.Edge.{Edge}
use Rattle.group_report.specs.declared.link_counts.Size.{Size}

-- how many cells a table of this size has
abbrev pub cells_of : Size → ℕ
cells_of size = size.groups * size.groups * size.acts

-- a size for which a table is made
pub record IsSmall (size : Size) : Type 0 where
  pub few_groups : size.groups ≤ 256
  pub few_acts : size.acts ≤ 65536
  pub few_cells : cells_of size ≤ 65536

abbrev pub cell : Size → ℕ → ℕ → ℕ → ℕ
cell size importer exporter act = (importer * size.groups + exporter) * size.acts + act

-- the edge leads into g from h and has the act
abbrev pub leads : List ℕ → ℕ → ℕ → ℕ → Edge → Bool
leads groups g h act e = (nat_eq (slice_index groups e.importer) g && nat_eq (slice_index groups e.exporter) h) && nat_eq e.act act

-- some edge does
abbrev pub has_act : List Edge → List ℕ → ℕ → ℕ → ℕ → Bool
has_act es groups g h act = list_any (leads groups g h act) es

abbrev pub is_set : Size → List Bool → ℕ → ℕ → ℕ → Bool
is_set size table g h act = slice_index_or table (cell size g h act) false

-- all acts have cells, and those of edges between two groups are set
pub record IsLinkTable (es : List Edge) (groups : List ℕ) (size : Size) (table : List Bool) : Type 0 where
  pub few_acts : All (λ e. e.act < size.acts) es
  pub total : length table ≡ cells_of size
  pub cells : (g h act : ℕ) → g < size.groups → h < size.groups → act < size.acts → is_set size table g h act ≡ has_act es groups g h act

-- the sum of the values at the first numbers
abbrev pub sum_below : (ℕ → ℕ) → ℕ → ℕ
sum_below f zero = 0
sum_below f (suc n) = sum_below f n + f n

abbrev pub one_where : Bool → ℕ
one_where b = if b then 1 else 0

-- how many acts of edges into g from h are set
abbrev pub acts_in : Size → List Bool → ℕ → ℕ → ℕ
acts_in size table g h = sum_below (λ act. one_where (is_set size table g h act)) size.acts

abbrev pub links_between : Size → List Bool → ℕ → ℕ → ℕ
links_between size table g h = max (acts_in size table g h) (acts_in size table h g)

-- the links of g with so many groups above it
abbrev pub links_above : Size → List Bool → ℕ → ℕ → ℕ
links_above size table g above = sum_below (λ more. links_between size table g (g + 1 + more)) above

-- the links of the groups below the end with those above them
abbrev pub links_below : Size → List Bool → ℕ → ℕ
links_below size table end = sum_below (λ g. links_above size table g (size.groups - (g + 1))) end
