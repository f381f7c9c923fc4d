-- The links between groups, in order, and what holds of them (Beckett, Gupta, Mahajan and Walker,
-- Control Plane Compression, SIGCOMM 2018, section 5). A partition is the list of the groups of the
-- routers, and an edge is named by its place in the list of edges.
use Rattle.std.specs.Prelude.{ℕ, ◌+◌, ◌-◌, ◌<◌, Bool, ◌&&◌, List, [], ◌∷◌, map, filter, flat_map, nat_eq, slice_get, slice_index, length, max}
use Rattle.std.specs.Prelude.{if◌then◌else◌, Contains, ◌≢◌, ◌≤◌, ◌||◌}
use Rattle.std.specs.List.{range_with_len, list_any, fold}
use Rattle.base_kit.specs.declared.act_graph.Edge.{Edge}
use Rattle.abstract_net.specs.declared.qlink.QLink.{QLink}
use Rattle.abstract_net.specs.Carried.{act_at, CarriesActs}

abbrev pub link_at : List Edge → ℕ → ℕ
link_at es k = slice_index (map (λ (e : Edge). e.link) es) k

abbrev pub importer_at : List Edge → List ℕ → ℕ → ℕ
importer_at es groups k = slice_index (map (λ (e : Edge). slice_index groups e.importer) es) k

abbrev pub exporter_at : List Edge → List ℕ → ℕ → ℕ
exporter_at es groups k = slice_index (map (λ (e : Edge). slice_index groups e.exporter) es) k

-- the places of the edges by their links, and on one link as they stand
abbrev pub link_bound : List Edge → ℕ
link_bound es = fold (λ (m : ℕ) (e : Edge). max m (e.link + 1)) 0 es

abbrev pub on_link : List Edge → ℕ → List ℕ
on_link es l = filter (λ k. nat_eq (link_at es k) l) (range_with_len 0 (length es))

unfoldable pub by_link : List Edge → List ℕ
by_link es = flat_map (on_link es) (range_with_len 0 (link_bound es))

abbrev pub goes : List Edge → List ℕ → ℕ → ℕ → ℕ → Bool
goes es groups g h k = nat_eq (importer_at es groups k) g && nat_eq (exporter_at es groups k) h

-- the first place of each act
abbrev pub first_acts : List Edge → List ℕ → List ℕ → List ℕ
first_acts es seen [] = []
first_acts es seen (k ∷ ks) = if list_any (nat_eq (act_at es k)) seen then first_acts es seen ks else k ∷ first_acts es (act_at es k ∷ seen) ks

-- the distinct acts of edges into g from h, each by the place of its edge of least link
unfoldable pub acts_into : List Edge → List ℕ → ℕ → ℕ → List ℕ
acts_into es groups g h = first_acts es [] (filter (goes es groups g h) (by_link es))

abbrev pub group_link : ℕ → ℕ → List ℕ → List ℕ → ℕ → QLink
group_link g h xs ys i = record { low = g; high = h; to_low = slice_get xs i; to_high = slice_get ys i }

-- the i-th acts of both directions on one link
abbrev pub joined_sides : ℕ → ℕ → List ℕ → List ℕ → List QLink
joined_sides g h xs ys = map (group_link g h xs ys) (range_with_len 0 (max (length xs) (length ys)))

abbrev pub links_of_pair : List Edge → List ℕ → ℕ → ℕ → List QLink
links_of_pair es groups g h = joined_sides g h (acts_into es groups g h) (acts_into es groups h g)

abbrev pub group_links_from : List Edge → List ℕ → ℕ → ℕ → List QLink
group_links_from es groups count g = flat_map (links_of_pair es groups g) (range_with_len (g + 1) (count - (g + 1)))

unfoldable pub quotient_links : List Edge → List ℕ → ℕ → List QLink
quotient_links es groups count = flat_map (group_links_from es groups count) (range_with_len 0 count)

pub record IsInside (groups : List ℕ) (count : ℕ) (e : Edge) : Type 0 where
  pub importer : slice_index groups e.importer < count
  pub exporter : slice_index groups e.exporter < count

-- the links carry the acts between groups
abbrev pub QuotientCarries : Type 0
QuotientCarries = (es : List Edge) (groups : List ℕ) (count : ℕ) → ((e : Edge) → Contains es e → IsInside groups count e) →
    CarriesActs es groups count (quotient_links es groups count)

abbrev pub is_pair : ℕ → ℕ → ℕ → ℕ → Bool
is_pair x y g h = (nat_eq x g && nat_eq y h) || (nat_eq x h && nat_eq y g)

abbrev pub one_if : Bool → ℕ
one_if b = if b then 1 else 0

-- each link is between the groups low l and high l, and has one edge in each direction
pub record HasEnds (es : List Edge) (groups : List ℕ) (bound : ℕ) (low high : ℕ → ℕ) : Type 0 where
  pub bounded : link_bound es ≤ bound
  pub once : (g h l : ℕ) → g ≢ h → length (filter (goes es groups g h) (on_link es l)) ≤ one_if (is_pair (low l) (high l) g h)

-- no more links than before
abbrev pub NoMoreLinks : Type 0
NoMoreLinks = (es : List Edge) (groups : List ℕ) (count bound : ℕ) (low high : ℕ → ℕ) → HasEnds es groups bound low high →
    length (quotient_links es groups count) ≤ bound
