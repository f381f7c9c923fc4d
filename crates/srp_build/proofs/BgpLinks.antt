-- The links of a BGP network are sessions between neighbour lines of two routers with BGP processes.
use Rattle.std.proofs.Common.{◌≡◌, ◌≢◌, ℕ, zero, suc, ◌≤◌, true≢false, List, [], ◌∷◌, map, Option, Some, None, inl, inr, refl, sym, ◌∙◌, ap, subst, arith}
use Rattle.std.specs.Prelude.{IfSome, slice_get, slice_index_or, nat_lt}
use Rattle.std.specs.Option.{option_map_or}
use Rattle.std.specs.List.{AllByRecursion}
use Rattle.base_kit.proofs.Elements.{In, contains_in, append_in, get_in}
use Rattle.cfg_ast.specs.meaning.Addresses.{Address}
use Rattle.cfg_ast.specs.declared.bgp.BgpProcess.{BgpProcess}
use Rattle.cfg_ast.specs.declared.bgp.Neighbor.{Neighbor}
use Rattle.cfg_ast.specs.declared.interface.Interface.{Interface}
use Rattle.cfg_ast.specs.declared.network.Network.{Network}
use Rattle.cfg_ast.specs.declared.network.Router.{Router}
use Rattle.cfg_ast.specs.declared.topology.Link.{Link}
use Rattle.cfg_ast.specs.meaning.Topology.{Place, interfaces_of, neighbors_of, link_between, is_session, are_adjacent, share_area_subnet, active_address, is_active_interface, is_in_area_interface, up_address, sessions_of, adjacencies_of, links_of}
use Rattle.cfg_ast.specs.printing.WellFormed.{IsWellFormedRouter, IsWellFormedBgp}
use Rattle.srp_core.specs.ProblemOf.{as_number_of, SessionEnds}
use Rattle.srp_build.specs.declared.hops.Hop.{Hop}
use Rattle.srp_build.specs.Bgp.{IsBgp}
use Rattle.srp_build.specs.Hops.{into_low, into_high}
use Rattle.srp_build.proofs.LinkEnds.{picked, both_some}
use Rattle.srp_build.proofs.LinkPlaces.{IsPlace, IsJoining, session, adjacency, and_first, and_second, direction_of}
use Rattle.srp_build.proofs.NoClasses.{outside}
use Rattle.srp_build.proofs.SortedHops.{IsHopOf}

-- ---- sessions

never_active : (n : Network) → IsBgp n → (p : Place Interface) → IsPlace interfaces_of n p → (a : Address) → active_address p ≡ Some a → ⊥
never_active n bgp p at a active =
    let is_active = picked (is_active_interface p.owner p.value) p.value.address a active in
    let in_area = and_first (is_in_area_interface p.owner p.value) _ is_active in
    let none = bgp.without_ospf p.owner (contains_in n.routers p.owner (get_in n.routers p.router p.owner at.at)) in
    true≢false (sym in_area ∙ outside p.owner.ospf (up_address p.value) none)

no_adjacency : (n : Network) → IsBgp n → (l : Link) → IsJoining interfaces_of are_adjacent n l → ⊥
no_adjacency n bgp l at =
    let both = both_some (active_address at.low) (active_address at.high)
    (and_second (nat_lt at.low.router at.high.router) (share_area_subnet at.low at.high) at.joined) in
    never_active n bgp at.low at.low_at both.0.0 both.0.1

link_session : (n : Network) → IsBgp n → (l : Link) → In (links_of n) l → IsJoining neighbors_of is_session n l
unfolding links_of
link_session n bgp l h = elim (append_in (sessions_of n) (adjacencies_of n) l h) [
  | inl at ↦ session n l at
  | inr at ↦ absurd (no_adjacency n bgp l (adjacency n l at))
]

module _ (n : Network) (low high : Place Neighbor) (low_at : IsPlace neighbors_of n low) (high_at : IsPlace neighbors_of n high) (k : ℕ) where
  low_ends : SessionEnds n (direction_of (into_low (k, link_between low high)))
  low_ends = record {
    exporter = high.owner;
    exporter_at = high_at.at;
    exporter_line = high.value;
    exporter_line_at = high_at.item;
    importer = low.owner;
    importer_at = low_at.at;
    importer_line = low.value;
    importer_line_at = low_at.item;
  }

  high_ends : SessionEnds n (direction_of (into_high (k, link_between low high)))
  high_ends = record {
    exporter = low.owner;
    exporter_at = low_at.at;
    exporter_line = low.value;
    exporter_line_at = low_at.item;
    importer = high.owner;
    importer_at = high_at.at;
    importer_line = high.value;
    importer_line_at = high_at.item;
  }

-- both ends of a direction
pub hop_ends : (n : Network) → IsBgp n → (hop : Hop) → IsHopOf (links_of n) hop → SessionEnds n (direction_of hop)
hop_ends n bgp hop of =
    let at = link_session n bgp of.link (get_in (links_of n) hop.link of.link of.at) in
    let HasEnds : Hop → Type 0 = λ h. SessionEnds n (direction_of h) in
    elim of.is [
      | inl low ↦ subst HasEnds (ap (λ (l : Link). into_low (hop.link, l)) at.is ∙ sym low) (low_ends n at.low at.high at.low_at at.high_at hop.link)
      | inr high ↦ subst HasEnds (ap (λ (l : Link). into_high (hop.link, l)) at.is ∙ sym high) (high_ends n at.low at.high at.low_at at.high_at hop.link)
    ]

-- ---- AS numbers

each_in : {X : Type 0} (P : X → Type 0) (xs : List X) (x : X) → AllByRecursion P xs → In xs x → P x
each_in P [] x all at = absurd at
each_in P (y ∷ ys) x all (inl same) = subst P same all.0
each_in P (y ∷ ys) x all (inr at) = each_in P ys x all.1 at

-- a router of the network is as the grammar has it
pub well_formed : (n : Network) → IsBgp n → (router : Router) → In n.routers router → IsWellFormedRouter router
well_formed n bgp router at = each_in IsWellFormedRouter n.routers router bgp.form.routers at

-- a router with a BGP process, which has a number
pub record HasProcess (router : Router) : Type 0 where
  pub process : BgpProcess
  pub is : router.bgp ≡ Some process

process_by : (router : Router) (o : Option BgpProcess) (item : ℕ) (line : Neighbor) → router.bgp ≡ o →
    slice_get (option_map_or (λ (process : BgpProcess). process.neighbors) o []) item ≡ Some line → HasProcess router
process_by router None item line is at = absurd cc
process_by router (Some process) item line is at = record { process = process; is = is }

pub line_process : (router : Router) (item : ℕ) (line : Neighbor) → slice_get (neighbors_of router) item ≡ Some line → HasProcess router
line_process router item line at = process_by router router.bgp item line refl at

positive : (o : Option BgpProcess) (process : BgpProcess) → IfSome o IsWellFormedBgp → o ≡ Some process → 1 ≤ process.number
positive None process form is = absurd cc
positive (Some b) process form is = let same : b ≡ process = cc in subst (λ (x : BgpProcess). 1 ≤ x.number) same form.number.0

pub number_is : (o : Option BgpProcess) (process : BgpProcess) → o ≡ Some process → option_map_or (λ (b : BgpProcess). b.number) o 0 ≡ process.number
number_is None process is = absurd cc
number_is (Some b) process is = ap (λ (x : BgpProcess). x.number) (let same : b ≡ process = cc in same)

pub some_number : (n : Network) → IsBgp n → (router : Router) → In n.routers router → HasProcess router → as_number_of router ≢ 0
some_number n bgp router at has e =
    let form = (well_formed n bgp router at).bgp in
    let is = number_is router.bgp has.process has.is in
    let least = positive router.bgp has.process form has.is in
    absurd (omega arith)

-- a table has at a place what a function gives of the router there
pub read_map : {X Y : Type 0} (f : X → Y) (xs : List X) (k : ℕ) (x : X) (d : Y) → slice_get xs k ≡ Some x → slice_index_or (map f xs) k d ≡ f x
read_map f [] k x d at = absurd cc
read_map f (y ∷ ys) zero x d at = ap f (let same : y ≡ x = cc in same)
read_map f (y ∷ ys) (suc k) x d at = read_map f ys k x d at
