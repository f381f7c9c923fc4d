-- The links of an OSPF network join interfaces of two routers that have costs.
use Rattle.std.proofs.Common.{◌≡◌, ℕ, ◌<◌, Bool, true, false, cond, List, [], ◌∷◌, ◌++◌, inl, Option, Some, None, refl, sym, ◌∙◌, ap, subst, arith}
use Rattle.std.specs.Prelude.{Contains, slice_get, nat_lt, option_and_then}
use Rattle.std.specs.Option.{option_map_or}
use Rattle.std.proofs.lemmas.Bool.Decides.{nat_tests}
use Rattle.base_kit.proofs.Elements.{In, contains_in, get_in}
use Rattle.cfg_ast.specs.meaning.Addresses.{Address}
use Rattle.cfg_ast.specs.declared.bgp.BgpProcess.{BgpProcess}
use Rattle.cfg_ast.specs.declared.bgp.Neighbor.{Neighbor}
use Rattle.cfg_ast.specs.declared.interface.Interface.{Interface}
use Rattle.cfg_ast.specs.declared.network.Network.{Network}
use Rattle.cfg_ast.specs.declared.network.Router.{Router}
use Rattle.cfg_ast.specs.declared.topology.Link.{Link}
use Rattle.cfg_ast.specs.meaning.Topology.{Place, interfaces_of, neighbors_of, link_between, are_adjacent, share_area_subnet, both_in_one_subnet, active_address, is_active_interface, is_in_area_interface, cost_of_interface, sessions_of, adjacencies_of, links_of}
use Rattle.srp_build.specs.Ospf.{IsOspf, IsPriced}
use Rattle.srp_build.proofs.LinkPlaces.{IsPlace, IsJoining, session, adjacency, and_first, and_second}

-- no router has a BGP process
abbrev pub IsUnmixed : Network → Type 0
IsUnmixed n = (router : Router) → Contains n.routers router → router.bgp ≡ None

no_neighbors : (n : Network) → IsUnmixed n → (p : Place Neighbor) → IsPlace neighbors_of n p → ⊥
no_neighbors n unmixed p at =
    let none = unmixed p.owner (contains_in n.routers p.owner (get_in n.routers p.router p.owner at.at)) in
    let empty : neighbors_of p.owner ≡ [] = ap (λ (o : Option BgpProcess). option_map_or (λ (process : BgpProcess). process.neighbors) o []) none in
    let nothing : slice_get {X = Neighbor} [] p.item ≡ Some p.value = ap (λ (l : List Neighbor). slice_get l p.item) (sym empty) ∙ at.item in
    get_in [] p.item p.value nothing

no_session : (n : Network) → IsUnmixed n → (l : Link) → In (sessions_of n) l → ⊥
no_session n unmixed l h = let at = session n l h in no_neighbors n unmixed at.low at.low_at

nothing_in : (ls : List Link) → ((l : Link) → In ls l → ⊥) → ls ≡ []
nothing_in [] none = refl
nothing_in (l ∷ ls) none = absurd (none l (inl refl))

-- all links are adjacencies
pub links_are_adjacencies : (n : Network) → IsUnmixed n → links_of n ≡ adjacencies_of n
unfolding links_of
links_are_adjacencies n unmixed = ap (λ (l : List Link). l ++ adjacencies_of n) (nothing_in (sessions_of n) (no_session n unmixed))

link_joining : (n : Network) → IsOspf n → (l : Link) → In (links_of n) l → IsJoining interfaces_of are_adjacent n l
link_joining n ospf l h = adjacency n l (subst (λ (ls : List Link). In ls l) (links_are_adjacencies n ospf.unmixed) h)

pub picked : (b : Bool) (o : Option Address) (a : Address) → cond b o None ≡ Some a → b ≡ true
picked true o a h = refl
picked false o a h = absurd cc

pub both_some : (o u : Option Address) → both_in_one_subnet o u ≡ true → ((a : Address) × (o ≡ Some a)) × ((b : Address) × (u ≡ Some b))
both_some (Some a) (Some b) h = ((a, refl), (b, refl))
both_some (Some a) None h = absurd cc
both_some None u h = absurd cc

priced_at : (n : Network) → IsOspf n → (p : Place Interface) → IsPlace interfaces_of n p → (a : Address) → active_address p ≡ Some a →
    (cost : ℕ) × IsPriced n p.router p.item cost
priced_at n ospf p at a active =
    let is_active = picked (is_active_interface p.owner p.value) p.value.address a active in
    let in_area = and_first (is_in_area_interface p.owner p.value) _ is_active in
    let has = ospf.priced p.owner p.value (contains_in n.routers p.owner (get_in n.routers p.router p.owner at.at))
    (contains_in p.owner.interfaces p.value (get_in p.owner.interfaces p.item p.value at.item)) in_area in (
      has.cost,
      record {
        router = p.owner;
        at = at.at;
        is = ap (λ (o : Option Interface). option_and_then cost_of_interface o) at.item ∙ has.is;
        positive =
            has.positive;
      },
    )

-- both ends of a link: two routers, and the costs of their interfaces
pub record HasEnds (n : Network) (l : Link) : Type 0 where
  pub apart : l.low < l.high
  pub low_cost : ℕ
  pub low : IsPriced n l.low l.low_item low_cost
  pub high_cost : ℕ
  pub high : IsPriced n l.high l.high_item high_cost

ends_of : (n : Network) → IsOspf n → (p q : Place Interface) → IsPlace interfaces_of n p → IsPlace interfaces_of n q → are_adjacent p q ≡ true →
    HasEnds n (link_between p q)
ends_of n ospf p q p_at q_at joined =
    let less : nat_lt p.router q.router ≡ true = and_first (nat_lt p.router q.router) (share_area_subnet p q) joined in
    let both = both_some (active_address p) (active_address q) (and_second (nat_lt p.router q.router) (share_area_subnet p q) joined) in
    let low = priced_at n ospf p p_at both.0.0 both.0.1 in
    let high = priced_at n ospf q q_at both.1.0 both.1.1 in
    record { apart = grind (arith, nat_tests); low_cost = low.0; low = low.1; high_cost = high.0; high = high.1 }

pub link_ends : (n : Network) → IsOspf n → (l : Link) → In (links_of n) l → HasEnds n l
link_ends n ospf l h =
    let at = link_joining n ospf l h in
    subst (λ (k : Link). HasEnds n k) at.is (ends_of n ospf at.low at.high at.low_at at.high_at at.joined)
