-- The parts of the problem of the groups.
use Rattle.std.proofs.Common.{◌≡◌, ◌∙◌, ◌<◌, ℕ, Bool, List, [], map, Option, Some, ap, sym, subst, arith}
use Rattle.std.specs.Prelude.{All, Contains, slice_index_or}
use Rattle.std.specs.List.{range_with_len}
use Rattle.std.proofs.lemmas.Simd.{map-map}
use Rattle.base_kit.specs.declared.protocol.Protocol.{Protocol}
use Rattle.base_kit.specs.declared.act_graph.Edge.{Edge}
use Rattle.base_kit.specs.Partition.{IsNumbered}
use Rattle.base_kit.proofs.Elements.{contains_in}
use Rattle.by_key.proofs.KeyedItems.{all_from}
use Rattle.abstract_net.specs.declared.qlink.QLink.{QLink}
use Rattle.abstract_net.specs.Carried.{IsBelow, CarriesActs}
use Rattle.abstract_net.specs.Links.{quotient_links, IsInside}
use Rattle.srp_core.specs.declared.route.Route.{Route}
use Rattle.srp_core.specs.declared.route.Act.{Act}
use Rattle.srp_core.specs.declared.route.Route.TheVariants.{Bgp, Ospf}
use Rattle.base_kit.specs.declared.protocol.Protocol.TheVariants.{Ospf as OverOspf}
use Rattle.srp_core.specs.Routes.{Key, size_of, IsRouteOf}
use Rattle.srp_core.specs.Stability.{HaveSameKeys, both_none, both_some}
use Rattle.srp_core.specs.Problem.{Problem, initial, is_lone, IsProblem}
use Rattle.srp_core.specs.Quotient.{IsAdmissible}
use Rattle.srp_quotient.specs.Groups.{first_member, number_of_group, quotient_edges, quotient_problem, small_of}

pub inside_all : (S : Problem) (groups : List ℕ) (count : ℕ) → IsProblem S → IsAdmissible S groups → IsNumbered groups count → (e : Edge) → Contains S.edges e →
    IsInside groups count e
inside_all S groups count good adm numbered e has =
    let is = good.edges.inside e has in
    let total = adm.total in
    record {
      importer = numbered.below e.importer 0 (let i = is.importer_in in omega arith);
      exporter =
          numbered.below e.exporter 0 (let i = is.exporter_in in omega arith);
    }

pub all_below : (count : ℕ) (links ls : List QLink) (es : List Edge) (groups : List ℕ) → CarriesActs es groups count ls → links ≡ ls → All (IsBelow count) links
all_below count links ls es groups carries is =
    all_from (IsBelow count) links (λ l at. carries.below l (let P : List QLink → Type 0 = λ xs. Contains xs l in subst P is (contains_in links l at)))

pub all_apart : (count : ℕ) (links : List QLink) → All (IsBelow count) links → All (λ (l : QLink). l.low < l.high) links
all_apart count links below = λ k d h. (below k d h).ordered

pub parts_are : (S : Problem) (groups : List ℕ) (count : ℕ) (links : List QLink) (q : Protocol) (firsts : List ℕ) (names : List (List ℕ)) (numbers : List ℕ)
    (init : List (Option Route)) (lone : List Bool) (acts : List Act) (edges : List Edge)
    → links ≡ quotient_links S.edges groups count → q ≡ S.protocol → firsts ≡ map (first_member groups) (range_with_len 0 count)
    → names ≡ map (λ u. slice_index_or S.names u []) firsts → numbers ≡ map (number_of_group S groups links) (range_with_len 0 count) →
    init ≡ map (initial S) firsts → lone ≡ map (is_lone S) firsts → acts ≡ S.acts → edges ≡ quotient_edges S.protocol S.edges count links
    → record { protocol = q; names = names; numbers = numbers; init = init; lone = lone; acts = acts; edges = edges } ≡ small_of S groups count
unfolding quotient_problem
parts_are S groups count links q firsts names numbers init lone acts edges l p f n m i o a e =
    let names_are = n ∙ ap (map (λ u. slice_index_or S.names u [])) f
    ∙ map-map (λ u. slice_index_or S.names u []) (first_member groups) (range_with_len 0 count) in
    let numbers_are = m ∙ ap (λ (ls : List QLink). map (number_of_group S groups ls) (range_with_len 0 count)) l in
    let init_are = i ∙ ap (map (initial S)) f ∙ map-map (initial S) (first_member groups) (range_with_len 0 count) in
    let lone_are = o ∙ ap (map (is_lone S)) f ∙ map-map (is_lone S) (first_member groups) (range_with_len 0 count) in
    let edges_are = e ∙ ap (λ (ls : List QLink). quotient_edges S.protocol S.edges count ls) l in
    λ j. record { protocol = p j; names = names_are j; numbers = numbers_are j; init = init_are j; lone = lone_are j; acts = a j; edges = edges_are j }

-- in OSPF routes of equal keys are equal
pub one_cost : (P : Problem) (a b : Option Route) → P.protocol ≡ OverOspf → ((r : Route) → a ≡ Some r → IsRouteOf P.protocol r) →
    ((r : Route) → b ≡ Some r → IsRouteOf P.protocol r) → HaveSameKeys P P a b → a ≡ b
one_cost P a b ospf fits fits' (both_none x y) = x ∙ sym y
one_cost P a b ospf fits fits' (both_some r s x y k) =
    x ∙ ap (λ (t : Route). Some t) (same r s (subst (λ (q : Protocol). IsRouteOf q r) ospf (fits r x))
    (subst (λ (q : Protocol). IsRouteOf q s) ospf (fits' s y)) (ap (λ (t : Key). t.size) k)) ∙ sym y
  where
    same : (p q : Route) → IsRouteOf OverOspf p → IsRouteOf OverOspf q → size_of p ≡ size_of q → p ≡ q
    same (Ospf c) (Ospf d) i j e = ap Ospf e
    same (Ospf c) (Bgp lp path comms) i j e = absurd j
    same (Bgp lp path comms) q i j e = absurd i
