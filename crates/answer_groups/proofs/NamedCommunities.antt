-- The lines of a well-formed network name no community that is set aside.
use Rattle.std.proofs.Common.{ℕ, Bool, true, false, cond, List, [], ◌∷◌, ◌++◌, map, Option, Some, None, nat_lt}
use Rattle.std.specs.Prelude.{◌==◌, IfSome, flat_map}
use Rattle.std.specs.List.{AllByRecursion}
use Rattle.base_kit.specs.Sets.{with_number, with_numbers}
use Rattle.cfg_ast.specs.declared.network.Network.{Network}
use Rattle.cfg_ast.specs.declared.network.Router.{Router}
use Rattle.cfg_ast.specs.declared.policy.Change.{Change}
use Rattle.cfg_ast.specs.declared.policy.Change.TheVariants.{Clear, Replace, Append}
use Rattle.cfg_ast.specs.declared.policy.CommunityLine.{CommunityLine}
use Rattle.cfg_ast.specs.declared.policy.CommunityList.{CommunityList}
use Rattle.cfg_ast.specs.declared.policy.MapEntry.{MapEntry}
use Rattle.cfg_ast.specs.declared.policy.Mention.{Mention}
use Rattle.cfg_ast.specs.declared.policy.RouteMap.{RouteMap}
use Rattle.cfg_ast.specs.meaning.PolicyFaults.{mention_at, mentions_on, mentions_in_list, changed_by, mentions_in, mentions_in_map, mentions_of, community_of, communities_of}
use Rattle.cfg_ast.specs.printing.WellFormed.{IsBetween, IsWellFormedCommunityLine, IsWellFormedCommunityList, IsWellFormedChange, IsWellFormedMapEntry, IsWellFormedRouteMap, IsWellFormedRouter, IsWellFormed}
use Rattle.canon_policy.specs.CanonicalProblem.{AreCommunities}

abbrev IsCommunity : ℕ → Type 0
IsCommunity c = IsBetween 1 4294901759 c

abbrev Mentions : Mention → Type 0
Mentions m = IsCommunity m.community

-- ---- lists

all_append : {X : Type 0} (P : X → Type 0) (xs ys : List X) → AllByRecursion P xs → AllByRecursion P ys → AllByRecursion P (xs ++ ys)
all_append P [] ys all also = also
all_append P (x ∷ xs) ys all also = (all.0, all_append P xs ys all.1 also)

all_flat : {X Y : Type 0} (Q : X → Type 0) (P : Y → Type 0) (f : X → List Y)
    → ((x : X) → Q x → AllByRecursion P (f x)) → (xs : List X) → AllByRecursion Q xs → AllByRecursion P (flat_map f xs)
all_flat Q P f each [] all = tt
all_flat Q P f each (x ∷ xs) all = all_append P (f x) (flat_map f xs) (each x all.0) (all_flat Q P f each xs all.1)

with_one : (P : ℕ → Type 0) (n : ℕ) (set : List ℕ) → P n → AllByRecursion P set → AllByRecursion P (with_number n set)
with_one P n [] p all = (p, tt)
with_one P n (x ∷ xs) p all = step (nat_lt n x) (n == x) (with_one P n xs p all.1)
  where
    step : (a b : Bool) → AllByRecursion P (with_number n xs) → AllByRecursion P (cond a (n ∷ x ∷ xs) (cond b (x ∷ xs) (x ∷ with_number n xs)))
    step true b rest = (p, all)
    step false true rest = all
    step false false rest = (all.0, rest)

with_all : (P : ℕ → Type 0) (more set : List ℕ) → AllByRecursion P more → AllByRecursion P set → AllByRecursion P (with_numbers more set)
with_all P [] set each all = all
with_all P (n ∷ more) set each all = with_all P more (with_number n set) each.1 (with_one P n set each.0 all)

-- ---- what lines mention

mentioned : (line : ℕ) (comms : List ℕ) → AllByRecursion IsCommunity comms → AllByRecursion Mentions (map (mention_at line) comms)
mentioned line [] all = tt
mentioned line (c ∷ cs) all = (all.0, mentioned line cs all.1)

in_line : (line : CommunityLine) → IsWellFormedCommunityLine line → AllByRecursion Mentions (mentions_on line)
in_line line is = mentioned line.line line.comms is.each

in_list : (list : CommunityList) → IsWellFormedCommunityList list → AllByRecursion Mentions (mentions_in_list list)
in_list list is = all_flat IsWellFormedCommunityLine Mentions mentions_on in_line list.lines is.lines

in_change : (line : ℕ) (change : Option Change) → IfSome change IsWellFormedChange → AllByRecursion Mentions (map (mention_at line) (changed_by change))
in_change line None is = tt
in_change line (Some Clear) is = tt
in_change line (Some (Replace by)) is = mentioned line by is.each
in_change line (Some (Append more)) is = mentioned line more is.each

in_entry : (entry : MapEntry) → IsWellFormedMapEntry entry → AllByRecursion Mentions (mentions_in entry)
in_entry entry is = in_change entry.change_line entry.change is.change

in_map : (m : RouteMap) → IsWellFormedRouteMap m → AllByRecursion Mentions (mentions_in_map m)
in_map m is = all_flat IsWellFormedMapEntry Mentions mentions_in in_entry m.entries is.entries

in_router : (router : Router) → IsWellFormedRouter router → AllByRecursion Mentions (mentions_of router)
in_router router is =
    all_append Mentions (flat_map mentions_in_list router.community_lists) (flat_map mentions_in_map router.route_maps)
    (all_flat IsWellFormedCommunityList Mentions mentions_in_list in_list router.community_lists is.community_lists)
    (all_flat IsWellFormedRouteMap Mentions mentions_in_map in_map router.route_maps is.route_maps)

numbers : (ms : List Mention) → AllByRecursion Mentions ms → AllByRecursion IsCommunity (map community_of ms)
numbers [] all = tt
numbers (m ∷ ms) all = (all.0, numbers ms all.1)

pub named_communities : (n : Network) → IsWellFormed n → AreCommunities (communities_of n)
unfolding communities_of
named_communities n form =
    let ms = flat_map mentions_of n.routers in
    with_all IsCommunity (map community_of ms) [] (numbers ms (all_flat IsWellFormedRouter Mentions mentions_of in_router n.routers form.routers)) tt
