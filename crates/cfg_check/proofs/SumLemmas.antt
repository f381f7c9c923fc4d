-- Sums of pairs, router by router.
use Rattle.std.proofs.Common.{◌≡◌, ◌<◌, ℕ, ◌+◌, Bool, true, false, cond, List, [], ◌∷◌, ◌++◌, map, filter, flat_map, length, get_or, take, drop, Result, Ok, Err, nat_lt, refl, sym, ap, ◌∙◌}
use Rattle.std.proofs.lemmas.List.{take_more, drop_more}
use Rattle.std.proofs.lemmas.List.Elements.{filter-append}
use Rattle.std.proofs.lemmas.Grind.{flat_map-append}
use Rattle.buckets.specs.Buckets.{Index, is_at_pair, IsIndex}
use Rattle.cfg_ast.specs.meaning.Addresses.{Address}
use Rattle.cfg_ast.specs.declared.network.Router.{Router}
use Rattle.cfg_ast.specs.meaning.RouterFaults.{Added, active_addresses_of, added_by, added_after, exceeding}
use Rattle.cfg_check.specs.Pairs.{subnet_pair, counted, sum_or_line, AddsAll}

-- what the sum does to the rest
pub rest_or_line : ℕ → Result ℕ ℕ → List Added → List ℕ
rest_or_line limit (Ok sum) rest = exceeding limit sum rest
rest_or_line limit (Err line) rest = line ∷ []

parts_at : (limit sum : ℕ) (a : Added) (more rest : List Added) (b : Bool) →
    exceeding limit (sum + a.pairs) (more ++ rest) ≡ rest_or_line limit (sum_or_line limit (sum + a.pairs) more) rest
    → cond b (a.line ∷ []) (exceeding limit (sum + a.pairs) (more ++ rest)) ≡ rest_or_line limit (cond b (Err a.line) (sum_or_line limit (sum + a.pairs) more))
    rest
unfolding rest_or_line
parts_at limit sum a more rest true ih = refl
parts_at limit sum a more rest false ih = ih

exceeding_parts : (limit sum : ℕ) (more rest : List Added) → exceeding limit sum (more ++ rest) ≡ rest_or_line limit (sum_or_line limit sum more) rest
unfolding rest_or_line
exceeding_parts limit sum [] rest = refl
exceeding_parts limit sum (a ∷ more) rest = parts_at limit sum a more rest (nat_lt limit (sum + a.pairs)) (exceeding_parts limit (sum + a.pairs) more rest)

all_counted : (seen : Index Address) (earlier : List Address) → IsIndex subnet_pair seen earlier → (addresses : List Address) →
    map (counted seen) addresses ≡ map (added_by earlier) addresses
all_counted seen earlier is [] = refl
all_counted seen earlier is (a ∷ addresses) =
    let one : List Address → Added = λ same. record { line = a.line; pairs = length same } in
    ap (λ same. one same ∷ map (counted seen) addresses) (is.each (subnet_pair a))
    ∙ ap (λ rest. added_by earlier a ∷ rest) (all_counted seen earlier is addresses)

pub counted_more : (old new : Index Address) (earlier addresses : List Address) → IsIndex subnet_pair old earlier → AddsAll old new addresses →
    IsIndex subnet_pair new (earlier ++ addresses)
counted_more old new earlier addresses is adds = record {
  each = λ pair. adds.each pair ∙ ap (λ (l : List Address). l ++ filter (is_at_pair subnet_pair pair) addresses) (is.each pair)
      ∙ sym (filter-append (is_at_pair subnet_pair pair) earlier addresses);
}

no_more : {X : Type 0} (xs : List X) → xs ++ [] ≡ xs
no_more [] = refl
no_more (x ∷ xs) = ap (λ ys. x ∷ ys) (no_more xs)

-- the active addresses of one router more
pub earlier_more : (routers : List Router) (i : ℕ) (x : Router) → i < length routers → x ≡ get_or routers i x → flat_map active_addresses_of (take i routers)
    ++ active_addresses_of x ≡ flat_map active_addresses_of (take (i + 1) routers)
earlier_more routers i x below here =
    sym (ap (λ (l : List Router). flat_map active_addresses_of l) (take_more routers i x below ∙ ap (λ (y : Router). take i routers ++ y ∷ []) (sym here))
    ∙ flat_map-append active_addresses_of (take i routers) (x ∷ [])
    ∙ ap (λ (l : List Address). flat_map active_addresses_of (take i routers) ++ l) (no_more (active_addresses_of x)))

-- one router more
pub router_turn : (seen : Index Address) (routers : List Router) (i sum : ℕ) (x : Router) (all : List ℕ) → i < length routers → x ≡ get_or routers i x →
    IsIndex subnet_pair seen (flat_map active_addresses_of (take i routers))
    → exceeding 1048576 sum (added_after (flat_map active_addresses_of (take i routers)) (drop i routers)) ≡ all
    → all ≡ rest_or_line 1048576 (sum_or_line 1048576 sum (map (counted seen) (active_addresses_of x)))
    (added_after (flat_map active_addresses_of (take (i + 1) routers)) (drop (i + 1) routers))
router_turn seen routers i sum x all below here is so_far =
    let earlier = flat_map active_addresses_of (take i routers) in
    let first : drop i routers ≡ x ∷ drop (i + 1) routers = drop_more routers i x below ∙ ap (λ (y : Router). y ∷ drop (i + 1) routers) (sym here) in
    sym so_far
    ∙ ap (λ (l : List Router). exceeding 1048576 sum (added_after earlier l)) first
    ∙ exceeding_parts 1048576 sum (map (added_by earlier) (active_addresses_of x)) (added_after (earlier ++ active_addresses_of x) (drop (i + 1) routers))
    ∙ ap (λ (l : List Added). rest_or_line 1048576 (sum_or_line 1048576 sum l) (added_after (earlier ++ active_addresses_of x) (drop (i + 1) routers)))
    (sym (all_counted seen earlier is (active_addresses_of x)))
    ∙ ap (λ (l : List Address). rest_or_line 1048576 (sum_or_line 1048576 sum (map (counted seen) (active_addresses_of x)))
    (added_after l (drop (i + 1) routers))) (earlier_more routers i x below here)

-- the same, by what the sum is

pub sum_stops : (seen : Index Address) (routers : List Router) (i sum : ℕ) (x : Router) (all : List ℕ) (line : ℕ) → i < length routers →
    x ≡ get_or routers i x → IsIndex subnet_pair seen (flat_map active_addresses_of (take i routers))
    → exceeding 1048576 sum (added_after (flat_map active_addresses_of (take i routers)) (drop i routers)) ≡ all →
    Err line ≡ sum_or_line 1048576 sum (map (counted seen) (active_addresses_of x)) → all ≡ line ∷ []
unfolding rest_or_line
sum_stops seen routers i sum x all line below here is so_far e =
    router_turn seen routers i sum x all below here is so_far
    ∙ ap (λ (r : Result ℕ ℕ). rest_or_line 1048576 r (added_after (flat_map active_addresses_of (take (i + 1) routers)) (drop (i + 1) routers))) (sym e)

pub sum_goes_on : (seen : Index Address) (routers : List Router) (i sum : ℕ) (x : Router) (all : List ℕ) (more : ℕ) → i < length routers →
    x ≡ get_or routers i x → IsIndex subnet_pair seen (flat_map active_addresses_of (take i routers))
    → exceeding 1048576 sum (added_after (flat_map active_addresses_of (take i routers)) (drop i routers)) ≡ all →
    Ok more ≡ sum_or_line 1048576 sum (map (counted seen) (active_addresses_of x))
    → exceeding 1048576 more (added_after (flat_map active_addresses_of (take (i + 1) routers)) (drop (i + 1) routers)) ≡ all
unfolding rest_or_line
sum_goes_on seen routers i sum x all more below here is so_far e =
    sym (router_turn seen routers i sum x all below here is so_far
    ∙ ap (λ (r : Result ℕ ℕ). rest_or_line 1048576 r (added_after (flat_map active_addresses_of (take (i + 1) routers)) (drop (i + 1) routers))) (sym e))
