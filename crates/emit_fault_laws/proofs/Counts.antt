-- The network of the groups has few routers and few neighbour lines.
use Rattle.std.proofs.Common.{◌≡◌, ℕ, zero, suc, ◌+◌, ◌*◌, ◌<◌, ◌≤◌, Bool, true, false, cond, ◌||◌, List, [], ◌∷◌, ◌++◌, map, length, Some, None, refl, ◌∙◌, ap, arith, nat_eq, length-append}
use Rattle.std.specs.Prelude.{filter, flat_map}
use Rattle.std.specs.Option.{option_map_or, option_to_list}
use Rattle.std.specs.List.{enumerate_from, range_with_len}
use Rattle.std.proofs.lemmas.Bool.Decides.{nat_tests}
use Rattle.std.proofs.lemmas.List.{length-map}
use Rattle.std.proofs.lemmas.List.Concat.{flat_map-cons}
use Rattle.std.proofs.lemmas.List.FromFn.{length-map-range_with_len}
use Rattle.std.proofs.lemmas.Option.{slice_get_past}
use Rattle.base_kit.specs.declared.protocol.Protocol.{Protocol}
use Rattle.base_kit.specs.declared.protocol.Protocol.TheVariants.{Bgp as OverBgp, Ospf as OverOspf}
use Rattle.base_kit.proofs.SetFacts.{other_number}
use Rattle.cfg_ast.specs.declared.bgp.BgpProcess.{BgpProcess}
use Rattle.cfg_ast.specs.declared.bgp.Neighbor.{Neighbor}
use Rattle.cfg_ast.specs.meaning.RouterFaults.{first_beyond, too_many_routers_lines, too_many_neighbors_lines}
use Rattle.cfg_check.specs.Items.{router_line, neighbor_line}
use Rattle.cfg_ast.specs.meaning.Topology.{neighbors_of}
use Rattle.abstract_net.specs.declared.qlink.QLink.{QLink}
use Rattle.srp_core.specs.Problem.{number}
use Rattle.config_emit.specs.Emitted.{neighbor_at, process_of, written_bgp, emitted_router, emitted}
use Rattle.config_emit.specs.Interfaces.{is_at, links_at}
use Rattle.config_emit.specs.Laws.{IsPlan}
use Rattle.config_emit.specs.Plan.{Plan, small}
use Rattle.emit_fault_laws.proofs.Apart.{map_nil}
use Rattle.emit_form_laws.specs.Laws.{GroupsAreNoMore}

-- ---- routers

pub router_count : (e : Plan) → length (emitted e).routers ≡ e.count
unfolding emitted
router_count e = length-map-range_with_len (emitted_router e) 0 e.count

none_past : {X : Type 0} (limit : ℕ) (xs : List X) → length xs ≤ limit → first_beyond limit xs ≡ []
none_past limit xs few = ap option_to_list (slice_get_past xs limit few)

past_none : {X : Type 0} (limit : ℕ) (xs : List X) → first_beyond limit xs ≡ [] → length xs ≤ limit
past_none limit [] none = omega arith
past_none zero (x ∷ xs) none = absurd cc
past_none (suc limit) (x ∷ xs) none = let rest = past_none limit xs none in omega arith

pub no_more_routers : GroupsAreNoMore → (e : Plan) → IsPlan e → too_many_routers_lines (emitted e) ≡ []
unfolding too_many_routers_lines
no_more_routers law e plan =
    let few = past_none 4096 e.network.routers (map_nil router_line (first_beyond 4096 e.network.routers) plan.faultless.too_many_routers) in
    let groups = law e plan in
    let many = router_count e in
    ap (map router_line) (none_past 4096 (emitted e).routers (omega arith))

-- ---- neighbours

-- how often a number stands in a range
abbrev hits : ℕ → List ℕ → ℕ
hits x [] = 0
hits x (g ∷ gs) = cond (nat_eq x g) 1 0 + hits x gs

no_hits : (x a n : ℕ) → x < a → hits x (range_with_len a n) ≡ 0
no_hits x a zero less = refl
no_hits x a (suc n) less = rw (other_number x a (λ same. absurd (omega arith)), no_hits x (a + 1) n (omega arith)) refl

one_hit : (x a n : ℕ) → hits x (range_with_len a n) ≤ 1
one_hit x a zero = omega arith
one_hit x a (suc n) = step (nat_eq x a) refl (one_hit x (a + 1) n)
  where
    is_number : (m n : ℕ) → nat_eq m n ≡ true → m ≡ n
    is_number m n e = grind (arith, nat_tests)

    step : (b : Bool) → nat_eq x a ≡ b → hits x (range_with_len (a + 1) n) ≤ 1 → cond b 1 0 + hits x (range_with_len (a + 1) n) ≤ 1
    step true e rest = let same = is_number x a e in let none = no_hits x (a + 1) n (omega arith) in omega arith
    step false e rest = omega arith

-- how many of the groups a link has for an end
abbrev ends_in : ℕ × QLink → List ℕ → ℕ
ends_in p [] = 0
ends_in p (g ∷ gs) = cond (is_at g p) 1 0 + ends_in p gs

two_ends : (p : ℕ × QLink) (gs : List ℕ) → ends_in p gs ≤ hits p.1.low gs + hits p.1.high gs
two_ends p [] = omega arith
two_ends p (g ∷ gs) = step (nat_eq p.1.low g) (nat_eq p.1.high g) (two_ends p gs)
  where
    step : (a b : Bool) → ends_in p gs ≤ hits p.1.low gs + hits p.1.high gs →
        cond (a || b) 1 0 + ends_in p gs ≤ (cond a 1 0 + hits p.1.low gs) + (cond b 1 0 + hits p.1.high gs)
    step true true rest = omega arith
    step true false rest = omega arith
    step false true rest = omega arith
    step false false rest = omega arith

abbrev links_in : List (ℕ × QLink) → List ℕ → ℕ
links_in ps [] = 0
links_in ps (g ∷ gs) = length (filter (is_at g) ps) + links_in ps gs

one_more : (p : ℕ × QLink) (ps : List (ℕ × QLink)) (gs : List ℕ) → links_in (p ∷ ps) gs ≡ ends_in p gs + links_in ps gs
one_more p ps [] = omega arith
one_more p ps (g ∷ gs) = step (is_at g p) (one_more p ps gs)
  where
    step : (b : Bool) → links_in (p ∷ ps) gs ≡ ends_in p gs + links_in ps gs →
        length (cond b (p ∷ filter (is_at g) ps) (filter (is_at g) ps)) + links_in (p ∷ ps) gs ≡ (cond b 1 0 + ends_in p gs)
        + (length (filter (is_at g) ps) + links_in ps gs)
    step true rest = omega arith
    step false rest = omega arith

none_of : (gs : List ℕ) → links_in [] gs ≡ 0
none_of [] = refl
none_of (g ∷ gs) = let rest = none_of gs in omega arith

twice : (n : ℕ) (ps : List (ℕ × QLink)) → links_in ps (range_with_len 0 n) ≤ 2 * length ps
twice n [] = let none = none_of (range_with_len 0 n) in omega arith
twice n (p ∷ ps) =
    let more = one_more p ps (range_with_len 0 n) in
    let ends = two_ends p (range_with_len 0 n) in
    let low = one_hit p.1.low 0 n in
    let high = one_hit p.1.high 0 n in
    let rest = twice n ps in omega arith

neighbors_few : (e : Plan) (g : ℕ) → length (neighbors_of (emitted_router e g)) ≤ length (links_at e g)
neighbors_few e g = over e.problem.protocol
  where
    step : (b : Bool) → length (option_map_or (λ (process : BgpProcess). process.neighbors) (cond b None (Some (process_of e g))) []) ≤ length (links_at e g)
    step true = omega arith
    step false = let same = length-map (links_at e g) (neighbor_at e g) in omega arith

    over : (q : Protocol) → length (option_map_or (λ (process : BgpProcess). process.neighbors) (written_bgp q e g) []) ≤ length (links_at e g)
    over OverOspf = omega arith
    over OverBgp = step (nat_eq (number (small e) g) 0)

all_few : (e : Plan) (gs : List ℕ) → length (flat_map neighbors_of (map (emitted_router e) gs)) ≤ links_in (enumerate_from 0 e.links) gs
unfolding links_at
all_few e [] = omega arith
all_few e (g ∷ gs) =
    let first = ap (λ (ns : List Neighbor). length ns) (flat_map-cons neighbors_of (emitted_router e g) (map (emitted_router e) gs)) in
    let both = length-append (neighbors_of (emitted_router e g)) (flat_map neighbors_of (map (emitted_router e) gs)) in
    let here = neighbors_few e g in
    let rest = all_few e gs in omega arith

numbered_length : {X : Type 0} (n : ℕ) (xs : List X) → length (enumerate_from n xs) ≡ length xs
numbered_length n [] = refl
numbered_length n (x ∷ xs) = ap (λ k. suc k) (numbered_length (n + 1) xs)

-- each link gives two neighbour lines at most
pub neighbors_twice : (e : Plan) → length (flat_map neighbors_of (emitted e).routers) ≤ 2 * length e.links
unfolding emitted
neighbors_twice e =
    let all = all_few e (range_with_len 0 e.count) in
    let two = twice e.count (enumerate_from 0 e.links) in
    let same = numbered_length 0 e.links in omega arith

-- OSPF has none
no_neighbors : (e : Plan) → e.problem.protocol ≡ OverOspf → (gs : List ℕ) → flat_map neighbors_of (map (emitted_router e) gs) ≡ []
no_neighbors e ospf [] = refl
no_neighbors e ospf (g ∷ gs) =
    flat_map-cons neighbors_of (emitted_router e g) (map (emitted_router e) gs)
    ∙ ap (λ (ns : List Neighbor). ns ++ flat_map neighbors_of (map (emitted_router e) gs))
    (ap (λ q. option_map_or (λ (process : BgpProcess). process.neighbors) (written_bgp q e g) []) ospf)
    ∙ no_neighbors e ospf gs

pub no_more_neighbors : (e : Plan) → (e.problem.protocol ≡ OverBgp → 2 * length e.links ≤ 131072) → too_many_neighbors_lines (emitted e) ≡ []
unfolding too_many_neighbors_lines emitted
no_more_neighbors e few = ap (map neighbor_line) (none_past 131072 (flat_map neighbors_of (emitted e).routers) (over e.problem.protocol refl))
  where
    over : (q : Protocol) → e.problem.protocol ≡ q → length (flat_map neighbors_of (map (emitted_router e) (range_with_len 0 e.count))) ≤ 131072
    over OverBgp bgp = let two = neighbors_twice e in let most = few bgp in omega arith
    over OverOspf ospf = rw (no_neighbors e ospf (range_with_len 0 e.count)) (omega arith)
