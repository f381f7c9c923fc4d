-- The first members of groups, and what a group has from them. Public: the crates above that speak of the network
-- of the groups use these lemmas too.
use Rattle.std.proofs.Common.{◌≡◌, ◌≢◌, ℕ, zero, suc, ◌<◌, ◌≤◌, Bool, true, false, cond, not, ◌&&◌, ◌||◌, List, [], ◌∷◌, map, length, ◌⊎◌, inl, inr, Option, Some, None, refl, sym, ◌∙◌, ap, subst, arith, nat_eq}
use Rattle.std.specs.Prelude.{Contains, IfSome, slice_get, slice_index, slice_index_or, is_some}
use Rattle.std.specs.Option.{option_map, option_map_or}
use Rattle.std.specs.List.{list_any, range_with_len}
use Rattle.std.proofs.lemmas.Bool.Decides.{nat_tests}
use Rattle.std.proofs.lemmas.List.{length-map}
use Rattle.std.proofs.lemmas.List.FromFn.{get_or-map-range_with_len, length-range_with_len}
use Rattle.std.proofs.lemmas.Option.{slice_get-map, get_or_from_slice_get}
use Rattle.base_kit.specs.Prefixes.{Prefix}
use Rattle.base_kit.specs.declared.act_graph.Edge.{Edge}
use Rattle.base_kit.specs.declared.protocol.Protocol.TheVariants.{Bgp as OverBgp}
use Rattle.base_kit.proofs.Elements.{In, range_in, contains_in, in_contains, map_in, get_in}
use Rattle.base_kit.proofs.SetFacts.{same_number, other_number}
use Rattle.cfg_ast.specs.declared.bgp.BgpProcess.{BgpProcess}
use Rattle.cfg_ast.specs.declared.network.Router.{Router}
use Rattle.cfg_ast.specs.printing.WellFormed.{IsWellFormedBgp, IsWellFormedRouter}
use Rattle.abstract_net.specs.Carried.{IsJoined, side_of, CarriesActs}
use Rattle.abstract_net.specs.Links.{QuotientCarries, IsInside}
use Rattle.abstract_net.specs.declared.qlink.QLink.{QLink}
use Rattle.srp_core.specs.Problem.{IsProblem, count, number, initial}
use Rattle.srp_core.specs.ProblemOf.{as_number_of, IsProblemOf}
use Rattle.srp_core.specs.Quotient.{first_number}
use Rattle.srp_quotient.specs.Groups.{first_member, touches, number_of_group, is_used, quotient_problem}
use Rattle.config_emit.specs.Laws.{IsPlan}
use Rattle.config_emit.specs.Maps.{other_end}
use Rattle.config_emit.specs.Plan.{Plan, small, first_router_of}
use Rattle.emit_form_laws.specs.Laws.{GroupsAreNoMore}
use Rattle.emit_form_laws.proofs.Origins.{class_is, some_prefix, router_forms, ascending_few}
use Rattle.emit_form_laws.proofs.Pairwise.{weaker, range_pairs}

-- ---- the problem of a plan

pub record HasProblem (e : Plan) : Type 0 where
  pub prefix : Prefix
  pub has : Contains e.class.prefixes prefix
  pub of : IsProblemOf e.network prefix e.problem

pub problem_of : (e : Plan) → IsPlan e → HasProblem e
problem_of e plan = let p = some_prefix e.network e.class (class_is e.network e.class plan.class) in
    record { prefix = p.0; has = p.1; of = plan.problem p.0 p.1 }

pub groups_total : (e : Plan) → IsPlan e → length e.groups ≡ length e.network.routers
groups_total e plan = plan.groups.total ∙ ap length (problem_of e plan).of.numbers ∙ length-map e.network.routers as_number_of

-- ---- first members

first_is : (groups : List ℕ) (g : ℕ) → In groups g → (first_member groups g < length groups) × (slice_index groups (first_member groups g) ≡ g)
first_is [] g h = absurd h
first_is (x ∷ xs) g h = step (nat_eq x g) refl h (first_is xs g)
  where
    step : (b : Bool) → nat_eq x g ≡ b → (x ≡ g) ⊎ In xs g → (In xs g → (first_member xs g < length xs) × (slice_index xs (first_member xs g) ≡ g))
        → (cond b 0 (suc (first_member xs g)) < suc (length xs)) × (slice_index (x ∷ xs) (cond b 0 (suc (first_member xs g))) ≡ g)
    step true is k ih = (omega arith, grind (arith, nat_tests))
    step false is (inl same) ih = absurd (let yes = same_number x g same in cc)
    step false is (inr k) ih = let r = ih k in let below = r.0 in (omega arith, r.1)

pub get_at : {X : Type 0} (xs : List X) (k : ℕ) → k < length xs → (x : X) × (slice_get xs k ≡ Some x)
get_at [] k h = absurd (omega arith)
get_at (x ∷ xs) zero h = (x, refl)
get_at (x ∷ xs) (suc k) h = get_at xs k (omega arith)

-- a group with its first member
pub record HasFirst (e : Plan) (g : ℕ) : Type 0 where
  pub inside : first_member e.groups g < length e.groups
  pub group : slice_index e.groups (first_member e.groups g) ≡ g
  pub router : Router
  pub at : first_router_of e g ≡ Some router
  pub is_in : In e.network.routers router

pub first_of : (e : Plan) → IsPlan e → (g : ℕ) → g < e.count → HasFirst e g
first_of e plan g below =
    let f = first_is e.groups g (in_contains e.groups g (plan.numbered.used g below)) in
    let inside = f.0 in
    let total = groups_total e plan in
    let r = get_at e.network.routers (first_member e.groups g) (omega arith) in
    record { inside = f.0; group = f.1; router = r.0; at = r.1; is_in = get_in e.network.routers (first_member e.groups g) r.0 r.1 }

-- a group is named after its first member
pub name_is : (e : Plan) → IsPlan e → (g : ℕ) → g < e.count → (f : HasFirst e g) → slice_index_or (small e).names g [] ≡ f.router.name
unfolding quotient_problem
name_is e plan g below f =
    get_or-map-range_with_len (λ h. slice_index_or e.problem.names (first_member e.groups h) []) 0 e.count g g [] below (omega arith)
    ∙ ap (λ (names : List (List ℕ)). slice_index_or names (first_member e.groups g) []) (problem_of e plan).of.names
    ∙ get_or_from_slice_get (map (λ (r : Router). r.name) e.network.routers) (first_member e.groups g) f.router.name []
    (slice_get-map (λ (r : Router). r.name) e.network.routers (first_member e.groups g) ∙ ap (option_map (λ (r : Router). r.name)) f.at)

-- ---- AS numbers

pub number_at : (e : Plan) (g : ℕ) → g < e.count → number (small e) g ≡ number_of_group e.problem e.groups e.links g
unfolding quotient_problem
number_at e g below = get_or-map-range_with_len (number_of_group e.problem e.groups e.links) 0 e.count g g 0 below (omega arith)

first_below : (bound : ℕ) (numbers groups : List ℕ) (g : ℕ) → ((i : ℕ) → In numbers i → i ≤ bound) → first_number numbers groups g ≤ bound
unfolding first_number
first_below bound [] groups g few = omega arith
first_below bound (i ∷ is) [] g few = omega arith
first_below bound (i ∷ is) (x ∷ xs) g few = step (nat_eq x g && not (nat_eq i 0)) (first_below bound is xs g (λ j h. few j (inr h)))
  where
    step : (b : Bool) → first_number is xs g ≤ bound → cond b i (first_number is xs g) ≤ bound
    step true rest = few i (inl refl)
    step false rest = rest

as_number_below : (r : Router) → IsWellFormedRouter r → as_number_of r ≤ 4294967295
as_number_below r form = step r.bgp form.bgp
  where
    step : (o : Option BgpProcess) → IfSome o IsWellFormedBgp → option_map_or (λ (process : BgpProcess). process.number) o 0 ≤ 4294967295
    step None is = omega arith
    step (Some process) is = is.number.1

pub number_below : (e : Plan) → IsPlan e → (g : ℕ) → g < e.count → number (small e) g ≤ 4294967295
number_below e plan g below =
    let few : (i : ℕ) → In e.problem.numbers i → i ≤ 4294967295 =
    λ i at. (let m = map_in as_number_of e.network.routers i (subst (λ (is : List ℕ). In is i) (problem_of e plan).of.numbers at) in
    subst (λ j. j ≤ 4294967295) m.2 (as_number_below m.0 (router_forms e.network plan.well_formed m.0 m.1))) in
    subst (λ i. i ≤ 4294967295) (sym (number_at e g below))
    (step (is_used e.problem e.groups e.links g) (first_below 4294967295 e.problem.numbers e.groups g few))
  where
    step : (b : Bool) → first_number e.problem.numbers e.groups g ≤ 4294967295 → cond b (first_number e.problem.numbers e.groups g) 0 ≤ 4294967295
    step true few = few
    step false few = omega arith

-- ---- links and edges

pub carries : (e : Plan) → IsPlan e → QuotientCarries → CarriesActs e.problem.edges e.groups e.count e.links
carries e plan law =
    let inside : (edge : Edge) → Contains e.problem.edges edge → IsInside e.groups e.count edge =
    λ edge has. (let of = (problem_of e plan).of.rules.edges.inside edge has in
    let total = plan.groups.total in
    record {
      importer = plan.numbered.below edge.importer 0 (let i = of.importer_in in omega arith);
      exporter =
          plan.numbered.below edge.exporter 0 (let i = of.exporter_in in omega arith);
    }) in
    subst (CarriesActs e.problem.edges e.groups e.count) (sym plan.links) (law e.problem.edges e.groups e.count inside)

or_cases : (a b : Bool) → (a || b) ≡ true → (a ≡ true) ⊎ (b ≡ true)
or_cases true b e = inl refl
or_cases false b e = inr e

pub touch_cases : (g : ℕ) (l : QLink) → touches g l ≡ true → (l.low ≡ g) ⊎ (l.high ≡ g)
touch_cases g l e = elim (or_cases (nat_eq l.low g) (nat_eq l.high g) e) [
  | inl low ↦ inl (is_number l.low g low)
  | inr high ↦ inr (is_number l.high g high)
]
  where
    is_number : (m n : ℕ) → nat_eq m n ≡ true → m ≡ n
    is_number m n e = grind (arith, nat_tests)

-- the other end of a link of a group
pub record IsEnd (e : Plan) (g : ℕ) (l : QLink) (h : ℕ) : Type 0 where
  pub joined : IsJoined l g h
  pub back : IsJoined l h g
  pub other : other_end g l ≡ h
  pub here : g < e.count
  pub there : h < e.count
  pub apart : g ≢ h
  pub touched : touches h l ≡ true

pub end_of : (e : Plan) → IsPlan e → QuotientCarries → (g : ℕ) (l : QLink) → In e.links l → touches g l ≡ true → (h : ℕ) × IsEnd e g l h
end_of e plan law g l at touched =
    let below = (carries e plan law).below l (contains_in e.links l at) in
    let less = below.ordered in
    let high = below.inside in
    elim (touch_cases g l touched) [
      | inl low ↦ (
        l.high,
        record {
          joined = inl (low, refl);
          back = inr (refl, low);
          other = ap (λ b. cond b l.high l.low) (same_number l.low g low);
          here = omega arith;
          there = high;
          apart = λ same. absurd (omega arith);
          touched = or_true (nat_eq l.low l.high) (nat_eq l.high l.high) (same_number l.high l.high refl);
        },
      )
      | inr top ↦ (
        l.low,
        record {
          joined = inr (top, refl);
          back = inl (refl, top);
          other = ap (λ b. cond b l.high l.low) (other_number l.low g (λ same. absurd (omega arith)));
          here = omega arith;
          there = omega arith;
          apart = λ same. absurd (omega arith);
          touched = ap (λ b. b || nat_eq l.high l.low) (same_number l.low l.low refl);
        },
      )
    ]
  where
    or_true : (a b : Bool) → b ≡ true → (a || b) ≡ true
    or_true true b e = refl
    or_true false b e = e

-- a group with a link has a member with an AS number
record HasNumbered (e : Plan) (g : ℕ) : Type 0 where
  member : ℕ
  inside : member < count e.problem
  group : slice_index e.groups member ≡ g
  numbered : number e.problem member ≢ 0

pub first_some : (numbers groups : List ℕ) (g u : ℕ) → u < length numbers → length groups ≡ length numbers → slice_index groups u ≡ g →
    slice_index numbers u ≢ 0 → first_number numbers groups g ≢ 0
unfolding first_number
first_some [] groups g u below total of some = absurd (omega arith)
first_some (i ∷ is) [] g u below total of some = absurd (omega arith)
first_some (i ∷ is) (x ∷ xs) g zero below total of some =
    rw (same_number x g of, other_number i 0 some) some
first_some (i ∷ is) (x ∷ xs) g (suc u) below total of some = step (nat_eq x g) (nat_eq i 0) refl (first_some is xs g u (omega arith) (omega arith) of some)
  where
    step : (a b : Bool) → nat_eq i 0 ≡ b → first_number is xs g ≢ 0 → cond (a && not b) i (first_number is xs g) ≢ 0
    step true false e rest same = (let yes = same_number i 0 same in cc)
    step true true e rest same = rest same
    step false b e rest same = rest same

numbered_of : (e : Plan) → IsPlan e → QuotientCarries → e.problem.protocol ≡ OverBgp → (g h : ℕ) (l : QLink) → In e.links l → IsJoined l g h → IsJoined l h g →
    HasNumbered e g
numbered_of e plan law bgp g h l at joined back = step (side_of g l) refl
  where
    rules : IsProblem e.problem
    rules = (problem_of e plan).of.rules

    has : Contains e.links l
    has = contains_in e.links l at

    step : (o : Option ℕ) → side_of g l ≡ o → HasNumbered e g
    step (Some k) is =
        let b = ((carries e plan law).real l g h k has joined is).between in
        record {
          member = b.edge.importer;
          inside = (rules.edges.inside b.edge b.has).importer_in;
          group = b.importer;
          numbered =
              (rules.numbers bgp).importers b.edge b.has;
        }
    step None is =
        let k = (carries e plan law).used l g h has joined is in
        let b = ((carries e plan law).real l h g k.0 has back k.1).between in
        record {
          member = b.edge.exporter;
          inside = (rules.edges.inside b.edge b.has).exporter_in;
          group = b.exporter;
          numbered =
              (rules.numbers bgp).exporters b.edge b.has;
        }

pub any_in : {X : Type 0} (p : X → Bool) (xs : List X) (x : X) → In xs x → p x ≡ true → list_any p xs ≡ true
any_in p [] x h e = absurd h
any_in p (y ∷ ys) x (inl same) e = ap (λ b. b || list_any p ys) (ap p same ∙ e)
any_in p (y ∷ ys) x (inr h) e = step (p y) (any_in p ys x h e)
  where
    step : (b : Bool) → list_any p ys ≡ true → (b || list_any p ys) ≡ true
    step true rest = refl
    step false rest = rest

-- a group with a link has an AS number
pub linked : (e : Plan) → IsPlan e → QuotientCarries → e.problem.protocol ≡ OverBgp → (g : ℕ) (l : QLink) → In e.links l → touches g l ≡ true →
    number (small e) g ≢ 0
linked e plan law bgp g l at touched same =
    (let end = end_of e plan law g l at touched in
    let of = numbered_of e plan law bgp g end.0 l at end.1.joined end.1.back in
    let some = first_some e.problem.numbers e.groups g of.member of.inside plan.groups.total of.group of.numbered in
    some (sym (used (is_some (initial e.problem (first_member e.groups g))) (list_any (touches g) e.links) (any_in (touches g) e.links l at touched))
    ∙ sym (number_at e g end.1.here) ∙ same))
  where
    used : (a b : Bool) → b ≡ true → cond (a || b) (first_number e.problem.numbers e.groups g) 0 ≡ first_number e.problem.numbers e.groups g
    used true b e = refl
    used false true e = refl
    used false false e = cc

-- ---- there are no more groups than routers

first_least : (groups : List ℕ) (g u : ℕ) → u < length groups → slice_index groups u ≡ g → first_member groups g ≤ u
first_least [] g u below is = absurd (omega arith)
first_least (x ∷ xs) g zero below is = rw (same_number x g is) (omega arith)
first_least (x ∷ xs) g (suc u) below is = step (nat_eq x g) (first_least xs g u (omega arith) is)
  where
    step : (b : Bool) → first_member xs g ≤ u → cond b 0 (suc (first_member xs g)) ≤ suc u
    step true rest = omega arith
    step false rest = omega arith

-- first members ascend
firsts_ascend : (e : Plan) → IsPlan e → (g h : ℕ) → h < e.count → g < h → first_member e.groups g < first_member e.groups h
firsts_ascend e plan g h below less =
    let k = first_of e plan h below in
    let u = plan.numbered.in_order (first_member e.groups h) g k.inside (subst (λ j. g < j) (sym k.group) less) in
    let before = u.1 in
    let inside = k.inside in
    let least = first_least e.groups g u.0 (omega arith) u.2 in omega arith

pub few_groups : GroupsAreNoMore
few_groups e plan =
    let total = groups_total e plan in
    let many = length-range_with_len 0 e.count in
    let few = ascending_few (first_member e.groups) (length e.groups) 0 (range_with_len 0 e.count)
    (λ g h. (omega arith, (first_of e plan g (let below = range_in 0 e.count g h in omega arith)).inside)) (omega arith)
    (weaker (λ (g h : ℕ). g < h) (λ (g h : ℕ). first_member e.groups g < first_member e.groups h) (range_with_len 0 e.count)
    (λ g h i k less. firsts_ascend e plan g h (let below = range_in 0 e.count h k in omega arith) less) (range_pairs 0 e.count)) in
    omega arith
