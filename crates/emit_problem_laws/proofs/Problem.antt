-- The problem of the network of the groups is that of the groups.
use Rattle.std.proofs.Common.{◌≡◌, ◌≢◌, ℕ, ◌<◌, Bool, true, false, cond, not, ◌&&◌, List, [], ◌∷◌, length, map, inl, inr, Option, Some, None, refl, sym, ◌∙◌, ap, subst, arith, is_some, nat_eq, find}
use Rattle.std.specs.Prelude.{Contains, slice_index, slice_index_or, if◌then◌else◌}
use Rattle.std.specs.Option.{option_map, option_map_or}
use Rattle.std.specs.List.{range_with_len}
use Rattle.std.proofs.lemmas.List.{length-map}
use Rattle.std.proofs.lemmas.List.FromFn.{get_or-map-range_with_len}
use Rattle.std.proofs.lemmas.Bool.Decides.{nat_tests}
use Rattle.std.proofs.lemmas.Option.{slice_get_within}
use Rattle.base_kit.specs.Prefixes.{Prefix}
use Rattle.base_kit.specs.declared.act_graph.Edge.{Edge}
use Rattle.base_kit.specs.declared.protocol.Protocol.{Protocol}
use Rattle.base_kit.specs.declared.protocol.Protocol.TheVariants.{Bgp as OverBgp, Ospf as OverOspf}
use Rattle.base_kit.proofs.Elements.{In, range_in, get_in, in_get}
use Rattle.cfg_ast.specs.declared.bgp.BgpProcess.{BgpProcess}
use Rattle.cfg_ast.specs.declared.network.Router.{Router}
use Rattle.cfg_ast.specs.declared.ospf.OspfProcess.{OspfProcess}
use Rattle.cfg_ast.specs.meaning.Addresses.{Address}
use Rattle.cfg_ast.specs.meaning.Classes.{area_interface_in, is_up_in, route_by_process, initial_route}
use Rattle.cfg_ast.specs.meaning.RouterFaults.{protocol_of}
use Rattle.cfg_ast.specs.meaning.Topology.{cost_of_interface, is_in_area_interface, process_has_address, up_address}
use Rattle.net_topology.proofs.OneProtocol.{no_bgp}
use Rattle.abstract_net.specs.Links.{QuotientCarries}
use Rattle.abstract_net.specs.declared.qlink.QLink.{QLink}
use Rattle.srp_core.specs.declared.route.Route.{Route}
use Rattle.srp_core.specs.Problem.{initial, number, IsProblem}
use Rattle.srp_core.specs.ProblemOf.{as_number_of, route_from, start_route, Direction, IsDirection, IsEdgeDirection, StandsFor}
use Rattle.srp_core.specs.Quotient.{first_number}
use Rattle.srp_quotient.specs.Groups.{first_member, is_used, number_of_group, quotient_problem}
use Rattle.srp_quotient.specs.Laws.{QuotientIsProblem}
use Rattle.config_emit.specs.Plan.{Plan, small}
use Rattle.config_emit.specs.Emitted.{process_of, written_bgp, emitted_router, emitted}
use Rattle.config_emit.specs.Laws.{IsPlan}
use Rattle.emit_form_laws.specs.Laws.{GroupsHaveFewLinks}
use Rattle.emit_form_laws.proofs.Groups.{first_of, problem_of, number_at}
use Rattle.emit_link_laws.specs.Laws.{EmittedLinks}
use Rattle.emit_link_laws.proofs.EmittedPlaces.{router_at}
use Rattle.emit_link_laws.proofs.Links.{without_bgp, without_ospf}
use Rattle.emit_origin_laws.specs.Laws.{GroupsOriginate}
use Rattle.emit_origin_laws.proofs.Starts.{start_at}
use Rattle.emit_map_laws.specs.Laws.{SessionsImportActs}
use Rattle.emit_problem_laws.specs.Laws.{EmittedHasProblem}
use Rattle.emit_problem_laws.proofs.BgpEdges.{bgp_stand, bgp_all}
use Rattle.emit_problem_laws.proofs.Directions.{HasLinks}
use Rattle.emit_problem_laws.proofs.LinkItems.{runs_bgp}
use Rattle.emit_problem_laws.proofs.Originators.{origin_of}
use Rattle.emit_problem_laws.proofs.OspfEdges.{ospf_stand, ospf_all}
use Rattle.emit_problem_laws.proofs.ProtocolOf.{runs_bgp_alone, runs_ospf_alone}

-- ---- lists over the groups

map_twice : {X Y Z : Type 0} (f : Y → Z) (h : X → Y) (xs : List X) → map f (map h xs) ≡ map (λ x. f (h x)) xs
map_twice f h [] = refl
map_twice {X} {Y} {Z} f h (x ∷ xs) = ap (λ (zs : List Z). f (h x) ∷ zs) (map_twice f h xs)

map_same : {X Y : Type 0} (f h : X → Y) (xs : List X) → ((x : X) → In xs x → f x ≡ h x) → map f xs ≡ map h xs
map_same f h [] same = refl
map_same {X} {Y} f h (x ∷ xs) same = ap (λ (y : Y). y ∷ map f xs) (same x (inl refl))
    ∙ ap (λ (ys : List Y). h x ∷ ys) (map_same f h xs (λ y at. same y (inr at)))

-- what a list has for each group, by the routers of the groups
of_groups : {Y : Type 0} (e : Plan) (f : Router → Y) (h : ℕ → Y) → ((g : ℕ) → g < e.count → f (emitted_router e g) ≡ h g) →
    map f (emitted e).routers ≡ map h (range_with_len 0 e.count)
unfolding emitted
of_groups e f h same =
    map_twice f (emitted_router e) (range_with_len 0 e.count)
    ∙ map_same (λ g. f (emitted_router e g)) h (range_with_len 0 e.count) (λ g at. same g (let below = range_in 0 e.count g at in omega arith))

-- ---- the rules

pub small_rules : QuotientIsProblem → GroupsHaveFewLinks → (e : Plan) → IsPlan e → IsProblem (small e)
small_rules law few e plan =
    let small_links = few e plan in
    let same = ap (λ (ls : List QLink). length ls) plan.links in
    subst (λ (ls : List QLink). IsProblem (quotient_problem e.problem e.groups e.count ls)) (sym plan.links)
    (law e.problem e.groups e.count (problem_of e plan).of.rules plan.groups plan.numbered (omega arith))

-- ---- initial routes

-- the router of a group originates what the group does
made_start : GroupsOriginate → (e : Plan) → IsPlan e → (p : Prefix) → Contains e.class.prefixes p → (g : ℕ) → g < e.count →
    start_route p (emitted_router e g) ≡ initial (small e) g
made_start origins e plan p p_in g below =
    sym (start_at p (emitted e).routers g (emitted_router e g) (router_at e g below))
    ∙ ap (λ (os : List (Option Route)). slice_index_or os g None) (origins e plan p p_in)

-- a group has the initial route of its first member
small_start : (e : Plan) (g : ℕ) → g < e.count → initial (small e) g ≡ initial e.problem (first_member e.groups g)
unfolding quotient_problem
small_start e g below = get_or-map-range_with_len (λ h. initial e.problem (first_member e.groups h)) 0 e.count g g None below (omega arith)

-- ---- names and numbers

names : (e : Plan) → (small e).names ≡ map (λ (router : Router). router.name) (emitted e).routers
unfolding quotient_problem
names e = sym (of_groups e (λ (router : Router). router.name) (λ g. slice_index_or e.problem.names (first_member e.groups g) [])
    (λ g below. get_or-map-range_with_len (λ h. slice_index_or e.problem.names (first_member e.groups h) []) 0 e.count g g [] below (omega arith)))

zero_number : (numbers groups : List ℕ) (g : ℕ) → ((n : ℕ) → In numbers n → n ≡ 0) → first_number numbers groups g ≡ 0
unfolding first_number
zero_number [] groups g none = refl
zero_number (n ∷ ns) [] g none = refl
zero_number (n ∷ ns) (x ∷ xs) g none = by (nat_eq x g && not (nat_eq n 0)) (zero_number ns xs g (λ m at. none m (inr at)))
  where
    by : (b : Bool) → first_number ns xs g ≡ 0 → (if b then n else first_number ns xs g) ≡ 0
    by true rest = none n (inl refl)
    by false rest = rest

no_numbers : (rs : List Router) → ((r : Router) → In rs r → r.bgp ≡ None) → (n : ℕ) → In (map as_number_of rs) n → n ≡ 0
no_numbers [] none n at = absurd at
no_numbers (r ∷ rs) none n (inl same) = sym same
    ∙ ap (λ (o : Option BgpProcess). option_map_or (λ (process : BgpProcess). process.number) o 0) (none r (inl refl))
no_numbers (r ∷ rs) none n (inr at) = no_numbers rs (λ q in_rest. none q (inr in_rest)) n at

-- in OSPF no group has an AS number
ospf_number : (e : Plan) → IsPlan e → e.problem.protocol ≡ OverOspf → (g : ℕ) → number_of_group e.problem e.groups e.links g ≡ 0
ospf_number e plan over g = by (is_used e.problem e.groups e.links g)
  where
    all_zero : (n : ℕ) → In e.problem.numbers n → n ≡ 0
    all_zero n at =
        let p = problem_of e plan in
        no_numbers e.network.routers (no_bgp e.network (p.of.protocol ∙ ap (λ (q : Protocol). Some q) over) plan.faultless.mixed_protocols) n
        (subst (λ (ns : List ℕ). In ns n) p.of.numbers at)

    by : (b : Bool) → (if b then first_number e.problem.numbers e.groups g else 0) ≡ 0
    by true = zero_number e.problem.numbers e.groups g all_zero
    by false = refl

number_of : (e : Plan) → IsPlan e → (q : Protocol) → e.problem.protocol ≡ q → (g : ℕ) → g < e.count →
    as_number_of (emitted_router e g) ≡ number_of_group e.problem e.groups e.links g
number_of e plan OverOspf over g below = ap (λ (q : Protocol). option_map_or (λ (process : BgpProcess). process.number) (written_bgp q e g) 0) over
    ∙ sym (ospf_number e plan over g)
number_of e plan OverBgp over g below =
    ap (λ (q : Protocol). option_map_or (λ (process : BgpProcess). process.number) (written_bgp q e g) 0) over ∙ by (nat_eq (number (small e) g) 0) refl
    ∙ number_at e g below
  where
    by : (b : Bool) → nat_eq (number (small e) g) 0 ≡ b →
        option_map_or (λ (process : BgpProcess). process.number) (if b then None else Some (process_of e g)) 0 ≡ number (small e) g
    by true is = sym (is_zero (number (small e) g) is)
      where
        is_zero : (n : ℕ) → nat_eq n 0 ≡ true → n ≡ 0
        is_zero n e = grind (arith, nat_tests)
    by false is = refl

numbers : (e : Plan) → IsPlan e → (small e).numbers ≡ map as_number_of (emitted e).routers
unfolding quotient_problem
numbers e plan = sym (of_groups e as_number_of (number_of_group e.problem e.groups e.links) (number_of e plan e.problem.protocol refl))

-- ---- the protocol

some_started : (p : Prefix) (r : Router) → is_some (initial_route r p) ≡ true → (route : Route) × (start_route p r ≡ Some route)
some_started p r some = by (initial_route r p) some
  where
    by : (o : Option (Option ℕ)) → is_some o ≡ true → (route : Route) × (option_map (route_from r) o ≡ Some route)
    by None e = absurd cc
    by (Some c) e = (route_from r c, refl)

-- a group that originates a prefix of the class
record HasStart (e : Plan) : Type 0 where
  prefix : Prefix
  has : Contains e.class.prefixes prefix
  group : ℕ
  below : group < e.count
  route : Route
  started : initial (small e) group ≡ Some route

some_start : (e : Plan) → IsPlan e → HasStart e
some_start e plan =
    let o = origin_of e.network e.class plan.class in
    let u = in_get e.network.routers o.router o.router_in in
    let started = some_started o.prefix o.router o.originates in
    let of = plan.problem o.prefix o.has in
    let total = plan.groups.total in
    let inside : u.0 < length e.problem.numbers =
    (let within = slice_get_within e.network.routers u.0 o.router u.1 in let count = ap (λ (ns : List ℕ). length ns) of.numbers
    ∙ length-map e.network.routers as_number_of in omega arith) in
    let g = slice_index e.groups u.0 in
    let below : g < e.count = plan.numbered.below u.0 0 (omega arith) in
    let f = first_of e plan g below in
    let start : initial e.problem u.0 ≡ Some started.0 = ap (λ (os : List (Option Route)). slice_index_or os u.0 None) of.init
    ∙ start_at o.prefix e.network.routers u.0 o.router u.1 ∙ started.1 in
    let alike = plan.groups.origins (first_member e.groups g) u.0 (let first_in = f.inside in omega arith) inside f.group in
    record { prefix = o.prefix; has = o.has; group = g; below = below; route = started.0; started = small_start e g below ∙ alike ∙ start }

outside : (o : Option OspfProcess) (a : Option Address) → o ≡ None → option_map_or (process_has_address o) a false ≡ false
outside o None none = refl
outside o (Some a) none = ap (λ (x : Option OspfProcess). process_has_address x a) none

none_found : {X : Type 0} (test : X → Bool) (xs : List X) → ((x : X) → test x ≡ false) → find test xs ≡ None
none_found test [] none = refl
none_found {X} test (x ∷ xs) none = ap (λ (b : Bool). cond b (Some x) (find test xs)) (none x) ∙ none_found test xs none

no_area_route : (r : Router) (p : Prefix) → r.ospf ≡ None → option_map cost_of_interface (area_interface_in r p) ≡ None
no_area_route r p none = ap (option_map cost_of_interface)
    (none_found (λ x. is_in_area_interface r x && is_up_in p x) r.interfaces (λ x. ap (λ (b : Bool). b && is_up_in p x) (outside r.ospf (up_address x) none)))

originator_numbered : QuotientIsProblem → GroupsHaveFewLinks → (e : Plan) → IsPlan e → e.problem.protocol ≡ OverBgp → (g : ℕ) (r : Route) →
    initial (small e) g ≡ Some r → number (small e) g ≢ 0
unfolding quotient_problem
originator_numbered law few e plan over = ((small_rules law few e plan).numbers over).originators

protocol : GroupsOriginate → QuotientIsProblem → GroupsHaveFewLinks → (e : Plan) → IsPlan e → (q : Protocol) → e.problem.protocol ≡ q →
    protocol_of (emitted e) ≡ Some q
protocol origins law few e plan OverBgp over =
    let s = some_start e plan in
    let r = emitted_router e s.group in
    let some : number (small e) s.group ≢ 0 = originator_numbered law few e plan over s.group s.route s.started in
    runs_bgp_alone (emitted e) r (process_of e s.group) (get_in (emitted e).routers s.group r (router_at e s.group s.below)) (runs_bgp e over s.group some)
    (without_ospf e over)
protocol origins law few e plan OverOspf over =
    by (emitted_router e (some_start e plan).group).ospf refl
  where
    by : (o : Option OspfProcess) → (emitted_router e (some_start e plan).group).ospf ≡ o → protocol_of (emitted e) ≡ Some OverOspf
    by (Some process) runs =
        let s = some_start e plan in
        let r = emitted_router e s.group in
        runs_ospf_alone (emitted e) r process (get_in (emitted e).routers s.group r (router_at e s.group s.below)) runs (without_bgp e over)
    by None none =
        let s = some_start e plan in
        let r = emitted_router e s.group in
        let route : initial_route r s.prefix ≡ None =
        ap (λ (o : Option BgpProcess). route_by_process r o s.prefix) (ap (λ (q : Protocol). written_bgp q e s.group) over)
        ∙ no_area_route r s.prefix none in
        let nothing : start_route s.prefix r ≡ None = ap (option_map (route_from r)) route in
        let something : start_route s.prefix r ≡ Some s.route = made_start origins e plan s.prefix s.has s.group s.below ∙ s.started in
        absurd (let clash = sym nothing ∙ something in cc)

-- ---- the problem

stands_over : GroupsOriginate → (law : QuotientIsProblem) → (few : GroupsHaveFewLinks) → QuotientCarries → SessionsImportActs → (e : Plan) → IsPlan e →
    HasLinks e → (q : Protocol) → e.problem.protocol ≡ q → (p : Prefix) → Contains e.class.prefixes p
    → (edge : Edge) → Contains (small e).edges edge → (d : Direction) × StandsFor (small e) (emitted e) p edge d
stands_over origins law few carries imports e plan links OverOspf over p p_in edge has = ospf_stand e plan carries over links p edge has
stands_over origins law few carries imports e plan links OverBgp over p p_in edge has =
    bgp_stand e plan carries imports over links (small_rules law few e plan) p p_in (origins e plan p p_in) edge has

all_over : GroupsOriginate → (law : QuotientIsProblem) → (few : GroupsHaveFewLinks) → QuotientCarries → SessionsImportActs → (e : Plan) → IsPlan e →
    HasLinks e → (q : Protocol) → e.problem.protocol ≡ q → (p : Prefix) → Contains e.class.prefixes p
    → (d : Direction) → IsDirection (emitted e) d → IsEdgeDirection q (emitted e) p d → (edge : Edge) × Contains (small e).edges edge
    × StandsFor (small e) (emitted e) p edge d
all_over origins law few carries imports e plan links OverOspf over p p_in d is edge = ospf_all e plan carries over links p d is
all_over origins law few carries imports e plan links OverBgp over p p_in d is edge =
    bgp_all e plan carries imports over links (small_rules law few e plan) p p_in (origins e plan p p_in) d is edge

pub emitted_has_problem : QuotientIsProblem → GroupsHaveFewLinks → GroupsOriginate → QuotientCarries → SessionsImportActs → EmittedLinks → EmittedHasProblem
unfolding quotient_problem
emitted_has_problem law few origins carries imports links_law e plan faultless p p_in =
    let links = links_law e plan faultless in
    record {
      rules = small_rules law few e plan;
      protocol = protocol origins law few e plan e.problem.protocol refl;
      names = names e;
      numbers = numbers e plan;
      init = sym (origins e plan p p_in);
      edges_stand = stands_over origins law few carries imports e plan links e.problem.protocol refl p p_in;
      edges_all = all_over origins law few carries imports e plan links e.problem.protocol refl p p_in;
    }
