-- The acts that links carry: each is that of an edge between members of the groups at its ends. Public: the crates
-- above that speak of the network of the groups use these lemmas too.
use Rattle.std.proofs.Common.{◌≡◌, ℕ, zero, suc, Bool, true, false, cond, ◌&&◌, List, [], ◌∷◌, inl, inr, Option, Some, None, refl, sym, ◌∙◌, ap, subst, arith, nat_eq, find}
use Rattle.std.specs.Prelude.{Contains, IfSome, filter, filter_map, is_some, slice_get, slice_index, slice_index_or}
use Rattle.std.specs.Option.{option_map, option_and_then}
use Rattle.std.specs.List.{AllByRecursion}
use Rattle.std.proofs.lemmas.Bool.Decides.{nat_tests}
use Rattle.base_kit.specs.declared.act_graph.Edge.{Edge}
use Rattle.base_kit.specs.declared.protocol.Protocol.{Protocol}
use Rattle.base_kit.specs.declared.protocol.Protocol.TheVariants.{Bgp as OverBgp, Ospf as OverOspf}
use Rattle.base_kit.proofs.Elements.{In, contains_in, filter_in, filter_map_in, get_in}
use Rattle.cfg_ast.specs.declared.interface.Interface.{Interface}
use Rattle.cfg_ast.specs.meaning.Topology.{default_costs, is_row_of, default_cost_of, type_of, cost_of_interface}
use Rattle.cfg_ast.specs.printing.WellFormed.{IsBetween, IsWellFormedInterface}
use Rattle.abstract_net.specs.Carried.{IsJoined, side_of, act_at}
use Rattle.abstract_net.specs.Links.{QuotientCarries}
use Rattle.abstract_net.specs.declared.qlink.QLink.{QLink}
use Rattle.srp_core.specs.declared.route.Act.{Act}
use Rattle.srp_core.specs.declared.route.Act.TheVariants.{Import, Cost}
use Rattle.srp_core.specs.Problem.{act_of}
use Rattle.srp_core.specs.ProblemOf.{Direction, MeansCost, MeansLink}
use Rattle.srp_quotient.specs.Groups.{same_group_pair, or_else, last_of, last_into, edge_into}
use Rattle.srp_core.specs.ActMaps.{IsPrintableAct}
use Rattle.config_emit.specs.Laws.{IsPlan}
use Rattle.config_emit.specs.Interfaces.{cost_by}
use Rattle.config_emit.specs.Plan.{Plan, act_of_place, act_into}
use Rattle.emit_form_laws.proofs.Groups.{problem_of, carries, IsEnd}
use Rattle.emit_form_laws.proofs.Origins.{map_some, some_holds, interface_forms}

-- ---- the edge of a link

-- a link between the same groups carries the edge into g
record IsCarriedBy (links : List QLink) (g : ℕ) (l : QLink) (k : ℕ) : Type 0 where
  link : QLink
  link_in : In links link
  low : link.low ≡ l.low
  high : link.high ≡ l.high
  side : side_of g link ≡ Some k

last_in : (ks : List ℕ) (k : ℕ) → last_of ks ≡ Some k → In ks k
last_in [] k e = absurd cc
last_in (x ∷ xs) k e = step (last_of xs) refl e (last_in xs k)
  where
    step : (o : Option ℕ) → last_of xs ≡ o → or_else o (Some x) ≡ Some k → (last_of xs ≡ Some k → In xs k) → In (x ∷ xs) k
    step None is e ih = inl cc
    step (Some y) is e ih = inr (ih (is ∙ e))

and_parts : (a b : Bool) → (a && b) ≡ true → (a ≡ true) × (b ≡ true)
and_parts true b e = (refl, e)
and_parts false b e = absurd cc

one_number : (m n : ℕ) → nat_eq m n ≡ true → m ≡ n
one_number m n e = grind (arith, nat_tests)

carried_by : (q : Protocol) (links : List QLink) (g : ℕ) (l : QLink) (k : ℕ) → In links l → edge_into q links g l ≡ Some k → IsCarriedBy links g l k
unfolding edge_into
carried_by OverBgp links g l k at e = record { link = l; link_in = at; low = refl; high = refl; side = e }
carried_by OverOspf links g l k at e = step (side_of g l) refl e
  where
    step : (o : Option ℕ) → side_of g l ≡ o → or_else o (last_into links g l) ≡ Some k → IsCarriedBy links g l k
    step (Some j) is e = record { link = l; link_in = at; low = refl; high = refl; side = is ∙ e }
    step None is e =
        let m = filter_map_in (side_of g) (filter (same_group_pair l) links) k (last_in (filter_map (side_of g) (filter (same_group_pair l) links)) k e) in
        let f = filter_in (same_group_pair l) links m.0 m.1 in
        let same = and_parts (nat_eq l.low m.0.low) (nat_eq l.high m.0.high) f.1 in
        record { link = m.0; link_in = f.0; low = sym (one_number l.low m.0.low same.0); high = sym (one_number l.high m.0.high same.1); side = m.2 }

-- the act is that of an edge of a member of g from a member of h
pub record IsActBetween (e : Plan) (g h : ℕ) (act : Act) : Type 0 where
  pub edge : Edge
  pub has : Contains e.problem.edges edge
  pub does : act_of e.problem edge ≡ act
  pub importer : slice_index e.groups edge.importer ≡ g
  pub exporter : slice_index e.groups edge.exporter ≡ h

pub act_between : (e : Plan) → IsPlan e → QuotientCarries → (g h : ℕ) (l : QLink) → In e.links l → IsEnd e g l h → (act : Act) → act_into e g l ≡ Some act →
    IsActBetween e g h act
act_between e plan law g h l at end act is =
    let place = map_some (act_of_place e) (edge_into e.problem.protocol e.links g l) act is in
    let by = carried_by e.problem.protocol e.links g l place.0 at place.1 in
    let joined : IsJoined by.link g h = elim end.joined [ inl low ↦ inl (by.low ∙ low.0, by.high ∙ low.1) | inr high ↦ inr (by.high ∙ high.0, by.low ∙ high.1) ]
    in
    let b = ((carries e plan law).real by.link g h place.0 (contains_in e.links by.link by.link_in) joined by.side).between in
    record {
      edge = b.edge;
      has = b.has;
      does = ap (λ k. slice_index_or e.problem.acts k (Cost 0)) b.does ∙ place.2;
      importer = b.importer;
      exporter =
          b.exporter;
    }

-- ---- acts can be printed

pub at_or : {X : Type 0} (P : X → Type 0) (xs : List X) (k : ℕ) (d : X) → P d → AllByRecursion P xs → P (slice_index_or xs k d)
at_or P [] k d is all = is
at_or P (x ∷ xs) zero d is all = all.0
at_or P (x ∷ xs) (suc k) d is all = at_or P xs k d is all.1

-- what holds of all acts of the problem, and of the cost 0, holds of what a link carries
pub act_holds : (P : Act → Type 0) (e : Plan) → P (Cost 0) → AllByRecursion P e.problem.acts → (g : ℕ) (l : QLink) → IfSome (act_into e g l) P
act_holds P e none all g l = step (edge_into e.problem.protocol e.links g l)
  where
    step : (o : Option ℕ) → IfSome (option_map (act_of_place e) o) P
    step None = tt
    step (Some k) = at_or P e.problem.acts (act_at e.problem.edges k) (Cost 0) none all

pub act_prints : (e : Plan) → IsPlan e → (g : ℕ) (l : QLink) → IfSome (act_into e g l) IsPrintableAct
act_prints e plan g l = act_holds IsPrintableAct e tt plan.printable g l

-- ---- costs

abbrev pub IsCost : ℕ → Type 0
IsCost cost = IsBetween 1 65535 cost

found_holds : {X : Type 0} (P : X → Type 0) (test : X → Bool) (items : List X) → AllByRecursion P items → IfSome (find test items) P
found_holds P test [] all = tt
found_holds P test (item ∷ items) all = step (test item) (found_holds P test items all.1) where
  step : (b : Bool) → IfSome (find test items) P → IfSome (cond b (Some item) (find test items)) P
  step true rest = all.0
  step false rest = rest

rows_are_costs : AllByRecursion (λ (row : List ℕ × ℕ). IsCost row.1) default_costs
unfolding default_costs
rows_are_costs = (
  (omega arith, omega arith),
  (
    (omega arith, omega arith),
    (
      (omega arith, omega arith),
      ((omega arith, omega arith), ((omega arith, omega arith), ((omega arith, omega arith), ((omega arith, omega arith), tt)))),
    ),
  ),
)

default_is_cost : (name : List ℕ) → IfSome (default_cost_of name) IsCost
default_is_cost name = step (find (is_row_of name) default_costs)
    (found_holds (λ (row : List ℕ × ℕ). IsCost row.1) (is_row_of name) default_costs rows_are_costs)
  where
    step : (o : Option (List ℕ × ℕ)) → IfSome o (λ (row : List ℕ × ℕ). IsCost row.1) → IfSome (option_map (λ (row : List ℕ × ℕ). row.1) o) IsCost
    step None is = tt
    step (Some row) is = is

pub cost_form : (x : Interface) → IsWellFormedInterface x → IfSome (cost_of_interface x) IsCost
cost_form x form = step x.cost form.cost
  where
    step : (o : Option ℕ) → IfSome o IsCost → IfSome (cond (is_some o) o (default_cost_of (type_of x))) IsCost
    step None is = default_is_cost (type_of x)
    step (Some cost) is = is

act_cost : (e : Plan) → IsPlan e → (g h cost : ℕ) → IsActBetween e g h (Cost cost) → IsCost cost
act_cost e plan g h cost b =
    let p = problem_of e plan in
    let stood = p.of.edges_stand b.edge b.has in
    let means : MeansLink e.network p.prefix stood.0 (Cost cost) = subst (MeansLink e.network p.prefix stood.0) b.does stood.1.means in
    step means (slice_get means.importer.interfaces stood.0.importer_item) refl means.same
  where
    step : {d : Direction} (means : MeansCost e.network d cost) (o : Option Interface) → slice_get means.importer.interfaces d.importer_item ≡ o →
        option_and_then cost_of_interface o ≡ Some cost → IsCost cost
    step means None at is = absurd cc
    step {d} means (Some x) at is =
        some_holds IsCost (cost_of_interface x) cost
        (cost_form x (interface_forms e.network plan.well_formed means.importer (get_in e.network.routers d.importer means.importer means.importer_at) x
        (get_in means.importer.interfaces d.importer_item x at))) is

-- the cost that a link has into g
pub link_cost : (e : Plan) → IsPlan e → QuotientCarries → (g h : ℕ) (l : QLink) → In e.links l → IsEnd e g l h →
    IfSome (option_and_then cost_by (act_into e g l)) IsCost
link_cost e plan law g h l at end = step (act_into e g l) refl
  where
    step : (o : Option Act) → act_into e g l ≡ o → IfSome (option_and_then cost_by o) IsCost
    step None is = tt
    step (Some (Import out sends into)) is = tt
    step (Some (Cost cost)) is = act_cost e plan g h cost (act_between e plan law g h l at end (Cost cost) is)
