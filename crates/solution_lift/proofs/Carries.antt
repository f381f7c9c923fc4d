-- The two halves of folding and lifting, over BGP and over OSPF, put together.
use Rattle.std.proofs.Common.{◌≡◌, ℕ, ◌<◌, List, Option, None, Result, Ok, Err, IfOk, refl, sym, ◌∙◌, ap, arith, inl, inr, ext_get_or}
use Rattle.std.proofs.lemmas.Bool.{cases_lt}
use Rattle.base_kit.specs.declared.protocol.Protocol.{Protocol}
use Rattle.base_kit.specs.declared.protocol.Protocol.TheVariants.{Bgp as OverBgp, Ospf as OverOspf}
use Rattle.base_kit.specs.Partition.{IsNumbered}
use Rattle.srp_core.specs.declared.route.Route.{Route}
use Rattle.srp_core.specs.Lifts.{IsFold, IsLift}
use Rattle.srp_core.specs.Problem.{Problem, count as count_of}
use Rattle.srp_core.specs.Quotient.{group_of, IsAdmissible, IsQuotient, Corresponds}
use Rattle.srp_core.specs.Stability.{label, IsStable, HaveSameKeys}
use Rattle.srp_quotient.specs.Groups.{first_member}
use Rattle.solution_lift.specs.Carried.{IsFolding, IsLifting}
use Rattle.solution_lift.proofs.FoldLoop.{first_is}
use Rattle.solution_lift.proofs.Small.{one_cost}

-- what holds of a value holds of it where more does
pub ok_as : {X E : Type 0} (A B : X → Type 0) (r : Result X E) → ((x : X) → A x → B x) → IfOk r A → IfOk r B
ok_as A B (Ok x) more is = more x is
ok_as A B (Err e) more is = tt

-- the quotient has a router for each group
pub quotient_size : (S Q : Problem) (groups : List ℕ) (count : ℕ) → IsAdmissible S groups → IsQuotient S groups Q → IsNumbered groups count → count_of Q ≡ count
quotient_size S Q groups count adm q numbered = elim (cases_lt (count_of Q) count) [
  | inl less ↦ absurd (
      let f = first_is groups (count_of Q) (numbered.used (count_of Q) less) in
      let total = adm.total in
      let inside = f.inside in
      let there = f.there in
      let below = q.inside (first_member groups (count_of Q)) (omega arith) in
      omega arith)
  | inr not_less ↦ elim (cases_lt count (count_of Q)) [
    | inl more ↦ absurd (
        let u = q.onto count more in
        let total = adm.total in
        let inside = u.1 in
        let there = u.2 in
        let below = numbered.below u.0 0 (omega arith) in
        omega arith)
    | inr not_more ↦ omega arith
  ]
]

apart : (q : Protocol) → q ≡ OverBgp → q ≡ OverOspf → ⊥
apart q bgp ospf = let one : OverBgp ≡ OverOspf = sym bgp ∙ ospf in cc

pub folding_of_routes : (S Q : Problem) (groups : List ℕ) (labels lower : List (Option Route)) → S.protocol ≡ OverBgp → IsStable Q lower →
    Corresponds S Q groups labels lower → IsFold S Q groups labels lower → IsFolding S Q groups labels lower
folding_of_routes S Q groups labels lower bgp stable corresponds is =
    record { stable = stable; corresponds = corresponds; routes = λ over. is; costs = λ ospf u h. absurd (apart S.protocol bgp ospf) }

pub lifting_of_routes : (S Q : Problem) (groups : List ℕ) (lower labels : List (Option Route)) → S.protocol ≡ OverBgp → IsStable S labels →
    Corresponds S Q groups labels lower → IsLift S Q groups lower labels → IsLifting S Q groups lower labels
lifting_of_routes S Q groups lower labels bgp stable corresponds is =
    record { stable = stable; corresponds = corresponds; routes = λ over. is; costs = λ ospf u h. absurd (apart S.protocol bgp ospf) }

pub folding_of_costs : (S Q : Problem) (groups : List ℕ) (labels lower : List (Option Route)) → S.protocol ≡ OverOspf → IsStable Q lower →
    Corresponds S Q groups labels lower → ((u : ℕ) → u < count_of S → label lower (group_of groups u) ≡ label labels u) → IsFolding S Q groups labels lower
folding_of_costs S Q groups labels lower ospf stable corresponds costs =
    record { stable = stable; corresponds = corresponds; routes = λ bgp. absurd (apart S.protocol bgp ospf); costs = λ over. costs }

pub lifting_of_costs : (S Q : Problem) (groups : List ℕ) (lower labels : List (Option Route)) → S.protocol ≡ OverOspf → IsStable S labels →
    Corresponds S Q groups labels lower → ((u : ℕ) → u < count_of S → label labels u ≡ label lower (group_of groups u)) → IsLifting S Q groups lower labels
lifting_of_costs S Q groups lower labels ospf stable corresponds costs =
    record { stable = stable; corresponds = corresponds; routes = λ bgp. absurd (apart S.protocol bgp ospf); costs = λ over. costs }

-- the costs of first members are those of all members
pub member_costs : (S Q : Problem) (groups : List ℕ) (count : ℕ) (labels lower : List (Option Route)) → IsAdmissible S groups → IsNumbered groups count →
    S.protocol ≡ OverOspf → IsStable S labels
    → ((u v : ℕ) → u < count_of S → v < count_of S → group_of groups u ≡ group_of groups v → HaveSameKeys S S (label labels u) (label labels v))
    → ((g : ℕ) → g < count → label lower g ≡ label labels (first_member groups g)) → (u : ℕ) → u < count_of S → label lower (group_of groups u) ≡ label labels u
member_costs S Q groups count labels lower adm numbered ospf stable even costs u h =
    let total = adm.total in
    let below = numbered.below u 0 (omega arith) in
    let f = first_is groups (group_of groups u) (numbered.used (group_of groups u) below) in
    let inside = f.inside in
    let first = first_member groups (group_of groups u) in
    let k = even first u (omega arith) h f.there in
    costs (group_of groups u) below
    ∙ one_cost S (label labels first) (label labels u) ospf (λ r e. stable.fitting.routes first r e) (λ r e. stable.fitting.routes u r e) k

-- ---- one list of labels

by_protocol : {X : Type 0} (q : Protocol) → (q ≡ OverBgp → X) → (q ≡ OverOspf → X) → X
by_protocol OverBgp bgp ospf = bgp refl
by_protocol OverOspf bgp ospf = ospf refl

pub one_folding : (S Q : Problem) (groups : List ℕ) (labels first second : List (Option Route)) → IsQuotient S groups Q
    → (S.protocol ≡ OverBgp → IsFold S Q groups labels first → IsFold S Q groups labels second → first ≡ second)
    → IsFolding S Q groups labels first → IsFolding S Q groups labels second → first ≡ second
one_folding S Q groups labels first second q determined a b =
    by_protocol S.protocol (λ bgp. determined bgp (a.routes bgp) (b.routes bgp)) (λ ospf. same ospf)
  where
    same : S.protocol ≡ OverOspf → first ≡ second
    same ospf =
        let m = a.stable.fitting.total in
        let n = b.stable.fitting.total in
        ext_get_or None first second (m ∙ sym n) (λ g h. (
        let u = q.onto g (omega arith) in
        ap (label first) (sym u.2) ∙ a.costs ospf u.0 u.1 ∙ sym (b.costs ospf u.0 u.1) ∙ ap (label second) u.2))

pub one_lifting : (S Q : Problem) (groups : List ℕ) (lower first second : List (Option Route))
    → (S.protocol ≡ OverBgp → IsLift S Q groups lower first → IsLift S Q groups lower second → first ≡ second)
    → IsLifting S Q groups lower first → IsLifting S Q groups lower second → first ≡ second
one_lifting S Q groups lower first second determined a b =
    by_protocol S.protocol (λ bgp. determined bgp (a.routes bgp) (b.routes bgp)) (λ ospf. same ospf)
  where
    same : S.protocol ≡ OverOspf → first ≡ second
    same ospf =
        let m = a.stable.fitting.total in
        let n = b.stable.fitting.total in
        ext_get_or None first second (m ∙ sym n) (λ u h. a.costs ospf u (omega arith) ∙ sym (b.costs ospf u (omega arith)))
