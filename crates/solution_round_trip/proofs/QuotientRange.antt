-- If what a problem says is in range, then what the problem of its groups says is in range too.
use Rattle.std.proofs.Common.{◌≡◌, ℕ, ◌<◌, Bool, true, false, cond, ◌&&◌, not, List, [], ◌∷◌, length, refl, sym, ap, ◌∙◌, subst, arith}
use Rattle.std.specs.Prelude.{nat_eq}
use Rattle.std.specs.List.{AllByRecursion}
use Rattle.cfg_ast.specs.printing.WellFormed.{IsNumber}
use Rattle.srp_core.specs.Problem.{Problem, IsProblem, initial, act_of}
use Rattle.srp_core.specs.Quotient.{first_number, IsUsed, IsQuotient}
use Rattle.srp_core.proofs.Alike.{imports_alike}
use Rattle.srp_core.proofs.Offers.{label_in}
use Rattle.solution_round_trip.proofs.StableRange.{HasRange}

first_range : (numbers groups : List ℕ) (g : ℕ) → AllByRecursion IsNumber numbers → IsNumber (first_number numbers groups g)
unfolding first_number
first_range [] groups g each = omega arith
first_range (n ∷ numbers) [] g each = omega arith
first_range (n ∷ numbers) (group ∷ groups) g each = step (nat_eq group g && not (nat_eq n 0)) (first_range numbers groups g each.1)
  where
    step : (b : Bool) → IsNumber (first_number numbers groups g) → IsNumber (cond b n (first_number numbers groups g))
    step true more = each.0
    step false more = more

pub quotient_range : (P small : Problem) (groups : List ℕ) → AllByRecursion IsNumber P.numbers → HasRange P → IsProblem small → IsQuotient P groups small →
    HasRange small
quotient_range P small groups each range rules is = record {
  starts = λ g r e. (
      let inside : g < length small.init = label_in small.init g r e in
      let total = rules.tables.init in
      let member = is.onto g (omega (arith, inside, total)) in
      let same : initial small g ≡ initial P member.0 = ap (λ (h : ℕ). initial small h) (sym member.2) ∙ is.origins member.0 member.1 in
      range.starts member.0 r (sym same ∙ e)
      );
  exporters = λ lower lower_in. subst IsNumber
      (sym (is.numbers lower.exporter (rules.edges.inside lower lower_in).exporter_in (IsUsed.exports lower lower_in refl)))
      (first_range P.numbers groups lower.exporter each);
  imports = λ lower lower_in. (
      let below = is.down lower lower_in in
      λ comms ascending each i e. range.imports below.0 below.1 comms ascending each i
      (imports_alike (act_of P below.0) (act_of small lower) below.2.alike comms ascending ∙ e)
      );
}
