-- A network that some text gives is well formed. Public: crates above may cite it.
use Rattle.std.proofs.Common.{◌≡◌, ℕ, ◌≤◌, List, Option, Some, None, Result, Ok, Err, refl, arith}
use Rattle.std.specs.Prelude.{IfOk, IfSome, is_some, if◌then◌else◌}
use Rattle.std.specs.Option.{option_map}
use Rattle.std.specs.List.{AllByRecursion, find}
use Rattle.std.proofs.lemmas.List.Elements.{All-contains, All-from_recursion}
use Rattle.std.proofs.lemmas.Result.{IfOk-at_ok}
use Rattle.cfg_ast.specs.declared.line.Line.{Line}
use Rattle.cfg_ast.specs.declared.refusal.ReadRefusal.{ReadRefusal}
use Rattle.cfg_ast.specs.text.TextLines.{TextLine}
use Rattle.cfg_ast.specs.text.Lines.{lines_of}
use Rattle.cfg_ast.specs.text.Steps.{◌>>=◌}
use Rattle.cfg_ast.specs.declared.network.Network.{Network}
use Rattle.cfg_ast.specs.text.Reading.{at_start, steps, ending, network_of_lines, texts_of, network_of_text, IsGiven}
use Rattle.cfg_ast.specs.meaning.Topology.{default_costs, is_row_of, default_cost_of, type_of}
use Rattle.cfg_ast.specs.printing.WellFormed.{IsBetween, IsWellFormedInterface, IsWellFormedRouter, IsWellFormed}
use Rattle.given_laws.specs.Laws.{GivenIsWellFormed, GivenRoutersAreWellFormed, GivenCostsArePositive}
use Rattle.given_laws.proofs.Each.{all_find}
use Rattle.given_laws.proofs.Given.{IsAny, any_result, then_step}
use Rattle.given_laws.proofs.DraftSteps.{IsState, start_is, IsLineOfWords, all_steps}
use Rattle.std.proofs.Math.Logic.{∥∥₁_elim}
use Rattle.given_laws.proofs.Propositions.{IsWellFormed-prop}
use Rattle.given_laws.proofs.TextWords.{lines_words}

of_lines : (ls : List TextLine) → AllByRecursion IsLineOfWords ls → IfOk (network_of_lines ls) IsWellFormed
unfolding network_of_lines
of_lines ls are = then_step IsState IsWellFormed (steps at_start ls) _ (all_steps ls at_start are start_is)
    (λ s is. then_step IsAny IsWellFormed (ending ls) _ (any_result (ending ls)) (λ x any. record { routers = is.routers }))

of_result : (bs : List ℕ) (r : Result (List Line) ReadRefusal) → lines_of bs ≡ r →
    IfOk (r >>= (λ (ls : List Line). network_of_lines (texts_of bs ls))) IsWellFormed
of_result bs (Err fault) e = tt
of_result bs (Ok ls) e = of_lines (texts_of bs ls) (lines_words bs ls e)

of_text : (network : Network) → IsGiven network → IsWellFormed network
unfolding network_of_text
of_text network (bs, e) = IfOk-at_ok IsWellFormed e (of_result bs (lines_of bs) refl)

pub given_is_well_formed : GivenIsWellFormed
given_is_well_formed network known = ∥∥₁_elim known (IsWellFormed-prop network) (λ given. of_text network given)

-- ---- what follows

pub given_routers_are_well_formed : GivenRoutersAreWellFormed
given_routers_are_well_formed network is r in_network =
    All-contains IsWellFormedRouter network.routers r (All-from_recursion IsWellFormedRouter network.routers (given_is_well_formed network is).routers)
    in_network

abbrev IsPositive : ℕ → Type 0
IsPositive cost = 1 ≤ cost

defaults_positive : AllByRecursion (λ (row : List ℕ × ℕ). 1 ≤ row.1) default_costs
unfolding default_costs
defaults_positive = (omega arith, (omega arith, (omega arith, (omega arith, (omega arith, (omega arith, (omega arith, tt)))))))

cost_of_row : (o : Option (List ℕ × ℕ)) → IfSome o (λ row. 1 ≤ row.1) → IfSome (option_map (λ (row : List ℕ × ℕ). row.1) o) IsPositive
cost_of_row None is = tt
cost_of_row (Some row) is = is

cost_case : (cost default : Option ℕ) → IfSome cost (IsBetween 1 65535) → IfSome default IsPositive → IfSome (if is_some cost then cost else default) IsPositive
cost_case (Some c) default is other = is.0
cost_case None default is other = other

pub given_costs_are_positive : GivenCostsArePositive
given_costs_are_positive network is r in_network x in_router =
    let whole = given_routers_are_well_formed network is r in_network in
    let formed = All-contains IsWellFormedInterface r.interfaces x (All-from_recursion IsWellFormedInterface r.interfaces whole.interfaces) in_router in
    cost_case x.cost (default_cost_of (type_of x)) formed.cost
    (cost_of_row (find (is_row_of (type_of x)) default_costs)
    (all_find (λ (row : List ℕ × ℕ). 1 ≤ row.1) (is_row_of (type_of x)) default_costs defaults_positive))
