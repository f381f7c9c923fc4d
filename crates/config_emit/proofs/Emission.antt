-- What is written of a plan is what `emit` answers.
use Rattle.std.proofs.Common.{◌≡◌, ℕ, ◌≤◌, List, None, length, sym, subst, arith}
use Rattle.std.specs.Prelude.{All, Contains}
use Rattle.base_kit.specs.Prefixes.{Prefix}
use Rattle.base_kit.specs.Partition.{IsNumbered}
use Rattle.cfg_ast.specs.declared.classes.DestClass.{DestClass}
use Rattle.cfg_ast.specs.declared.network.Network.{Network}
use Rattle.cfg_ast.specs.declared.network.Notes.{Notes}
use Rattle.cfg_ast.specs.meaning.Classes.{classes_of}
use Rattle.cfg_ast.specs.printing.WellFormed.{IsWellFormed}
use Rattle.cfg_check.specs.Faultless.{IsFaultless}
use Rattle.abstract_net.specs.Carried.{IsBelow}
use Rattle.abstract_net.specs.Links.{NoMoreLinks, quotient_links}
use Rattle.abstract_net.specs.declared.qlink.QLink.{QLink}
use Rattle.net_topology.specs.Laws.{FewLinks}
use Rattle.srp_core.specs.Problem.{Problem}
use Rattle.srp_core.specs.ProblemOf.{IsProblemOf}
use Rattle.config_emit.specs.Answers.{IsEmitted}
use Rattle.config_emit.specs.Emitted.{emitted, notes_of}
use Rattle.config_emit.specs.Plan.{Plan}
use Rattle.config_emit.specs.Pool.{pool_line}
use Rattle.config_emit.specs.Sources.{IsSound}
use Rattle.config_emit.specs.declared.emitted.Emitted.{Emitted}
use Rattle.config_emit.proofs.FewLinks.{has_prefix, no_more_links}
use Rattle.config_emit.proofs.JoinedGroups.{quotient_joins}
use Rattle.config_emit.proofs.Members.{one_count}

abbrev pub plan : DestClass → Problem → List ℕ → Network → ℕ → List QLink → Plan
plan class problem groups network count links = record { network = network; class = class; problem = problem; groups = groups; count = count; links = links }

pub sound : (class : DestClass) (problem : Problem) (groups : List ℕ) (network lent : Network) (count : ℕ) (links : List QLink)
    → lent ≡ network → IsNumbered groups count → ((p : Prefix) → Contains class.prefixes p → IsProblemOf network p problem)
    → length links ≤ 1048576 → links ≡ quotient_links problem.edges groups count → IsSound (plan class problem groups lent count links)
sound class problem groups network lent count links same numbered of few are = record {
  numbered = numbered;
  problem = λ p has. subst (λ n. IsProblemOf n p problem) (sym same) (of p has);
  few = few;
  ends = subst (All (IsBelow count)) (sym are) (quotient_joins problem.edges groups count);
}

-- the links of the groups of a class are few
pub few_between : NoMoreLinks → FewLinks → (class : DestClass) (problem : Problem) (groups : List ℕ) (network : Network) (count : ℕ) (links : List QLink)
    → IsWellFormed network → IsFaultless network → Contains (classes_of network) class
    → ((p : Prefix) → Contains class.prefixes p → IsProblemOf network p problem) → links ≡ quotient_links problem.edges groups count → length links ≤ 1048576
few_between no_more few class problem groups network count links formed faultless has of are =
    let (p, in_class) = has_prefix network class has in
    let less = no_more_links no_more (plan class problem groups network count links) p (of p in_class) are in
    let most = few network formed faultless in
    omega arith

pub emission : (class : DestClass) (problem : Problem) (groups : List ℕ) (network lent : Network) (count other : ℕ) (links lent_links : List QLink)
    (written : Network) (notes : Notes) → lent ≡ network → lent_links ≡ links → IsNumbered groups count → IsNumbered groups other
    → pool_line lent class ≡ None → written ≡ emitted (plan class problem groups lent count lent_links)
    → notes ≡ notes_of (plan class problem groups lent count lent_links)
    → IsEmitted (record { network = written; notes = notes }) (plan class problem groups network other links)
emission class problem groups network lent count other links lent_links written notes same same_links numbered numbered_too apart writes noted =
    let count_is = one_count groups count other numbered numbered_too in
    let x : Emitted = record { network = written; notes = notes } in
    let here : IsEmitted x (plan class problem groups lent count lent_links) = record { apart = apart; network = writes; notes = noted } in
    subst (λ ls. IsEmitted x (plan class problem groups network other ls)) same_links
    (subst (λ k. IsEmitted x (plan class problem groups network k lent_links)) count_is
    (subst (λ n. IsEmitted x (plan class problem groups n count lent_links)) same here))
