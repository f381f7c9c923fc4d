use Rattle.std.proofs.Common.{rules, ◌<◌}
use Rattle.std.proofs.lemmas.List.Elements.{All-contains}
use Rattle.std.proofs.lemmas.List.Sorted.{IsNonDecreasingBy-from_sort_by_key, answers_always}
use Rattle.base_kit.specs.declared.act_graph.Edge.{Edge}
use Rattle.base_kit.proofs.Elements.{contains_in}
use Rattle.by_key.proofs.SortedByKey.{sorted_is}
use Rattle.srp_quotient.specs.Groups.{importer_of}
use Rattle.solution_lift.proofs.edges.sort_by_importer.Goals as goal

pub returns : goal.returns
returns c = λ n all. sorted_is importer_of c.args.edges.now.items c.sort_by_key.new.self.items n
    (IsNonDecreasingBy-from_sort_by_key importer_of _ c.in_ok-sort_by_key.ensures.sorted (λ a r q k. search rules))
    (c.in_ok-sort_by_key.ensures.stable importer_of (answers_always _ _ _ (λ f a r q k. search rules)))
    (λ x at. All-contains (λ (y : Edge). y.importer < n) c.args.edges.now.items x all (contains_in c.args.edges.now.items x at))
