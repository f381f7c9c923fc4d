use Rattle.std.proofs.Common.{◌≡◌, [], sym, ◌∙◌, subst, refl}
use Rattle.srp_core.specs.Problem.{Problem, is_lone_number}
use Rattle.srp_core.specs.Routes.{chosen, path_of}
use Rattle.solution_search.proofs.NoLone.{no_lone_chosen}
use Rattle.solution_search.proofs.offers.lone_of.Goals as goal

pub returns-then-is_empty : goal.returns-then-is_empty
returns-then-is_empty c = c.new.ensures ∙ sym (subst (λ (p : Problem). chosen (is_lone_number p) (path_of c.args.route.now) ≡ []) c.lookups.view_is
    (no_lone_chosen c.lookups.inside.srp.now c.lookups.inside.lone c.lookups.invariant.0 (c.if-is_empty.ensures.0 refl) (path_of c.args.route.now)))
