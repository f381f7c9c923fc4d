use Rattle.std.proofs.Common.{◌≡◌, ◌++◌, drop, map}
use Rattle.cfg_ast.specs.declared.network.Router.{Router}
use Rattle.ask_words.specs.NameLists.{is_among}
use Rattle.ask_names.proofs.chosen.placed_marks.Given as goal

abbrev pub invariant-loop-router : goal.invariant-loop-router
invariant-loop-router l =
    l.marks.items ++ map (λ (router : Router). is_among l.names router.name) (drop l.router-index l.routers)
    ≡ map (λ (router : Router). is_among l.names router.name) l.routers
