use Rattle.std.proofs.Common.{◌≡◌, ◌++◌, map, drop, string_bytes}
use Rattle.printed_words.specs.Spaced.{spaced_words}
use Rattle.solution_answers.specs.RouterNames.{name_at}
use Rattle.solution_answers.proofs.hops.put_names.Given as goal

abbrev pub invariant-loop-router : goal.invariant-loop-router
invariant-loop-router l = (string_bytes l.text ++ spaced_words (map (name_at l.srp.names) (drop l.router-index l.routers))
    ≡ string_bytes l.initial.text ++ spaced_words (map (name_at l.srp.names) l.routers))
