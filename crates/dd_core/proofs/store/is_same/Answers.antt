use Rattle.std.proofs.Common.{◌≡◌, arith, ap, ℕ}
use Rattle.std.proofs.lemmas.Bool.Decides.{nat_tests}
use Rattle.dd_core.specs.Sets.{value_of}
use Rattle.dd_core.proofs.DifferLemmas.{differ_on_set, same_place_on_sets}
use Rattle.dd_core.proofs.store.is_same.Goals as goal

pub returns-clause-same : goal.returns-clause-same
returns-clause-same c = λ is set. let e : c.args.a ≡ c.args.b = grind (arith, nat_tests) in ap (λ (i : ℕ). value_of c.args.store.now set i) e

pub returns-clause-different : goal.returns-clause-different
returns-clause-different c = λ agree.
    let same = same_place_on_sets _ c.len-known.ensures.shown _ _ c.requires.a_inside c.requires.b_inside agree in
    grind (arith, nat_tests)

pub returns-clause-differ : goal.returns-clause-differ
returns-clause-differ c = λ no.
    differ_on_set _ c.len-known.ensures.shown _ _ c.requires.a_inside c.requires.b_inside (grind (arith, nat_tests))
