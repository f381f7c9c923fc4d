use Rattle.std.proofs.Common.{ℕ, ◌<◌, [], length, get_or, take, None, ◌∙◌, refl, arith}
use Rattle.std.specs.Prelude.{slice_index}
use Rattle.std.proofs.lemmas.List.{take_all}
use Rattle.std.proofs.lemmas.List.Elements.{All-take}
use Rattle.refine_partition.proofs.RenumberLemmas.{few_numbers, renumbered_none, renumbered_next, renumbered_all}
use Rattle.refine_partition.proofs.renumbering.renumbered.Goals as goal

pub overflow_cast-before : goal.overflow_cast-before
overflow_cast-before c =
    let given = c.requires.given in
    let few = few_numbers _ _ (take 0 c.args.queue.now) _ _ c.args.numbers.now [] (λ class. None) given (λ k d inside. absurd (omega arith))
    (renumbered_none c.args.numbers.now c.args.classes.now c.args.queue.now _ (λ class. None) (λ class. refl) given.below) in
    let fits = c.requires.fits in
    omega arith

pub next_number-requires-clause-fits : goal.next_number-requires-clause-fits
next_number-requires-clause-fits c =
    let few = few_numbers _ _ _ _ _ _ _ _ c.requires.given (All-take (λ u. u < length c.args.numbers.now) c.loop-router.router-index c.args.queue.now
    c.requires.queue.below) c.loop-router.invariant.so_far in
    let fits = c.requires.fits in
    omega arith

pub loop-router-preserved : goal.loop-router-preserved
loop-router-preserved c =
    let given = c.requires.given in
    let here = c.loop-router-test.true in
    let router : ℕ = slice_index c.args.queue.now c.loop-router.router-index in
    let class : ℕ = slice_index c.args.classes.now router in
    let total = given.total in
    let size = c.loop-router.invariant.names in
    let named = c.in_ok-number.ensures.named in
    let inside : router < length c.args.numbers.now = c.requires.queue.below c.loop-router.router-index 0 here in
    record {
      names = named.size ∙ size;
      so_far = renumbered_next _ _ _ _ _ _ _ _ (λ x. get_or c.loop-router.names.items x None) _ _ given.below given.same c.requires.queue here
          c.loop-router.invariant.so_far c.in_ok-number.ensures.next named.named named.others;
    }

pub returns : goal.returns
returns c = rw (take_all c.loop-router.router-index c.args.queue.now c.loop-router-test.false) at (renumbered_all _ _ _ _ _ _ _ c.loop-router.invariant.so_far)
