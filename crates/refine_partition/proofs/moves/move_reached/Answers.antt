use Rattle.std.proofs.Common.{◌≡◌, ℕ, ◌<◌, length, get_or, Contains, ◌∙◌, refl, sym, ap, arith}
use Rattle.std.specs.Prelude.{slice_index}
use Rattle.std.proofs.lemmas.List.{take_more, take_all, get_or_default}
use Rattle.std.proofs.lemmas.List.Elements.{All-take}
use Rattle.refine_partition.proofs.MoveLemmas.{moving_none, moving_used, used_few, moving_next, moved_all, piece_listed, piece_named, piece_size, piece_known}
use Rattle.refine_partition.proofs.moves.move_reached.Goals as goal

pub name_staying-requires-clause-used : goal.name_staying-requires-clause-used
name_staying-requires-clause-used c = rw c.deref.ensures.value c.requires.used

pub loop-router-init : goal.loop-router-init
loop-router-init c =
    let kept = c.in_ok-name_staying.ensures in
    let total = kept.total in
    let none = ap length c.clear.ensures.items in
    record {
      total = omega arith;
      listed = rw c.deref.ensures.value at kept.listed;
      moving = rw c.clear.ensures.items (moving_none _ _ _ c.args.reached.now _ _ (rw c.deref.ensures.value at kept.staying)
          (rw total c.requires.listed.below));
      last = tt;
    }

pub piece_after-requires-clause-few : goal.piece_after-requires-clause-few
piece_after-requires-clause-few c =
    let before = c.loop-router.invariant in
    let kept = c.in_ok-name_staying.ensures.total in
    let fits = c.requires.fits in
    let used = moving_used _ _ _ _ _ _ _ _ before.moving (rw kept c.requires.used)
    (All-take (λ u. Contains c.args.touched.now (slice_index c.args.numbers.now.items u)) c.loop-router.router-index _ c.requires.touched.all) in
    let few = used_few _ _ used in
    let total = before.total in
    let size = before.moving.total in
    omega arith

pub move_router-requires-clause-listed : goal.move_router-requires-clause-listed
move_router-requires-clause-listed c = piece_listed _ _ _ _ _ _ _ _ _ _ c.loop-router.invariant.listed c.in_ok-number.ensures

pub move_router-requires-clause-number : goal.move_router-requires-clause-number
move_router-requires-clause-number c = piece_known _ _ _ _ _ _ _ _ _ _ _ _ _ _ _ c.loop-router.invariant.moving c.loop-router.invariant.total
    c.in_ok-number.ensures

pub loop-router-preserved : goal.loop-router-preserved
loop-router-preserved c =
    let k = c.loop-router.router-index in
    let here = c.loop-router-test.true in
    let before = c.loop-router.invariant in
    let piece = c.in_ok-number.ensures in
    let moved = c.in_ok-move_router.ensures in
    let router : ℕ = get_or c.args.reached.now k 0 in
    let classes = c.requires.classes.total in
    let inside : router < length c.args.numbers.now.items = let lt = (c.requires.classes.new.only k 0 here).0 in omega arith in
    let size = before.moving.total in
    let inside' : router < length c.loop-router.numbers.items = omega arith in
    let origin : slice_index c.loop-router.numbers.items router ≡ c.index-origin.result.now =
    sym (c.index-origin.ensures ∙ get_or_default c.loop-router.numbers.items router _ 0 inside') in
    record {
      total = moved.total ∙ piece_size _ _ _ _ _ _ _ _ _ _ before.total piece;
      listed = moved.listed;
      moving = rw (take_more c.args.reached.now k 0 here)
          (moving_next _ _ _ _ router _ _ _ _ _ _ _ _ _ _ _ _ before.moving before.total inside refl origin piece moved.moved);
      last = piece_named _ _ _ _ _ _ _ _ _ piece;
    }

pub returns-clause-listed : goal.returns-clause-listed
returns-clause-listed c = c.loop-router.invariant.listed

pub returns-clause-total : goal.returns-clause-total
returns-clause-total c =
    let total = c.loop-router.invariant.total in
    let kept = c.in_ok-name_staying.ensures.total in
    omega arith

pub returns-clause-moved : goal.returns-clause-moved
returns-clause-moved c =
    let whole = take_all c.loop-router.router-index c.args.reached.now c.loop-router-test.false in
    let moving = rw (whole, c.in_ok-name_staying.ensures.total) at c.loop-router.invariant.moving in
    moved_all _ _ _ _ _ _ _ _ moving c.requires.classes c.requires.listed.below c.requires.used c.requires.touched.all
