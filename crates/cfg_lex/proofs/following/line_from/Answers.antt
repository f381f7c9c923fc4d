use Rattle.std.proofs.Common.{◌≡◌, ◌+◌, ◌≤◌, length, true, false, sym, ap, ◌∙◌, arith, rules}
use Rattle.std.specs.Result.{is_ok}
use Rattle.cfg_ast.specs.text.Lines.{are_kept}
use Rattle.cfg_lex.proofs.Odd.{odd_bounds}
use Rattle.cfg_lex.proofs.Taken.{sound_cut, kept_some, kept_none, line_first, line_passed, none_left, next_place}
use Rattle.cfg_lex.proofs.following.line_from.Goals as goal

pub behind_return-requires : goal.behind_return-requires
behind_return-requires c = omega (arith, c.in_ok-spans.ensures.ends, odd_bounds c.args.bytes.now c.loop-at.at.from (omega (arith, c.loop-at-test.true)))

pub indent_between-requires-clause-front : goal.indent_between-requires-clause-front
indent_between-requires-clause-front c = omega (
  arith,
  c.in_ok-spans.ensures.ends,
  odd_bounds c.args.bytes.now c.loop-at.at.from (omega (arith, c.loop-at-test.true)),
)

pub returns-then-are_kept : goal.returns-then-are_kept
returns-then-are_kept c =
    let bs = c.args.bytes.now in
    let at = c.loop-at.at in
    let n = at.number + 1 in
    let words = c.in_ok-spans.field-0 in
    let end = c.behind_return.result in
    let bounds = odd_bounds bs at.from (omega (arith, c.loop-at-test.true)) in
    let front : at.from ≤ words.upto = omega (arith, bounds, c.in_ok-spans.ensures.ends) in
    let short : words.upto ≤ length bs = omega (arith, bounds, c.in_ok-spans.ensures.ends) in
    let cut = sound_cut bs n at.from words.upto end c.loop-at-test.true (c.loop-at.invariant.is_place.begins c.loop-at-test.true) c.in_ok-spans.ensures.ends
    c.behind_return.ensures.place (ap is_ok c.loop-at.invariant.same ∙ c.requires.sound) in
    let keep : are_kept bs words.spans ≡ true = search rules in
    let some = kept_some bs n at.from words.upto c.indent_between.result words.spans c.in_ok-spans.ensures.spans c.indent_between.ensures.value keep in
    line_first bs at.number at.from end words.upto c.args.place (record { number = n; indent = c.indent_between.result; words = words.spans }) cut front short
    c.requires.sound c.loop-at.invariant.same some
    (next_place bs at.number at.from end c.loop-at.invariant.is_place.few c.loop-at-test.true (omega (arith, front, c.behind_return.ensures.bounds))
    c.behind_return.ensures.bounds.1 cut.to_newline) c.loop-at.invariant.behind (omega (arith, front, c.behind_return.ensures.bounds))

pub loop-at-smaller : goal.loop-at-smaller
loop-at-smaller c = omega (
  arith,
  c.in_ok-spans.ensures.ends,
  c.behind_return.ensures.bounds,
  odd_bounds c.args.bytes.now c.loop-at.at.from (omega (arith, c.loop-at-test.true)),
)

pub loop-at-preserved : goal.loop-at-preserved
loop-at-preserved c =
    let bs = c.args.bytes.now in
    let at = c.loop-at.at in
    let n = at.number + 1 in
    let words = c.in_ok-spans.field-0 in
    let end = c.behind_return.result in
    let front : at.from ≤ words.upto = omega (arith, odd_bounds bs at.from (omega (arith, c.loop-at-test.true)), c.in_ok-spans.ensures.ends) in
    let cut = sound_cut bs n at.from words.upto end c.loop-at-test.true (c.loop-at.invariant.is_place.begins c.loop-at-test.true) c.in_ok-spans.ensures.ends
    c.behind_return.ensures.place (ap is_ok c.loop-at.invariant.same ∙ c.requires.sound) in
    let skip : are_kept bs words.spans ≡ false = search rules in
    let none = kept_none bs n at.from words.upto words.spans c.in_ok-spans.ensures.spans skip in
    record {
      is_place = next_place bs at.number at.from end c.loop-at.invariant.is_place.few c.loop-at-test.true (omega (arith, front, c.behind_return.ensures.bounds))
          c.behind_return.ensures.bounds.1 cut.to_newline;
      behind = omega (arith, front, c.behind_return.ensures.bounds, c.loop-at.invariant.behind);
      same = sym (line_passed bs n at.from end words.upto cut (ap is_ok c.loop-at.invariant.same ∙ c.requires.sound) none) ∙ c.loop-at.invariant.same;
    }

pub returns : goal.returns
returns c = none_left c.args.bytes.now (c.loop-at.at.number + 1) c.loop-at.at.from _ (omega (arith, c.loop-at-test.false)) c.loop-at.invariant.same
