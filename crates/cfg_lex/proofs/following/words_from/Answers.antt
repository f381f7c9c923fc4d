use Rattle.std.proofs.Common.{◌≡◌, ◌<◌, true, false, slice_index, append_assoc, sym, ap, refl, ◌∙◌, arith, rules}
use Rattle.std.proofs.lemmas.List.{append-nil}
use Rattle.cfg_ast.specs.text.Lines.{is_plain, blank_at, word_end, words_between}
use Rattle.cfg_ast.proofs.Places.{first_below}
use Rattle.cfg_ast.proofs.WordRuns.{words_blank, words_word, words_end, word_past}
use Rattle.cfg_lex.specs.Odd.{odd_end}
use Rattle.cfg_lex.proofs.Odd.{odd_bounds, still_plain, word_ends, plain_ends}
use Rattle.cfg_lex.proofs.following.words_from.Goals as goal
use Rattle.cfg_lex.proofs.following.words_from.Goals.{then-loop-i-test+else-is_plain, else-loop-i-test}

pub loop-i-init : goal.loop-i-init
loop-i-init c = record {
  front = omega arith;
  below = (odd_bounds c.args.bytes.now c.args.from c.requires.front).0;
  words = rw c.cleared-spans.ensures refl;
}

pub loop-i-preserved-then-is_blank : goal.loop-i-preserved-then-is_blank
loop-i-preserved-then-is_blank c =
    let bs = c.args.bytes.now in
    let from = c.args.from in
    let i = c.loop-i.i in
    let plain : is_plain (slice_index bs i) ≡ true = search rules in
    let blank : blank_at bs i ≡ true = search rules in
    let lt : i < odd_end bs from = still_plain bs from i c.requires.front c.loop-i.invariant.below c.loop-i-test.true plain in
    record {
      front = omega arith;
      below = omega arith;
      words = rw (← words_blank bs i (odd_end bs from) lt blank) c.loop-i.invariant.words;
    }

pub loop-i-smaller : goal.loop-i-smaller
loop-i-smaller c =
    let bs = c.args.bytes.now in
    let from = c.args.from in
    let i = c.loop-i.i in
    let plain : is_plain (slice_index bs i) ≡ true = search rules in
    let full : blank_at bs i ≡ false = search rules in
    let lt : i < odd_end bs from = still_plain bs from i c.requires.front c.loop-i.invariant.below c.loop-i-test.true plain in
    omega (
      arith,
      word_past bs i (odd_end bs from) lt full,
      word_ends bs from i c.requires.front c.loop-i.invariant.front lt,
      c.letters_end-end.ensures.place,
      c.letters_end-end.ensures.bounds,
    )

pub loop-i-preserved : goal.loop-i-preserved
loop-i-preserved c =
    let bs = c.args.bytes.now in
    let from = c.args.from in
    let i = c.loop-i.i in
    let p = odd_end bs from in
    let plain : is_plain (slice_index bs i) ≡ true = search rules in
    let full : blank_at bs i ≡ false = search rules in
    let lt : i < p = still_plain bs from i c.requires.front c.loop-i.invariant.below c.loop-i-test.true plain in
    let next = words_word bs i p lt full in
    let end : c.letters_end-end.result ≡ word_end bs i p = c.letters_end-end.ensures.place
    ∙ sym (word_ends bs from i c.requires.front c.loop-i.invariant.front lt) in
    record {
      front = omega arith;
      below = omega (arith, end, first_below (blank_at bs) i p (omega arith));
      words = rw (c.in_ok-push.ensures.ok, end, append_assoc, ← next) c.loop-i.invariant.words;
    }

pub returns : goal.returns
returns c =
    let bs = c.args.bytes.now in
    let from = c.args.from in
    let i = c.loop-i.i in
    let p = odd_end bs from in
    let ends : i ≡ p = plain_ends bs from i c.requires.front c.loop-i.invariant.front c.loop-i.invariant.below (λ h. elim c.loop-i-test.branch [
      | then-loop-i-test+else-is_plain w ↦ search rules
      | else-loop-i-test w ↦ absurd (omega (arith, h))
    ]) in
    record {
      ends = ends;
      spans = sym (append-nil c.loop-i.spans) ∙ rw (← words_end bs i p (omega arith)) c.loop-i.invariant.words ∙ ap (words_between bs from) (sym ends);
    }
