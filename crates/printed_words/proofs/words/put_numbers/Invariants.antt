use Rattle.std.proofs.Common.{◌≡◌, ◌++◌, drop, string_bytes, map}
use Rattle.std.specs.Fmt.{decimal}
use Rattle.printed_words.specs.Grown.{HasGrown}
use Rattle.printed_words.specs.Spaced.{spaced_words}
use Rattle.printed_words.proofs.words.put_numbers.Given as goal

abbrev pub invariant-loop-number : goal.invariant-loop-number
invariant-loop-number l = (string_bytes l.text ++ spaced_words (map decimal (drop l.number-index l.items))
    ≡ string_bytes l.fn.text ++ spaced_words (map decimal l.items))
    × HasGrown (string_bytes l.fn.text) (string_bytes l.text)
