use Rattle.std.proofs.Common.{◌≡◌, ◌++◌, drop, string_bytes}
use Rattle.printed_words.specs.Grown.{HasGrown}
use Rattle.printed_words.specs.Spaced.{spaced_words}
use Rattle.printed_words.proofs.words.put_names.Given as goal

abbrev pub invariant-loop-name : goal.invariant-loop-name
invariant-loop-name l = (string_bytes l.text ++ spaced_words (drop l.name-index l.items) ≡ string_bytes l.fn.text ++ spaced_words l.items)
    × HasGrown (string_bytes l.fn.text) (string_bytes l.text)
