use Rattle.std.proofs.Common.{◌≡◌, ◌++◌, map, length}
use Rattle.ask_words.specs.NameLists.{parts_of}
use Rattle.ask_words.proofs.parts.parts.Given as goal

-- the parts so far, and those of the rest
abbrev pub invariant-loop-part : goal.invariant-loop-part
invariant-loop-part l = (map (λ part. part.now) l.parts.items ++ parts_of l.rest ≡ parts_of l.word)

abbrev pub decreases-loop-part : goal.decreases-loop-part
decreases-loop-part l = length l.rest
