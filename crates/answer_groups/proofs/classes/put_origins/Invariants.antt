use Rattle.std.proofs.Common.{◌≡◌, ◌++◌, drop, flat_map, string_bytes}
use Rattle.answer_groups.specs.ClassLines.{origin_word}
use Rattle.answer_groups.proofs.classes.put_origins.Given as goal

abbrev pub invariant-loop-origin : goal.invariant-loop-origin
invariant-loop-origin l =
    string_bytes l.text ++ flat_map (origin_word l.network) (drop l.origin-index l.origins) ≡ string_bytes l.fn.text
    ++ flat_map (origin_word l.network) l.origins
