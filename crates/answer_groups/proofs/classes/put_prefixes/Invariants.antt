use Rattle.std.proofs.Common.{◌≡◌, ◌++◌, drop, flat_map, string_bytes}
use Rattle.answer_groups.specs.ClassLines.{prefix_word}
use Rattle.answer_groups.proofs.classes.put_prefixes.Given as goal

abbrev pub invariant-loop-prefix : goal.invariant-loop-prefix
invariant-loop-prefix l = string_bytes l.text ++ flat_map prefix_word (drop l.prefix-index l.prefixes) ≡ string_bytes l.fn.text
    ++ flat_map prefix_word l.prefixes
