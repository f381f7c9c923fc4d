use Rattle.std.proofs.Common.{◌≡◌, [], drop}
use Rattle.std.specs.List.{AllByRecursion, filter_map}
use Rattle.base_kit.specs.Sets.{with_numbers}
use Rattle.cfg_ast.specs.text.Lines.{IsWordIn, texts}
use Rattle.cfg_ast.specs.text.Words.{community_word}
use Rattle.cfg_forms_policy.proofs.communities.values.Given as goal

abbrev pub invariant-loop-word : goal.invariant-loop-word
invariant-loop-word l = (with_numbers (filter_map community_word (texts l.bytes (drop l.word-index l.words))) l.set ≡ with_numbers
    (filter_map community_word (texts l.bytes l.words)) []) × AllByRecursion (IsWordIn l.bytes) (drop l.word-index l.words)
