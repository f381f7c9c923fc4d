use Rattle.std.proofs.Common.{◌≡◌, ◌++◌, drop}
use Rattle.std.specs.List.{AllByRecursion}
use Rattle.cfg_ast.specs.text.Lines.{IsWordIn, texts}
use Rattle.cfg_forms_policy.proofs.name_list.copies.Given as goal

abbrev pub invariant-loop-word : goal.invariant-loop-word
invariant-loop-word l = (l.names ++ texts l.bytes (drop l.word-index l.words) ≡ texts l.bytes l.words)
    × AllByRecursion (IsWordIn l.bytes) (drop l.word-index l.words)
