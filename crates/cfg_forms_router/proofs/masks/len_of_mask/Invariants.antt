use Rattle.std.proofs.Common.{◌≡◌, ◌-◌, ◌==◌}
use Rattle.std.specs.List.{find, range_with_len}
use Rattle.cfg_ast.specs.text.Words.{mask_of, len_of_mask}
use Rattle.cfg_forms_router.proofs.masks.len_of_mask.Given as goal

abbrev pub invariant-loop-len : goal.invariant-loop-len
invariant-loop-len l = find (λ len. mask_of len == l.mask) (range_with_len l.len (33 - l.len)) ≡ len_of_mask l.mask
