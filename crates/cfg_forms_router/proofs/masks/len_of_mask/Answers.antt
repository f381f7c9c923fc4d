use Rattle.std.proofs.Common.{◌==◌, sym, ◌∙◌, arith, eq-eqb}
use Rattle.std.proofs.lemmas.Bool.{ne_eqb}
use Rattle.cfg_ast.specs.text.Words.{mask_of}
use Rattle.cfg_forms_router.proofs.Ranges.{find_here, find_next}
use Rattle.cfg_forms_router.proofs.masks.len_of_mask.Goals as goal

pub returns-then-mask_of-mask-clause-value : goal.returns-then-mask_of-mask-clause-value
returns-then-mask_of-mask-clause-value c =
    let mask = c.args.mask in
    sym (find_here (λ len. mask_of len == mask) c.loop-len.len 33 (omega arith) (eq-eqb _ mask (sym c.mask_of.ensures ∙ c.if-mask_of-mask.true)))
    ∙ c.loop-len.invariant

pub loop-len-preserved : goal.loop-len-preserved
loop-len-preserved c =
    let mask = c.args.mask in
    sym (find_next (λ len. mask_of len == mask) c.loop-len.len 33 (omega arith) (ne_eqb _ mask (λ e. c.if-mask_of-mask.false (c.mask_of.ensures ∙ e))))
    ∙ c.loop-len.invariant
