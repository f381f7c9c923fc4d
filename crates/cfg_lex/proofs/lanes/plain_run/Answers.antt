use Rattle.std.proofs.Common.{cond, leb, refl, arith}
use Rattle.std.proofs.lemmas.Simd.{zip2_splat, length-chunk}
use lib.Lanes.{chunk}
use Rattle.cfg_ast.specs.text.Lines.{is_plain}
use Rattle.cfg_lex.proofs.Runs.{joined, splat_is, itself, run_in}
use Rattle.cfg_lex.proofs.lanes.plain_run.Goals as goal

pub returns : goal.returns
returns c =
    let v = chunk c.args.at 16 c.args.bytes.now in
    let long = length-chunk c.args.at 16 c.args.bytes.now c.requires in
    run_in is_plain c.args.bytes.now c.args.at 16 _ _ c.requires (omega arith) c.type_inv.bytes c.first_set.ensures _
    (joined _ _ _ v (joined _ _ _ v (zip2_splat _ v 16 32 long) (zip2_splat _ v 16 9 long))
    (joined (λ a b. cond (leb a b) 255 0) _ _ v (splat_is v 16 127 long) (itself v))) refl
