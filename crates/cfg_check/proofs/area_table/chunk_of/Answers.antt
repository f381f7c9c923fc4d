use Rattle.std.proofs.Common.{ℕ, List, take, ap, ◌∙◌}
use Rattle.cfg_ast.specs.declared.ospf.AreaLine.{AreaLine}
use Rattle.cfg_check.proofs.AreaBits.{take_first}
use Rattle.cfg_check.proofs.area_table.chunk_of.Goals as goal

pub returns-clause-chunk : goal.returns-clause-chunk
returns-clause-chunk c =
    c.split_at-2.ensures.front
    ∙ ap (λ (n : ℕ). take n c.split_at.result.1.now) c.min.ensures
    ∙ take_first 64 c.split_at.result.1.now
    ∙ ap (λ (l : List AreaLine). take 64 l) c.split_at.ensures.back
