use Rattle.std.proofs.Common.{◌∙◌, sym, subst}
use Rattle.cut_certificate.specs.Moves.{HasMovers}
use Rattle.cut_certificate.proofs.Movers.{movers_import, movers_in_block}
use Rattle.cut_certificate.proofs.moving.candidates.Goals as goal

pub returns-then-is_lighter : goal.returns-then-is_lighter
returns-then-is_lighter c = movers_import _ _ _ _ _ _ _ _ _ c.requires.incoming c.requires.total c.requires.listed c.index-lists-split-2.is
    (rw c.deref-then-is_lighter.ensures.value at c.in_ok-found.ensures)

pub returns : goal.returns
returns c =
    subst (HasMovers c.args.graph.now.edges c.args.numbers.now c.args.split.block c.args.split.by c.args.act)
    (sym (c.in_ok-all.ensures.items ∙ c.deref-3.ensures.value))
    (movers_in_block _ _ _ _ _ _ _ c.requires.listed c.index-lists-split.is)
