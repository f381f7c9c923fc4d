use Rattle.std.proofs.Common.{suc, sym, ◌∙◌, arith}
use Rattle.route_offers.proofs.Lengthened.{too_short, not_all, all_front}
use Rattle.route_offers.proofs.offers.is_lengthened.Goals as goal

pub returns-then-path-front : goal.returns-then-path-front
returns-then-path-front c = sym (too_short (suc c.args.adds) c.args.number c.args.path.now c.args.rest.now (omega arith))

pub returns-then-not-are_all : goal.returns-then-not-are_all
returns-then-not-are_all c = sym (not_all c.args.adds c.args.number c.args.path.now c.args.rest.now (omega arith)
    (sym c.are_all.ensures ∙ c.if-not-are_all.true))

pub returns : goal.returns
returns c = c.eq.ensures ∙ sym (all_front c.args.adds c.args.number c.args.path.now c.args.rest.now (omega arith)
    (sym c.are_all.ensures ∙ c.if-not-are_all.false))
