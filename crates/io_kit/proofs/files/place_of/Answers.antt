use Rattle.std.proofs.Common.{◌≡◌, true, ◌<◌, length, sym, ◌∙◌, ap, subst, arith}
use Rattle.std.specs.Str.{bytes_eq}
use Rattle.io_kit.proofs.Places.{contents_at}
use Rattle.io_kit.proofs.files.place_of.Goals as goal

pub returns-then-eq : goal.returns-then-eq
returns-then-eq c =
    let below : c.loop-i.i < length c.args.files.now = omega arith in
    let same : bytes_eq c.index-files-i.result.name c.args.name.now ≡ true = ap (λ b. bytes_eq b c.args.name.now) (sym c.as_str.ensures) ∙ sym c.eq.ensures
    ∙ c.if-eq.true in
    let there = subst (λ file. bytes_eq file.name c.args.name.now ≡ true) c.index-files-i.is same in
    sym c.loop-i.invariant ∙ contents_at c.args.files.now c.args.name.now c.loop-i.i c.index-files-i.result below there
