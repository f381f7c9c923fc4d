use Rattle.std.proofs.Common.{◌≡◌, ℕ, true, subst}
use Rattle.cut_certificate.specs.Evenness.{mirror_each_other}
use Rattle.cut_certificate.proofs.Evened.{mirrors_itself}
use Rattle.cut_certificate.proofs.certifying.what_parts.Goals as goal

pub returns-then-router-other : goal.returns-then-router-other
returns-then-router-other c =
    subst (λ (u : ℕ). mirror_each_other c.args.graph.now.edges c.args.numbers.now c.args.router u ≡ true) c.if-router-other.true
    (mirrors_itself c.args.graph.now.edges c.args.numbers.now c.args.router)
