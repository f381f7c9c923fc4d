use Rattle.std.proofs.Common.{◌≡◌, ◌<◌, ◌∙◌, ℕ, true, false, List, length, All, sym, ap, subst, arith, Ok, Err}
use Rattle.std.specs.List.{list_all}
use Rattle.cut_certificate.specs.declared.refusal.CutKind.TheVariants as kinds
use Rattle.cut_certificate.specs.declared.standing.Stage.TheVariants.{Closed}
use Rattle.cut_certificate.specs.Blocks.{groups_of}
use Rattle.cut_certificate.specs.Evenness.{is_even}
use Rattle.cut_certificate.specs.Texts.{Standing, with_all_groups}
use Rattle.cut_certificate.proofs.Closing.{closed_uneven, closed_even}
use Rattle.cut_certificate.proofs.Grouped.{groups_in_range}
use Rattle.cut_certificate.proofs.standing.Standing.closed.Goals as goal

pub groups_at-requires-clause-few : goal.groups_at-requires-clause-few
groups_at-requires-clause-few c = omega (arith, ap (λ (s : Standing). length s.blocks.numbers) c.self.view_is, c.requires.few)

pub are_even-requires-clause-members : goal.are_even-requires-clause-members
are_even-requires-clause-members c =
    let gs : c.as_slice.result.now ≡ groups_of c.self.inside.blocks.numbers = c.as_slice.ensures ∙ c.in_ok-groups.ensures in
    let total : length c.self.inside.blocks.numbers ≡ c.args.graph.now.count = ap (λ (s : Standing). length s.blocks.numbers) c.self.view_is
    ∙ c.requires.total in
    subst (λ (n : ℕ). All (All (λ router. router < n)) c.as_slice.result.now) total
    (subst (All (All (λ router. router < length c.self.inside.blocks.numbers))) (sym gs) (groups_in_range c.self.inside.blocks.numbers))

pub returns-then-not-are_even : goal.returns-then-not-are_even
returns-then-not-are_even c =
    let edges = c.args.graph.now.edges in
    let groups = c.in_ok-groups.groups in
    let s : Standing = record { stage = c.self.inside.stage; splits = c.self.inside.splits; blocks = c.self.inside.blocks; named = c.self.inside.named } in
    let named : s.named ≡ length groups = c.if-named-len.false ∙ c.len.ensures in
    let uneven : list_all (is_even edges s.blocks.numbers) groups ≡ false = ap (λ (ns : List ℕ). list_all (is_even edges ns) groups) (sym c.numbers.ensures)
    ∙ ap (list_all (is_even edges c.numbers.result.now)) (sym c.as_slice.ensures) ∙ sym c.if-not-are_even.ensures in
    subst (λ (t : Standing). with_all_groups edges t ≡ Err kinds.NotAdmissible) c.self.view_is
    (closed_uneven edges s groups c.in_ok-groups.ensures named uneven)

pub returns : goal.returns
returns c =
    let edges = c.args.graph.now.edges in
    let groups = c.in_ok-groups.groups in
    let s : Standing = record { stage = c.self.inside.stage; splits = c.self.inside.splits; blocks = c.self.inside.blocks; named = c.self.inside.named } in
    let named : s.named ≡ length groups = c.if-named-len.false ∙ c.len.ensures in
    let even : list_all (is_even edges s.blocks.numbers) groups ≡ true = ap (λ (ns : List ℕ). list_all (is_even edges ns) groups) (sym c.numbers.ensures)
    ∙ ap (list_all (is_even edges c.numbers.result.now)) (sym c.as_slice.ensures) ∙ sym c.if-not-are_even.ensures in
    subst (λ (t : Standing). with_all_groups edges t ≡ Ok (record s { stage = Closed })) c.self.view_is
    (closed_even edges s groups c.in_ok-groups.ensures named even)
