-- What a split gives, test by test.
use Rattle.std.proofs.Common.{◌≡◌, ◌≢◌, ℕ, ◌+◌, Bool, true, false, ◌&&◌, List, refl, sym, ap, ◌∙◌, Ok, Err}
use Rattle.base_kit.specs.declared.act_graph.Edge.{Edge}
use Rattle.base_kit.specs.Sets.{has}
use Rattle.cut_certificate.specs.declared.certificate.Split.{Split}
use Rattle.cut_certificate.specs.declared.refusal.CutKind.TheVariants as kinds
use Rattle.cut_certificate.specs.Blocks.{Blocks, edge_act, is_block, are_parts, numbers_after, blocks_after, split_by}
use Rattle.cut_certificate.specs.InUse.{AreInUse}
use Rattle.cut_certificate.proofs.Reached.{and_first, and_second}
use Rattle.cut_certificate.proofs.Seen.{same_test, other_test}
use Rattle.cut_certificate.proofs.Used.{split_used}

module _ (edges : List Edge) (blocks : Blocks) (split : Split) where
  pub no_block : (is_block blocks split.block && is_block blocks split.by) ≡ false → split_by edges blocks split ≡ Err kinds.NoBlock
  unfolding split_by
  no_block e = rw e refl

  pub same_block : (is_block blocks split.block && is_block blocks split.by) ≡ true → split.block ≡ split.by → split_by edges blocks split ≡ Err kinds.SameBlock
  unfolding split_by
  same_block e same = rw (e, same_test split.block split.by same) refl

  parts_are : (act next : ℕ) (numbers : List ℕ) (b : Bool) → act ≡ edge_act edges split.edge → next ≡ blocks.count + 1
      → numbers ≡ numbers_after edges blocks.numbers split.block split.by act next → (has numbers split.block && has numbers next) ≡ b
      → are_parts split.block (blocks_after edges blocks split) ≡ b
  parts_are act next numbers b acts count is e =
      let same : numbers ≡ (blocks_after edges blocks split).numbers = is ∙ ap (λ (a : ℕ). numbers_after edges blocks.numbers split.block split.by a next) acts
      ∙ ap (numbers_after edges blocks.numbers split.block split.by (edge_act edges split.edge)) count in
      sym (ap (λ (ns : List ℕ). has ns split.block && has ns next) same
      ∙ ap (λ (n : ℕ). has (blocks_after edges blocks split).numbers split.block && has (blocks_after edges blocks split).numbers n) count) ∙ e

  pub nothing_split : (act next : ℕ) (numbers : List ℕ) → (is_block blocks split.block && is_block blocks split.by) ≡ true → split.block ≢ split.by
      → act ≡ edge_act edges split.edge → next ≡ blocks.count + 1
      → numbers ≡ numbers_after edges blocks.numbers split.block split.by act next → (has numbers split.block && has numbers next) ≡ false
      → split_by edges blocks split ≡ Err kinds.NothingSplit
  unfolding split_by
  nothing_split act next numbers known apart acts count is e =
      rw (known, other_test split.block split.by apart, parts_are act next numbers false acts count is e) refl

  pub both_parts : (act next : ℕ) (numbers : List ℕ) → (is_block blocks split.block && is_block blocks split.by) ≡ true → split.block ≢ split.by
      → act ≡ edge_act edges split.edge → next ≡ blocks.count + 1
      → numbers ≡ numbers_after edges blocks.numbers split.block split.by act next → (has numbers split.block && has numbers next) ≡ true
      → split_by edges blocks split ≡ Ok (record { numbers = numbers; count = next })
  unfolding split_by
  both_parts act next numbers known apart acts count is e =
      rw (known, other_test split.block split.by apart, parts_are act next numbers true acts count is e)
      (ap (λ (b : Blocks). Ok b) (cc (
        count,
        is ∙ ap (λ (a : ℕ). numbers_after edges blocks.numbers split.block split.by a next) acts
            ∙ ap (numbers_after edges blocks.numbers split.block split.by (edge_act edges split.edge)) count,
      )))

  pub made_used : (act next : ℕ) (numbers : List ℕ) → AreInUse blocks.numbers blocks.count → next ≡ blocks.count + 1
      → numbers ≡ numbers_after edges blocks.numbers split.block split.by act next → (has numbers split.block && has numbers next) ≡ true
      → AreInUse numbers next
  made_used act next numbers are count is e =
      let parts = rw (is, count) at e in
      rw (is, count) (split_used edges blocks.numbers blocks.count split.block split.by act are (and_first _ _ parts) (and_second _ _ parts))
