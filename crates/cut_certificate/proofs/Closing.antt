-- The end of a certificate, test by test.
use Rattle.std.proofs.Common.{◌≡◌, ℕ, Bool, true, false, nat_eq, List, length, refl, sym, ap, ◌∙◌, Ok, Err}
use Rattle.std.specs.List.{list_all}
use Rattle.base_kit.specs.declared.act_graph.Edge.{Edge}
use Rattle.cut_certificate.specs.declared.refusal.CutKind.TheVariants as kinds
use Rattle.cut_certificate.specs.declared.standing.Stage.TheVariants.{Closed}
use Rattle.cut_certificate.specs.Blocks.{groups_of}
use Rattle.cut_certificate.specs.Evenness.{is_even, are_even}
use Rattle.cut_certificate.specs.Texts.{Standing, with_all_groups}
use Rattle.cut_certificate.proofs.Seen.{same_test}

even_is : (edges : List Edge) (numbers : List ℕ) (groups : List (List ℕ)) (b : Bool) → groups ≡ groups_of numbers → list_all (is_even edges numbers) groups ≡ b
    → are_even edges numbers ≡ b
unfolding are_even
even_is edges numbers groups b is e = ap (list_all (is_even edges numbers)) (sym is) ∙ e

module _ (edges : List Edge) (s : Standing) (groups : List (List ℕ)) where
  all_named : groups ≡ groups_of s.blocks.numbers → s.named ≡ length groups → nat_eq s.named (length (groups_of s.blocks.numbers)) ≡ true
  all_named is all = same_test s.named (length (groups_of s.blocks.numbers)) (all ∙ ap length is)

  pub closed_uneven : groups ≡ groups_of s.blocks.numbers → s.named ≡ length groups → list_all (is_even edges s.blocks.numbers) groups ≡ false
      → with_all_groups edges s ≡ Err kinds.NotAdmissible
  closed_uneven is all e = rw (all_named is all, even_is edges s.blocks.numbers groups false is e) refl

  pub closed_even : groups ≡ groups_of s.blocks.numbers → s.named ≡ length groups → list_all (is_even edges s.blocks.numbers) groups ≡ true
      → with_all_groups edges s ≡ Ok (record s { stage = Closed })
  closed_even is all e = rw (all_named is all, even_is edges s.blocks.numbers groups true is e) refl
