-- The outcomes that a size allows, by whether there is a fat tree of that size.
use Rattle.std.proofs.Common.{◌≡◌, ℕ, Bool, true, false, List, sym, subst}
use Rattle.fat_gen.specs.FatTrees.{is_size, fat_tree_text}
use Rattle.answer_kit.specs.Outcome.{Outcome, refused}
use Rattle.answer_reports.specs.Trials.{IsSummaryOfText, bad_size, IsTrialBy, IsTrialAnswer}

pub of_size : (size : ℕ) (text : List ℕ) (o : Outcome) → is_size size ≡ true → text ≡ fat_tree_text size → IsSummaryOfText text o → IsTrialAnswer size o
of_size size text o is same summary =
    subst (λ (b : Bool). IsTrialBy b size o) (sym is) (subst (λ (t : List ℕ). IsSummaryOfText t o) same summary)

pub of_no_size : (size : ℕ) (o : Outcome) → is_size size ≡ false → o ≡ refused (bad_size size) → IsTrialAnswer size o
of_no_size size o is refusal = subst (λ (b : Bool). IsTrialBy b size o) (sym is) refusal
