-- The least line of a list, part by part.
use Rattle.std.proofs.Common.{◌≡◌, ℕ, List, [], ◌∷◌, ◌++◌, Option, Some, None, refl, sym, ap, ◌∙◌, arith}
use Rattle.std.proofs.lemmas.Bool.Decides.{nat_tests}
use Rattle.cfg_check.specs.LeastLine.{lesser_line, least_line}

pub lesser_none : (o : Option ℕ) → lesser_line o None ≡ o
lesser_none None = refl
lesser_none (Some x) = refl

three : (x y z : ℕ) → lesser_line (Some x) (lesser_line (Some y) (Some z)) ≡ lesser_line (lesser_line (Some x) (Some y)) (Some z)
three x y z = grind (arith, nat_tests)

pub lesser_assoc : (a b c : Option ℕ) → lesser_line a (lesser_line b c) ≡ lesser_line (lesser_line a b) c
lesser_assoc None b c = refl
lesser_assoc (Some x) None c = refl
lesser_assoc (Some x) (Some y) None = sym (lesser_none (lesser_line (Some x) (Some y)))
lesser_assoc (Some x) (Some y) (Some z) = three x y z

pub least_line-append : (xs ys : List ℕ) → least_line (xs ++ ys) ≡ lesser_line (least_line xs) (least_line ys)
least_line-append [] ys = refl
least_line-append (x ∷ xs) ys = ap (lesser_line (Some x)) (least_line-append xs ys) ∙ lesser_assoc (Some x) (least_line xs) (least_line ys)
