-- Paths of two parts.
use Rattle.std.proofs.Common.{◌≡◌, ℕ, Bool, true, false, ◌||◌, List, [], ◌∷◌, ◌++◌, nat_eq, replicate, refl, ap, ◌∙◌}
use Rattle.srp_core.specs.Acts.{prepended}
use Rattle.srp_core.specs.Routes.{is_on}
use Rattle.srp_core.proofs.Repeats.{prepended-replicate}

or_first : (a b c : Bool) → a || (b || c) ≡ (a || b) || c
or_first true b c = refl
or_first false b c = refl

pub on_joined : (number : ℕ) (xs ys : List ℕ) → is_on number (xs ++ ys) ≡ is_on number xs || is_on number ys
on_joined number [] ys = refl
on_joined number (x ∷ xs) ys = ap (λ (b : Bool). nat_eq x number || b) (on_joined number xs ys) ∙ or_first (nat_eq x number) (is_on number xs) (is_on number ys)

joined_after : (front own rest : List ℕ) → (front ++ own) ++ rest ≡ front ++ (own ++ rest)
joined_after [] own rest = refl
joined_after (x ∷ front) own rest = ap (λ (l : List ℕ). x ∷ l) (joined_after front own rest)

-- so many times the number and the path's own numbers, before its rest
pub behind_own : (times number : ℕ) (own rest : List ℕ) → (replicate times number ++ own) ++ rest ≡ prepended times number (own ++ rest)
behind_own times number own rest = joined_after (replicate times number) own rest ∙ prepended-replicate times number (own ++ rest)
