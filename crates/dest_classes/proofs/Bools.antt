-- Small facts on tests.
use Rattle.std.proofs.Common.{◌≡◌, Bool, true, false, cond, ◌&&◌, ◌||◌, refl, sym, true≢false}

pub by_both : (a b : Bool) → (a ≡ true → b ≡ true) → (b ≡ true → a ≡ true) → a ≡ b
by_both true true f g = refl
by_both true false f g = sym (f refl)
by_both false true f g = g refl
by_both false false f g = refl

pub last_first : (a b : Bool) → cond a true b ≡ (b || (a || false))
last_first true true = refl
last_first true false = refl
last_first false true = refl
last_first false false = refl

pub both_assoc : (a b c : Bool) → ((a && b) && c) ≡ (a && (b && c))
both_assoc true b c = refl
both_assoc false b c = refl

pub both_true : (a : Bool) → (a && true) ≡ a
both_true true = refl
both_true false = refl

pub both_implied : (a b : Bool) → (a ≡ true → b ≡ true) → a ≡ (a && b)
both_implied true b implied = sym (implied refl)
both_implied false b implied = refl

pub first_of_both : (a b : Bool) → (a && b) ≡ true → a ≡ true
first_of_both true b e = refl
first_of_both false b e = e

pub second_of_both : (a b : Bool) → (a && b) ≡ true → b ≡ true
second_of_both true b e = e
second_of_both false b e = absurd (true≢false (sym e))
