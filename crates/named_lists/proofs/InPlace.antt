-- Items of a list changed one by one, from the first to the last.
use Rattle.std.proofs.Common.{◌≡◌, ℕ, zero, suc, ◌+◌, ◌<◌, ◌≤◌, List, [], ◌∷◌, ◌++◌, length, map, get_or, refl, ap, arith}
use Rattle.std.proofs.Math.ListN.{set, take}
use Rattle.std.proofs.Math.Seq.{take-append_seam}

-- all items changed, from a place on
pub changed_from : {X : Type 0} → (X → X) → ℕ → List X → List X
changed_from change zero xs = map change xs
changed_from change (suc i) [] = []
changed_from change (suc i) (x ∷ xs) = x ∷ changed_from change i xs

pub none_changed : {X : Type 0} (change : X → X) (xs : List X) → changed_from change 0 xs ≡ map change xs
unfolding changed_from
none_changed change xs = refl

next_changed : {X : Type 0} (change : X → X) (xs : List X) (i : ℕ) (d : X) → i < length xs →
    changed_from change (suc i) (set xs i (change (get_or xs i d))) ≡ changed_from change i xs
unfolding changed_from
next_changed change [] i d lt = absurd (omega arith)
next_changed change (x ∷ xs) zero d lt = refl
next_changed change (x ∷ xs) (suc i) d lt = ap (λ ys. x ∷ ys) (next_changed change xs i d (omega arith))

pub one_changed : {X : Type 0} (change : X → X) (xs : List X) (i : ℕ) (d : X) → i < length xs →
    changed_from change (i + 1) (set xs i (change (get_or xs i d))) ≡ changed_from change i xs
one_changed change xs i d lt =
    let next : i + 1 ≡ suc i = omega arith in
    rw next (next_changed change xs i d lt)

pub all_changed : {X : Type 0} (change : X → X) (n : ℕ) (xs : List X) → length xs ≤ n → changed_from change n xs ≡ xs
unfolding changed_from
all_changed change zero [] le = refl
all_changed change (suc n) [] le = refl
all_changed change zero (x ∷ xs) le = absurd (omega (arith, le))
all_changed change (suc n) (x ∷ xs) le = ap (λ ys. x ∷ ys) (all_changed change n xs (omega (arith, le)))

-- a vector behind a loop over its slice
pub written_whole : {X : Type 0} (n : ℕ) (xs rest : List X) → n ≡ length xs → take n (xs ++ rest) ≡ xs
written_whole n xs rest e = rw e (take-append_seam xs rest)
