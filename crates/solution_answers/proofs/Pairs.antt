-- One more pair, one more item.
use Rattle.std.proofs.Common.{◌≡◌, ℕ, suc, ◌+◌, Bool, true, ◌&&◌, List, [], ◌∷◌, ◌++◌, length, flat_map, refl, sym, ap, ◌∙◌, arith, append_assoc, append-nil}
use Rattle.std.specs.List.{enumerate_from, list_all}
use Rattle.std.proofs.lemmas.Grind.{flat_map-append}
use Rattle.solution_answers.specs.Pairwise.{Pairwise}
use Rattle.solution_answers.specs.Parts.{Part, bytes_of, are_all}
use Rattle.solution_answers.specs.Writing.{Writes, WritesEach}

pub pair_more : {X Y : Type 0} (R : X → Y → Type 0) (xs : List X) (ys : List Y) (x : X) (y : Y) → Pairwise R xs ys → R x y →
    Pairwise R (xs ++ x ∷ []) (ys ++ y ∷ [])
pair_more R [] [] x y are is = (is, tt)
pair_more R [] (z ∷ ys) x y are is = absurd are
pair_more R (w ∷ xs) [] x y are is = absurd are
pair_more R (w ∷ xs) (z ∷ ys) x y are is = (are.0, pair_more R xs ys x y are.1 is)

pub as_many : {X Y : Type 0} (R : X → Y → Type 0) (xs : List X) (ys : List Y) → Pairwise R xs ys → length ys ≡ length xs
as_many R [] [] are = refl
as_many R [] (y ∷ ys) are = absurd are
as_many R (x ∷ xs) [] are = absurd are
as_many R (x ∷ xs) (y ∷ ys) are = ap suc (as_many R xs ys are.1)

pub flat_more : {X : Type 0} (f : X → List ℕ) (xs : List X) (x : X) → flat_map f (xs ++ x ∷ []) ≡ flat_map f xs ++ f x
flat_more f xs x = flat_map-append f xs (x ∷ []) ∙ ap (λ (t : List ℕ). flat_map f xs ++ t) (append-nil (f x))

pub numbered_more : {X : Type 0} (n : ℕ) (xs : List X) (x : X) → enumerate_from n (xs ++ x ∷ []) ≡ enumerate_from n xs ++ (n + length xs, x) ∷ []
numbered_more n [] x = let first : n ≡ n + 0 = omega arith in ap (λ (k : ℕ). (k, x) ∷ []) first
numbered_more n (y ∷ xs) x =
    let next : (n + 1) + length xs ≡ n + length (y ∷ xs) = omega arith in
    ap (λ t. (n, y) ∷ t) (numbered_more (n + 1) xs x ∙ ap (λ (k : ℕ). enumerate_from (n + 1) xs ++ (k, x) ∷ []) next)

and_right : (a : Bool) → (a && true) ≡ a
and_right a = grind arith

and_assoc : (a b c : Bool) → ((a && b) && c) ≡ (a && (b && c))
and_assoc a b c = grind arith

pub all_more : {X : Type 0} (p : X → Bool) (xs : List X) (x : X) → list_all p (xs ++ x ∷ []) ≡ (list_all p xs && p x)
all_more p [] x = and_right (p x)
all_more p (y ∷ xs) x = ap (λ (b : Bool). p y && b) (all_more p xs x) ∙ sym (and_assoc (p y) (list_all p xs) (p x))

-- nothing was written for no items
pub none_written : {X : Type 0} (R : X → Part → Type 0) (bytes : List ℕ) → WritesEach R [] bytes bytes true
none_written R bytes = record { parts = []; are = tt; bytes = sym (append-nil bytes); all_is = refl }

-- a part behind those of the items before
pub one_written : {X : Type 0} (R : X → Part → Type 0) (xs : List X) (x : X) (old mid new : List ℕ) (all good : Bool) → WritesEach R xs old mid all →
    Writes (R x) mid new good
    → WritesEach R (xs ++ x ∷ []) old new (all && good)
one_written R xs x old mid new all good before one = record {
  parts = before.parts ++ one.part ∷ [];
  are = pair_more R xs before.parts x one.part before.are one.is;
  bytes = one.bytes ∙ ap (λ (t : List ℕ). t ++ one.part.bytes) before.bytes ∙ append_assoc old (bytes_of before.parts) one.part.bytes
      ∙ ap (λ (t : List ℕ). old ++ t) (sym (flat_more (λ (part : Part). part.bytes) before.parts one.part));
  all_is = ap (λ (b : Bool). b && good) before.all_is ∙ ap (λ (b : Bool). are_all before.parts && b) one.all_is
      ∙ sym (all_more (λ (part : Part). part.all) before.parts one.part);
}
