-- Sets of the keys that were seen so far.
use Rattle.std.proofs.Common.{◌≡◌, ◌<◌, ℕ, ◌+◌, Bool, true, false, cond, ◌||◌, List, [], ◌∷◌, ◌++◌, length, get_or, take, refl, sym, ap, ◌∙◌, arith, nat_eq}
use Rattle.std.specs.Prelude.{bytes_eq}
use Rattle.std.specs.List.{list_any}
use Rattle.std.specs.HashSet.{HashSet, contains, Updates}
use Rattle.std.proofs.lemmas.List.{take_more}
use Rattle.std.proofs.lemmas.List.Folds.{list_any-append}
use Rattle.std.proofs.lemmas.Bool.Decides.{nat_tests}
use Rattle.numbered_names.specs.declared.sets.NameSet.{NameSet}
use Rattle.numbered_names.specs.NameSets.{has_name, AddsName}

pub same_either_way : (m n : ℕ) → nat_eq m n ≡ nat_eq n m
same_either_way m n = grind (arith, nat_tests)

pub bytes_eq-sym : (xs ys : List ℕ) → bytes_eq xs ys ≡ bytes_eq ys xs
bytes_eq-sym [] [] = refl
bytes_eq-sym [] (y ∷ ys) = refl
bytes_eq-sym (x ∷ xs) [] = refl
bytes_eq-sym (x ∷ xs) (y ∷ ys) = rw (same_either_way x y, bytes_eq-sym xs ys) refl

or_last : (a b : Bool) → cond a true b ≡ (b || (a || false))
or_last true true = refl
or_last true false = refl
or_last false true = refl
or_last false false = refl

-- one item more
pub any_more : {X : Type 0} (p : X → Bool) (xs : List X) (i : ℕ) (x : X) → i < length xs → x ≡ get_or xs i x →
    cond (p x) true (list_any p (take i xs)) ≡ list_any p (take (i + 1) xs)
any_more {X} p xs i x below here =
    or_last (p x) (list_any p (take i xs))
    ∙ sym (list_any-append p (take i xs) (x ∷ []))
    ∙ ap (λ (l : List X). list_any p l) (sym (take_more xs i x below ∙ ap (λ (y : X). take i xs ++ y ∷ []) (sym here)))

pub or_cond : (a b : Bool) → (a || b) ≡ cond a true b
or_cond true b = refl
or_cond false b = refl

-- a set of names, after a name was put in
pub text_turn : {X : Type 0} (name : X → List ℕ) (xs : List X) (i : ℕ) (x : X) (old new : NameSet) (key : List ℕ) → i < length xs → x ≡ get_or xs i x →
    key ≡ name x → AddsName old new key
    → ((q : List ℕ) → has_name old q ≡ list_any (λ y. bytes_eq q (name y)) (take i xs))
    → (q : List ℕ) → has_name new q ≡ list_any (λ y. bytes_eq q (name y)) (take (i + 1) xs)
text_turn name xs i x old new key below here is step so_far q =
    step.each q
    ∙ ap (λ (k : List ℕ). bytes_eq q k || has_name old q) is
    ∙ ap (λ b. bytes_eq q (name x) || b) (so_far q)
    ∙ or_cond (bytes_eq q (name x)) (list_any (λ y. bytes_eq q (name y)) (take i xs))
    ∙ any_more (λ y. bytes_eq q (name y)) xs i x below here

-- a set of numbers, after a number was put in
pub number_turn : {X S : Type 0} (key : X → ℕ) (xs : List X) (i : ℕ) (x : X) (old new : HashSet ℕ S) → i < length xs → x ≡ get_or xs i x →
    Updates nat_eq old new (key x) true
    → ((q : ℕ) → contains nat_eq old q ≡ list_any (λ y. nat_eq q (key y)) (take i xs))
    → (q : ℕ) → contains nat_eq new q ≡ list_any (λ y. nat_eq q (key y)) (take (i + 1) xs)
number_turn key xs i x old new below here step so_far q =
    step.0 q
    ∙ ap (λ b. cond b true (contains nat_eq old q)) (same_either_way (key x) q)
    ∙ ap (λ b. cond (nat_eq q (key x)) true b) (so_far q)
    ∙ any_more (λ y. nat_eq q (key y)) xs i x below here
