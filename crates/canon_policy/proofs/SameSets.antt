-- Sets with the same communities of a universe.
use Rattle.std.proofs.Common.{◌≡◌, ℕ, Bool, true, false, not, ◌&&◌, ◌||◌, cond, List, [], ◌∷◌, ◌++◌, filter, map, nat_eq, refl, sym, ◌∙◌, ap, arith, inl, inr, ◌⊎◌}
use Rattle.std.specs.List.{list_any, list_all}
use Rattle.std.proofs.lemmas.Bool.{cases_eq}
use Rattle.std.proofs.lemmas.Bool.Decides.{nat_tests}
use Rattle.base_kit.specs.Sets.{has, with_number, without_number, with_numbers, IsAscending}
use Rattle.base_kit.proofs.SetFacts.{same_number, other_number, has-with_number, has-with_numbers, has-filter, one_list, ascending_with_numbers}
use Rattle.base_kit.proofs.Elements.{In, in_left, in_right, in_map}
use Rattle.canon_policy.specs.declared.fixing.Fixing.{Fixing}
use Rattle.canon_policy.specs.Fixings.{agreeing, sets_of, with_present, with_absent}
use Rattle.canon_policy.specs.Functions.{as_set}
use Rattle.canon_policy.specs.Hanging.{SameOn}

-- tests of lists
or_left : (a b : Bool) → a ≡ true → a || b ≡ true
or_left true b e = refl
or_left false b e = cc

or_right : (a b : Bool) → b ≡ true → a || b ≡ true
or_right true b e = refl
or_right false b e = e

or_cases : (a b : Bool) → a || b ≡ true → (a ≡ true) ⊎ (b ≡ true)
or_cases true b e = inl refl
or_cases false b e = inr e

pub or_none : (a b : Bool) → a || b ≡ false → (a ≡ false) × (b ≡ false)
or_none true b e = absurd cc
or_none false b e = (refl, e)

pub and_both : (a b : Bool) → a && b ≡ true → (a ≡ true) × (b ≡ true)
and_both true b e = (refl, e)
and_both false b e = absurd cc

pub any_in : {X : Type 0} (p : X → Bool) (xs : List X) (x : X) → In xs x → p x ≡ true → list_any p xs ≡ true
any_in p [] x h e = absurd h
any_in p (y ∷ ys) x (inl same) e = or_left (p y) (list_any p ys) (ap p same ∙ e)
any_in p (y ∷ ys) x (inr h) e = or_right (p y) (list_any p ys) (any_in p ys x h e)

pub record Found {X : Type 0} (p : X → Bool) (xs : List X) : Type 0 where
  pub item : X
  pub there : In xs item
  pub passes : p item ≡ true

any_step : {X : Type 0} (p : X → Bool) (y : X) (ys : List X) → (p y ≡ true) ⊎ (list_any p ys ≡ true) → (list_any p ys ≡ true → Found p ys) → Found p (y ∷ ys)
any_step p y ys (inl e) rest = record { item = y; there = inl refl; passes = e }
any_step p y ys (inr e) rest = let f = rest e in record { item = f.item; there = inr f.there; passes = f.passes }

pub in_any : {X : Type 0} (p : X → Bool) (xs : List X) → list_any p xs ≡ true → Found p xs
in_any p [] e = absurd cc
in_any p (y ∷ ys) e = any_step p y ys (or_cases (p y) (list_any p ys) e) (in_any p ys)

pub none_in : {X : Type 0} (p : X → Bool) (xs : List X) (x : X) → list_any p xs ≡ false → In xs x → p x ≡ false
none_in p [] x e h = absurd h
none_in p (y ∷ ys) x e (inl same) = ap p (sym same) ∙ (or_none (p y) (list_any p ys) e).0
none_in p (y ∷ ys) x e (inr h) = none_in p ys x (or_none (p y) (list_any p ys) e).1 h

pub all_in : {X : Type 0} (p : X → Bool) (xs : List X) (x : X) → list_all p xs ≡ true → In xs x → p x ≡ true
all_in p [] x e h = absurd h
all_in p (y ∷ ys) x e (inl same) = ap p (sym same) ∙ (and_both (p y) (list_all p ys) e).0
all_in p (y ∷ ys) x e (inr h) = all_in p ys x (and_both (p y) (list_all p ys) e).1 h

pub all_are : {X : Type 0} (p : X → Bool) (xs : List X) → ((x : X) → In xs x → p x ≡ true) → list_all p xs ≡ true
all_are p [] each = refl
all_are p (y ∷ ys) each = rw (each y (inl refl)) (all_are p ys (λ x h. each x (inr h)))

-- numbers of sets
pub has-without_number : (n : ℕ) (xs : List ℕ) (c : ℕ) → has (without_number n xs) c ≡ not (nat_eq n c) && has xs c
has-without_number n [] c = by (nat_eq n c)
  where
    by : (b : Bool) → false ≡ not b && false
    by true = refl
    by false = refl
has-without_number n (x ∷ xs) c = elim (cases_eq n x) [
  | inl e ↦ rw (same_number n x e) (has-without_number n xs c ∙ here (nat_eq n c) (nat_eq x c) (has xs c) (ap (λ m. nat_eq m c) e))
  | inr ne ↦ rw (other_number n x ne) (ap (λ b. nat_eq x c || b) (has-without_number n xs c)
      ∙ there (nat_eq n c) (nat_eq x c) (has xs c) (λ e e'. ne (equal n c e ∙ sym (equal x c e'))))
]
  where
    equal : (a b : ℕ) → nat_eq a b ≡ true → a ≡ b
    equal a b e = grind (arith, nat_tests)

    here : (a b r : Bool) → a ≡ b → not a && r ≡ not a && (b || r)
    here true b r e = refl
    here false true r e = absurd cc
    here false false r e = refl

    there : (a b r : Bool) → (a ≡ true → b ≡ true → ⊥) → b || (not a && r) ≡ not a && (b || r)
    there true true r ne = absurd (ne refl refl)
    there true false r ne = refl
    there false true r ne = refl
    there false false r ne = refl

pub has-agreeing : (fixing : Fixing) (set : List ℕ) (c : ℕ) → has (agreeing fixing set) c ≡ not (has fixing.absent c) && (has fixing.present c || has set c)
has-agreeing fixing set c = has-filter (λ d. not (has fixing.absent d)) (with_numbers fixing.present set) c
    ∙ ap (λ b. not (has fixing.absent c) && b) (has-with_numbers fixing.present set c)

or_false : (b : Bool) → b || false ≡ b
or_false true = refl
or_false false = refl

pub has-as_set : (xs : List ℕ) (c : ℕ) → has (as_set xs) c ≡ has xs c
has-as_set xs c = has-with_numbers xs [] c ∙ or_false (has xs c)

pub ascending-as_set : (xs : List ℕ) → IsAscending (as_set xs)
ascending-as_set xs = ascending_with_numbers xs [] tt

-- sets with the same numbers are one set
pub as_set-same : (xs ys : List ℕ) → ((c : ℕ) → has xs c ≡ has ys c) → as_set xs ≡ as_set ys
as_set-same xs ys same = one_list (as_set xs) (as_set ys) (ascending-as_set xs) (ascending-as_set ys) (λ c. has-as_set xs c ∙ same c ∙ sym (has-as_set ys c))

pub as_set-ascending : (xs : List ℕ) → IsAscending xs → as_set xs ≡ xs
as_set-ascending xs up = one_list (as_set xs) xs (ascending-as_set xs) up (has-as_set xs)

-- what the enumeration of sets has
cond_case : (b : Bool) (c : ℕ) (rest : List ℕ) (sets : List (List ℕ)) → In sets rest
    → In (map (λ (set : List ℕ). c ∷ set) sets ++ sets) (cond b (c ∷ rest) rest)
cond_case true c rest sets h = in_left (map (λ (set : List ℕ). c ∷ set) sets) sets (c ∷ rest) (in_map (λ (set : List ℕ). c ∷ set) sets rest h)
cond_case false c rest sets h = in_right (map (λ (set : List ℕ). c ∷ set) sets) sets rest h

pub filtered_in : (p : ℕ → Bool) (universe : List ℕ) → In (sets_of universe) (filter p universe)
unfolding sets_of
filtered_in p [] = inl refl
filtered_in p (c ∷ cs) = cond_case (p c) c (filter p cs) (sets_of cs) (filtered_in p cs)

-- the communities of the universe that a set has
abbrev pub named : List ℕ → List ℕ → List ℕ
named universe set = filter (has set) universe

and_true : (a b : Bool) → b ≡ true → a && b ≡ a
and_true true b e = e
and_true false b e = refl

pub named_same : (universe set : List ℕ) → SameOn universe (named universe set) set
named_same universe set = record { same = λ c known. has-filter (has set) universe c ∙ and_true (has set c) (has universe c) known }

pub same_back : (universe a b : List ℕ) → SameOn universe a b → SameOn universe b a
same_back universe a b s = record { same = λ c known. sym (s.same c known) }

pub same_on : (universe a b c : List ℕ) → SameOn universe a b → SameOn universe b c → SameOn universe a c
same_on universe a b d s t = record { same = λ c known. s.same c known ∙ t.same c known }

pub same_sets : (universe a b : List ℕ) → ((c : ℕ) → has a c ≡ has b c) → SameOn universe a b
same_sets universe a b same = record { same = λ c known. same c }

pub with_same_on : (universe a b : List ℕ) (n : ℕ) → SameOn universe a b → SameOn universe (with_number n a) (with_number n b)
with_same_on universe a b n s = record { same = λ c known. has-with_number n a c ∙ ap (λ x. nat_eq n c || x) (s.same c known) ∙ sym (has-with_number n b c) }

pub without_same_on : (universe a b : List ℕ) (n : ℕ) → SameOn universe a b → SameOn universe (without_number n a) (without_number n b)
without_same_on universe a b n s = record {
  same = λ c known. has-without_number n a c ∙ ap (λ x. not (nat_eq n c) && x) (s.same c known)
      ∙ sym (has-without_number n b c);
}

pub agreeing_same_on : (universe a b : List ℕ) (fixing : Fixing) → SameOn universe a b → SameOn universe (agreeing fixing a) (agreeing fixing b)
agreeing_same_on universe a b fixing s = record {
  same = λ c known. has-agreeing fixing a c
      ∙ ap (λ x. not (has fixing.absent c) && (has fixing.present c || x)) (s.same c known) ∙ sym (has-agreeing fixing b c);
}

-- putting in what a set has, and taking out what it has not
pub with_there : (n : ℕ) (set : List ℕ) → has set n ≡ true → (c : ℕ) → has (with_number n set) c ≡ has set c
with_there n set e c = has-with_number n set c ∙ elim (cases_eq n c) as (λ _. nat_eq n c || has set c ≡ has set c) [
  | inl same ↦ rw (same_number n c same) (sym (ap (has set) (sym same) ∙ e))
  | inr ne ↦ rw (other_number n c ne) refl
]

pub without_absent : (n : ℕ) (set : List ℕ) → has set n ≡ false → (c : ℕ) → has (without_number n set) c ≡ has set c
without_absent n set e c = has-without_number n set c ∙ elim (cases_eq n c) as (λ _. not (nat_eq n c) && has set c ≡ has set c) [
  | inl same ↦ rw (same_number n c same) (sym (ap (has set) (sym same) ∙ e))
  | inr ne ↦ rw (other_number n c ne) refl
]

-- a fixing that fixes one more, on a set made to have it or not
pub present_first : (fixing : Fixing) (x : ℕ) (set : List ℕ) → has fixing.absent x ≡ false → (c : ℕ)
    → has (agreeing (with_present x fixing) set) c ≡ has (agreeing fixing (with_number x set)) c
present_first fixing x set free c =
    has-agreeing (with_present x fixing) set c
    ∙ ap (λ b. not (has fixing.absent c) && (b || has set c)) (has-with_number x fixing.present c)
    ∙ swap (not (has fixing.absent c)) (nat_eq x c) (has fixing.present c) (has set c)
    ∙ ap (λ b. not (has fixing.absent c) && (has fixing.present c || b)) (sym (has-with_number x set c))
    ∙ sym (has-agreeing fixing (with_number x set) c)
  where
    swap : (a n p s : Bool) → a && ((n || p) || s) ≡ a && (p || (n || s))
    swap true true true s = refl
    swap true true false s = refl
    swap true false p s = refl
    swap false n p s = refl

pub absent_first : (fixing : Fixing) (x : ℕ) (set : List ℕ) → has fixing.present x ≡ false → (c : ℕ)
    → has (agreeing (with_absent x fixing) set) c ≡ has (agreeing fixing (without_number x set)) c
absent_first fixing x set free c =
    has-agreeing (with_absent x fixing) set c
    ∙ ap (λ b. not b && (has fixing.present c || has set c)) (has-with_number x fixing.absent c)
    ∙ by (nat_eq x c) (has fixing.absent c) (has fixing.present c) (has set c) (λ e. ap (has fixing.present) (sym (equal x c e)) ∙ free)
    ∙ ap (λ b. not (has fixing.absent c) && (has fixing.present c || b)) (sym (has-without_number x set c))
    ∙ sym (has-agreeing fixing (without_number x set) c)
  where
    equal : (a b : ℕ) → nat_eq a b ≡ true → a ≡ b
    equal a b e = grind (arith, nat_tests)

    by : (n a p s : Bool) → (n ≡ true → p ≡ false) → not (n || a) && (p || s) ≡ not a && (p || (not n && s))
    by true true p s e = refl
    by true false true s e = let f = e refl in absurd cc
    by true false false s e = refl
    by false a p s e = refl

-- a set that agrees is left as it is
pub record Agrees (fixing : Fixing) (set : List ℕ) : Type 0 where
  pub present : (c : ℕ) → has fixing.present c ≡ true → has set c ≡ true
  pub absent : (c : ℕ) → has fixing.absent c ≡ true → has set c ≡ false

pub agreeing_stays : (fixing : Fixing) (set : List ℕ) → Agrees fixing set → (c : ℕ) → has (agreeing fixing set) c ≡ has set c
agreeing_stays fixing set agrees c = has-agreeing fixing set c
    ∙ by (has fixing.absent c) (has fixing.present c) (has set c) (agrees.present c) (agrees.absent c)
  where
    by : (a p s : Bool) → (p ≡ true → s ≡ true) → (a ≡ true → s ≡ false) → not a && (p || s) ≡ s
    by true p s f g = sym (g refl)
    by false true s f g = sym (f refl)
    by false false s f g = refl
