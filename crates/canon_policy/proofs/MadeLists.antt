-- Lists that loops over tables make, one case more at a time.
use Rattle.std.proofs.Common.{◌≡◌, ◌≢◌, ℕ, zero, suc, ◌+◌, ◌<◌, Bool, true, false, not, ◌&&◌, nat_eq, List, [], ◌∷◌, ◌++◌, length, take, drop, get_or, filter, map, Some, refl, sym, ◌∙◌, ap, arith}
use Rattle.std.specs.Prelude.{if◌then◌else◌}
use Rattle.std.proofs.lemmas.List.{take_more}
use Rattle.std.proofs.lemmas.Bool.Decides.{nat_tests}
use Rattle.base_kit.specs.declared.ids.Community.{Community}
use Rattle.base_kit.specs.Sets.{AllAbove, IsAscending}
use Rattle.dd_core.specs.Sets.{Shown, value_of}
use Rattle.policy_dd.specs.Edge.{by_number, keys_of}
use Rattle.canon_policy.specs.declared.fixing.Fixing.{Fixing}
use Rattle.cfg_ast.specs.declared.policy.CommunityLine.{CommunityLine}
use Rattle.canon_policy.specs.Entries.{alone}
use Rattle.canon_policy.specs.Made.{nodes_of, carried_in, is_out, deleted_in, lp_in, count_in}
use Rattle.canon_policy.specs.Nodes.{AreInside}

no_case : Community × ℕ
no_case = (record { 0 = 0 }, 0)

-- the item of a slice is the one at its place
pub item_at : {X : Type 0} (xs : List X) (i : ℕ) (x d : X) → i < length xs → x ≡ get_or xs i x → x ≡ get_or xs i d
item_at [] i x d lt e = absurd (omega arith)
item_at (y ∷ ys) zero x d lt e = e
item_at (y ∷ ys) (suc i) x d lt e = item_at ys i x d (omega arith) e

pub taken : {X : Type 0} (xs : List X) (i : ℕ) (x : X) → i < length xs → x ≡ get_or xs i x → take (i + 1) xs ≡ take i xs ++ x ∷ []
taken xs i x lt e = take_more xs i x lt ∙ ap (λ y. take i xs ++ y ∷ []) (sym e)

pub dropped : {X : Type 0} (xs : List X) (i : ℕ) (x : X) → i < length xs → x ≡ get_or xs i x → drop i xs ≡ x ∷ drop (i + 1) xs
dropped [] i x lt e = absurd (omega arith)
dropped (y ∷ ys) zero x lt e = ap (λ z. z ∷ ys) (sym e)
dropped (y ∷ ys) (suc i) x lt e = dropped ys i x (omega arith) e ∙ ap (λ n. x ∷ drop n (y ∷ ys)) (let e' : suc (i + 1) ≡ suc i + 1 = omega arith in e')

-- nodes
pub nodes_more : (xs : List (ℕ × ℕ)) (x : ℕ × ℕ) → nodes_of (xs ++ x ∷ []) ≡ nodes_of xs ++ x.1 ∷ []
nodes_more [] x = refl
nodes_more (y ∷ ys) x = ap (λ (l : List ℕ). y.1 ∷ l) (nodes_more ys x)

pub outs_more : (xs : List (Community × ℕ)) (x : Community × ℕ) → nodes_of (by_number (xs ++ x ∷ [])) ≡ nodes_of (by_number xs) ++ x.1 ∷ []
outs_more [] x = refl
outs_more (y ∷ ys) x = ap (λ (l : List ℕ). y.1 ∷ l) (outs_more ys x)

pub pair_inside : (shown : Shown) (xs : List (ℕ × ℕ)) (i : ℕ) (x : ℕ × ℕ) → i < length xs → x ≡ get_or xs i x → AreInside shown (nodes_of xs)
    → x.1 < length shown.nodes
pair_inside shown [] i x lt e all = absurd (omega arith)
pair_inside shown (y ∷ ys) zero x lt e all = rw e all.0
pair_inside shown (y ∷ ys) (suc i) x lt e all = pair_inside shown ys i x (omega arith) e all.1

pub case_inside : (shown : Shown) (xs : List (Community × ℕ)) (i : ℕ) (x : Community × ℕ) → i < length xs → x ≡ get_or xs i x
    → AreInside shown (nodes_of (by_number xs)) → x.1 < length shown.nodes
case_inside shown [] i x lt e all = absurd (omega arith)
case_inside shown (y ∷ ys) zero x lt e all = rw e all.0
case_inside shown (y ∷ ys) (suc i) x lt e all = case_inside shown ys i x (omega arith) e all.1

-- communities
cons_cond : (b : Bool) (y : ℕ) (xs ys : List ℕ) → xs ≡ ys → (if b then y ∷ xs else xs) ≡ (if b then y ∷ ys else ys)
cons_cond true y xs ys e = ap (λ (l : List ℕ). y ∷ l) e
cons_cond false y xs ys e = e

cond_push : (b : Bool) (y : ℕ) (xs more : List ℕ) → (if b then y ∷ (xs ++ more) else xs ++ more) ≡ (if b then y ∷ xs else xs) ++ more
cond_push true y xs more = refl
cond_push false y xs more = refl

pub carried_more : (shown : Shown) (set : List ℕ) (xs : List (Community × ℕ)) (x : Community × ℕ)
    → carried_in shown set (xs ++ x ∷ []) ≡ carried_in shown set xs ++ (if value_of shown set x.1 then x.0.0 ∷ [] else [])
carried_more shown set [] x = refl
carried_more shown set (y ∷ ys) x =
    cons_cond (value_of shown set y.1) y.0.0 (carried_in shown set (ys ++ x ∷ []))
    (carried_in shown set ys ++ (if value_of shown set x.1 then x.0.0 ∷ [] else [])) (carried_more shown set ys x)
    ∙ cond_push (value_of shown set y.1) y.0.0 (carried_in shown set ys) (if value_of shown set x.1 then x.0.0 ∷ [] else [])

pub deleted_more : (shown : Shown) (fixing : Fixing) (xs : List (Community × ℕ)) (x : Community × ℕ)
    → deleted_in shown fixing (xs ++ x ∷ []) ≡ deleted_in shown fixing xs ++ (if is_out shown fixing x then x.0.0 ∷ [] else [])
deleted_more shown fixing [] x = refl
deleted_more shown fixing (y ∷ ys) x =
    cons_cond (is_out shown fixing y) y.0.0 (deleted_in shown fixing (ys ++ x ∷ []))
    (deleted_in shown fixing ys ++ (if is_out shown fixing x then x.0.0 ∷ [] else [])) (deleted_more shown fixing ys x)
    ∙ cond_push (is_out shown fixing y) y.0.0 (deleted_in shown fixing ys) (if is_out shown fixing x then x.0.0 ∷ [] else [])

pub filter_more : (p : ℕ → Bool) (xs : List ℕ) (x : ℕ) → filter p (xs ++ x ∷ []) ≡ filter p xs ++ (if p x then x ∷ [] else [])
filter_more p [] x = refl
filter_more p (y ∷ ys) x =
    cons_cond (p y) y (filter p (ys ++ x ∷ [])) (filter p ys ++ (if p x then x ∷ [] else [])) (filter_more p ys x)
    ∙ cond_push (p y) y (filter p ys) (if p x then x ∷ [] else [])

pub alone_more : (xs : List ℕ) (x : ℕ) → map alone (xs ++ x ∷ []) ≡ map alone xs ++ alone x ∷ []
alone_more [] x = refl
alone_more (y ∷ ys) x = ap (λ (l : List CommunityLine). alone y ∷ l) (alone_more ys x)

-- numbers
number_is : (a b : ℕ) → nat_eq a b ≡ true → a ≡ b
number_is a b e = grind (arith, nat_tests)

number_equal : (a b : ℕ) → a ≡ b → nat_eq a b ≡ true
number_equal a b e = grind (arith, nat_tests)

pub lp_here : (shown : Shown) (set : List ℕ) (x : ℕ × ℕ) (xs : List (ℕ × ℕ)) → x.0 ≢ 100 → value_of shown set x.1 ≡ true → lp_in shown set (x ∷ xs) ≡ Some x.0
lp_here shown set x xs ne e = by (nat_eq x.0 100) refl (value_of shown set x.1) e
  where
    by : (b : Bool) → nat_eq x.0 100 ≡ b → (v : Bool) → v ≡ true → (if not b && v then Some x.0 else lp_in shown set xs) ≡ Some x.0
    by true is v e = absurd (ne (number_is x.0 100 is))
    by false is true e = refl
    by false is false e = absurd cc

pub lp_later : (shown : Shown) (set : List ℕ) (x : ℕ × ℕ) (xs : List (ℕ × ℕ)) → (x.0 ≢ 100 → value_of shown set x.1 ≡ true → ⊥)
    → lp_in shown set (x ∷ xs) ≡ lp_in shown set xs
lp_later shown set x xs none = by (nat_eq x.0 100) refl (value_of shown set x.1) refl
  where
    by : (b : Bool) → nat_eq x.0 100 ≡ b → (v : Bool) → value_of shown set x.1 ≡ v → (if not b && v then Some x.0 else lp_in shown set xs) ≡ lp_in shown set xs
    by true is v e = refl
    by false is true e = absurd (none (λ same. let yes = number_equal x.0 100 same in cc) e)
    by false is false e = refl

pub count_here : (shown : Shown) (set : List ℕ) (x : ℕ × ℕ) (xs : List (ℕ × ℕ)) → value_of shown set x.1 ≡ true → count_in shown set (x ∷ xs) ≡ x.0
count_here shown set x xs e = rw e refl

pub count_later : (shown : Shown) (set : List ℕ) (x : ℕ × ℕ) (xs : List (ℕ × ℕ)) → value_of shown set x.1 ≡ false
    → count_in shown set (x ∷ xs) ≡ count_in shown set xs
count_later shown set x xs e = rw e refl

-- what is carried ascends
above_carried : (shown : Shown) (set : List ℕ) (n : ℕ) (xs : List (Community × ℕ)) → AllAbove n (keys_of (by_number xs)) → AllAbove n (carried_in shown set xs)
above_carried shown set n [] all = tt
above_carried shown set n (x ∷ xs) all = by (value_of shown set x.1) (above_carried shown set n xs all.1)
  where
    by : (b : Bool) → AllAbove n (carried_in shown set xs) → AllAbove n (if b then x.0.0 ∷ carried_in shown set xs else carried_in shown set xs)
    by true rest = (all.0, rest)
    by false rest = rest

pub ascending_carried : (shown : Shown) (set : List ℕ) (xs : List (Community × ℕ)) → IsAscending (keys_of (by_number xs))
    → IsAscending (carried_in shown set xs)
ascending_carried shown set [] up = tt
ascending_carried shown set (x ∷ xs) up = by (value_of shown set x.1) (ascending_carried shown set xs up.1)
  where
    by : (b : Bool) → IsAscending (carried_in shown set xs) → IsAscending (if b then x.0.0 ∷ carried_in shown set xs else carried_in shown set xs)
    by true rest = (above_carried shown set x.0.0 xs up.0, rest)
    by false rest = rest

-- steps of the loops
pub more_carried : (shown : Shown) (set : List ℕ) (xs : List (Community × ℕ)) (i : ℕ) (x : Community × ℕ) (old new : List ℕ) → i < length xs → x ≡ get_or xs i x
    → old ≡ carried_in shown set (take i xs) → value_of shown set x.1 ≡ true → new ≡ old ++ x.0.0 ∷ [] → new ≡ carried_in shown set (take (i + 1) xs)
more_carried shown set xs i x old new lt e is holds made =
    made ∙ ap (λ (l : List ℕ). l ++ x.0.0 ∷ []) is
    ∙ sym (ap (λ (l : List (Community × ℕ)). carried_in shown set l) (taken xs i x lt e) ∙ carried_more shown set (take i xs) x
    ∙ ap (λ (b : Bool). carried_in shown set (take i xs) ++ (if b then x.0.0 ∷ [] else [])) holds)

pub none_carried : (shown : Shown) (set : List ℕ) (xs : List (Community × ℕ)) (i : ℕ) (x : Community × ℕ) (old : List ℕ) → i < length xs → x ≡ get_or xs i x
    → old ≡ carried_in shown set (take i xs) → value_of shown set x.1 ≡ false → old ≡ carried_in shown set (take (i + 1) xs)
none_carried shown set xs i x old lt e is holds =
    is ∙ sym (append_none (carried_in shown set (take i xs)))
    ∙ sym (ap (λ (l : List (Community × ℕ)). carried_in shown set l) (taken xs i x lt e) ∙ carried_more shown set (take i xs) x
    ∙ ap (λ (b : Bool). carried_in shown set (take i xs) ++ (if b then x.0.0 ∷ [] else [])) holds)
  where
    append_none : (l : List ℕ) → l ++ [] ≡ l
    append_none [] = refl
    append_none (y ∷ ys) = ap (λ (l : List ℕ). y ∷ l) (append_none ys)

pub more_deleted : (shown : Shown) (fixing : Fixing) (xs : List (Community × ℕ)) (i : ℕ) (x : Community × ℕ) (old new : List ℕ) → i < length xs
    → x ≡ get_or xs i x → old ≡ deleted_in shown fixing (take i xs) → is_out shown fixing x ≡ true → new ≡ old ++ x.0.0 ∷ []
    → new ≡ deleted_in shown fixing (take (i + 1) xs)
more_deleted shown fixing xs i x old new lt e is holds made =
    made ∙ ap (λ (l : List ℕ). l ++ x.0.0 ∷ []) is
    ∙ sym (ap (λ (l : List (Community × ℕ)). deleted_in shown fixing l) (taken xs i x lt e) ∙ deleted_more shown fixing (take i xs) x
    ∙ ap (λ (b : Bool). deleted_in shown fixing (take i xs) ++ (if b then x.0.0 ∷ [] else [])) holds)

pub none_deleted : (shown : Shown) (fixing : Fixing) (xs : List (Community × ℕ)) (i : ℕ) (x : Community × ℕ) (old : List ℕ) → i < length xs → x ≡ get_or xs i x
    → old ≡ deleted_in shown fixing (take i xs) → is_out shown fixing x ≡ false → old ≡ deleted_in shown fixing (take (i + 1) xs)
none_deleted shown fixing xs i x old lt e is holds =
    is ∙ sym (append_none (deleted_in shown fixing (take i xs)))
    ∙ sym (ap (λ (l : List (Community × ℕ)). deleted_in shown fixing l) (taken xs i x lt e) ∙ deleted_more shown fixing (take i xs) x
    ∙ ap (λ (b : Bool). deleted_in shown fixing (take i xs) ++ (if b then x.0.0 ∷ [] else [])) holds)
  where
    append_none : (l : List ℕ) → l ++ [] ≡ l
    append_none [] = refl
    append_none (y ∷ ys) = ap (λ (l : List ℕ). y ∷ l) (append_none ys)
