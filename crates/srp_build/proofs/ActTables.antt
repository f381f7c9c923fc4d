-- Acts of sessions by their functions.
use Rattle.std.proofs.Common.{◌≡◌, ℕ, zero, suc, ◌<◌, Bool, true, false, cond, List, [], ◌∷◌, ◌++◌, inl, inr, length, get_or, slice_get, flat_map, Option, Some, unwrap_or, refl, sym, ◌∙◌, ap, subst, arith}
use Rattle.std.specs.Prelude.{Contains}
use Rattle.std.specs.BTreeMap.{BTreeMap, get, get_by}
use Rattle.std.specs.Cmp.Lexicographic.{slice_cmp}
use Rattle.std.specs.Ordering.{nat_cmp, ordering_then, is_eq}
use Rattle.std.specs.declared.cmp.Ordering.{Ordering}
use Rattle.std.specs.declared.cmp.Ordering.TheVariants.{Less, Equal, Greater}
use Rattle.std.proofs.lemmas.Bool.Decides.{nat_tests}
use Rattle.base_kit.proofs.Elements.{In, contains_in, in_contains, in_left, in_right}
use Rattle.dd_core.specs.Sets.{Shown, IsShown}
use Rattle.policy_dd.specs.declared.edge.EdgeFn.{EdgeFn}
use Rattle.policy_dd.specs.Compare.{OneForm}
use Rattle.srp_build.specs.declared.acts.BgpAct.{BgpAct}
use Rattle.srp_build.specs.BgpActs.{FunctionKey, case_numbers, community_numbers, function_key, function_order, numbers_under, with_number_noted, AreTwoImports, AreUnlike, AreFoundByFunction}
use Rattle.srp_build.proofs.FirstUse.{front_or_last}

pub none_listed : (index : BTreeMap FunctionKey (List ℕ)) → AreFoundByFunction index []
none_listed index = record { each = λ number act key at is. absurd cc }

-- ---- keys that are ordered alike are the same

same_number : (a b : ℕ) → is_eq (nat_cmp a b) ≡ true → a ≡ b
same_number a b e = grind (arith, nat_tests)

own_number : (a : ℕ) → is_eq (nat_cmp a a) ≡ true
own_number a = grind (arith, nat_tests)

both_equal : (x y : Ordering) → is_eq (ordering_then x y) ≡ true → (is_eq x ≡ true) × (is_eq y ≡ true)
both_equal Less y e = absurd cc
both_equal Equal y e = (refl, e)
both_equal Greater y e = absurd cc

then_equal : (x y : Ordering) → is_eq x ≡ true → is_eq y ≡ true → is_eq (ordering_then x y) ≡ true
then_equal Less y e f = absurd cc
then_equal Equal y e f = f
then_equal Greater y e f = absurd cc

one_key : (p q : List ℕ) → is_eq (slice_cmp nat_cmp p q) ≡ true → p ≡ q
one_key [] [] e = refl
one_key [] (y ∷ ys) e = absurd cc
one_key (x ∷ xs) [] e = absurd cc
one_key (x ∷ xs) (y ∷ ys) e =
    let both = both_equal (nat_cmp x y) (slice_cmp nat_cmp xs ys) e in
    let first = same_number x y both.0 in
    let rest = one_key xs ys both.1 in
    (λ j. first j ∷ rest j)

own_key : (p : List ℕ) → is_eq (slice_cmp nat_cmp p p) ≡ true
own_key [] = refl
own_key (x ∷ xs) = then_equal (nat_cmp x x) (slice_cmp nat_cmp xs xs) (own_number x) (own_key xs)

-- ---- acts under the keys of their functions

abbrev pub Notes : BTreeMap FunctionKey (List ℕ) → BTreeMap FunctionKey (List ℕ) → FunctionKey → ℕ → Type 0
Notes old new key number = (q : FunctionKey) → get function_order new q ≡ with_number_noted key number q (get function_order old q)

kept_by : (b : Bool) (known : Option (List ℕ)) (x number : ℕ) → In (unwrap_or known []) number →
    In (unwrap_or (cond b (Some (unwrap_or known [] ++ x ∷ [])) known) []) number
kept_by true known x number at = in_left (unwrap_or known []) (x ∷ []) number at
kept_by false known x number at = at

put_by : (b : Bool) (known : Option (List ℕ)) (x : ℕ) → b ≡ true → In (unwrap_or (cond b (Some (unwrap_or known [] ++ x ∷ [])) known) []) x
put_by true known x e = in_right (unwrap_or known []) (x ∷ []) x (inl refl)
put_by false known x e = absurd cc

-- a list put under a key that is one with a number more than was there
pub list_noted : (index : BTreeMap FunctionKey (List ℕ)) (key q : FunctionKey) (number : ℕ) (numbers : List ℕ) →
    numbers ≡ numbers_under index key ++ number ∷ [] →
    cond (is_eq (function_order key q)) (Some numbers) (get function_order index q) ≡ with_number_noted key number q (get function_order index q)
list_noted index key q number numbers is = by (is_eq (function_order key q)) refl where
  by : (b : Bool) → is_eq (function_order key q) ≡ b →
      cond b (Some numbers) (get function_order index q) ≡ cond b (Some (numbers_under index q ++ number ∷ [])) (get function_order index q)
  by true e = ap Some
      (is ∙ ap (λ (l : List ℕ). unwrap_or (get_by (λ (k : FunctionKey). slice_cmp nat_cmp l k.items) index) [] ++ number ∷ []) (one_key key.items q.items e))
  by false e = refl

-- one more act, which is put under the key of its function
pub listed_next : (old new : BTreeMap FunctionKey (List ℕ)) (acts : List BgpAct) (act : BgpAct) (key : FunctionKey) (number : ℕ) →
    AreFoundByFunction old acts → number ≡ length acts → key.items ≡ function_key act.function → Notes old new key number →
    AreFoundByFunction new (acts ++ act ∷ [])
listed_next old new acts act key number listed next of_act notes = record {
  each = λ place other q at of_other. elim (front_or_last acts act place other at) [
    | inl before ↦ (
        let known = get function_order old q in
        contains_in (numbers_under new q) place (subst (λ (o : Option (List ℕ)). In (unwrap_or o []) place) (sym (notes q))
        (kept_by (is_eq (function_order key q)) known number place (in_contains (numbers_under old q) place (listed.each place other q before of_other)))))
    | inr last ↦ (
        let one : key.items ≡ q.items = of_act ∙ ap (λ (a : BgpAct). function_key a.function) last.1 ∙ sym of_other in
        let equal : is_eq (function_order key q) ≡ true = subst (λ (l : List ℕ). is_eq (slice_cmp nat_cmp key.items l) ≡ true) one (own_key key.items) in
        let here : In (numbers_under new q) number = subst (λ (o : Option (List ℕ)). In (unwrap_or o []) number) (sym (notes q))
        (put_by (is_eq (function_order key q)) (get function_order old q) number equal) in
        contains_in (numbers_under new q) place (subst (λ (k : ℕ). In (numbers_under new q) k) (next ∙ sym last.0) here))
  ];
}

-- a function unlike those that are found by its key is unlike all
pub unlike_all : OneForm → (shown : Shown) → IsShown shown →
    (index : BTreeMap FunctionKey (List ℕ)) (acts : List BgpAct) (function : EdgeFn) (key : FunctionKey) →
    key.items ≡ function_key function → AreFoundByFunction index acts → AreUnlike shown acts (numbers_under index key) function → (other : ℕ) (act : BgpAct) →
    slice_get acts other ≡ Some act → AreTwoImports shown function act.function
unlike_all one_form shown is index acts function key of_function listed unlike other act at = record {
  differ = λ F G imports_f imports_g one.
      let parts = one_form shown function act.function F G is imports_f imports_g one in
      let same_key : function_key function ≡ function_key act.function = (λ j.
      parts.permit j ∷ parts.rest j ∷ length (parts.lps j) ∷ length (parts.adds j)
      ∷ (flat_map case_numbers (parts.lps j) ++ flat_map case_numbers (parts.adds j) ++ flat_map community_numbers (parts.outs j))
      ) in
      (unlike other act (listed.each other act key at (of_function ∙ same_key)) at).differ F G imports_f imports_g one;
}

-- a number of a list is read at its place, whatever stands for places behind its end
pub read_zero : (xs : List ℕ) (k x : ℕ) → k < length xs → get_or xs k x ≡ x → get_or xs k 0 ≡ x
read_zero [] k x inside at = absurd (omega arith)
read_zero (y ∷ ys) zero x inside at = at
read_zero (y ∷ ys) (suc k) x inside at = read_zero ys k x (omega arith) at
