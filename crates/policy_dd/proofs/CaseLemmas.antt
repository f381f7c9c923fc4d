-- Lists of cases that have equal values are equal.
use Rattle.std.proofs.Common.{◌≡◌, ◌≢◌, ℕ, ◌<◌, ◌≤◌, Bool, false, List, [], ◌∷◌, length, refl, sym, ◌∙◌, ap, arith, inl, inr}
use Rattle.std.proofs.lemmas.Bool.{cases_order, cases_eq}
use Rattle.base_kit.specs.Sets.{has, AllAbove, IsAscending}
use Rattle.base_kit.proofs.SetFacts.{same_number, other_number}
use Rattle.dd_core.specs.Sets.{Shown, IsShown, value_of}
use Rattle.dd_core.proofs.DifferLemmas.{same_place_on_sets, differ_on_set}
use Rattle.policy_dd.specs.Edge.{case_or, IsCase, keys_of, AreCases}

pub case_here : (shown : Shown) (set : List ℕ) (case : ℕ × ℕ) (cases : List (ℕ × ℕ)) (key : ℕ) (other : Bool) → case.0 ≡ key →
    case_or shown set (case ∷ cases) key other ≡ value_of shown set case.1
case_here shown set case cases key other e = rw (same_number case.0 key e) refl

pub case_later : (shown : Shown) (set : List ℕ) (case : ℕ × ℕ) (cases : List (ℕ × ℕ)) (key : ℕ) (other : Bool) → case.0 ≢ key →
    case_or shown set (case ∷ cases) key other ≡ case_or shown set cases key other
case_later shown set case cases key other ne = rw (other_number case.0 key ne) refl

-- a key that no case has
pub case_none : (shown : Shown) (set : List ℕ) (n : ℕ) (cases : List (ℕ × ℕ)) (key : ℕ) (other : Bool) → AllAbove n (keys_of cases) → key ≤ n →
    case_or shown set cases key other ≡ other
case_none shown set n [] key other all le = refl
case_none shown set n (case ∷ cases) key other all le =
    let lt = all.0 in
    case_later shown set case cases key other (omega arith) ∙ case_none shown set n cases key other all.1 le

pub case_absent : (shown : Shown) (set : List ℕ) (cases : List (ℕ × ℕ)) (key : ℕ) (other : Bool) → has (keys_of cases) key ≡ false →
    case_or shown set cases key other ≡ other
case_absent shown set [] key other none = refl
case_absent shown set (case ∷ cases) key other none = elim (cases_eq case.0 key) [
  | inl e ↦ let yes = same_number case.0 key e in absurd (let no = rw yes at none in cc)
  | inr ne ↦ case_later shown set case cases key other ne ∙ case_absent shown set cases key other (rw (other_number case.0 key ne) at none)
]

above_less : (m n : ℕ) (xs : List ℕ) → m < n → AllAbove n xs → AllAbove m xs
above_less m n [] lt all = tt
above_less m n (x ∷ xs) lt all = (let gt = all.0 in omega arith, above_less m n xs lt all.1)

-- equal values under every key on every set
pub record AgreeOnCases (shown : Shown) (other : ℕ → List ℕ → Bool) (xs ys : List (ℕ × ℕ)) : Type 0 where
  pub same : (key : ℕ) (set : List ℕ) → IsAscending set → case_or shown set xs key (other key set) ≡ case_or shown set ys key (other key set)

swap_agree : (shown : Shown) (other : ℕ → List ℕ → Bool) (xs ys : List (ℕ × ℕ)) → AgreeOnCases shown other xs ys → AgreeOnCases shown other ys xs
swap_agree shown other xs ys agree = record { same = λ key set up. sym (agree.same key set up) }

-- the first case of one list has a key that all of the other list lack
case_missing : (shown : Shown) (other : ℕ → List ℕ → Bool) (case : ℕ × ℕ) (xs ys : List (ℕ × ℕ)) → IsCase shown other case →
    AgreeOnCases shown other (case ∷ xs) ys → AllAbove case.0 (keys_of ys) → ⊥
case_missing shown other case xs ys is agree up =
    is.differ (sym (case_here shown is.set case xs case.0 (other case.0 is.set) refl) ∙ agree.same case.0 is.set is.ascending
    ∙ case_none shown is.set case.0 ys case.0 (other case.0 is.set) up (omega arith))

tails_agree : (shown : Shown) (other : ℕ → List ℕ → Bool) (x y : ℕ × ℕ) (xs ys : List (ℕ × ℕ)) → x.0 ≡ y.0 → AllAbove x.0 (keys_of xs) →
    AllAbove y.0 (keys_of ys) → AgreeOnCases shown other (x ∷ xs) (y ∷ ys) → AgreeOnCases shown other xs ys
tails_agree shown other x y xs ys e up up' agree = record {
  same = λ key set asc. elim (cases_eq x.0 key) [
    | inl here ↦ case_none shown set x.0 xs key (other key set) up (omega arith) ∙ sym (case_none shown set y.0 ys key (other key set) up' (omega arith))
    | inr ne ↦ sym (case_later shown set x xs key (other key set) ne) ∙ agree.same key set asc
        ∙ case_later shown set y ys key (other key set) (λ e'. ne (e ∙ e'))
  ];
}

-- first cases of one key have one node
one_node : (shown : Shown) (other : ℕ → List ℕ → Bool) (x y : ℕ × ℕ) (xs ys : List (ℕ × ℕ)) → IsShown shown → IsCase shown other x → IsCase shown other y →
    x.0 ≡ y.0 → AgreeOnCases shown other (x ∷ xs) (y ∷ ys) → x.1 ≡ y.1
one_node shown other x y xs ys store is is' e agree =
    same_place_on_sets shown store x.1 y.1 is.inside is'.inside (λ set asc.
    sym (case_here shown set x xs x.0 (other x.0 set) refl) ∙ agree.same x.0 set asc ∙ case_here shown set y ys x.0 (other x.0 set) (sym e))

pub pair_is : (x y : ℕ × ℕ) → x.0 ≡ y.0 → x.1 ≡ y.1 → x ≡ y
pair_is (a, b) (c, d) e e' = cc

pub one_cases : (shown : Shown) (other : ℕ → List ℕ → Bool) (xs ys : List (ℕ × ℕ)) → IsShown shown → AreCases shown other xs → AreCases shown other ys →
    AgreeOnCases shown other xs ys → xs ≡ ys
one_cases shown other [] [] store is is' agree = refl
one_cases shown other [] (y ∷ ys) store is is' agree = absurd (case_missing shown other y ys [] is'.each.0 (swap_agree shown other [] (y ∷ ys) agree) tt)
one_cases shown other (x ∷ xs) [] store is is' agree = absurd (case_missing shown other x xs [] is.each.0 agree tt)
one_cases shown other (x ∷ xs) (y ∷ ys) store is is' agree = elim (cases_order x.0 y.0) [
  | inl e ↦
      let first = pair_is x y e (one_node shown other x y xs ys store is.each.0 is'.each.0 e agree) in
      let rest = one_cases shown other xs ys store (record { ascending = is.ascending.1; each = is.each.1 })
      (record { ascending = is'.ascending.1; each = is'.each.1 }) (tails_agree shown other x y xs ys e is.ascending.0 is'.ascending.0 agree) in
      cc
  | inr (inl l) ↦ absurd (case_missing shown other x xs (y ∷ ys) is.each.0 agree (l, above_less x.0 y.0 (keys_of ys) l is'.ascending.0))
  | inr (inr g) ↦ absurd (case_missing shown other y ys (x ∷ xs) is'.each.0 (swap_agree shown other (x ∷ xs) (y ∷ ys) agree)
      (g, above_less y.0 x.0 (keys_of xs) g is.ascending.0))
]

-- a case whose number is not that of the node which a key without a case stands for: what `limit` and the filter of `outs` need
pub case_from_numbers : (shown : Shown) (other : ℕ → List ℕ → Bool) (key place default : ℕ) → IsShown shown → place < length shown.nodes →
    default < length shown.nodes → place ≢ default → ((set : List ℕ) → IsAscending set → value_of shown set default ≡ other key set) →
    IsCase shown other (key, place)
case_from_numbers shown other key place default is inside inside' ne same =
    let d = differ_on_set shown is place default inside inside' ne in
    record { inside = inside; set = d.set; ascending = d.ascending; differ = λ e. d.differ (e ∙ sym (same d.set d.ascending)) }

-- and where the numbers are equal, leaving the case out changes nothing
pub case_left_out : (shown : Shown) (set : List ℕ) (case : ℕ × ℕ) (cases : List (ℕ × ℕ)) (key default : ℕ) (other : ℕ → List ℕ → Bool) →
    AllAbove case.0 (keys_of cases) → case.1 ≡ default → value_of shown set default ≡ other case.0 set →
    case_or shown set (case ∷ cases) key (other key set) ≡ case_or shown set cases key (other key set)
case_left_out shown set case cases key default other up e same = elim (cases_eq case.0 key) [
  | inl here ↦ case_here shown set case cases key (other key set) here ∙ ap (value_of shown set) e ∙ same ∙ ap (λ n. other n set) here
      ∙ sym (case_none shown set case.0 cases key (other key set) up (omega arith))
  | inr ne ↦ case_later shown set case cases key (other key set) ne
]
