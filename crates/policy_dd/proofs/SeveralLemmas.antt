-- Which preferences an import can have.
use Rattle.std.proofs.Common.{◌≡◌, ◌≢◌, ℕ, Bool, true, false, not, ◌||◌, nat_eq, List, [], ◌∷◌, Option, Some, None, refl, sym, ◌∙◌, ap, subst, arith, inl, inr, ◌⊎◌}
use Rattle.std.specs.Prelude.{if◌then◌else◌}
use Rattle.std.specs.List.{list_any}
use Rattle.std.proofs.lemmas.Bool.{cases_eq}
use Rattle.std.proofs.lemmas.Bool.Decides.{nat_tests}
use Rattle.base_kit.specs.Sets.{has, AllAbove, IsAscending}
use Rattle.base_kit.proofs.SetFacts.{same_number, other_number}
use Rattle.route_maps.specs.declared.plain.Imported.{Imported}
use Rattle.dd_core.specs.Sets.{Shown, IsShown, Means, value_of}
use Rattle.policy_dd.specs.declared.edge.EdgeFn.{EdgeFn}
use Rattle.policy_dd.specs.Edge.{case_or, IsCase, AllCases, keys_of, never, ImportIs, IsOneOf, IsEdgeFn}
use Rattle.policy_dd.specs.Imports.{DifferInPreference, HaveOnePreference, AcceptsSome, AcceptsNone}
use Rattle.policy_dd.specs.Compare.{key_differs, keys_differ}
use Rattle.policy_dd.proofs.CaseLemmas.{case_here, case_later, case_none}
use Rattle.dd_core.proofs.DifferLemmas.{differ_on_set}

-- on some set the node under the key is true
record IsEntryTaken (shown : Shown) (cases : List (ℕ × ℕ)) (key : ℕ) : Type 0 where
  set : List ℕ
  ascending : IsAscending set
  value : case_or shown set cases key false ≡ true

record TakenOf (shown : Shown) (cases : List (ℕ × ℕ)) (test : ℕ → Bool) : Type 0 where
  key : ℕ
  passes : test key ≡ true
  taken : IsEntryTaken shown cases key

not_false : (b : Bool) → b ≢ false → b ≡ true
not_false true ne = refl
not_false false ne = absurd (ne refl)

taken_first : (shown : Shown) (case : ℕ × ℕ) (cases : List (ℕ × ℕ)) → IsCase shown never case → IsEntryTaken shown (case ∷ cases) case.0
taken_first shown case cases is = record {
  set = is.set;
  ascending = is.ascending;
  value = case_here shown is.set case cases case.0 false refl ∙ not_false (value_of shown is.set case.1) is.differ;
}

taken_later : (shown : Shown) (case : ℕ × ℕ) (cases : List (ℕ × ℕ)) (key : ℕ) → AllAbove case.0 (keys_of cases) → IsEntryTaken shown cases key →
    IsEntryTaken shown (case ∷ cases) key
taken_later shown case cases key up t = record {
  set = t.set;
  ascending = t.ascending;
  value = case_later shown t.set case cases key false (λ e.
      let none = case_none shown t.set case.0 cases key false up (omega arith) in let yes = t.value in absurd cc) ∙ t.value;
}

any_taken : (shown : Shown) (test : ℕ → Bool) (cases : List (ℕ × ℕ)) → IsAscending (keys_of cases) → AllCases shown never cases →
    list_any (λ case. test case.0) cases ≡ true → TakenOf shown cases test
any_taken shown test [] up each any = absurd cc
any_taken shown test (case ∷ cases) up each any = by (test case.0) refl any (any_taken shown test cases up.1 each.1)
  where
    by : (b : Bool) → test case.0 ≡ b → b || list_any (λ (case : ℕ × ℕ). test case.0) cases ≡ true →
        (list_any (λ (case : ℕ × ℕ). test case.0) cases ≡ true → TakenOf shown cases test) → TakenOf shown (case ∷ cases) test
    by true e any rest = record { key = case.0; passes = e; taken = taken_first shown case cases each.0 }
    by false e any rest = let t = rest any in record { key = t.key; passes = t.passes; taken = taken_later shown case cases t.key up.0 t.taken }

record HasImport (f : List ℕ → Option Imported) (set : List ℕ) (key : ℕ) : Type 0 where
  import : Imported
  is : f set ≡ Some import
  lp : import.lp ≡ key

import_at : (shown : Shown) (a : EdgeFn) (f : List ℕ → Option Imported) (set : List ℕ) (key : ℕ) → IsOneOf shown a.permit a.lps set →
    case_or shown set a.lps key false ≡ true → (r : Option Imported) → f set ≡ r → ImportIs shown a set r → HasImport f set key
import_at shown a f set key one taken None e is = let no = one.implied key is in absurd cc
import_at shown a f set key one taken (Some i) e is = record { import = i; is = e; lp = one.one i.lp key is.lp taken }

import_of_taken : (shown : Shown) (a : EdgeFn) (f : List ℕ → Option Imported) → IsEdgeFn shown a f → (key : ℕ) → (t : IsEntryTaken shown a.lps key) →
    HasImport f t.set key
import_of_taken shown a f is key t = import_at shown a f t.set key (is.one_lp t.set t.ascending) t.value (f t.set) refl (is.means t.set t.ascending)

differ_from : (shown : Shown) (a b : EdgeFn) (f g : List ℕ → Option Imported) → IsEdgeFn shown a f → IsEdgeFn shown b g →
    TakenOf shown a.lps (λ key. key_differs key b.lps) → DifferInPreference f g
differ_from shown a b f g of_a of_b t =
    let u : TakenOf shown b.lps (λ key. not (nat_eq key t.key)) =
    any_taken shown (λ key. not (nat_eq key t.key)) b.lps of_b.lps.ascending of_b.lps.each t.passes in
    let x = import_of_taken shown a f of_a t.key t.taken in
    let y = import_of_taken shown b g of_b u.key u.taken in
    let u_set = u.taken.set in
    record {
      set = t.taken.set;
      other = u.taken.set;
      ascending = t.taken.ascending;
      other_ascending = u.taken.ascending;
      first = x.import;
      second = y.import;
      first_is = x.is;
      second_is = y.is;
      differ = λ e.
          let e1 = x.lp in let e2 = y.lp in let same : u.key ≡ t.key = sym e2 ∙ sym e ∙ e1 in
          let yes = same_number u.key t.key same in let no = rw yes at u.passes in absurd cc;
    }

pub several_differ : (shown : Shown) (a b : EdgeFn) (f g : List ℕ → Option Imported) → IsEdgeFn shown a f → IsEdgeFn shown b g →
    keys_differ a.lps b.lps ≡ true → DifferInPreference f g
several_differ shown a b f g of_a of_b differ =
    differ_from shown a b f g of_a of_b (any_taken shown (λ key. key_differs key b.lps) a.lps of_a.lps.ascending of_a.lps.each differ)

case_in : (shown : Shown) (set : List ℕ) (key : ℕ) (cases : List (ℕ × ℕ)) → case_or shown set cases key false ≡ true → has (keys_of cases) key ≡ true
case_in shown set key [] e = e
case_in shown set key (case ∷ cases) e = by (nat_eq case.0 key) refl e (case_in shown set key cases)
  where
    by : (b : Bool) → nat_eq case.0 key ≡ b → (if b then value_of shown set case.1 else case_or shown set cases key false) ≡ true →
        (case_or shown set cases key false ≡ true → has (keys_of cases) key ≡ true) → b || has (keys_of cases) key ≡ true
    by true is e rest = refl
    by false is e rest = rest e

none_of : (test : ℕ → Bool) (cases : List (ℕ × ℕ)) (key : ℕ) → list_any (λ case. test case.0) cases ≡ false → has (keys_of cases) key ≡ true → test key ≡ false
none_of test [] key none there = absurd cc
none_of test (case ∷ cases) key none there = by (test case.0) refl none (cases_eq case.0 key) (none_of test cases key)
  where
    by : (b : Bool) → test case.0 ≡ b → b || list_any (λ (case : ℕ × ℕ). test case.0) cases ≡ false → (case.0 ≡ key) ⊎ (case.0 ≢ key) →
        (list_any (λ (case : ℕ × ℕ). test case.0) cases ≡ false → has (keys_of cases) key ≡ true → test key ≡ false) → test key ≡ false
    by true e none split rest = absurd cc
    by false e none (inl here) rest = sym (ap test here) ∙ e
    by false e none (inr ne) rest = rest none (rw (other_number case.0 key ne) at there)

lp_in : (shown : Shown) (a : EdgeFn) (f : List ℕ → Option Imported) (set : List ℕ) (i : Imported) → IsEdgeFn shown a f → IsAscending set → f set ≡ Some i →
    has (keys_of a.lps) i.lp ≡ true
lp_in shown a f set i is up e =
    let accepts : ImportIs shown a set (Some i) = subst (λ (r : Option Imported). ImportIs shown a set r) e (is.means set up) in
    case_in shown set i.lp a.lps accepts.lp

equal_from : (v w : ℕ) → not (nat_eq w v) ≡ false → v ≡ w
equal_from v w e = grind (arith, nat_tests)

pub one_preference : (shown : Shown) (a b : EdgeFn) (f g : List ℕ → Option Imported) → IsEdgeFn shown a f → IsEdgeFn shown b g →
    keys_differ a.lps b.lps ≡ false → HaveOnePreference f g
one_preference shown a b f g of_a of_b none = record {
  same = λ set other i j up up' e e'.
      let v = none_of (λ key. key_differs key b.lps) a.lps i.lp none (lp_in shown a f set i of_a up e) in
      let w = none_of (λ key. not (nat_eq key i.lp)) b.lps j.lp v (lp_in shown b g other j of_b up' e') in
      equal_from i.lp j.lp w;
}

-- whether any set is accepted
some_at : (shown : Shown) (a : EdgeFn) (f : List ℕ → Option Imported) (set : List ℕ) → IsAscending set → value_of shown set a.permit ≡ true →
    (r : Option Imported) → f set ≡ r → ImportIs shown a set r → AcceptsSome f
some_at shown a f set up permit None e is = absurd cc
some_at shown a f set up permit (Some i) e is = record { set = set; ascending = up; import = i; is = e }

none_at : (shown : Shown) (a : EdgeFn) (set : List ℕ) → value_of shown set a.permit ≡ false → (r : Option Imported) → ImportIs shown a set r → r ≡ None
none_at shown a set permit None is = refl
none_at shown a set permit (Some i) is = let yes = is.permit in absurd cc

pub some_accepted : (shown : Shown) → IsShown shown → (a : EdgeFn) (f : List ℕ → Option Imported) → IsEdgeFn shown a f → (never : ℕ) →
    Means shown never (λ _. false) → a.permit ≢ never → AcceptsSome f
some_accepted shown store a f is never means ne =
    let d = differ_on_set shown store a.permit never is.permit_inside means.inside ne in
    some_at shown a f d.set d.ascending (not_false (value_of shown d.set a.permit) (λ e. d.differ (e ∙ sym (means.value d.set)))) (f d.set) refl
    (is.means d.set d.ascending)

pub none_accepted : (shown : Shown) (a : EdgeFn) (f : List ℕ → Option Imported) → IsEdgeFn shown a f → (never : ℕ) → Means shown never (λ _. false) →
    a.permit ≡ never → AcceptsNone f
none_accepted shown a f is never means e = record {
  none = λ set up. none_at shown a set (ap (value_of shown set) e ∙ means.value set) (f set) (is.means set up);
}
