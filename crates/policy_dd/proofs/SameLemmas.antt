-- Equal imports have equal diagrams.
use Rattle.std.proofs.Common.{◌≡◌, ℕ, Bool, true, false, ◌&&◌, List, [], ◌∷◌, Option, Some, None, refl, sym, ◌∙◌, ap, subst}
use Rattle.base_kit.specs.Sets.{has, with_number, IsAscending}
use Rattle.base_kit.proofs.Members.{ascending_with}
use Rattle.base_kit.proofs.SetFacts.{same_number, has-with_number, one_list}
use Rattle.route_maps.specs.declared.plain.Imported.{Imported}
use Rattle.dd_core.specs.Sets.{Shown, IsShown, value_of}
use Rattle.dd_core.proofs.DifferLemmas.{same_place_on_sets}
use Rattle.dd_core.proofs.SetLemmas.{outside_of, all_below_outside, has_outside}
use Rattle.policy_dd.specs.declared.edge.EdgeFn.{EdgeFn}
use Rattle.base_kit.specs.declared.ids.Community.{Community}
use Rattle.policy_dd.specs.Edge.{case_or, keys_of, AreCases, never, by_number, carried_by_rest, is_carried, GivesImport, ImportIs, IsOneOf, IsEdgeFn}
use Rattle.policy_dd.specs.Imports.{AreOneImport}
use Rattle.policy_dd.specs.Compare.{HaveEqualParts}
use Rattle.policy_dd.proofs.CaseLemmas.{case_absent, one_cases}

both_true : (a b : Bool) → (a ≡ true → b ≡ true) → (b ≡ true → a ≡ true) → a ≡ b
both_true true b f g = sym (f refl)
both_true false true f g = g refl
both_true false false f g = refl

-- what the set's import says of a key of preferences
pub data IsAnswer (shown : Shown) (a : EdgeFn) (b : EdgeFn) (set : List ℕ) : Type 0 where
  denied : value_of shown set a.permit ≡ false → value_of shown set b.permit ≡ false → IsAnswer shown a b set
  taken : (import : Imported) → GivesImport shown a set import → GivesImport shown b set import → IsAnswer shown a b set

answer_at : (shown : Shown) (a b : EdgeFn) (set : List ℕ) (r s : Option Imported) → r ≡ s → ImportIs shown a set r → ImportIs shown b set s →
    IsAnswer shown a b set
answer_at shown a b set None None e ia ib = denied ia ib
answer_at shown a b set None (Some i) e ia ib = absurd cc
answer_at shown a b set (Some i) None e ia ib = absurd cc
answer_at shown a b set (Some i) (Some j) e ia ib = let same : i ≡ j = cc in taken i ia (rw same ib)

case_values : (shown : Shown) (p q : ℕ) (xs ys : List (ℕ × ℕ)) (set : List ℕ) (v w : ℕ) → IsOneOf shown p xs set → IsOneOf shown q ys set →
    case_or shown set xs v false ≡ true → case_or shown set ys v false ≡ true → case_or shown set xs w false ≡ case_or shown set ys w false
case_values shown p q xs ys set v w one one' x y =
    both_true (case_or shown set xs w false) (case_or shown set ys w false)
    (λ t. let e : v ≡ w = one.one v w x t in rw e at y)
    (λ t. let e : v ≡ w = one'.one v w y t in rw e at x)

module _ (shown : Shown) (store : IsShown shown) (a b : EdgeFn) (f g : List ℕ → Option Imported) (of_a : IsEdgeFn shown a f) (of_b : IsEdgeFn shown b g) where
  answers : AreOneImport f g → (set : List ℕ) → IsAscending set → IsAnswer shown a b set
  answers one set up = answer_at shown a b set (f set) (g set) (one.same set up) (of_a.means set up) (of_b.means set up)

  permit_value : (set : List ℕ) → IsAnswer shown a b set → value_of shown set a.permit ≡ value_of shown set b.permit
  permit_value set (denied x y) = x ∙ sym y
  permit_value set (taken i x y) = x.permit ∙ sym y.permit

  lp_value : (set : List ℕ) (v : ℕ) → IsAscending set → IsAnswer shown a b set → case_or shown set a.lps v false ≡ case_or shown set b.lps v false
  lp_value set v up (denied x y) = (of_a.one_lp set up).implied v x ∙ sym ((of_b.one_lp set up).implied v y)
  lp_value set v up (taken i x y) = case_values shown a.permit b.permit a.lps b.lps set i.lp v (of_a.one_lp set up) (of_b.one_lp set up) x.lp y.lp

  adds_value : (set : List ℕ) (v : ℕ) → IsAscending set → IsAnswer shown a b set → case_or shown set a.adds v false ≡ case_or shown set b.adds v false
  adds_value set v up (denied x y) = (of_a.one_adds set up).implied v x ∙ sym ((of_b.one_adds set up).implied v y)
  adds_value set v up (taken i x y) = case_values shown a.permit b.permit a.adds b.adds set i.adds v (of_a.one_adds set up) (of_b.one_adds set up) x.adds y.adds

  carried_value : (set : List ℕ) (c : ℕ) → IsAscending set → IsAnswer shown a b set → is_carried shown a set c ≡ is_carried shown b set c
  carried_value set c up (denied x y) = of_a.outs_implied set c up x ∙ sym (of_b.outs_implied set c up y)
  carried_value set c up (taken i x y) = sym (x.comms c) ∙ y.comms c

  one_permit : AreOneImport f g → a.permit ≡ b.permit
  one_permit one = same_place_on_sets shown store a.permit b.permit of_a.permit_inside of_b.permit_inside (λ set up. permit_value set (answers one set up))

not_key : (shown : Shown) (a : EdgeFn) (f : List ℕ → Option Imported) → IsEdgeFn shown a f → (b : Bool) →
    has (keys_of (by_number a.outs)) (outside_of shown.universe) ≡ b → has (keys_of (by_number a.outs)) (outside_of shown.universe) ≡ false
not_key shown a f is false e = e
not_key shown a f is true e =
    let known = is.outs_known (outside_of shown.universe) e in
    let none = has_outside (outside_of shown.universe) shown.universe (all_below_outside shown.universe) in
    absurd cc

outside_carried : (shown : Shown) (a : EdgeFn) (f : List ℕ → Option Imported) → IsEdgeFn shown a f → (set : List ℕ) →
    is_carried shown a (with_number (outside_of shown.universe) set) (outside_of shown.universe) ≡ value_of shown (with_number (outside_of shown.universe) set)
    a.rest
outside_carried shown a f is set =
    let out = outside_of shown.universe in
    let none = not_key shown a f is (has (keys_of (by_number a.outs)) out) refl in
    let there : has (with_number (outside_of shown.universe) set) out ≡ true = has-with_number out set out ∙ rw (same_number out out refl) refl in
    case_absent shown (with_number (outside_of shown.universe) set) (by_number a.outs) out
    (carried_by_rest shown a.rest out (with_number (outside_of shown.universe) set)) none ∙ rw there refl

-- tables of communities with equal numbers are equal
abbrev community_of : ℕ → Community
community_of n = record { 0 = n }

community_is : (a b : Community) → a.0 ≡ b.0 → a ≡ b
community_is a b e = ap (λ n. community_of n) e

pub outs_case_is : (x y : Community × ℕ) → x.0.0 ≡ y.0.0 → x.1 ≡ y.1 → x ≡ y
outs_case_is (a, m) (b, n) e e' = let same = community_is a b e in cc

same_heads : (p q : ℕ × ℕ) (xs ys : List (ℕ × ℕ)) → p ∷ xs ≡ q ∷ ys → p ≡ q
same_heads p q xs ys e = cc

same_tails : (p q : ℕ × ℕ) (xs ys : List (ℕ × ℕ)) → p ∷ xs ≡ q ∷ ys → xs ≡ ys
same_tails p q xs ys e = cc

pub one_outs : (xs ys : List (Community × ℕ)) → by_number xs ≡ by_number ys → xs ≡ ys
one_outs [] [] e = refl
one_outs [] (y ∷ ys) e = absurd cc
one_outs (x ∷ xs) [] e = absurd cc
one_outs (x ∷ xs) (y ∷ ys) e =
    let heads : (x.0.0, x.1) ≡ (y.0.0, y.1) = same_heads (x.0.0, x.1) (y.0.0, y.1) (by_number xs) (by_number ys) e in
    let first : x ≡ y = outs_case_is x y (ap (λ (p : ℕ × ℕ). p.0) heads) (ap (λ (p : ℕ × ℕ). p.1) heads) in
    let rest : xs ≡ ys = one_outs xs ys (same_tails (x.0.0, x.1) (y.0.0, y.1) (by_number xs) (by_number ys) e) in
    ap (λ (h : Community × ℕ). h ∷ xs) first ∙ ap (λ (t : List (Community × ℕ)). y ∷ t) rest

module _ (shown : Shown) (store : IsShown shown) (a b : EdgeFn) (f g : List ℕ → Option Imported) (of_a : IsEdgeFn shown a f) (of_b : IsEdgeFn shown b g)
    (one : AreOneImport f g) where
  rest_value : (set : List ℕ) → IsAscending set → value_of shown set a.rest ≡ value_of shown set b.rest
  rest_value set up =
      let out = outside_of shown.universe in
      let none = has_outside out shown.universe (all_below_outside shown.universe) in
      let more : List ℕ = with_number (outside_of shown.universe) set in
      let up' = ascending_with out set up in
      let e1 = of_a.rest set out up none in
      let e2 = of_b.rest set out up none in
      let e3 = permit_value shown store a b f g of_a of_b set (answers shown store a b f g of_a of_b one set up) in
      let e4 = carried_value shown store a b f g of_a of_b more out up' (answers shown store a b f g of_a of_b one more up') in
      let e5 = outside_carried shown a f of_a set in
      let e6 = outside_carried shown b g of_b set in
      let e7 : value_of shown more a.rest ≡ value_of shown more b.rest = sym e5 ∙ e4 ∙ e6 in
      e1 ∙ ap (λ x. x && value_of shown more a.rest) e3 ∙ ap (λ x. value_of shown set b.permit && x) e7 ∙ sym e2

  pub same_rest : a.rest ≡ b.rest
  same_rest = same_place_on_sets shown store a.rest b.rest of_a.rest_inside of_b.rest_inside rest_value

  pub same_permit : a.permit ≡ b.permit
  same_permit = one_permit shown store a b f g of_a of_b one

  pub same_lps : a.lps ≡ b.lps
  same_lps = one_cases shown never a.lps b.lps store of_a.lps of_b.lps
      (record { same = λ key set up. lp_value shown store a b f g of_a of_b set key up (answers shown store a b f g of_a of_b one set up) })

  pub same_adds : a.adds ≡ b.adds
  same_adds = one_cases shown never a.adds b.adds store of_a.adds of_b.adds
      (record { same = λ key set up. adds_value shown store a b f g of_a of_b set key up (answers shown store a b f g of_a of_b one set up) })

  pub same_outs : a.outs ≡ b.outs
  same_outs =
      let outs : AreCases shown (carried_by_rest shown a.rest) (by_number b.outs) =
      subst (λ (r : ℕ). AreCases shown (carried_by_rest shown r) (by_number b.outs)) (sym same_rest) of_b.outs in
      one_outs a.outs b.outs (one_cases shown (carried_by_rest shown a.rest) (by_number a.outs) (by_number b.outs) store of_a.outs outs (record {
        same = λ key set up.
            carried_value shown store a b f g of_a of_b set key up (answers shown store a b f g of_a of_b one set up)
            ∙ ap (λ (r : ℕ). case_or shown set (by_number b.outs) key (carried_by_rest shown r key set)) (sym same_rest);
      }))

abbrev made : ℕ → List ℕ → ℕ → Imported
made lp comms adds = record { lp = lp; comms = comms; adds = adds }

imported_is : (i j : Imported) → i.lp ≡ j.lp → i.comms ≡ j.comms → i.adds ≡ j.adds → i ≡ j
imported_is i j e1 e2 e3 = ap (λ x. made x i.comms i.adds) e1 ∙ ap (λ (x : List ℕ). made j.lp x i.adds) e2 ∙ ap (λ x. made j.lp j.comms x) e3

-- diagrams give one import
accept_one : (shown : Shown) (a : EdgeFn) (set : List ℕ) (i j : Imported) → IsOneOf shown a.permit a.lps set → IsOneOf shown a.permit a.adds set →
    GivesImport shown a set i → GivesImport shown a set j → i ≡ j
accept_one shown a set i j lps adds x y =
    imported_is i j (lps.one i.lp j.lp x.lp y.lp) (one_list i.comms j.comms x.ascending y.ascending (λ c. x.comms c ∙ sym (y.comms c)))
    (adds.one i.adds j.adds x.adds y.adds)

pub import_one : (shown : Shown) (a : EdgeFn) (set : List ℕ) (r s : Option Imported) → IsOneOf shown a.permit a.lps set → IsOneOf shown a.permit a.adds set →
    ImportIs shown a set r → ImportIs shown a set s → r ≡ s
import_one shown a set None None lps adds x y = refl
import_one shown a set None (Some j) lps adds x y = let e = y.permit in absurd cc
import_one shown a set (Some i) None lps adds x y = let e = x.permit in absurd cc
import_one shown a set (Some i) (Some j) lps adds x y = ap (λ (k : Imported). Some k) (accept_one shown a set i j lps adds x y)

abbrev edge_made : ℕ → List (ℕ × ℕ) → List (ℕ × ℕ) → List (Community × ℕ) → ℕ → EdgeFn
edge_made permit lps adds outs rest = record { permit = permit; lps = lps; adds = adds; outs = outs; rest = rest }

edge_is : (a b : EdgeFn) → a.permit ≡ b.permit → a.lps ≡ b.lps → a.adds ≡ b.adds → a.outs ≡ b.outs → a.rest ≡ b.rest → a ≡ b
edge_is a b e1 e2 e3 e4 e5 =
    ap (λ x. edge_made x a.lps a.adds a.outs a.rest) e1 ∙ ap (λ (x : List (ℕ × ℕ)). edge_made b.permit x a.adds a.outs a.rest) e2
    ∙ ap (λ (x : List (ℕ × ℕ)). edge_made b.permit b.lps x a.outs a.rest) e3 ∙ ap (λ (x : List (Community × ℕ)). edge_made b.permit b.lps b.adds x a.rest) e4
    ∙ ap (λ x. edge_made b.permit b.lps b.adds b.outs x) e5

pub one_import : (shown : Shown) (a b : EdgeFn) (f g : List ℕ → Option Imported) → IsEdgeFn shown a f → IsEdgeFn shown b g → HaveEqualParts a b →
    AreOneImport f g
one_import shown a b f g of_a of_b parts =
    let e = edge_is a b parts.permit parts.lps parts.adds parts.outs parts.rest in
    let of_b' : IsEdgeFn shown a g = subst (λ (x : EdgeFn). IsEdgeFn shown x g) (sym e) of_b in
    record { same = λ set up. import_one shown a set (f set) (g set) (of_a.one_lp set up) (of_a.one_adds set up) (of_a.means set up) (of_b'.means set up) }

pub equal_parts : (shown : Shown) → IsShown shown → (a b : EdgeFn) (f g : List ℕ → Option Imported) → IsEdgeFn shown a f → IsEdgeFn shown b g →
    AreOneImport f g → HaveEqualParts a b
equal_parts shown store a b f g of_a of_b one = record {
  permit = same_permit shown store a b f g of_a of_b one;
  rest = same_rest shown store a b f g of_a of_b one;
  lps = same_lps shown store a b f g of_a of_b one;
  adds = same_adds shown store a b f g of_a of_b one;
  outs = same_outs shown store a b f g of_a of_b one;
}
