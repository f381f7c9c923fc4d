-- The least community on which a part depends.
use Rattle.std.proofs.Common.{◌≡◌, ◌≢◌, ℕ, Bool, true, false, not, ◌&&◌, ◌||◌, cond, List, [], ◌∷◌, filter, nat_eq, Some, None, refl, sym, ◌∙◌, ap, arith, inl, inr, ◌⊎◌}
use Rattle.std.specs.Prelude.{find}
use Rattle.std.proofs.lemmas.Bool.{cases_eq}
use Rattle.std.proofs.lemmas.Bool.Decides.{nat_tests}
use Rattle.base_kit.specs.Sets.{has, with_number, without_number}
use Rattle.base_kit.proofs.SetFacts.{same_number, other_number, has-with_number}
use Rattle.base_kit.proofs.Elements.{In}
use Rattle.canon_policy.specs.declared.fixing.Fixing.{Fixing}
use Rattle.canon_policy.specs.Fixings.{agreeing, sets_of, differs, depends, least}
use Rattle.canon_policy.specs.Hanging.{NumberHangsOn}
use Rattle.canon_policy.proofs.SameSets.{any_in, in_any, none_in, filtered_in, named, named_same, same_back, same_sets, with_same_on, without_same_on, agreeing_same_on, with_there, without_absent, has-agreeing, has-without_number}

pub in_has : (xs : List ℕ) (x : ℕ) → In xs x → has xs x ≡ true
in_has xs x h = any_in (λ other. nat_eq other x) xs x h (same_number x x refl)

pub equal : (a b : ℕ) → nat_eq a b ≡ true → a ≡ b
equal a b e = grind (arith, nat_tests)

pub has_in : (xs : List ℕ) (x : ℕ) → has xs x ≡ true → In xs x
has_in xs x e =
    let f = in_any (λ other. nat_eq other x) xs e in
    rw (← equal f.item x f.passes) f.there

-- what is found passes, and where nothing is found nothing passes
pub record IsFound {X : Type 0} (p : X → Bool) (xs : List X) (x : X) : Type 0 where
  pub there : In xs x
  pub passes : p x ≡ true

found_step : {X : Type 0} (p : X → Bool) (y : X) (ys : List X) (x : X) (b : Bool) → p y ≡ b → cond b (Some y) (find p ys) ≡ Some x
    → (find p ys ≡ Some x → IsFound p ys x) → IsFound p (y ∷ ys) x
found_step p y ys x true e is rest = let same : y ≡ x = cc in record { there = inl same; passes = ap p (sym same) ∙ e }
found_step p y ys x false e is rest = let f = rest is in record { there = inr f.there; passes = f.passes }

pub is_found : {X : Type 0} (p : X → Bool) (xs : List X) (x : X) → find p xs ≡ Some x → IsFound p xs x
is_found p [] x e = absurd cc
is_found p (y ∷ ys) x e = found_step p y ys x (p y) refl e (is_found p ys x)

none_step : {X : Type 0} (p : X → Bool) (y : X) (ys : List X) (b : Bool) → p y ≡ b → cond b (Some y) (find p ys) ≡ None → (b ≡ false) × (find p ys ≡ None)
none_step p y ys true e is = absurd cc
none_step p y ys false e is = (refl, is)

pub none_found : {X : Type 0} (p : X → Bool) (xs : List X) (x : X) → find p xs ≡ None → In xs x → p x ≡ false
none_found p [] x e h = absurd h
none_found p (y ∷ ys) x e (inl same) = ap p (sym same) ∙ (none_step p y ys (p y) refl e).0
none_found p (y ∷ ys) x e (inr h) = none_found p ys x (none_step p y ys (p y) refl e).1 h

-- a part that depends on a community has two values on two sets that differ in it
pub record Differing (part : List ℕ → ℕ) (x : ℕ) : Type 0 where
  pub set : List ℕ
  pub differ : part (with_number x set) ≢ part (without_number x set)

apart : (a b : ℕ) → not (nat_eq a b) ≡ true → a ≢ b
apart a b e same = let yes = same_number a b same in absurd (by (nat_eq a b) e yes)
  where
    by : (c : Bool) → not c ≡ true → c ≡ true → ⊥
    by true e f = cc
    by false e f = cc

pub depends_differ : (universe : List ℕ) (part : List ℕ → ℕ) (x : ℕ) → depends universe part x ≡ true → Differing part x
unfolding depends
depends_differ universe part x e =
    let f = in_any (differs part x) (sets_of universe) e in
    record { set = f.item; differ = apart (part (with_number x f.item)) (part (without_number x f.item)) f.passes }

not_apart : (a b : ℕ) → not (nat_eq a b) ≡ false → a ≡ b
not_apart a b e = elim (cases_eq a b) [
  | inl same ↦ same
  | inr ne ↦ absurd (let no = other_number a b ne in by (nat_eq a b) e no)
]
  where
    by : (c : Bool) → not c ≡ false → c ≡ false → ⊥
    by true e f = cc
    by false e f = cc

-- a part that does not depend on a community is the same with it and without it, on every set
pub not_depends : (universe : List ℕ) (part : List ℕ → ℕ) (x : ℕ) (set : List ℕ) → NumberHangsOn universe part → depends universe part x ≡ false
    → part (with_number x set) ≡ part (without_number x set)
unfolding depends
not_depends universe part x set hangs e =
    let inner = named universe set in
    let same = named_same universe set in
    let here = not_apart (part (with_number x inner)) (part (without_number x inner))
    (none_in (differs part x) (sets_of universe) inner e (filtered_in (has set) universe)) in
    hangs.same (with_number x set) (with_number x inner) (with_same_on universe set inner x (same_back universe inner set same))
    ∙ here
    ∙ hangs.same (without_number x inner) (without_number x set) (without_same_on universe inner set x same)

differ_test : (a b : ℕ) → a ≢ b → not (nat_eq a b) ≡ true
differ_test a b ne = rw (other_number a b ne) refl

pub differ_depends : (universe : List ℕ) (part : List ℕ → ℕ) (x : ℕ) (set : List ℕ) → NumberHangsOn universe part
    → part (with_number x set) ≢ part (without_number x set) → depends universe part x ≡ true
differ_depends universe part x set hangs ne = by (depends universe part x) refl
  where
    by : (b : Bool) → depends universe part x ≡ b → b ≡ true
    by true e = refl
    by false e = absurd (ne (not_depends universe part x set hangs e))

-- putting in or taking out
pub put_same : (universe : List ℕ) (part : List ℕ → ℕ) (x : ℕ) (set : List ℕ) → NumberHangsOn universe part
    → part (with_number x set) ≡ part (without_number x set) → part (with_number x set) ≡ part set
put_same universe part x set hangs e = by (has set x) refl
  where
    by : (b : Bool) → has set x ≡ b → part (with_number x set) ≡ part set
    by true there = hangs.same (with_number x set) set (same_sets universe (with_number x set) set (with_there x set there))
    by false there = e ∙ hangs.same (without_number x set) set (same_sets universe (without_number x set) set (without_absent x set there))

-- a part that depends on no community is the same on all sets
walk_step : (universe : List ℕ) (part : List ℕ → ℕ) (x : ℕ) (rest : List ℕ) (b : Bool) → NumberHangsOn universe part → part (with_number x rest) ≡ part rest
    → part (cond b (x ∷ rest) rest) ≡ part rest
walk_step universe part x rest true hangs e = hangs.same (x ∷ rest) (with_number x rest)
    (same_sets universe (x ∷ rest) (with_number x rest) (λ c. sym (has-with_number x rest c))) ∙ e
walk_step universe part x rest false hangs e = refl

walk : (universe : List ℕ) (part : List ℕ → ℕ) (p : ℕ → Bool) (cs : List ℕ) → NumberHangsOn universe part
    → ((x : ℕ) (set : List ℕ) → In cs x → part (with_number x set) ≡ part set) → part (filter p cs) ≡ part []
walk universe part p [] hangs none = refl
walk universe part p (c ∷ cs) hangs none =
    walk_step universe part c (filter p cs) (p c) hangs (none c (filter p cs) (inl refl))
    ∙ walk universe part p cs hangs (λ x set h. none x set (inr h))

pub least_none : (universe : List ℕ) (part : List ℕ → ℕ) → NumberHangsOn universe part → least universe part ≡ None → (a : List ℕ) → part a ≡ part []
unfolding least
least_none universe part hangs e a =
    hangs.same a (named universe a) (same_back universe (named universe a) a (named_same universe a))
    ∙ walk universe part (has a) universe hangs (λ x set h. put_same universe part x set hangs
    (not_depends universe part x set hangs (none_found (depends universe part) universe x e h)))

pub least_some : (universe : List ℕ) (part : List ℕ → ℕ) (x : ℕ) → least universe part ≡ Some x → (has universe x ≡ true) × Differing part x
unfolding least
least_some universe part x e =
    let f = is_found (depends universe part) universe x e in
    (in_has universe x f.there, depends_differ universe part x f.passes)

-- on sets that agree with a fixing
pub under_hangs : (universe : List ℕ) (part : List ℕ → ℕ) (fixing : Fixing) → NumberHangsOn universe part
    → NumberHangsOn universe (λ set. part (agreeing fixing set))
under_hangs universe part fixing hangs = record { same = λ a b s. hangs.same (agreeing fixing a) (agreeing fixing b) (agreeing_same_on universe a b fixing s) }

-- a community of the universe that is not fixed
pub record IsFree (universe : List ℕ) (fixing : Fixing) (x : ℕ) : Type 0 where
  pub known : has universe x ≡ true
  pub not_present : has fixing.present x ≡ false
  pub not_absent : has fixing.absent x ≡ false

-- where it is fixed, putting it in and taking it out make no difference
pub fixed_same : (fixing : Fixing) (x : ℕ) (set : List ℕ) → (has fixing.present x ≡ true) ⊎ (has fixing.absent x ≡ true) → (c : ℕ)
    → has (agreeing fixing (with_number x set)) c ≡ has (agreeing fixing (without_number x set)) c
fixed_same fixing x set fixed c =
    has-agreeing fixing (with_number x set) c
    ∙ ap (λ b. not (has fixing.absent c) && (has fixing.present c || b)) (has-with_number x set c)
    ∙ by (nat_eq x c) (has fixing.absent c) (has fixing.present c) (has set c) (λ e. at (equal x c e) fixed)
    ∙ ap (λ b. not (has fixing.absent c) && (has fixing.present c || b)) (sym (has-without_number x set c))
    ∙ sym (has-agreeing fixing (without_number x set) c)
  where
    at : x ≡ c → (has fixing.present x ≡ true) ⊎ (has fixing.absent x ≡ true) → (has fixing.present c ≡ true) ⊎ (has fixing.absent c ≡ true)
    at e (inl h) = inl (ap (has fixing.present) (sym e) ∙ h)
    at e (inr h) = inr (ap (has fixing.absent) (sym e) ∙ h)

    by : (n a p s : Bool) → (n ≡ true → (p ≡ true) ⊎ (a ≡ true)) → not a && (p || (n || s)) ≡ not a && (p || (not n && s))
    by n true p s f = refl
    by n false true s f = refl
    by true false false s f = absurd (elim (f refl) [ inl e ↦ cc | inr e ↦ cc ])
    by false false false s f = refl

not_true : (b : Bool) → (b ≡ true → ⊥) → b ≡ false
not_true true f = absurd (f refl)
not_true false f = refl

pub least_free : (universe : List ℕ) (part : List ℕ → ℕ) (fixing : Fixing) (x : ℕ) → NumberHangsOn universe part
    → least universe (λ set. part (agreeing fixing set)) ≡ Some x → IsFree universe fixing x
least_free universe part fixing x hangs e =
    let found = least_some universe (λ set. part (agreeing fixing set)) x e in
    let set = found.1.set in
    let no : ((has fixing.present x ≡ true) ⊎ (has fixing.absent x ≡ true)) → ⊥ = λ fixed.
    found.1.differ (hangs.same (agreeing fixing (with_number x set)) (agreeing fixing (without_number x set))
    (same_sets universe (agreeing fixing (with_number x set)) (agreeing fixing (without_number x set)) (fixed_same fixing x set fixed))) in
    record {
      known = found.0;
      not_present = not_true (has fixing.present x) (λ h. no (inl h));
      not_absent = not_true (has fixing.absent x) (λ h. no (inr h));
    }
