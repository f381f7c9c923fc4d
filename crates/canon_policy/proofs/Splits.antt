-- A community that splits a fixing is free in it, and a fixing that is not split is settled.
use Rattle.std.proofs.Common.{◌≡◌, ℕ, ◌<◌, ◌≤◌, Bool, true, false, not, ◌&&◌, ◌||◌, cond, List, [], ◌∷◌, filter, length, nat_eq, Option, Some, None, refl, sym, ◌∙◌, ap, arith, inl, inr, ◌⊎◌}
use Rattle.std.specs.Prelude.{if◌then◌else◌}
use Rattle.std.specs.Option.{option_or}
use Rattle.base_kit.specs.Sets.{has}
use Rattle.base_kit.proofs.SetFacts.{same_number, has-with_number}
use Rattle.base_kit.proofs.Elements.{In}
use Rattle.canon_policy.specs.declared.fixing.Fixing.{Fixing}
use Rattle.canon_policy.specs.Fixings.{Part, Asked, nothing_fixed, with_present, with_absent, agreeing, least, yes, follows, unsettled, first_unsettled, split}
use Rattle.canon_policy.specs.Fixings.Part.{number, community}
use Rattle.canon_policy.specs.Hanging.{TestHangsOn, NumberHangsOn, PartHangsOn, PartsHangOn, AskedHangsOn}
use Rattle.canon_policy.proofs.SameSets.{and_both}
use Rattle.canon_policy.proofs.Least.{IsFree, least_free, has_in}

pub yes_hangs : (universe : List ℕ) (test : List ℕ → Bool) → TestHangsOn universe test → NumberHangsOn universe (λ set. yes (test set))
yes_hangs universe test hangs = record { same = λ a b s. ap yes (hangs.same a b s) }

community_free : (universe : List ℕ) (test : List ℕ → Bool) (fixing : Fixing) (x : ℕ) (b : Bool) → TestHangsOn universe test
    → (if b then None else least universe (λ set. yes (test (agreeing fixing set)))) ≡ Some x → IsFree universe fixing x
community_free universe test fixing x true hangs e = absurd cc
community_free universe test fixing x false hangs e = least_free universe (λ set. yes (test set)) fixing x (yes_hangs universe test hangs) e

part_free : (universe : List ℕ) (kept : List ℕ → Bool) (fixing : Fixing) (x : ℕ) (part : Part) → PartHangsOn universe part
    → unsettled universe kept fixing part ≡ Some x → IsFree universe fixing x
part_free universe kept fixing x (number part) hangs e = least_free universe part fixing x hangs e
part_free universe kept fixing x (community c test) hangs e =
    community_free universe test fixing x (kept (agreeing fixing []) && follows universe fixing c test) hangs e

or_some : (a b : Option ℕ) (x : ℕ) → option_or a b ≡ Some x → (a ≡ Some x) ⊎ (b ≡ Some x)
or_some None b x e = inr e
or_some (Some y) b x e = inl e

pub or_none : (a b : Option ℕ) → option_or a b ≡ None → (a ≡ None) × (b ≡ None)
or_none None b e = (refl, e)
or_none (Some y) b e = absurd cc

parts_free : (universe : List ℕ) (kept : List ℕ → Bool) (fixing : Fixing) (x : ℕ) (parts : List Part) → PartsHangOn universe parts
    → first_unsettled (unsettled universe kept fixing) parts ≡ Some x → IsFree universe fixing x
parts_free universe kept fixing x [] hang e = absurd cc
parts_free universe kept fixing x (part ∷ parts) hang e = elim
    (or_some (unsettled universe kept fixing part) (first_unsettled (unsettled universe kept fixing) parts) x e) [
      | inl here ↦ part_free universe kept fixing x part hang.0 here
      | inr later ↦ parts_free universe kept fixing x parts hang.1 later
    ]

where_accepted : (b : Bool) (o : Option ℕ) (x : ℕ) → (if b then o else None) ≡ Some x → o ≡ Some x
where_accepted true o x e = e
where_accepted false o x e = absurd cc

pub split_free : (universe : List ℕ) (asked : Asked) (fixing : Fixing) (x : ℕ) → AskedHangsOn universe asked → split universe asked fixing ≡ Some x
    → IsFree universe fixing x
unfolding split
split_free universe asked fixing x hang e = elim (or_some (least universe (λ set. yes (asked.accepted (agreeing fixing set))))
    (if asked.accepted (agreeing fixing []) then first_unsettled (unsettled universe asked.kept fixing) asked.parts else None) x e) [
      | inl here ↦ least_free universe (λ set. yes (asked.accepted set)) fixing x (yes_hangs universe asked.accepted hang.accepted) here
      | inr later ↦ parts_free universe asked.kept fixing x asked.parts hang.parts
          (where_accepted (asked.accepted (agreeing fixing [])) (first_unsettled (unsettled universe asked.kept fixing) asked.parts) x later)
    ]

-- what no split leaves: acceptance is settled, and where it is given, each part
pub record NoSplit (universe : List ℕ) (asked : Asked) (fixing : Fixing) : Type 0 where
  pub accepted : least universe (λ set. yes (asked.accepted (agreeing fixing set))) ≡ None
  pub parts : asked.accepted (agreeing fixing []) ≡ true → first_unsettled (unsettled universe asked.kept fixing) asked.parts ≡ None

given : (b : Bool) (o : Option ℕ) → (if b then o else None) ≡ None → b ≡ true → o ≡ None
given true o e is = e
given false o e is = absurd cc

pub no_split : (universe : List ℕ) (asked : Asked) (fixing : Fixing) → split universe asked fixing ≡ None → NoSplit universe asked fixing
unfolding split
no_split universe asked fixing e =
    let both = or_none (least universe (λ set. yes (asked.accepted (agreeing fixing set))))
    (if asked.accepted (agreeing fixing []) then first_unsettled (unsettled universe asked.kept fixing) asked.parts else None) e in
    record {
      accepted = both.0;
      parts = given (asked.accepted (agreeing fixing [])) (first_unsettled (unsettled universe asked.kept fixing) asked.parts) both.1;
    }

-- how many communities are free
abbrev pub is_free : Fixing → ℕ → Bool
is_free fixing c = not (has fixing.present c) && not (has fixing.absent c)

unfoldable pub count_free : List ℕ → Fixing → ℕ
count_free universe fixing = length (filter (is_free fixing) universe)

filter_no_more : (p : ℕ → Bool) (xs : List ℕ) → length (filter p xs) ≤ length xs
filter_no_more p [] = omega arith
filter_no_more p (x ∷ xs) = by (p x) (filter_no_more p xs)
  where
    by : (b : Bool) → length (filter p xs) ≤ length xs → length (cond b (x ∷ filter p xs) (filter p xs)) ≤ length (x ∷ xs)
    by true le = omega arith
    by false le = omega arith

pub count_free-start : (universe : List ℕ) → count_free universe nothing_fixed ≤ length universe
unfolding count_free
count_free-start universe = filter_no_more (is_free nothing_fixed) universe

module _ (p q : ℕ → Bool) (less : (c : ℕ) → q c ≡ true → p c ≡ true) where
  no_more : (xs : List ℕ) → length (filter q xs) ≤ length (filter p xs)
  no_more [] = omega arith
  no_more (x ∷ xs) = by (q x) (p x) (less x) (no_more xs)
    where
      by : (b d : Bool) → (b ≡ true → d ≡ true) → length (filter q xs) ≤ length (filter p xs)
          → length (cond b (x ∷ filter q xs) (filter q xs)) ≤ length (cond d (x ∷ filter p xs) (filter p xs))
      by true true f le = omega arith
      by true false f le = absurd (let e = f refl in cc)
      by false true f le = omega arith
      by false false f le = le

  fewer_step : (y : ℕ) (ys : List ℕ) (b d : Bool) → (b ≡ true → d ≡ true) → ((b ≡ false) × (d ≡ true) × (length (filter q ys) ≤ length (filter p ys)))
      ⊎ (length (filter q ys) < length (filter p ys)) → length (cond b (y ∷ filter q ys) (filter q ys)) < length (cond d (y ∷ filter p ys) (filter p ys))
  fewer_step y ys true true f (inl h) = absurd (let e = h.0 in cc)
  fewer_step y ys true true f (inr lt) = omega arith
  fewer_step y ys true false f h = absurd (let e = f refl in cc)
  fewer_step y ys false true f (inl h) = let le = h.2 in omega arith
  fewer_step y ys false true f (inr lt) = omega arith
  fewer_step y ys false false f (inl h) = absurd (let e = h.1 in cc)
  fewer_step y ys false false f (inr lt) = lt

  pub fewer : (xs : List ℕ) (x : ℕ) → In xs x → p x ≡ true → q x ≡ false → length (filter q xs) < length (filter p xs)
  fewer [] x h there out = absurd h
  fewer (y ∷ ys) x (inl e) there out = fewer_step y ys (q y) (p y) (less y) (inl (ap q e ∙ out, ap p e ∙ there, no_more ys))
  fewer (y ∷ ys) x (inr h) there out = fewer_step y ys (q y) (p y) (less y) (inr (fewer ys x h there out))

free_test : (universe : List ℕ) (fixing : Fixing) (x : ℕ) → IsFree universe fixing x → is_free fixing x ≡ true
free_test universe fixing x free = rw (free.not_present, free.not_absent) refl

pub fewer_present : (universe : List ℕ) (fixing : Fixing) (x : ℕ) → IsFree universe fixing x
    → count_free universe (with_present x fixing) < count_free universe fixing
unfolding count_free
fewer_present universe fixing x free =
    fewer (is_free fixing) (is_free (with_present x fixing))
    (λ c e. let h : not (nat_eq x c) && is_free fixing c ≡ true = sym (by c) ∙ e in (and_both (not (nat_eq x c)) (is_free fixing c) h).1)
    universe x (has_in universe x free.known) (free_test universe fixing x free)
    (by x ∙ rw (same_number x x refl) refl)
  where
    either : (n p a : Bool) → not (n || p) && not a ≡ not n && (not p && not a)
    either true p a = refl
    either false p a = refl

    by : (c : ℕ) → is_free (with_present x fixing) c ≡ not (nat_eq x c) && is_free fixing c
    by c = ap (λ b. not b && not (has fixing.absent c)) (has-with_number x fixing.present c) ∙ either (nat_eq x c) (has fixing.present c) (has fixing.absent c)

pub fewer_absent : (universe : List ℕ) (fixing : Fixing) (x : ℕ) → IsFree universe fixing x
    → count_free universe (with_absent x fixing) < count_free universe fixing
unfolding count_free
fewer_absent universe fixing x free =
    fewer (is_free fixing) (is_free (with_absent x fixing))
    (λ c e. let h : not (nat_eq x c) && is_free fixing c ≡ true = sym (by c) ∙ e in (and_both (not (nat_eq x c)) (is_free fixing c) h).1)
    universe x (has_in universe x free.known) (free_test universe fixing x free)
    (by x ∙ rw (same_number x x refl) refl)
  where
    either : (n p a : Bool) → not p && not (n || a) ≡ not n && (not p && not a)
    either true true a = refl
    either true false a = refl
    either false p a = refl

    by : (c : ℕ) → is_free (with_absent x fixing) c ≡ not (nat_eq x c) && is_free fixing c
    by c = ap (λ b. not (has fixing.present c) && not b) (has-with_number x fixing.absent c) ∙ either (nat_eq x c) (has fixing.present c) (has fixing.absent c)

some_free : (universe : List ℕ) (fixing : Fixing) (x : ℕ) → IsFree universe fixing x → 0 < count_free universe fixing
some_free universe fixing x free = let lt = fewer_present universe fixing x free in omega arith

-- where nothing is free, nothing splits
pub none_free : (universe : List ℕ) (asked : Asked) (fixing : Fixing) → AskedHangsOn universe asked → count_free universe fixing ≤ 0
    → split universe asked fixing ≡ None
none_free universe asked fixing hang none = by (split universe asked fixing) refl
  where
    by : (o : Option ℕ) → split universe asked fixing ≡ o → o ≡ None
    by None e = refl
    by (Some x) e = let lt = some_free universe fixing x (split_free universe asked fixing x hang e) in absurd (omega arith)
