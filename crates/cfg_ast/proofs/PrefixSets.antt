-- Ascending lists of prefixes.
use Rattle.std.proofs.Common.{◌≡◌, Bool, true, false, cond, ◌||◌, List, [], ◌∷◌, ◌⊎◌, inl, inr, refl, sym, ◌∙◌, ap, arith, true≢false}
use Rattle.std.specs.Prelude.{filter}
use Rattle.std.proofs.lemmas.Bool.Decides.{nat_tests}
use Rattle.base_kit.specs.Prefixes.{Prefix, same_prefix}
use Rattle.cfg_ast.specs.meaning.Classes.{is_before, with_prefix, with_prefixes, has_prefix, AllAfter, AreAscending}

-- equal prefixes are one
pub one_prefix : (p q : Prefix) → same_prefix p q ≡ true → p ≡ q
one_prefix p q same =
    let addr : p.addr ≡ q.addr = grind (arith, nat_tests) in
    let len : p.len ≡ q.len = grind (arith, nat_tests) in
    ap (λ a. let r : Prefix = record { addr = a; len = p.len } in r) addr ∙ ap (λ l. let r : Prefix = record { addr = q.addr; len = l } in r) len

pub same_prefix-self : (p : Prefix) → same_prefix p p ≡ true
same_prefix-self p = grind (arith, nat_tests)

pub same_prefix-sym : (p q : Prefix) → same_prefix p q ≡ same_prefix q p
same_prefix-sym p q = grind (arith, nat_tests)

pub before_trans : (p q r : Prefix) → is_before p q ≡ true → is_before q r ≡ true → is_before p r ≡ true
before_trans p q r first second = grind (arith, nat_tests)

pub not_before_self : (p : Prefix) → is_before p p ≡ false
not_before_self p = grind (arith, nat_tests)

pub not_before_back : (p q : Prefix) → is_before p q ≡ true → is_before q p ≡ false
not_before_back p q first = grind (arith, nat_tests)

pub not_same_before : (p q : Prefix) → is_before p q ≡ true → same_prefix p q ≡ false
not_same_before p q first = grind (arith, nat_tests)

pub before_if_not : (p q : Prefix) → is_before p q ≡ false → same_prefix p q ≡ false → is_before q p ≡ true
before_if_not p q after other = grind (arith, nat_tests)

-- one of the three holds
pub cases_prefix : (p q : Prefix) → (p ≡ q) ⊎ ((is_before p q ≡ true) ⊎ (is_before q p ≡ true))
cases_prefix p q = by_tests p q (same_prefix p q) (is_before p q) refl refl where
  by_tests : (p q : Prefix) (s b : Bool) → same_prefix p q ≡ s → is_before p q ≡ b → (p ≡ q) ⊎ ((is_before p q ≡ true) ⊎ (is_before q p ≡ true))
  by_tests p q true b same before = inl (one_prefix p q same)
  by_tests p q false true same before = inr (inl before)
  by_tests p q false false same before = inr (inr (before_if_not p q before same))

pub AllAfter-trans : (p q : Prefix) (ps : List Prefix) → is_before p q ≡ true → AllAfter q ps → AllAfter p ps
AllAfter-trans p q [] first all = tt
AllAfter-trans p q (r ∷ rs) first all = (before_trans p q r first all.0, AllAfter-trans p q rs first all.1)

AllAfter-with : (r p : Prefix) (ps : List Prefix) → is_before r p ≡ true → AllAfter r ps → AllAfter r (with_prefix p ps)
AllAfter-with r p [] first all = (first, tt)
AllAfter-with r p (q ∷ qs) first all = step (is_before p q) (same_prefix p q) first all (AllAfter-with r p qs first all.1) where
  step : (b s : Bool) → is_before r p ≡ true → AllAfter r (q ∷ qs) → AllAfter r (with_prefix p qs) →
      AllAfter r (cond b (p ∷ q ∷ qs) (cond s (q ∷ qs) (q ∷ with_prefix p qs)))
  step true s first all more = (first, all)
  step false true first all more = all
  step false false first all more = (all.0, more)

pub ascending_with_prefix : (p : Prefix) (ps : List Prefix) → AreAscending ps → AreAscending (with_prefix p ps)
ascending_with_prefix p [] up = (tt, tt)
ascending_with_prefix p (q ∷ qs) up = step (is_before p q) (same_prefix p q) refl refl up (ascending_with_prefix p qs up.1) where
  step : (b s : Bool) → is_before p q ≡ b → same_prefix p q ≡ s → AreAscending (q ∷ qs) → AreAscending (with_prefix p qs) →
      AreAscending (cond b (p ∷ q ∷ qs) (cond s (q ∷ qs) (q ∷ with_prefix p qs)))
  step true s before same up more = ((before, AllAfter-trans p q qs before up.0), up)
  step false true before same up more = up
  step false false before same up more = (AllAfter-with q p qs (before_if_not p q before same) up.0, more)

pub ascending_with_prefixes : (more ps : List Prefix) → AreAscending ps → AreAscending (with_prefixes more ps)
ascending_with_prefixes [] ps up = up
ascending_with_prefixes (p ∷ more) ps up = ascending_with_prefixes more (with_prefix p ps) (ascending_with_prefix p ps up)

or_same : (a b c : Bool) → a ≡ b → (b || c) ≡ (a || (b || c))
or_same true true c e = refl
or_same true false c e = absurd (true≢false e)
or_same false true c e = absurd (true≢false (sym e))
or_same false false c e = refl

or_swap : (a b c : Bool) → (b || (a || c)) ≡ (a || (b || c))
or_swap true true c = refl
or_swap true false c = refl
or_swap false b c = refl

or_apart : (a b c : Bool) → (a || (b || c)) ≡ ((b || a) || c)
or_apart true true c = refl
or_apart true false c = refl
or_apart false true c = refl
or_apart false false c = refl

pub has-with_prefix : (q : Prefix) (ps : List Prefix) (p : Prefix) → has_prefix (with_prefix q ps) p ≡ (same_prefix p q || has_prefix ps p)
has-with_prefix q [] p = refl
has-with_prefix q (r ∷ rs) p = step (is_before q r) (same_prefix q r) (λ same. ap (same_prefix p) (one_prefix q r same)) (has-with_prefix q rs p) where
  step : (b s : Bool) → (s ≡ true → same_prefix p q ≡ same_prefix p r) → has_prefix (with_prefix q rs) p ≡ (same_prefix p q || has_prefix rs p) →
      has_prefix (cond b (q ∷ r ∷ rs) (cond s (r ∷ rs) (r ∷ with_prefix q rs))) p ≡ (same_prefix p q || (same_prefix p r || has_prefix rs p))
  step true s one more = refl
  step false true one more = or_same (same_prefix p q) (same_prefix p r) (has_prefix rs p) (one refl)
  step false false one more = ap (λ b. same_prefix p r || b) more ∙ or_swap (same_prefix p q) (same_prefix p r) (has_prefix rs p)

pub has-with_prefixes : (more ps : List Prefix) (p : Prefix) → has_prefix (with_prefixes more ps) p ≡ (has_prefix more p || has_prefix ps p)
has-with_prefixes [] ps p = refl
has-with_prefixes (q ∷ more) ps p =
    has-with_prefixes more (with_prefix q ps) p ∙ ap (λ b. has_prefix more p || b) (has-with_prefix q ps p)
    ∙ or_apart (has_prefix more p) (same_prefix p q) (has_prefix ps p)

-- a prefix before all of a list is not in it
pub has_not_before : (q : Prefix) (ps : List Prefix) (p : Prefix) → AllAfter q ps → same_prefix p q ≡ true → has_prefix ps p ≡ false
has_not_before q [] p all same = refl
has_not_before q (r ∷ rs) p all same = let other : same_prefix p r ≡ false = grind (arith, nat_tests, all.0) in rw other (has_not_before q rs p all.1 same)

pub AllAfter-filter : (q : Prefix) (test : Prefix → Bool) (ps : List Prefix) → AllAfter q ps → AllAfter q (filter test ps)
AllAfter-filter q test [] all = tt
AllAfter-filter q test (r ∷ rs) all = step (test r) (AllAfter-filter q test rs all.1) where
  step : (b : Bool) → AllAfter q (filter test rs) → AllAfter q (cond b (r ∷ filter test rs) (filter test rs))
  step true more = (all.0, more)
  step false more = more

pub ascending_filter_prefixes : (test : Prefix → Bool) (ps : List Prefix) → AreAscending ps → AreAscending (filter test ps)
ascending_filter_prefixes test [] up = tt
ascending_filter_prefixes test (r ∷ rs) up = step (test r) (ascending_filter_prefixes test rs up.1) where
  step : (b : Bool) → AreAscending (filter test rs) → AreAscending (cond b (r ∷ filter test rs) (filter test rs))
  step true more = (AllAfter-filter r test rs up.0, more)
  step false more = more
