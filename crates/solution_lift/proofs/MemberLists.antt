-- The members of a group, from the list of groups.
use Rattle.std.proofs.Common.{◌≡◌, ℕ, zero, suc, ◌+◌, ◌<◌, Bool, true, false, cond, not, ◌&&◌, List, [], ◌∷◌, map, length, Some, refl, ◌∙◌, ap, arith, inl, inr}
use Rattle.std.specs.Prelude.{Contains, filter, nat_eq, slice_get, slice_index, if◌then◌else◌, ◌==◌}
use Rattle.std.specs.List.{range_with_len}
use Rattle.std.proofs.lemmas.Bool.{cases_lt}
use Rattle.std.proofs.lemmas.Bool.Decides.{nat_tests}
use Rattle.std.proofs.lemmas.List.{get_or_default}
use Rattle.base_kit.specs.Partition.{IsNumbered, members_of}
use Rattle.base_kit.proofs.Elements.{In, in_contains}
use Rattle.srp_core.specs.Quotient.{first_number}
use Rattle.srp_quotient.specs.Groups.{first_member}
use Rattle.solution_lift.specs.Members.{first_nonzero_number}

shifted : (p : ℕ → Bool) (a b n : ℕ) → b ≡ suc a → filter p (range_with_len b n) ≡ map suc (filter (λ r. p (suc r)) (range_with_len a n))
shifted p a b zero e = refl
shifted p a b (suc n) e = ap (λ (k : ℕ). cond (p k) (k ∷ filter p (range_with_len (b + 1) n)) (filter p (range_with_len (b + 1) n))) e
    ∙ step (p (suc a)) (filter p (range_with_len (b + 1) n)) (filter (λ r. p (suc r)) (range_with_len (a + 1) n)) (shifted p (a + 1) (b + 1) n (omega arith))
  where
    step : (c : Bool) (us vs : List ℕ) → us ≡ map suc vs → cond c (suc a ∷ us) us ≡ map suc (cond c (a ∷ vs) vs)
    step true us vs h = ap (λ (xs : List ℕ). suc a ∷ xs) h
    step false us vs h = h

abbrev one_more : Bool → List ℕ → List ℕ
one_more b ms = cond b (0 ∷ map suc ms) (map suc ms)

members_cons : (x : ℕ) (xs : List ℕ) (g : ℕ) → members_of (x ∷ xs) g ≡ one_more (x == g) (members_of xs g)
members_cons x xs g = ap (λ (ms : List ℕ). cond (x == g) (0 ∷ ms) ms) (shifted (λ r. slice_index (x ∷ xs) r == g) 0 1 (length xs) refl)

among_later : (n : ℕ) (ns ms : List ℕ) → first_nonzero_number (n ∷ ns) (map suc ms) ≡ first_nonzero_number ns ms
among_later n ns [] = refl
among_later n ns (m ∷ ms) = ap (λ (k : ℕ). if nat_eq (slice_index ns m) 0 then k else slice_index ns m) (among_later n ns ms)

none_among : (ms : List ℕ) → first_nonzero_number [] ms ≡ 0
none_among [] = refl
none_among (m ∷ ms) = none_among ms

first_step : (n : ℕ) (ns ms : List ℕ) (b c : Bool) (rest : ℕ) → nat_eq n 0 ≡ c → first_nonzero_number ns ms ≡ rest →
    first_nonzero_number (n ∷ ns) (one_more b ms) ≡ (if b && not c then n else rest)
first_step n ns ms true true rest e h = ap (λ (d : Bool). if d then first_nonzero_number (n ∷ ns) (map suc ms) else n) e ∙ among_later n ns ms ∙ h
first_step n ns ms true false rest e h = ap (λ (d : Bool). if d then first_nonzero_number (n ∷ ns) (map suc ms) else n) e
first_step n ns ms false c rest e h = among_later n ns ms ∙ h

pub among_members : (numbers groups : List ℕ) (g : ℕ) → first_nonzero_number numbers (members_of groups g) ≡ first_number numbers groups g
unfolding first_number
among_members [] groups g = none_among (members_of groups g)
among_members (n ∷ ns) [] g = refl
among_members (n ∷ ns) (x ∷ xs) g = ap (first_nonzero_number (n ∷ ns)) (members_cons x xs g)
    ∙ first_step n ns (members_of xs g) (x == g) (nat_eq n 0) (first_number ns xs g) refl (among_members ns xs g)

head_step : (b : Bool) (ms : List ℕ) (k : ℕ) → (b ≡ false → slice_get ms 0 ≡ Some k) → slice_get (one_more b ms) 0 ≡ Some (if b then 0 else suc k)
head_step true ms k h = refl
head_step false [] k h = absurd (let e = h refl in cc)
head_step false (m ∷ ms) k h = ap Some (ap suc (let e = h refl in let same : m ≡ k = cc in same))

apart : (a b : ℕ) → a ≡ b → (a == b) ≡ false → ⊥
apart a b e f = absurd (grind (arith, nat_tests))

behind : (x g : ℕ) (xs : List ℕ) → In (x ∷ xs) g → (x == g) ≡ false → In xs g
behind x g xs (inl same) other = absurd (apart x g same other)
behind x g xs (inr later) other = later

first_in : (groups : List ℕ) (g : ℕ) → In groups g → slice_get (members_of groups g) 0 ≡ Some (first_member groups g)
first_in [] g at = absurd at
first_in (x ∷ xs) g at = ap (λ (ms : List ℕ). slice_get ms 0) (members_cons x xs g)
    ∙ head_step (x == g) (members_of xs g) (first_member xs g) (λ other. first_in xs g (behind x g xs at other))

pub first_of_members : (groups : List ℕ) (g : ℕ) → Contains groups g → slice_get (members_of groups g) 0 ≡ Some (first_member groups g)
first_of_members groups g has = first_in groups g (in_contains groups g has)

no_more : (groups : List ℕ) (a b : ℕ) → IsNumbered groups a → IsNumbered groups b → a < b → ⊥
no_more groups a b x y less =
    let h = y.used a less in
    let l : slice_index groups h.0 < a = x.below h.0 0 h.1 in
    let e : slice_index groups h.0 ≡ a = get_or_default groups h.0 0 a h.1 ∙ h.2 in
    absurd (omega arith)

-- the number of groups is one
pub one_count : (groups : List ℕ) (a b : ℕ) → IsNumbered groups a → IsNumbered groups b → a ≡ b
one_count groups a b x y = elim (cases_lt a b) [
  | inl less ↦ absurd (no_more groups a b x y less)
  | inr more ↦ elim (cases_lt b a) [ inl less ↦ absurd (no_more groups b a y x less) | inr other ↦ omega arith ]
]
