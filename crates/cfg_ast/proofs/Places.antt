-- The first place at which a test holds, step by step.
use Rattle.std.proofs.Common.{◌≡◌, ℕ, suc, ◌+◌, ◌-◌, ◌<◌, ◌≤◌, Bool, true, false, not, [], ◌∷◌, get_or, refl, sym, ap, ◌∙◌, arith, length}
use Rattle.std.specs.List.{range_with_len, position_or_len}
use Rattle.std.proofs.lemmas.List.Sums.{fails_before_first, passes_at_first, prefix_len-le-length}
use Rattle.std.proofs.lemmas.List.FromFn.{length-range_with_len, get_or-range_with_len}
use Rattle.cfg_ast.specs.text.Lines.{first_at}

pub range_step : (i upto : ℕ) → i < upto → range_with_len i (upto - i) ≡ i ∷ range_with_len (i + 1) (upto - (i + 1))
range_step i upto h = let e : upto - i ≡ suc (upto - (i + 1)) = omega arith in rw e refl

pub range_end : (i upto : ℕ) → upto ≤ i → range_with_len i (upto - i) ≡ []
range_end i upto h = let e : upto - i ≡ 0 = omega arith in rw e refl

pub first_here : (test : ℕ → Bool) (i upto : ℕ) → i < upto → test i ≡ true → first_at test i upto ≡ i
unfolding first_at
first_here test i upto h e = simp (range_step i upto h, e) (omega arith)

pub first_next : (test : ℕ → Bool) (i upto : ℕ) → i < upto → test i ≡ false → first_at test i upto ≡ first_at test (i + 1) upto
unfolding first_at
first_next test i upto h e = simp (range_step i upto h, e) (omega arith)

pub first_end : (test : ℕ → Bool) (i upto : ℕ) → upto ≤ i → first_at test i upto ≡ i
unfolding first_at
first_end test i upto h = simp (range_end i upto h) (omega arith)

pub first_below : (test : ℕ → Bool) (i upto : ℕ) → i ≤ upto → first_at test i upto ≤ upto
unfolding first_at
first_below test i upto h = omega (arith, prefix_len-le-length (λ x. not (test x)) (range_with_len i (upto - i)), length-range_with_len i (upto - i))

pub first_from : (test : ℕ → Bool) (i upto : ℕ) → i ≤ first_at test i upto
unfolding first_at
first_from test i upto = omega arith

-- before the first place the test fails
pub first_fails : (test : ℕ → Bool) (i upto k : ℕ) → i ≤ upto → i ≤ k → k < first_at test i upto → test k ≡ false
unfolding first_at
first_fails test i upto k le from lt =
    let n = upto - i in
    let inside : k - i < position_or_len test (range_with_len i n) = omega arith in
    let within : k - i < n = omega (arith, prefix_len-le-length (λ x. not (test x)) (range_with_len i n), length-range_with_len i n) in
    let there : get_or (range_with_len i n) (k - i) 0 ≡ k = get_or-range_with_len i n (k - i) 0 within ∙ omega arith in
    ap test (sym there) ∙ fails_before_first test (range_with_len i n) (k - i) 0 inside

-- and at it the test holds
pub first_passes : (test : ℕ → Bool) (i upto : ℕ) → i ≤ upto → first_at test i upto < upto → test (first_at test i upto) ≡ true
unfolding first_at
first_passes test i upto le lt =
    let n = upto - i in
    let m = position_or_len test (range_with_len i n) in
    let inside : m < length (range_with_len i n) = omega (arith, length-range_with_len i n) in
    let there : get_or (range_with_len i n) m 0 ≡ i + m = get_or-range_with_len i n m 0 (omega (arith, length-range_with_len i n)) in
    ap test (sym there) ∙ passes_at_first test (range_with_len i n) 0 inside
