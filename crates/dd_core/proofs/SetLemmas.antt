-- Public: crates above cite `outside_of` and what is said of it. Tests of variables as sets of communities.
use Rattle.std.proofs.Common.{◌≡◌, ◌≢◌, ℕ, zero, suc, ◌<◌, ◌≤◌, ◌+◌, max, Bool, true, false, cond, ◌||◌, nat_lt, nat_eq, List, [], ◌∷◌, length, get_or, refl, sym, ◌∙◌, ap, arith, inl, inr}
use Rattle.std.specs.Prelude.{if◌then◌else◌}
use Rattle.std.proofs.lemmas.Bool.{cases_lt}
use Rattle.std.proofs.lemmas.Bool.Decides.{nat_tests}
use Rattle.base_kit.specs.Sets.{has, AllAbove, IsAscending}
use Rattle.base_kit.proofs.SetFacts.{has_not, same_number, other_number}
use Rattle.dd_core.specs.declared.table.Node.{Node}
use Rattle.dd_core.specs.Value.{value}
use Rattle.dd_core.specs.Store.{IsStore, IsWithin}
use Rattle.dd_core.specs.Sets.{has_others, test_of}
use Rattle.dd_core.proofs.ValueLemmas.{value-Constant, value-Choice}
use Rattle.dd_core.proofs.NodeLemmas.{IsNodeAt, is_constant, is_choice, node_at}

agree_step : (nodes : List Node) (bound : ℕ) (f g : ℕ → Bool) (i : ℕ) → IsStore nodes → IsWithin nodes bound → ((c : ℕ) → c ≤ bound → f c ≡ g c) →
    ((k : ℕ) → k < i → k < length nodes → value nodes f k ≡ value nodes g k) → i < length nodes → IsNodeAt nodes i → value nodes f i ≡ value nodes g i
agree_step nodes bound f g i store within same sons inside (is_constant v at) = value-Constant nodes f i v at ∙ sym (value-Constant nodes g i v at)
agree_step nodes bound f g i store within same sons inside (is_choice c high low at) =
    let r = store.reduced i c high low at in
    let hb = r.high_before in
    let lb = r.low_before in
    let e1 = value-Choice nodes f i c high low at hb lb in
    let e2 = value-Choice nodes g i c high low at hb lb in
    let e3 = same c (within.each i c high low at) in
    let e4 = sons high hb (omega arith) in
    let e5 = sons low lb (omega arith) in
    cc

-- the value depends on no variable past the bound
pub value_agrees : (nodes : List Node) (bound : ℕ) (f g : ℕ → Bool) (n i : ℕ) → IsStore nodes → IsWithin nodes bound → ((c : ℕ) → c ≤ bound → f c ≡ g c) →
    i < n → i < length nodes → value nodes f i ≡ value nodes g i
value_agrees nodes bound f g zero i store within same below inside = absurd (omega arith)
value_agrees nodes bound f g (suc n) i store within same below inside =
    agree_step nodes bound f g i store within same (λ k before inside'. value_agrees nodes bound f g n k store within same (omega arith) inside') inside
    (node_at nodes i inside)

-- the communities of the list at whose places the test is true, and the outside one where it is true behind them
abbrev pub chosen : (ℕ → Bool) → ℕ → List ℕ → ℕ → List ℕ
chosen f place [] outside = if f place then outside ∷ [] else []
chosen f place (c ∷ cs) outside = if f place then c ∷ chosen f (place + 1) cs outside else chosen f (place + 1) cs outside

abbrev pub AllBelow : ℕ → List ℕ → Type 0
AllBelow n [] = Unit {0}
AllBelow n (x ∷ xs) = (x < n) × AllBelow n xs

-- a number above all of the list
abbrev pub outside_of : List ℕ → ℕ
outside_of [] = 0
outside_of (c ∷ cs) = max (c + 1) (outside_of cs)

AllBelow-more : (m n : ℕ) (xs : List ℕ) → m ≤ n → AllBelow m xs → AllBelow n xs
AllBelow-more m n [] le all = tt
AllBelow-more m n (x ∷ xs) le all = (let lt = all.0 in omega arith, AllBelow-more m n xs le all.1)

pub all_below_outside : (xs : List ℕ) → AllBelow (outside_of xs) xs
all_below_outside [] = tt
all_below_outside (x ∷ xs) = (omega arith, AllBelow-more (outside_of xs) (outside_of (x ∷ xs)) xs (omega arith) (all_below_outside xs))

pub has_outside : (n : ℕ) (xs : List ℕ) → AllBelow n xs → has xs n ≡ false
has_outside n [] all = refl
has_outside n (x ∷ xs) all = let lt = all.0 in rw (other_number x n (omega arith)) (has_outside n xs all.1)

above_chosen : (f : ℕ → Bool) (m place : ℕ) (cs : List ℕ) (outside : ℕ) → AllAbove m cs → m < outside → AllAbove m (chosen f place cs outside)
above_chosen f m place [] outside all lt = by (f place)
  where
    by : (b : Bool) → AllAbove m (cond b (outside ∷ []) [])
    by true = (lt, tt)
    by false = tt
above_chosen f m place (c ∷ cs) outside all lt = by (f place) (above_chosen f m (place + 1) cs outside all.1 lt)
  where
    by : (b : Bool) → AllAbove m (chosen f (place + 1) cs outside) → AllAbove m (cond b (c ∷ chosen f (place + 1) cs outside) (chosen f (place + 1) cs outside))
    by true rest = (all.0, rest)
    by false rest = rest

pub ascending_chosen : (f : ℕ → Bool) (place : ℕ) (cs : List ℕ) (outside : ℕ) → IsAscending cs → AllBelow outside cs → IsAscending (chosen f place cs outside)
ascending_chosen f place [] outside up below = by (f place)
  where
    by : (b : Bool) → IsAscending (cond b (outside ∷ []) [])
    by true = (tt, tt)
    by false = tt
ascending_chosen f place (c ∷ cs) outside up below = by (f place) (ascending_chosen f (place + 1) cs outside up.1 below.1)
  where
    by : (b : Bool) → IsAscending (chosen f (place + 1) cs outside) →
        IsAscending (cond b (c ∷ chosen f (place + 1) cs outside) (chosen f (place + 1) cs outside))
    by true rest = (above_chosen f c (place + 1) cs outside up.0 below.0, rest)
    by false rest = rest

pub above_index : (n : ℕ) (xs : List ℕ) (i : ℕ) → AllAbove n xs → i < length xs → n < get_or xs i 0
above_index n [] i all inside = absurd (omega arith)
above_index n (x ∷ xs) zero all inside = all.0
above_index n (x ∷ xs) (suc i) all inside = above_index n xs i all.1 (omega arith)

first_chosen : (b : Bool) (c : ℕ) (rest : List ℕ) → AllAbove c rest → has (cond b (c ∷ rest) rest) c ≡ b
first_chosen true c rest up = rw (same_number c c refl) refl
first_chosen false c rest up = has_not c rest c up (omega arith)

later_chosen : (b : Bool) (c d : ℕ) (rest : List ℕ) → c ≢ d → has (cond b (c ∷ rest) rest) d ≡ has rest d
later_chosen true c d rest ne = rw (other_number c d ne) refl
later_chosen false c d rest ne = refl

pub has-chosen : (f : ℕ → Bool) (place : ℕ) (cs : List ℕ) (outside i : ℕ) → IsAscending cs → AllBelow outside cs → i < length cs →
    has (chosen f place cs outside) (get_or cs i 0) ≡ f (place + i)
has-chosen f place [] outside i up below inside = absurd (omega arith)
has-chosen f place (c ∷ cs) outside zero up below inside =
    first_chosen (f place) c (chosen f (place + 1) cs outside) (above_chosen f c (place + 1) cs outside up.0 below.0) ∙ ap f (omega arith)
has-chosen f place (c ∷ cs) outside (suc i) up below inside =
    let above = above_index c cs i up.0 (omega arith) in
    later_chosen (f place) c (get_or cs i 0) (chosen f (place + 1) cs outside) (omega arith) ∙ has-chosen f (place + 1) cs outside i up.1 below.1 (omega arith)
    ∙ ap f (omega arith)

known_first : (b r : Bool) → r ≡ true → b || r ≡ true
known_first true r e = refl
known_first false r e = e

others_taken : (universe : List ℕ) (b : Bool) (c : ℕ) (rest : List ℕ) → has universe c ≡ true →
    has_others universe (cond b (c ∷ rest) rest) ≡ has_others universe rest
others_taken universe true c rest known = rw known refl
others_taken universe false c rest known = refl

others_last : (universe : List ℕ) (b : Bool) (outside : ℕ) → has universe outside ≡ false → has_others universe (cond b (outside ∷ []) []) ≡ b
others_last universe true outside none = rw none refl
others_last universe false outside none = refl

pub others-chosen : (f : ℕ → Bool) (universe : List ℕ) (place : ℕ) (cs : List ℕ) (outside : ℕ) → ((c : ℕ) → has cs c ≡ true → has universe c ≡ true) →
    has universe outside ≡ false → has_others universe (chosen f place cs outside) ≡ f (place + length cs)
others-chosen f universe place [] outside known none = others_last universe (f place) outside none ∙ ap f (omega arith)
others-chosen f universe place (c ∷ cs) outside known none =
    others_taken universe (f place) c (chosen f (place + 1) cs outside) (known c (rw (same_number c c refl) refl))
    ∙ others-chosen f universe (place + 1) cs outside (λ d there. known d (known_first (nat_eq c d) (has cs d) there)) none
    ∙ ap f (omega arith)

abbrev pub set_of : List ℕ → (ℕ → Bool) → List ℕ
set_of universe f = chosen f 0 universe (outside_of universe)

-- the set makes the variables as true as the test does
pub test-set_of : (universe : List ℕ) (f : ℕ → Bool) → IsAscending universe → (variable : ℕ) → variable ≤ length universe →
    test_of universe (set_of universe f) variable ≡ f variable
test-set_of universe f up variable le = elim (cases_lt variable (length universe)) [
  | inl lt ↦
      let e : nat_lt variable (length universe) ≡ true = grind (arith, nat_tests) in
      rw e (has-chosen f 0 universe (outside_of universe) variable up (all_below_outside universe) lt ∙ ap f (omega arith))
  | inr ge ↦
      let e : nat_lt variable (length universe) ≡ false = grind (arith, nat_tests) in
      rw e (others-chosen f universe 0 universe (outside_of universe) (λ c there. there)
      (has_outside (outside_of universe) universe (all_below_outside universe)) ∙ ap f (omega arith))
]

pub ascending-set_of : (universe : List ℕ) (f : ℕ → Bool) → IsAscending universe → IsAscending (set_of universe f)
ascending-set_of universe f up = ascending_chosen f 0 universe (outside_of universe) up (all_below_outside universe)
