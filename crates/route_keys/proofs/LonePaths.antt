-- The lone numbers on a path, by their members.
use Rattle.std.proofs.Common.{◌≡◌, ℕ, suc, ◌+◌, ◌<◌, ◌≤◌, Bool, true, false, cond, ◌&&◌, ◌||◌, List, [], ◌∷◌, ◌++◌, length, take, drop, drop-cons, get_or, refl}
use Rattle.std.proofs.Common.{sym, ap, ◌∙◌, arith, nat_eq, true≢false, add-one}
use Rattle.std.proofs.lemmas.Bool.{eqb-true, eq-eqb}
use Rattle.std.proofs.lemmas.List.{drop_all}
use Rattle.std.proofs.Math.Seq.{take-suc}
use Rattle.base_kit.specs.Sets.{has, with_number, IsAscending}
use Rattle.base_kit.proofs.SetFacts.{has-with_number, one_list}
use Rattle.base_kit.proofs.Members.{ascending_with}
use Rattle.srp_core.specs.Routes.{is_on, chosen}
use Rattle.srp_core.specs.Problem.{has_marked_number}

-- ---- the chosen numbers of a path

chosen_by : (b : Bool) (number : ℕ) (rest : List ℕ) → IsAscending rest → IsAscending (cond b (with_number number rest) rest)
chosen_by true number rest up = ascending_with number rest up
chosen_by false number rest up = up

pub chosen_ascends : (test : ℕ → Bool) (path : List ℕ) → IsAscending (chosen test path)
unfolding chosen
chosen_ascends test [] = tt
chosen_ascends test (number ∷ path) = chosen_by (test number) number (chosen test path) (chosen_ascends test path)

equal_by : (test : ℕ → Bool) (number n : ℕ) → nat_eq number n ≡ true → (b : Bool) → test number ≡ b → test n ≡ b
equal_by test number n e b t = ap test (sym (eqb-true number n e)) ∙ t

in_by : (test : ℕ → Bool) (number n : ℕ) (on same : Bool) → nat_eq number n ≡ same → test number ≡ true → same || (test n && on) ≡ test n && (same || on)
in_by test number n on true e t = rw (equal_by test number n e true t) refl
in_by test number n on false e t = refl

out_by : (test : ℕ → Bool) (number n : ℕ) (on same : Bool) → nat_eq number n ≡ same → test number ≡ false → test n && on ≡ test n && (same || on)
out_by test number n on true e t = rw (equal_by test number n e false t) refl
out_by test number n on false e t = refl

member_by : (test : ℕ → Bool) (number n : ℕ) (rest : List ℕ) (on : Bool) (b : Bool) → test number ≡ b → has rest n ≡ test n && on
    → has (cond b (with_number number rest) rest) n ≡ test n && (nat_eq number n || on)
member_by test number n rest on true e h =
    has-with_number number rest n ∙ ap (λ (v : Bool). nat_eq number n || v) h ∙ in_by test number n on (nat_eq number n) refl e
member_by test number n rest on false e h = h ∙ out_by test number n on (nat_eq number n) refl e

nothing_on : (b : Bool) → false ≡ b && false
nothing_on true = refl
nothing_on false = refl

pub chosen_members : (test : ℕ → Bool) (path : List ℕ) (n : ℕ) → has (chosen test path) n ≡ test n && is_on n path
unfolding chosen
chosen_members test [] n = nothing_on (test n)
chosen_members test (number ∷ path) n = member_by test number n (chosen test path) (is_on n path) (test number) refl (chosen_members test path n)

-- the set of the members is the list
pub chosen_is : (test : ℕ → Bool) (path set : List ℕ) → IsAscending set → ((n : ℕ) → has set n ≡ test n && is_on n path) → set ≡ chosen test path
chosen_is test path set up members = one_list set (chosen test path) up (chosen_ascends test path) (λ n. members n ∙ sym (chosen_members test path n))

-- ---- members, one by one

has_push : (xs : List ℕ) (number n : ℕ) → has (xs ++ number ∷ []) n ≡ has xs n || nat_eq number n
has_push [] number n = by (nat_eq number n)
  where
    by : (b : Bool) → b || false ≡ b
    by true = refl
    by false = refl
has_push (x ∷ xs) number n = ap (λ (b : Bool). nat_eq x n || b) (has_push xs number n) ∙ by (nat_eq x n) (has xs n) (nat_eq number n)
  where
    by : (a b c : Bool) → a || (b || c) ≡ (a || b) || c
    by true b c = refl
    by false b c = refl

taken_more : (path : List ℕ) (i number : ℕ) → i < length path → number ≡ get_or path i number → take (i + 1) path ≡ take i path ++ number ∷ []
taken_more path i number lt is = ap (λ (k : ℕ). take k path) (add-one i) ∙ take-suc path i number lt ∙ ap (λ (x : ℕ). take i path ++ x ∷ []) (sym is)

module _ (test : ℕ → Bool) (path found : List ℕ) (i number : ℕ) (inside : i < length path) (is : number ≡ get_or path i number)
    (so_far : (n : ℕ) → has found n ≡ test n && is_on n (take i path)) where
  on_more : (n : ℕ) → is_on n (take (i + 1) path) ≡ is_on n (take i path) || nat_eq number n
  on_more n = ap (is_on n) (taken_more path i number inside is) ∙ has_push (take i path) number n

  put_by : (t on same : Bool) → (same ≡ true → t ≡ true) → (t && on) || same ≡ t && (on || same)
  put_by true on same h = refl
  put_by false on true h = absurd (true≢false (sym (h refl)))
  put_by false on false h = refl

  pub found_more : test number ≡ true → (n : ℕ) → has (found ++ number ∷ []) n ≡ test n && is_on n (take (i + 1) path)
  found_more t n =
      has_push found number n ∙ ap (λ (b : Bool). b || nat_eq number n) (so_far n)
      ∙ put_by (test n) (is_on n (take i path)) (nat_eq number n) (λ e. equal_by test number n e true t) ∙ ap (λ (b : Bool). test n && b) (sym (on_more n))

  leave_by : (t on same : Bool) → (same ≡ true → t && on ≡ t && true) → t && on ≡ t && (on || same)
  leave_by true true same h = refl
  leave_by true false true h = h refl
  leave_by true false false h = refl
  leave_by false on same h = refl

  -- the number is there, or does not pass
  pub found_same : (test number ≡ true → has found number ≡ true) → (n : ℕ) → has found n ≡ test n && is_on n (take (i + 1) path)
  found_same h n =
      so_far n ∙ leave_by (test n) (is_on n (take i path)) (nat_eq number n) (λ e. at n (eqb-true number n e) (test n) refl)
      ∙ ap (λ (b : Bool). test n && b) (sym (on_more n))
    where
      at : (n : ℕ) → number ≡ n → (t : Bool) → test n ≡ t → t && is_on n (take i path) ≡ t && true
      at n same false e = refl
      at n same true e = ap (λ (b : Bool). b && is_on n (take i path)) (sym e) ∙ sym (so_far n) ∙ ap (has found) (sym same) ∙ h (ap test same ∙ e)

pub last_there : (xs : List ℕ) (number : ℕ) → has (xs ++ number ∷ []) number ≡ true
last_there xs number = has_push xs number number ∙ ap (λ (b : Bool). has xs number || b) (eq-eqb number number refl) ∙ or_true (has xs number)
  where
    or_true : (b : Bool) → b || true ≡ true
    or_true true = refl
    or_true false = refl

-- ---- the numbers of marked routers

pub marked_none : (n : ℕ) (marks : List Bool) (numbers : List ℕ) (i : ℕ) → length marks ≤ i → has_marked_number (drop i marks) (drop i numbers) n ≡ false
unfolding has_marked_number
marked_none n marks numbers i le = ap (λ (ms : List Bool). has_marked_number ms (drop i numbers) n) (drop_all i marks le)

pub marked_first : (n : ℕ) (marks : List Bool) (numbers : List ℕ) (i number : ℕ) (mark : Bool) → i < length marks → length marks ≡ length numbers
    → mark ≡ get_or marks i mark → number ≡ get_or numbers i number
    → has_marked_number (drop i marks) (drop i numbers) n ≡ (mark && nat_eq number n) || has_marked_number (drop (i + 1) marks) (drop (i + 1) numbers) n
unfolding has_marked_number
marked_first n marks numbers i number mark lt same is_mark is_number =
    let first : drop i marks ≡ mark ∷ drop (i + 1) marks =
    drop-cons marks i mark lt ∙ ap (λ (m : Bool). m ∷ drop (suc i) marks) (sym is_mark) ∙ ap (λ (k : ℕ). mark ∷ drop k marks) (sym (add-one i)) in
    let second : drop i numbers ≡ number ∷ drop (i + 1) numbers =
    drop-cons numbers i number (omega arith) ∙ ap (λ (m : ℕ). m ∷ drop (suc i) numbers) (sym is_number)
    ∙ ap (λ (k : ℕ). number ∷ drop k numbers) (sym (add-one i)) in
    ap (λ (ms : List Bool). has_marked_number ms (drop i numbers) n) first ∙ ap (λ (ns : List ℕ). has_marked_number (mark ∷ drop (i + 1) marks) ns n) second
