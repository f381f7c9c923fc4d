-- A path that begins with one number so many times.
use Rattle.std.proofs.Common.{◌≡◌, ℕ, zero, suc, ◌+◌, ◌-◌, ◌<◌, ◌≤◌, Bool, true, false, cond, ◌&&◌, ◌||◌, List, [], ◌∷◌, length, take, drop, length-drop, add-one, refl, sym, ap, ◌∙◌, arith, nat_eq, Option, Some, None, option_map, option_and_then}
use Rattle.std.specs.Prelude.{bytes_eq}
use Rattle.std.specs.List.{list_all}
use Rattle.std.proofs.lemmas.List.{take_all}
use Rattle.route_maps.specs.declared.plain.Imported.{Imported}
use Rattle.srp_core.specs.Acts.{prepended, arrived}
use Rattle.srp_core.specs.Candidates.{passed}
use Rattle.srp_core.specs.Routes.{is_on}

pub too_short : (k number : ℕ) (path rest : List ℕ) → length path < k → bytes_eq path (prepended k number rest) ≡ false
too_short zero number path rest lt = absurd (omega arith)
too_short (suc k) number [] rest lt = refl
too_short (suc k) number (x ∷ path) rest lt = rw (too_short k number path rest (omega arith)) (by (nat_eq x number))
  where
    by : (b : Bool) → b && false ≡ false
    by true = refl
    by false = refl

and_both : (a b c : Bool) → (a && b) && c ≡ a && (b && c)
and_both true b c = refl
and_both false b c = refl

pub long_enough : (k number : ℕ) (path rest : List ℕ) → k ≤ length path →
    bytes_eq path (prepended k number rest) ≡ list_all (λ other. nat_eq other number) (take k path) && bytes_eq (drop k path) rest
long_enough zero number path rest le = refl
long_enough (suc k) number [] rest le = absurd (omega arith)
long_enough (suc k) number (x ∷ path) rest le =
    ap (λ (b : Bool). nat_eq x number && b) (long_enough k number path rest (omega arith))
    ∙ sym (and_both (nat_eq x number) (list_all (λ other. nat_eq other number) (take k path)) (bytes_eq (drop k path) rest))

-- ---- loops

twice : (a b : Bool) → a || (a || b) ≡ a || b
twice true b = refl
twice false b = refl

pub on_longer : (k number own : ℕ) (path : List ℕ) → is_on own (prepended (suc k) number path) ≡ nat_eq number own || is_on own path
on_longer zero number own path = refl
on_longer (suc k) number own path = ap (λ (b : Bool). nat_eq number own || b) (on_longer k number own path) ∙ twice (nat_eq number own) (is_on own path)

pub dropped : (number own : ℕ) (path : List ℕ) (i : Option Imported) → (nat_eq number own || is_on own path) ≡ true →
    option_and_then (passed own) (option_map (arrived number path) i) ≡ None
dropped number own path None e = refl
dropped number own path (Some imported) e = ap (λ (b : Bool). cond b None (Some (arrived number path imported))) (on_longer imported.adds number own path ∙ e)

pub kept : (number own : ℕ) (path : List ℕ) (imported : Imported) → (nat_eq number own || is_on own path) ≡ false →
    option_and_then (passed own) (option_map (arrived number path) (Some imported)) ≡ Some (arrived number path imported)
kept number own path imported e = ap (λ (b : Bool). cond b None (Some (arrived number path imported))) (on_longer imported.adds number own path ∙ e)

-- ---- by slices

pub not_all : (adds number : ℕ) (path rest : List ℕ) → adds + 1 ≤ length path → list_all (λ other. nat_eq other number) (take (adds + 1) path) ≡ false →
    bytes_eq path (prepended (suc adds) number rest) ≡ false
not_all adds number path rest le none =
    let front : list_all (λ other. nat_eq other number) (take (suc adds) path) ≡ false =
    ap (λ (k : ℕ). list_all (λ other. nat_eq other number) (take k path)) (sym (add-one adds)) ∙ none in
    long_enough (suc adds) number path rest (omega arith) ∙ ap (λ (b : Bool). b && bytes_eq (drop (suc adds) path) rest) front

pub all_front : (adds number : ℕ) (path rest : List ℕ) → adds + 1 ≤ length path → list_all (λ other. nat_eq other number) (take (adds + 1) path) ≡ true
    → bytes_eq path (prepended (suc adds) number rest) ≡ bytes_eq (take (length path - (adds + 1)) (drop (adds + 1) path)) rest
all_front adds number path rest le all =
    let front : list_all (λ other. nat_eq other number) (take (suc adds) path) ≡ true =
    ap (λ (k : ℕ). list_all (λ other. nat_eq other number) (take k path)) (sym (add-one adds)) ∙ all in
    long_enough (suc adds) number path rest (omega arith) ∙ ap (λ (b : Bool). b && bytes_eq (drop (suc adds) path) rest) front
    ∙ ap (λ (k : ℕ). bytes_eq (drop k path) rest) (sym (add-one adds))
    ∙ ap (λ (xs : List ℕ). bytes_eq xs rest) (sym (take_all (length path - (adds + 1)) (drop (adds + 1) path) (omega (arith, length-drop (adds + 1) path))))
