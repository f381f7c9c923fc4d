-- Sets of names, turn by turn.
use Rattle.std.proofs.Common.{◌≡◌, ◌<◌, ℕ, ◌+◌, Bool, true, false, not, ◌||◌, List, length, get_or, take, refl, ap, ◌∙◌}
use Rattle.std.proofs.Math.Path.{fun_ext}
use Rattle.std.specs.Prelude.{bytes_eq}
use Rattle.std.specs.List.{list_any}
use Rattle.numbered_names.specs.NameSets.{has_name, AddsName}
use Rattle.numbered_names.specs.declared.sets.NameSet.{NameSet}
use Rattle.cfg_check.specs.NameSets.{lacks_name, HasNames, AddsNames}
use Rattle.cfg_check.proofs.Seen.{any_more, or_cond}

-- a name was put in
pub name_added : (old new : NameSet) (key name : List ℕ) → key ≡ name → AddsName old new key → AddsNames old new (λ q. bytes_eq q name)
name_added old new key name is step = record { each = λ q. step.each q ∙ ap (λ (k : List ℕ). bytes_eq q k || has_name old q) is }

more_names : {X : Type 0} (test : X → List ℕ → Bool) (xs : List X) (i : ℕ) (x : X) (b : Bool) (q : List ℕ) → i < length xs → x ≡ get_or xs i x
    → (test x q || (list_any (λ y. test y q) (take i xs) || b)) ≡ (list_any (λ y. test y q) (take (i + 1) xs) || b)
more_names test xs i x b q below here =
    or_assoc (test x q) (list_any (λ y. test y q) (take i xs)) b
    ∙ ap (λ a. a || b) (or_cond (test x q) (list_any (λ y. test y q) (take i xs)) ∙ any_more (λ y. test y q) xs i x below here)
  where
    or_assoc : (a b c : Bool) → (a || (b || c)) ≡ ((a || b) || c)
    or_assoc true b c = refl
    or_assoc false b c = refl

-- the names of one item more
pub adds_turn : {X : Type 0} (test : X → List ℕ → Bool) (xs : List X) (i : ℕ) (x : X) (old mid new : NameSet) → i < length xs → x ≡ get_or xs i x
    → AddsNames old mid (λ q. list_any (λ y. test y q) (take i xs)) → AddsNames mid new (test x) →
    AddsNames old new (λ q. list_any (λ y. test y q) (take (i + 1) xs))
adds_turn test xs i x old mid new below here so_far step = record {
  each = λ q. step.each q ∙ ap (λ b. test x q || b) (so_far.each q) ∙ more_names test xs i x (has_name old q) q below here;
}

pub has_turn : {X : Type 0} (test : X → List ℕ → Bool) (xs : List X) (i : ℕ) (x : X) (mid new : NameSet) → i < length xs → x ≡ get_or xs i x
    → HasNames mid (λ q. list_any (λ y. test y q) (take i xs)) → AddsNames mid new (test x) → HasNames new (λ q. list_any (λ y. test y q) (take (i + 1) xs))
has_turn test xs i x mid new below here so_far step = record {
  each = λ q. step.each q ∙ ap (λ b. test x q || b) (so_far.each q) ∙ or_cond (test x q) (list_any (λ y. test y q) (take i xs))
      ∙ any_more (λ y. test y q) xs i x below here;
}

-- a set of names lacks what fails the test
pub lacks_is : (set : NameSet) (test : List ℕ → Bool) → HasNames set test → lacks_name set ≡ (λ q. not (test q))
lacks_is set test names = fun_ext (λ q. ap not (names.each q))

pub has_is : (set : NameSet) (test : List ℕ → Bool) → HasNames set test → has_name set ≡ test
has_is set test names = fun_ext (λ q. names.each q)
