-- Items that a test finds in a list, and lists none of whose items has a line.
use Rattle.std.proofs.Common.{◌≡◌, Bool, true, false, cond, ◌||◌, List, [], ◌∷◌, ◌++◌, Some, refl, sym, ◌∙◌, ap}
use Rattle.std.specs.Prelude.{find, Contains, IfSome, flat_map}
use Rattle.std.specs.List.{list_any, AllByRecursion}
use Rattle.std.proofs.lemmas.List.Concat.{flat_map-cons}
use Rattle.std.proofs.lemmas.List.Elements.{All-from_recursion, recursion_from_All, All-contains, All-contains_itself}
use Rattle.std.proofs.lemmas.List.Folds.{list_any_at}

-- what holds of all items holds of the one that is found
pub found_holds : {X : Type 0} (P : X → Type 0) (test : X → Bool) (items : List X) → AllByRecursion P items → IfSome (find test items) P
found_holds P test [] all = tt
found_holds P test (item ∷ items) all = step (test item) (found_holds P test items all.1) where
  step : (b : Bool) → IfSome (find test items) P → IfSome (cond b (Some item) (find test items)) P
  step true rest = all.0
  step false rest = rest

pub found_passes : {X : Type 0} (test : X → Bool) (items : List X) → IfSome (find test items) (λ item. test item ≡ true)
found_passes test [] = tt
found_passes {X} test (item ∷ items) = step (test item) refl (found_passes test items) where
  step : (b : Bool) → test item ≡ b → IfSome (find test items) (λ (x : X). test x ≡ true) →
      IfSome (cond b (Some item) (find test items)) (λ (x : X). test x ≡ true)
  step true is rest = is
  step false is rest = rest

-- an item of the list with a fact, and what follows from both, for all items
pub each_contained : {X : Type 0} (P : X → Type 0) (items : List X) → ((item : X) → Contains items item → P item) → AllByRecursion P items
each_contained P items holds = recursion_from_All P items (λ k d below. holds _ (All-contains_itself items k d below))

pub found_contained : {X : Type 0} (test : X → Bool) (items : List X) → IfSome (find test items) (Contains items)
found_contained test items = found_holds (Contains items) test items (each_contained (Contains items) items (λ item contained. contained))

pub contained_holds : {X : Type 0} (P : X → Type 0) (items : List X) (item : X) → AllByRecursion P items → Contains items item → P item
contained_holds P items item all contained = All-contains P items item (All-from_recursion P items all) contained

pub any_contained : {X : Type 0} (test : X → Bool) (items : List X) (item : X) → Contains items item → test item ≡ true → list_any test items ≡ true
any_contained test items item contained passes = list_any_at test items contained.0 item contained.1 (ap test contained.2 ∙ passes)

or_first : (a b : Bool) → (a || b) ≡ false → a ≡ false
or_first true b none = none
or_first false b none = refl

or_second : (a b : Bool) → (a || b) ≡ false → b ≡ false
or_second true b none = absurd (cc)
or_second false b none = none

pub none_pass : {X : Type 0} (test : X → Bool) (items : List X) → list_any test items ≡ false → AllByRecursion (λ item. test item ≡ false) items
none_pass test [] none = tt
none_pass test (item ∷ items) none = (or_first (test item) (list_any test items) none, none_pass test items (or_second (test item) (list_any test items) none))

pub first_empty : {X : Type 0} (xs ys : List X) → xs ++ ys ≡ [] → xs ≡ []
first_empty [] ys none = refl
first_empty (x ∷ xs) ys none = absurd (cc)

pub second_empty : {X : Type 0} (xs ys : List X) → xs ++ ys ≡ [] → ys ≡ []
second_empty [] ys none = none
second_empty (x ∷ xs) ys none = absurd (cc)

-- where all items together have no line, none has
pub each_empty : {X Y : Type 0} (lines : X → List Y) (items : List X) → flat_map lines items ≡ [] → AllByRecursion (λ item. lines item ≡ []) items
each_empty lines [] none = tt
each_empty lines (item ∷ items) none =
    let parted = sym (flat_map-cons lines item items) ∙ none in
    (first_empty (lines item) (flat_map lines items) parted, each_empty lines items (second_empty (lines item) (flat_map lines items) parted))

pub contained_empty : {X Y : Type 0} (lines : X → List Y) (items : List X) (item : X) → flat_map lines items ≡ [] → Contains items item → lines item ≡ []
contained_empty {X} lines items item none contained = contained_holds (λ (x : X). lines x ≡ []) items item (each_empty lines items none) contained

-- a line that is given on a condition is absent where the condition fails
pub unless_given : {X : Type 0} (b : Bool) (line : X) → cond b (line ∷ []) [] ≡ [] → b ≡ false
unless_given true line none = absurd (cc)
unless_given false line none = refl
