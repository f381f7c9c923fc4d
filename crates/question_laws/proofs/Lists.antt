-- What holds of all items of a list, and of the list of their groups.
use Rattle.std.proofs.Common.{ℕ, List, [], ◌∷◌, map}
use Rattle.std.specs.Prelude.{All}
use Rattle.std.specs.List.{AllByRecursion}
use Rattle.std.proofs.lemmas.List.Elements.{All-from_recursion, recursion_from_All}

down_by : (A P Q : ℕ → Type 0) (g : ℕ → ℕ) → ((x : ℕ) → A x → P x → Q (g x)) → (xs : List ℕ) → AllByRecursion A xs → AllByRecursion P xs →
    AllByRecursion Q (map g xs)
down_by A P Q g f [] a p = tt
down_by A P Q g f (x ∷ xs) a p = (f x a.0 p.0, down_by A P Q g f xs a.1 p.1)

up_by : (A P Q : ℕ → Type 0) (g : ℕ → ℕ) → ((x : ℕ) → A x → Q (g x) → P x) → (xs : List ℕ) → AllByRecursion A xs → AllByRecursion Q (map g xs) →
    AllByRecursion P xs
up_by A P Q g f [] a q = tt
up_by A P Q g f (x ∷ xs) a q = (f x a.0 q.0, up_by A P Q g f xs a.1 q.1)

along_by : (A P Q : ℕ → Type 0) → ((x : ℕ) → A x → P x → Q x) → (xs : List ℕ) → AllByRecursion A xs → AllByRecursion P xs → AllByRecursion Q xs
along_by A P Q f [] a p = tt
along_by A P Q f (x ∷ xs) a p = (f x a.0 p.0, along_by A P Q f xs a.1 p.1)

pub all_down : (A P Q : ℕ → Type 0) (g : ℕ → ℕ) → ((x : ℕ) → A x → P x → Q (g x)) → (xs : List ℕ) → All A xs → All P xs → All Q (map g xs)
all_down A P Q g f xs a p = All-from_recursion Q (map g xs) (down_by A P Q g f xs (recursion_from_All A xs a) (recursion_from_All P xs p))

pub all_up : (A P Q : ℕ → Type 0) (g : ℕ → ℕ) → ((x : ℕ) → A x → Q (g x) → P x) → (xs : List ℕ) → All A xs → All Q (map g xs) → All P xs
all_up A P Q g f xs a q = All-from_recursion P xs (up_by A P Q g f xs (recursion_from_All A xs a) (recursion_from_All Q (map g xs) q))

pub all_along : (A P Q : ℕ → Type 0) → ((x : ℕ) → A x → P x → Q x) → (xs : List ℕ) → All A xs → All P xs → All Q xs
all_along A P Q f xs a p = All-from_recursion Q xs (along_by A P Q f xs (recursion_from_All A xs a) (recursion_from_All P xs p))
