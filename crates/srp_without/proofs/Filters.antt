-- What is left of a list.
use Rattle.std.proofs.Common.{◌≡◌, ◌≤◌, Bool, true, false, cond, List, [], ◌∷◌, length, arith}
use Rattle.std.specs.Prelude.{Contains, filter}
use Rattle.std.specs.List.{AllByRecursion}
use Rattle.std.proofs.lemmas.List.Elements.{All-from_recursion, recursion_from_All}
use Rattle.base_kit.specs.declared.act_graph.Edge.{Edge}
use Rattle.base_kit.proofs.Elements.{contains_in, in_contains, filter_in, in_filter}
use Rattle.srp_core.specs.Problem.{Precedes, AreOrdered}

pub left_was : {X : Type 0} (p : X → Bool) (xs : List X) (x : X) → Contains (filter p xs) x → Contains xs x
left_was p xs x h = contains_in xs x (filter_in p xs x (in_contains (filter p xs) x h)).0

pub left_passes : {X : Type 0} (p : X → Bool) (xs : List X) (x : X) → Contains (filter p xs) x → p x ≡ true
left_passes p xs x h = (filter_in p xs x (in_contains (filter p xs) x h)).1

pub passes_left : {X : Type 0} (p : X → Bool) (xs : List X) (x : X) → Contains xs x → p x ≡ true → Contains (filter p xs) x
passes_left p xs x h e = contains_in (filter p xs) x (in_filter p xs x (in_contains xs x h) e)

pub no_more : {X : Type 0} (p : X → Bool) (xs : List X) → length (filter p xs) ≤ length xs
no_more p [] = omega arith
no_more {X} p (x ∷ xs) = by (p x) (no_more p xs)
  where
    by : (b : Bool) → length (filter p xs) ≤ length xs → length (cond b (x ∷ filter p xs) (filter p xs)) ≤ length (x ∷ xs)
    by true h = omega arith
    by false h = omega arith

all_left : {X : Type 0} (P : X → Type 0) (p : X → Bool) (xs : List X) → AllByRecursion P xs → AllByRecursion P (filter p xs)
all_left P p [] all = tt
all_left {X} P p (x ∷ xs) all = by (p x) (all_left P p xs all.1)
  where
    by : (b : Bool) → AllByRecursion P (filter p xs) → AllByRecursion P (cond b (x ∷ filter p xs) (filter p xs))
    by true h = (all.0, h)
    by false h = h

-- edges that are left stand in order
pub ordered_left : (p : Edge → Bool) (edges : List Edge) → AreOrdered edges → AreOrdered (filter p edges)
ordered_left p [] ordered = tt
ordered_left p (edge ∷ edges) ordered = by (p edge) (ordered_left p edges ordered.1)
  where
    by : (b : Bool) → AreOrdered (filter p edges) → AreOrdered (cond b (edge ∷ filter p edges) (filter p edges))
    by true h = (
      All-from_recursion (Precedes edge) (filter p edges)
          (all_left (Precedes edge) p edges (recursion_from_All (Precedes edge) edges ordered.0)),
      h,
    )
    by false h = h
