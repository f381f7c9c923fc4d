-- Acts that are numbered by the first edges that have them.
use Rattle.std.proofs.Common.{◌≡◌, ℕ, zero, suc, ◌+◌, ◌<◌, ◌≤◌, List, [], ◌∷◌, ◌++◌, ◌⊎◌, length, take, get_or, slice_get, Some, refl, ◌∙◌, ap, arith, inl, inr}
use Rattle.std.proofs.lemmas.Bool.{cases_lt}
use Rattle.base_kit.specs.declared.act_graph.Edge.{Edge}
use Rattle.srp_build.specs.ActOrder.{HasEarlier, AreByFirstUse}

pub length_last : {X : Type 0} (xs : List X) (x : X) → length (xs ++ x ∷ []) ≡ length xs + 1
length_last [] x = refl
length_last (y ∷ ys) x = let r = length_last ys x in omega arith

pub get_front : {X : Type 0} (xs ys : List X) (k : ℕ) (x : X) → slice_get xs k ≡ Some x → slice_get (xs ++ ys) k ≡ Some x
get_front [] ys k x e = absurd cc
get_front (z ∷ xs) ys zero x e = e
get_front (z ∷ xs) ys (suc k) x e = get_front xs ys k x e

pub get_last : {X : Type 0} (xs : List X) (x : X) → slice_get (xs ++ x ∷ []) (length xs) ≡ Some x
get_last [] x = refl
get_last (z ∷ xs) x = get_last xs x

pub within_get : {X : Type 0} (xs : List X) (k : ℕ) (x : X) → slice_get xs k ≡ Some x → k < length xs
within_get [] k x e = absurd cc
within_get (z ∷ xs) zero x e = omega arith
within_get (z ∷ xs) (suc k) x e = let r = within_get xs k x e in omega arith

take_next : {X : Type 0} (xs : List X) (k : ℕ) (x d : X) → k < length xs → get_or xs k d ≡ x → take (suc k) xs ≡ take k xs ++ x ∷ []
take_next [] k x d within at = absurd (omega arith)
take_next {X} (y ∷ ys) zero x d within at = ap (λ (z : X). z ∷ []) at
take_next {X} (y ∷ ys) (suc k) x d within at = ap (λ (l : List X). y ∷ l) (take_next ys k x d (omega arith) at)

-- one more item of a list
pub take_more : {X : Type 0} (xs : List X) (i : ℕ) (x d : X) → i < length xs → get_or xs i d ≡ x → take (i + 1) xs ≡ take i xs ++ x ∷ []
take_more {X} xs i x d within at = ap (λ (m : ℕ). take m xs) (let one : i + 1 ≡ suc i = omega arith in one) ∙ take_next xs i x d within at

pub front_or_last : {X : Type 0} (xs : List X) (x : X) (k : ℕ) (y : X) → slice_get (xs ++ x ∷ []) k ≡ Some y → (slice_get xs k ≡ Some y)
    ⊎ ((k ≡ length xs) × (x ≡ y))
front_or_last [] x zero y e = inr (refl, cc)
front_or_last [] x (suc k) y e = absurd cc
front_or_last (z ∷ xs) x zero y e = inl e
front_or_last (z ∷ xs) x (suc k) y e = elim (front_or_last xs x k y e) [
  | inl front ↦ inl front
  | inr last ↦ inr (ap suc last.0, last.1)
]

pub later_place : (edges : List Edge) (place later act : ℕ) → place ≤ later → HasEarlier edges place act → HasEarlier edges later act
later_place edges place later act le has =
    record { earlier = has.earlier; before = let b = has.before in omega arith; edge = has.edge; at = has.at; same = has.same }

earlier_kept : (edges more : List Edge) (place later act : ℕ) → place ≤ later → HasEarlier edges place act → HasEarlier (edges ++ more) later act
earlier_kept edges more place later act le has = record {
  earlier = has.earlier;
  before = let b = has.before in omega arith;
  edge = has.edge;
  at = get_front edges more has.earlier has.edge has.at;
  same = has.same;
}

-- the act is one of the old ones, or the next one
abbrev pub IsOldOrNext : ℕ → ℕ → ℕ → Type 0
IsOldOrNext old new act = ((new ≡ old) × (act < old)) ⊎ ((new ≡ old + 1) × (act ≡ old))

newest : (old new act : ℕ) → IsOldOrNext old new act → (other : ℕ) → other < new → old ≤ other → act ≡ other
newest old new act (inl k) other below le = let a = k.0 in absurd (omega arith)
newest old new act (inr k) other below le = let a = k.0 in let b = k.1 in omega arith

oldest : (old new act : ℕ) → IsOldOrNext old new act → (other : ℕ) → other < act → other < old
oldest old new act (inl k) other less = let a = k.1 in omega arith
oldest old new act (inr k) other less = let a = k.1 in omega arith

-- one more edge
pub first_use_next : (old new : ℕ) (edges : List Edge) (last : Edge) → AreByFirstUse edges old → IsOldOrNext old new last.act →
    AreByFirstUse (edges ++ last ∷ []) new
first_use_next old new edges last order known =
    let total = length_last edges last in
    let old_used : (other : ℕ) → other < old → HasEarlier (edges ++ last ∷ []) (length edges) other =
    λ other below. earlier_kept edges (last ∷ []) (length edges) (length edges) other (omega arith) (order.used other below) in
    record {
      used = λ other below. elim (cases_lt other old) [
        | inl less ↦ later_place (edges ++ last ∷ []) (length edges) (length (edges ++ last ∷ [])) other (omega arith) (old_used other less)
        | inr not_less ↦ record {
          earlier = length edges;
          before = omega arith;
          edge = last;
          at = get_last edges last;
          same = newest old new last.act known other below not_less;
        }
      ];
      in_order = λ place other edge e less. elim (front_or_last edges last place edge e) [
        | inl front ↦ earlier_kept edges (last ∷ []) place place other (omega arith) (order.in_order place other edge front less)
        | inr is_last ↦ later_place (edges ++ last ∷ []) (length edges) place other (let a = is_last.0 in omega arith)
            (old_used other (oldest old new last.act known other (let same = ap (λ (x : Edge). x.act) is_last.1 in omega arith)))
      ];
    }

pub no_first_use : AreByFirstUse [] 0
no_first_use = record {
  used = λ act below. absurd (omega arith);
  in_order = λ place act edge at less. absurd cc;
}
