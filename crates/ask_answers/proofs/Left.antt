-- What is left where nothing is down.
use Rattle.std.proofs.Common.{◌≡◌, ℕ, zero, suc, Bool, true, false, ◌||◌, List, [], ◌∷◌, refl}
use Rattle.std.specs.Prelude.{slice_index_or}
use Rattle.std.specs.List.{list_any}
use Rattle.srp_core.specs.Problem.{Problem, IsProblem}
use Rattle.srp_core.specs.Without.{marked_down, IsWithout}
use Rattle.srp_without.proofs.NoneDown.{none_down}

-- no mark is set
unmarked : (marks : List Bool) → list_any (λ mark. mark) marks ≡ false → (place : ℕ) → slice_index_or marks place false ≡ false
unmarked [] none place = refl
unmarked (true ∷ marks) none place = absurd cc
unmarked (false ∷ marks) none zero = refl
unmarked (false ∷ marks) none (suc place) = unmarked marks none place

neither : (p q : Bool) → (p || q) ≡ false → (p ≡ false) × (q ≡ false)
neither true q none = absurd cc
neither false q none = (refl, none)

pub whole_left : (problem : Problem) → IsProblem problem → (routers links : List Bool) →
    (list_any (λ mark. mark) routers || list_any (λ mark. mark) links) ≡ false →
    IsWithout problem (marked_down routers links) problem
whole_left problem rules routers links none =
    let parts = neither (list_any (λ mark. mark) routers) (list_any (λ mark. mark) links) none in
    none_down problem rules routers links (unmarked routers parts.0) (unmarked links parts.1)
