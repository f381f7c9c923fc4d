-- `prepended` is a list of one number before the path.
use Rattle.std.proofs.Common.{◌≡◌, ℕ, zero, suc, List, ◌∷◌, ◌++◌, replicate, refl, ap}
use Rattle.srp_core.specs.Acts.{prepended}

pub prepended-replicate : (k number : ℕ) (path : List ℕ) → replicate k number ++ path ≡ prepended k number path
prepended-replicate zero number path = refl
prepended-replicate (suc k) number path = ap (λ l. number ∷ l) (prepended-replicate k number path)
