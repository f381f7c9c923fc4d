-- The parts and the entries that loops make, one more at a time.
use Rattle.std.proofs.Common.{◌≡◌, ℕ, ◌+◌, ◌<◌, List, [], ◌∷◌, ◌++◌, length, take, get_or, refl, ◌∙◌, ap, arith}
use Rattle.std.proofs.lemmas.List.{length-take-le}
use Rattle.base_kit.specs.declared.ids.Community.{Community}
use Rattle.route_maps.specs.declared.plain.PlainEntry.{PlainEntry}
use Rattle.canon_policy.specs.declared.fixing.Fixing.{Fixing}
use Rattle.canon_policy.specs.declared.parts.PartNodes.{PartNodes}
use Rattle.canon_policy.specs.declared.parts.PartNodes.TheVariants.{Carried}
use Rattle.canon_policy.specs.Canonical.{numbered_from}
use Rattle.canon_policy.specs.Made.{carried_nodes}
use Rattle.canon_policy.proofs.MadeLists.{taken}
use Rattle.canon_policy.proofs.Verdicts.{numbered-append}

pub parts_more : (xs : List (Community × ℕ)) (x : Community × ℕ) → carried_nodes (xs ++ x ∷ []) ≡ carried_nodes xs ++ Carried x.0 x.1 ∷ []
parts_more [] x = refl
parts_more (y ∷ ys) x = ap (λ (l : List PartNodes). Carried y.0 y.1 ∷ l) (parts_more ys x)

pub numbered_more : (entry : ℕ → Fixing → PlainEntry) (xs : List Fixing) (i : ℕ) (x : Fixing) → i < length xs → x ≡ get_or xs i x
    → numbered_from 1 entry (take (i + 1) xs) ≡ numbered_from 1 entry (take i xs) ++ entry (i + 1) x ∷ []
numbered_more entry xs i x lt e =
    let size : length (take i xs) ≡ i = length-take-le i xs (omega arith) in
    let place : 1 + length (take i xs) ≡ i + 1 = omega arith in
    ap (λ (l : List Fixing). numbered_from 1 entry l) (taken xs i x lt e)
    ∙ numbered-append entry 1 (take i xs) (x ∷ [])
    ∙ ap (λ (n : ℕ). numbered_from 1 entry (take i xs) ++ entry n x ∷ []) place
