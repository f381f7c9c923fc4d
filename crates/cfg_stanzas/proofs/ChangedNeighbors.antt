-- A neighbour changed in its place.
use Rattle.std.proofs.Common.{◌≡◌, ℕ, zero, suc, ◌<◌, ◌≤◌, Bool, true, false, List, [], ◌∷◌, length, get_or, Some, None, Result, Ok, Err, refl, arith, ◌==◌}
use Rattle.std.proofs.Math.ListN.{set}
use Rattle.std.specs.List.{position, position_or_len}
use Rattle.std.proofs.lemmas.List.Quantifiers.{position-Some}
use Rattle.std.proofs.lemmas.Bool.Decides.{nat_tests}
use Rattle.std.proofs.lemmas.Grind.{common_steps}
use Rattle.std.proofs.lemmas.List.Sums.{fails_before_first}
use Rattle.cfg_ast.specs.declared.bgp.Neighbor.{Neighbor}
use Rattle.cfg_ast.specs.declared.refusal.Kind.TheVariants.{Misplaced}
use Rattle.cfg_ast.specs.declared.refusal.ReadRefusal.{ReadRefusal}
use Rattle.cfg_ast.specs.declared.refusal.ReadRefusal.TheVariants.{At}
use Rattle.cfg_ast.specs.declared.items.RouterItem.{RouterItem}
use Rattle.cfg_ast.specs.text.Stanzas.{at_neighbor, set_neighbor, new_neighbor}
use Rattle.cfg_ast.specs.text.Steps.{◌>>=◌}
use Rattle.cfg_stanzas.specs.Neighbors.{change_at}
use Rattle.std.proofs.lemmas.List.{get_or_default}

abbrev pub has_addr : ℕ → Neighbor → Bool
has_addr addr p = p.addr == addr

behind : (p : Neighbor) (ps : List Neighbor) (i : ℕ) (r : Result Neighbor ReadRefusal)
    → (r >>= (λ (q : Neighbor). Ok (set ps i q))) >>= (λ (qs : List Neighbor). Ok (p ∷ qs)) ≡ r >>= (λ (q : Neighbor). Ok (set (p ∷ ps) (suc i) q))
behind p ps i (Ok q) = refl
behind p ps i (Err e) = refl

at_place : (n addr : ℕ) (change : Neighbor → Result Neighbor ReadRefusal) (ps : List Neighbor) (i : ℕ) (d : Neighbor) → i < length ps →
    has_addr addr (get_or ps i d) ≡ true → ((k : ℕ) → k < i → has_addr addr (get_or ps k d) ≡ false)
    → at_neighbor n addr change ps ≡ change (get_or ps i d) >>= (λ (q : Neighbor). Ok (set ps i q))
unfolding at_neighbor
at_place n addr change [] i d lt here none = absurd (omega arith)
at_place n addr change (p ∷ ps) zero d lt here none = rw here refl
at_place n addr change (p ∷ ps) (suc i) d lt here none =
    rw (none zero (omega arith), at_place n addr change ps i d (omega arith) here (λ k l. none (suc k) (omega arith))) (behind p ps i (change (get_or ps i d)))

pub at_found : (n addr i : ℕ) (said : RouterItem) (ps : List Neighbor) → position (has_addr addr) ps ≡ Some i →
    at_neighbor n addr (set_neighbor n said) ps ≡ change_at n said ps i
at_found n addr i said ps found =
    let there = position-Some (has_addr addr) ps i (new_neighbor 0 0 0) found in
    at_place n addr (set_neighbor n said) ps i (new_neighbor 0 0 0) there.0 there.1 there.2

pub other_default : (ps : List Neighbor) (i : ℕ) (p : Neighbor) → i < length ps → get_or ps i p ≡ get_or ps i (new_neighbor 0 0 0)
other_default ps i p lt = get_or_default ps i p (new_neighbor 0 0 0) lt

all_of : (test : Neighbor → Bool) (ps : List Neighbor) → position test ps ≡ None → length ps ≤ position_or_len test ps
all_of test ps none = grind (arith, common_steps, nat_tests)

at_none : (n addr : ℕ) (change : Neighbor → Result Neighbor ReadRefusal) (ps : List Neighbor) →
    ((k : ℕ) (d : Neighbor) → k < length ps → has_addr addr (get_or ps k d) ≡ false) → at_neighbor n addr change ps ≡ Err (At n Misplaced)
unfolding at_neighbor
at_none n addr change [] none = refl
at_none n addr change (p ∷ ps) none = rw (none zero p (omega arith), at_none n addr change ps (λ k d lt. none (suc k) d (omega arith))) refl

pub at_absent : (n addr : ℕ) (change : Neighbor → Result Neighbor ReadRefusal) (ps : List Neighbor) → position (has_addr addr) ps ≡ None →
    at_neighbor n addr change ps ≡ Err (At n Misplaced)
at_absent n addr change ps none = at_none n addr change ps
    (λ k d lt. fails_before_first (has_addr addr) ps k d (omega (arith, lt, all_of (has_addr addr) ps none)))
