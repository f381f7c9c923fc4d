-- What is read at a place of a list, and what follows in a result.
use Rattle.std.proofs.Common.{◌≡◌, ℕ, ◌<◌, List, [], length, get_or, sym, ap, ◌∙◌, arith, Option, None, Result, Ok, Err, IfOk}
use Rattle.std.proofs.lemmas.List.{get_or_default}
use Rattle.srp_core.specs.declared.route.Route.{Route}
use Rattle.srp_core.specs.Stability.{label}

pub read_at : (labels read : List (Option Route)) (u : ℕ) (o : Option Route) → read ≡ labels → u < length labels → o ≡ get_or read u o → label labels u ≡ o
read_at labels read u o same inside is =
    let total = ap length same in
    sym (is ∙ sym (get_or_default read u None o (omega arith)) ∙ ap (λ (l : List (Option Route)). get_or l u None) same)

pub if_ok : {X E : Type 0} {P Q : X → Type 0} (r : Result X E) → ((x : X) → P x → Q x) → IfOk r P → IfOk r Q
if_ok (Ok x) more is = more x is
if_ok (Err e) more is = tt

pub read_list : (lists read : List (List ℕ)) (u : ℕ) (o : List ℕ) → read ≡ lists → u < length lists → o ≡ get_or read u o → o ≡ get_or lists u []
read_list lists read u o same inside is =
    let total = ap (λ (l : List (List ℕ)). length l) same in
    is ∙ get_or_default read u o [] (omega arith) ∙ ap (λ (l : List (List ℕ)). get_or l u []) same
