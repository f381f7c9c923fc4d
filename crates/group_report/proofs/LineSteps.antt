-- One more line of a numbered list of lines, and one more piece of a text.
use Rattle.std.proofs.Common.{◌≡◌, ℕ, suc, ◌+◌, ◌-◌, ◌<◌, List, ◌∷◌, ◌++◌, flat_map, sym, ◌∙◌, ap, arith, append_assoc}
use Rattle.std.specs.Prelude.{Result, OnOk}
use Rattle.std.specs.List.{range_with_len}
use Rattle.std.proofs.lemmas.Result.{on_ok_weaker}

range_step : (i n : ℕ) → i < n → range_with_len i (n - i) ≡ i ∷ range_with_len (i + 1) (n - (i + 1))
range_step i n less =
    let more : n - i ≡ suc (n - (i + 1)) = omega (arith, less) in
    ap (range_with_len i) more

pub line_step : (f : ℕ → List ℕ) (old new whole : List ℕ) (i n : ℕ) → i < n → new ≡ old ++ f i → old ++ flat_map f (range_with_len i (n - i)) ≡ whole
    → new ++ flat_map f (range_with_len (i + 1) (n - (i + 1))) ≡ whole
line_step f old new whole i n less step before =
    ap (λ (t : List ℕ). t ++ flat_map f (range_with_len (i + 1) (n - (i + 1)))) step
    ∙ append_assoc old (f i) (flat_map f (range_with_len (i + 1) (n - (i + 1))))
    ∙ ap (λ (r : List ℕ). old ++ flat_map f r) (sym (range_step i n less))
    ∙ before

-- one piece more
pub grown : (old a t b new : List ℕ) → t ≡ old ++ a → new ≡ t ++ b → new ≡ old ++ (a ++ b)
grown old a t b new first second = second ∙ ap (λ (xs : List ℕ). xs ++ b) first ∙ append_assoc old a b

-- the last piece
pub ended : {T E : Type 0} (r : Result T E) (old a t b new : List ℕ) → t ≡ old ++ a → OnOk r (new ≡ t ++ b) → OnOk r (new ≡ old ++ (a ++ b))
ended r old a t b new first second = on_ok_weaker r (λ (last : new ≡ t ++ b). grown old a t b new first last) second
