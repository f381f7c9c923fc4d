-- Words behind blanks, put together. Public: crates above cite these lemmas.
use Rattle.std.proofs.Common.{◌≡◌, ℕ, List, [], ◌∷◌, ◌++◌, append_assoc, append-nil, refl, sym, ap, ◌∙◌}
use Rattle.std.specs.List.{join_with_byte}
use Rattle.printed_words.specs.Spaced.{spaced, spaced_words}

-- words with one blank between each two
pub joined : (w : List ℕ) (ws : List (List ℕ)) → join_with_byte 32 (w ∷ ws) ≡ w ++ spaced_words ws
joined w [] = sym (append-nil w)
joined w (v ∷ ws) = ap (λ (xs : List ℕ). w ++ 32 ∷ xs) (joined v ws)

-- words behind further words
pub spaced_both : (vs ws : List (List ℕ)) → spaced_words (vs ++ ws) ≡ spaced_words vs ++ spaced_words ws
spaced_both [] ws = refl
spaced_both (v ∷ vs) ws = ap (λ (xs : List ℕ). spaced v ++ xs) (spaced_both vs ws) ∙ sym (append_assoc (spaced v) (spaced_words vs) (spaced_words ws))
