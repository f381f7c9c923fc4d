-- The words of a path and of communities, one after the other.
use Rattle.std.proofs.Common.{◌≡◌, ℕ, ◌<◌, ◌≤◌, true, false, List, [], ◌∷◌, ◌++◌, append_assoc, append-nil, refl, sym, ap, arith, Option, Some, None, option_map}
use Rattle.base_kit.specs.Sets.{IsAscending, AllAbove}
use Rattle.solution_text.specs.Forms.{is_comms, behind, path_of_words, piece_of, community_above, communities_above}

-- what the rest gives, behind the numbers so far
abbrev pub behind_path : List ℕ → Option (List ℕ × List (List ℕ)) → Option (List ℕ × List (List ℕ))
behind_path path found = option_map (behind path) found

pub behind_nothing : (found : Option (List ℕ × List (List ℕ))) → behind_path [] found ≡ found
behind_nothing None = refl
behind_nothing (Some (path, rest)) = refl

behind_both : (path piece : List ℕ) (found : Option (List ℕ × List (List ℕ))) → behind_path path (behind_path piece found) ≡ behind_path (path ++ piece) found
behind_both path piece None = refl
behind_both path piece (Some (more, rest)) = ap (λ (xs : List ℕ). Some (xs, rest)) (sym (append_assoc path piece more))

pub path_ended : (path word : List ℕ) (words : List (List ℕ)) → is_comms word ≡ true → behind_path path (path_of_words (word ∷ words)) ≡ Some (path, words)
unfolding path_of_words
path_ended path word words e = rw e (ap (λ (xs : List ℕ). Some (xs, words)) (append-nil path))

pub path_longer : (path piece word : List ℕ) (words : List (List ℕ)) → is_comms word ≡ false → piece_of word ≡ Some piece →
    behind_path path (path_of_words (word ∷ words)) ≡ behind_path (path ++ piece) (path_of_words words)
unfolding path_of_words
path_longer path piece word words e p = rw (e, p) (behind_both path piece (path_of_words words))

pub path_broken : (path word : List ℕ) (words : List (List ℕ)) → is_comms word ≡ false → piece_of word ≡ None →
    behind_path path (path_of_words (word ∷ words)) ≡ None
unfolding path_of_words
path_broken path word words e p = rw (e, p) refl

pub path_without_end : (path : List ℕ) → behind_path path (path_of_words []) ≡ None
unfolding path_of_words
path_without_end path = refl

-- ---- communities

abbrev pub behind_set : List ℕ → Option (List ℕ) → Option (List ℕ)
behind_set set found = option_map (λ rest. set ++ rest) found

set_both : (set : List ℕ) (c : ℕ) (found : Option (List ℕ)) → behind_set set (option_map (λ rest. c ∷ rest) found) ≡ behind_set (set ++ c ∷ []) found
set_both set c None = refl
set_both set c (Some rest) = ap Some (sym (append_assoc set (c ∷ []) rest))

pub set_longer : (set word : List ℕ) (words : List (List ℕ)) (bound c : ℕ) → community_above bound word ≡ Some c →
    behind_set set (communities_above bound (word ∷ words)) ≡ behind_set (set ++ c ∷ []) (communities_above c words)
unfolding communities_above
set_longer set word words bound c e = rw e (set_both set c (communities_above c words))

pub set_broken : (set word : List ℕ) (words : List (List ℕ)) (bound : ℕ) → community_above bound word ≡ None →
    behind_set set (communities_above bound (word ∷ words)) ≡ None
unfolding communities_above
set_broken set word words bound e = rw e refl

pub set_ended : (set : List ℕ) (bound : ℕ) → behind_set set (communities_above bound []) ≡ Some set
unfolding communities_above
set_ended set bound = ap Some (append-nil set)

pub set_begun : (found : Option (List ℕ)) → behind_set [] found ≡ found
set_begun None = refl
set_begun (Some rest) = refl

-- a set that ascends up to the bound, with a number above it
abbrev pub EndsBelow : ℕ → List ℕ → Type 0
EndsBelow bound [] = Unit {0}
EndsBelow bound (x ∷ xs) = (x ≤ bound) × EndsBelow bound xs

pub below_more : (set : List ℕ) (bound c : ℕ) → bound < c → EndsBelow bound set → EndsBelow c (set ++ c ∷ [])
below_more [] bound c less ends = (omega arith, tt)
below_more (x ∷ xs) bound c less ends = (omega (arith, ends.0), below_more xs bound c less ends.1)

above_more : (x : ℕ) (set : List ℕ) (c : ℕ) → x < c → AllAbove x set → AllAbove x (set ++ c ∷ [])
above_more x [] c less all = (less, tt)
above_more x (y ∷ set) c less all = (all.0, above_more x set c less all.1)

pub ascends_more : (set : List ℕ) (bound c : ℕ) → bound < c → EndsBelow bound set → IsAscending set → IsAscending (set ++ c ∷ [])
ascends_more [] bound c less ends up = (tt, tt)
ascends_more (x ∷ xs) bound c less ends up = (above_more x xs c (omega (arith, ends.0)) up.0, ascends_more xs bound c less ends.1 up.1)
