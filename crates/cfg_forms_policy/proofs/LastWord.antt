-- The last word of some words, and the words before it.
use Rattle.std.proofs.Common.{◌≡◌, ℕ, zero, suc, ◌-◌, ◌<◌, List, [], ◌∷◌, length, get_or, take, refl, sym, arith}
use Rattle.std.specs.Prelude.{bytes_eq}
use Rattle.std.specs.List.{AllByRecursion}
use Rattle.std.proofs.lemmas.List.{take-map}
use Rattle.cfg_ast.specs.declared.line.Span.{Span}
use Rattle.cfg_ast.specs.text.Lines.{IsWordIn, text_of, texts}
use Rattle.cfg_ast.specs.text.PolicyForms.{has_mark, but_last}

length_texts : (bs : List ℕ) (ws : List Span) → length (texts bs ws) ≡ length ws
length_texts bs [] = refl
length_texts bs (w ∷ ws) = omega (arith, length_texts bs ws)

marked_from : (mark bs : List ℕ) (w : Span) (ws : List Span) (d : Span) →
    has_mark mark (texts bs (w ∷ ws)) ≡ bytes_eq (text_of bs (get_or (w ∷ ws) (length ws) d)) mark
marked_from mark bs w [] d = refl
marked_from mark bs w (v ∷ ws) d = marked_from mark bs v ws d

pub is_marked_last : (mark bs : List ℕ) (ws : List Span) (d : Span) → 0 < length ws →
    has_mark mark (texts bs ws) ≡ bytes_eq (text_of bs (get_or ws (length ws - 1) d)) mark
is_marked_last mark bs [] d some = absurd (omega (arith, some))
is_marked_last mark bs (w ∷ ws) d some = let last : suc (length ws) - 1 ≡ length ws = omega arith in rw last (marked_from mark bs w ws d)

pub texts_but_last : (bs : List ℕ) (ws : List Span) → texts bs (take (length ws - 1) ws) ≡ but_last (texts bs ws)
texts_but_last bs ws = rw (length_texts bs ws) (sym (take-map (text_of bs) (length ws - 1) ws))

pub are_words_take : (bs : List ℕ) (ws : List Span) (n : ℕ) → AllByRecursion (IsWordIn bs) ws → AllByRecursion (IsWordIn bs) (take n ws)
are_words_take bs [] zero all = tt
are_words_take bs [] (suc n) all = tt
are_words_take bs (w ∷ ws) zero all = tt
are_words_take bs (w ∷ ws) (suc n) all = (all.0, are_words_take bs ws n all.1)
