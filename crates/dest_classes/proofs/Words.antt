-- The answers of lists are the bits of a word.
use Rattle.std.proofs.Common.{◌≡◌, ℕ, ◌+◌, ◌*◌, Bool, true, false, cond, ◌&&◌, List, [], ◌∷◌, sym, ◌∙◌, ap, arith}
use Rattle.std.specs.Prelude.{nat_eq}
use Rattle.std.specs.Bool.{beq}
use Rattle.std.proofs.lemmas.Bool.Decides.{nat_tests}
use Rattle.base_kit.specs.Prefixes.{Prefix}
use Rattle.cfg_ast.specs.declared.policy.PrefixList.{PrefixList}
use Rattle.cfg_ast.specs.meaning.PrefixLists.{prefix_list_permits}
use Rattle.dest_classes.specs.Cells.{word_from, word_of, alike_to}
use Rattle.dest_classes.proofs.Bools.{both_assoc, both_true}

abbrev bit : Bool → ℕ
bit b = cond b 1 0

-- two words with one more bit each
one_bit : (w v : ℕ) (b c : Bool) → nat_eq (2 * w + bit b) (2 * v + bit c) ≡ (nat_eq w v && beq b c)
one_bit w v true true = both_odd where
  both_odd : nat_eq (2 * w + 1) (2 * v + 1) ≡ (nat_eq w v && true)
  both_odd = grind (arith, nat_tests)
one_bit w v false false = both_even where
  both_even : nat_eq (2 * w + 0) (2 * v + 0) ≡ (nat_eq w v && true)
  both_even = grind (arith, nat_tests)
one_bit w v true false = odd where
  odd : nat_eq (2 * w + 1) (2 * v + 0) ≡ (nat_eq w v && false)
  odd = grind (arith, nat_tests)
one_bit w v false true = even where
  even : nat_eq (2 * w + 0) (2 * v + 1) ≡ (nat_eq w v && false)
  even = grind (arith, nat_tests)

words_alike : (lists : List PrefixList) (p q : Prefix) (w v : ℕ) → nat_eq (word_from w lists p) (word_from v lists q) ≡ (nat_eq w v && alike_to lists p q)
words_alike [] p q w v = sym (both_true (nat_eq w v))
words_alike (list ∷ lists) p q w v =
    let a = prefix_list_permits list p in
    let b = prefix_list_permits list q in
    words_alike lists p q (2 * w + bit a) (2 * v + bit b) ∙ ap (λ t. t && alike_to lists p q) (one_bit w v a b)
    ∙ both_assoc (nat_eq w v) (beq a b) (alike_to lists p q)

-- lists give two prefixes one word exactly if they answer both alike
pub one_word : (lists : List PrefixList) (p q : Prefix) → nat_eq (word_of lists p) (word_of lists q) ≡ alike_to lists p q
one_word lists p q = words_alike lists p q 0 0
