-- Where a stretch reaches, what is left of lists answers as the lists.
use Rattle.std.proofs.Common.{◌≡◌, ℕ, ◌+◌, ◌-◌, ◌*◌, ◌/◌, ◌%◌, ◌<◌, ◌≤◌, ◌^◌, suc, Bool, true, false, cond, ◌&&◌, List, [], ◌∷◌, Option, Bor, map, drop, get_or, drop-cons, add-one, Some, None, refl, sym, ◌∙◌, ap, arith, length, subst, true≢false}
use Rattle.std.specs.Prelude.{nat_eq, nat_le}
use Rattle.std.proofs.lemmas.Bool.Decides.{nat_tests}
use Rattle.std.proofs.lemmas.Nat.{pow_pos, le-div, div-add-mod', one_shl}
use Rattle.std.proofs.lemmas.List.{length-map, length-drop}
use Rattle.std.proofs.Math.Nat.{pow-succ'}
use Rattle.std.proofs.Math.Pow.{pow_mono}
use Rattle.base_kit.specs.Prefixes.{Prefix}
use Rattle.cfg_ast.specs.declared.policy.PrefixEntry.{PrefixEntry}
use Rattle.cfg_ast.specs.declared.policy.PrefixList.{PrefixList}
use Rattle.cfg_ast.specs.meaning.PrefixLists.{length_fits, first_entry_decides, prefix_list_permits}
use Rattle.dest_classes.proofs.Rules.{at_now}
use Rattle.dest_classes.specs.declared.stretches.BlockAnswer.{BlockAnswer}
use Rattle.dest_classes.specs.declared.stretches.Stretch.{Stretch}
use Rattle.dest_classes.specs.Cells.{word_from, word_of}
use Rattle.dest_classes.specs.Stretches.{has_address, block_answer_of, left_of, permits_at, settled_answer, is_in_range, stretch_word, bit_sum, AddsList, IsStretch}

div_up : (a b k : ℕ) → 0 < k → a ≤ b → a / k ≤ b / k
div_up a b k some up = le-div (a / k) b k some (omega (arith, div-add-mod' a k, up))

above_first : (f a e : ℕ) → f ≤ a → nat_eq a e ≡ true → nat_le f e ≡ true
above_first f a e up here = grind (arith, nat_tests)

below_last : (a l e : ℕ) → a ≤ l → nat_eq a e ≡ true → nat_le e l ≡ true
below_last a l e up here = grind (arith, nat_tests)

between : (f a l e : ℕ) → f ≤ a → a ≤ l → (nat_eq f e && nat_eq l e) ≡ true → nat_eq a e ≡ true
between f a l e up to whole = grind (arith, nat_tests)

-- an entry that is left out does not hold, and those behind one that holds everywhere do not count
one_left : (answer : BlockAnswer) (addr : ℕ) (more : List BlockAnswer) (rest fits low high here whole : Bool) → has_address answer.block addr ≡ here
    → (here ≡ true → low ≡ true) → (here ≡ true → high ≡ true) → (whole ≡ true → here ≡ true) → permits_at more addr ≡ rest
    → permits_at (cond (fits && (low && high)) (answer ∷ cond whole [] more) more) addr ≡ cond (here && fits) answer.permit rest
one_left answer addr more rest false low high true whole is l h w same = same
one_left answer addr more rest false low high false whole is l h w same = same
one_left answer addr more rest true false high true whole is l h w same = absurd (true≢false (sym (l refl)))
one_left answer addr more rest true false high false whole is l h w same = same
one_left answer addr more rest true true false true whole is l h w same = absurd (true≢false (sym (h refl)))
one_left answer addr more rest true true false false whole is l h w same = same
one_left answer addr more rest true true true true whole is l h w same = ap (λ b. cond b answer.permit (permits_at (cond whole [] more) addr)) is
one_left answer addr more rest true true true false true is l h w same = absurd (true≢false (sym (w refl)))
one_left answer addr more rest true true true false false is l h w same = ap (λ b. cond b answer.permit (permits_at more addr)) is ∙ same

module _ (first p : Prefix) (last : ℕ) (one : first.len ≡ p.len) (from : first.addr ≤ p.addr) (to : p.addr ≤ last) where
  entries_same : (entries : List PrefixEntry) → permits_at (left_of first last entries) p.addr ≡ first_entry_decides entries p
  entries_same [] = refl
  entries_same (entry ∷ entries) =
      let k = 2 ^ (32 - entry.prefix.len) in
      let f = first.addr / k in
      let a = p.addr / k in
      let l = last / k in
      let e = entry.prefix.addr / k in
      let some : 0 < k = pow_pos (32 - entry.prefix.len) in
      let up : f ≤ a = div_up first.addr p.addr k some from in
      let down : a ≤ l = div_up p.addr last k some to in
      one_left (block_answer_of entry) p.addr (left_of first last entries) (first_entry_decides entries p)
      (length_fits entry.prefix.len entry.ge entry.le first.len) (nat_le f e) (nat_le e l) (nat_eq a e) (nat_eq f e && nat_eq l e) refl
      (above_first f a e up) (below_last a l e down) (between f a l e up down) (entries_same entries)
      ∙ ap (λ n. cond (nat_eq a e && length_fits entry.prefix.len entry.ge entry.le n) entry.permit (first_entry_decides entries p)) one

-- what a number in front of the answers of lists becomes behind them
grow : ℕ → List PrefixList → ℕ
grow number [] = number
grow number (list ∷ lists) = grow (2 * number) lists

word_more : (a b : ℕ) (lists : List PrefixList) (p : Prefix) → word_from (a + b) lists p ≡ grow a lists + word_from b lists p
unfolding grow
word_more a b [] p = refl
word_more a b (list ∷ lists) p =
    let bit = cond (prefix_list_permits list p) 1 0 in
    let both : 2 * (a + b) + bit ≡ 2 * a + (2 * b + bit) = omega arith in
    ap (λ n. word_from n lists p) both ∙ word_more (2 * a) (2 * b + bit) lists p

grown : (k : ℕ) (lists : List PrefixList) → grow (2 ^ k) lists ≡ 2 ^ (length lists + k)
unfolding grow
grown k [] =
    let same : k ≡ 0 + k = omega arith in
    ap (λ n. 2 ^ n) same
grown k (list ∷ lists) =
    let same : length lists + suc k ≡ length (list ∷ lists) + k = omega arith in
    ap (λ n. grow n lists) (sym (pow-succ' 2 k)) ∙ grown (suc k) lists ∙ ap (λ n. 2 ^ n) same

bit_before : (permits : Bool) (lists : List PrefixList) (p : Prefix) →
    word_from (2 * 0 + cond permits 1 0) lists p ≡ cond permits (2 ^ length lists) 0 + word_of lists p
bit_before false lists p = omega arith
bit_before true lists p =
    let same : length lists + 0 ≡ length lists = omega arith in
    word_more 1 0 lists p ∙ ap (λ n. n + word_of lists p) (grown 0 lists ∙ ap (λ n. 2 ^ n) same)

at_most : (b : Bool) (n : ℕ) → cond b n 0 ≤ n
at_most false n = omega arith
at_most true n = omega arith

settled_by : (whole here answer permit more : Bool) → (whole ≡ true → here ≡ true) → cond whole (Some answer) None ≡ Some permit → cond here answer more ≡ permit
settled_by true true answer permit more everywhere is = cc
settled_by true false answer permit more everywhere is = absurd (true≢false (sym (everywhere refl)))
settled_by false here answer permit more everywhere is = absurd cc

-- a list that answers alike on the whole stretch answers so at each address of it
settled_is : (answers : List BlockAnswer) (first last addr : ℕ) (permit : Bool) → first ≤ addr → addr ≤ last →
    settled_answer answers first last ≡ Some permit → permits_at answers addr ≡ permit
settled_is [] first last addr permit from to is = cc
settled_is (answer ∷ answers) first last addr permit from to is =
    let k = 2 ^ (32 - answer.block.len) in
    let f = first / k in
    let a = addr / k in
    let l = last / k in
    let e = answer.block.addr / k in
    let some : 0 < k = pow_pos (32 - answer.block.len) in
    settled_by (nat_eq f e && nat_eq l e) (nat_eq a e) answer.permit permit (permits_at answers addr)
    (between f a l e (div_up first addr k some from) (div_up addr last k some to)) is

pub adds_settled : (old : Stretch) (bit last settled : ℕ) (answers : List BlockAnswer) (permit : Bool) →
    settled_answer answers old.from.addr last ≡ Some permit → settled ≡ old.settled + cond permit bit 0 →
    AddsList old bit answers last (record { from = old.from; until = old.until; settled = settled; left = old.left })
adds_settled old bit last settled answers permit is more = record {
  first = refl;
  until = refl;
  bits = omega (arith, more, at_most permit bit);
  word = λ addr from to.
      let here = settled_is answers old.from.addr last addr permit from to is in
      let same : cond (permits_at answers addr) bit 0 ≡ cond permit bit 0 = ap (λ b. cond b bit 0) here in
      omega (arith, more, same);
}

-- a stretch of the lists, of which these are left to be asked
pub record IsStretchBut (lists rest : List PrefixList) (first : Prefix) (last : ℕ) (stretch : Stretch) : Type 0 where
  pub from : stretch.from ≡ first
  pub until : stretch.until ≡ last + 1
  pub bits : bit_sum stretch + 2 ^ length rest ≤ 2 ^ length lists
  pub word : (p : Prefix) → first.len ≡ p.len → first.addr ≤ p.addr → p.addr ≤ last → stretch_word stretch p.addr + word_of rest p ≡ word_of lists p

pub one_asked : (lists rest : List PrefixList) (list : PrefixList) (first : Prefix) (last : ℕ) (old new : Stretch) →
    AddsList old (2 ^ length rest) (left_of first last list.entries) last new → IsStretchBut lists (list ∷ rest) first last old → IsStretchBut lists rest first last new
one_asked lists rest list first last old new adds before = record {
  from = adds.first ∙ before.from;
  until = adds.until ∙ before.until;
  bits =
      let twice : 2 ^ suc (length rest) ≡ 2 * 2 ^ length rest = pow-succ' 2 (length rest) in
      omega (arith, adds.bits, before.bits, twice);
  word = λ p one from to.
      let more = adds.word p.addr (subst (λ (q : Prefix). q.addr ≤ p.addr) (sym before.from) from) to in
      let same = entries_same first p last one from to list.entries in
      let bit : cond (permits_at (left_of first last list.entries) p.addr) (2 ^ length rest) 0 ≡ cond (prefix_list_permits list p) (2 ^ length rest) 0 =
      ap (λ b. cond b (2 ^ length rest) 0) same in
      omega (arith, more, bit, bit_before (prefix_list_permits list p) rest p, before.word p one from to);
}

-- there is room for the bit of the list that is asked next
pub room_for_bit : (lists rest : List PrefixList) (list : PrefixList) (first : Prefix) (last bit : ℕ) (stretch : Stretch) → length lists ≤ 64 →
    bit ≡ 2 ^ length rest → IsStretchBut lists (list ∷ rest) first last stretch → bit_sum stretch + bit ≤ 18446744073709551615
room_for_bit lists rest list first last bit stretch few is asked =
    let most : 2 ^ length lists ≤ 2 ^ 64 = pow_mono few in
    let twice : 2 ^ suc (length rest) ≡ 2 * 2 ^ length rest = pow-succ' 2 (length rest) in
    omega (arith, asked.bits, most, twice, is, pow_pos (length rest))

pub next_list : (lists : List (Bor PrefixList)) (i : ℕ) (list : Bor PrefixList) → i < length lists → list ≡ get_or lists i list →
    map at_now (drop i lists) ≡ list.now ∷ map at_now (drop (i + 1) lists)
next_list lists i list inside is =
    ap (map at_now) (drop-cons lists i list inside ∙ ap (λ (l : Bor PrefixList). l ∷ drop (suc i) lists) (sym is)
    ∙ ap (λ k. list ∷ drop k lists) (sym (add-one i)))

-- the bit of a list by how many stand behind it
pub bit_is : (lists : List (Bor PrefixList)) (i behind : ℕ) → length lists ≤ 64 → i < length lists → behind + i ≡ length lists →
    1 * 2 ^ (behind - 1) % 2 ^ 64 ≡ 2 ^ length (map at_now (drop (i + 1) lists))
bit_is lists i behind few inside all =
    let count : behind - 1 ≡ length (map at_now (drop (i + 1) lists)) = omega (
      arith,
      inside,
      all,
      length-map (drop (i + 1) lists) at_now,
      length-drop (i + 1) lists,
    ) in
    one_shl (behind - 1) 64 (omega (arith, few, inside, all)) ∙ ap (λ n. 2 ^ n) count

pub all_asked : (lists : List PrefixList) (first : Prefix) (last : ℕ) (stretch : Stretch) → length lists ≤ 64 → IsStretchBut lists [] first last stretch →
    IsStretch lists stretch
all_asked lists first last stretch few asked = record {
  bits =
      let most : 2 ^ length lists ≤ 2 ^ 64 = pow_mono few in
      omega (arith, asked.bits, most);
  alike = λ (p : Prefix) (there : is_in_range stretch.from stretch.until p ≡ true).
      let range : is_in_range first (last + 1) p ≡ true = ap (λ (q : Prefix). is_in_range q (last + 1) p) (sym asked.from)
      ∙ ap (λ u. is_in_range stretch.from u p) (sym asked.until) ∙ there in
      let one : first.len ≡ p.len = grind (arith, nat_tests) in
      let from : first.addr ≤ p.addr = grind (arith, nat_tests) in
      let before : p.addr < last + 1 = grind (arith, nat_tests) in
      omega (arith, asked.word p one from (omega (arith, before)));
}
