-- A line is what stands before the first byte that is not plain, if that is its newline or a carriage return before it.
use Rattle.std.proofs.Common.{◌≡◌, ℕ, nat_eq, nat_lt, ◌&&◌, ◌+◌, ◌-◌, ◌<◌, ◌≤◌, Bool, true, false, not, List, length, slice_index, refl, sym, ap, ◌∙◌, arith, Some, None, true≢false, inl, inr, ◌⊎◌}
use Rattle.std.specs.Prelude.{if◌then◌else◌}
use Rattle.std.proofs.lemmas.Bool.{cases_lt}
use Rattle.std.proofs.lemmas.Bool.Decides.{nat_tests}
use Rattle.cfg_ast.specs.declared.refusal.Kind.TheVariants.{NotAscii, LineTooLong, TooManyLines}
use Rattle.cfg_ast.specs.text.Lines.{first_at, is_plain, is_blank, blank_at, newline_at, newline_from, without_return, odd_from, word_end, kind_at}
use Rattle.cfg_ast.proofs.Places.{first_from, first_below, first_fails, first_passes}
use Rattle.cfg_lex.specs.Odd.{is_letter, letters_end, odd_end, behind_return, kind_from}

-- ---- the first place

-- a place before which the test fails, and at which it holds or the range ends
pub record IsFirstAt (test : ℕ → Bool) (i upto k : ℕ) : Type 0 where
  pub from : i ≤ k
  pub below : k ≤ upto
  pub fails : (j : ℕ) → i ≤ j → j < k → test j ≡ false
  pub passes : k < upto → test k ≡ true

pub first_is : (test : ℕ → Bool) (i upto k : ℕ) → IsFirstAt test i upto k → first_at test i upto ≡ k
first_is test i upto k is =
    let inside : i ≤ upto = omega (arith, is.from, is.below) in
    elim (cases_lt (first_at test i upto) k) [
      | inl before ↦ absurd (true≢false (sym (first_passes test i upto inside (omega (arith, is.below)))
          ∙ is.fails (first_at test i upto) (first_from test i upto) before))
      | inr le ↦ elim (cases_lt k (first_at test i upto)) [
        | inl behind ↦ absurd (true≢false (sym (is.passes (omega (arith, first_below test i upto inside))) ∙ first_fails test i upto k inside is.from behind))
        | inr ge ↦ omega arith
      ]
    ]

-- ---- bytes

abbrev odd_at : List ℕ → ℕ → Bool
odd_at bs i = not (is_plain (slice_index bs i))

plain_no_newline : (b : ℕ) → not (is_plain b) ≡ false → nat_eq b 10 ≡ false
plain_no_newline b plain = grind (arith, nat_tests)

plain_no_return : (b : ℕ) → not (is_plain b) ≡ false → nat_eq b 13 ≡ false
plain_no_return b plain = grind (arith, nat_tests)

letter_no_blank : (b : ℕ) → not (is_letter b) ≡ false → is_blank b ≡ false
letter_no_blank b letter = grind (arith, nat_tests)

letter_plain : (b : ℕ) → not (is_letter b) ≡ false → not (is_plain b) ≡ false
letter_plain b letter = grind (arith, nat_tests)

no_letter_blank : (b : ℕ) → not (is_letter b) ≡ true → not (is_plain b) ≡ false → is_blank b ≡ true
no_letter_blank b none plain = grind (arith, nat_tests)

odd_no_letter : (b : ℕ) → not (is_plain b) ≡ true → not (is_letter b) ≡ true
odd_no_letter b odd = grind (arith, nat_tests)

return_no_newline : (b : ℕ) → nat_eq b 13 ≡ true → nat_eq b 10 ≡ false
return_no_newline b one = grind (arith, nat_tests)

-- ---- where the plain bytes end

-- the plain bytes from a place on, and what stands behind a carriage return there
pub record Ends (bs : List ℕ) (from upto end : ℕ) : Type 0 where
  pub inside : from ≤ length bs
  pub odd : upto ≡ odd_end bs from
  pub behind : end ≡ behind_return bs upto

-- the line ends there
abbrev pub IsClosed : List ℕ → ℕ → Type 0
IsClosed bs end = end < length bs → newline_at bs end ≡ true

pub plain_before : (bs : List ℕ) (from j : ℕ) → from ≤ length bs → from ≤ j → j < odd_end bs from → not (is_plain (slice_index bs j)) ≡ false
plain_before bs from j inside le lt = first_fails (odd_at bs) from (length bs) j inside le lt

odd_there : (bs : List ℕ) (from : ℕ) → from ≤ length bs → odd_end bs from < length bs → not (is_plain (slice_index bs (odd_end bs from))) ≡ true
odd_there bs from inside lt = first_passes (odd_at bs) from (length bs) inside lt

record NoReturn (bs : List ℕ) (upto end : ℕ) : Type 0 where
  pub is : end ≡ upto
  pub none : upto < length bs → nat_eq (slice_index bs upto) 13 ≡ false

record OneReturn (bs : List ℕ) (upto end : ℕ) : Type 0 where
  pub is : end ≡ upto + 1
  pub inside : upto < length bs
  pub one : nat_eq (slice_index bs upto) 13 ≡ true

endings : (bs : List ℕ) (upto end : ℕ) → end ≡ behind_return bs upto → NoReturn bs upto end ⊎ OneReturn bs upto end
endings bs upto end e = by (nat_lt upto (length bs) && nat_eq (slice_index bs upto) 13) refl
  where
    by : (b : Bool) → (nat_lt upto (length bs) && nat_eq (slice_index bs upto) 13) ≡ b → NoReturn bs upto end ⊎ OneReturn bs upto end
    by true t = inr (record { is = e ∙ rw t refl; inside = grind (arith, nat_tests); one = grind (arith, nat_tests) })
    by false t = inl (record { is = e ∙ rw t refl; none = λ h. grind (arith, nat_tests) })

no_newline_before : (bs : List ℕ) (from upto end j : ℕ) → Ends bs from upto end → from ≤ j → j < end → newline_at bs j ≡ false
no_newline_before bs from upto end j ends le lt =
    elim (cases_lt j upto) [
      | inl before ↦ plain_no_newline (slice_index bs j) (plain_before bs from j ends.inside le (omega (arith, ends.odd)))
      | inr ge ↦ elim (endings bs upto end ends.behind) [
        | inl none ↦ absurd (omega (arith, none.is))
        | inr one ↦ let e : j ≡ upto = omega (arith, one.is) in ap (newline_at bs) e ∙ return_no_newline (slice_index bs upto) one.one
      ]
    ]

pub odd_bounds : (bs : List ℕ) (from : ℕ) → from ≤ length bs → (from ≤ odd_end bs from) × (odd_end bs from ≤ length bs)
odd_bounds bs from inside = (first_from (odd_at bs) from (length bs), first_below (odd_at bs) from (length bs) inside)

end_bounds : (bs : List ℕ) (from upto end : ℕ) → Ends bs from upto end → (upto ≤ end) × (end ≤ length bs)
end_bounds bs from upto end ends =
    elim (endings bs upto end ends.behind) [
      | inl none ↦ (omega (arith, none.is), omega (arith, none.is, ends.odd, odd_bounds bs from ends.inside))
      | inr one ↦ (omega (arith, one.is), omega (arith, one.is, one.inside))
    ]

-- ---- a line that ends there

pub closed_newline : (bs : List ℕ) (from upto end : ℕ) → Ends bs from upto end → IsClosed bs end → newline_from bs from ≡ end
closed_newline bs from upto end ends closed =
    let bounds = end_bounds bs from upto end ends in
    first_is (newline_at bs) from (length bs) end (record {
      from = omega (arith, bounds, ends.odd, odd_bounds bs from ends.inside);
      below = bounds.1;
      fails = λ j le lt. no_newline_before bs from upto end j ends le lt;
      passes = closed;
    })

no_return_before : (bs : List ℕ) (from upto : ℕ) → from ≤ length bs → upto ≡ odd_end bs from → without_return bs from upto ≡ upto
no_return_before bs from upto inside odd =
    elim (cases_lt from upto) [
      | inl lt ↦
          let plain = plain_no_return (slice_index bs (upto - 1)) (plain_before bs from (upto - 1) inside (omega arith) (omega (arith, odd))) in
          grind (arith, nat_tests)
      | inr ge ↦ grind (arith, nat_tests)
    ]

pub closed_return : (bs : List ℕ) (from upto end : ℕ) → Ends bs from upto end → without_return bs from end ≡ upto
closed_return bs from upto end ends =
    elim (endings bs upto end ends.behind) [
      | inl none ↦ ap (without_return bs from) none.is ∙ no_return_before bs from upto ends.inside ends.odd
      | inr one ↦
          let low : from ≤ upto = omega (arith, ends.odd, odd_bounds bs from ends.inside) in
          let back : upto + 1 - 1 ≡ upto = omega arith in
          let past : nat_lt from (upto + 1) ≡ true = grind (arith, nat_tests) in
          rw (one.is, past, back, one.one) refl
    ]

odd_up_to : (bs : List ℕ) (from upto : ℕ) → from ≤ length bs → upto ≡ odd_end bs from → odd_from bs from upto ≡ upto
odd_up_to bs from upto inside odd = first_is (odd_at bs) from upto upto (record {
  from = omega (arith, odd, odd_bounds bs from inside);
  below = omega arith;
  fails = λ j le lt. plain_before bs from j inside le (omega (arith, odd));
  passes = λ lt. absurd (omega arith);
})

pub closed_kind : (bs : List ℕ) (number from upto end : ℕ) → Ends bs from upto end → IsClosed bs end →
    kind_from bs number from ≡ kind_at bs (record { number = number; from = from; upto = upto })
closed_kind bs number from upto end ends closed =
    let e : without_return bs from (newline_from bs from) ≡ upto = ap (without_return bs from) (closed_newline bs from upto end ends closed)
    ∙ closed_return bs from upto end ends in
    ap (λ (u : ℕ). kind_at bs (record { number = number; from = from; upto = u })) e

pub closed_plain : (bs : List ℕ) (from upto end : ℕ) → Ends bs from upto end → nat_lt (odd_from bs from upto) upto ≡ false
closed_plain bs from upto end ends = let e = odd_up_to bs from upto ends.inside ends.odd in rw e (grind (arith, nat_tests))

pub closed_is : (bs : List ℕ) (number from upto end : ℕ) → Ends bs from upto end → IsClosed bs end →
    kind_from bs number from ≡ (if nat_lt 1024 (upto - from) then Some LineTooLong else (if nat_lt 1000000 number then Some TooManyLines else None))
closed_is bs number from upto end ends closed = closed_kind bs number from upto end ends closed ∙ rw (closed_plain bs from upto end ends) refl

-- ---- a line that goes on

beyond : (bs : List ℕ) (from k : ℕ) → from ≤ length bs → k < length bs → k ≤ newline_from bs from → newline_at bs k ≡ false → k < newline_from bs from
beyond bs from k inside short le none =
    elim (cases_lt k (newline_from bs from)) [
      | inl lt ↦ lt
      | inr ge ↦
          let e : newline_from bs from ≡ k = omega arith in
          absurd (true≢false (sym (first_passes (newline_at bs) from (length bs) inside (omega arith)) ∙ ap (newline_at bs) e ∙ none))
    ]

not_before : (bs : List ℕ) (from upto end : ℕ) → Ends bs from upto end → upto ≤ newline_from bs from
not_before bs from upto end ends =
    let bounds = end_bounds bs from upto end ends in
    elim (cases_lt (newline_from bs from) upto) [
      | inl lt ↦ absurd (true≢false (sym (first_passes (newline_at bs) from (length bs) ends.inside (omega (arith, bounds)))
          ∙ no_newline_before bs from upto end (newline_from bs from) ends (first_from (newline_at bs) from (length bs)) (omega (arith, bounds))))
      | inr ge ↦ ge
    ]

record NoLess (bs : List ℕ) (from end : ℕ) : Type 0 where
  pub is : without_return bs from end ≡ end

record OneLess (bs : List ℕ) (from end : ℕ) : Type 0 where
  pub is : without_return bs from end ≡ end - 1
  pub one : nat_eq (slice_index bs (end - 1)) 13 ≡ true

returns : (bs : List ℕ) (from end : ℕ) → NoLess bs from end ⊎ OneLess bs from end
returns bs from end = by (nat_lt from end && nat_eq (slice_index bs (end - 1)) 13) refl
  where
    by : (b : Bool) → (nat_lt from end && nat_eq (slice_index bs (end - 1)) 13) ≡ b → NoLess bs from end ⊎ OneLess bs from end
    by true t = inr (record { is = rw t refl; one = grind (arith, nat_tests) })
    by false t = inl (record { is = rw t refl })

goes_past : (bs : List ℕ) (from upto end : ℕ) → Ends bs from upto end → end < length bs → newline_at bs end ≡ false →
    upto < without_return bs from (newline_from bs from)
goes_past bs from upto end ends short none =
    let bounds = end_bounds bs from upto end ends in
    let front = not_before bs from upto end ends in
    let q = newline_from bs from in
    elim (endings bs upto end ends.behind) [
      | inl same ↦
          let here : newline_at bs upto ≡ false = ap (newline_at bs) (sym same.is) ∙ none in
          let past : upto < q = beyond bs from upto ends.inside (omega (arith, bounds)) front here in
          elim (returns bs from q) [
            | inl all ↦ omega (arith, all.is)
            | inr less ↦ elim (cases_lt upto (q - 1)) [
              | inl lt ↦ omega (arith, less.is)
              | inr ge ↦ let e : q - 1 ≡ upto = omega arith in
                  absurd (true≢false (sym less.one ∙ ap (λ (k : ℕ). nat_eq (slice_index bs k) 13) e ∙ same.none (omega (arith, bounds))))
            ]
          ]
      | inr one ↦
          let past : upto < q = beyond bs from upto ends.inside one.inside front (return_no_newline (slice_index bs upto) one.one) in
          let far : end < q = beyond bs from end ends.inside short (omega (arith, one.is)) none in
          elim (returns bs from q) [
            | inl all ↦ omega (arith, all.is)
            | inr less ↦ omega (arith, less.is, one.is)
          ]
    ]

pub open_kind : (bs : List ℕ) (number from upto end : ℕ) → Ends bs from upto end → end < length bs → newline_at bs end ≡ false →
    kind_from bs number from ≡ Some NotAscii
open_kind bs number from upto end ends short none =
    let u = without_return bs from (newline_from bs from) in
    let past : upto < u = goes_past bs from upto end ends short none in
    let bounds = end_bounds bs from upto end ends in
    let odd : not (is_plain (slice_index bs upto)) ≡ true = ap (odd_at bs) ends.odd ∙ odd_there bs from ends.inside (omega (arith, ends.odd, bounds)) in
    let early : odd_from bs from u ≤ upto = elim (cases_lt upto (odd_from bs from u)) [
      | inl lt ↦ absurd (true≢false (sym odd ∙ first_fails (odd_at bs) from u upto (omega (arith, ends.odd, odd_bounds bs from ends.inside))
          (omega (arith, ends.odd, odd_bounds bs from ends.inside)) lt))
      | inr le ↦ le
    ] in
    let faulty : nat_lt (odd_from bs from u) u ≡ true = grind (arith, nat_tests) in
    rw faulty refl

-- a line without a fault ends there
pub sound_closed : (bs : List ℕ) (number from upto end : ℕ) → Ends bs from upto end → kind_from bs number from ≡ None → IsClosed bs end
sound_closed bs number from upto end ends none short = by (newline_at bs end) refl
  where
    by : (b : Bool) → newline_at bs end ≡ b → newline_at bs end ≡ true
    by true e = e
    by false e = let some = open_kind bs number from upto end ends short e in absurd cc

-- ---- words

pub word_ends : (bs : List ℕ) (from i : ℕ) → from ≤ length bs → from ≤ i → i < odd_end bs from → word_end bs i (odd_end bs from) ≡ letters_end bs i
word_ends bs from i inside le lt =
    let p = odd_end bs from in
    let e = letters_end bs i in
    let letter = λ (j : ℕ). not (is_letter (slice_index bs j)) in
    let short : i ≤ length bs = omega (arith, odd_bounds bs from inside) in
    let below : e ≤ p = elim (cases_lt p e) [
      | inl behind ↦ absurd (true≢false (sym (odd_no_letter (slice_index bs p)
          (odd_there bs from inside (omega (arith, first_below letter i (length bs) short)))) ∙ first_fails letter i (length bs) p short (omega arith) behind))
      | inr ok ↦ ok
    ] in
    first_is (blank_at bs) i p e (record {
      from = first_from letter i (length bs);
      below = below;
      fails = λ j l h. letter_no_blank (slice_index bs j) (first_fails letter i (length bs) j short l h);
      passes = λ h. no_letter_blank (slice_index bs e) (first_passes letter i (length bs) short (omega (arith, odd_bounds bs from inside)))
          (plain_before bs from e inside (omega (arith, first_from letter i (length bs))) h);
    })

pub still_plain : (bs : List ℕ) (from i : ℕ) → from ≤ length bs → i ≤ odd_end bs from → i < length bs → is_plain (slice_index bs i) ≡ true → i < odd_end bs from
still_plain bs from i inside le short plain =
    elim (cases_lt i (odd_end bs from)) [
      | inl lt ↦ lt
      | inr ge ↦
          let e : odd_end bs from ≡ i = omega arith in
          absurd (true≢false (sym (odd_there bs from inside (omega arith)) ∙ ap (odd_at bs) e ∙ ap not plain))
    ]

pub plain_ends : (bs : List ℕ) (from i : ℕ) → from ≤ length bs → from ≤ i → i ≤ odd_end bs from → (i < length bs → is_plain (slice_index bs i) ≡ false) →
    i ≡ odd_end bs from
plain_ends bs from i inside front le stops =
    elim (cases_lt i (odd_end bs from)) [
      | inl lt ↦
          let plain = plain_before bs from i inside front lt in
          absurd (true≢false (ap not (sym (stops (omega (arith, odd_bounds bs from inside)))) ∙ plain))
      | inr ge ↦ omega arith
    ]
