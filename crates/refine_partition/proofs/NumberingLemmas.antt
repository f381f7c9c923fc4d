-- One more key has its number, or gets the next one if it is new.
use Rattle.std.proofs.Common.{◌≡◌, ◌≢◌, ℕ, ◌<◌, ◌≤◌, ◌+◌, max, Option, Some, None, List, [], ◌∷◌, ◌++◌, length, Contains, refl, sym, ◌∙◌, ap, subst, arith, inl, inr}
use Rattle.std.specs.Prelude.{slice_index, ◌⊎◌}
use Rattle.std.proofs.lemmas.Bool.{cases_lt, cases_eq}
use Rattle.std.proofs.lemmas.List.{length_push, get_or_push, get_or_append_left, get_or_default}
use Rattle.std.proofs.lemmas.List.Elements.{All-push, All-weaker, All-get_or, Contains-append_left, Contains-push}
use Rattle.base_kit.specs.Partition.{IsNumbered}
use Rattle.refine_partition.specs.Numbering.{IsNumbering}

pub no_numbers : (keys : List ℕ) → IsNumbering keys [] 0
no_numbers keys = record {
  numbered = record {
    below = λ k d inside. absurd (omega arith);
    used = λ group inside. absurd (omega arith);
    in_order = λ v group inside below. absurd (omega arith);
  };
  small = omega arith;
  apart = λ u v hu hv same. absurd (omega arith);
  together = λ u v hu hv same. absurd (omega arith);
}

-- a router is the new one or an earlier one
last_or_earlier : (numbers : List ℕ) (y u : ℕ) → u < length (numbers ++ y ∷ []) → (u < length numbers) ⊎ (u ≡ length numbers)
last_or_earlier numbers y u inside =
    let more = length_push numbers y in
    elim (cases_lt u (length numbers)) [ inl lt ↦ inl lt | inr le ↦ inr (omega arith) ]

earlier : (numbers : List ℕ) (y u : ℕ) → u < length numbers → slice_index (numbers ++ y ∷ []) u ≡ slice_index numbers u
earlier numbers y u inside = get_or_append_left numbers (y ∷ []) 0 u inside

newest : (numbers : List ℕ) (y u : ℕ) → u ≡ length numbers → slice_index (numbers ++ y ∷ []) u ≡ y
newest numbers y u e = get_or_push numbers y 0 u (sym e)

-- an earlier router with this number stands before it in the longer list too
found_earlier : (numbers : List ℕ) (y v group : ℕ) → v ≤ length numbers → ((u : ℕ) × (u < v) × (slice_index numbers u ≡ group)) →
    (u : ℕ) × (u < v) × (slice_index (numbers ++ y ∷ []) u ≡ group)
found_earlier numbers y v group inside (u, before, e) = (u, before, earlier numbers y u (omega arith) ∙ e)

in_order_push : (numbers : List ℕ) (count more y : ℕ) → IsNumbered numbers count →
    ((group : ℕ) → group < y → (u : ℕ) × (u < length numbers) × (slice_index numbers u ≡ group)) → (v group : ℕ) → v < length (numbers ++ y ∷ []) →
    group < slice_index (numbers ++ y ∷ []) v → (u : ℕ) × (u < v) × (slice_index (numbers ++ y ∷ []) u ≡ group)
in_order_push numbers count more y numbered smaller v group inside below =
    elim (last_or_earlier numbers y v inside) [
      | inl hv ↦
          let below' = rw (earlier numbers y v hv) at below in
          found_earlier numbers y v group (omega arith) (numbered.in_order v group hv below')
      | inr e ↦
          let below' = rw (newest numbers y v e) at below in
          let (u, before, same) = smaller group below' in
          (u, omega arith, earlier numbers y u before ∙ same)
    ]

-- equal numbers and equal keys go together when a router of both is added
apart_push : (numbers keys : List ℕ) (y : ℕ) →
    ((u v : ℕ) → u < length numbers → v < length numbers → slice_index numbers u ≡ slice_index numbers v → slice_index keys u ≡ slice_index keys v) →
    ((u : ℕ) → u < length numbers → slice_index numbers u ≡ y → slice_index keys u ≡ slice_index keys (length numbers)) → (u v : ℕ) →
    u < length (numbers ++ y ∷ []) → v < length (numbers ++ y ∷ []) → slice_index (numbers ++ y ∷ []) u ≡ slice_index (numbers ++ y ∷ []) v →
    slice_index keys u ≡ slice_index keys v
apart_push numbers keys y apart new u v hu hv same =
    elim (last_or_earlier numbers y u hu) [
      | inl eu ↦ elim (last_or_earlier numbers y v hv) [
        | inl ev ↦ apart u v eu ev (sym (earlier numbers y u eu) ∙ same ∙ earlier numbers y v ev)
        | inr e ↦ new u eu (sym (earlier numbers y u eu) ∙ same ∙ newest numbers y v e) ∙ sym (ap (λ n. slice_index keys n) e)
      ]
      | inr e ↦ elim (last_or_earlier numbers y v hv) [
        | inl ev ↦ ap (λ n. slice_index keys n) e ∙ sym (new v ev (sym (earlier numbers y v ev) ∙ sym same ∙ newest numbers y u e))
        | inr e' ↦ ap (λ n. slice_index keys n) (e ∙ sym e')
      ]
    ]

together_push : (numbers keys : List ℕ) (y : ℕ) →
    ((u v : ℕ) → u < length numbers → v < length numbers → slice_index keys u ≡ slice_index keys v → slice_index numbers u ≡ slice_index numbers v) →
    ((u : ℕ) → u < length numbers → slice_index keys u ≡ slice_index keys (length numbers) → slice_index numbers u ≡ y) → (u v : ℕ) →
    u < length (numbers ++ y ∷ []) → v < length (numbers ++ y ∷ []) → slice_index keys u ≡ slice_index keys v →
    slice_index (numbers ++ y ∷ []) u ≡ slice_index (numbers ++ y ∷ []) v
together_push numbers keys y together new u v hu hv same =
    elim (last_or_earlier numbers y u hu) [
      | inl eu ↦ elim (last_or_earlier numbers y v hv) [
        | inl ev ↦ earlier numbers y u eu ∙ together u v eu ev same ∙ sym (earlier numbers y v ev)
        | inr e ↦ earlier numbers y u eu ∙ new u eu (same ∙ ap (λ n. slice_index keys n) e) ∙ sym (newest numbers y v e)
      ]
      | inr e ↦ elim (last_or_earlier numbers y v hv) [
        | inl ev ↦ newest numbers y u e ∙ sym (new v ev (sym same ∙ ap (λ n. slice_index keys n) e)) ∙ sym (earlier numbers y v ev)
        | inr e' ↦ newest numbers y u e ∙ sym (newest numbers y v e')
      ]
    ]

-- a number in use, as a router
pub used_at : (numbers : List ℕ) (group : ℕ) → Contains numbers group → (u : ℕ) × (u < length numbers) × (slice_index numbers u ≡ group)
used_at numbers group (k, inside, at) = (k, inside, get_or_default numbers k 0 group inside ∙ at)

-- numbers of the first keys, with the names that they have
pub record Numbering (keys numbers : List ℕ) (count : ℕ) (names : ℕ → Option ℕ) : Type 0 where
  pub numbering : IsNumbering keys numbers count
  pub named : (key number : ℕ) → names key ≡ Some number → (u : ℕ) × (u < length numbers) × (slice_index keys u ≡ key) × (slice_index numbers u ≡ number)
  pub known : (u : ℕ) → u < length numbers → names (slice_index keys u) ≡ Some (slice_index numbers u)

pub none_numbered : (keys : List ℕ) (names : ℕ → Option ℕ) → ((key : ℕ) → names key ≡ None) → Numbering keys [] 0 names
none_numbered keys names none = record {
  numbering = no_numbers keys;
  named = λ key number is. let no = none key in absurd cc;
  known = λ u inside. absurd (omega arith);
}

known_number : (keys numbers : List ℕ) (count u number : ℕ) → IsNumbering keys numbers count → u < length numbers →
    slice_index keys u ≡ slice_index keys (length numbers) → slice_index numbers u ≡ number → IsNumbering keys (numbers ++ number ∷ []) count
known_number keys numbers count u number numbering inside same is = record {
  numbered = record {
    below = All-push (λ g. g < count) numbers number numbering.numbered.below
        (subst (λ g. g < count) is (All-get_or (λ g. g < count) numbers u 0 inside numbering.numbered.below));
    used = λ group within. Contains-append_left numbers (number ∷ []) group (numbering.numbered.used group within);
    in_order = in_order_push numbers count 0 number numbering.numbered
        (λ group below. let (w, before, e) = numbering.numbered.in_order u group inside (omega arith) in (w, omega arith, e));
  };
  small = let more = length_push numbers number in let small = numbering.small in omega arith;
  apart = apart_push numbers keys number numbering.apart (λ w hw e. numbering.apart w u hw inside (e ∙ sym is) ∙ same);
  together = together_push numbers keys number numbering.together (λ w hw e. numbering.together w u hw inside (e ∙ sym same) ∙ is);
}

fresh_number : (keys numbers : List ℕ) (count : ℕ) → IsNumbering keys numbers count →
    ((u : ℕ) → u < length numbers → slice_index keys u ≢ slice_index keys (length numbers)) → IsNumbering keys (numbers ++ count ∷ []) (count + 1)
fresh_number keys numbers count numbering new =
    let smaller : (u : ℕ) → u < length numbers → slice_index numbers u < count =
    λ u inside. All-get_or (λ g. g < count) numbers u 0 inside numbering.numbered.below in
    record {
      numbered = record {
        below = All-push (λ g. g < count + 1) numbers count
            (All-weaker (λ g. g < count) (λ g. g < count + 1) (λ g lt. omega arith) numbers numbering.numbered.below) (omega arith);
        used = λ group inside. elim (cases_lt group count) [
          | inl lt ↦ Contains-append_left numbers (count ∷ []) group (numbering.numbered.used group lt)
          | inr le ↦ let e : count ≡ group = omega arith in subst (λ (g : ℕ). Contains (numbers ++ count ∷ []) g) e (Contains-push numbers count)
        ];
        in_order = in_order_push numbers count 0 count numbering.numbered (λ group below. used_at numbers group (numbering.numbered.used group below));
      };
      small = let more = length_push numbers count in let small = numbering.small in omega arith;
      apart = apart_push numbers keys count numbering.apart (λ u inside same. let lt = smaller u inside in absurd (omega arith));
      together = together_push numbers keys count numbering.together (λ u inside same. absurd (new u inside same));
    }

-- one more key
pub numbered_next : (keys numbers : List ℕ) (count count' number : ℕ) (names names' : ℕ → Option ℕ) → Numbering keys numbers count names →
    names' (slice_index keys (length numbers)) ≡ Some number → ((other : ℕ) → other ≢ slice_index keys (length numbers) → names' other ≡ names other) →
    ((names (slice_index keys (length numbers)) ≡ Some number) ⊎ ((names (slice_index keys (length numbers)) ≡ None) × (number ≡ count))) →
    count' ≡ max count (number + 1) → Numbering keys (numbers ++ number ∷ []) count' names'
numbered_next keys numbers count count' number names names' so_far named others was counts =
    let key : ℕ = slice_index keys (length numbers) in
    let more = length_push numbers number in
    record {
      numbering = elim was [
        | inl old ↦
            let (u, inside, same, is) = so_far.named key number old in
            let lt : slice_index numbers u < count = All-get_or (λ g. g < count) numbers u 0 inside so_far.numbering.numbered.below in
            let e : count ≡ count' = omega arith in
            subst (λ n. IsNumbering keys (numbers ++ number ∷ []) n) e (known_number keys numbers count u number so_far.numbering inside same is)
        | inr new ↦
            let is : count ≡ number = sym new.1 in
            let e : count + 1 ≡ count' = omega arith in
            let fresh = fresh_number keys numbers count so_far.numbering (λ u inside same. let known = so_far.known u inside in
            let known' : names key ≡ Some (slice_index numbers u) = ap names (sym same) ∙ known in let none = new.0 in absurd cc) in
            subst (λ n. IsNumbering keys (numbers ++ number ∷ []) n) e (subst (λ y. IsNumbering keys (numbers ++ y ∷ []) (count + 1)) is fresh)
      ];
      named = λ other n found. elim (cases_eq other key) [
        | inl e ↦
            let found' : names' key ≡ Some n = ap names' (sym e) ∙ found in
            (length numbers, omega arith, sym e, newest numbers number (length numbers) refl ∙ cc)
        | inr ne ↦
            let (u, inside, at, is) = so_far.named other n (sym (others other ne) ∙ found) in
            (u, omega arith, at, earlier numbers number u inside ∙ is)
      ];
      known = λ u inside. elim (last_or_earlier numbers number u inside) [
        | inl old ↦
            let known = so_far.known u old in
            let at = earlier numbers number u old in
            elim (cases_eq (slice_index keys u) key) [
              | inl e ↦
                  let known' : names key ≡ Some (slice_index numbers u) = ap names (sym e) ∙ known in
                  elim was [
                    | inl was_named ↦ ap names' e ∙ named ∙ sym was_named ∙ known' ∙ ap (λ n. Some n) (sym at)
                    | inr new ↦ let none = new.0 in absurd cc
                  ]
              | inr ne ↦ others _ ne ∙ known ∙ ap (λ n. Some n) (sym at)
            ]
        | inr e ↦ ap names' (ap (slice_index keys) e) ∙ named ∙ ap (λ n. Some n) (sym (newest numbers number u e))
      ];
    }
