-- A list of steps by links, divided at one step.
use Rattle.std.proofs.Common.{◌≡◌, ◌≢◌, ℕ, zero, suc, ◌+◌, ◌<◌, ◌≤◌, List, ◌∷◌, ◌++◌, refl, sym, ◌∙◌, ap, arith, append_assoc}
use Rattle.std.specs.Prelude.{flat_map, nat_eq}
use Rattle.std.specs.List.{range_with_len}
use Rattle.std.proofs.lemmas.List.Concat.{flat_map-append}
use Rattle.std.proofs.lemmas.List.Elements.{filter-append}
use Rattle.by_key.specs.ByKey.{with_key, by_key}
use Rattle.by_key.proofs.SortedByKey.{keep_same, keep_one}
use Rattle.abstract_net.specs.declared.steps.Step.{Step}
use Rattle.abstract_net.specs.GroupSteps.{link_of}

range_split : (a m r n : ℕ) → n ≡ m + r → range_with_len a n ≡ range_with_len a m ++ range_with_len (a + m) r
range_split a zero r n e =
    let same : n ≡ r = omega arith in
    let at : a ≡ a + 0 = omega arith in
    ap (range_with_len a) same ∙ ap (λ k. range_with_len k r) at
range_split a (suc m) r zero e = absurd (omega arith)
range_split a (suc m) r (suc n) e =
    let less : n ≡ m + r = omega arith in
    let at : a + 1 + m ≡ a + suc m = omega arith in
    ap (λ (l : List ℕ). a ∷ l) (range_split (a + 1) m r n less ∙ ap (λ k. range_with_len (a + 1) m ++ range_with_len k r) at)

parts_at : (xs : List Step) (n k r : ℕ) → n ≡ k + suc r → by_key link_of n xs ≡ flat_map (with_key link_of xs) (range_with_len 0 k) ++
    (with_key link_of xs k ++ flat_map (with_key link_of xs) (range_with_len (k + 1) r))
parts_at xs n k r e =
    let at : 0 + k ≡ k = omega arith in
    ap (flat_map (with_key link_of xs)) (range_split 0 k (suc r) n e)
    ∙ flat_map-append (with_key link_of xs) (range_with_len 0 k) (range_with_len (0 + k) (suc r))
    ∙ ap (λ m. flat_map (with_key link_of xs) (range_with_len 0 k) ++ (with_key link_of xs m ++ flat_map (with_key link_of xs) (range_with_len (m + 1) r))) at

regrouped : (a b c d : List Step) → a ++ ((b ++ c) ++ d) ≡ (a ++ b) ++ (c ++ d)
regrouped a b c d = ap (λ (l : List Step). a ++ l) (append_assoc b c d) ∙ sym (append_assoc a b (c ++ d))

module _ (before later : List Step) (x : Step) where
  aside_at : (v : ℕ) → x.link ≢ v → with_key link_of (before ++ x ∷ later) v ≡ with_key link_of (before ++ later) v
  aside_at v h = filter-append (λ s. nat_eq (link_of s) v) before (x ∷ later)
      ∙ ap (λ (l : List Step). with_key link_of before v ++ l) (keep_same link_of x later v h)
      ∙ sym (filter-append (λ s. nat_eq (link_of s) v) before later)

  aside : (a n : ℕ) → ((v : ℕ) → a ≤ v → v < a + n → x.link ≢ v) →
      flat_map (with_key link_of (before ++ x ∷ later)) (range_with_len a n) ≡ flat_map (with_key link_of (before ++ later)) (range_with_len a n)
  aside a zero h = refl
  aside a (suc n) h =
      let here = aside_at a (h a (omega arith) (omega arith)) in
      let rest = aside (a + 1) n (λ v low high. h v (omega arith) (omega arith)) in
      λ i. here i ++ rest i

  own_with : with_key link_of (before ++ x ∷ later) x.link ≡ with_key link_of before x.link ++ x ∷ with_key link_of later x.link
  own_with = filter-append (λ s. nat_eq (link_of s) x.link) before (x ∷ later)
      ∙ ap (λ (l : List Step). with_key link_of before x.link ++ l) (keep_one link_of x later x.link refl)

  own_without : with_key link_of (before ++ later) x.link ≡ with_key link_of before x.link ++ with_key link_of later x.link
  own_without = filter-append (λ s. nat_eq (link_of s) x.link) before later

  abbrev pub lower : List Step
  lower = flat_map (with_key link_of (before ++ later)) (range_with_len 0 x.link)

  abbrev pub front : List Step
  front = lower ++ with_key link_of before x.link

  abbrev pub higher : ℕ → List Step
  higher r = flat_map (with_key link_of (before ++ later)) (range_with_len (x.link + 1) r)

  abbrev pub back : ℕ → List Step
  back r = with_key link_of later x.link ++ higher r

  pub with_it : (n r : ℕ) → n ≡ x.link + suc r → by_key link_of n (before ++ x ∷ later) ≡ front ++ x ∷ back r
  with_it n r e =
      let low = aside 0 x.link (λ v a b. absurd_at v a b) in
      let high = aside (x.link + 1) r (λ v a b same. absurd (omega arith)) in
      parts_at (before ++ x ∷ later) n x.link r e
      ∙ (λ i. low i ++ (own_with i ++ high i))
      ∙ regrouped lower (with_key link_of before x.link) (x ∷ with_key link_of later x.link) (higher r)
    where
      absurd_at : (v : ℕ) → 0 ≤ v → v < 0 + x.link → x.link ≢ v
      absurd_at v a b same = absurd (omega arith)

  pub without_it : (n r : ℕ) → n ≡ x.link + suc r → by_key link_of n (before ++ later) ≡ front ++ back r
  without_it n r e =
      parts_at (before ++ later) n x.link r e
      ∙ ap (λ (l : List Step). lower ++ (l ++ higher r)) own_without
      ∙ regrouped lower (with_key link_of before x.link) (with_key link_of later x.link) (higher r)
