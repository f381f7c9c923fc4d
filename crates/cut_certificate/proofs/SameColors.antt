-- Colors that are equal at the same routers give the same blocks.
use Rattle.std.proofs.Common.{◌≡◌, ℕ, zero, suc, ◌+◌, ◌<◌, ◌≤◌, Bool, true, false, cond, ◌||◌, nat_eq, List, [], ◌∷◌, ◌++◌, length, map, get_or, refl, sym, ap, ◌∙◌, arith}
use Rattle.std.specs.List.{range_with_len}
use Rattle.std.proofs.lemmas.List.{ext_get_or, map-append}
use Rattle.std.proofs.lemmas.List.FromFn.{length-range_with_len}
use Rattle.base_kit.specs.declared.act_graph.ActGraph.{ActGraph}
use Rattle.base_kit.specs.Sets.{has}
use Rattle.cfg_ast.specs.text.Members.{all_lines_of}
use Rattle.cfg_ast.specs.text.TextLines.{text_line}
use Rattle.cut_certificate.specs.Blocks.{Blocks, seen_after, distinct, place_among, number_among, first_blocks}
use Rattle.cut_certificate.specs.Laws.{AreSameButColors, ColorsAreAside}
use Rattle.cut_certificate.specs.Texts.{opening, router_named, certificate_from, certificate_of_text}
use Rattle.cut_certificate.proofs.Seen.{same_test, test_same, with_old, with_next}
use Rattle.cut_certificate.proofs.Used.{map_at, map_long, over_range}

abbrev Below : ℕ → List ℕ → Type 0
Below n [] = Unit {0}
Below n (k ∷ ks) = (k < n) × Below n ks

below_push : (n : ℕ) (ks : List ℕ) (u : ℕ) → Below n ks → u < n → Below n (ks ++ u ∷ [])
below_push n [] u below h = (h, tt)
below_push n (k ∷ ks) u below h = (below.0, below_push n ks u below.1 h)

below_range : (n a m : ℕ) → a + m ≤ n → Below n (range_with_len a m)
below_range n a zero le = tt
below_range n a (suc m) le = (omega arith, below_range n (a + 1) m (omega arith))

abbrev at : List ℕ → ℕ → ℕ
at cs u = get_or cs u 0

list_of : (cs : List ℕ) → cs ≡ map (at cs) (range_with_len 0 (length cs))
list_of cs = ext_get_or 0 cs (map (at cs) (range_with_len 0 (length cs)))
    (sym (map_long (at cs) (range_with_len 0 (length cs)) ∙ length-range_with_len 0 (length cs))) (λ u h. sym (over_range (at cs) (length cs) u h))

equal_tests : (a b : Bool) → (a ≡ true → b ≡ true) → (b ≡ true → a ≡ true) → a ≡ b
equal_tests true b there back = sym (there refl)
equal_tests false true there back = back refl
equal_tests false false there back = refl

module _ (cs ds : List ℕ) (n : ℕ) (tests : (u v : ℕ) → u < n → v < n → nat_eq (at cs u) (at cs v) ≡ nat_eq (at ds u) (at ds v)) where
  has_same : (ks : List ℕ) (u : ℕ) → Below n ks → u < n → has (map (at cs) ks) (at cs u) ≡ has (map (at ds) ks) (at ds u)
  has_same [] u below h = refl
  has_same (k ∷ ks) u below h = ap (λ b. b || has (map (at cs) ks) (at cs u)) (tests k u below.0 h)
      ∙ ap (λ b. nat_eq (at ds k) (at ds u) || b) (has_same ks u below.1 h)

  place_step : (k u : ℕ) (ks : List ℕ) (b : Bool) → nat_eq (at cs k) (at cs u) ≡ b → nat_eq (at ds k) (at ds u) ≡ b
      → place_among (map (at cs) ks) (at cs u) ≡ place_among (map (at ds) ks) (at ds u)
      → place_among (map (at cs) (k ∷ ks)) (at cs u) ≡ place_among (map (at ds) (k ∷ ks)) (at ds u)
  place_step k u ks true e f rest = rw (e, f) refl
  place_step k u ks false e f rest = rw (e, f) (ap (λ p. 1 + p) rest)

  place_same : (ks : List ℕ) (u : ℕ) → Below n ks → u < n → place_among (map (at cs) ks) (at cs u) ≡ place_among (map (at ds) ks) (at ds u)
  place_same [] u below h = refl
  place_same (k ∷ ks) u below h = place_step k u ks (nat_eq (at cs k) (at cs u)) refl (sym (tests k u below.0 h)) (place_same ks u below.1 h)

  -- both see the same places
  pub record SeenAlike (old us : List ℕ) : Type 0 where
    pub places : List ℕ
    pub below : Below n places
    pub first : seen_after (map (at cs) old) (map (at cs) us) ≡ map (at cs) places
    pub second : seen_after (map (at ds) old) (map (at ds) us) ≡ map (at ds) places

  seen_step : (old : List ℕ) (u : ℕ) (us : List ℕ) (b : Bool) → has (map (at cs) old) (at cs u) ≡ b → has (map (at ds) old) (at ds u) ≡ b
      → SeenAlike (cond b old (old ++ u ∷ [])) us → SeenAlike old (u ∷ us)
  seen_step old u us true e f rest = record {
    places = rest.places;
    below = rest.below;
    first = ap (λ s. seen_after s (map (at cs) us)) (with_old (map (at cs) old) (at cs u) e) ∙ rest.first;
    second = ap (λ s. seen_after s (map (at ds) us)) (with_old (map (at ds) old) (at ds u) f) ∙ rest.second;
  }
  seen_step old u us false e f rest = record {
    places = rest.places;
    below = rest.below;
    first = ap (λ s. seen_after s (map (at cs) us)) (with_next (map (at cs) old) (at cs u) e ∙ sym (map-append (at cs) old (u ∷ []))) ∙ rest.first;
    second = ap (λ s. seen_after s (map (at ds) us)) (with_next (map (at ds) old) (at ds u) f ∙ sym (map-append (at ds) old (u ∷ []))) ∙ rest.second;
  }

  below_more : (old : List ℕ) (u : ℕ) (b : Bool) → Below n old → u < n → Below n (cond b old (old ++ u ∷ []))
  below_more old u true below h = below
  below_more old u false below h = below_push n old u below h

  seen_same : (old us : List ℕ) → Below n old → Below n us → SeenAlike old us
  seen_same old [] below more = record { places = old; below = below; first = refl; second = refl }
  seen_same old (u ∷ us) below more =
      let b = has (map (at cs) old) (at cs u) in
      seen_step old u us b refl (sym (has_same old u below more.0)) (seen_same (cond b old (old ++ u ∷ [])) us (below_more old u b below more.0) more.1)

  numbers_same : length cs ≡ n → length ds ≡ n → (map (number_among cs) cs ≡ map (number_among ds) ds) × (length (distinct cs) ≡ length (distinct ds))
  unfolding distinct
  numbers_same lc ld =
      let s = seen_same [] (range_with_len 0 n) tt (below_range n 0 n (omega arith)) in
      let first : seen_after [] cs ≡ map (at cs) s.places = ap (seen_after []) (list_of cs ∙ ap (λ m. map (at cs) (range_with_len 0 m)) lc) ∙ s.first in
      let second : seen_after [] ds ≡ map (at ds) s.places = ap (seen_after []) (list_of ds ∙ ap (λ m. map (at ds) (range_with_len 0 m)) ld) ∙ s.second in (
        ext_get_or 0 (map (number_among cs) cs) (map (number_among ds) ds) (map_long (number_among cs) cs ∙ lc ∙ sym (map_long (number_among ds) ds ∙ ld))
            (λ u inside.
            let hc : u < length cs = omega (arith, map_long (number_among cs) cs) in
            let hn : u < n = omega arith in
            let hd : u < length ds = omega arith in
            map_at (number_among cs) cs u hc ∙ ap (λ k. k + 1)
            (ap (λ seen. place_among seen (at cs u)) first ∙ place_same s.places u s.below hn ∙ sym (ap (λ seen. place_among seen (at ds u)) second))
            ∙ sym (map_at (number_among ds) ds u hd)),
        ap length first ∙ map_long (at cs) s.places ∙ sym (ap length second ∙ map_long (at ds) s.places),
      )

first_same : (first second : ActGraph) → AreSameButColors first second → first_blocks first ≡ first_blocks second
unfolding first_blocks
first_same first second same =
    let n = first.count in
    let tests : (u v : ℕ) → u < n → v < n → nat_eq (at first.colors u) (at first.colors v) ≡ nat_eq (at second.colors u) (at second.colors v) = λ u v hu hv.
    equal_tests (nat_eq (at first.colors u) (at first.colors v)) (nat_eq (at second.colors u) (at second.colors v))
    (λ e. same_test _ _ (same.there u v hu hv (test_same _ _ e)))
    (λ e. same_test _ _ (same.back u v (omega (arith, same.count)) (omega (arith, same.count)) (test_same _ _ e))) in
    let are = numbers_same first.colors second.colors n tests first.one_color_each (second.one_color_each ∙ sym same.count) in
    cc (are.0, are.1)

pub colors_are_aside : ColorsAreAside
unfolding certificate_of_text
colors_are_aside first second same names bs =
    ap (λ edges. certificate_from edges (router_named names) (length (all_lines_of bs) + 1) (map (text_line bs) (all_lines_of bs)) (opening first)) same.edges
    ∙ ap (λ (b : Blocks). certificate_from second.edges (router_named names) (length (all_lines_of bs) + 1) (map (text_line bs) (all_lines_of bs))
    (record (opening first) { blocks = b })) (first_same first second same)
