-- Steps by the places of their edges.
use Rattle.std.proofs.Common.{◌≡◌, ◌≢◌, ℕ, ◌<◌, Bool, true, false, cond, ◌&&◌, ◌||◌, List, [], ◌∷◌, min, max, Option, Some, None, refl, sym, ◌∙◌, ap}
use Rattle.std.proofs.Common.{arith, inl, inr}
use Rattle.std.specs.Prelude.{filter, filter_map, nat_eq, nat_lt}
use Rattle.std.specs.Bool.{beq}
use Rattle.std.specs.List.{list_any, cons_option}
use Rattle.std.proofs.lemmas.List.Elements.{filter_agree}
use Rattle.std.proofs.lemmas.Bool.Decides.{nat_tests}
use Rattle.base_kit.specs.declared.act_graph.Edge.{Edge}
use Rattle.base_kit.proofs.Elements.{In, filter_in}
use Rattle.by_key.specs.ByKey.{with_key}
use Rattle.abstract_net.specs.declared.steps.Step.{Step}
use Rattle.abstract_net.specs.Carried.{act_at}
use Rattle.abstract_net.specs.Links.{link_at, importer_at, exporter_at, by_link, goes, first_acts, acts_into}
use Rattle.abstract_net.specs.GroupSteps.{step_at, low_of, high_of, first_new, goes_into, edges_into}

-- ---- lists

cons_if : {X : Type 0} → Bool → X → List X → List X
cons_if b x xs = cond b (x ∷ xs) xs

kept_or_not : {X Y : Type 0} (at : X → Option Y) (x : X) (xs : List X) (b : Bool) →
    filter_map at (cond b (x ∷ xs) xs) ≡ cond b (cons_option (at x) (filter_map at xs)) (filter_map at xs)
kept_or_not at x xs true = refl
kept_or_not at x xs false = refl

both : {X : Type 0} (b : Bool) (xs : List X) → cond b xs xs ≡ xs
both true xs = refl
both false xs = refl

one_step : {Y : Type 0} (p : Y → Bool) (o : Option Y) (b : Bool) (ys zs : List Y) → ((y : Y) → o ≡ Some y → p y ≡ b) → filter p ys ≡ zs →
    filter p (cons_option o ys) ≡ cond b (cons_option o zs) zs
one_step p None b ys zs h e = e ∙ sym (both b zs)
one_step p (Some y) b ys zs h e = ap (λ c. cond c (y ∷ filter p ys) (filter p ys)) (h y refl) ∙ ap (λ us. cond b (y ∷ us) us) e

-- a test of the items is a test of what they come from
pub filter_back : {X Y : Type 0} (at : X → Option Y) (p : Y → Bool) (q : X → Bool) → ((x : X) (y : Y) → at x ≡ Some y → p y ≡ q x) → (xs : List X) →
    filter p (filter_map at xs) ≡ filter_map at (filter q xs)
filter_back at p q h [] = refl
filter_back at p q h (x ∷ xs) = one_step p (at x) (q x) (filter_map at xs) (filter_map at (filter q xs)) (λ y e. h x y e) (filter_back at p q h xs)
    ∙ sym (kept_or_not at x (filter q xs) (q x))

both_tests : {X : Type 0} (p : X → Bool) (x : X) (b c : Bool) (ys zs : List X) → p x ≡ c → filter p ys ≡ zs →
    filter p (cond b (x ∷ ys) ys) ≡ cond (b && c) (x ∷ zs) zs
both_tests p x true c ys zs h e = ap (λ d. cond d (x ∷ filter p ys) (filter p ys)) h ∙ ap (λ us. cond c (x ∷ us) us) e
both_tests p x false c ys zs h e = e

pub filter_twice : {X : Type 0} (p q : X → Bool) (xs : List X) → filter p (filter q xs) ≡ filter (λ x. q x && p x) xs
filter_twice p q [] = refl
filter_twice p q (x ∷ xs) = both_tests p x (q x) (p x) (filter q xs) (filter (λ y. q y && p y) xs) refl (filter_twice p q xs)

-- ---- the steps of places

module _ (es : List Edge) (groups : List ℕ) where
  pub record IsStepAt (k : ℕ) (x : Step) : Type 0 where
    pub differ : importer_at es groups k ≢ exporter_at es groups k
    pub low : x.low ≡ min (importer_at es groups k) (exporter_at es groups k)
    pub high : x.high ≡ max (importer_at es groups k) (exporter_at es groups k)
    pub into_low : x.into_low ≡ nat_lt (importer_at es groups k) (exporter_at es groups k)
    pub act : x.act ≡ act_at es k
    pub link : x.link ≡ link_at es k
    pub edge : x.edge ≡ k

  abbrev crossing : ℕ → Step
  crossing k = record {
    low = min (importer_at es groups k) (exporter_at es groups k);
    high = max (importer_at es groups k) (exporter_at es groups k);
    into_low = nat_lt (importer_at es groups k) (exporter_at es groups k);
    act = act_at es k;
    link = link_at es k;
    edge = k;
  }

  pub is_step : (k : ℕ) (x : Step) → step_at es groups k ≡ Some x → IsStepAt k x
  is_step k x e = by (nat_eq (importer_at es groups k) (exporter_at es groups k)) refl e where
    by : (b : Bool) → nat_eq (importer_at es groups k) (exporter_at es groups k) ≡ b → cond b None (Some (crossing k)) ≡ Some x → IsStepAt k x
    by true t e = absurd cc
    by false t e =
        let same : crossing k ≡ x = cc in
        record {
          differ = grind (arith, nat_tests);
          low = sym (ap (λ (s : Step). s.low) same);
          high = sym (ap (λ (s : Step). s.high) same);
          into_low = sym (ap (λ (s : Step). s.into_low) same);
          act = sym (ap (λ (s : Step). s.act) same);
          link = sym (ap (λ (s : Step). s.link) same);
          edge = sym (ap (λ (s : Step). s.edge) same);
        }

  pub low_before_high : (k : ℕ) (x : Step) → step_at es groups k ≡ Some x → x.low < x.high
  low_before_high k x at =
      let s = is_step k x at in
      let l = s.low in let h = s.high in let d = s.differ in
      omega arith

  -- ---- one pair of groups

  abbrev pub cell : List Step → ℕ → ℕ → List Step
  cell xs g h = with_key low_of (with_key high_of xs h) g

  abbrev in_low : ℕ → ℕ → Bool
  in_low g k = nat_eq (min (importer_at es groups k) (exporter_at es groups k)) g

  abbrev in_high : ℕ → ℕ → Bool
  in_high h k = nat_eq (max (importer_at es groups k) (exporter_at es groups k)) h

  abbrev enters : Bool → ℕ → Bool
  enters b k = beq (nat_lt (importer_at es groups k) (exporter_at es groups k)) b

  regrouped : (a b c : Bool) → (a && (b && c)) ≡ ((a && b) && c)
  regrouped true b c = refl
  regrouped false b c = refl

  cell_places : (g h : ℕ) (b : Bool) (ks : List ℕ) →
      filter (goes_into b) (cell (filter_map (step_at es groups) ks) g h) ≡ filter_map (step_at es groups)
      (filter (λ k. (in_high h k && in_low g k) && enters b k) ks)
  cell_places g h b ks =
      ap (λ (xs : List Step). filter (goes_into b) (with_key low_of xs g))
      (filter_back (step_at es groups) (λ (x : Step). nat_eq x.high h) (in_high h) (λ k x e. ap (λ n. nat_eq n h) (is_step k x e).high) ks)
      ∙ ap (filter (goes_into b)) (filter_back (step_at es groups) (λ (x : Step). nat_eq x.low g) (in_low g) (λ k x e. ap (λ n. nat_eq n g) (is_step k x e).low)
      (filter (in_high h) ks))
      ∙ filter_back (step_at es groups) (goes_into b) (enters b) (λ k x e. ap (λ c. beq c b) (is_step k x e).into_low)
      (filter (in_low g) (filter (in_high h) ks))
      ∙ ap (filter_map (step_at es groups)) (filter_twice (enters b) (in_low g) (filter (in_high h) ks)
      ∙ filter_twice (λ k. in_low g k && enters b k) (in_high h) ks
      ∙ filter_agree (λ k. in_high h k && (in_low g k && enters b k)) (λ k. (in_high h k && in_low g k) && enters b k)
      (λ k. regrouped (in_high h k) (in_low g k) (enters b k)) ks)

  -- the steps of edges that all cross, as far as their acts are new
  first_places : (met : ℕ → Bool) (seen ks : List ℕ) → ((act : ℕ) → met act ≡ list_any (nat_eq act) seen) →
      ((k : ℕ) → In ks k → importer_at es groups k ≢ exporter_at es groups k) → first_new met (filter_map (step_at es groups) ks) ≡ first_acts es seen ks
  first_places met seen [] same crossing_all = refl
  first_places met seen (k ∷ ks) same crossing_all =
      ap (λ (o : Option Step). first_new met (cons_option o (filter_map (step_at es groups) ks))) (crosses k (crossing_all k (inl refl)))
      ∙ (λ i. cond (same (act_at es k) i) (first_places met seen ks same (λ j at. crossing_all j (inr at)) i)
      (k ∷ first_places (λ act. cond (nat_eq (act_at es k) act) true (met act)) (act_at es k ∷ seen) ks (λ act. more act (same act))
      (λ j at. crossing_all j (inr at)) i))
    where
      crosses : (j : ℕ) → importer_at es groups j ≢ exporter_at es groups j → step_at es groups j ≡ Some (crossing j)
      crosses j differ = ap (λ (b : Bool). cond b None (Some (crossing j))) (let t : nat_eq (importer_at es groups j) (exporter_at es groups j) ≡ false =
          grind (arith, nat_tests) in t)

      either_way : (m n : ℕ) → nat_eq m n ≡ nat_eq n m
      either_way m n = grind (arith, nat_tests)

      or_is : (a b : Bool) → cond a true b ≡ (a || b)
      or_is true b = refl
      or_is false b = refl

      more : (act : ℕ) → met act ≡ list_any (nat_eq act) seen →
          cond (nat_eq (act_at es k) act) true (met act) ≡ (nat_eq act (act_at es k) || list_any (nat_eq act) seen)
      more act e = (λ i. cond (either_way (act_at es k) act i) true (e i)) ∙ or_is (nat_eq act (act_at es k)) (list_any (nat_eq act) seen)

into_lower : (i e g h : ℕ) → g < h → ((nat_eq (max i e) h && nat_eq (min i e) g) && beq (nat_lt i e) true) ≡ (nat_eq i g && nat_eq e h)
into_lower i e g h less = grind (arith, nat_tests)

into_higher : (i e g h : ℕ) → g < h → ((nat_eq (max i e) h && nat_eq (min i e) g) && beq (nat_lt i e) false) ≡ (nat_eq i h && nat_eq e g)
into_higher i e g h less = grind (arith, nat_tests)

module _ (es : List Edge) (groups : List ℕ) where
  differ_in : (g h k : ℕ) → g ≢ h → goes es groups g h k ≡ true → importer_at es groups k ≢ exporter_at es groups k
  differ_in g h k apart e same = absurd (grind (arith, nat_tests))

  goes_places : (g h : ℕ) → g ≢ h → first_new (λ act. false) (filter_map (step_at es groups) (filter (goes es groups g h) (by_link es))) ≡ acts_into es groups g
      h
  unfolding acts_into
  goes_places g h apart = first_places es groups (λ act. false) [] (filter (goes es groups g h) (by_link es)) (λ act. refl)
      (λ k at. differ_in g h k apart (filter_in (goes es groups g h) (by_link es) k at).1)

  -- into the lower group of a pair
  pub into_low : (g h : ℕ) → g < h → edges_into true (cell es groups (filter_map (step_at es groups) (by_link es)) g h) ≡ acts_into es groups g h
  into_low g h less =
      ap (first_new (λ act. false)) (cell_places es groups g h true (by_link es)
      ∙ ap (filter_map (step_at es groups)) (filter_agree _ (goes es groups g h)
      (λ k. into_lower (importer_at es groups k) (exporter_at es groups k) g h less) (by_link es)))
      ∙ goes_places g h (λ e. absurd (omega arith))

  -- into the higher group of a pair
  pub into_high : (g h : ℕ) → g < h → edges_into false (cell es groups (filter_map (step_at es groups) (by_link es)) g h) ≡ acts_into es groups h g
  into_high g h less =
      ap (first_new (λ act. false)) (cell_places es groups g h false (by_link es)
      ∙ ap (filter_map (step_at es groups)) (filter_agree _ (goes es groups h g)
      (λ k. into_higher (importer_at es groups k) (exporter_at es groups k) g h less) (by_link es)))
      ∙ goes_places h g (λ e. absurd (omega arith))
