-- Whether a partition is admissible is decided.
use Rattle.std.proofs.Common.{◌≡◌, ◌≢◌, ◌⊎◌, ℕ, zero, suc, ◌<◌, true, List, [], ◌∷◌, length, Option, Some, None, refl, sym, ap, subst, inl, inr, arith}
use Rattle.std.specs.Prelude.{slice_index_or}
use Rattle.std.proofs.lemmas.Bool.{cases_Bool, cases_eq}
use Rattle.base_kit.specs.declared.act_graph.Edge.{Edge}
use Rattle.base_kit.proofs.Elements.{In, contains_in, in_contains}
use Rattle.srp_core.specs.declared.route.Route.{Route}
use Rattle.srp_core.specs.declared.route.Route.TheVariants.{Bgp, Ospf}
use Rattle.srp_core.specs.declared.route.Act.TheVariants.{Cost}
use Rattle.srp_core.specs.Acts.{ActsAlike}
use Rattle.srp_core.specs.Problem.{Problem, count, initial, is_lone, act_of, IsProblem}
use Rattle.srp_core.specs.Quotient.{group_of, Twin, IsAdmissible}
use Rattle.srp_core.proofs.Steps.{alike_self}

abbrev pub Dec : Type 0 → Type 0
Dec P = P ⊎ ¬ P

implied : {A B : Type 0} → Dec A → (A → Dec B) → Dec (A → B)
implied {A = A} {B = B} (inl a) b = by (b a)
  where
    by : Dec B → Dec (A → B)
    by (inl holds) = inl (λ x. holds)
    by (inr never) = inr (λ f. never (f a))
implied (inr never) b = inl (λ a. absurd (never a))

below : (P : ℕ → Type 0) (n : ℕ) → ((k : ℕ) → Dec (P k)) → Dec ((k : ℕ) → k < n → P k)
below P zero dec = inl (λ k h. absurd (omega arith))
below P (suc n) dec = by (below P n dec) (dec n)
  where
    at : ((k : ℕ) → k < n → P k) → P n → (k : ℕ) → k < suc n → P k
    at all here k h = elim (cases_eq k n) [ inl same ↦ subst P (sym same) here | inr differ ↦ all k (omega arith) ]

    by : Dec ((k : ℕ) → k < n → P k) → Dec (P n) → Dec ((k : ℕ) → k < suc n → P k)
    by (inl all) (inl here) = inl (at all here)
    by (inl all) (inr never) = inr (λ f. never (f n (omega arith)))
    by (inr never) here = inr (λ f. never (λ k h. f k (omega arith)))

each : {X : Type 0} (P : X → Type 0) (xs : List X) → ((x : X) → In xs x → Dec (P x)) → Dec ((x : X) → In xs x → P x)
each P [] dec = inl (λ x i. absurd i)
each {X = X} P (y ∷ ys) dec = by (dec y (inl refl)) (each P ys (λ x i. dec x (inr i)))
  where
    at : P y → ((x : X) → In ys x → P x) → (x : X) → In (y ∷ ys) x → P x
    at here all x (inl same) = subst P same here
    at here all x (inr i) = all x i

    by : Dec (P y) → Dec ((x : X) → In ys x → P x) → Dec ((x : X) → In (y ∷ ys) x → P x)
    by (inl here) (inl all) = inl (at here all)
    by (inl here) (inr never) = inr (λ f. never (λ x i. f x (inr i)))
    by (inr never) all = inr (λ f. never (f y (inl refl)))

some : {X : Type 0} (P : X → Type 0) (xs : List X) → ((x : X) → In xs x → Dec (P x)) → Dec ((x : X) × In xs x × P x)
some P [] dec = inr (λ s. s.1)
some {X = X} P (y ∷ ys) dec = by (dec y (inl refl)) (some P ys (λ x i. dec x (inr i)))
  where
    never_here : ¬ P y → ¬ ((x : X) × In ys x × P x) → (x : X) → In (y ∷ ys) x → P x → ⊥
    never_here no_y no_ys x (inl same) p = no_y (subst P (sym same) p)
    never_here no_y no_ys x (inr i) p = no_ys (x, i, p)

    by : Dec (P y) → Dec ((x : X) × In ys x × P x) → Dec ((x : X) × In (y ∷ ys) x × P x)
    by (inl here) rest = inl (y, inl refl, here)
    by (inr no_y) (inl s) = inl (s.0, inr s.1, s.2)
    by (inr no_y) (inr no_ys) = inr (λ s. never_here no_y no_ys s.0 s.1 s.2)

numbers : (xs ys : List ℕ) → Dec (xs ≡ ys)
numbers [] [] = inl refl
numbers [] (y ∷ ys) = inr (λ e. (let l = ap length e in omega arith))
numbers (x ∷ xs) [] = inr (λ e. (let l = ap length e in omega arith))
numbers (x ∷ xs) (y ∷ ys) = by (cases_eq x y) (numbers xs ys)
  where
    by : (x ≡ y) ⊎ (x ≢ y) → Dec (xs ≡ ys) → Dec (x ∷ xs ≡ y ∷ ys)
    by (inl same) (inl rest) = inl (cc)
    by (inl same) (inr never) = inr (λ e. never (cc))
    by (inr never) rest = inr (λ e. never (cc))

routes : (r s : Route) → Dec (r ≡ s)
routes (Bgp lp path comms) (Bgp lp' path' comms') = by (cases_eq lp lp') (numbers path path') (numbers comms comms')
  where
    by : (lp ≡ lp') ⊎ (lp ≢ lp') → Dec (path ≡ path') → Dec (comms ≡ comms') → Dec (Bgp lp path comms ≡ Bgp lp' path' comms')
    by (inl a) (inl b) (inl c) = inl (cc)
    by (inl a) (inl b) (inr never) = inr (λ e. never (cc))
    by (inl a) (inr never) c = inr (λ e. never (cc))
    by (inr never) b c = inr (λ e. never (cc))
routes (Bgp lp path comms) (Ospf cost) = inr (λ e. cc)
routes (Ospf cost) (Bgp lp path comms) = inr (λ e. cc)
routes (Ospf cost) (Ospf other) = elim (cases_eq cost other) [ inl same ↦ inl (ap Ospf same) | inr never ↦ inr (λ e. never (cc)) ]

starts : (a b : Option Route) → Dec (a ≡ b)
starts None None = inl refl
starts None (Some s) = inr (λ e. cc)
starts (Some r) None = inr (λ e. cc)
starts (Some r) (Some s) = elim (routes r s) [ inl same ↦ inl (ap Some same) | inr never ↦ inr (λ e. never (cc)) ]

module _ (S : Problem) (good : IsProblem S) where
  acts : (e f : Edge) → In S.edges e → In S.edges f → Dec (ActsAlike (act_of S e) (act_of S f))
  acts e f i j = elim (cases_eq e.act f.act) [
    | inl same ↦ inl (subst (λ k. ActsAlike (act_of S e) (slice_index_or S.acts k (Cost 0))) same (alike_self (act_of S e)))
    | inr never ↦ inr (λ alike. never (good.acts.differ e.act f.act (good.edges.inside e (contains_in S.edges e i)).act_in
        (good.edges.inside f (contains_in S.edges f j)).act_in alike))
  ]

  module _ (groups : List ℕ) where
    abbrev IsTwin : ℕ → Edge → Edge → Type 0
    IsTwin v edge other = (other.importer ≡ v) × (group_of groups other.exporter ≡ group_of groups edge.exporter) × ActsAlike (act_of S edge) (act_of S other)

    is_twin : (v : ℕ) (edge other : Edge) → In S.edges edge → In S.edges other → Dec (IsTwin v edge other)
    is_twin v edge other i j = by (cases_eq other.importer v) (cases_eq (group_of groups other.exporter) (group_of groups edge.exporter)) (acts edge other i j)
      where
        by : Dec (other.importer ≡ v) → Dec (group_of groups other.exporter ≡ group_of groups edge.exporter) →
            Dec (ActsAlike (act_of S edge) (act_of S other)) → Dec (IsTwin v edge other)
        by (inl a) (inl b) (inl c) = inl (a, b, c)
        by (inl a) (inl b) (inr never) = inr (λ t. never t.2)
        by (inl a) (inr never) c = inr (λ t. never t.1)
        by (inr never) b c = inr (λ t. never t.0)

    twin : (v : ℕ) (edge : Edge) → In S.edges edge → Dec (Twin S groups v edge)
    twin v edge i = elim (some (IsTwin v edge) S.edges (λ other j. is_twin v edge other i j)) [
      | inl s ↦ inl (record { other = s.0; other_in = contains_in S.edges s.0 s.1; importer = s.2.0; exporter = s.2.1; alike = s.2.2 })
      | inr never ↦ inr (λ t. never (t.other, in_contains S.edges t.other t.other_in, (t.importer, t.exporter, t.alike)))
    ]

    differs : (a b : ℕ) → Dec (a ≢ b)
    differs a b = elim (cases_eq a b) [ inl same ↦ inr (λ never. never same) | inr differ ↦ inl differ ]

    abbrev Mirrors : ℕ → ℕ → Edge → Type 0
    Mirrors u v edge = edge.importer ≡ u → group_of groups edge.exporter ≢ group_of groups u → Twin S groups v edge

    mirrors : (u v : ℕ) (edge : Edge) → In S.edges edge → Dec (Mirrors u v edge)
    mirrors u v edge i = implied (cases_eq edge.importer u)
        (λ imp. implied (differs (group_of groups edge.exporter) (group_of groups u)) (λ out. twin v edge i))

    -- members of one group are alike
    record Alike (u v : ℕ) : Type 0 where
      origin : initial S u ≡ initial S v
      alone : is_lone S u ≡ true → u ≡ v
      twins : (edge : Edge) → In S.edges edge → Mirrors u v edge

    alone : (u v : ℕ) → Dec (is_lone S u ≡ true → u ≡ v)
    alone u v = elim (cases_Bool (is_lone S u)) [ inl t ↦ implied (inl t) (λ l. cases_eq u v) | inr f ↦ inl (λ t. absurd (cc)) ]

    alike : (u v : ℕ) → Dec (Alike u v)
    alike u v = by (starts (initial S u) (initial S v)) (alone u v) (each (Mirrors u v) S.edges (mirrors u v))
      where
        by : Dec (initial S u ≡ initial S v) → Dec (is_lone S u ≡ true → u ≡ v) → Dec ((edge : Edge) → In S.edges edge → Mirrors u v edge) → Dec (Alike u v)
        by (inl a) (inl b) (inl c) = inl (record { origin = a; alone = b; twins = c })
        by (inl a) (inl b) (inr never) = inr (λ t. never t.twins)
        by (inl a) (inr never) c = inr (λ t. never t.alone)
        by (inr never) b c = inr (λ t. never t.origin)

    abbrev Pair : ℕ → ℕ → Type 0
    Pair u v = group_of groups u ≡ group_of groups v → Alike u v

    pairs : Dec ((u : ℕ) → u < count S → (v : ℕ) → v < count S → Pair u v)
    pairs = below (λ u. (v : ℕ) → v < count S → Pair u v) (count S)
        (λ u. below (Pair u) (count S) (λ v. implied (cases_eq (group_of groups u) (group_of groups v)) (λ same. alike u v)))

    from_pairs : length groups ≡ count S → ((u : ℕ) → u < count S → (v : ℕ) → v < count S → Pair u v) → IsAdmissible S groups
    from_pairs total all = record {
      total = total;
      origins = λ u v hu hv same. (all u hu v hv same).origin;
      alone = λ u v hu hv same lone. (all u hu v hv same).alone lone;
      twins = λ u v edge hu hv same i imp out. (all u hu v hv same).twins edge (in_contains S.edges edge i) imp out;
    }

    to_pairs : IsAdmissible S groups → (u : ℕ) → u < count S → (v : ℕ) → v < count S → Pair u v
    to_pairs adm u hu v hv same = record {
      origin = adm.origins u v hu hv same;
      alone = adm.alone u v hu hv same;
      twins =
          λ edge i imp out. adm.twins u v edge hu hv same (contains_in S.edges edge i) imp out;
    }

    pub admissible : Dec (IsAdmissible S groups)
    admissible = by (cases_eq (length groups) (count S)) pairs
      where
        by : Dec (length groups ≡ count S) → Dec ((u : ℕ) → u < count S → (v : ℕ) → v < count S → Pair u v) → Dec (IsAdmissible S groups)
        by (inl total) (inl all) = inl (from_pairs total all)
        by (inl total) (inr never) = inr (λ adm. never (to_pairs adm))
        by (inr never) all = inr (λ adm. never adm.total)
