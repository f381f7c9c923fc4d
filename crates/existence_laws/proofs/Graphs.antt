-- Each problem has a graph: colors are the places of starts in a list of different ones.
use Rattle.std.proofs.Common.{◌≡◌, ◌⊎◌, inl, inr, ℕ, zero, suc, ◌+◌, ◌<◌, List, [], ◌∷◌, ◌++◌, length, slice_get, Some, refl, sym, ap, ◌∙◌, arith, length-append}
use Rattle.std.specs.Prelude.{slice_index, slice_index_or}
use Rattle.std.proofs.lemmas.Bool.{cases_eq}
use Rattle.base_kit.specs.declared.act_graph.Edge.{Edge}
use Rattle.base_kit.specs.declared.act_graph.ActGraph.{ActGraph}
use Rattle.base_kit.proofs.Elements.{contains_in, In}
use Rattle.distinct_values.specs.Distinct.{AreDistinct}
use Rattle.srp_core.specs.declared.starts.Start.{Start}
use Rattle.srp_core.specs.declared.starts.Start.TheVariants.{Alone, Silent, Preference, Cost}
use Rattle.srp_core.specs.Problem.{Problem, count}
use Rattle.srp_core.specs.Starts.{start, AreColors}
use Rattle.srp_core.proofs.Colors.{graph_of, placed_more}
use Rattle.existence_laws.specs.Laws.{EachProblemHasGraph}

-- ---- starts can be told apart

number_in : Start → ℕ
number_in (Alone n) = n
number_in Silent = 0
number_in (Preference n) = n
number_in (Cost n) = n

IsSame : Start → Start → Type 0
IsSame a b = (a ≡ b) ⊎ (a ≡ b → ⊥)

by_number : (make : ℕ → Start) → ((n : ℕ) → number_in (make n) ≡ n) → (a b : ℕ) → IsSame (make a) (make b)
unfolding IsSame
by_number make read a b = elim (cases_eq a b) [
  | inl same ↦ inl (ap make same)
  | inr other ↦ inr (λ e. other (sym (read a) ∙ ap number_in e ∙ read b))
]

dec_start : (a b : Start) → IsSame a b
unfolding IsSame number_in
dec_start (Alone a) (Alone b) = by_number Alone (λ n. refl) a b
dec_start (Alone a) Silent = inr (λ e. cc)
dec_start (Alone a) (Preference b) = inr (λ e. cc)
dec_start (Alone a) (Cost b) = inr (λ e. cc)
dec_start Silent (Alone b) = inr (λ e. cc)
dec_start Silent Silent = inl refl
dec_start Silent (Preference b) = inr (λ e. cc)
dec_start Silent (Cost b) = inr (λ e. cc)
dec_start (Preference a) (Alone b) = inr (λ e. cc)
dec_start (Preference a) Silent = inr (λ e. cc)
dec_start (Preference a) (Preference b) = by_number Preference (λ n. refl) a b
dec_start (Preference a) (Cost b) = inr (λ e. cc)
dec_start (Cost a) (Alone b) = inr (λ e. cc)
dec_start (Cost a) Silent = inr (λ e. cc)
dec_start (Cost a) (Preference b) = inr (λ e. cc)
dec_start (Cost a) (Cost b) = by_number Cost (λ n. refl) a b

-- ---- different starts

find_start : (starts : List Start) (s : Start) → ((k : ℕ) × (slice_get starts k ≡ Some s)) ⊎ ((k : ℕ) → slice_get starts k ≡ Some s → ⊥)
unfolding IsSame
find_start [] s = inr (λ k at. cc)
find_start (x ∷ xs) s = elim (dec_start x s) [
  | inl same ↦ inl (0, ap Some same)
  | inr other ↦ elim (find_start xs s) [
    | inl found ↦ inl (suc found.0, found.1)
    | inr none ↦ inr (λ k at. nowhere other none k at)
  ]
]
  where
    nowhere : (x ≡ s → ⊥) → ((k : ℕ) → slice_get xs k ≡ Some s → ⊥) → (k : ℕ) → slice_get (x ∷ xs) k ≡ Some s → ⊥
    nowhere other none zero at = other (let same : x ≡ s = cc in same)
    nowhere other none (suc k) at = none k at

last_or : (xs : List Start) (x : Start) (k : ℕ) (y : Start) → slice_get (xs ++ x ∷ []) k ≡ Some y → (slice_get xs k ≡ Some y) ⊎ ((k ≡ length xs) × (x ≡ y))
last_or [] x zero y at = inr (refl, (let same : x ≡ y = cc in same))
last_or [] x (suc k) y at = absurd cc
last_or (z ∷ zs) x zero y at = inl at
last_or (z ∷ zs) x (suc k) y at = elim (last_or zs x k y at) [
  | inl front ↦ inl front
  | inr last ↦ inr (ap suc last.0, last.1)
]

distinct_more : (xs : List Start) (x : Start) → AreDistinct xs → ((k : ℕ) → slice_get xs k ≡ Some x → ⊥) → AreDistinct (xs ++ x ∷ [])
distinct_more xs x are none = record {
  one_place = λ i j y at at'. (elim (last_or xs x i y at) [
    | inl a ↦ elim (last_or xs x j y at') [
      | inl b ↦ are.one_place i j y a b
      | inr b ↦ absurd (none i (a ∙ ap Some (sym b.1)))
    ]
    | inr a ↦ elim (last_or xs x j y at') [
      | inl b ↦ absurd (none j (b ∙ ap Some (sym a.1)))
      | inr b ↦ a.0 ∙ sym b.0
    ]
  ]);
}

get_end : (xs : List Start) (x : Start) → slice_get (xs ++ x ∷ []) (length xs) ≡ Some x
get_end [] x = refl
get_end (y ∷ ys) x = get_end ys x

-- ---- the colors of the first routers

module _ (P : Problem) where
  record Colored (n : ℕ) : Type 0 where
    starts : List Start
    colors : List ℕ
    total : length colors ≡ n
    distinct : AreDistinct starts
    placed : (u : ℕ) → u < n → slice_get starts (slice_index colors u) ≡ Some (start P u)

  pushed_total : (colors : List ℕ) (color n : ℕ) → length colors ≡ n → length (colors ++ color ∷ []) ≡ n + 1
  pushed_total colors color n total = (let e = length-append colors (color ∷ []) in omega arith)

  colored : (n : ℕ) → Colored n
  colored zero = record {
    starts = [];
    colors = [];
    total = refl;
    distinct = record { one_place = λ i j s at at'. absurd cc };
    placed = λ u h. absurd (omega arith);
  }
  colored (suc n) =
      let c = colored n in
      elim (find_start c.starts (start P n)) [
        | inl found ↦ record {
          starts = c.starts;
          colors = c.colors ++ found.0 ∷ [];
          total = (let e = pushed_total c.colors found.0 n c.total in omega arith);
          distinct = c.distinct;
          placed = λ u h. placed_more P c.starts c.starts (start P n) c.colors (c.colors ++ found.0 ∷ []) n found.0 (inl refl) c.total refl found.1 refl
              c.placed u (omega arith);
        }
        | inr none ↦ record {
          starts = c.starts ++ start P n ∷ [];
          colors = c.colors ++ length c.starts ∷ [];
          total = (let e = pushed_total c.colors (length c.starts) n c.total in omega arith);
          distinct = distinct_more c.starts (start P n) c.distinct none;
          placed = λ u h. placed_more P c.starts (c.starts ++ start P n ∷ []) (start P n) c.colors (c.colors ++ length c.starts ∷ []) n (length c.starts)
              (inr refl) c.total refl
              (get_end c.starts (start P n)) refl c.placed u (omega arith);
        }
      ]

  colors_are : (c : Colored (count P)) → AreColors P c.colors
  colors_are c = record { total = c.total; starts = c.starts; distinct = c.distinct; placed = c.placed }

item_in : (edges : List Edge) (k : ℕ) (d : Edge) → k < length edges → In edges (slice_index_or edges k d)
item_in [] k d h = absurd (omega arith)
item_in (e ∷ es) zero d h = inl refl
item_in (e ∷ es) (suc k) d h = inr (item_in es k d (omega arith))

pub each_problem_has_graph : EachProblemHasGraph
each_problem_has_graph P rules =
    let c = colored P (count P) in
    let graph : ActGraph = record {
      count = count P;
      colors = c.colors;
      edges = P.edges;
      one_color_each = c.total;
      few_edges = rules.tables.few_edges;
      importers_in_range = λ k d inside. (rules.edges.inside (slice_index_or P.edges k d)
          (contains_in P.edges (slice_index_or P.edges k d) (item_in P.edges k d inside))).importer_in;
      exporters_in_range = λ k d inside. (rules.edges.inside (slice_index_or P.edges k d)
          (contains_in P.edges (slice_index_or P.edges k d) (item_in P.edges k d inside))).exporter_in;
    } in
    record { graph = graph; is = graph_of P rules c.colors (colors_are P c) graph refl refl refl }
