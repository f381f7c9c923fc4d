-- Edges of problems that are alike are the same if their acts have the same numbers.
use Rattle.std.proofs.Common.{◌≡◌, ℕ, zero, suc, List, [], ◌∷◌, map, length, Some, refl, subst, arith}
use Rattle.std.specs.Prelude.{slice_get}
use Rattle.base_kit.specs.declared.act_graph.Edge.{Edge}
use Rattle.srp_core.specs.Alike.{EdgesAlike, AllEdgesAlike}
use Rattle.srp_core.specs.Problem.{Problem}

abbrev pub edge_act : Edge → ℕ
edge_act e = e.act

abbrev edge_made : ℕ → ℕ → ℕ → ℕ → Edge
edge_made importer exporter act link = record { importer = importer; exporter = exporter; act = act; link = link }

module _ (P Q : Problem) where
  pub same_length : (xs ys : List Edge) → AllEdgesAlike P Q xs ys → length xs ≡ length ys
  same_length [] [] same = refl
  same_length [] (y ∷ ys) same = absurd same
  same_length (x ∷ xs) [] same = absurd same
  same_length (x ∷ xs) (y ∷ ys) same = let r = same_length xs ys same.1 in omega arith

  -- the edge at the same place of the other list
  pub same_at : (xs ys : List Edge) (k : ℕ) (x : Edge) → AllEdgesAlike P Q xs ys → slice_get xs k ≡ Some x → (y : Edge) × (slice_get ys k ≡ Some y)
      × EdgesAlike P Q x y
  same_at [] ys k x same at = absurd cc
  same_at (z ∷ xs) [] k x same at = absurd same
  same_at (z ∷ xs) (y ∷ ys) zero x same at = (y, refl, subst (λ (e : Edge). EdgesAlike P Q e y) (let here : z ≡ x = cc in here) same.0)
  same_at (z ∷ xs) (y ∷ ys) (suc k) x same at = same_at xs ys k x same.1 at

  one_edge : (x y : Edge) → EdgesAlike P Q x y → x.act ≡ y.act → x ≡ y
  one_edge x y same act = λ j. edge_made (same.importer j) (same.exporter j) (act j) (same.link j)

  pub one_list : (xs ys : List Edge) → AllEdgesAlike P Q xs ys → map edge_act xs ≡ map edge_act ys → xs ≡ ys
  one_list [] [] same acts = refl
  one_list [] (y ∷ ys) same acts = absurd same
  one_list (x ∷ xs) [] same acts = absurd same
  one_list (x ∷ xs) (y ∷ ys) same acts =
      let first : x.act ≡ y.act = cc in
      let rest : map edge_act xs ≡ map edge_act ys = cc in
      (λ j. one_edge x y same.0 first j ∷ one_list xs ys same.1 rest j)
