-- Mirroring from router to router and from partition to partition, and the join of admissible partitions.
use Rattle.std.proofs.Common.{◌≡◌, ℕ, ◌<◌, List, [], ◌∷◌, slice_index_or, All, refl, sym, ◌∙◌, ap, subst, arith, inl, inr}
use Rattle.std.specs.Prelude.{slice_index}
use Rattle.std.proofs.lemmas.Grind.{common_steps}
use Rattle.base_kit.specs.declared.act_graph.Edge.{Edge}
use Rattle.base_kit.specs.declared.act_graph.ActGraph.{ActGraph}
use Rattle.base_kit.specs.Partition.{color, HasTwinIfOutgoing, IsMirroredAt, IsAdmissibleOn, Refines}
use Rattle.base_kit.specs.Join.{IsChain, IsJoinByChains}

pub mirrored_refl : (edges : List Edge) (groups : List ℕ) (u : ℕ) → IsMirroredAt edges groups u u
unfolding IsMirroredAt
mirrored_refl edges groups u k d inside =
    record { twin = λ imports leaves. (k, slice_index_or edges k d, inside, grind (arith, common_steps), (imports, refl, refl)) }

-- a twin of a twin is a twin
twin_trans : (edges : List Edge) (groups : List ℕ) (u v w : ℕ) → slice_index groups u ≡ slice_index groups v → IsMirroredAt edges groups v w → (edge : Edge) →
    HasTwinIfOutgoing edges groups u v edge → HasTwinIfOutgoing edges groups u w edge
unfolding IsMirroredAt
twin_trans edges groups u v w same second edge first = record {
  twin = λ imports leaves.
      let (k, other, inside, at, (importer, act, into)) = first.twin imports leaves in
      let mirrored = rw at at (second k other inside) in
      let (k', other', inside', at', (importer', act', into')) = mirrored.twin importer (λ e. leaves (sym into ∙ e ∙ sym same)) in
      (k', other', inside', at', (importer', act' ∙ act, into' ∙ into));
}

pub mirrored_trans : (edges : List Edge) (groups : List ℕ) (u v w : ℕ) → slice_index groups u ≡ slice_index groups v → IsMirroredAt edges groups u v →
    IsMirroredAt edges groups v w → IsMirroredAt edges groups u w
unfolding IsMirroredAt
mirrored_trans edges groups u v w same first second k d inside = twin_trans edges groups u v w same second _ (first k d inside)

-- what is mirrored in a partition is mirrored in a coarser one
pub mirrored_coarser : (edges : List Edge) (finer coarser : List ℕ) (count u v : ℕ) → All (λ e. e.exporter < count) edges → Refines count finer coarser →
    u < count → IsMirroredAt edges finer u v → IsMirroredAt edges coarser u v
unfolding IsMirroredAt
mirrored_coarser edges finer coarser count u v exporters refines hu mirrored k d inside = record {
  twin = λ imports leaves.
      let exporter = exporters k d inside in
      let (j, other, within, at, (importer, act, into)) = (mirrored k d inside).twin imports (λ e. leaves (refines _ u exporter hu e)) in
      let exporter' = rw at at (exporters j other within) in
      (j, other, within, at, (importer, act, refines _ _ exporter' exporter into));
}

-- along a chain colors are equal
chain_colors : (graph : ActGraph) (first second : List ℕ) → IsAdmissibleOn graph first → IsAdmissibleOn graph second → (chain : List ℕ) (u w : ℕ) →
    u < graph.count → IsChain graph.count first second u chain w → color graph u ≡ color graph w
chain_colors graph first second a b [] u w hu e = ap (color graph) e
chain_colors graph first second a b (v ∷ vs) u w hu (hv, step, rest) =
    elim step [ inl same ↦ a.colors u v hu hv same | inr same ↦ b.colors u v hu hv same ] ∙ chain_colors graph first second a b vs v w hv rest

-- along a chain edges are mirrored in the join
chain_mirrors : (graph : ActGraph) (first second join : List ℕ) → IsAdmissibleOn graph first → IsAdmissibleOn graph second →
    IsJoinByChains graph.count first second join → (chain : List ℕ) (u w : ℕ) → u < graph.count → IsChain graph.count first second u chain w →
    IsMirroredAt graph.edges join u w
chain_mirrors graph first second join a b joined [] u w hu e = subst (IsMirroredAt graph.edges join u) e (mirrored_refl graph.edges join u)
chain_mirrors graph first second join a b joined (v ∷ vs) u w hu (hv, step, rest) =
    let later = chain_mirrors graph first second join a b joined vs v w hv rest in
    elim step [
      | inl same ↦ mirrored_trans graph.edges join u v w (joined.first_refines u v hu hv same)
          (mirrored_coarser graph.edges first join graph.count u v graph.exporters_in_range joined.first_refines hu (a.edges u v hu hv same)) later
      | inr same ↦ mirrored_trans graph.edges join u v w (joined.second_refines u v hu hv same)
          (mirrored_coarser graph.edges second join graph.count u v graph.exporters_in_range joined.second_refines hu (b.edges u v hu hv same)) later
    ]

pub join_admissible : (graph : ActGraph) (first second join : List ℕ) → IsAdmissibleOn graph first → IsAdmissibleOn graph second →
    IsJoinByChains graph.count first second join → IsAdmissibleOn graph join
join_admissible graph first second join a b joined = record {
  total = joined.total;
  colors = λ u w hu hw same. let (chain, is) = joined.chained u w hu hw same in chain_colors graph first second a b chain u w hu is;
  edges = λ u w hu hw same. let (chain, is) = joined.chained u w hu hw same in chain_mirrors graph first second join a b joined chain u w hu is;
}
