-- The steps of a list of edges, one by one, and in which bounds they lie.
use Rattle.std.proofs.Common.{◌≡◌, ℕ, zero, suc, ◌<◌, List, [], ◌∷◌, length, get_or, Some, refl, sym, arith}
use Rattle.std.specs.Prelude.{All, slice_get, slice_index}
use Rattle.std.proofs.lemmas.List.Elements.{All-contains}
use Rattle.base_kit.specs.declared.act_graph.Edge.{Edge}
use Rattle.base_kit.specs.Partition.{IsNumbered}
use Rattle.abstract_net.specs.declared.steps.Step.{Step}
use Rattle.abstract_net.specs.Early.{IsStep}
use Rattle.abstract_net.specs.GroupSteps.{step_of, step_between, step_at}
use Rattle.abstract_net.proofs.Carried.{get_some, at_place}
use Rattle.abstract_net.proofs.Places.{is_step}

pub get_any : {X : Type 0} (xs : List X) (k : ℕ) (d : X) → k < length xs → slice_get xs k ≡ Some (get_or xs k d)
get_any [] k d h = absurd (omega arith)
get_any (y ∷ ys) zero d h = refl
get_any (y ∷ ys) (suc k) d h = get_any ys k d (omega arith)

pub step_is : (es : List Edge) (groups : List ℕ) (k : ℕ) (e : Edge) → slice_get es k ≡ Some e → step_of groups k e ≡ step_at es groups k
step_is es groups k e at = let p = at_place es groups k e at in sym (λ i. step_between (p.importer i) (p.exporter i) (p.does i) (p.link i) k)

-- the groups of the step are below the count
pub record IsWithin (count : ℕ) (x : Step) : Type 0 where
  pub low : x.low < count
  pub high : x.high < count

module _ (es : List Edge) (groups : List ℕ) (count : ℕ) (numbered : IsNumbered groups count) (importers : All (λ (e : Edge). e.importer < length groups) es)
    (exporters : All (λ (e : Edge). e.exporter < length groups) es) where
  below : (u : ℕ) → u < length groups → slice_index groups u < count
  below u h = numbered.below u 0 h

  pub within : (x : Step) → IsStep es groups x → IsWithin count x
  within x k =
      let e = get_some es k.0 k.1 in
      let p = at_place es groups k.0 e.0 e.1 in
      let s = is_step es groups k.0 x k.2 in
      let importer = below e.0.importer (All-contains (λ (y : Edge). y.importer < length groups) es e.0 importers p.has) in
      let exporter = below e.0.exporter (All-contains (λ (y : Edge). y.exporter < length groups) es e.0 exporters p.has) in
      let i = p.importer in let x' = p.exporter in
      let low = s.low in let high = s.high in
      record { low = omega arith; high = omega arith }
