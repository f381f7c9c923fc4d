-- Steps that may be the first of their kinds by links.
use Rattle.std.specs.Prelude.{◌≡◌, ◌⊎◌, ℕ, ◌-◌, ◌<◌, ◌≤◌, true, List, [], ◌∷◌, ◌++◌, length, Option, Some, None, All, Contains, filter_map}
use Rattle.std.specs.List.{range_with_len}
use Rattle.base_kit.specs.declared.act_graph.Edge.{Edge}
use Rattle.by_key.specs.ByKey.{by_key}
use Rattle.abstract_net.specs.declared.steps.Step.{Step}
use Rattle.abstract_net.specs.Links.{link_bound}
use Rattle.abstract_net.specs.GroupSteps.{step_at, low_of, high_of, link_of, same_kind, first_kinds, none_met, first_steps, sorted_by}

-- one of the steps is of the kind of that step, on a link that is no higher
abbrev pub IsPreceded : List Step → Step → Type 0
IsPreceded steps step = (x : Step) × Contains steps x × (same_kind x step ≡ true) × (x.link ≤ step.link)

-- the step came last, if there is one, or was left out for one of its kind on a link that is no higher
abbrev pub PutsEarly : List Step → List Step → Option Step → Type 0
PutsEarly old new None = new ≡ old
PutsEarly old new (Some step) = (new ≡ old ++ step ∷ []) ⊎ ((new ≡ old) × IsPreceded old step)

-- the steps of the edges from a place on
abbrev pub steps_from : List Edge → List ℕ → ℕ → List Step
steps_from es groups place = filter_map (step_at es groups) (range_with_len place (length es - place))

-- the step of an edge
abbrev pub IsStep : List Edge → List ℕ → Step → Type 0
IsStep es groups step = (k : ℕ) × (k < length es) × (step_at es groups k ≡ Some step)

-- these steps, with those of the edges from a place on, have the first steps of each kind by links
pub record AreEarly (es : List Edge) (groups : List ℕ) (place : ℕ) (steps : List Step) : Type 0 where
  pub real : All (IsStep es groups) steps
  pub firsts : first_kinds none_met (by_key link_of (link_bound es) (steps ++ steps_from es groups place)) ≡ first_steps es groups

-- steps by the lower group, then the higher group, that have the first steps of each kind by links
pub record AreGroupSteps (es : List Edge) (groups : List ℕ) (steps : List Step) : Type 0 where
  pub early : List Step
  pub are : AreEarly es groups (length es) early
  pub sorted : steps ≡ sorted_by low_of (sorted_by high_of early)
