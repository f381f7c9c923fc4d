-- Certificates of the coarsest admissible partition that are accepted.
use Rattle.std.specs.Prelude.{◌≡◌, ℕ, ◌<◌, List, [], ◌∷◌, length, Ok}
use Rattle.base_kit.specs.declared.act_graph.ActGraph.{ActGraph}
use Rattle.base_kit.specs.Partition.{IsAdmissibleOn, IsCoarsestOn}
use Rattle.cut_certificate.specs.declared.certificate.Split.{Split}
use Rattle.cut_certificate.specs.declared.certificate.Certificate.{Certificate}
use Rattle.cut_certificate.specs.Blocks.{Blocks, first_blocks, groups_of, split_by}

-- the blocks after splits, each of which can be made when its turn comes
abbrev pub AreAfter : ActGraph → Blocks → List Split → Blocks → Type 0
AreAfter graph blocks [] last = blocks ≡ last
AreAfter graph blocks (split ∷ splits) last =
    (next : Blocks) × (split.edge < length graph.edges) × (split_by graph.edges blocks split ≡ Ok next) × AreAfter graph next splits last

-- the splits can be made from the blocks of equal color on, and their blocks are the groups and are admissible
pub record IsAccepted (graph : ActGraph) (c : Certificate) : Type 0 where
  pub blocks : Blocks
  pub split : AreAfter graph (first_blocks graph) c.splits blocks
  pub groups : c.groups ≡ groups_of blocks.numbers
  pub admissible : IsAdmissibleOn graph blocks.numbers

-- the groups of the coarsest admissible partition, each ascending, in the order of their least members
pub record AreCoarsest (graph : ActGraph) (groups : List (List ℕ)) : Type 0 where
  pub numbers : List ℕ
  pub coarsest : IsCoarsestOn graph numbers
  pub listed : groups ≡ groups_of numbers
