-- For which graphs a text gives the same certificate, and when a text is refused as not admissible.
use Rattle.std.specs.Prelude.{◌≡◌, ℕ, ◌<◌, List, [], ◌∷◌, ◌++◌, length, map, Option, Ok, Err}
use Rattle.base_kit.specs.declared.act_graph.Edge.{Edge}
use Rattle.base_kit.specs.declared.act_graph.ActGraph.{ActGraph}
use Rattle.base_kit.specs.Partition.{color, IsAdmissibleOn}
use Rattle.cfg_ast.specs.text.Members.{all_lines_of}
use Rattle.cfg_ast.specs.text.TextLines.{TextLine, text_line}
use Rattle.cut_certificate.specs.declared.certificate.Certificate.{Certificate}
use Rattle.cut_certificate.specs.declared.refusal.CutKind.TheVariants.{NotAdmissible}
use Rattle.cut_certificate.specs.declared.refusal.CutRefusal.TheVariants.{At}
use Rattle.cut_certificate.specs.Blocks.{Blocks, first_blocks, groups_of}
use Rattle.cut_certificate.specs.Certificates.{AreAfter}
use Rattle.cut_certificate.specs.Texts.{Standing, opening, router_named, with_line, certificate_of, certificate_of_text}

-- routers that have one color in the first graph have one in the second
abbrev pub ColorsFollow : ActGraph → ActGraph → Type 0
ColorsFollow first second = (u v : ℕ) → u < first.count → v < first.count → color first u ≡ color first v → color second u ≡ color second v

-- graphs that differ only in the numbers of their colors
pub record AreSameButColors (first second : ActGraph) : Type 0 where
  pub count : first.count ≡ second.count
  pub edges : first.edges ≡ second.edges
  pub there : ColorsFollow first second
  pub back : ColorsFollow second first

-- In such graphs a text spells the same certificate, or has the same fault.
abbrev pub ColorsAreAside : Type 0
ColorsAreAside = (first second : ActGraph) → AreSameButColors first second → (names : List (List ℕ)) (bs : List ℕ)
    → certificate_of_text first names bs ≡ certificate_of_text second names bs

-- ---- certificates of groups that are not admissible

-- the splits can be made from the blocks of equal color on, and their blocks are the groups and are not admissible
pub record IsNotAdmissible (graph : ActGraph) (c : Certificate) : Type 0 where
  pub blocks : Blocks
  pub split : AreAfter graph (first_blocks graph) c.splits blocks
  pub groups : c.groups ≡ groups_of blocks.numbers
  pub not : IsAdmissibleOn graph blocks.numbers → ⊥

-- how far the lines bring a reading, each of which can follow those before it
abbrev pub AreLinesRead : List Edge → (List ℕ → Option ℕ) → List TextLine → Standing → Standing → Type 0
AreLinesRead edges routers [] s last = s ≡ last
AreLinesRead edges routers (l ∷ ls) s last = (next : Standing) × (with_line edges routers s l.words ≡ Ok next) × AreLinesRead edges routers ls next last

-- the lines before the one of that number spell a certificate, all of whose groups are named and which is not admissible
pub record IsNotAdmissibleAt (graph : ActGraph) (names : List (List ℕ)) (bs : List ℕ) (line : ℕ) : Type 0 where
  pub before : List TextLine
  pub at : TextLine
  pub behind : List TextLine
  pub lines : map (text_line bs) (all_lines_of bs) ≡ before ++ at ∷ behind
  pub number : at.number ≡ line
  pub reading : Standing
  pub read : AreLinesRead graph.edges (router_named names) before (opening graph) reading
  pub named : reading.named ≡ length (groups_of reading.blocks.numbers)
  pub not : IsNotAdmissible graph (certificate_of reading)

-- A text is refused as not admissible only if its groups are not admissible.
abbrev pub NotAdmissibleIsSo : Type 0
NotAdmissibleIsSo = (graph : ActGraph) (names : List (List ℕ)) (bs : List ℕ) (line : ℕ)
    → certificate_of_text graph names bs ≡ Err (At line NotAdmissible) → IsNotAdmissibleAt graph names bs line
