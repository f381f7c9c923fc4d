-- The class that is kept: what `compress` or `canon` writes has a class with the prefixes of the class that it was written
-- for, and in BGP no other one.
use Rattle.std.specs.Prelude.{◌≡◌, ℕ, List, Some}
use Rattle.base_kit.specs.declared.protocol.Protocol.TheVariants.{Bgp}
use Rattle.cfg_ast.specs.declared.classes.DestClass.{DestClass}
use Rattle.cfg_ast.specs.meaning.Classes.{classes_of}
use Rattle.cfg_ast.specs.meaning.RouterFaults.{protocol_of}
use Rattle.answer_kit.specs.ClassNumbers.{class_at}
use Rattle.workflow_laws.specs.Setting.{Contents, HasClass, HasPrefixesOf, IsShort, IsWritten}

-- the text is read as a network that has, under some number that the words may name, a class with the prefixes of this one
pub record HasClassOf (class : DestClass) (text : List ℕ) : Type 0 where
  pub number : ℕ
  pub short : IsShort number
  pub of_text : HasClass text number
  pub prefixes : HasPrefixesOf class of_text.class

-- the one text has a class of the number, and the other one keeps it: in BGP as its only class, so its number is 1
pub record KeepsClass (large small : List ℕ) (number : ℕ) : Type 0 where
  pub of_large : HasClass large number
  pub of_small : HasClassOf of_large.class small
  pub in_bgp : protocol_of of_large.network ≡ Some Bgp → (other : ℕ) (class : DestClass)
      → class_at (classes_of of_small.of_text.network) other ≡ Some class → other ≡ 1

-- What `compress F N` writes, and what `canon F N` writes, has a class with the prefixes of the class N of F.
abbrev pub ClassIsKept : Type 0
ClassIsKept = (contents : Contents) (F large small : List ℕ) (N : ℕ) → IsShort N → contents F ≡ Some large
    → IsWritten contents F N small → KeepsClass large small N
