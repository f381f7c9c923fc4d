-- Functions of sets that depend on the communities of a universe alone.
use Rattle.std.specs.Prelude.{◌≡◌, ℕ, Bool, true, List}
use Rattle.std.specs.List.{AllByRecursion}
use Rattle.base_kit.specs.Sets.{has}
use Rattle.canon_policy.specs.Fixings.{Part, Asked}
use Rattle.canon_policy.specs.Fixings.Part.{number, community}

-- both sets have the same communities of the universe
pub record SameOn (universe a b : List ℕ) : Type 0 where
  pub same : (c : ℕ) → has universe c ≡ true → has a c ≡ has b c

-- a test, or a number, is the same for such sets
pub record TestHangsOn (universe : List ℕ) (test : List ℕ → Bool) : Type 0 where
  pub same : (a b : List ℕ) → SameOn universe a b → test a ≡ test b

pub record NumberHangsOn (universe : List ℕ) (part : List ℕ → ℕ) : Type 0 where
  pub same : (a b : List ℕ) → SameOn universe a b → part a ≡ part b

abbrev pub PartHangsOn : List ℕ → Part → Type 0
PartHangsOn universe (number part) = NumberHangsOn universe part
PartHangsOn universe (community c test) = TestHangsOn universe test

abbrev pub PartsHangOn : List ℕ → List Part → Type 0
PartsHangOn universe parts = AllByRecursion (PartHangsOn universe) parts

pub record AskedHangsOn (universe : List ℕ) (asked : Asked) : Type 0 where
  pub accepted : TestHangsOn universe asked.accepted
  pub kept : TestHangsOn universe asked.kept
  pub parts : PartsHangOn universe asked.parts
