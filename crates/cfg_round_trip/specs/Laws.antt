-- What is read back of what is printed.
use Rattle.std.specs.Prelude.{◌≡◌, ◌≤◌, ◌==◌, List, length, map, filter, Ok}
use Rattle.std.specs.List.{AllByRecursion}
use Rattle.cfg_ast.specs.declared.network.Network.{Network}
use Rattle.cfg_ast.specs.declared.network.Notes.{Notes}
use Rattle.cfg_ast.specs.text.TextLines.{TextLine}
use Rattle.cfg_ast.specs.text.Reading.{network_of_lines, network_of_text, IsGiven}
use Rattle.cfg_ast.specs.printing.Printed.{line_text, printed_lines, printed}
use Rattle.cfg_ast.specs.printing.Bare.{bare, bare_line}
use Rattle.cfg_ast.specs.printing.WellFormed.{IsWellFormed}
use Rattle.cfg_round_trip.specs.Notes.{AreNotes}
use Rattle.cfg_round_trip.specs.ShortMaps.{HasShortMaps}

-- Lines that are the same except for their numbers give networks that are the same except for line
-- numbers.
abbrev pub NumbersAreAside : Type 0
NumbersAreAside = (ls ms : List TextLine) → map bare_line ls ≡ map bare_line ms → (n : Network) → network_of_lines ls ≡ Ok n →
    (m : Network) × (network_of_lines ms ≡ Ok m) × (bare m ≡ bare n)

-- a text of at most 1,000,000 lines
abbrev pub HasFewLines : Network → Notes → Type 0
HasFewLines network notes = length (filter (λ b. b == 10) (printed network notes)) ≤ 1000000

-- of at most 1,024 bytes each, without the newline
abbrev pub HasShortLines : Network → Notes → Type 0
HasShortLines network notes = AllByRecursion (λ (l : TextLine). length (line_text l) ≤ 1025) (printed_lines network notes)

-- the printed text is read as the network, except for line numbers
pub record IsReadBack (network : Network) (notes : Notes) : Type 0 where
  pub read : Network
  pub reads : network_of_text (printed network notes) ≡ Ok read
  pub same : bare read ≡ bare network

-- What is printed of a well-formed network is read back, if the text keeps the limits of a text that is
-- read.
abbrev pub PrintedIsReadBack : Type 0
PrintedIsReadBack = (network : Network) (notes : Notes) → IsWellFormed network → AreNotes network notes → HasFewLines network notes →
    HasShortLines network notes → IsReadBack network notes

-- The printed lines of a well-formed network are short if the match lines of its route maps are.
abbrev pub ShortNamesGiveShortLines : Type 0
ShortNamesGiveShortLines = (network : Network) (notes : Notes) → IsWellFormed network → AllByRecursion HasShortMaps network.routers → AreNotes network notes →
    HasShortLines network notes

-- The lines that are printed of a network that some text gives are short.
abbrev pub GivenLinesAreShort : Type 0
GivenLinesAreShort = (network : Network) (notes : Notes) → ∥ IsGiven network ∥₁ → AreNotes network notes → HasShortLines network notes

-- What is printed of a network that some text gives is read back, if it has no more lines than a text
-- that is read.
abbrev pub GivenIsReadBack : Type 0
GivenIsReadBack = (network : Network) (notes : Notes) → ∥ IsGiven network ∥₁ → AreNotes network notes → HasFewLines network notes → IsReadBack network notes
