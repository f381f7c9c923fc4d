-- The words that a person types for each command, over a file, the number of a class and a second file.
use Rattle.std.specs.Prelude.{ℕ, List, [], ◌∷◌, codes, decimal}

abbrev pub groups : List ℕ → ℕ → List (List ℕ)
groups file number = codes "groups" ∷ file ∷ decimal number ∷ []

abbrev pub compress : List ℕ → ℕ → List (List ℕ)
compress file number = codes "compress" ∷ file ∷ decimal number ∷ []

abbrev pub canon : List ℕ → ℕ → List (List ℕ)
canon file number = codes "canon" ∷ file ∷ decimal number ∷ []

abbrev pub certify : List ℕ → ℕ → List (List ℕ)
certify file number = codes "certify" ∷ file ∷ decimal number ∷ []

abbrev pub check : List ℕ → ℕ → List ℕ → List (List ℕ)
check file number solution = codes "check" ∷ file ∷ decimal number ∷ solution ∷ []

abbrev pub fold : List ℕ → ℕ → List ℕ → List (List ℕ)
fold file number solution = codes "fold" ∷ file ∷ decimal number ∷ solution ∷ []

abbrev pub lift : List ℕ → ℕ → List ℕ → List (List ℕ)
lift file number solution = codes "lift" ∷ file ∷ decimal number ∷ solution ∷ []

abbrev pub run : List ℕ → ℕ → List ℕ → List (List ℕ)
run file number schedule = codes "run" ∷ file ∷ decimal number ∷ schedule ∷ []

abbrev pub reach : List ℕ → ℕ → List ℕ → List (List ℕ)
reach file number solution = codes "reach" ∷ file ∷ decimal number ∷ solution ∷ []

abbrev pub verify : List ℕ → ℕ → List ℕ → List (List ℕ)
verify file number certificate = codes "verify" ∷ file ∷ decimal number ∷ certificate ∷ []
