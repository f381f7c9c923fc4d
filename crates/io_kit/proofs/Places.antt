-- The place of a file.
use Rattle.std.proofs.Common.{◌≡◌, true, ℕ, zero, suc, ◌+◌, ◌-◌, ◌<◌, List, [], ◌∷◌, ◌++◌, length, get_or, take, drop, sym, ◌∙◌, ap, arith, length-drop, Some}
use Rattle.std.proofs.lemmas.List.{take_all, drop-drop}
use Rattle.std.specs.Str.{bytes_eq}
use Rattle.io_kit.specs.declared.files.MemFile.{MemFile}
use Rattle.io_kit.specs.Files.{contents_of, bytes_of}

pub contents_at : (files : List MemFile) (name : List ℕ) (i : ℕ) (d : MemFile) → i < length files → bytes_eq (get_or files i d).name name ≡ true →
    contents_of (drop i files) name ≡ Some (bytes_of files (Some i))
contents_at [] name i d below same = absurd (omega arith)
contents_at (f ∷ files) name zero d below same = rw same
contents_at (f ∷ files) name (suc i) d below same = contents_at files name i d (omega arith) same

-- a part moved from the rest of a file leaves the rest behind it
pub moved_part : (bytes piece : List ℕ) (at n : ℕ) → let left = take (length bytes - at) (drop at bytes) in left ≡ piece ++ drop n left → drop at bytes ≡ piece
    ++ drop (at + n) bytes
moved_part bytes piece at n moved =
    let whole : take (length bytes - at) (drop at bytes) ≡ drop at bytes = take_all _ _ (omega (arith, length-drop at bytes)) in
    sym whole ∙ moved ∙ ap (λ (l : List ℕ). piece ++ drop n l) whole ∙ ap (λ (l : List ℕ). piece ++ l) (drop-drop n at bytes)
