-- Hashes of names.
use Rattle.std.specs.Prelude.{ℕ, List}
use Rattle.std.specs.Hash.DefaultHasher as sip
use Rattle.std.specs.Hash.FoldHasher as folding
use Rattle.numbered_names.specs.declared.hashing.NameHasher.{NameHasher}
use Rattle.numbered_names.specs.declared.hashing.NameHasher.TheVariants.{Plain, Keyed}

-- the state after a write
abbrev pub written : NameHasher → List ℕ → NameHasher
written (Plain h) bytes = Plain (folding.write h bytes)
written (Keyed h) bytes = Keyed (sip.write h bytes)

-- the hash
abbrev pub finished : NameHasher → ℕ
finished (Plain h) = folding.finish h
finished (Keyed h) = sip.finish h
