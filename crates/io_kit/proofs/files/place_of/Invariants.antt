use Rattle.std.proofs.Common.{◌≡◌, drop}
use Rattle.io_kit.specs.Files.{contents_of}
use Rattle.io_kit.proofs.files.place_of.Given as goal

-- the file is among those that are left
abbrev pub invariant-loop-i : goal.invariant-loop-i
invariant-loop-i l = contents_of (drop l.i l.files) l.name ≡ contents_of l.files l.name
