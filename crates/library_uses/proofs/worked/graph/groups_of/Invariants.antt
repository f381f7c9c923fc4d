-- The counter is for the ledger that its blank opens.
use Rattle.library_uses.proofs.worked.graph.groups_of.Given as goal

abbrev pub ghosts-counted : goal.ghosts-counted
ghosts-counted a = record { name = a.blank.name; parts = a.blank.parts }
