use Rattle.problem_tests.proofs.groups.split_ring_uncounted.Given as goal

abbrev pub ghosts-split_ring : goal.ghosts-split_ring
ghosts-split_ring a = record { name = a.blank.name; parts = a.blank.parts }
