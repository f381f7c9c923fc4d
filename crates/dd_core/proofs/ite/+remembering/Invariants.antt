use Rattle.std.proofs.Common.{◌+◌, ◌*◌}
use Rattle.dd_core.proofs.ite.+remembering.Given as goal

abbrev pub decreases-remembered_ite : goal.decreases-remembered_ite
decreases-remembered_ite l = 2 * (l.key.a + l.key.b + l.key.c) + 1

abbrev pub decreases-ite : goal.decreases-ite
decreases-ite l = 2 * (l.key.a + l.key.b + l.key.c)
