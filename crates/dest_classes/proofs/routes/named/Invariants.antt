use Rattle.std.proofs.Common.{◌≡◌, take}
use Rattle.std.specs.BTreeSet.{contains}
use Rattle.base_kit.specs.Prefixes.{Prefix}
use Rattle.dest_classes.specs.Routes.{prefix_cmp, is_named}
use Rattle.dest_classes.proofs.routes.named.Given as goal

abbrev pub invariant-loop-line : goal.invariant-loop-line
invariant-loop-line l = (p : Prefix) → contains prefix_cmp l.prefixes p ≡ is_named (take l.line-index l.process.networks) p
