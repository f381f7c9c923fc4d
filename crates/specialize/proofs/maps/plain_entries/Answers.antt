use Rattle.std.proofs.Common.{rules}
use Rattle.specialize.proofs.Known.{none_known}
use Rattle.specialize.proofs.maps.plain_entries.Goals as goal

pub loop-entry-init : goal.loop-entry-init
loop-entry-init c = record {
  known = none_known c.args.router.now c.args.p c.new-known.result c.new-known.ensures.empty;
  plain = search rules;
}
