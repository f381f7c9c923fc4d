use Rattle.std.proofs.Common.{string_bytes}
use Rattle.cut_certificate.proofs.Written.{group_written}
use Rattle.cut_certificate.proofs.printing.put_group.Goals as goal

pub returns : goal.returns
returns c =
    group_written c.args.names.now c.args.members.now c.loop-router.router-index (string_bytes c.args.text.now) (string_bytes c.loop-router.text)
    (string_bytes c.push_str-2.new.self) c.loop-router-test.false c.loop-router.invariant c.in_ok-push_str-4.ensures.bytes
