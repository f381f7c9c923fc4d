use Rattle.std.proofs.Common.{string_bytes}
use Rattle.answer_reports.proofs.Groupings.{counted}
use Rattle.answer_reports.proofs.summary.put_line.Goals as goal

pub link_count-requires-clause-total : goal.link_count-requires-clause-total
link_count-requires-clause-total c = c.in_ok-partition.ensures.admissible.total

pub returns : goal.returns
returns c = λ network class before is.
    counted network c.args.number class c.args.made.now.problem c.in_ok-partition.partition c.count-routers.result
    c.args.before c.groups-groups.result c.in_ok-after.after (string_bytes c.args.text.now) (string_bytes c.put_count_line.new.text)
    is.built c.in_ok-partition.ensures c.groups-groups.ensures c.count-routers.ensures.count before
    c.in_ok-after.ensures c.in_ok-put_count_line.ensures.ok
