use Rattle.std.proofs.Common.{◌++◌, string_bytes}
use Rattle.group_report.specs.Reports.{class_words, network_words, group_words}
use Rattle.group_report.proofs.LineSteps.{grown, ended}
use Rattle.group_report.proofs.counts.put_count_line.Goals as goal

pub returns-clause-ok : goal.returns-clause-ok
returns-clause-ok c =
    let old = string_bytes c.args.text.now in
    let class = class_words c.args.class_number in
    let network = network_words c.args.routers c.args.links_before in
    let two = grown old class (string_bytes c.put_class_words.new.text) network (string_bytes c.put_network_words.new.text) c.in_ok-put_class_words.ensures.ok
    c.in_ok-put_network_words.ensures.ok in
    ended c.put_group_words.result old (class ++ network) (string_bytes c.put_network_words.new.text) (group_words c.args.groups c.args.links_after)
    (string_bytes c.put_group_words.new.text) two c.put_group_words.ensures.ok
