use Rattle.std.proofs.Common.{◌≡◌, ◌++◌, ◌∙◌, flat_map, length, string_bytes}
use Rattle.srp_core.specs.Problem.{count}
use Rattle.group_report.specs.GroupLines.{group_lines}
use Rattle.group_report.specs.Reports.{count_line, unmatched_line}
use Rattle.group_report.proofs.LineSteps.{grown, ended}
use Rattle.group_report.proofs.reports.put_report.Goals as goal

pub returns : goal.returns
returns c =
    let old = string_bytes c.args.text.now in
    let problem = c.args.srp.now in
    let counts = count_line c.args.class_number (count problem) c.args.links_before c.args.count (length c.args.q.now.links) in
    let groups = group_lines problem c.args.p.now c.args.count in
    let one : string_bytes c.put_count_line.new.text ≡ old ++ counts =
    c.in_ok-put_count_line.ensures.ok ∙ (λ j. old ++ count_line c.args.class_number (c.count.ensures.count j) c.args.links_before c.args.count
    (c.len-after.ensures j)) in
    let two = grown old counts (string_bytes c.put_count_line.new.text) groups (string_bytes c.put_group_lines.new.text) one c.in_ok-put_group_lines.ensures in
    ended c.put_all_unmatched.result old (counts ++ groups) (string_bytes c.put_group_lines.new.text) (flat_map (unmatched_line problem) c.args.unmatched.now)
    (string_bytes c.put_all_unmatched.new.text) two c.put_all_unmatched.ensures
