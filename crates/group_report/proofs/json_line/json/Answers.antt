use Rattle.std.proofs.Common.{◌≡◌}
use Rattle.serde_json.specs.View.{view}
use Rattle.group_report.specs.JsonData.{report_data}
use Rattle.group_report.specs.JsonText.{json_text}
use Rattle.group_report.proofs.JsonTexts.{line_of_report}
use Rattle.group_report.proofs.Reported.{said_as}
use Rattle.group_report.proofs.json_line.json.Goals as goal

pub returns : goal.returns
returns c =
    let value = c.in_ok-value.value in
    let bytes = c.in_ok-bytes.bytes.items in
    said_as (λ r. view value ≡ report_data r) (λ r. bytes ≡ json_text r) c.args.class_number c.args.srp.now c.args.links_before c.args.p.now c.args.q.now.links
    c.args.unmatched.now
    (λ r is. line_of_report r (view value) bytes c.in_ok-bytes.ensures is) c.in_ok-value.ensures
