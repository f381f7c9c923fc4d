-- The values that the JSON of a report is printed from.
use Rattle.std.specs.Prelude.{ℕ, List, length, codes, map}
use Rattle.std.specs.List.{range_with_len}
use Rattle.base_kit.specs.Partition.{members_of}
use Rattle.cfg_ast.specs.declared.topology.Unmatched.{Unmatched}
use Rattle.cfg_ast.specs.printing.Printed.{address_text}
use Rattle.srp_core.specs.Problem.{Problem, count, is_lone}
use Rattle.serde_json.specs.Data.{Data, unsigned, boolean, number, string, array, object, member, no_members}
use Rattle.serde_json.specs.View.{items_of}
use Rattle.group_report.specs.GroupLines.{name_at, originates}
use Rattle.group_report.specs.JsonText.{member_that_names}
use Rattle.group_report.specs.Reports.{Report}

abbrev pub list_data : List Data → Data
list_data values = array (items_of values)

abbrev pub name_data : Problem → ℕ → Data
name_data problem router = string (name_at problem router)

abbrev pub group_data : Problem → List ℕ → Data
group_data problem members = object (
    member (codes "lone") (boolean (is_lone problem (member_that_names members))) (
    member (codes "members") (list_data (map (name_data problem) members)) (
    member (codes "name") (name_data problem (member_that_names members)) (
    member (codes "origin") (boolean (originates problem (member_that_names members)))
    no_members))))

abbrev pub data_of_group : Problem → List ℕ → ℕ → Data
data_of_group problem groups group = group_data problem (members_of groups group)

abbrev pub groups_data : Problem → List ℕ → ℕ → List Data
groups_data problem groups count = map (data_of_group problem groups) (range_with_len 0 count)

abbrev pub counts_data : ℕ → ℕ → Data
counts_data after before = object (
    member (codes "after") (number (unsigned after)) (
    member (codes "before") (number (unsigned before))
    no_members))

abbrev pub unmatched_data : Problem → Unmatched → Data
unmatched_data problem neighbor = object (
    member (codes "address") (string (address_text neighbor.addr)) (
    member (codes "router") (name_data problem neighbor.router)
    no_members))

abbrev pub report_data : Report → Data
report_data r = object (
    member (codes "class") (number (unsigned r.class_number)) (
    member (codes "groups") (list_data (groups_data r.problem r.groups r.group_count)) (
    member (codes "links") (counts_data (length r.links) r.links_before) (
    member (codes "routers") (counts_data r.group_count (count r.problem)) (
    member (codes "unmatched") (list_data (map (unmatched_data r.problem) r.unmatched))
    no_members)))))
