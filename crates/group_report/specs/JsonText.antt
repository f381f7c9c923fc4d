-- A report as one line of JSON (RFC 8259), with no blank in it. The keys of an object ascend.
use Rattle.std.specs.Prelude.{ℕ, Bool, true, false, List, length, ◌++◌, codes, decimal, map, slice_index}
use Rattle.std.specs.List.{range_with_len, join_with_byte}
use Rattle.json.specs.Print.{quoted}
use Rattle.base_kit.specs.Partition.{members_of}
use Rattle.cfg_ast.specs.declared.topology.Unmatched.{Unmatched}
use Rattle.cfg_ast.specs.printing.Printed.{address_text}
use Rattle.srp_core.specs.Problem.{Problem, count, is_lone}
use Rattle.group_report.specs.GroupLines.{name_at, originates}
use Rattle.group_report.specs.Reports.{Report}

abbrev pub boolean_text : Bool → List ℕ
boolean_text true = codes "true"
boolean_text false = codes "false"

-- values in brackets, with a comma between two
abbrev pub json_list : List (List ℕ) → List ℕ
json_list values = codes "[" ++ join_with_byte 44 values ++ codes "]"

abbrev pub name_string : Problem → ℕ → List ℕ
name_string problem router = quoted (name_at problem router)

-- the first member, whose name the group has
abbrev pub member_that_names : List ℕ → ℕ
member_that_names members = slice_index members 0

abbrev pub group_object : Problem → List ℕ → List ℕ
group_object problem members =
    codes "{\"lone\":"
    ++ boolean_text (is_lone problem (member_that_names members))
    ++ codes ",\"members\":"
    ++ json_list (map (name_string problem) members)
    ++ codes ",\"name\":"
    ++ name_string problem (member_that_names members)
    ++ codes ",\"origin\":"
    ++ boolean_text (originates problem (member_that_names members))
    ++ codes "}"

abbrev pub object_of_group : Problem → List ℕ → ℕ → List ℕ
object_of_group problem groups group = group_object problem (members_of groups group)

abbrev pub group_objects : Problem → List ℕ → ℕ → List ℕ
group_objects problem groups count = json_list (map (object_of_group problem groups) (range_with_len 0 count))

-- how many there are between groups, and how many there were
abbrev pub counts_object : ℕ → ℕ → List ℕ
counts_object after before =
    codes "{\"after\":"
    ++ decimal after
    ++ codes ",\"before\":"
    ++ decimal before
    ++ codes "}"

abbrev pub unmatched_object : Problem → Unmatched → List ℕ
unmatched_object problem neighbor =
    codes "{\"address\":"
    ++ quoted (address_text neighbor.addr)
    ++ codes ",\"router\":"
    ++ name_string problem neighbor.router
    ++ codes "}"

abbrev pub json_object : Report → List ℕ
json_object r =
    codes "{\"class\":"
    ++ decimal r.class_number
    ++ codes ",\"groups\":"
    ++ group_objects r.problem r.groups r.group_count
    ++ codes ",\"links\":"
    ++ counts_object (length r.links) r.links_before
    ++ codes ",\"routers\":"
    ++ counts_object r.group_count (count r.problem)
    ++ codes ",\"unmatched\":"
    ++ json_list (map (unmatched_object r.problem) r.unmatched)
    ++ codes "}"

-- the line
abbrev pub json_text : Report → List ℕ
json_text r = json_object r ++ codes "\n"
