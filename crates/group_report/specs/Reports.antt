-- What is reported of the groups of a class, and its text: how many routers and links there were and are, the
-- groups, and the neighbours that are part of no session.
use Rattle.std.specs.Prelude.{ℕ, List, length, ◌++◌, codes, decimal, flat_map}
use Rattle.base_kit.specs.Partition.{IsNumbered}
use Rattle.cfg_ast.specs.declared.topology.Unmatched.{Unmatched}
use Rattle.cfg_ast.specs.printing.Printed.{address_text}
use Rattle.abstract_net.specs.declared.qlink.QLink.{QLink}
use Rattle.srp_core.specs.Problem.{Problem, count}
use Rattle.group_report.specs.GroupLines.{name_at, group_lines}

-- the number of a class, its problem, how many links the network has, the groups of the routers, how many groups
-- there are, the links between them, and the neighbours without a session
pub record Report : Type 0 where
  pub class_number : ℕ
  pub problem : Problem
  pub links_before : ℕ
  pub groups : List ℕ
  pub group_count : ℕ
  pub links : List QLink
  pub unmatched : List Unmatched

abbrev pub class_words : ℕ → List ℕ
class_words class_number = codes "class " ++ decimal class_number ++ codes ": "

abbrev pub network_words : ℕ → ℕ → List ℕ
network_words routers links = decimal routers ++ codes " routers " ++ decimal links ++ codes " links "

abbrev pub group_words : ℕ → ℕ → List ℕ
group_words groups links = decimal groups ++ codes " groups " ++ decimal links ++ codes " links\n"

-- the line of the counts of a class: routers and links of the network, groups and links between them
abbrev pub count_line : ℕ → ℕ → ℕ → ℕ → ℕ → List ℕ
count_line class_number routers links_before groups links_after =
    class_words class_number
    ++ network_words routers links_before
    ++ group_words groups links_after

-- the line of a neighbour that is part of no session: its router's name and its address
abbrev pub unmatched_line : Problem → Unmatched → List ℕ
unmatched_line problem neighbor =
    codes "unmatched "
    ++ name_at problem neighbor.router
    ++ codes " "
    ++ address_text neighbor.addr
    ++ codes "\n"

abbrev pub count_line_of : Report → List ℕ
count_line_of r = count_line r.class_number (count r.problem) r.links_before r.group_count (length r.links)

-- the text of a report
abbrev pub report_text : Report → List ℕ
report_text r =
    count_line_of r
    ++ group_lines r.problem r.groups r.group_count
    ++ flat_map (unmatched_line r.problem) r.unmatched

-- what is said of the report of these parts, whose groups are numbered by their least members
pub record HasReport (Is : Report → Type 0) (class_number : ℕ) (problem : Problem) (links_before : ℕ) (groups : List ℕ) (links : List QLink)
    (unmatched : List Unmatched) : Type 0 where
  pub group_count : ℕ
  pub numbered : IsNumbered groups group_count
  pub said : Is (record {
    class_number = class_number;
    problem = problem;
    links_before = links_before;
    groups = groups;
    group_count = group_count;
    links =
        links;
    unmatched = unmatched;
  })
