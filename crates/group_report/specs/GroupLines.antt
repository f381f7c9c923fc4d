-- A line for each group of a partition of the routers of a problem, in order.
use Rattle.std.specs.Prelude.{◌≡◌, ℕ, ◌+◌, Bool, true, false, List, [], ◌∷◌, ◌++◌, codes, decimal, flat_map, is_some, slice_index_or}
use Rattle.std.specs.List.{range_with_len}
use Rattle.base_kit.specs.Partition.{members_of, IsNumbered}
use Rattle.srp_core.specs.Problem.{Problem, initial, is_lone}

-- the name of a router by its place
abbrev pub name_at : Problem → ℕ → List ℕ
name_at problem router = slice_index_or problem.names router []

abbrev pub originates : Problem → ℕ → Bool
originates problem router = is_some (initial problem router)

abbrev pub mark_by : Bool → Bool → List ℕ
mark_by true lone = codes " origin"
mark_by false true = codes " lone"
mark_by false false = []

-- the mark of a router that originates the class, or else is lone
abbrev pub mark_of : Problem → ℕ → List ℕ
mark_of problem router = mark_by (originates problem router) (is_lone problem router)

-- the mark of a group is that of its first member, as all are alike
abbrev pub group_mark : Problem → List ℕ → List ℕ
group_mark problem [] = []
group_mark problem (router ∷ more) = mark_of problem router

-- the name of a router behind a blank
abbrev pub member_word : Problem → ℕ → List ℕ
member_word problem router = codes " " ++ name_at problem router

-- the line of a group with its number
abbrev pub group_line : Problem → ℕ → List ℕ → List ℕ
group_line problem number members =
    codes "group "
    ++ decimal number
    ++ group_mark problem members
    ++ codes ":"
    ++ flat_map (member_word problem) members
    ++ codes "\n"

-- groups are numbered from 1 in their text
abbrev pub line_of_group : Problem → List ℕ → ℕ → List ℕ
line_of_group problem groups group = group_line problem (group + 1) (members_of groups group)

abbrev pub group_lines : Problem → List ℕ → ℕ → List ℕ
group_lines problem groups count = flat_map (line_of_group problem groups) (range_with_len 0 count)

-- the lines of groups that are numbered by their least members
pub record HasGroupLines (problem : Problem) (groups : List ℕ) (bytes : List ℕ) : Type 0 where
  pub count : ℕ
  pub numbered : IsNumbered groups count
  pub lines : bytes ≡ group_lines problem groups count
