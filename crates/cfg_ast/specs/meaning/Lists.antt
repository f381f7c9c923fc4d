-- The answers of community lists to a set of communities (RFC 1997), as IOS gives them.
use Rattle.std.specs.Prelude.{ℕ, Bool, false, ◌&&◌, List, [], ◌∷◌, if◌then◌else◌}
use Rattle.std.specs.List.{list_all}
use Rattle.base_kit.specs.Sets.{has}
use Rattle.cfg_ast.specs.declared.policy.CommunityLine.{CommunityLine}
use Rattle.cfg_ast.specs.declared.policy.CommunityList.{CommunityList}

-- the set has all communities that the line names
abbrev pub line_holds : List ℕ → CommunityLine → Bool
line_holds comms line = list_all (λ c. has comms c) line.comms

-- the set is exactly the set of communities that the line names
abbrev pub line_is : List ℕ → CommunityLine → Bool
line_is comms line = line_holds comms line && list_all (λ c. has line.comms c) comms

-- the first line that holds decides, and the end denies
abbrev pub first_line_decides : (CommunityLine → Bool) → List CommunityLine → Bool
first_line_decides holds [] = false
first_line_decides holds (line ∷ lines) = if holds line then line.permit else first_line_decides holds lines

-- the answer of a community list
abbrev pub community_list_permits : CommunityList → List ℕ → Bool
community_list_permits list comms = first_line_decides (line_holds comms) list.lines

-- the exact answer of a community list
abbrev pub community_list_permits_exactly : CommunityList → List ℕ → Bool
community_list_permits_exactly list comms = first_line_decides (line_is comms) list.lines
