-- Which entry of a route map decides (RFC 1997 for communities), by what is known of a set: which communities
-- of a universe it has, and whether it has others.
use Rattle.std.specs.Prelude.{◌≡◌, ℕ, ◌<◌, Bool, true, false, not, ◌&&◌, ◌||◌, List, length, Option, Some, None, if◌then◌else◌}
use Rattle.std.specs.List.{list_all, list_any, find}
use Rattle.base_kit.specs.Sets.{has}
use Rattle.cfg_ast.specs.declared.policy.CommunityLine.{CommunityLine}
use Rattle.cfg_ast.specs.declared.policy.CommunityList.{CommunityList}
use Rattle.cfg_ast.specs.meaning.Lists.{first_line_decides}
use Rattle.route_maps.specs.declared.plain.PlainEntry.{PlainEntry}
use Rattle.dd_core.specs.Sets.{Shown, Means, value_of, has_others}
use Rattle.policy_dd.specs.declared.matches.Carried.{Carried}
use Rattle.policy_dd.specs.declared.matches.Decision.{Decision}
use Rattle.policy_dd.specs.Edge.{case_or, keys_of}
use Rattle.policy_dd.specs.Tables.{AllInside}

-- whether the community is carried on the set
abbrev pub has_in : Shown → Carried → List ℕ → ℕ → Bool
has_in shown carried set c = case_or shown set carried.outs c (has set c && value_of shown set carried.rest)

pub record AreNodesInside (shown : Shown) (carried : Carried) : Type 0 where
  pub rest : carried.rest < length shown.nodes
  pub others : carried.others < length shown.nodes
  pub outs : AllInside shown carried.outs
  pub known : (c : ℕ) → has (keys_of carried.outs) c ≡ true → has shown.universe c ≡ true

-- just the wanted ones of the communities are there
abbrev pub exact_part : (ℕ → Bool) → List ℕ → List ℕ → Bool
exact_part there wants comms = list_all (λ c. if has wants c then there c else not (there c)) comms

-- just the wanted communities are there, and no others
abbrev pub exact_by : List ℕ → (ℕ → Bool) → Bool → List ℕ → Bool
exact_by universe there others wants = not others && exact_part there wants universe

-- the line names only communities that are there
abbrev pub plain_by : (ℕ → Bool) → CommunityLine → Bool
plain_by there line = list_all there line.comms

abbrev pub line_by : List ℕ → (ℕ → Bool) → Bool → Bool → CommunityLine → Bool
line_by universe there others exact line =
    if exact then exact_by universe there others line.comms else plain_by there line

abbrev pub list_by : List ℕ → (ℕ → Bool) → Bool → Bool → CommunityList → Bool
list_by universe there others exact list = first_line_decides (line_by universe there others exact) list.lines

abbrev pub lists_by : List ℕ → (ℕ → Bool) → Bool → Bool → Option (List CommunityList) → Bool
lists_by universe there others exact None = true
lists_by universe there others exact (Some lists) = list_any (list_by universe there others exact) lists

abbrev pub entry_by : List ℕ → (ℕ → Bool) → Bool → PlainEntry → Bool
entry_by universe there others entry = lists_by universe there others entry.exact entry.lists

-- the first entry that holds
abbrev pub first_of : List ℕ → List PlainEntry → (ℕ → Bool) → Bool → Option PlainEntry
first_of universe entries there others = find (entry_by universe there others) entries

-- what the entry that decides tells, and false where none does
abbrev pub decided : (PlainEntry → Bool) → Option PlainEntry → Bool
decided tells None = false
decided tells (Some entry) = tells entry

-- what is known of the set is so
pub record IsSeenAs (universe set : List ℕ) (there : ℕ → Bool) (others : Bool) : Type 0 where
  pub there_is : (c : ℕ) → has universe c ≡ true → there c ≡ has set c
  pub others_is : others ≡ has_others universe set

pub record IsDecisionInside (shown : Shown) (d : Decision) : Type 0 where
  pub holds : d.holds < length shown.nodes
  pub permits : d.permits < length shown.nodes

-- where one of the lines holds, and where the first that holds permits
pub record IsDecision (old new : Shown) (carried : Carried) (lines : List CommunityLine) (d : Decision) : Type 0 where
  pub holds : Means new d.holds (λ set. list_any (plain_by (has_in old carried set)) lines)
  pub permits : Means new d.permits (λ set. first_line_decides (plain_by (has_in old carried set)) lines)

-- the first decides where it holds, and elsewhere the last
pub record IsFirstDecision (old new : Shown) (first last d : Decision) : Type 0 where
  pub holds : Means new d.holds (λ set. value_of old set first.holds || value_of old set last.holds)
  pub permits : Means new d.permits (λ set. if value_of old set first.holds then value_of old set first.permits else value_of old set last.permits)
