-- What an entry's deletion list and change leave of a set, community by community (RFC 1997).
use Rattle.std.specs.Prelude.{◌≡◌, ℕ, Bool, true, false, not, ◌&&◌, nat_eq, List, [], ◌∷◌, length, Option, Some, None, if◌then◌else◌}
use Rattle.base_kit.specs.Sets.{has}
use Rattle.cfg_ast.specs.declared.policy.Change.{Change}
use Rattle.cfg_ast.specs.declared.policy.Change.TheVariants.{Clear, Replace, Append}
use Rattle.cfg_ast.specs.declared.policy.CommunityLine.{CommunityLine}
use Rattle.cfg_ast.specs.declared.policy.CommunityList.{CommunityList}
use Rattle.cfg_ast.specs.meaning.Lists.{line_holds, first_line_decides, community_list_permits}
use Rattle.route_maps.specs.declared.plain.PlainEntry.{PlainEntry}
use Rattle.policy_dd.specs.declared.deletion.Answers.{Answers}

-- the communities that a change puts in
abbrev pub put_by_change : Option Change → List ℕ
put_by_change None = []
put_by_change (Some Clear) = []
put_by_change (Some (Replace by)) = by
put_by_change (Some (Append more)) = more

-- whether a change keeps what the set has
abbrev pub keeps_rest : Option Change → Bool
keeps_rest None = true
keeps_rest (Some Clear) = false
keeps_rest (Some (Replace by)) = false
keeps_rest (Some (Append more)) = true

-- whether a deletion leaves the community
abbrev pub spares : Option CommunityList → ℕ → Bool
spares None c = true
spares (Some list) c = not (community_list_permits list (c ∷ []))

-- the line holds for a community that no line names
abbrev pub names_none : CommunityLine → Bool
names_none line = nat_eq (length line.comms) 0

-- whether a deletion leaves a community that no line names
abbrev pub spares_unnamed : Option CommunityList → Bool
spares_unnamed None = true
spares_unnamed (Some list) = not (first_line_decides names_none list.lines)

-- whether the entry leaves the community where the set has it
abbrev pub leaves : PlainEntry → ℕ → Bool
leaves entry c = keeps_rest entry.change && spares entry.delete c

-- and one that no line names
abbrev pub leaves_unnamed : PlainEntry → Bool
leaves_unnamed entry = keeps_rest entry.change && spares_unnamed entry.delete

-- an answer for each community: one for all except the odd ones
abbrev pub answer_to : Answers → ℕ → Bool
answer_to answers c = if has answers.odd c then not answers.all else answers.all

-- the answers of a list's lines to the sets of one community
pub record AnswersAlone (lines : List CommunityLine) (answers : Answers) : Type 0 where
  pub all_is : answers.all ≡ first_line_decides names_none lines
  pub each : (c : ℕ) → answer_to answers c ≡ first_line_decides (line_holds (c ∷ [])) lines

-- the answers with one line before
pub record IsWithLine (line : CommunityLine) (answers more : Answers) : Type 0 where
  pub all_is : more.all ≡ (if names_none line then line.permit else answers.all)
  pub each : (c : ℕ) → answer_to more c ≡ (if line_holds (c ∷ []) line then line.permit else answer_to answers c)

-- what the entry leaves
pub record IsLeftBy (entry : PlainEntry) (answers : Answers) : Type 0 where
  pub all_is : answers.all ≡ leaves_unnamed entry
  pub each : (c : ℕ) → answer_to answers c ≡ leaves entry c
