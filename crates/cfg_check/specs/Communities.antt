-- How many communities stand on lines, and sets of those that were seen.
use Rattle.std.specs.Prelude.{◌≡◌, ℕ, List, map, filter, length, nat_eq, nat_lt, nat_le, if◌then◌else◌}
use Rattle.std.specs.HashSet.{HashSet, contains, hash_set_len}
use Rattle.base_kit.specs.Sets.{IsAscending, has, with_number}
use Rattle.cfg_ast.specs.declared.policy.Mention.{Mention}
use Rattle.cfg_ast.specs.meaning.PolicyFaults.{communities_in, first_exceeds}
use Rattle.number_hashing.specs.declared.hashing.NumberHashing.{NumberHashing}

abbrev pub mentions_before : List Mention → ℕ → List Mention
mentions_before ms line = filter (λ (m : Mention). nat_lt m.line line) ms

abbrev pub mentions_up_to : List Mention → ℕ → List Mention
mentions_up_to ms line = filter (λ (m : Mention). nat_le m.line line) ms

-- the lines at which the number of communities first exceeds the limit
abbrev pub exceeding_mentions : ℕ → List Mention → List ℕ
exceeding_mentions limit ms = filter (first_exceeds limit ms) (map (λ (m : Mention). m.line) ms)

-- how many communities stand before a line
abbrev pub count_before : List Mention → ℕ → ℕ
count_before ms line = length (communities_in (mentions_before ms line))

-- how many communities stand up to a line
abbrev pub count_up_to : List Mention → ℕ → ℕ
count_up_to ms line = length (communities_in (mentions_up_to ms line))

abbrev pub Numbers : Type 0
Numbers = HashSet ℕ NumberHashing

-- the set has the numbers of this list
pub record HasNumbers (seen : Numbers) (set : List ℕ) : Type 0 where
  pub each : (q : ℕ) → contains nat_eq seen q ≡ has set q
  pub count : hash_set_len seen ≡ length set

-- the communities with this one, if it stands on a line up to `line`
abbrev pub with_up_to : ℕ → Mention → List ℕ → List ℕ
with_up_to line mention set = if nat_le mention.line line then with_number mention.community set else set

-- the community was put in, if it stands on a line up to `line`
pub record KeepsUpTo (line : ℕ) (mention : Mention) (old new : Numbers) : Type 0 where
  pub after : (set : List ℕ) → IsAscending set → HasNumbers old set → HasNumbers new (with_up_to line mention set)
