-- The prefix lists of a network: of several that say the same, only the first.
use Rattle.std.specs.Prelude.{◌≡◌, Bool, List, [], ◌∷◌, ◌++◌, map, flat_map, if◌then◌else◌}
use Rattle.std.specs.HashSet.{HashSet, contains}
use Rattle.std.specs.List.{list_any}
use Rattle.std.specs.Global.{Vec}
use Rattle.base_kit.specs.Prefixes.{Prefix}
use Rattle.cfg_ast.specs.declared.network.Network.{Network}
use Rattle.cfg_ast.specs.declared.policy.PrefixEntry.{PrefixEntry}
use Rattle.cfg_ast.specs.declared.policy.PrefixList.{PrefixList}
use Rattle.cfg_ast.specs.meaning.Classes.{same_items, lists_on}
use Rattle.cfg_ast.specs.meaning.PrefixLists.{prefix_list_permits}
use Rattle.dest_classes.specs.declared.lists.Rule.{Rule}
use Rattle.dest_classes.specs.contracts.lists.RulePartialEq.TheImpl as rule_eq

-- how `==` compares what entries say
abbrev pub same_rule : Rule → Rule → Bool
same_rule = (rule_eq.ghosts).eq

-- what an entry says, without its number and its line
abbrev pub rule_of : PrefixEntry → Rule
rule_of entry = record { permit = entry.permit; addr = entry.prefix.addr; len = entry.prefix.len; ge = entry.ge; le = entry.le }

abbrev pub rules_of : PrefixList → List Rule
rules_of list = map rule_of list.entries

-- the list has exactly these rules
abbrev pub has_rules : List Rule → PrefixList → Bool
has_rules rules list = same_items same_rule rules (rules_of list)

-- how `==` compares what lists say
abbrev pub same_rules : Vec Rule → Vec Rule → Bool
same_rules a b = same_items same_rule a.items b.items

-- the set has what these lists say
pub record AreSaid {S : Type 0} (said : HashSet (Vec Rule) S) (asked : List PrefixList) : Type 0 where
  pub each : (rules : Vec Rule) → contains same_rules said rules ≡ list_any (has_rules rules.items) asked

-- the lists that are asked, with one more, unless one of them says the same
abbrev pub with_list : PrefixList → List PrefixList → List PrefixList
with_list list asked = if list_any (has_rules (rules_of list)) asked then asked else asked ++ list ∷ []

abbrev pub with_lists : List PrefixList → List PrefixList → List PrefixList
with_lists [] asked = asked
with_lists (list ∷ lists) asked = with_lists lists (with_list list asked)

-- the lists: of several that say the same, only the first
abbrev pub different : List PrefixList → List PrefixList
different lists = with_lists lists []

-- the prefix lists of a network: of several that say the same, only the first
unfoldable pub lists_asked : Network → List PrefixList
lists_asked network = different (flat_map lists_on network.routers)

-- what lists answer to a prefix
abbrev pub answers_to : List PrefixList → Prefix → List Bool
answers_to lists p = map (λ list. prefix_list_permits list p) lists
