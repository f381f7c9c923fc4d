-- Lists that say the same give the same answers, so one of them tells as much as all.
use Rattle.std.proofs.Common.{◌≡◌, Bool, true, false, cond, ◌&&◌, ◌||◌, List, [], ◌∷◌, ◌++◌, map, refl, sym, ◌∙◌, ap, true≢false}
use Rattle.std.specs.Prelude.{flat_map, nat_eq}
use Rattle.std.specs.Bool.{beq}
use Rattle.std.specs.List.{list_any}
use Rattle.base_kit.specs.Prefixes.{Prefix}
use Rattle.cfg_ast.specs.declared.network.Network.{Network}
use Rattle.cfg_ast.specs.declared.policy.PrefixEntry.{PrefixEntry}
use Rattle.cfg_ast.specs.declared.policy.PrefixList.{PrefixList}
use Rattle.cfg_ast.specs.meaning.Classes.{same_items, lists_on, answers_of}
use Rattle.cfg_ast.specs.meaning.PrefixLists.{leading_bits, length_fits, prefix_entry_holds, first_entry_decides, prefix_list_permits}
use Rattle.dest_classes.specs.declared.lists.Rule.{Rule}
use Rattle.cfg_ast.proofs.ClassFacts.{items_tell}
use Rattle.dest_classes.proofs.Rules.{rules_tell}
use Rattle.dest_classes.proofs.Bools.{both_assoc, both_true, both_implied, first_of_both, second_of_both}
use Rattle.dest_classes.specs.Cells.{alike_to}
use Rattle.dest_classes.specs.Lists.{same_rule, rule_of, rules_of, has_rules, with_list, with_lists, lists_asked}

-- what rules answer
abbrev rule_holds : Rule → Prefix → Bool
rule_holds rule p = nat_eq (leading_bits rule.len p.addr) (leading_bits rule.len rule.addr) && length_fits rule.len rule.ge rule.le p.len

abbrev decided : List Rule → Prefix → Bool
decided [] p = false
decided (rule ∷ rules) p = cond (rule_holds rule p) rule.permit (decided rules p)

answer_is : (entries : List PrefixEntry) (p : Prefix) → first_entry_decides entries p ≡ decided (map rule_of entries) p
answer_is [] p = refl
answer_is (entry ∷ entries) p = ap (cond (prefix_entry_holds entry p) entry.permit) (answer_is entries p)

-- lists that say the same answer the same
one_answer : (list other : PrefixList) → has_rules (rules_of list) other ≡ true → (p : Prefix) → prefix_list_permits list p ≡ prefix_list_permits other p
one_answer list other same p = answer_is list.entries p
    ∙ ap (λ rules. decided rules p) ((items_tell same_rule rules_tell).one (rules_of list) (rules_of other) same) ∙ sym (answer_is other.entries p)

module _ (p q : Prefix) where
  abbrev answers_both : PrefixList → Bool
  answers_both list = beq (prefix_list_permits list p) (prefix_list_permits list q)

  pub alike-append : (xs ys : List PrefixList) → alike_to (xs ++ ys) p q ≡ (alike_to xs p q && alike_to ys p q)
  alike-append [] ys = refl
  alike-append (x ∷ xs) ys = ap (λ b. answers_both x && b) (alike-append xs ys) ∙ sym (both_assoc (answers_both x) (alike_to xs p q) (alike_to ys p q))

  -- a list that says what one of the others says adds nothing
  answered : (list : PrefixList) (asked : List PrefixList) → list_any (has_rules (rules_of list)) asked ≡ true → alike_to asked p q ≡ true →
      answers_both list ≡ true
  answered list [] said alike = absurd (true≢false (sym said))
  answered list (x ∷ xs) said alike = step (has_rules (rules_of list) x) refl said (answered list xs) where
    step : (b : Bool) → has_rules (rules_of list) x ≡ b → (b || list_any (has_rules (rules_of list)) xs) ≡ true →
        (list_any (has_rules (rules_of list)) xs ≡ true → alike_to xs p q ≡ true → answers_both list ≡ true) → answers_both list ≡ true
    step true same said rest = ap (λ b. beq b (prefix_list_permits list q)) (one_answer list x same p)
        ∙ ap (beq (prefix_list_permits x p)) (one_answer list x same q) ∙ first_of_both (answers_both x) (alike_to xs p q) alike
    step false same said rest = rest said (second_of_both (answers_both x) (alike_to xs p q) alike)

  alike-with_list : (list : PrefixList) (asked : List PrefixList) → alike_to (with_list list asked) p q ≡ (alike_to asked p q && answers_both list)
  alike-with_list list asked = step (list_any (has_rules (rules_of list)) asked) refl where
    step : (b : Bool) → list_any (has_rules (rules_of list)) asked ≡ b →
        alike_to (cond b asked (asked ++ list ∷ [])) p q ≡ (alike_to asked p q && answers_both list)
    step true said = both_implied (alike_to asked p q) (answers_both list) (answered list asked said)
    step false said = alike-append asked (list ∷ []) ∙ ap (λ b. alike_to asked p q && b) (both_true (answers_both list))

  alike-with_lists : (lists asked : List PrefixList) → alike_to (with_lists lists asked) p q ≡ (alike_to asked p q && alike_to lists p q)
  alike-with_lists [] asked = sym (both_true (alike_to asked p q))
  alike-with_lists (list ∷ lists) asked =
      alike-with_lists lists (with_list list asked) ∙ ap (λ b. b && alike_to lists p q) (alike-with_list list asked)
      ∙ both_assoc (alike_to asked p q) (answers_both list) (alike_to lists p q)

-- the lists that are asked answer two prefixes alike exactly if all lists do
pub asked_alike : (network : Network) (p q : Prefix) → alike_to (lists_asked network) p q ≡ same_items beq (answers_of network p) (answers_of network q)
unfolding lists_asked answers_of
asked_alike network p q = alike-with_lists p q (flat_map lists_on network.routers) []
