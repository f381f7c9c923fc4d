-- Rules that compare equal are equal, so a set of rules tells what lists say.
use Rattle.std.proofs.Common.{◌≡◌, ℕ, Bool, true, cond, List, [], ◌∷◌, ◌++◌, Option, Bor, sym, ◌∙◌, ap, rules}
use Rattle.std.specs.HashSet.{HashSet, Updates}
use Rattle.std.specs.Global.{Vec}
use Rattle.std.specs.List.{list_any}
use Rattle.std.proofs.lemmas.List.Folds.{list_any-append}
use Rattle.cfg_ast.specs.declared.policy.PrefixList.{PrefixList}
use Rattle.cfg_ast.specs.meaning.Classes.{same_items}
use Rattle.cfg_ast.proofs.ClassFacts.{Tells, items_tell}
use Rattle.dest_classes.specs.declared.lists.Rule.{Rule}
use Rattle.dest_classes.specs.Lists.{same_rule, same_rules, rules_of, has_rules, AreSaid}
use Rattle.dest_classes.proofs.Bools.{by_both, last_first}

-- the list that a reference points to
abbrev pub at_now : Bor PrefixList → PrefixList
at_now list = list.now

made : Bool → ℕ → ℕ → Option ℕ → Option ℕ → Rule
made permit addr len ge le = record { permit = permit; addr = addr; len = len; ge = ge; le = le }

one_rule : (x y : Rule) → same_rule x y ≡ true → x ≡ y
unfolding made
one_rule x y e =
    let permit : x.permit ≡ y.permit = search rules in
    let addr : x.addr ≡ y.addr = search rules in
    let len : x.len ≡ y.len = search rules in
    let ge : x.ge ≡ y.ge = search rules in
    let le : x.le ≡ y.le = search rules in
    ap (λ p. made p x.addr x.len x.ge x.le) permit ∙ ap (λ a. made y.permit a x.len x.ge x.le) addr ∙ ap (λ l. made y.permit y.addr l x.ge x.le) len
    ∙ ap (λ g. made y.permit y.addr y.len g x.le) ge ∙ ap (made y.permit y.addr y.len y.ge) le

rule_self : (x : Rule) → same_rule x x ≡ true
rule_self x = search rules

pub rules_tell : Tells same_rule
rules_tell = record { one = one_rule; self = rule_self }

all_tell : Tells (same_items same_rule)
all_tell = items_tell same_rule rules_tell

swapped : (xs ys : List Rule) → same_items same_rule xs ys ≡ true → same_items same_rule ys xs ≡ true
swapped xs ys same = ap (same_items same_rule ys) (all_tell.one xs ys same) ∙ all_tell.self ys

pub said_more : {S : Type 0} (old new : HashSet (Vec Rule) S) (own : Vec Rule) (list : PrefixList) (asked : List PrefixList) → own.items ≡ rules_of list →
    Updates same_rules old new own true → AreSaid old asked → AreSaid new (asked ++ list ∷ [])
said_more old new own list asked same put said = record {
  each = λ (v : Vec Rule).
      let here : same_rules own v ≡ has_rules v.items list = ap (λ rs. same_items same_rule rs v.items) same
      ∙ by_both _ _ (swapped (rules_of list) v.items) (swapped v.items (rules_of list)) in
      put.0 v ∙ ap (cond (same_rules own v) true) (said.each v) ∙ ap (λ b. cond b true (list_any (has_rules v.items) asked)) here
      ∙ last_first (has_rules v.items list) (list_any (has_rules v.items) asked) ∙ sym (list_any-append (has_rules v.items) asked (list ∷ []));
}
