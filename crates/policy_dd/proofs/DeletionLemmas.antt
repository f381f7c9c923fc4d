-- What a deletion and a change leave of a set, community by community.
use Rattle.std.proofs.Common.{◌≡◌, ◌≢◌, ℕ, ◌<◌, Bool, true, false, not, ◌&&◌, ◌||◌, nat_eq, List, [], ◌∷◌, length, get_or, Option, Some, None, refl, sym, ◌∙◌, ap, arith, inl, inr}
use Rattle.std.specs.Prelude.{if◌then◌else◌, IfSome}
use Rattle.std.specs.Bool.{beq}
use Rattle.std.specs.List.{list_all, AllByRecursion}
use Rattle.std.proofs.lemmas.Bool.{cases_eq}
use Rattle.base_kit.specs.Sets.{has, without_number, IsAscending}
use Rattle.base_kit.proofs.SetFacts.{has-filter, has-with_numbers, same_number, other_number}
use Rattle.cfg_ast.specs.declared.policy.Change.{Change}
use Rattle.cfg_ast.specs.declared.policy.Change.TheVariants.{Clear, Replace, Append}
use Rattle.cfg_ast.specs.declared.policy.CommunityLine.{CommunityLine}
use Rattle.cfg_ast.specs.declared.policy.CommunityList.{CommunityList}
use Rattle.cfg_ast.specs.meaning.Lists.{line_holds, first_line_decides, community_list_permits}
use Rattle.cfg_ast.specs.meaning.Policy.{without_deleted_by, after_change}
use Rattle.route_maps.specs.declared.plain.PlainEntry.{PlainEntry}
use Rattle.route_maps.specs.Maps.{comms_after}
use Rattle.route_maps.specs.Within.{AreWithin, IsLineWithin, IsListWithin}
use Rattle.policy_dd.specs.declared.deletion.Answers.{Answers}
use Rattle.policy_dd.specs.Deletion.{put_by_change, keeps_rest, spares, names_none, spares_unnamed, leaves, leaves_unnamed, AnswersAlone, IsWithLine, IsLeftBy}

or_false : (b : Bool) → b ≡ b || false
or_false true = refl
or_false false = refl

-- first the deletion, and then the change, for each community
has-without_deleted_by : (delete : Option CommunityList) (set : List ℕ) (c : ℕ) → has (without_deleted_by delete set) c ≡ spares delete c && has set c
has-without_deleted_by None set c = refl
has-without_deleted_by (Some list) set c = has-filter (λ c. not (community_list_permits list (c ∷ []))) set c

has-after_change : (change : Option Change) (set : List ℕ) (c : ℕ) → has (after_change change set) c ≡ has (put_by_change change) c
    || (keeps_rest change && has set c)
has-after_change None set c = refl
has-after_change (Some Clear) set c = refl
has-after_change (Some (Replace by)) set c = or_false (has by c)
has-after_change (Some (Append more)) set c = has-with_numbers more set c

and_assoc : (a b c : Bool) → a && (b && c) ≡ (a && b) && c
and_assoc true b c = refl
and_assoc false b c = refl

pub has-comms_after : (entry : PlainEntry) (set : List ℕ) (c : ℕ) → has (comms_after entry set) c ≡ has (put_by_change entry.change) c
    || (leaves entry c && has set c)
has-comms_after entry set c =
    has-after_change entry.change (without_deleted_by entry.delete set) c
    ∙ ap (λ b. has (put_by_change entry.change) c || (keeps_rest entry.change && b)) (has-without_deleted_by entry.delete set c)
    ∙ ap (λ b. has (put_by_change entry.change) c || b) (and_assoc (keeps_rest entry.change) (spares entry.delete c) (has set c))

-- a line alone
pub has-without_number : (n : ℕ) (xs : List ℕ) (c : ℕ) → has (without_number n xs) c ≡ (if nat_eq n c then false else has xs c)
has-without_number n [] c = by (nat_eq n c)
  where
    by : (b : Bool) → false ≡ (if b then false else false)
    by true = refl
    by false = refl
has-without_number n (x ∷ xs) c = elim (cases_eq n x) [
  | inl e ↦ let now : nat_eq n x ≡ true = same_number n x e in
      rw now (has-without_number n xs c ∙ left_out (nat_eq n c) (nat_eq x c) (has xs c) (λ no. sym (ap (λ (m : ℕ). nat_eq m c) e) ∙ no))
  | inr ne ↦ let now : nat_eq n x ≡ false = other_number n x ne in rw (now, has-without_number n xs c) (elim (cases_eq n c) [
    | inl e ↦ rw (same_number n c e, other_number x c (λ e'. ne (e ∙ sym e'))) refl
    | inr ne' ↦ rw (other_number n c ne') refl
  ])
]
  where
    left_out : (a b r : Bool) → (a ≡ false → b ≡ false) → (if a then false else r) ≡ (if a then false else b || r)
    left_out true b r same = refl
    left_out false b r same = rw (same refl) refl

two_are_not_one : (c : ℕ) (comms : List ℕ) → IsAscending comms → 1 < length comms → list_all (λ n. has (c ∷ []) n) comms ≡ false
two_are_not_one c [] up two = absurd (omega arith)
two_are_not_one c (a ∷ []) up two = absurd (omega arith)
two_are_not_one c (a ∷ b ∷ rest) up two = elim (cases_eq c a) [
  | inl e ↦ let lt = up.0.0 in rw (same_number c a e, other_number c b (omega arith)) refl
  | inr ne ↦ rw (other_number c a ne) refl
]

pub several_named : (line : CommunityLine) (answers : Answers) → IsAscending line.comms → 1 < length line.comms → IsWithLine line answers answers
several_named line answers up two =
    let no : names_none line ≡ false = other_number (length line.comms) 0 (omega arith) in
    record {
      all_is = rw no refl;
      each = λ c. rw (two_are_not_one c line.comms up two) refl;
    }

none_hold : (c : ℕ) (comms : List ℕ) → length comms ≡ 0 → list_all (λ n. has (c ∷ []) n) comms ≡ true
none_hold c [] e = refl
none_hold c (a ∷ rest) e = absurd (omega arith)

pub none_named : (line : CommunityLine) (answers more : Answers) → length line.comms ≡ 0 → more.all ≡ line.permit → more.odd ≡ [] → IsWithLine line answers more
none_named line answers more e all odd =
    let yes : names_none line ≡ true = same_number (length line.comms) 0 e in
    record {
      all_is = all ∙ rw yes refl;
      each = λ c. rw (odd, none_hold c line.comms e) all;
    }

one_holds : (c : ℕ) (comms : List ℕ) → length comms ≡ 1 → list_all (λ n. has (c ∷ []) n) comms ≡ nat_eq (get_or comms 0 0) c
one_holds c [] e = absurd (omega arith)
one_holds c (a ∷ b ∷ rest) e = absurd (omega arith)
one_holds c (a ∷ []) e = elim (cases_eq c a) [
  | inl same ↦ rw (same_number c a same, same_number a c (sym same)) refl
  | inr ne ↦ rw (other_number c a ne, other_number a c (λ e'. ne (sym e'))) refl
]

one_answer : (here odd is_odd all permit : Bool) → is_odd ≡ not (beq permit all) →
    (if (if here then is_odd else odd) then not all else all) ≡ (if here then permit else (if odd then not all else all))
one_answer true odd is_odd true true e = rw e refl
one_answer true odd is_odd true false e = rw e refl
one_answer true odd is_odd false true e = rw e refl
one_answer true odd is_odd false false e = rw e refl
one_answer false odd is_odd all permit e = refl

pub one_named : (line : CommunityLine) (answers more : Answers) (is_odd : Bool) → length line.comms ≡ 1 → more.all ≡ answers.all →
    is_odd ≡ not (beq line.permit answers.all) → ((c : ℕ) → has more.odd c ≡ (if nat_eq (get_or line.comms 0 0) c then is_odd else has answers.odd c)) →
    IsWithLine line answers more
one_named line answers more is_odd e all odd_is each =
    let no : names_none line ≡ false = other_number (length line.comms) 0 (omega arith) in
    record {
      all_is = all ∙ rw no refl;
      each = λ c. rw (all, each c, one_holds c line.comms e)
          (one_answer (nat_eq (get_or line.comms 0 0) c) (has answers.odd c) is_odd answers.all line.permit odd_is);
    }

-- all lines
pub no_lines : (answers : Answers) → answers.all ≡ false → answers.odd ≡ [] → AnswersAlone [] answers
no_lines answers all odd = record { all_is = all; each = λ c. rw (all, odd) refl }

pub one_line_more : (line : CommunityLine) (rest : List CommunityLine) (answers more : Answers) → AnswersAlone rest answers → IsWithLine line answers more →
    AnswersAlone (line ∷ rest) more
one_line_more line rest answers more is step = record {
  all_is = step.all_is ∙ rw is.all_is refl;
  each = λ c. step.each c ∙ rw (is.each c) refl;
}

-- what the entry leaves
pub left_none : (entry : PlainEntry) (answers : Answers) → keeps_rest entry.change ≡ false → answers.all ≡ false → answers.odd ≡ [] → IsLeftBy entry answers
left_none entry answers e all odd = record { all_is = all ∙ rw e refl; each = λ c. rw (all, odd, e) refl }

pub left_all : (entry : PlainEntry) (answers : Answers) → keeps_rest entry.change ≡ true → entry.delete ≡ None → answers.all ≡ true → answers.odd ≡ [] →
    IsLeftBy entry answers
left_all entry answers e d all odd = record { all_is = all ∙ rw (e, d) refl; each = λ c. rw (all, odd, e, d) refl }

opposite : (odd all : Bool) → (if odd then not (not all) else not all) ≡ not (if odd then not all else all)
opposite true all = refl
opposite false all = refl

pub left_some : (entry : PlainEntry) (list : CommunityList) (deleted answers : Answers) → keeps_rest entry.change ≡ true → entry.delete ≡ Some list →
    AnswersAlone list.lines deleted → answers.all ≡ not deleted.all → answers.odd ≡ deleted.odd → IsLeftBy entry answers
left_some entry list deleted answers e d is all odd = record {
  all_is = all ∙ rw (e, d) (ap not is.all_is);
  each = λ c. rw (all, odd, e, d) (opposite (has deleted.odd c) deleted.all ∙ ap not (is.each c));
}

-- a community outside the universe is one that no line names
outside_line : (universe : List ℕ) (c : ℕ) (comms : List ℕ) → has universe c ≡ false → AreWithin universe comms →
    list_all (λ n. has (c ∷ []) n) comms ≡ nat_eq (length comms) 0
outside_line universe c [] none within = refl
outside_line universe c (a ∷ rest) none within =
    let ne : c ≢ a = λ e. let same = ap (has universe) e in let known = within.0 in absurd cc in
    rw (other_number c a ne) (sym (other_number (length (a ∷ rest)) 0 (omega arith)))

outside_lines : (universe : List ℕ) (c : ℕ) (lines : List CommunityLine) → has universe c ≡ false → AllByRecursion (IsLineWithin universe) lines →
    first_line_decides (line_holds (c ∷ [])) lines ≡ first_line_decides names_none lines
outside_lines universe c [] none within = refl
outside_lines universe c (line ∷ lines) none within = rw (outside_line universe c line.comms none within.0, outside_lines universe c lines none within.1) refl

pub spares_outside : (universe : List ℕ) (c : ℕ) (delete : Option CommunityList) → has universe c ≡ false → IfSome delete (IsListWithin universe) →
    spares delete c ≡ spares_unnamed delete
spares_outside universe c None none within = refl
spares_outside universe c (Some list) none within = ap not (outside_lines universe c list.lines none within)

pub leaves_outside : (universe : List ℕ) (c : ℕ) (entry : PlainEntry) → has universe c ≡ false → IfSome entry.delete (IsListWithin universe) →
    leaves entry c ≡ leaves_unnamed entry
leaves_outside universe c entry none within = ap (λ b. keeps_rest entry.change && b) (spares_outside universe c entry.delete none within)

-- the odd communities are in the universe
odd_or_not : (odd all : Bool) → (if odd then not all else all) ≡ all → odd ≡ false
odd_or_not false all e = refl
odd_or_not true true e = absurd cc
odd_or_not true false e = absurd cc

pub odd_known : (universe : List ℕ) (entry : PlainEntry) (answers : Answers) → IsLeftBy entry answers → IfSome entry.delete (IsListWithin universe) → (c : ℕ) →
    has answers.odd c ≡ true → has universe c ≡ true
odd_known universe entry answers is within c odd = by (has universe c) refl
  where
    by : (b : Bool) → has universe c ≡ b → b ≡ true
    by true e = refl
    by false e =
        let no = odd_or_not (has answers.odd c) answers.all (is.each c ∙ leaves_outside universe c entry e within ∙ sym is.all_is) in
        absurd cc
