-- What the first line that holds decides, in two parts of a list.
use Rattle.std.proofs.Common.{◌≡◌, ℕ, ◌<◌, ◌≤◌, Bool, true, false, ◌||◌, List, [], ◌∷◌, ◌++◌, length, get_or, take, drop, refl, sym, ◌∙◌, ap, subst, arith}
use Rattle.std.proofs.lemmas.List.{take-append-drop}
use Rattle.std.specs.Prelude.{if◌then◌else◌}
use Rattle.std.specs.List.{list_all, list_any, AllByRecursion}
use Rattle.std.proofs.lemmas.List.Folds.{list_any-append}
use Rattle.cfg_ast.specs.meaning.Lists.{first_line_decides}
use Rattle.cfg_ast.specs.declared.policy.CommunityLine.{CommunityLine}
use Rattle.dd_core.specs.Sets.{Shown, value_of, Grows, Means, IsIteOfSets}
use Rattle.dd_core.proofs.ShownLemmas.{value_of_kept, grows_inside, means_kept}
use Rattle.policy_dd.specs.declared.matches.Carried.{Carried}
use Rattle.policy_dd.specs.declared.matches.Decision.{Decision}
use Rattle.policy_dd.specs.Matches.{has_in, AreNodesInside, plain_by, IsDecision, IsDecisionInside, IsFirstDecision}
use Rattle.policy_dd.proofs.MatchLemmas.{there_kept}

pub first_line_same : (h h' : CommunityLine → Bool) (lines : List CommunityLine) → ((line : CommunityLine) → h line ≡ h' line) →
    first_line_decides h lines ≡ first_line_decides h' lines
first_line_same h h' [] same = refl
first_line_same h h' (line ∷ lines) same = rw (same line, first_line_same h h' lines same) refl

pub all_front : {X : Type 0} → (P : X → Type 0) (xs ys : List X) → AllByRecursion P (xs ++ ys) → AllByRecursion P xs
all_front P [] ys all = tt
all_front P (x ∷ xs) ys all = (all.0, all_front P xs ys all.1)

pub all_back : {X : Type 0} → (P : X → Type 0) (xs ys : List X) → AllByRecursion P (xs ++ ys) → AllByRecursion P ys
all_back P [] ys all = all
all_back P (x ∷ xs) ys all = all_back P xs ys all.1

pub all_drop : {X : Type 0} → (P : X → Type 0) (xs : List X) (n : ℕ) → AllByRecursion P xs → AllByRecursion P (drop n xs)
all_drop P xs n all = all_back P (take n xs) (drop n xs) (subst (AllByRecursion P) (sym (take-append-drop n xs)) all)

-- lists as the arms of a match take them
pub no_items : {X : Type 0} → (xs : List X) → length xs < 1 → xs ≡ []
no_items [] few = refl
no_items (x ∷ xs) few = absurd (omega arith)

pub one_item : {X : Type 0} → (xs : List X) (x : X) → 1 ≤ length xs → length xs < 2 → x ≡ get_or xs 0 x → xs ≡ x ∷ []
one_item [] x some few at = absurd (omega arith)
one_item (y ∷ []) x some few at = rw at refl
one_item (y ∷ z ∷ zs) x some few at = absurd (omega arith)

decide_cases : (holds any permit : Bool) (l m r : Bool) → l ≡ (if any then m else r) →
    (if holds then permit else l) ≡ (if holds || any then (if holds then permit else m) else r)
decide_cases true any permit l m r e = refl
decide_cases false any permit l m r e = e

decides_append : (h : CommunityLine → Bool) (xs ys : List CommunityLine) →
    first_line_decides h (xs ++ ys) ≡ (if list_any h xs then first_line_decides h xs else first_line_decides h ys)
decides_append h [] ys = refl
decides_append h (x ∷ xs) ys = decide_cases (h x) (list_any h xs) x.permit (first_line_decides h (xs ++ ys)) (first_line_decides h xs) (first_line_decides h ys)
    (decides_append h xs ys)

pub decision_inside : (old new : Shown) (carried : Carried) (lines : List CommunityLine) (d : Decision) → IsDecision old new carried lines d
    → IsDecisionInside new d
decision_inside old new carried lines d is = record { holds = is.holds.inside; permits = is.permits.inside }

pub inside_later : (old new : Shown) (d : Decision) → Grows old new → IsDecisionInside old d → IsDecisionInside new d
inside_later old new d g i = record { holds = grows_inside old new d.holds g i.holds; permits = grows_inside old new d.permits g i.permits }

-- the first decides where it holds
pub first_decision : (old mid new : Shown) (first last : Decision) (holds permits : ℕ) → Grows old mid → Grows mid new → IsDecisionInside old first →
    IsDecisionInside old last → Means mid holds (λ set. value_of old set first.holds || value_of old set last.holds) →
    IsIteOfSets mid new first.holds first.permits last.permits permits → IsFirstDecision old new first last (record { holds = holds; permits = permits })
first_decision old mid new first last holds permits g g' fi li of_holds of_permits = record {
  holds = means_kept mid new holds (λ set. value_of old set first.holds || value_of old set last.holds) g' of_holds;
  permits = record {
    inside = of_permits.inside;
    value = λ set. of_permits.value set ∙ rw (
      value_of_kept old mid set first.holds g fi.holds,
      value_of_kept old mid set first.permits g fi.permits,
      value_of_kept old mid set last.permits g li.permits,
    ) refl;
  };
}

-- no line
pub none_decide : (shown : Shown) (carried : Carried) (never : ℕ) → Means shown never (λ _. false) →
    IsDecision shown shown carried [] (record { holds = never; permits = never })
none_decide shown carried never is = record {
  holds = record { inside = is.inside; value = is.value };
  permits =
      record { inside = is.inside; value = is.value };
}

or_no : (b : Bool) → b ≡ b || false
or_no true = refl
or_no false = refl

permits_if : (b p : Bool) → p ≡ true → b ≡ (if b then p else false)
permits_if true p e = sym e
permits_if false p e = refl

denies_if : (b p : Bool) → p ≡ false → false ≡ (if b then p else false)
denies_if true p e = sym e
denies_if false p e = refl

-- one line, that permits or denies
pub one_permits : (old new : Shown) (carried : Carried) (line : CommunityLine) (comms : List ℕ) (node : ℕ) → comms ≡ line.comms → line.permit ≡ true →
    Means new node (λ set. list_all (has_in old carried set) comms) → IsDecision old new carried (line ∷ []) (record { holds = node; permits = node })
one_permits old new carried line comms node e p is = record {
  holds = record {
    inside = is.inside;
    value = λ set. is.value set ∙ ap (λ (l : List ℕ). list_all (has_in old carried set) l) e
        ∙ or_no (plain_by (has_in old carried set) line);
  };
  permits = record {
    inside = is.inside;
    value = λ set. is.value set ∙ ap (λ (l : List ℕ). list_all (has_in old carried set) l) e
        ∙ permits_if (plain_by (has_in old carried set) line) line.permit p;
  };
}

pub one_denies : (old new : Shown) (carried : Carried) (line : CommunityLine) (comms : List ℕ) (node never : ℕ) → comms ≡ line.comms → line.permit ≡ false →
    Means new node (λ set. list_all (has_in old carried set) comms) → Means new never (λ _. false) →
    IsDecision old new carried (line ∷ []) (record { holds = node; permits = never })
one_denies old new carried line comms node never e p is none = record {
  holds = record {
    inside = is.inside;
    value = λ set. is.value set ∙ ap (λ (l : List ℕ). list_all (has_in old carried set) l) e
        ∙ or_no (plain_by (has_in old carried set) line);
  };
  permits = record { inside = none.inside; value = λ set. none.value set ∙ denies_if (plain_by (has_in old carried set) line) line.permit p };
}

-- two parts of a list
pub decision_append : (old mid mid' new : Shown) (carried : Carried) (front back : List CommunityLine) (first last d : Decision) → AreNodesInside old carried →
    Grows old mid → Grows mid mid' → IsDecision old mid carried front first → IsDecision mid mid' carried back last → IsFirstDecision mid' new first last d →
    IsDecision old new carried (front ++ back) d
decision_append old mid mid' new carried front back first last d inside g g' of_first of_last is = record {
  holds = record {
    inside = is.holds.inside;
    value = λ set. is.holds.value set ∙ rw (first_holds set, last_holds set) (sym (list_any-append (plain_by (has_in old carried set)) front back));
  };
  permits = record {
    inside = is.permits.inside;
    value = λ set. is.permits.value set ∙ rw (first_holds set, first_permits set, last_permits set)
        (sym (decides_append (plain_by (has_in old carried set)) front back));
  };
}
  where
    first_holds : (set : List ℕ) → value_of mid' set first.holds ≡ list_any (plain_by (has_in old carried set)) front
    first_holds set = value_of_kept mid mid' set first.holds g' of_first.holds.inside ∙ of_first.holds.value set

    first_permits : (set : List ℕ) → value_of mid' set first.permits ≡ first_line_decides (plain_by (has_in old carried set)) front
    first_permits set = value_of_kept mid mid' set first.permits g' of_first.permits.inside ∙ of_first.permits.value set

    last_holds : (set : List ℕ) → value_of mid' set last.holds ≡ list_any (plain_by (has_in old carried set)) back
    last_holds set = of_last.holds.value set ∙ ap (λ (t : ℕ → Bool). list_any (plain_by t) back) (there_kept old mid carried set g inside)

    last_permits : (set : List ℕ) → value_of mid' set last.permits ≡ first_line_decides (plain_by (has_in old carried set)) back
    last_permits set = of_last.permits.value set ∙ ap (λ (t : ℕ → Bool). first_line_decides (plain_by t) back) (there_kept old mid carried set g inside)
