-- Matches over what is known of a set are matches over the set.
use Rattle.std.proofs.Common.{◌≡◌, ℕ, Bool, true, false, not, ◌&&◌, ◌||◌, nat_eq, List, [], ◌∷◌, Option, Some, None, refl, sym, ◌∙◌, ap, inl, inr}
use Rattle.std.specs.Prelude.{if◌then◌else◌, IfSome}
use Rattle.std.specs.List.{list_all, list_any, find, AllByRecursion}
use Rattle.std.proofs.lemmas.Bool.{cases_eq}
use Rattle.base_kit.specs.Sets.{has}
use Rattle.base_kit.proofs.SetFacts.{same_number, other_number}
use Rattle.cfg_ast.specs.declared.policy.CommunityLine.{CommunityLine}
use Rattle.cfg_ast.specs.declared.policy.CommunityList.{CommunityList}
use Rattle.cfg_ast.specs.meaning.Lists.{line_holds, line_is, first_line_decides}
use Rattle.cfg_ast.specs.meaning.Policy.{list_answer}
use Rattle.route_maps.specs.declared.plain.PlainEntry.{PlainEntry}
use Rattle.route_maps.specs.declared.plain.Verdict.{Verdict}
use Rattle.route_maps.specs.declared.plain.Verdict.TheVariants.{Deny}
use Rattle.route_maps.specs.Maps.{lists_hold, entry_holds, entry_verdict, verdict}
use Rattle.route_maps.specs.Within.{AreWithin, IsLineWithin, AreListsWithin}
use Rattle.dd_core.specs.Sets.{has_others}
use Rattle.policy_dd.specs.Matches.{exact_part, exact_by, line_by, list_by, lists_by, entry_by, IsSeenAs}
use Rattle.policy_dd.proofs.MatchLemmas.{within_each, all_within}

both_true : (a b : Bool) → (a ≡ true → b ≡ true) → (b ≡ true → a ≡ true) → a ≡ b
both_true true b f g = sym (f refl)
both_true false true f g = g refl
both_true false false f g = refl

and_true : (a b : Bool) → a && b ≡ true → (a ≡ true) × (b ≡ true)
and_true true b e = (refl, e)
and_true false b e = absurd cc

or_here : (a b : Bool) → a ≡ true → a || b ≡ true
or_here a b e = rw e refl

or_there : (a b : Bool) → b ≡ true → a || b ≡ true
or_there true b e = refl
or_there false b e = e

-- a test that agrees on the list's communities
pub all_agree : (p q : ℕ → Bool) (comms : List ℕ) → ((c : ℕ) → has comms c ≡ true → p c ≡ q c) → list_all p comms ≡ list_all q comms
all_agree p q [] same = refl
all_agree p q (c ∷ comms) same =
    let rest = all_agree p q comms (λ d there. same d (or_there (nat_eq c d) (has comms d) there)) in
    rw (same c (or_here (nat_eq c c) (has comms c) (same_number c c refl)), rest) refl

all_true : (p : ℕ → Bool) (comms : List ℕ) → ((c : ℕ) → has comms c ≡ true → p c ≡ true) → list_all p comms ≡ true
all_true p [] same = refl
all_true p (c ∷ comms) same =
    let rest = all_true p comms (λ d there. same d (or_there (nat_eq c d) (has comms d) there)) in
    rw (same c (or_here (nat_eq c c) (has comms c) (same_number c c refl)), rest) refl

-- what all pass, each passes
pub each_true : (p : ℕ → Bool) (comms : List ℕ) (c : ℕ) → list_all p comms ≡ true → has comms c ≡ true → p c ≡ true
each_true p [] c all there = absurd cc
each_true p (d ∷ comms) c all there =
    let parts = and_true (p d) (list_all p comms) all in
    elim (cases_eq d c) [
      | inl e ↦ ap p (sym e) ∙ parts.0
      | inr ne ↦ each_true p comms c parts.1 (rw (other_number d c ne) at there)
    ]

or_none : (a b : Bool) → a || b ≡ false → (a ≡ false) × (b ≡ false)
or_none true b e = absurd cc
or_none false b e = (refl, e)

not_false : (b : Bool) → not b ≡ false → b ≡ true
not_false true e = refl
not_false false e = absurd cc

none_other : (universe set : List ℕ) (c : ℕ) → has_others universe set ≡ false → has set c ≡ true → has universe c ≡ true
none_other universe [] c none there = absurd cc
none_other universe (d ∷ set) c none there =
    let parts = or_none (not (has universe d)) (has_others universe set) none in
    elim (cases_eq d c) [
      | inl e ↦ ap (has universe) (sym e) ∙ not_false (has universe d) parts.0
      | inr ne ↦ none_other universe set c parts.1 (rw (other_number d c ne) at there)
    ]

pub no_others : (universe wants : List ℕ) → AreWithin universe wants → has_others universe wants ≡ false
no_others universe [] known = refl
no_others universe (c ∷ wants) known =
    rw (known.0, no_others universe wants known.1) refl

wanted_true : (a b : Bool) → a ≡ b → (if a then b else not b) ≡ true
wanted_true true true e = refl
wanted_true false false e = refl
wanted_true true false e = absurd cc
wanted_true false true e = absurd cc

wanted_same : (a b : Bool) → (if a then b else not b) ≡ true → a ≡ b
wanted_same true true e = refl
wanted_same false false e = refl
wanted_same true false e = absurd cc
wanted_same false true e = absurd cc

not_true : (b : Bool) → not b ≡ true → b ≡ false
not_true true e = absurd cc
not_true false e = refl

same_outside : (a b u : Bool) → (a ≡ true → u ≡ true) → (b ≡ true → u ≡ true) → (u ≡ true → a ≡ b) → a ≡ b
same_outside a b true f g h = h refl
same_outside true b false f g h = absurd (let e = f refl in cc)
same_outside false true false f g h = absurd (let e = g refl in cc)
same_outside false false false f g h = refl

same_answers : (a b : Bool) → (a ≡ true → b ≡ true) → (b ≡ true → a ≡ true) → a ≡ b
same_answers true b f g = sym (f refl)
same_answers false true f g = g refl
same_answers false false f g = refl

-- all wanted ones are there, and all that are there are wanted
abbrev is_wanted : (wants set : List ℕ) → Bool
is_wanted wants set = list_all (λ c. has set c) wants && list_all (λ c. has wants c) set

exact_bridge : (universe set wants : List ℕ) (there : ℕ → Bool) (others : Bool) → IsSeenAs universe set there others → AreWithin universe wants →
    exact_by universe there others wants ≡ is_wanted wants set
exact_bridge universe set wants there others seen known =
    both_true (exact_by universe there others wants) (is_wanted wants set)
    (λ e.
    let parts = and_true (not others) (exact_part there wants universe) e in
    let none : has_others universe set ≡ false = sym seen.others_is ∙ not_true others parts.0 in
    let alike = λ (c : ℕ) (u : has universe c ≡ true).
    wanted_same (has wants c) (there c) (each_true (λ d. if has wants d then there d else not (there d)) universe c parts.1 u) ∙ seen.there_is c u in
    rw (
      all_true (λ c. has set c) wants (λ c in_wants. sym (alike c (within_each universe wants c known in_wants)) ∙ in_wants),
      all_true (λ c. has wants c) set (λ c in_set. alike c (none_other universe set c none in_set) ∙ in_set),
    ) refl)
    (λ e.
    let parts = and_true (list_all (λ c. has set c) wants) (list_all (λ c. has wants c) set) e in
    let inside : AreWithin universe set = all_within universe set
    (λ c in_set. within_each universe wants c known (each_true (λ d. has wants d) set c parts.1 in_set)) in
    let o : others ≡ false = seen.others_is ∙ no_others universe set inside in
    let all = all_true (λ d. if has wants d then there d else not (there d)) universe
    (λ c u. wanted_true (has wants c) (there c)
    (same_answers (has wants c) (has set c) (λ w. each_true (λ d. has set d) wants c parts.0 w) (λ s. each_true (λ d. has wants d) set c parts.1 s)
    ∙ sym (seen.there_is c u))) in
    rw (o, all) refl)

line_bridge : (universe set : List ℕ) (there : ℕ → Bool) (others exact : Bool) (line : CommunityLine) → IsSeenAs universe set there others →
    IsLineWithin universe line → line_by universe there others exact line ≡ (if exact then line_is set line else line_holds set line)
line_bridge universe set there others true line seen known = exact_bridge universe set line.comms there others seen known
line_bridge universe set there others false line seen known =
    all_agree there (λ c. has set c) line.comms (λ c in_line. seen.there_is c (within_each universe line.comms c known in_line))

answer_bridge : (universe set : List ℕ) (there : ℕ → Bool) (others exact : Bool) (lines : List CommunityLine) → IsSeenAs universe set there others →
    AllByRecursion (IsLineWithin universe) lines →
    first_line_decides (line_by universe there others exact) lines ≡ first_line_decides (λ line. if exact then line_is set line else line_holds set line) lines
answer_bridge universe set there others exact [] seen known = refl
answer_bridge universe set there others exact (line ∷ lines) seen known =
    rw (line_bridge universe set there others exact line seen known.0, answer_bridge universe set there others exact lines seen known.1) refl

answer_is : (set : List ℕ) (exact : Bool) (list : CommunityList) →
    first_line_decides (λ line. if exact then line_is set line else line_holds set line) list.lines ≡ list_answer exact set list
answer_is set true list = refl
answer_is set false list = refl

lists_bridge : (universe set : List ℕ) (there : ℕ → Bool) (others exact : Bool) (lists : List CommunityList) → IsSeenAs universe set there others →
    AreListsWithin universe lists → list_any (list_by universe there others exact) lists ≡ list_any (list_answer exact set) lists
lists_bridge universe set there others exact [] seen known = refl
lists_bridge universe set there others exact (list ∷ lists) seen known =
    let e1 = answer_bridge universe set there others exact list.lines seen known.0 ∙ answer_is set exact list in
    rw (e1, lists_bridge universe set there others exact lists seen known.1) refl

matches_bridge : (universe set : List ℕ) (there : ℕ → Bool) (others exact : Bool) (lists : Option (List CommunityList)) → IsSeenAs universe set there others →
    IfSome lists (AreListsWithin universe) → lists_by universe there others exact lists ≡ lists_hold exact set lists
matches_bridge universe set there others exact None seen known = refl
matches_bridge universe set there others exact (Some lists) seen known = lists_bridge universe set there others exact lists seen known

pub entry_bridge : (universe set : List ℕ) (there : ℕ → Bool) (others : Bool) (entry : PlainEntry) → IsSeenAs universe set there others →
    IfSome entry.lists (AreListsWithin universe) → entry_by universe there others entry ≡ entry_holds set entry
entry_bridge universe set there others entry seen known = matches_bridge universe set there others entry.exact entry.lists seen known

-- the verdict is that of the entry that decides
abbrev pub verdict_of : Option PlainEntry → List ℕ → Verdict
verdict_of None set = Deny
verdict_of (Some entry) set = entry_verdict entry set

pub verdict_is : (entries : List PlainEntry) (set : List ℕ) → verdict entries set ≡ verdict_of (find (entry_holds set) entries) set
verdict_is [] set = refl
verdict_is (entry ∷ entries) set = by (entry_holds set entry) (verdict_is entries set)
  where
    by : (b : Bool) → verdict entries set ≡ verdict_of (find (entry_holds set) entries) set →
        (if b then entry_verdict entry set else verdict entries set) ≡ verdict_of (if b then Some entry else find (entry_holds set) entries) set
    by true rest = refl
    by false rest = rest
