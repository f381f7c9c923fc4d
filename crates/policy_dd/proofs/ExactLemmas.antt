-- Exact matches of lines that are divided at each community.
use Rattle.std.proofs.Common.{◌≡◌, ℕ, suc, ◌-◌, ◌<◌, ◌≤◌, Bool, true, false, not, ◌&&◌, List, [], ◌∷◌, ◌++◌, length, get_or, take, drop, map, Bor, refl, sym, ◌∙◌, ap, arith}
use Rattle.std.proofs.lemmas.List.{take_all}
use Rattle.std.specs.Prelude.{◌==◌, if◌then◌else◌}
use Rattle.std.specs.List.{filter}
use Rattle.base_kit.specs.Sets.{has}
use Rattle.cfg_ast.specs.meaning.Lists.{first_line_decides}
use Rattle.cfg_ast.specs.declared.policy.CommunityLine.{CommunityLine}
use Rattle.dd_core.specs.Sets.{Shown, value_of, Grows, Means, IsIteOfSets}
use Rattle.dd_core.proofs.ShownLemmas.{value_of_kept, means_kept, grows_trans}
use Rattle.policy_dd.specs.declared.matches.Carried.{Carried}
use Rattle.policy_dd.specs.Edge.{keys_of}
use Rattle.policy_dd.specs.Exact.{just_wanted, TellCarried, AreConditions}
use Rattle.policy_dd.specs.Matches.{has_in, AreNodesInside, exact_part, exact_by, line_by}
use Rattle.policy_dd.specs.Tables.{AllInside}
use Rattle.policy_dd.proofs.DecideLemmas.{first_line_same}
use Rattle.policy_dd.proofs.MatchLemmas.{and_assoc, and_swap}
use Rattle.policy_dd.proofs.TableLemmas.{keys-append}

abbrev pub lines_now : List (Bor CommunityLine) → List CommunityLine
lines_now lines = map (λ (line : Bor CommunityLine). line.now) lines

pub tell_kept : (old mid new : Shown) (carried : Carried) (cases : List (ℕ × ℕ)) → Grows mid new → TellCarried old mid carried cases →
    TellCarried old new carried cases
tell_kept old mid new carried [] g told = tt
tell_kept old mid new carried (case ∷ cases) g told =
    (means_kept mid new case.1 (λ set. has_in old carried set case.0) g told.0, tell_kept old mid new carried cases g told.1)

pub tell_more : (old mid new : Shown) (carried : Carried) (cases : List (ℕ × ℕ)) (c node : ℕ) → Grows mid new → TellCarried old mid carried cases →
    Means new node (λ set. has_in old carried set c) → TellCarried old new carried (cases ++ (c, node) ∷ [])
tell_more old mid new carried [] c node g told is = (is, tt)
tell_more old mid new carried (case ∷ cases) c node g told is =
    (means_kept mid new case.1 (λ set. has_in old carried set case.0) g told.0, tell_more old mid new carried cases c node g told.1 is)

pub no_conditions : (shown : Shown) (carried : Carried) → AreConditions shown shown carried [] []
no_conditions shown carried = record { keys_are = refl; each = tt }

pub conditions_more : (old mid new : Shown) (carried : Carried) (communities : List ℕ) (cases : List (ℕ × ℕ)) (c node : ℕ) → Grows mid new →
    AreConditions old mid carried communities cases → Means new node (λ set. has_in old carried set c) →
    AreConditions old new carried (communities ++ c ∷ []) (cases ++ (c, node) ∷ [])
conditions_more old mid new carried communities cases c node g conditions is = record {
  keys_are = keys-append cases ((c, node) ∷ []) ∙ ap (λ (l : List ℕ). l ++ c ∷ []) conditions.keys_are;
  each = tell_more old mid new carried cases c node g conditions.each is;
}

pub told_inside : (old new : Shown) (carried : Carried) (cases : List (ℕ × ℕ)) → TellCarried old new carried cases → AllInside new cases
told_inside old new carried [] told = tt
told_inside old new carried (case ∷ cases) told = (told.0.inside, told_inside old new carried cases told.1)

pub wanted_kept : (old new : Shown) (set : List ℕ) (none : ℕ) (cases : List (ℕ × ℕ)) (wants : List ℕ) → Grows old new → none < length old.nodes →
    AllInside old cases → just_wanted new set none cases wants ≡ just_wanted old set none cases wants
wanted_kept old new set none [] wants g n inside = value_of_kept old new set none g n
wanted_kept old new set none (case ∷ cases) wants g n inside =
    rw (value_of_kept old new set case.1 g inside.0, wanted_kept old new set none cases wants g n inside.1) refl

-- the lines that name the community decide where it is there, and the others where it is not
lines_part : (v : Bool) (rest : CommunityLine → Bool) (c : ℕ) (lines : List CommunityLine) →
    first_line_decides (λ line. (if has line.comms c then v else not v) && rest line)
    lines ≡ (if v then first_line_decides rest (filter (λ line. has line.comms c) lines) else first_line_decides rest
    (filter (λ line. not (has line.comms c)) lines))
lines_part true rest c [] = refl
lines_part false rest c [] = refl
lines_part true rest c (line ∷ lines) = by (has line.comms c) refl (lines_part true rest c lines)
  where
    by : (h : Bool) → has line.comms c ≡ h →
        first_line_decides (λ line. (if has line.comms c then true else false) && rest line) lines ≡ first_line_decides rest
        (filter (λ line. has line.comms c) lines) →
        first_line_decides (λ line. (if has line.comms c then true else false) && rest line) (line ∷ lines) ≡ first_line_decides rest
        (filter (λ line. has line.comms c) (line ∷ lines))
    by true e later = rw e (ap (λ b. if rest line then line.permit else b) later)
    by false e later = rw e later
lines_part false rest c (line ∷ lines) = by (has line.comms c) refl (lines_part false rest c lines)
  where
    by : (h : Bool) → has line.comms c ≡ h →
        first_line_decides (λ line. (if has line.comms c then false else true) && rest line) lines ≡ first_line_decides rest
        (filter (λ line. not (has line.comms c)) lines) →
        first_line_decides (λ line. (if has line.comms c then false else true) && rest line) (line ∷ lines) ≡ first_line_decides rest
        (filter (λ line. not (has line.comms c)) (line ∷ lines))
    by true e later = rw e later
    by false e later = rw e (ap (λ b. if rest line then line.permit else b) later)

pub answer_parts : (old mid mid' new : Shown) (none : ℕ) (case : ℕ × ℕ) (cases : List (ℕ × ℕ)) (lines named unnamed : List CommunityLine) (high low node : ℕ) →
    AllInside old (case ∷ cases) → none < length old.nodes → Grows old mid → Grows mid mid' →
    named ≡ filter (λ line. has line.comms case.0) lines → unnamed ≡ filter (λ line. not (has line.comms case.0)) lines →
    Means mid high (λ set. first_line_decides (λ line. just_wanted old set none cases line.comms) named) →
    Means mid' low (λ set. first_line_decides (λ line. just_wanted mid set none cases line.comms) unnamed) →
    IsIteOfSets mid' new case.1 high low node →
    Means new node (λ set. first_line_decides (λ line. just_wanted old set none (case ∷ cases) line.comms) lines)
answer_parts old mid mid' new none case cases lines named unnamed high low node inside n g g' en eu of_high of_low ite = record {
  inside = ite.inside;
  value = λ set.
      let there = value_of_kept old mid' set case.1 (grows_trans old mid mid' g g') inside.0 in
      let h = value_of_kept mid mid' set high g' of_high.inside ∙ of_high.value set
      ∙ ap (λ (l : List CommunityLine). first_line_decides (λ line. just_wanted old set none cases line.comms) l) en in
      let l = of_low.value set ∙ first_line_same (λ line. just_wanted mid set none cases line.comms) (λ line. just_wanted old set none cases line.comms) unnamed
      (λ line. wanted_kept old mid set none cases line.comms g n inside.1)
      ∙ ap (λ (l : List CommunityLine). first_line_decides (λ line. just_wanted old set none cases line.comms) l) eu in
      ite.value set ∙ rw (there, h, l) (sym (lines_part (value_of old set case.1) (λ line. just_wanted old set none cases line.comms) case.0 lines));
}

none_decides : (lines : List CommunityLine) → first_line_decides (λ _. false) lines ≡ false
none_decides [] = refl
none_decides (line ∷ lines) = none_decides lines

first_decides : (b : Bool) (line : CommunityLine) (lines : List CommunityLine) → b && line.permit ≡ first_line_decides (λ _. b) (line ∷ lines)
first_decides true line lines = refl
first_decides false line lines = sym (none_decides lines)

-- no community left
pub answer_at_end : (shown : Shown) (none : ℕ) (lines : List (Bor CommunityLine)) (line : Bor CommunityLine) (node : ℕ) → (length lines == 0) ≡ false →
    line ≡ get_or lines 0 line → Means shown node (λ set. value_of shown set none && line.now.permit) →
    Means shown node (λ set. first_line_decides (λ line. just_wanted shown set none [] line.comms) (map (λ (line : Bor CommunityLine). line.now) lines))
answer_at_end shown none [] line node some at is = absurd cc
answer_at_end shown none (first ∷ lines) line node some at is = record {
  inside = is.inside;
  value = λ set. is.value set ∙ ap (λ (l : Bor CommunityLine). value_of shown set none && l.now.permit) at
      ∙ first_decides (value_of shown set none) first.now (map (λ (line : Bor CommunityLine). line.now) lines);
}

-- no line
pub answer_of_none : (shown : Shown) (none : ℕ) (cases : List (ℕ × ℕ)) (lines : List (Bor CommunityLine)) (node : ℕ) → length lines ≡ 0 →
    Means shown node (λ _. false) → Means shown node
    (λ set. first_line_decides (λ line. just_wanted shown set none cases line.comms) (map (λ (line : Bor CommunityLine). line.now) lines))
answer_of_none shown none cases [] node e is = record { inside = is.inside; value = is.value }
answer_of_none shown none cases (line ∷ lines) node e is = absurd (omega arith)

wanted_is : (old new : Shown) (carried : Carried) (set : List ℕ) (none : ℕ) (cases : List (ℕ × ℕ)) (wants : List ℕ) → TellCarried old new carried cases →
    just_wanted new set none cases wants ≡ exact_part (has_in old carried set) wants (keys_of cases) && value_of new set none
wanted_is old new carried set none [] wants told = refl
wanted_is old new carried set none (case ∷ cases) wants told =
    rw (told.0.value set, wanted_is old new carried set none cases wants told.1)
    (and_assoc (if has wants case.0 then has_in old carried set case.0 else not (has_in old carried set case.0))
    (exact_part (has_in old carried set) wants (keys_of cases)) (value_of new set none))

pub exact_answer_is : (s0 s1 s2 s3 : Shown) (carried : Carried) (universe : List ℕ) (cases : List (ℕ × ℕ)) (all lines : List CommunityLine) (none node : ℕ) →
    AreNodesInside s0 carried → Grows s0 s1 → Grows s1 s2 → AreConditions s0 s1 carried universe cases → universe ≡ s0.universe →
    Means s2 none (λ set. not (value_of s1 set carried.others)) → all ≡ lines →
    Means s3 node (λ set. first_line_decides (λ line. just_wanted s2 set none cases line.comms) all) →
    Means s3 node (λ set. first_line_decides (line_by s0.universe (has_in s0 carried set) (value_of s0 set carried.others) true) lines)
exact_answer_is s0 s1 s2 s3 carried universe cases all lines none node inside g g' conditions e of_none el is = record {
  inside = is.inside;
  value = λ set.
      is.value set
      ∙ first_line_same (λ line. just_wanted s2 set none cases line.comms) (line_by s0.universe (has_in s0 carried set) (value_of s0 set carried.others) true)
      all (λ line. each set line)
      ∙ ap (λ (l : List CommunityLine). first_line_decides (line_by s0.universe (has_in s0 carried set) (value_of s0 set carried.others) true) l) el;
}
  where
    each : (set : List ℕ) (line : CommunityLine) →
        just_wanted s2 set none cases line.comms ≡ exact_by s0.universe (has_in s0 carried set) (value_of s0 set carried.others) line.comms
    each set line =
        wanted_is s0 s2 carried set none cases line.comms (tell_kept s0 s1 s2 carried cases g' conditions.each)
        ∙ ap (λ (u : List ℕ). exact_part (has_in s0 carried set) line.comms u && value_of s2 set none) (conditions.keys_are ∙ e)
        ∙ ap (λ b. exact_part (has_in s0 carried set) line.comms s0.universe && b)
        (of_none.value set ∙ ap not (value_of_kept s0 s1 set carried.others g inside.others))
        ∙ and_swap (exact_part (has_in s0 carried set) line.comms s0.universe) (not (value_of s0 set carried.others))

-- where others are always carried, no set is exactly the wanted one
pub exactly_never : (shown : Shown) (carried : Carried) (lines : List CommunityLine) (always never : ℕ) → Means shown always (λ _. true) →
    ((set : List ℕ) → value_of shown set carried.others ≡ value_of shown set always) → Means shown never (λ _. false) →
    Means shown never (λ set. first_line_decides (line_by shown.universe (has_in shown carried set) (value_of shown set carried.others) true) lines)
exactly_never shown carried lines always never of_always same is = record {
  inside = is.inside;
  value = λ set. is.value set ∙ sym (first_line_same (line_by shown.universe (has_in shown carried set) (value_of shown set carried.others) true) (λ _. false)
      lines (λ line. ap (λ b. not b && exact_part (has_in shown carried set) line.comms shown.universe) (same set ∙ of_always.value set)) ∙ none_decides lines);
}

-- the first case of a table, and the rest
pub front_rest : (xs : List (ℕ × ℕ)) (case : ℕ × ℕ) → 1 ≤ length xs → case ≡ get_or xs 0 case → xs ≡ case ∷ take (length xs - 1) (drop 1 xs)
front_rest [] case some at = absurd (omega arith)
front_rest (x ∷ xs) case some at =
    let all : take (suc (length xs) - 1) xs ≡ xs = take_all (suc (length xs) - 1) xs (omega arith) in
    rw (at, all) refl

pub rest_shorter : (xs : List (ℕ × ℕ)) → 1 ≤ length xs → length (take (length xs - 1) (drop 1 xs)) < length xs
rest_shorter [] some = absurd (omega arith)
rest_shorter (x ∷ xs) some =
    let all : take (suc (length xs) - 1) xs ≡ xs = take_all (suc (length xs) - 1) xs (omega arith) in
    rw all (omega arith)
