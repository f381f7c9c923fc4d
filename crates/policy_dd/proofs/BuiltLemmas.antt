-- Nodes that are made as `Built.antt` says have the form of a session.
use Rattle.std.proofs.Common.{◌≡◌, ℕ, Bool, true, false, not, ◌&&◌, ◌||◌, nat_eq, List, [], ◌∷◌, Option, Some, None, refl, sym, ◌∙◌, ap, arith, inl, inr}
use Rattle.std.specs.List.{list_any, AllByRecursion}
use Rattle.std.specs.Option.{unwrap_or}
use Rattle.std.specs.Prelude.{if◌then◌else◌, IfSome}
use Rattle.std.proofs.lemmas.Bool.{cases_eq}
use Rattle.std.proofs.lemmas.Bool.Decides.{nat_tests}
use Rattle.base_kit.specs.Sets.{has, with_number}
use Rattle.base_kit.proofs.SetFacts.{same_number, other_number, has-with_number}
use Rattle.cfg_ast.specs.declared.policy.CommunityLine.{CommunityLine}
use Rattle.cfg_ast.specs.declared.policy.CommunityList.{CommunityList}
use Rattle.cfg_ast.specs.meaning.Lists.{first_line_decides}
use Rattle.route_maps.specs.declared.plain.PlainEntry.{PlainEntry}
use Rattle.route_maps.specs.declared.plain.Plain.{Plain}
use Rattle.route_maps.specs.declared.plain.Imported.{Imported}
use Rattle.route_maps.specs.Maps.{import_of}
use Rattle.route_maps.specs.Within.{IsLineWithin, AreListsWithin}
use Rattle.dd_core.specs.Sets.{Shown, value_of, has_others}
use Rattle.policy_dd.specs.declared.edge.EdgeFn.{EdgeFn}
use Rattle.policy_dd.specs.Edge.{keys_of, by_number, carried_by_rest, is_carried, ImportIs, IsOneOf, IsEdgeFn}
use Rattle.policy_dd.specs.Deletion.{put_by_change, leaves_unnamed}
use Rattle.policy_dd.specs.Matches.{line_by, list_by, lists_by, entry_by, first_of, decided}
use Rattle.policy_dd.specs.MapRun.{permits_it, puts, leaves_it, leaves_rest}
use Rattle.policy_dd.specs.Import.{others_after, there_sent, others_sent, second_deciding, both_permit, others_kept, there_after_both, GivenBy, IsEntryFit, AreFit}
use Rattle.policy_dd.specs.Built.{IsBuilt}
use Rattle.policy_dd.proofs.CaseLemmas.{case_absent}
use Rattle.policy_dd.proofs.BridgeLemmas.{all_agree}
use Rattle.policy_dd.proofs.DeletionLemmas.{leaves_outside}
use Rattle.policy_dd.proofs.MatchLemmas.{within_each}
use Rattle.policy_dd.proofs.RunLemmas.{named_known}
use Rattle.policy_dd.proofs.ImportLemmas.{import_seen, found_fit}

-- tests that agree on the universe decide alike
module _ (universe : List ℕ) (p q : ℕ → Bool) (o : Bool) (same : (c : ℕ) → has universe c ≡ true → p c ≡ q c) where
  line_agree : (exact : Bool) (line : CommunityLine) → IsLineWithin universe line → line_by universe p o exact line ≡ line_by universe q o exact line
  line_agree true line known = ap (λ b. not o && b)
      (all_agree (λ c. if has line.comms c then p c else not (p c)) (λ c. if has line.comms c then q c else not (q c)) universe (λ c u. rw (same c u) refl))
  line_agree false line known = all_agree p q line.comms (λ c there. same c (within_each universe line.comms c known there))

  answer_agree : (exact : Bool) (lines : List CommunityLine) → AllByRecursion (IsLineWithin universe) lines →
      first_line_decides (line_by universe p o exact) lines ≡ first_line_decides (line_by universe q o exact) lines
  answer_agree exact [] known = refl
  answer_agree exact (line ∷ lines) known = rw (line_agree exact line known.0, answer_agree exact lines known.1) refl

  lists_agree : (exact : Bool) (lists : List CommunityList) → AreListsWithin universe lists →
      list_any (list_by universe p o exact) lists ≡ list_any (list_by universe q o exact) lists
  lists_agree exact [] known = refl
  lists_agree exact (list ∷ lists) known = rw (answer_agree exact list.lines known.0, lists_agree exact lists known.1) refl

  matches_agree : (exact : Bool) (lists : Option (List CommunityList)) → IfSome lists (AreListsWithin universe) →
      lists_by universe p o exact lists ≡ lists_by universe q o exact lists
  matches_agree exact None known = refl
  matches_agree exact (Some lists) known = lists_agree exact lists known

  first_agree : (entries : List PlainEntry) → AreFit universe entries → first_of universe entries p o ≡ first_of universe entries q o
  first_agree [] fit = refl
  first_agree (entry ∷ entries) fit = rw (matches_agree entry.exact entry.lists fit.0.within.lists, first_agree entries fit.1) refl

sent_agree : (universe : List ℕ) (p q : ℕ → Bool) (sends : Bool) (one : Option PlainEntry) → ((c : ℕ) → has universe c ≡ true → p c ≡ q c) → (c : ℕ) →
    has universe c ≡ true → there_sent sends one p c ≡ there_sent sends one q c
sent_agree universe p q sends one same c u = rw (same c u) refl

kept_agree : (universe : List ℕ) (p q : ℕ → Bool) (o : Bool) (out : List PlainEntry) (sends : Bool) (into : List PlainEntry) →
    ((c : ℕ) → has universe c ≡ true → p c ≡ q c) → AreFit universe out → AreFit universe into →
    others_kept universe out sends into p o ≡ others_kept universe out sends into q o
kept_agree universe p q o out sends into same fit fit' =
    let e1 = first_agree universe p q o same out fit in
    let f : Option PlainEntry → Bool = λ one. others_after (first_of universe into (there_sent sends one p) (others_sent sends one o)) (others_sent sends one o)
    in
    let one : Option PlainEntry = first_of universe out q o in
    let e2 = first_agree universe (there_sent sends one p) (there_sent sends one q) (others_sent sends one o) (sent_agree universe p q sends one same) into fit'
    in
    ap f e1 ∙ ap (λ (two : Option PlainEntry). others_after two (others_sent sends one o)) e2

keeps_permits : (found : Option PlainEntry) → decided leaves_rest found ≡ true → decided permits_it found ≡ true
keeps_permits None e = absurd cc
keeps_permits (Some entry) e = by entry.permit (leaves_unnamed entry) e
  where
    by : (a b : Bool) → a && b ≡ true → a ≡ true
    by true b e = refl
    by false b e = e

all_three : (a b c : Bool) → (a && b) && c ≡ true → (b ≡ true) × (c ≡ true)
all_three true true true e = (refl, refl)
all_three true true false e = absurd cc
all_three true false c e = absurd cc
all_three false b c e = absurd cc

kept_accepts : (universe : List ℕ) (out : List PlainEntry) (sends : Bool) (into : List PlainEntry) (there : ℕ → Bool) →
    others_kept universe out sends into there true ≡ true → both_permit universe out sends into there true ≡ true
kept_accepts universe out sends into there e =
    let both = all_three sends (decided leaves_rest (first_of universe out there true))
    (decided leaves_rest (second_deciding universe out sends into there true)) e in
    rw (keeps_permits (first_of universe out there true) both.0, keeps_permits (second_deciding universe out sends into there true) both.1) refl

implied_and : (a k : Bool) → (k ≡ true → a ≡ true) → a && k ≡ k
implied_and true k f = refl
implied_and false true f = f refl
implied_and false false f = refl

others_of : (universe set : List ℕ) (c : ℕ) → has set c ≡ true → has universe c ≡ false → has_others universe set ≡ true
others_of universe [] c there none = absurd cc
others_of universe (d ∷ set) c there none = elim (cases_eq d c) [
  | inl e ↦ rw (e, none) refl
  | inr ne ↦ or_there (not (has universe d)) (has_others universe set) (others_of universe set c (rw (other_number d c ne) at there) none)
]
  where
    or_there : (a b : Bool) → b ≡ true → a || b ≡ true
    or_there true b e = refl
    or_there false b e = e

with_outside_has : (set : List ℕ) (c : ℕ) → has (with_number c set) c ≡ true
with_outside_has set c = has-with_number c set c ∙ rw (same_number c c refl) refl

with_outside_same : (universe set : List ℕ) (outside : ℕ) → has universe outside ≡ false → (c : ℕ) → has universe c ≡ true →
    has (with_number outside set) c ≡ has set c
with_outside_same universe set outside none c u = has-with_number outside set c
    ∙ rw (other_number outside c (λ e. let known = ap (has universe) e in absurd cc)) refl

puts_none : (universe : List ℕ) (c : ℕ) (found : Option PlainEntry) → ((e : PlainEntry) → found ≡ Some e → IsEntryFit universe e) → has universe c ≡ false →
    decided (puts c) found ≡ false
puts_none universe c None fits none = refl
puts_none universe c (Some entry) fits none = by (has (put_by_change entry.change) c) entry.permit refl
  where
    by : (b p : Bool) → has (put_by_change entry.change) c ≡ b → p && b ≡ false
    by true p e = let known = named_known universe entry (fits entry refl).within c e in absurd cc
    by false true e = refl
    by false false e = refl

leaves_alike : (universe : List ℕ) (c : ℕ) (found : Option PlainEntry) → ((e : PlainEntry) → found ≡ Some e → IsEntryFit universe e) → has universe c ≡ false →
    decided (leaves_it c) found ≡ decided leaves_rest found
leaves_alike universe c None fits none = refl
leaves_alike universe c (Some entry) fits none = ap (λ b. entry.permit && b) (leaves_outside universe c entry none (fits entry refl).within.delete)

one_of : (v w : ℕ) (found : Option PlainEntry) (key : PlainEntry → ℕ) → decided (λ e. e.permit && nat_eq (key e) v) found ≡ true →
    decided (λ e. e.permit && nat_eq (key e) w) found ≡ true → v ≡ w
one_of v w None key x y = absurd cc
one_of v w (Some e) key x y = by e.permit x y
  where
    by : (p : Bool) → p && nat_eq (key e) v ≡ true → p && nat_eq (key e) w ≡ true → v ≡ w
    by true x y = grind (arith, nat_tests)
    by false x y = absurd cc

and_right : (a b : Bool) → a && b ≡ true → b ≡ true
and_right true b e = e
and_right false b e = absurd cc

and_left : (a b : Bool) → a && b ≡ true → a ≡ true
and_left true b e = refl
and_left false b e = e

-- if two tests are not both true, two tests that imply them are not both true
both_false : (a b x y : Bool) → a && b ≡ false → (x ≡ true → a ≡ true) → (y ≡ true → b ≡ true) → x && y ≡ false
both_false a b true true e f g = let e1 = f refl in let e2 = g refl in let no = rw (e1, e2) at e in absurd cc
both_false a b true false e f g = refl
both_false a b false y e f g = refl

gives_permits : (found : Option PlainEntry) (test : PlainEntry → Bool) → decided (λ e. e.permit && test e) found ≡ true → decided permits_it found ≡ true
gives_permits None test e = absurd cc
gives_permits (Some entry) test e = and_left entry.permit (test entry) e

outside_there : (s h o k1 k2 a q1 q2 l1 l2 : Bool) → q1 ≡ false → q2 ≡ false → l1 ≡ k1 → l2 ≡ k2 → h ≡ true → o ≡ true → a ≡ true →
    q2 || ((s && (q1 || (h && l1))) && l2) ≡ h && (a && ((s && (o && k1)) && k2))
outside_there s h o k1 k2 a q1 q2 l1 l2 e1 e2 f1 f2 e3 e4 e5 = rw (e1, e2, f1, f2, e3, e4, e5) refl

outside_missing : (s h l1 l2 q1 q2 r : Bool) → q1 ≡ false → q2 ≡ false → h ≡ false → q2 || ((s && (q1 || (h && l1))) && l2) ≡ h && r
outside_missing true h l1 l2 q1 q2 r e1 e2 e3 = rw (e1, e2, e3) refl
outside_missing false h l1 l2 q1 q2 r e1 e2 e3 = rw (e2, e3) refl

module _ (shown : Shown) (edge : EdgeFn) (out : Plain) (sends : Bool) (into : Plain) (fit : AreFit shown.universe out.entries)
    (fit' : AreFit shown.universe into.entries) (built : IsBuilt shown edge out.entries sends into.entries) where
  outside_key : (c : ℕ) → has shown.universe c ≡ false → has (keys_of (by_number edge.outs)) c ≡ false
  outside_key c none = by (has (keys_of (by_number edge.outs)) c) refl
    where
      by : (b : Bool) → has (keys_of (by_number edge.outs)) c ≡ b → b ≡ false
      by true e = let ok = built.outs_known c e in absurd cc
      by false e = refl

  -- communities outside the universe
  carried_outside : (set : List ℕ) (c : ℕ) → has shown.universe c ≡ false → is_carried shown edge set c ≡ has set c
      && (both_permit shown.universe out.entries sends into.entries (has set) (has_others shown.universe set)
      && others_kept shown.universe out.entries sends into.entries (has set) true)
  carried_outside set c none = case_absent shown set (by_number edge.outs) c (carried_by_rest shown edge.rest c set) (outside_key c none)
      ∙ ap (λ b. has set c && b) (built.rest set)

  one_lp : (set : List ℕ) → IsOneOf shown edge.permit edge.lps set
  one_lp set = record {
    one = λ v w x y. one_of v w (second_deciding shown.universe out.entries sends into.entries (has set) (has_others shown.universe set))
        (λ e. unwrap_or e.lp 100) (and_right _ _ (sym (built.lps set v) ∙ x)) (and_right _ _ (sym (built.lps set w) ∙ y));
    implied = λ v denied. built.lps set v ∙ both_false _ _ _ _ (sym (built.permit set) ∙ denied) (λ e. e)
        (λ e. gives_permits (second_deciding shown.universe out.entries sends into.entries (has set) (has_others shown.universe set))
        (λ e. nat_eq (unwrap_or e.lp 100) v) e);
  }

  one_adds : (set : List ℕ) → IsOneOf shown edge.permit edge.adds set
  one_adds set = record {
    one = λ v w x y. one_of v w (first_of shown.universe out.entries (has set) (has_others shown.universe set)) (λ e. e.adds)
        (and_left _ _ (sym (built.adds set v) ∙ x)) (and_left _ _ (sym (built.adds set w) ∙ y));
    implied = λ v denied. built.adds set v ∙ both_false _ _ _ _ (sym (built.permit set) ∙ denied)
        (λ e. gives_permits (first_of shown.universe out.entries (has set) (has_others shown.universe set)) (λ e. nat_eq e.adds v) e) (λ e. e);
  }

  -- an outside community of an accepted import
  outside_given : (set : List ℕ) (c : ℕ) → has shown.universe c ≡ false →
      both_permit shown.universe out.entries sends into.entries (has set) (has_others shown.universe set) ≡ true →
      there_after_both shown.universe out.entries sends into.entries (has set) (has_others shown.universe set) c ≡ is_carried shown edge set c
  outside_given set c none ok =
      let one : Option PlainEntry = first_of shown.universe out.entries (has set) (has_others shown.universe set) in
      let two : Option PlainEntry = second_deciding shown.universe out.entries sends into.entries (has set) (has_others shown.universe set) in
      let fits1 = λ (e : PlainEntry) (found : one ≡ Some e). found_fit shown.universe (entry_by shown.universe (has set) (has_others shown.universe set))
      out.entries e fit found in
      let fits2 = λ (e : PlainEntry) (found : two ≡ Some e). found_fit shown.universe
      (entry_by shown.universe (there_sent sends one (has set)) (others_sent sends one (has_others shown.universe set))) into.entries e fit' found in
      by (has set c) refl (puts_none shown.universe c one fits1 none) (puts_none shown.universe c two fits2 none) (leaves_alike shown.universe c one fits1 none)
      (leaves_alike shown.universe c two fits2 none) ∙ sym (carried_outside set c none)
    where
      by : (b : Bool) → has set c ≡ b → decided (puts c) (first_of shown.universe out.entries (has set) (has_others shown.universe set)) ≡ false →
          decided (puts c) (second_deciding shown.universe out.entries sends into.entries (has set) (has_others shown.universe set)) ≡ false →
          decided (leaves_it c) (first_of shown.universe out.entries (has set) (has_others shown.universe set)) ≡ decided leaves_rest
          (first_of shown.universe out.entries (has set) (has_others shown.universe set)) →
          decided (leaves_it c) (second_deciding shown.universe out.entries sends into.entries (has set) (has_others shown.universe set)) ≡ decided leaves_rest
          (second_deciding shown.universe out.entries sends into.entries (has set) (has_others shown.universe set)) →
          there_after_both shown.universe out.entries sends into.entries (has set) (has_others shown.universe set) c ≡ has set c
          && (both_permit shown.universe out.entries sends into.entries (has set) (has_others shown.universe set)
          && others_kept shown.universe out.entries sends into.entries (has set) true)
      by true e p1 p2 l1 l2 =
          let o = others_of shown.universe set c e none in
          let k = ap (λ b. others_kept shown.universe out.entries sends into.entries (has set) b) (sym o) in
          outside_there sends (has set c) (has_others shown.universe set)
          (decided leaves_rest (first_of shown.universe out.entries (has set) (has_others shown.universe set)))
          (decided leaves_rest (second_deciding shown.universe out.entries sends into.entries (has set) (has_others shown.universe set)))
          (both_permit shown.universe out.entries sends into.entries (has set) (has_others shown.universe set))
          (decided (puts c) (first_of shown.universe out.entries (has set) (has_others shown.universe set)))
          (decided (puts c) (second_deciding shown.universe out.entries sends into.entries (has set) (has_others shown.universe set)))
          (decided (leaves_it c) (first_of shown.universe out.entries (has set) (has_others shown.universe set)))
          (decided (leaves_it c) (second_deciding shown.universe out.entries sends into.entries (has set) (has_others shown.universe set))) p1 p2 l1 l2 e o
          ok
          ∙ ap (λ b. has set c && (both_permit shown.universe out.entries sends into.entries (has set) (has_others shown.universe set) && b)) (sym k)
      by false e p1 p2 l1 l2 =
          outside_missing sends (has set c) (decided (leaves_it c) (first_of shown.universe out.entries (has set) (has_others shown.universe set)))
          (decided (leaves_it c) (second_deciding shown.universe out.entries sends into.entries (has set) (has_others shown.universe set)))
          (decided (puts c) (first_of shown.universe out.entries (has set) (has_others shown.universe set)))
          (decided (puts c) (second_deciding shown.universe out.entries sends into.entries (has set) (has_others shown.universe set)))
          (both_permit shown.universe out.entries sends into.entries (has set) (has_others shown.universe set)
          && others_kept shown.universe out.entries sends into.entries (has set) true) p1 p2 e

  to_import : (set : List ℕ) (r : Option Imported) →
      GivenBy sends (first_of shown.universe out.entries (has set) (has_others shown.universe set))
      (second_deciding shown.universe out.entries sends into.entries (has set) (has_others shown.universe set)) (has set) r → ImportIs shown edge set r
  to_import set None given = built.permit set ∙ given
  to_import set (Some i) given =
      let ok : both_permit shown.universe out.entries sends into.entries (has set) (has_others shown.universe set) ≡ true =
      rw (given.first, given.second) refl in
      record {
        permit = built.permit set ∙ ok;
        lp = built.lps set i.lp ∙ rw (given.first, given.lp) refl;
        adds = built.adds set i.adds ∙ rw (given.adds, given.second) refl;
        ascending = given.ascending;
        comms = λ c. given.comms c ∙ by (has shown.universe c) c refl ok;
      }
    where
      by : (b : Bool) (c : ℕ) → has shown.universe c ≡ b →
          both_permit shown.universe out.entries sends into.entries (has set) (has_others shown.universe set) ≡ true →
          there_after_both shown.universe out.entries sends into.entries (has set) (has_others shown.universe set) c ≡ is_carried shown edge set c
      by true c u ok = sym (built.outs set c u
          ∙ ap (λ b. b && there_after_both shown.universe out.entries sends into.entries (has set) (has_others shown.universe set) c) ok)
      by false c u ok = outside_given set c u ok

  rest_form : (set : List ℕ) (outside : ℕ) → has shown.universe outside ≡ false → value_of shown set edge.rest ≡ value_of shown set edge.permit
      && value_of shown (with_number outside set) edge.rest
  rest_form set outside none =
      let more : List ℕ = with_number outside set in
      let o : has_others shown.universe more ≡ true = others_of shown.universe more outside (with_outside_has set outside) none in
      let k = kept_agree shown.universe (has more) (has set) true out.entries sends into.entries (with_outside_same shown.universe set outside none) fit fit' in
      let r : value_of shown more edge.rest ≡ others_kept shown.universe out.entries sends into.entries (has more) true =
      built.rest more ∙ ap (λ b. both_permit shown.universe out.entries sends into.entries (has more) b
      && others_kept shown.universe out.entries sends into.entries (has more) true) o
      ∙ implied_and (both_permit shown.universe out.entries sends into.entries (has more) true)
      (others_kept shown.universe out.entries sends into.entries (has more) true) (kept_accepts shown.universe out.entries sends into.entries (has more)) in
      built.rest set ∙ ap (λ b. b && others_kept shown.universe out.entries sends into.entries (has set) true) (sym (built.permit set))
      ∙ ap (λ b. value_of shown set edge.permit && b) (sym (r ∙ k))

  carried_denied : (set : List ℕ) (c : ℕ) → value_of shown set edge.permit ≡ false → is_carried shown edge set c ≡ false
  carried_denied set c denied = by (has shown.universe c) refl
    where
      by : (b : Bool) → has shown.universe c ≡ b → is_carried shown edge set c ≡ false
      by true u = built.outs set c u ∙ ap (λ b. b && there_after_both shown.universe out.entries sends into.entries (has set) (has_others shown.universe set) c)
          (sym (built.permit set) ∙ denied)
      by false u = carried_outside set c u ∙ ap (λ b. has set c && (b && others_kept shown.universe out.entries sends into.entries (has set) true))
          (sym (built.permit set) ∙ denied) ∙ and_no (has set c)
        where
          and_no : (b : Bool) → b && false ≡ false
          and_no true = refl
          and_no false = refl

  pub built_is : IsEdgeFn shown edge (import_of out sends into)
  built_is = record {
    permit_inside = built.permit_inside;
    rest_inside = built.rest_inside;
    means = λ set up. to_import set (import_of out sends into set) (import_seen shown.universe set out.entries sends into.entries up fit fit');
    one_lp = λ set up. one_lp set;
    one_adds = λ set up. one_adds set;
    lps = built.lps_cases;
    adds = built.adds_cases;
    outs = built.outs_cases;
    outs_known = built.outs_known;
    outs_implied = λ set c up denied. carried_denied set c denied;
    rest = λ set outside up none. rest_form set outside none;
  }
