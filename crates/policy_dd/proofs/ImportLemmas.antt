-- An import by what is known of the set.
use Rattle.std.proofs.Common.{◌≡◌, ℕ, Bool, true, false, cond, not, ◌&&◌, ◌||◌, List, [], ◌∷◌, ◌++◌, filter, Option, Some, None, refl, sym, ◌∙◌, ap, subst, inl, inr}
use Rattle.std.specs.List.{find, AllByRecursion}
use Rattle.std.specs.Option.{unwrap_or}
use Rattle.std.specs.Prelude.{if◌then◌else◌, IfSome}
use Rattle.std.proofs.lemmas.Bool.{cases_order}
use Rattle.base_kit.specs.Sets.{has, IsAscending, with_number, with_numbers}
use Rattle.base_kit.proofs.Members.{with_same, with_less, with_more}
use Rattle.base_kit.proofs.SetFacts.{same_number, ascending_filter, ascending_with_numbers}
use Rattle.cfg_ast.specs.declared.policy.Change.{Change}
use Rattle.cfg_ast.specs.declared.policy.Change.TheVariants.{Clear, Replace, Append}
use Rattle.cfg_ast.specs.declared.policy.CommunityList.{CommunityList}
use Rattle.cfg_ast.specs.meaning.Lists.{community_list_permits}
use Rattle.cfg_ast.specs.meaning.Policy.{after_change, without_deleted_by}
use Rattle.route_maps.specs.declared.plain.PlainEntry.{PlainEntry}
use Rattle.route_maps.specs.declared.plain.Verdict.TheVariants.{Deny, Permit}
use Rattle.route_maps.specs.Maps.{entry_holds, comms_after, verdict, received, accepted}
use Rattle.route_maps.specs.Within.{AreWithin, IsListWithin, IsEntryWithin}
use Rattle.dd_core.specs.Sets.{has_others}
use Rattle.policy_dd.specs.Deletion.{put_by_change, keeps_rest, spares, spares_unnamed, leaves, leaves_unnamed}
use Rattle.policy_dd.specs.Matches.{entry_by, first_of, IsSeenAs}
use Rattle.policy_dd.specs.Import.{there_after, others_after, there_sent, others_sent, second_deciding, IsGivenByEntries, GivenBy, IsEntryFit, AreFit}
use Rattle.policy_dd.proofs.DeletionLemmas.{has-comms_after, spares_outside}
use Rattle.policy_dd.proofs.RunLemmas.{named_within}
use Rattle.policy_dd.proofs.BridgeLemmas.{entry_bridge, verdict_of, verdict_is, no_others}

-- the same entry decides
pub same_first : (universe set : List ℕ) (there : ℕ → Bool) (others : Bool) (entries : List PlainEntry) → IsSeenAs universe set there others →
    AreFit universe entries → find (entry_by universe there others) entries ≡ find (entry_holds set) entries
same_first universe set there others [] seen fit = refl
same_first universe set there others (entry ∷ entries) seen fit =
    rw (entry_bridge universe set there others entry seen fit.0.within.lists, same_first universe set there others entries seen fit.1) refl

-- an entry that was found is one of the list
pub found_fit : (universe : List ℕ) (test : PlainEntry → Bool) (entries : List PlainEntry) (entry : PlainEntry) → AreFit universe entries →
    find test entries ≡ Some entry → IsEntryFit universe entry
found_fit universe test [] entry fit found = absurd cc
found_fit universe test (first ∷ entries) entry fit found = by (test first) found (found_fit universe test entries entry fit.1)
  where
    by : (b : Bool) → (if b then Some first else find test entries) ≡ Some entry → (find test entries ≡ Some entry → IsEntryFit universe entry) →
        IsEntryFit universe entry
    by true found rest = let e : first ≡ entry = cc in subst (λ (x : PlainEntry). IsEntryFit universe x) e fit.0
    by false found rest = rest found

-- what a deletion and a change leave of the communities that no line names
others-with_number : (universe : List ℕ) (n : ℕ) (set : List ℕ) → has universe n ≡ true → has_others universe (with_number n set) ≡ has_others universe set
others-with_number universe n [] known = rw known refl
others-with_number universe n (x ∷ xs) known = elim (cases_order x n) [
  | inl e ↦ rw (with_same n x xs e) refl
  | inr (inl l) ↦ rw (with_less n x xs l, others-with_number universe n xs known) refl
  | inr (inr g) ↦ rw (with_more n x xs g, known) refl
]

others-with_numbers : (universe more set : List ℕ) → AreWithin universe more → has_others universe (with_numbers more set) ≡ has_others universe set
others-with_numbers universe [] set known = refl
others-with_numbers universe (n ∷ more) set known = others-with_numbers universe more (with_number n set) known.1 ∙ others-with_number universe n set known.0

and_false : (b : Bool) → false ≡ b && false
and_false true = refl
and_false false = refl

and_true : (b : Bool) → b ≡ b && true
and_true true = refl
and_true false = refl

others-after_change : (universe : List ℕ) (change : Option Change) (set : List ℕ) → AreWithin universe (put_by_change change) →
    has_others universe (after_change change set) ≡ has_others universe set && keeps_rest change
others-after_change universe None set known = and_true (has_others universe set)
others-after_change universe (Some Clear) set known = and_false (has_others universe set)
others-after_change universe (Some (Replace by)) set known = no_others universe by known ∙ and_false (has_others universe set)
others-after_change universe (Some (Append more)) set known = others-with_numbers universe more set known ∙ and_true (has_others universe set)

others-without : (universe : List ℕ) (list : CommunityList) (set : List ℕ) → IsListWithin universe list →
    has_others universe (filter (λ c. not (community_list_permits list (c ∷ []))) set) ≡ has_others universe set && spares_unnamed (Some list)
others-without universe list [] within = refl
others-without universe list (c ∷ set) within = by (has universe c) (spares (Some list) c) refl refl (others-without universe list set within)
  where
    by : (u s : Bool) → has universe c ≡ u → spares (Some list) c ≡ s →
        has_others universe (filter (λ d. not (community_list_permits list (d ∷ []))) set) ≡ has_others universe set && spares_unnamed (Some list) →
        has_others universe (cond s (c ∷ filter (λ d. not (community_list_permits list (d ∷ []))) set)
        (filter (λ d. not (community_list_permits list (d ∷ []))) set)) ≡ (not (has universe c) || has_others universe set) && spares_unnamed (Some list)
    by true true eu es rest = rw eu rest
    by true false eu es rest = rw eu rest
    by false true eu es rest = let e : spares_unnamed (Some list) ≡ true = sym (spares_outside universe c (Some list) eu within) ∙ es in rw (eu, e) refl
    by false false eu es rest =
        let e : spares_unnamed (Some list) ≡ false = sym (spares_outside universe c (Some list) eu within) ∙ es in
        rest ∙ ap (λ b. has_others universe set && b) e ∙ sym (and_false (has_others universe set))
        ∙ and_false (not (has universe c) || has_others universe set) ∙ ap (λ b. (not (has universe c) || has_others universe set) && b) (sym e)

others-without_deleted : (universe : List ℕ) (delete : Option CommunityList) (set : List ℕ) → IfSome delete (IsListWithin universe) →
    has_others universe (without_deleted_by delete set) ≡ has_others universe set && spares_unnamed delete
others-without_deleted universe None set within = and_true (has_others universe set)
others-without_deleted universe (Some list) set within = others-without universe list set within

and_moved : (o s k : Bool) → (o && s) && k ≡ o && (k && s)
and_moved true true true = refl
and_moved true true false = refl
and_moved true false true = refl
and_moved true false false = refl
and_moved false s k = refl

others-comms_after : (universe : List ℕ) (entry : PlainEntry) (set : List ℕ) → IsEntryWithin universe entry →
    has_others universe (comms_after entry set) ≡ has_others universe set && leaves_unnamed entry
others-comms_after universe entry set within =
    others-after_change universe entry.change (without_deleted_by entry.delete set) (named_within universe entry.change within.change)
    ∙ ap (λ b. b && keeps_rest entry.change) (others-without_deleted universe entry.delete set within.delete)
    ∙ and_moved (has_others universe set) (spares_unnamed entry.delete) (keeps_rest entry.change)

ascending-without_deleted : (delete : Option CommunityList) (set : List ℕ) → IsAscending set → IsAscending (without_deleted_by delete set)
ascending-without_deleted None set up = up
ascending-without_deleted (Some list) set up = ascending_filter (λ c. not (community_list_permits list (c ∷ []))) set up

ascending-after_change : (change : Option Change) (set : List ℕ) → IsAscending set → IsAscending (put_by_change change) → IsAscending (after_change change set)
ascending-after_change None set up up' = up
ascending-after_change (Some Clear) set up up' = tt
ascending-after_change (Some (Replace by)) set up up' = up'
ascending-after_change (Some (Append more)) set up up' = ascending_with_numbers more set up

ascending-comms_after : (entry : PlainEntry) (set : List ℕ) → IsAscending set → IsAscending (put_by_change entry.change) → IsAscending (comms_after entry set)
ascending-comms_after entry set up up' =
    ascending-after_change entry.change (without_deleted_by entry.delete set) (ascending-without_deleted entry.delete set up) up'

-- what an entry leaves, by the definition of what is there after it
after_by : (p n l h : Bool) → p ≡ true → n || (l && h) ≡ (p && n) || (h && (p && l))
after_by p n true true e = rw e refl
after_by p n true false e = rw e refl
after_by p n false true e = rw e refl
after_by p n false false e = rw e refl

comms_after_is : (entry : PlainEntry) (set : List ℕ) (there : ℕ → Bool) (c : ℕ) → entry.permit ≡ true → has set c ≡ there c →
    has (comms_after entry set) c ≡ there_after (Some entry) there c
comms_after_is entry set there c permit e =
    has-comms_after entry set c ∙ ap (λ b. has (put_by_change entry.change) c || (leaves entry c && b)) e
    ∙ after_by entry.permit (has (put_by_change entry.change) c) (leaves entry c) (there c) permit

-- what is known of the set after a permit entry
seen_after : (universe set : List ℕ) (there : ℕ → Bool) (others : Bool) (entry : PlainEntry) → IsEntryWithin universe entry →
    IsSeenAs universe set there others → entry.permit ≡ true →
    IsSeenAs universe (comms_after entry set) (there_after (Some entry) there) (others_after (Some entry) others)
seen_after universe set there others entry within seen permit = record {
  there_is = λ c known. sym (comms_after_is entry set there c permit (sym (seen.there_is c known)));
  others_is = ap (λ b. b && (entry.permit && leaves_unnamed entry)) seen.others_is ∙ ap (λ b. has_others universe set && (b && leaves_unnamed entry)) permit
      ∙ sym (others-comms_after universe entry set within);
}

seen_sent : (universe set : List ℕ) (there : ℕ → Bool) (others sends : Bool) (entry : PlainEntry) →
    IsSeenAs universe set (there_after (Some entry) there) (others_after (Some entry) others) →
    IsSeenAs universe (if sends then set else []) (there_sent sends (Some entry) there) (others_sent sends (Some entry) others)
seen_sent universe set there others true entry seen = seen
seen_sent universe set there others false entry seen = record { there_is = λ c known. refl; others_is = refl }

ascending_sent : (set : List ℕ) (sends : Bool) → IsAscending set → IsAscending (if sends then set else [])
ascending_sent set true up = up
ascending_sent set false up = tt

-- what is sent, for every community
sent_all : (set : List ℕ) (sends : Bool) (entry : PlainEntry) (c : ℕ) → entry.permit ≡ true →
    has (if sends then comms_after entry set else []) c ≡ there_sent sends (Some entry) (has set) c
sent_all set true entry c permit = comms_after_is entry set (has set) c permit refl
sent_all set false entry c permit = refl

module _ (universe set : List ℕ) (sends : Bool) (up : IsAscending set) (one : PlainEntry) (permit : one.permit ≡ true) where
  given_here : (two : PlainEntry) → IsEntryFit universe two → IsAscending (if sends then comms_after one set else []) → two.permit ≡ true →
      IsGivenByEntries sends (Some one) (Some two) (has set)
      (record { lp = unwrap_or two.lp 100; comms = comms_after two (if sends then comms_after one set else []); adds = one.adds })
  given_here two fit' up' permit' = record {
    first = permit;
    second = permit';
    lp = rw (permit', same_number (unwrap_or two.lp 100) (unwrap_or two.lp 100) refl) refl;
    adds = rw (permit, same_number one.adds one.adds refl) refl;
    ascending = ascending-comms_after two (if sends then comms_after one set else []) up' fit'.ascending;
    comms = λ c. comms_after_is two (if sends then comms_after one set else []) (there_sent sends (Some one) (has set)) c permit'
        (sent_all set sends one c permit);
  }

  given_second : (two : Option PlainEntry) → ((e : PlainEntry) → two ≡ Some e → IsEntryFit universe e) →
      IsAscending (if sends then comms_after one set else []) →
      GivenBy sends (Some one) two (has set) (accepted one.adds (verdict_of two (if sends then comms_after one set else [])))
  given_second None fits up' = sym (and_false one.permit)
  given_second (Some two) fits up' = by (two.permit) refl
    where
      by : (b : Bool) → two.permit ≡ b → GivenBy sends (Some one) (Some two) (has set)
          (accepted one.adds (if b then Permit two.lp (comms_after two (if sends then comms_after one set else [])) two.adds else Deny))
      by true e = given_here two (fits two refl) up' e
      by false e = rw e (sym (and_false one.permit))

-- the import of a set is what the two deciding entries give
given_first : (universe set : List ℕ) (sends : Bool) (into : List PlainEntry) → IsAscending set → AreFit universe into → (one : Option PlainEntry) →
    ((e : PlainEntry) → one ≡ Some e → IsEntryFit universe e) →
    GivenBy sends one (first_of universe into (there_sent sends one (has set)) (others_sent sends one (has_others universe set))) (has set)
    (received sends into (verdict_of one set))
given_first universe set sends into up fit None fits = refl
given_first universe set sends into up fit (Some one) fits = by one.permit refl
  where
    by : (b : Bool) → one.permit ≡ b → GivenBy sends (Some one)
        (first_of universe into (there_sent sends (Some one) (has set)) (others_sent sends (Some one) (has_others universe set))) (has set)
        (received sends into (if b then Permit one.lp (comms_after one set) one.adds else Deny))
    by false e = rw e refl
    by true e =
        let of_one = fits one refl in
        let seen0 : IsSeenAs universe set (has set) (has_others universe set) = record { there_is = λ c k. refl; others_is = refl } in
        let seen1 = seen_sent universe (comms_after one set) (has set) (has_others universe set) sends one
        (seen_after universe set (has set) (has_others universe set) one of_one.within seen0 e) in
        let up2 = ascending_sent (comms_after one set) sends (ascending-comms_after one set up of_one.ascending) in
        let same = same_first universe (if sends then comms_after one set else []) (there_sent sends (Some one) (has set))
        (others_sent sends (Some one) (has_others universe set)) into seen1 fit in
        rw (same, verdict_is into (if sends then comms_after one set else []))
        (given_second universe set sends up one e (find (entry_holds (if sends then comms_after one set else [])) into)
        (λ x is. found_fit universe (entry_holds (if sends then comms_after one set else [])) into x fit is) up2)

pub import_seen : (universe set : List ℕ) (out : List PlainEntry) (sends : Bool) (into : List PlainEntry) → IsAscending set → AreFit universe out →
    AreFit universe into →
    GivenBy sends (first_of universe out (has set) (has_others universe set)) (second_deciding universe out sends into (has set) (has_others universe set))
    (has set) (received sends into (verdict out set))
import_seen universe set out sends into up fit fit' =
    let seen0 : IsSeenAs universe set (has set) (has_others universe set) = record { there_is = λ c k. refl; others_is = refl } in
    let same = same_first universe set (has set) (has_others universe set) out seen0 fit in
    rw (same, verdict_is out set) (given_first universe set sends into up fit' (find (entry_holds set) out)
    (λ x is. found_fit universe (entry_holds set) out x fit is))

-- entries that name communities of the universe, and change sets to sets
pub all_fit : (universe : List ℕ) (entries : List PlainEntry) → AllByRecursion (IsEntryWithin universe) entries →
    AllByRecursion (λ (e : PlainEntry). IsAscending (put_by_change e.change)) entries → AreFit universe entries
all_fit universe [] within up = tt
all_fit universe (entry ∷ entries) within up = (record { within = within.0; ascending = up.0 }, all_fit universe entries within.1 up.1)

pub all_push : {X : Type 0} → (P : X → Type 0) (xs : List X) (x : X) → AllByRecursion P xs → P x → AllByRecursion P (xs ++ x ∷ [])
all_push P [] x all p = (p, tt)
all_push P (y ∷ ys) x all p = (all.0, all_push P ys x all.1 p)
