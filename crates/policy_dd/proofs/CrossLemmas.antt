-- Both maps of a session, one after the other.
use Rattle.std.proofs.Common.{◌≡◌, ℕ, ◌<◌, Bool, true, false, not, ◌&&◌, ◌||◌, List, [], length, Option, Some, None, refl, ◌∙◌, ap, subst}
use Rattle.std.specs.Bool.{beq}
use Rattle.std.specs.Prelude.{if◌then◌else◌}
use Rattle.std.proofs.Math.Path.{fun_ext}
use Rattle.base_kit.specs.Sets.{has}
use Rattle.route_maps.specs.declared.plain.PlainEntry.{PlainEntry}
use Rattle.dd_core.specs.Sets.{Shown, value_of, has_others, Means, Grows}
use Rattle.dd_core.proofs.ShownLemmas.{value_of_kept, grows_trans}
use Rattle.policy_dd.specs.declared.edge.EdgeFn.{EdgeFn}
use Rattle.policy_dd.specs.declared.map_run.MapFn.{MapFn}
use Rattle.policy_dd.specs.declared.matches.Carried.{Carried}
use Rattle.policy_dd.specs.declared.session.Crossing.{Crossing}
use Rattle.policy_dd.specs.Deletion.{leaves, leaves_unnamed}
use Rattle.policy_dd.specs.Matches.{AreNodesInside, has_in, first_of, decided}
use Rattle.policy_dd.specs.MapRun.{permits_it, puts, leaves_it, leaves_rest, is_odd, prefers, adds_it, deciding, IsMapFn}
use Rattle.policy_dd.specs.After.{stays_in, carries_on, IsAfter, IsSent}
use Rattle.policy_dd.specs.Import.{there_after, there_sent, others_sent, second_deciding, both_permit, others_kept}
use Rattle.policy_dd.specs.Built.{IsCrossed, IsPutTogether, IsBuilt}
use Rattle.policy_dd.proofs.MatchLemmas.{has_in_kept, inside_kept}
use Rattle.policy_dd.proofs.RunLemmas.{map_inside_kept}
use Rattle.policy_dd.proofs.TableLemmas.{table_kept, table_as}

-- what the entry that decides leaves of a community
odd_or_rest : (p l r : Bool) → (if p && not (beq l r) then not (p && r) else p && r) ≡ p && l
odd_or_rest true true true = refl
odd_or_rest true true false = refl
odd_or_rest true false true = refl
odd_or_rest true false false = refl
odd_or_rest false l r = refl

leaves_by : (found : Option PlainEntry) (c : ℕ) →
    (if decided (is_odd c) found then not (decided leaves_rest found) else decided leaves_rest found) ≡ decided (leaves_it c) found
leaves_by None c = refl
leaves_by (Some entry) c = odd_or_rest entry.permit (leaves entry c) (leaves_unnamed entry)

-- what is carried behind a map is what its definition says
pub carries_given : (old mid : Shown) (carried : Carried) (entries : List PlainEntry) (m : MapFn) (set : List ℕ) (c : ℕ) → IsMapFn old mid carried entries m →
    Grows old mid → AreNodesInside old carried → carries_on mid carried m set c ≡ there_after (deciding old carried set entries) (has_in old carried set) c
carries_given old mid carried entries m set c run g inside =
    ap (λ b. b || (has_in mid carried set c && stays_in mid m set c)) (run.present.value set c)
    ∙ ap (λ b. decided (puts c) (deciding old carried set entries) || (b && stays_in mid m set c)) (has_in_kept old mid carried set c g inside)
    ∙ ap (λ b. decided (puts c) (deciding old carried set entries) || (has_in old carried set c && b))
    (ap (λ b. if b then not (value_of mid set m.rest) else value_of mid set m.rest) (run.odd.value set c)
    ∙ ap (λ b. if decided (is_odd c) (deciding old carried set entries) then not b else b) (run.rest set)
    ∙ leaves_by (deciding old carried set entries) c)

pub start_inside : (shown : Shown) (always others : ℕ) → others < length shown.nodes → Means shown always (λ _. true) →
    AreNodesInside shown (record { outs = []; rest = always; others = others })
start_inside shown always others inside is = record { rest = is.inside; others = inside; outs = tt; known = λ c there. absurd cc }

and_true : (b : Bool) → b && true ≡ b
and_true true = refl
and_true false = refl

module _ (s0 s1 s2 s3 s4 : Shown) (always others : ℕ) (out : List PlainEntry) (sends : Bool) (into : List PlainEntry) (first second : MapFn)
    (arrived end : Carried) (g1 : Grows s0 s1) (g2 : Grows s1 s2) (g3 : Grows s2 s3) (g4 : Grows s3 s4)
    (start : Carried) (start_is : start ≡ record { outs = []; rest = always; others = others }) (inside_start : AreNodesInside s0 start)
    (of_always : Means s0 always (λ _. true))
    (run1 : IsMapFn s0 s1 start out first) (is_sent : IsSent s1 s2 start first sends arrived) (run2 : IsMapFn s2 s3 arrived into second)
    (is_after : IsAfter s3 s4 arrived second end) where
  g02 : Grows s0 s2
  g02 = grows_trans s0 s1 s2 g1 g2

  g24 : Grows s2 s4
  g24 = grows_trans s2 s3 s4 g3 g4

  g14 : Grows s1 s4
  g14 = grows_trans s1 s2 s4 g2 g24

  start_there : (set : List ℕ) → has_in s0 start set ≡ has set
  start_there set = fun_ext (λ c. ap (λ (r : Carried). has_in s0 r set c) start_is ∙ ap (λ b. has set c && b) (of_always.value set) ∙ and_true (has set c))

  start_others : (set : List ℕ) → value_of s0 set start.others ≡ value_of s0 set others
  start_others set = ap (λ (r : Carried). value_of s0 set r.others) start_is

  one_is : (set : List ℕ) → deciding s0 start set out ≡ first_of s0.universe out (has set) (value_of s0 set others)
  one_is set = ap (λ (t : ℕ → Bool). first_of s0.universe out t (value_of s0 set start.others)) (start_there set)
      ∙ ap (λ b. first_of s0.universe out (has set) b) (start_others set)

  arrived_there : (set : List ℕ) → has_in s2 arrived set ≡ there_sent sends (first_of s0.universe out (has set) (value_of s0 set others)) (has set)
  arrived_there set = fun_ext (λ c.
      is_sent.there set c
      ∙ ap (λ b. sends && b) (carries_given s0 s1 start out first set c run1 g1 inside_start)
      ∙ ap (λ (t : ℕ → Bool). sends && there_after (deciding s0 start set out) t c) (start_there set)
      ∙ ap (λ (found : Option PlainEntry). sends && there_after found (has set) c) (one_is set))

  arrived_others : (set : List ℕ) → value_of s2 set arrived.others ≡ others_sent sends (first_of s0.universe out (has set) (value_of s0 set others))
      (value_of s0 set others)
  arrived_others set =
      is_sent.others set
      ∙ ap (λ b. sends && (b && value_of s1 set first.rest)) (value_of_kept s0 s1 set start.others g1 inside_start.others ∙ start_others set)
      ∙ ap (λ b. sends && (value_of s0 set others && b)) (run1.rest set)
      ∙ ap (λ (found : Option PlainEntry). sends && (value_of s0 set others && decided leaves_rest found)) (one_is set)

  two_is : (set : List ℕ) → deciding s2 arrived set into ≡ second_deciding s0.universe out sends into (has set) (value_of s0 set others)
  two_is set =
      ap (λ (u : List ℕ). first_of u into (has_in s2 arrived set) (value_of s2 set arrived.others)) g02.universe
      ∙ ap (λ (t : ℕ → Bool). first_of s0.universe into t (value_of s2 set arrived.others)) (arrived_there set)
      ∙ ap (λ b. first_of s0.universe into (there_sent sends (first_of s0.universe out (has set) (value_of s0 set others)) (has set)) b) (arrived_others set)

  pub crossed_is : IsCrossed s4 s0.universe (λ set. value_of s0 set others) out sends into (record { first = first; second = second; end = end })
  crossed_is = record {
    first_inside = map_inside_kept s1 s4 first g14 run1.inside;
    second_inside = map_inside_kept s3 s4 second g4 run2.inside;
    end_inside = is_after.inside;
    first_permit = λ set. value_of_kept s1 s4 set first.permit g14 run1.inside.permit ∙ run1.permit set
        ∙ ap (λ (found : Option PlainEntry). decided permits_it found) (one_is set);
    first_adds = table_kept s1 s4 first.adds (λ k set. decided (adds_it k) (first_of s0.universe out (has set) (value_of s0 set others))) g14 run1.inside.adds
        (table_as s1 first.adds (λ k set. decided (adds_it k) (deciding s0 start set out))
        (λ k set. decided (adds_it k) (first_of s0.universe out (has set) (value_of s0 set others)))
        (λ k set. ap (λ (found : Option PlainEntry). decided (adds_it k) found) (one_is set)) run1.adds);
    second_permit = λ set. value_of_kept s3 s4 set second.permit g4 run2.inside.permit ∙ run2.permit set
        ∙ ap (λ (found : Option PlainEntry). decided permits_it found) (two_is set);
    second_lps = table_kept s3 s4 second.lps (λ k set. decided (prefers k) (second_deciding s0.universe out sends into (has set) (value_of s0 set others))) g4
        run2.inside.lps
        (table_as s3 second.lps (λ k set. decided (prefers k) (deciding s2 arrived set into))
        (λ k set. decided (prefers k) (second_deciding s0.universe out sends into (has set) (value_of s0 set others)))
        (λ k set. ap (λ (found : Option PlainEntry). decided (prefers k) found) (two_is set)) run2.lps);
    there_is = λ set c.
        is_after.there set c
        ∙ carries_given s2 s3 arrived into second set c run2 g3 is_sent.inside
        ∙ ap (λ (t : ℕ → Bool). there_after (deciding s2 arrived set into) t c) (arrived_there set)
        ∙ ap (λ (found : Option PlainEntry). there_after found (there_sent sends (first_of s0.universe out (has set) (value_of s0 set others)) (has set)) c)
        (two_is set);
    others_is = λ set.
        is_after.others set
        ∙ ap (λ b. b && value_of s3 set second.rest) (value_of_kept s2 s3 set arrived.others g3 is_sent.inside.others ∙ arrived_others set)
        ∙ ap (λ b. others_sent sends (first_of s0.universe out (has set) (value_of s0 set others)) (value_of s0 set others) && b)
        (run2.rest set ∙ ap (λ (found : Option PlainEntry). decided leaves_rest found) (two_is set));
  }

-- a crossing in a store that has grown, with the test of others written otherwise
pub crossed_kept : (old new : Shown) (universe : List ℕ) (f g : List ℕ → Bool) (out : List PlainEntry) (sends : Bool) (into : List PlainEntry) (r : Crossing) →
    Grows old new → f ≡ g → IsCrossed old universe f out sends into r → IsCrossed new universe g out sends into r
crossed_kept old new universe f g out sends into r grows e is = subst (λ (h : List ℕ → Bool). IsCrossed new universe h out sends into r) e (record {
  first_inside = map_inside_kept old new r.first grows is.first_inside;
  second_inside = map_inside_kept old new r.second grows is.second_inside;
  end_inside = inside_kept old new r.end grows is.end_inside;
  first_permit = λ set. value_of_kept old new set r.first.permit grows is.first_inside.permit ∙ is.first_permit set;
  first_adds = table_kept old new r.first.adds (λ k set. decided (adds_it k) (first_of universe out (has set) (f set))) grows is.first_inside.adds
      is.first_adds;
  second_permit = λ set. value_of_kept old new set r.second.permit grows is.second_inside.permit ∙ is.second_permit set;
  second_lps = table_kept old new r.second.lps (λ k set. decided (prefers k) (second_deciding universe out sends into (has set) (f set))) grows
      is.second_inside.lps is.second_lps;
  there_is = λ set c. has_in_kept old new r.end set c grows is.end_inside ∙ is.there_is set c;
  others_is = λ set. value_of_kept old new set r.end.others grows is.end_inside.others ∙ is.others_is set;
})

and_swap : (a b : Bool) → a && b ≡ b && a
and_swap true true = refl
and_swap true false = refl
and_swap false true = refl
and_swap false false = refl

-- both crossings and their parts put together
pub built_from : (mid new : Shown) (out : List PlainEntry) (sends : Bool) (into : List PlainEntry) (seen : Crossing) (beyond : ℕ) (edge : EdgeFn) →
    IsCrossed mid new.universe (λ set. has_others new.universe set) out sends into seen →
    ((set : List ℕ) → value_of mid set beyond ≡ others_kept new.universe out sends into (has set) true) → IsPutTogether mid new seen beyond edge →
    IsBuilt new edge out sends into
built_from mid new out sends into seen beyond edge is beyond_is joined =
    let both : (set : List ℕ) → value_of mid set seen.first.permit
    && value_of mid set seen.second.permit ≡ both_permit new.universe out sends into (has set) (has_others new.universe set) = λ set.
    ap (λ b. b && value_of mid set seen.second.permit) (is.first_permit set)
    ∙ ap (λ b. decided permits_it (first_of new.universe out (has set) (has_others new.universe set)) && b) (is.second_permit set) in
    record {
      permit_inside = joined.permit_inside;
      rest_inside = joined.rest_inside;
      permit = λ set. joined.permit set ∙ both set;
      lps = λ set k.
          joined.lps set k
          ∙ ap (λ b. b && value_of mid set seen.first.permit) (is.second_lps.value set k)
          ∙ ap (λ b. decided (prefers k) (second_deciding new.universe out sends into (has set) (has_others new.universe set)) && b) (is.first_permit set)
          ∙ and_swap (decided (prefers k) (second_deciding new.universe out sends into (has set) (has_others new.universe set)))
          (decided permits_it (first_of new.universe out (has set) (has_others new.universe set)));
      adds = λ set k.
          joined.adds set k
          ∙ ap (λ b. b && value_of mid set seen.second.permit) (is.first_adds.value set k)
          ∙ ap (λ b. decided (adds_it k) (first_of new.universe out (has set) (has_others new.universe set)) && b) (is.second_permit set);
      rest = λ set. joined.rest set ∙ ap (λ b. b && value_of mid set beyond) (both set)
          ∙ ap (λ b. both_permit new.universe out sends into (has set) (has_others new.universe set) && b) (beyond_is set);
      outs = λ set c known.
          joined.outs set c known ∙ ap (λ b. b && has_in mid seen.end set c) (both set)
          ∙ ap (λ b. both_permit new.universe out sends into (has set) (has_others new.universe set) && b) (is.there_is set c);
      lps_cases = joined.lps_cases;
      adds_cases = joined.adds_cases;
      outs_cases = joined.outs_cases;
      outs_known = joined.outs_known;
    }
