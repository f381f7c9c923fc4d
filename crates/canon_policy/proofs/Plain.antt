-- Functions that either keep or drop communities outside the universe and do not otherwise depend on
-- them, and their values on the sets that agree with a settled fixing.
use Rattle.std.proofs.Common.{◌≡◌, ℕ, Bool, true, false, ◌&&◌, ◌||◌, nat_eq, List, [], ◌∷◌, Option, None, refl, sym, ◌∙◌, ap, inl, inr}
use Rattle.std.specs.Prelude.{if◌then◌else◌}
use Rattle.std.specs.Bool.{beq}
use Rattle.std.specs.Option.{option_or}
use Rattle.base_kit.specs.Sets.{has, with_number}
use Rattle.base_kit.proofs.SetFacts.{has-with_number}
use Rattle.base_kit.proofs.Elements.{In}
use Rattle.route_maps.specs.declared.plain.Imported.{Imported}
use Rattle.canon_policy.specs.declared.fixing.Fixing.{Fixing}
use Rattle.canon_policy.specs.Functions.{accepts, carries, keeps, preference}
use Rattle.canon_policy.specs.Fixings.{Part, agreeing, sets_of, least, yes, follows, unsettled, first_unsettled, split}
use Rattle.canon_policy.specs.Fixings.Part.{community}
use Rattle.canon_policy.specs.Canonical.{in_parts, in_asked, out_asked}
use Rattle.canon_policy.specs.Hanging.{TestHangsOn, NumberHangsOn, PartsHangOn, AskedHangsOn}
use Rattle.canon_policy.specs.Plain.{IsPlain}
use Rattle.canon_policy.proofs.SameSets.{Agrees, agreeing_stays, agreeing_same_on, same_sets, named, named_same, filtered_in, all_in}
use Rattle.canon_policy.proofs.Least.{least_none, under_hangs, has_in, in_has, equal}
use Rattle.canon_policy.proofs.Splits.{yes_hangs, or_none, no_split}

pub in_parts_hang : (universe : List ℕ) (f : List ℕ → Option Imported) → IsPlain universe f → (cs : List ℕ) → ((c : ℕ) → In cs c → has universe c ≡ true)
    → PartsHangOn universe (in_parts universe f cs)
in_parts_hang universe f plain [] known = tt
in_parts_hang universe f plain (c ∷ cs) known = (plain.carried c (known c (inl refl)), in_parts_hang universe f plain cs (λ d h. known d (inr h)))

pub in_asked_hangs : (universe : List ℕ) (f : List ℕ → Option Imported) → IsPlain universe f → AskedHangsOn universe (in_asked universe f)
in_asked_hangs universe f plain = record {
  accepted = plain.accepted;
  kept = plain.kept;
  parts = (yes_hangs universe (keeps f universe) plain.kept, (plain.lp, in_parts_hang universe f plain universe (λ c h. in_has universe c h)));
}

pub out_asked_hangs : (universe : List ℕ) (f : List ℕ → Option Imported) → IsPlain universe f → AskedHangsOn universe (out_asked universe f)
out_asked_hangs universe f plain = record { accepted = plain.accepted; kept = plain.kept; parts = (plain.adds, tt) }

-- a settled part has one value on all sets that agree
pub one_value : (universe : List ℕ) (part : List ℕ → ℕ) (fixing : Fixing) (a b : List ℕ) → NumberHangsOn universe part
    → least universe (λ set. part (agreeing fixing set)) ≡ None → Agrees fixing a → Agrees fixing b → part a ≡ part b
one_value universe part fixing a b hangs none of_a of_b =
    let one : (set : List ℕ) → part (agreeing fixing set) ≡ part (agreeing fixing []) =
    least_none universe (λ set. part (agreeing fixing set)) (under_hangs universe part fixing hangs) none in
    sym (hangs.same (agreeing fixing a) a (same_sets universe (agreeing fixing a) a (agreeing_stays fixing a of_a)))
    ∙ one a ∙ sym (one b)
    ∙ hangs.same (agreeing fixing b) b (same_sets universe (agreeing fixing b) b (agreeing_stays fixing b of_b))

pub yes_one : (a b : Bool) → yes a ≡ yes b → a ≡ b
yes_one true true e = refl
yes_one true false e = absurd cc
yes_one false true e = absurd cc
yes_one false false e = refl

pub one_answer : (universe : List ℕ) (test : List ℕ → Bool) (fixing : Fixing) (a b : List ℕ) → TestHangsOn universe test
    → least universe (λ set. yes (test (agreeing fixing set))) ≡ None → Agrees fixing a → Agrees fixing b → test a ≡ test b
one_answer universe test fixing a b hangs none of_a of_b = yes_one (test a) (test b)
    (one_value universe (λ set. yes (test set)) fixing a b (yes_hangs universe test hangs) none of_a of_b)

-- the value on the set that is made of nothing
pub at_least_set : (universe : List ℕ) (test : List ℕ → Bool) (fixing : Fixing) (a : List ℕ) → TestHangsOn universe test
    → least universe (λ set. yes (test (agreeing fixing set))) ≡ None → Agrees fixing a → test (agreeing fixing []) ≡ test a
at_least_set universe test fixing a hangs none of_a =
    let one = least_none universe (λ set. yes (test (agreeing fixing set)))
    (under_hangs universe (λ set. yes (test set)) fixing (yes_hangs universe test hangs)) none in
    sym (yes_one (test (agreeing fixing a)) (test (agreeing fixing [])) (one a))
    ∙ hangs.same (agreeing fixing a) a (same_sets universe (agreeing fixing a) a (agreeing_stays fixing a of_a))

-- the set of what is present agrees, if any does
pub present_agrees : (fixing : Fixing) (set : List ℕ) → Agrees fixing set → Agrees fixing fixing.present
present_agrees fixing set agrees = record {
  present = λ c h. h;
  absent = λ c h. by c (has fixing.present c) refl (agrees.absent c h);
}
  where
    by : (c : ℕ) (b : Bool) → has fixing.present c ≡ b → has set c ≡ false → has fixing.present c ≡ false
    by c true e out = let inside = agrees.present c e in absurd cc
    by c false e out = e

-- so does that set with one more that is not absent
pub more_agrees : (fixing : Fixing) (c : ℕ) → Agrees fixing fixing.present → has fixing.absent c ≡ false → Agrees fixing (with_number c fixing.present)
more_agrees fixing c agrees free = record {
  present = λ d h. has-with_number c fixing.present d ∙ or_right (nat_eq c d) (has fixing.present d) h;
  absent = λ d h. has-with_number c fixing.present d ∙ neither d h (nat_eq c d) refl;
}
  where
    or_right : (a b : Bool) → b ≡ true → a || b ≡ true
    or_right true b e = refl
    or_right false b e = e

    neither : (d : ℕ) → has fixing.absent d ≡ true → (b : Bool) → nat_eq c d ≡ b → b || has fixing.present d ≡ false
    neither d h true e = let same : c ≡ d = equal c d e in absurd (let h' : has fixing.absent c ≡ true = ap (has fixing.absent) same ∙ h in cc)
    neither d h false e = agrees.absent d h

-- a settled community: it has one answer, or is in the result exactly if it is in the set
pub data IsSettled (f : List ℕ → Option Imported) (fixing : Fixing) (c : ℕ) (kept : Bool) : Type 0 where
  one : ((a b : List ℕ) → Agrees fixing a → Agrees fixing b → carries f c a ≡ carries f c b) → IsSettled f fixing c kept
  following : kept ≡ true → ((a : List ℕ) → Agrees fixing a → carries f c a ≡ has a c) → IsSettled f fixing c kept

pub same_bits : (a b : Bool) → beq a b ≡ true → a ≡ b
same_bits true true e = refl
same_bits true false e = cc
same_bits false true e = cc
same_bits false false e = refl

follows_all : (universe : List ℕ) (fixing : Fixing) (c : ℕ) (test : List ℕ → Bool) → TestHangsOn universe test → has universe c ≡ true
    → follows universe fixing c test ≡ true → (a : List ℕ) → Agrees fixing a → test a ≡ has a c
unfolding follows
follows_all universe fixing c test hangs known e a agrees =
    let inner = named universe a in
    let same = named_same universe a in
    let here = same_bits (test (agreeing fixing inner)) (has (agreeing fixing inner) c)
    (all_in (λ set. beq (test (agreeing fixing set)) (has (agreeing fixing set) c)) (sets_of universe) inner e (filtered_in (has a) universe)) in
    let there = agreeing_same_on universe inner a fixing same in
    sym (hangs.same (agreeing fixing a) a (same_sets universe (agreeing fixing a) a (agreeing_stays fixing a agrees)))
    ∙ sym (hangs.same (agreeing fixing inner) (agreeing fixing a) there)
    ∙ here ∙ there.same c known ∙ agreeing_stays fixing a agrees c

community_settled : (universe : List ℕ) (f : List ℕ → Option Imported) (fixing : Fixing) (c : ℕ) (kept fit : Bool) → TestHangsOn universe (carries f c)
    → has universe c ≡ true → follows universe fixing c (carries f c) ≡ fit
    → (if kept && fit then None else least universe (λ set. yes (carries f c (agreeing fixing set)))) ≡ None → IsSettled f fixing c kept
community_settled universe f fixing c true true hangs known e none = following refl (follows_all universe fixing c (carries f c) hangs known e)
community_settled universe f fixing c true false hangs known e none = one (λ a b of_a of_b. one_answer universe (carries f c) fixing a b hangs none of_a of_b)
community_settled universe f fixing c false fit hangs known e none = one (λ a b of_a of_b. one_answer universe (carries f c) fixing a b hangs none of_a of_b)

parts_none : (universe : List ℕ) (f : List ℕ → Option Imported) (ask : Part → Option ℕ) (cs : List ℕ) (c : ℕ)
    → first_unsettled ask (in_parts universe f cs) ≡ None → In cs c → ask (community c (carries f c)) ≡ None
parts_none universe f ask [] c e h = absurd h
parts_none universe f ask (d ∷ cs) c e (inl same) = rw (← same) (or_none (ask (community d (carries f d))) (first_unsettled ask (in_parts universe f cs)) e).0
parts_none universe f ask (d ∷ cs) c e (inr h) = parts_none universe f ask cs c
    (or_none (ask (community d (carries f d))) (first_unsettled ask (in_parts universe f cs)) e).1 h

-- what is settled of the in list where sets are accepted
pub record AreSettled (universe : List ℕ) (f : List ℕ → Option Imported) (fixing : Fixing) : Type 0 where
  pub kept : (a b : List ℕ) → Agrees fixing a → Agrees fixing b → keeps f universe a ≡ keeps f universe b
  pub lp : (a b : List ℕ) → Agrees fixing a → Agrees fixing b → preference f a ≡ preference f b
  pub communities : (c : ℕ) → has universe c ≡ true → IsSettled f fixing c (keeps f universe fixing.present)

pub in_accepted : (universe : List ℕ) (f : List ℕ → Option Imported) (fixing : Fixing) (a b : List ℕ) → IsPlain universe f
    → split universe (in_asked universe f) fixing ≡ None → Agrees fixing a → Agrees fixing b → accepts f a ≡ accepts f b
in_accepted universe f fixing a b plain none of_a of_b = one_answer universe (accepts f) fixing a b plain.accepted
    (no_split universe (in_asked universe f) fixing none).accepted of_a of_b

pub in_settled : (universe : List ℕ) (f : List ℕ → Option Imported) (fixing : Fixing) → IsPlain universe f → split universe (in_asked universe f) fixing ≡ None
    → Agrees fixing fixing.present → accepts f fixing.present ≡ true → AreSettled universe f fixing
in_settled universe f fixing plain none agrees accepted =
    let split_none = no_split universe (in_asked universe f) fixing none in
    let start : accepts f (agreeing fixing []) ≡ true = at_least_set universe (accepts f) fixing fixing.present plain.accepted split_none.accepted agrees
    ∙ accepted in
    let parts = split_none.parts start in
    let ask = unsettled universe (keeps f universe) fixing in
    let first = or_none (least universe (λ set. yes (keeps f universe (agreeing fixing set))))
    (option_or (least universe (λ set. preference f (agreeing fixing set))) (first_unsettled ask (in_parts universe f universe))) parts in
    let second = or_none (least universe (λ set. preference f (agreeing fixing set))) (first_unsettled ask (in_parts universe f universe)) first.1 in
    let kept_start : keeps f universe (agreeing fixing []) ≡ keeps f universe fixing.present =
    at_least_set universe (keeps f universe) fixing fixing.present plain.kept first.0 agrees in
    record {
      kept = λ a b of_a of_b. one_answer universe (keeps f universe) fixing a b plain.kept first.0 of_a of_b;
      lp = λ a b of_a of_b. one_value universe (preference f) fixing a b plain.lp second.0 of_a of_b;
      communities = λ c known.
          let here = parts_none universe f ask universe c second.1 (has_in universe c known) in
          community_settled universe f fixing c (keeps f universe fixing.present) (follows universe fixing c (carries f c)) (plain.carried c known) known refl
          (ap (λ (b : Bool). if b && follows universe fixing c (carries f c) then None else least universe (λ set. yes (carries f c (agreeing fixing set))))
          (sym kept_start) ∙ here);
    }
