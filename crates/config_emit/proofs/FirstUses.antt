-- The maps of a router of a BGP network of groups, by first use.
use Rattle.std.proofs.Common.{◌≡◌, ℕ, zero, suc, ◌+◌, Bool, true, false, cond, ◌||◌, ◌⊎◌, inl, inr, List, [], ◌∷◌, ◌++◌, map, filter, length, append_assoc, Option, Some, None, nat_eq, refl, sym, ◌∙◌, ap, subst, arith}
use Rattle.std.specs.Prelude.{flat_map, slice_get, option_and_then}
use Rattle.std.specs.List.{enumerate_from, list_any, position_or_len}
use Rattle.std.specs.Option.{option_map, unwrap_or}
use Rattle.std.proofs.lemmas.Bool.Decides.{nat_tests}
use Rattle.std.proofs.lemmas.List.{map-append, length-map}
use Rattle.std.proofs.lemmas.List.Folds.{list_any-append}
use Rattle.base_kit.proofs.Elements.{In, contains_in, append_in, flat_map_in, filter_in}
use Rattle.route_maps.specs.Same.{same_map}
use Rattle.route_maps.specs.declared.plain.Plain.{Plain}
use Rattle.abstract_net.specs.declared.qlink.QLink.{QLink}
use Rattle.abstract_net.specs.Carried.{act_at}
use Rattle.srp_core.specs.declared.route.Act.{Act}
use Rattle.srp_core.specs.declared.route.Act.TheVariants.{Cost}
use Rattle.srp_quotient.specs.Groups.{touches, edge_into}
use Rattle.config_emit.specs.ActLinks.{act_to, act_link}
use Rattle.config_emit.specs.Interfaces.{is_at}
use Rattle.config_emit.specs.LinkSteps.{act_by}
use Rattle.config_emit.specs.MapNumbers.{place_from, place_of_map, map_number, IsKnown, KnowsClosed, AreKnown}
use Rattle.config_emit.specs.Maps.{other_end, closed_map, act_in_map, act_out_map, is_whole, if_written, maps_at, firsts, map_name, named, number_of_map, name_of_map}
use Rattle.config_emit.specs.Plan.{Plan, act_into}
use Rattle.config_emit.specs.RouterMaps.{use_of, is_use_of, with_uses, listed_use, act_into_end, uses_on, use_name}
use Rattle.config_emit.specs.declared.act_links.ActLink.{ActLink}
use Rattle.config_emit.specs.declared.act_maps.ActMaps.{ActMaps}
use Rattle.config_emit.proofs.ListSteps.{no_more, same_numbers}
use Rattle.config_emit.proofs.MapPlaces.{position_cons, placed, absent, same_turned, same_as}
use Rattle.config_emit.proofs.OspfRouters.{act_same}

-- ---- numbers tell maps apart

number_self : (n : ℕ) → nat_eq n n ≡ true
number_self n = grind (arith, nat_tests)

position_ext : (p q : Plain → Bool) (xs : List Plain) → ((x : Plain) → p x ≡ q x) → position_or_len p xs ≡ position_or_len q xs
position_ext p q [] same = refl
position_ext p q (x ∷ xs) same =
    position_cons p x xs ∙ ap (λ b. cond b 0 (suc (position_or_len p xs))) (same x) ∙ ap (λ n. cond (q x) 0 (suc n)) (position_ext p q xs same)
    ∙ sym (position_cons q x xs)

record Stands (p : Plain → Bool) (xs : List Plain) : Type 0 where
  item : Plain
  at : slice_get xs (position_or_len p xs) ≡ Some item
  passes : p item ≡ true

stands : (p : Plain → Bool) (xs : List Plain) → list_any p xs ≡ true → Stands p xs
stands p [] e = absurd cc
stands p (x ∷ xs) e = step (stands p xs) (p x) refl e where
  step : (list_any p xs ≡ true → Stands p xs) → (b : Bool) → p x ≡ b → (b || list_any p xs) ≡ true → Stands p (x ∷ xs)
  step later true is any = record {
    item = x;
    at = ap (slice_get (x ∷ xs)) (position_cons p x xs ∙ ap (λ b. cond b 0 (suc (position_or_len p xs))) is);
    passes =
        is;
  }
  step later false is any = let s = later any in
      record {
        item = s.item;
        at = ap (slice_get (x ∷ xs)) (position_cons p x xs ∙ ap (λ b. cond b 0 (suc (position_or_len p xs))) is) ∙ s.at;
        passes =
            s.passes;
      }

numbers_tell : (known : List Plain) (m n : Plain) → list_any (same_map m) known ≡ true → list_any (same_map n) known ≡ true →
    nat_eq (place_of_map known m) (place_of_map known n) ≡ same_map m n
numbers_tell known m n has_m has_n = step (same_map m n) (nat_eq (place_of_map known m) (place_of_map known n)) refl refl where
  step : (a b : Bool) → same_map m n ≡ a → nat_eq (place_of_map known m) (place_of_map known n) ≡ b → b ≡ a
  step true b e f = sym f ∙ ap (nat_eq (place_of_map known m)) (sym (position_ext (same_map m) (same_map n) known (λ k. same_as m n k e)))
      ∙ number_self (place_of_map known m)
  step false false e f = refl
  step false true e f =
      let x = stands (same_map m) known has_m in
      let y = stands (same_map n) known has_n in
      let both : Some x.item ≡ Some y.item = sym x.at ∙ ap (slice_get known) (same_numbers (place_of_map known m) (place_of_map known n) f) ∙ y.at in
      let one : x.item ≡ y.item = cc in
      sym (same_as m x.item n x.passes ∙ same_turned x.item n ∙ ap (same_map n) one ∙ y.passes) ∙ e

-- ---- by first use

AllKnown : List Plain → List Plain → Type 0
AllKnown known ms = (m : Plain) → In ms m → list_any (same_map m) known ≡ true

any_uses : (known us : List Plain) (m : Plain) → list_any (same_map m) known ≡ true → ((u : Plain) → In us u → list_any (same_map u) known ≡ true)
    → list_any (is_use_of (place_of_map known m)) (map (use_of known) us) ≡ list_any (same_map m) us
any_uses known [] m has all = refl
any_uses known (u ∷ us) m has all =
    ap (λ b. b || list_any (is_use_of (place_of_map known m)) (map (use_of known) us)) (numbers_tell known u m (all u (inl refl)) has ∙ same_turned u m)
    ∙ ap (λ b. same_map m u || b) (any_uses known us m has (λ v at. all v (inr at)))

or_turned : (a b : Bool) → (a || b) ≡ (b || a)
or_turned true true = refl
or_turned true false = refl
or_turned false true = refl
or_turned false false = refl

or_false : (a : Bool) → (a || false) ≡ a
or_false true = refl
or_false false = refl

firsts_used : (known us seen ms : List Plain) → ((k : Plain) → list_any (same_map k) seen ≡ list_any (same_map k) us) →
    ((u : Plain) → In us u → list_any (same_map u) known ≡ true) → ((m : Plain) → In ms m → list_any (same_map m) known ≡ true)
    → with_uses (map (use_of known) ms) (map (use_of known) us) ≡ map (use_of known) (us ++ firsts seen ms)
firsts_used known us seen [] same old new = ap (map (use_of known)) (sym (no_more us))
firsts_used known us seen (m ∷ ms) same old new =
    ap (λ b. with_uses (map (use_of known) ms) (cond b (map (use_of known) us) (map (use_of known) us ++ use_of known m ∷ [])))
    (any_uses known us m (new m (inl refl)) old ∙ sym (same m))
    ∙ step (firsts_used known us seen ms same old (λ k at. new k (inr at)))
    (firsts_used known (us ++ m ∷ []) (m ∷ seen) ms same_more old_more (λ k at. new k (inr at))) (list_any (same_map m) seen) where
      same_more : (k : Plain) → list_any (same_map k) (m ∷ seen) ≡ list_any (same_map k) (us ++ m ∷ [])
      same_more k = ap (λ b. same_map k m || b) (same k) ∙ or_turned (same_map k m) (list_any (same_map k) us)
          ∙ ap (λ b. list_any (same_map k) us || b) (sym (or_false (same_map k m))) ∙ sym (list_any-append (same_map k) us (m ∷ []))

      old_more : (u : Plain) → In (us ++ m ∷ []) u → list_any (same_map u) known ≡ true
      old_more u at = elim (append_in us (m ∷ []) u at) [
        | inl there ↦ old u there
        | inr (inl here) ↦ subst (λ (k : Plain). list_any (same_map k) known ≡ true) here (new m (inl refl))
        | inr (inr none) ↦ absurd none
      ]

      step : with_uses (map (use_of known) ms) (map (use_of known) us) ≡ map (use_of known) (us ++ firsts seen ms)
          → with_uses (map (use_of known) ms) (map (use_of known) (us ++ m ∷ [])) ≡ map (use_of known) ((us ++ m ∷ []) ++ firsts (m ∷ seen) ms)
          → (b : Bool) → with_uses (map (use_of known) ms) (cond b (map (use_of known) us) (map (use_of known) us ++ use_of known m ∷ [])) ≡ map (use_of known)
          (us ++ cond b (firsts seen ms) (m ∷ firsts (m ∷ seen) ms))
      step one two true = one
      step one two false = ap (with_uses (map (use_of known) ms)) (sym (map-append (use_of known) us (m ∷ []))) ∙ two
          ∙ ap (map (use_of known)) (append_assoc us (m ∷ []) (firsts (m ∷ seen) ms))

pub uses_by_first : (known ms : List Plain) → ((m : Plain) → In ms m → list_any (same_map m) known ≡ true) →
    with_uses (map (use_of known) ms) [] ≡ map (use_of known) (firsts [] ms)
uses_by_first known ms all = firsts_used known [] [] ms (λ k. refl) (λ u at. absurd at) all

pub firsts_in : (seen ms : List Plain) (m : Plain) → In (firsts seen ms) m → In ms m
firsts_in seen [] m at = at
firsts_in seen (x ∷ ms) m at = step (firsts_in seen ms m) (firsts_in (x ∷ seen) ms m) (list_any (same_map x) seen) at where
  step : (In (firsts seen ms) m → In ms m) → (In (firsts (x ∷ seen) ms) m → In ms m) → (b : Bool) → In (cond b (firsts seen ms) (x ∷ firsts (x ∷ seen) ms)) m →
      In (x ∷ ms) m
  step one two true here = inr (one here)
  step one two false (inl here) = inl here
  step one two false (inr later) = inr (two later)

-- ---- names

place_used : (known us : List Plain) (m : Plain) (n : ℕ) → list_any (same_map m) known ≡ true → ((u : Plain) → In us u → list_any (same_map u) known ≡ true)
    → place_from (is_use_of (place_of_map known m)) n (map (use_of known) us) ≡ place_from (same_map m) n us
place_used known [] m n has all = refl
place_used known (u ∷ us) m n has all =
    ap (λ b. cond b (Some n) (place_from (is_use_of (place_of_map known m)) (n + 1) (map (use_of known) us)))
    (numbers_tell known u m (all u (inl refl)) has ∙ same_turned u m)
    ∙ ap (cond (same_map m u) (Some n)) (place_used known us m (n + 1) has (λ v at. all v (inr at)))

position_none : (p : Plain → Bool) (xs : List Plain) → list_any p xs ≡ false → position_or_len p xs ≡ length xs
position_none p [] e = refl
position_none p (x ∷ xs) e = position_cons p x xs ∙ step (position_none p xs) (p x) e where
  step : (list_any p xs ≡ false → position_or_len p xs ≡ length xs) → (b : Bool) → (b || list_any p xs) ≡ false →
      cond b 0 (suc (position_or_len p xs)) ≡ suc (length xs)
  step later true any = absurd cc
  step later false any = ap suc (later any)

place_is : (p : Plain → Bool) (xs : List Plain) → unwrap_or (place_from p 1 xs) (length xs + 1) ≡ position_or_len p xs + 1
place_is p xs = step (place_from p 1 xs) refl where
  step : (o : Option ℕ) → place_from p 1 xs ≡ o → unwrap_or o (length xs + 1) ≡ position_or_len p xs + 1
  step None e = let none = position_none p xs (absent p 1 xs e) in omega (arith, none)
  step (Some k) e = let at = (placed p 1 xs k e).at in omega (arith, at)

use_name_is : (known us : List Plain) (m : Plain) → list_any (same_map m) known ≡ true → ((u : Plain) → In us u → list_any (same_map u) known ≡ true)
    → use_name (map (use_of known) us) (place_of_map known m) ≡ named (map_name (number_of_map us m))
use_name_is known us m has all = ap (λ k. named (map_name k)) (
    ap (λ o. unwrap_or o (length (map (use_of known) us) + 1)) (place_used known us m 1 has all)
    ∙ ap (λ n. unwrap_or (place_from (same_map m) 1 us) (n + 1)) (length-map us (use_of known))
    ∙ place_is (same_map m) us)

pub name_is_used : (known us : List Plain) (m : Plain) → IsKnown known m → ((u : Plain) → In us u → list_any (same_map u) known ≡ true) →
    option_map (use_name (map (use_of known) us)) (map_number known m) ≡ name_of_map us (Some m)
name_is_used known us m is all = step (is_whole m.entries) refl where
  step : (b : Bool) → is_whole m.entries ≡ b →
      option_map (use_name (map (use_of known) us)) (cond b None (Some (place_of_map known m))) ≡ cond b None (Some (named (map_name (number_of_map us m))))
  step true e = refl
  step false e = ap (λ n. Some n) (use_name_is known us m (is.known e) all)

pub out_name_is_used : (known us : List Plain) (o : Option Plain) → ((m : Plain) → o ≡ Some m → IsKnown known m) →
    ((u : Plain) → In us u → list_any (same_map u) known ≡ true)
    → option_map (use_name (map (use_of known) us)) (option_and_then (map_number known) o) ≡ name_of_map us o
out_name_is_used known us None is all = refl
out_name_is_used known us (Some m) is all = name_is_used known us m (is m refl) all

-- ---- the uses at a link

listed_same : (known : List Plain) (m : Plain) → listed_use (map_number known m) (Some m) ≡ map (use_of known) (if_written (Some m))
listed_same known m = step (is_whole m.entries) where
  step : (b : Bool) → listed_use (cond b None (Some (place_of_map known m))) (Some m) ≡ map (use_of known) (cond b [] (m ∷ []))
  step true = refl
  step false = refl

out_same : (known : List Plain) (o : Option Plain) → listed_use (option_and_then (map_number known) o) o ≡ map (use_of known) (if_written o)
out_same known None = refl
out_same known (Some m) = listed_same known m

any_or : (a b : Bool) → a ≡ true → (a || b) ≡ true
any_or a b e = ap (λ x. x || b) e

or_true : (a b : Bool) → b ≡ true → (a || b) ≡ true
or_true true b e = refl
or_true false b e = e

pub other_touches : (g : ℕ) (l : QLink) → touches (other_end g l) l ≡ true
other_touches g l = step (nat_eq l.low g) where
  step : (b : Bool) → touches (cond b l.high l.low) l ≡ true
  step true = or_true (nat_eq l.low l.high) (nat_eq l.high l.high) (number_self l.high)
  step false = any_or (nat_eq l.low l.low) (nat_eq l.high l.low) (number_self l.low)

pub end_is : (e : Plan) (g t : ℕ) (l : QLink) → touches g l ≡ true →
    act_into_end e.problem.acts g (act_link e.problem.protocol e.problem.edges e.links (t, l)) ≡ act_into e g l
end_is e g t l at = sym (act_same e g t l at)

uses_at : (e : Plan) (known : List Plain) (g t : ℕ) (l : QLink) → touches g l ≡ true →
    uses_on known e.problem.acts g (act_link e.problem.protocol e.problem.edges e.links (t, l)) ≡ map (use_of known) (maps_at e g l)
uses_at e known g t l at =
    let x = act_link e.problem.protocol e.problem.edges e.links (t, l) in
    let far = act_into_end e.problem.acts (other_end g l) x in
    ap (λ o. listed_use (map_number known (act_in_map o)) (Some (act_in_map o))
    ++ listed_use (option_and_then (map_number known) (act_out_map far)) (act_out_map far)) (end_is e g t l at)
    ∙ ap (λ o. listed_use (map_number known (act_in_map (act_into e g l))) (Some (act_in_map (act_into e g l)))
    ++ listed_use (option_and_then (map_number known) (act_out_map o)) (act_out_map o)) (end_is e (other_end g l) t l (other_touches g l))
    ∙ ap (λ us. us ++ listed_use (option_and_then (map_number known) (act_out_map (act_into e (other_end g l) l))) (act_out_map (act_into e (other_end g l) l)))
    (listed_same known (act_in_map (act_into e g l)))
    ∙ ap (λ us. map (use_of known) (if_written (Some (act_in_map (act_into e g l)))) ++ us) (out_same known (act_out_map (act_into e (other_end g l) l)))
    ∙ sym (map-append (use_of known) (if_written (Some (act_in_map (act_into e g l)))) (if_written (act_out_map (act_into e (other_end g l) l))))

pub all_uses : (e : Plan) (known : List Plain) (g n : ℕ) (ls : List QLink)
    → flat_map (uses_on known e.problem.acts g) (map (act_link e.problem.protocol e.problem.edges e.links) (filter (is_at g) (enumerate_from n ls))) ≡ map
    (use_of known) (flat_map (maps_at e g) (filter (touches g) ls))
all_uses e known g n [] = refl
all_uses e known g n (l ∷ ls) = step (all_uses e known g (n + 1) ls) (touches g l) refl where
  draw : ℕ × QLink → ActLink
  draw = act_link e.problem.protocol e.problem.edges e.links

  step : flat_map (uses_on known e.problem.acts g) (map draw (filter (is_at g) (enumerate_from (n + 1) ls))) ≡ map (use_of known)
      (flat_map (maps_at e g) (filter (touches g) ls)) → (b : Bool) → touches g l ≡ b
      → flat_map (uses_on known e.problem.acts g)
      (map draw (cond b ((n, l) ∷ filter (is_at g) (enumerate_from (n + 1) ls)) (filter (is_at g) (enumerate_from (n + 1) ls)))) ≡ map (use_of known)
      (flat_map (maps_at e g) (cond b (l ∷ filter (touches g) ls) (filter (touches g) ls)))
  step later false at = later
  step later true at =
      ap (λ us. us ++ flat_map (uses_on known e.problem.acts g) (map draw (filter (is_at g) (enumerate_from (n + 1) ls)))) (uses_at e known g n l at)
      ∙ ap (λ us. map (use_of known) (maps_at e g l) ++ us) later
      ∙ sym (map-append (use_of known) (maps_at e g l) (flat_map (maps_at e g) (filter (touches g) ls)))

-- ---- what is known

by_in : (acts : List Act) (k : ℕ) → In acts (act_by acts k) ⊎ (act_by acts k ≡ Cost 0)
by_in [] k = inr refl
by_in (a ∷ acts) zero = inl (inl refl)
by_in (a ∷ acts) (suc k) = elim (by_in acts k) [ inl at ↦ inl (inr at) | inr none ↦ inr none ]

closed_is_known : (known : List Plain) (closed : ℕ) → KnowsClosed known closed → IsKnown known closed_map
closed_is_known known closed is = record { known = λ _. is.any }

pub knows_into : (known : List Plain) (acts : List Act) (numbers : List ActMaps) (closed : ℕ) → AreKnown known acts numbers → KnowsClosed known closed →
    (p : Option ℕ) → IsKnown known (act_in_map (option_map (act_by acts) p))
knows_into known acts numbers closed are is None = closed_is_known known closed is
knows_into known acts numbers closed are is (Some k) = elim (by_in acts k) [
  | inl at ↦ (are.known (act_by acts k) (contains_in acts (act_by acts k) at)).into
  | inr none ↦ subst (λ a. IsKnown known (act_in_map (Some a))) (sym none) (closed_is_known known closed is)
]

pub knows_out : (known : List Plain) (acts : List Act) (numbers : List ActMaps) → AreKnown known acts numbers → (p : Option ℕ) (m : Plain) →
    act_out_map (option_map (act_by acts) p) ≡ Some m → IsKnown known m
knows_out known acts numbers are None m e = absurd (let none : None ≡ Some m = e in cc)
knows_out known acts numbers are (Some k) m e = elim (by_in acts k) [
  | inl at ↦ (are.known (act_by acts k) (contains_in acts (act_by acts k) at)).out m e
  | inr none ↦ absurd (let never : None ≡ Some m = ap (λ a. act_out_map (Some a)) (sym none) ∙ e in cc)
]

written_in : (o : Option Plain) (m : Plain) → In (if_written o) m → (o ≡ Some m) × (is_whole m.entries ≡ false)
written_in None m at = absurd at
written_in (Some x) m at = step (is_whole x.entries) refl at where
  step : (b : Bool) → is_whole x.entries ≡ b → In (cond b [] (x ∷ [])) m → (Some x ≡ Some m) × (is_whole m.entries ≡ false)
  step true e here = absurd here
  step false e (inl same) = (ap (λ y. Some y) same, ap (λ (y : Plain). is_whole y.entries) (sym same) ∙ e)
  step false e (inr none) = absurd none

pub uses_known : (e : Plan) (known : List Plain) (numbers : List ActMaps) (closed : ℕ) (g : ℕ) → AreKnown known e.problem.acts numbers →
    KnowsClosed known closed → (m : Plain) → In (flat_map (maps_at e g) (filter (touches g) e.links)) m → list_any (same_map m) known ≡ true
uses_known e known numbers closed g are is m at =
    let at_link = flat_map_in (maps_at e g) (filter (touches g) e.links) m at in
    let l = at_link.0 in
    let here = (filter_in (touches g) e.links l at_link.1).1 in
    let by = λ (h : ℕ). option_map (act_at e.problem.edges) (edge_into e.problem.protocol e.links h l) in
    let into_is = act_same e g 0 l here in
    let out_is = act_same e (other_end g l) 0 l (other_touches g l) in
    let x = act_link e.problem.protocol e.problem.edges e.links (0, l) in
    elim (append_in (if_written (Some (act_in_map (act_into e g l)))) (if_written (act_out_map (act_into e (other_end g l) l))) m at_link.2) [
      | inl first ↦ (let w = written_in (Some (act_in_map (act_into e g l))) m first in
          let same : act_in_map (act_into e g l) ≡ m = cc in
          (subst (IsKnown known) (sym (ap act_in_map into_is) ∙ same) (knows_into known e.problem.acts numbers closed are is (act_to g x))).known w.1)
      | inr second ↦ (let w = written_in (act_out_map (act_into e (other_end g l) l)) m second in
          (knows_out known e.problem.acts numbers are (act_to (other_end g l) x) m (ap act_out_map (sym out_is) ∙ w.0)).known w.1)
    ]
