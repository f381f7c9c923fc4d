-- What is carried behind a map.
use Rattle.std.proofs.Common.{◌≡◌, ◌≢◌, ℕ, ◌<◌, Bool, true, false, not, ◌&&◌, ◌||◌, nat_eq, List, [], ◌∷◌, ◌++◌, length, Some, None, ◌⊎◌, refl, sym, ◌∙◌, ap, inl, inr}
use Rattle.std.specs.Prelude.{if◌then◌else◌}
use Rattle.std.proofs.lemmas.Bool.{cases_eq}
use Rattle.base_kit.specs.Sets.{has}
use Rattle.base_kit.proofs.SetFacts.{same_number, other_number}
use Rattle.route_maps.specs.Within.{AreWithin}
use Rattle.dd_core.specs.Sets.{Shown, value_of, Means, Grows, IsIteOfSets}
use Rattle.dd_core.proofs.ShownLemmas.{value_of_kept, grows_inside, grows_trans}
use Rattle.policy_dd.specs.declared.map_run.MapFn.{MapFn}
use Rattle.policy_dd.specs.declared.matches.Carried.{Carried}
use Rattle.policy_dd.specs.Edge.{case_or, keys_of}
use Rattle.policy_dd.specs.Tables.{node_at, IsTabled}
use Rattle.policy_dd.specs.Matches.{AreNodesInside, has_in}
use Rattle.policy_dd.specs.MapRun.{AreMapInside}
use Rattle.policy_dd.specs.After.{stays_in, carries_on, AreKeysTouched, IsAfter, IsSent}
use Rattle.policy_dd.proofs.CaseLemmas.{case_absent}
use Rattle.policy_dd.proofs.MatchLemmas.{has_in_kept, all_within}
use Rattle.policy_dd.proofs.TableLemmas.{has-append, case_at, case_not_at, case_kept, cases_inside_kept, case-append, keys-append, inside-append}

-- tables key by key
pub tabled_none : (shown : Shown) (test : ℕ → List ℕ → Bool) → IsTabled shown test [] []
tabled_none shown test = record { inside = tt; keys_are = refl; value = λ set k other. refl }

pub tabled_more : (mid new : Shown) (test : ℕ → List ℕ → Bool) (keys : List ℕ) (cases : List (ℕ × ℕ)) (key node : ℕ) → Grows mid new →
    IsTabled mid test keys cases → Means new node (λ set. test key set) → IsTabled new test (keys ++ key ∷ []) (cases ++ (key, node) ∷ [])
tabled_more mid new test keys cases key node g table is = record {
  inside = inside-append new cases (key, node) (cases_inside_kept mid new cases g table.inside) is.inside;
  keys_are = keys-append cases ((key, node) ∷ []) ∙ ap (λ (l : List ℕ). l ++ key ∷ []) table.keys_are;
  value = λ set k other.
      case-append new set cases ((key, node) ∷ []) k other
      ∙ case_kept mid new set cases k (case_or new set ((key, node) ∷ []) k other) (if nat_eq key k then test key set else other) g table.inside
      (ap (λ b. if nat_eq key k then b else other) (is.value set))
      ∙ table.value set k (if nat_eq key k then test key set else other)
      ∙ by set k other (cases_eq key k)
      ∙ ap (λ b. if b then test k set else other) (sym (has-append keys (key ∷ []) k));
}
  where
    hit : (h : Bool) (t other : Bool) → (if h then t else t) ≡ (if h || (true || false) then t else other)
    hit true t other = refl
    hit false t other = refl

    miss : (h : Bool) (t other : Bool) → (if h then t else other) ≡ (if h || (false || false) then t else other)
    miss true t other = refl
    miss false t other = refl

    by : (set : List ℕ) (k : ℕ) (other : Bool) → (key ≡ k) ⊎ (key ≢ k) →
        (if has keys k then test k set else (if nat_eq key k then test key set else other)) ≡ (if has keys k
        || (nat_eq key k || false) then test k set else other)
    by set k other (inl e) = rw (same_number key k e, e) (hit (has keys k) (test k set) other)
    by set k other (inr ne) = rw (other_number key k ne) (miss (has keys k) (test k set) other)

-- whether the community stays
pub stays_odd : (s0 s1 s2 : Shown) (m : MapFn) (c odd gone node : ℕ) → Grows s0 s1 → AreMapInside s0 m → odd < length s0.nodes → node_at m.odd c ≡ Some odd →
    Means s1 gone (λ set. not (value_of s0 set m.rest)) → IsIteOfSets s1 s2 odd gone m.rest node → Means s2 node (λ set. stays_in s0 m set c)
stays_odd s0 s1 s2 m c odd gone node g im inside at of_gone ite = record {
  inside = ite.inside;
  value = λ set.
      ite.value set
      ∙ ap (λ b. if b then value_of s1 set gone else value_of s1 set m.rest) (value_of_kept s0 s1 set odd g inside)
      ∙ ap (λ b. if value_of s0 set odd then b else value_of s1 set m.rest) (of_gone.value set)
      ∙ ap (λ b. if value_of s0 set odd then not (value_of s0 set m.rest) else b) (value_of_kept s0 s1 set m.rest g im.rest)
      ∙ ap (λ b. if b then not (value_of s0 set m.rest) else value_of s0 set m.rest) (sym (case_at s0 set m.odd c odd false at));
}

pub stays_rest : (s0 : Shown) (m : MapFn) (c : ℕ) → AreMapInside s0 m → node_at m.odd c ≡ None → Means s0 m.rest (λ set. stays_in s0 m set c)
stays_rest s0 m c im at = record {
  inside = im.rest;
  value = λ set. ap (λ b. if b then not (value_of s0 set m.rest) else value_of s0 set m.rest) (sym (case_not_at s0 set m.odd c false at));
}

stays_kept : (old new : Shown) (m : MapFn) (set : List ℕ) (c : ℕ) → Grows old new → AreMapInside old m → stays_in new m set c ≡ stays_in old m set c
stays_kept old new m set c g im =
    ap (λ b. if b then not (value_of new set m.rest) else value_of new set m.rest) (case_kept old new set m.odd c false false g im.odd refl)
    ∙ ap (λ b. if case_or old set m.odd c false then not b else b) (value_of_kept old new set m.rest g im.rest)

kept_value : (s0 s1 s2 s3 : Shown) (carried : Carried) (m : MapFn) (c there stays kept : ℕ) → Grows s0 s1 → Grows s1 s2 → AreMapInside s0 m →
    Means s1 there (λ set. has_in s0 carried set c) → Means s2 stays (λ set. stays_in s1 m set c) →
    Means s3 kept (λ set. value_of s2 set there && value_of s2 set stays) → (set : List ℕ) → value_of s3 set kept ≡ has_in s0 carried set c
    && stays_in s0 m set c
kept_value s0 s1 s2 s3 carried m c there stays kept g1 g2 im of_there of_stays of_kept set =
    of_kept.value set
    ∙ ap (λ b. b && value_of s2 set stays) (value_of_kept s1 s2 set there g2 of_there.inside ∙ of_there.value set)
    ∙ ap (λ b. has_in s0 carried set c && b) (of_stays.value set ∙ stays_kept s0 s1 m set c g1 im)

pub carried_put : (s0 s1 s2 s3 s4 : Shown) (carried : Carried) (m : MapFn) (c there stays kept put node : ℕ) → Grows s0 s1 → Grows s1 s2 → Grows s2 s3 →
    AreMapInside s0 m → put < length s0.nodes → node_at m.present c ≡ Some put → Means s1 there (λ set. has_in s0 carried set c) →
    Means s2 stays (λ set. stays_in s1 m set c) → Means s3 kept (λ set. value_of s2 set there && value_of s2 set stays) →
    Means s4 node (λ set. value_of s3 set put || value_of s3 set kept) → Means s4 node (λ set. carries_on s0 carried m set c)
carried_put s0 s1 s2 s3 s4 carried m c there stays kept put node g1 g2 g3 im inside at of_there of_stays of_kept is = record {
  inside = is.inside;
  value = λ set.
      is.value set
      ∙ ap (λ b. b || value_of s3 set kept) (value_of_kept s0 s3 set put (grows_trans s0 s2 s3 (grows_trans s0 s1 s2 g1 g2) g3) inside
      ∙ sym (case_at s0 set m.present c put false at))
      ∙ ap (λ b. case_or s0 set m.present c false || b) (kept_value s0 s1 s2 s3 carried m c there stays kept g1 g2 im of_there of_stays of_kept set);
}

pub carried_kept : (s0 s1 s2 s3 : Shown) (carried : Carried) (m : MapFn) (c there stays kept : ℕ) → Grows s0 s1 → Grows s1 s2 → AreMapInside s0 m →
    node_at m.present c ≡ None → Means s1 there (λ set. has_in s0 carried set c) → Means s2 stays (λ set. stays_in s1 m set c) →
    Means s3 kept (λ set. value_of s2 set there && value_of s2 set stays) → Means s3 kept (λ set. carries_on s0 carried m set c)
carried_kept s0 s1 s2 s3 carried m c there stays kept g1 g2 im at of_there of_stays of_kept = record {
  inside = of_kept.inside;
  value = λ set.
      kept_value s0 s1 s2 s3 carried m c there stays kept g1 g2 im of_there of_stays of_kept set
      ∙ ap (λ b. b || (has_in s0 carried set c && stays_in s0 m set c)) (sym (case_not_at s0 set m.present c false at));
}

-- in a store that has grown
pub carries_kept : (old new : Shown) (carried : Carried) (m : MapFn) (set : List ℕ) (c : ℕ) → Grows old new → AreNodesInside old carried → AreMapInside old m →
    carries_on new carried m set c ≡ carries_on old carried m set c
carries_kept old new carried m set c g inside im =
    ap (λ b. b || (has_in new carried set c && stays_in new m set c)) (case_kept old new set m.present c false false g im.present refl)
    ∙ ap (λ b. case_or old set m.present c false || (b && stays_in new m set c)) (has_in_kept old new carried set c g inside)
    ∙ ap (λ b. case_or old set m.present c false || (has_in old carried set c && b)) (stays_kept old new m set c g im)

pub tabled_as : (shown : Shown) (test test' : ℕ → List ℕ → Bool) (keys : List ℕ) (cases : List (ℕ × ℕ)) → ((k : ℕ) (set : List ℕ) → test k set ≡ test' k set) →
    IsTabled shown test keys cases → IsTabled shown test' keys cases
tabled_as shown test test' keys cases same table = record {
  inside = table.inside;
  keys_are = table.keys_are;
  value = λ set k other. table.value set k other ∙ ap (λ b. if has keys k then b else other) (same k set);
}

-- all communities with a node before the map, or named by it
pub touched_are : (carried : Carried) (m : MapFn) (keys more all : List ℕ) → ((k : ℕ) → has keys k ≡ has [] k || has (keys_of carried.outs) k) →
    ((k : ℕ) → has more k ≡ has keys k || has (keys_of m.present) k) → ((k : ℕ) → has all k ≡ has more k || has (keys_of m.odd) k) →
    AreKeysTouched carried m all
touched_are carried m keys more all first second third = record {
  each = λ c. third c ∙ ap (λ b. b || has (keys_of m.odd) c) (second c ∙ ap (λ b. b || has (keys_of m.present) c) (first c))
      ∙ assoc (has (keys_of carried.outs) c) (has (keys_of m.present) c) (has (keys_of m.odd) c);
}
  where
    assoc : (a b c : Bool) → (a || b) || c ≡ a || (b || c)
    assoc true b c = refl
    assoc false b c = refl

one_of_three : (a b c : Bool) → a || (b || c) ≡ true → a ≡ false → b ≡ false → c ≡ true
one_of_three true b c e f g = absurd cc
one_of_three false true c e f g = absurd cc
one_of_three false false c e f g = e

none_of_three : (a b c : Bool) → a || (b || c) ≡ false → (a ≡ false) × ((b ≡ false) × (c ≡ false))
none_of_three true b c e = absurd cc
none_of_three false true c e = absurd cc
none_of_three false false c e = (refl, (refl, e))

pub touched_known : (shown : Shown) (carried : Carried) (m : MapFn) (keys : List ℕ) → AreNodesInside shown carried → AreMapInside shown m →
    AreKeysTouched carried m keys → (c : ℕ) → has keys c ≡ true → has shown.universe c ≡ true
touched_known shown carried m keys inside im touched c there = by (has (keys_of carried.outs) c) (has (keys_of m.present) c) refl refl
  where
    by : (a b : Bool) → has (keys_of carried.outs) c ≡ a → has (keys_of m.present) c ≡ b → has shown.universe c ≡ true
    by true b e e' = inside.known c e
    by false true e e' = im.present_known c e'
    by false false e e' = im.odd_known c (one_of_three (has (keys_of carried.outs) c) (has (keys_of m.present) c) (has (keys_of m.odd) c)
        (sym (touched.each c) ∙ there) e e')

pub touched_within : (shown : Shown) (carried : Carried) (m : MapFn) (keys : List ℕ) → AreNodesInside shown carried → AreMapInside shown m →
    AreKeysTouched carried m keys → AreWithin shown.universe keys
touched_within shown carried m keys inside im touched = all_within shown.universe keys (touched_known shown carried m keys inside im touched)

and_assoc : (a b c : Bool) → a && (b && c) ≡ (a && b) && c
and_assoc true b c = refl
and_assoc false b c = refl

module _ (s0 s1 s2 s3 : Shown) (carried : Carried) (m : MapFn) (keys : List ℕ) (outs : List (ℕ × ℕ)) (rest others : ℕ) (g1 : Grows s0 s1) (g2 : Grows s1 s2)
    (g3 : Grows s2 s3) (inside : AreNodesInside s0 carried) (im : AreMapInside s0 m) (touched : AreKeysTouched carried m keys)
    (tabled : IsTabled s1 (λ k set. carries_on s0 carried m set k) keys outs)
    (of_rest : Means s2 rest (λ set. value_of s1 set carried.rest && value_of s1 set m.rest))
    (of_others : Means s3 others (λ set. value_of s2 set carried.others && value_of s2 set m.rest)) where
  to2 : Grows s0 s2
  to2 = grows_trans s0 s1 s2 g1 g2

  to3 : Grows s0 s3
  to3 = grows_trans s0 s2 s3 to2 g3

  from1 : Grows s1 s3
  from1 = grows_trans s1 s2 s3 g2 g3

  rest_is : (set : List ℕ) → value_of s3 set rest ≡ value_of s0 set carried.rest && value_of s0 set m.rest
  rest_is set =
      value_of_kept s2 s3 set rest g3 of_rest.inside ∙ of_rest.value set
      ∙ ap (λ b. b && value_of s1 set m.rest) (value_of_kept s0 s1 set carried.rest g1 inside.rest)
      ∙ ap (λ b. value_of s0 set carried.rest && b) (value_of_kept s0 s1 set m.rest g1 im.rest)

  -- a community that nothing names
  untouched : (set : List ℕ) (c : ℕ) → has keys c ≡ false →
      has set c && (value_of s0 set carried.rest && value_of s0 set m.rest) ≡ carries_on s0 carried m set c
  untouched set c none =
      let parts = none_of_three (has (keys_of carried.outs) c) (has (keys_of m.present) c) (has (keys_of m.odd) c) (sym (touched.each c) ∙ none) in
      let e1 : case_or s0 set m.present c false ≡ false = case_absent s0 set m.present c false parts.1.0 in
      let e2 : has_in s0 carried set c ≡ has set c && value_of s0 set carried.rest =
      case_absent s0 set carried.outs c (has set c && value_of s0 set carried.rest) parts.0 in
      let e3 : stays_in s0 m set c ≡ value_of s0 set m.rest =
      ap (λ b. if b then not (value_of s0 set m.rest) else value_of s0 set m.rest) (case_absent s0 set m.odd c false parts.1.1) in
      and_assoc (has set c) (value_of s0 set carried.rest) (value_of s0 set m.rest)
      ∙ sym (ap (λ b. b || (has_in s0 carried set c && stays_in s0 m set c)) e1 ∙ ap (λ b. b && stays_in s0 m set c) e2
      ∙ ap (λ b. (has set c && value_of s0 set carried.rest) && b) e3)

  there_is : (set : List ℕ) (c : ℕ) → case_or s3 set outs c (has set c && value_of s3 set rest) ≡ carries_on s0 carried m set c
  there_is set c =
      case_kept s1 s3 set outs c (has set c && value_of s3 set rest) (has set c && (value_of s0 set carried.rest && value_of s0 set m.rest)) from1 tabled.inside
      (ap (λ b. has set c && b) (rest_is set))
      ∙ tabled.value set c (has set c && (value_of s0 set carried.rest && value_of s0 set m.rest))
      ∙ by (has keys c) refl
    where
      by : (b : Bool) → has keys c ≡ b → (if b then carries_on s0 carried m set c else has set c
          && (value_of s0 set carried.rest && value_of s0 set m.rest)) ≡ carries_on s0 carried m set c
      by true e = refl
      by false e = untouched set c e

  pub after_is : IsAfter s0 s3 carried m (record { outs = outs; rest = rest; others = others })
  after_is = record {
    inside = record {
      rest = grows_inside s2 s3 rest g3 of_rest.inside;
      others = of_others.inside;
      outs = cases_inside_kept s1 s3 outs from1 tabled.inside;
      known = λ c there. ap (λ (u : List ℕ). has u c) to3.universe
          ∙ touched_known s0 carried m keys inside im touched c (ap (λ (l : List ℕ). has l c) (sym tabled.keys_are) ∙ there);
    };
    others = λ set.
        of_others.value set
        ∙ ap (λ b. b && value_of s2 set m.rest) (value_of_kept s0 s2 set carried.others to2 inside.others)
        ∙ ap (λ b. value_of s0 set carried.others && b) (value_of_kept s0 s2 set m.rest to2 im.rest);
    there = there_is;
  }

pub sent_all : (old new : Shown) (carried : Carried) (m : MapFn) (sends : Bool) (r : Carried) → sends ≡ true → IsAfter old new carried m r →
    IsSent old new carried m sends r
sent_all old new carried m sends r on is = record {
  inside = is.inside;
  others = λ set. is.others set ∙ ap (λ b. b && (value_of old set carried.others && value_of old set m.rest)) (sym on);
  there = λ set c. is.there set c ∙ ap (λ b. b && carries_on old carried m set c) (sym on);
}

and_false : (b : Bool) → b && false ≡ false
and_false true = refl
and_false false = refl

pub sent_none : (shown : Shown) (carried : Carried) (m : MapFn) (sends : Bool) (never : ℕ) → sends ≡ false → Means shown never (λ _. false) →
    IsSent shown shown carried m sends (record { outs = []; rest = never; others = never })
sent_none shown carried m sends never off is = record {
  inside = record { rest = is.inside; others = is.inside; outs = tt; known = λ c there. absurd cc };
  others = λ set. is.value set ∙ ap (λ b. b && (value_of shown set carried.others && value_of shown set m.rest)) (sym off);
  there = λ set c. ap (λ b. has set c && b) (is.value set) ∙ and_false (has set c) ∙ ap (λ b. b && carries_on shown carried m set c) (sym off);
}
