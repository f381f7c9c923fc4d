-- The first places of the acts between two groups are one for each act.
use Rattle.std.proofs.Common.{◌≡◌, ◌≢◌, ℕ, ◌+◌, ◌<◌, Bool, true, false, cond, ◌&&◌, ◌||◌, List, [], ◌∷◌, length, inl, inr, Some, refl, sym, ◌∙◌, ap, subst, arith, eq-eqb}
use Rattle.std.specs.Prelude.{filter, nat_eq, slice_get, slice_index}
use Rattle.std.specs.List.{list_any, range_with_len}
use Rattle.std.proofs.lemmas.Bool.Decides.{nat_tests}
use Rattle.std.proofs.lemmas.Option.{slice_get_within}
use Rattle.base_kit.specs.declared.act_graph.Edge.{Edge}
use Rattle.base_kit.proofs.Elements.{In, in_filter, filter_in, in_flat_map, flat_map_in, get_in, in_range, range_in}
use Rattle.abstract_net.proofs.Carried.{at_place, get_some, link_below}
use Rattle.abstract_net.specs.Carried.{act_at}
use Rattle.abstract_net.specs.Links.{link_at, importer_at, exporter_at, link_bound, on_link, by_link, goes, first_acts, acts_into}

-- the act at a place was seen
abbrev is_seen : List Edge → List ℕ → ℕ → Bool
is_seen es seen k = list_any (nat_eq (act_at es k)) seen

-- no two of the places have one act
abbrev pub HaveOwnActs : List Edge → List ℕ → Type 0
HaveOwnActs es [] = Unit {0}
HaveOwnActs es (k ∷ ks) = ((j : ℕ) → In ks j → act_at es k ≢ act_at es j) × HaveOwnActs es ks

-- these are the first places of the acts at `ks` that were not seen
record AreFirst (es : List Edge) (seen ks firsts : List ℕ) : Type 0 where
  of : (k : ℕ) → In firsts k → In ks k
  new : (k : ℕ) → In firsts k → is_seen es seen k ≡ false
  own : HaveOwnActs es firsts
  all : (k : ℕ) → In ks k → is_seen es seen k ≡ false → (j : ℕ) × In firsts j × (act_at es j ≡ act_at es k)

true_false : {X : Type 0} (b : Bool) → b ≡ true → b ≡ false → X
true_false true e f = absurd cc
true_false false e f = absurd cc

neither : (a b : Bool) → (a || b) ≡ false → (a ≡ false) × (b ≡ false)
neither true b e = absurd cc
neither false b e = (refl, e)

both_no : (a b : Bool) → a ≡ false → b ≡ false → (a || b) ≡ false
both_no true b e f = absurd cc
both_no false b e f = f

differ_by : (m n : ℕ) → nat_eq m n ≡ false → n ≢ m
differ_by m n e same = absurd (grind (arith, nat_tests))

equal_by : (m n : ℕ) → nat_eq m n ≡ true → n ≡ m
equal_by m n e = grind (arith, nat_tests)

module _ (es : List Edge) (seen : List ℕ) (k : ℕ) (ks : List ℕ) where
  passed_over : is_seen es seen k ≡ true → (firsts : List ℕ) → AreFirst es seen ks firsts → AreFirst es seen (k ∷ ks) firsts
  passed_over met firsts are = record {
    of = λ m at. inr (are.of m at);
    new = are.new;
    own = are.own;
    all = λ m at new. elim at [
      | inl here ↦ true_false (is_seen es seen k) met (ap (is_seen es seen) here ∙ new)
      | inr there ↦ are.all m there new
    ];
  }

  found : (m : ℕ) (firsts : List ℕ) → AreFirst es (act_at es k ∷ seen) ks firsts → In ks m → is_seen es seen m ≡ false → (b : Bool)
      → nat_eq (act_at es m) (act_at es k) ≡ b → (j : ℕ) × In (k ∷ firsts) j × (act_at es j ≡ act_at es m)
  found m firsts are at new true e = (k, inl refl, equal_by (act_at es m) (act_at es k) e)
  found m firsts are at new false e = let r = are.all m at (both_no (nat_eq (act_at es m) (act_at es k)) (is_seen es seen m) e new) in (r.0, inr r.1, r.2)

  taken : is_seen es seen k ≡ false → (firsts : List ℕ) → AreFirst es (act_at es k ∷ seen) ks firsts → AreFirst es seen (k ∷ ks) (k ∷ firsts)
  taken fresh firsts are =
      let parts : (m : ℕ) → In firsts m → (nat_eq (act_at es m) (act_at es k) ≡ false) × (is_seen es seen m ≡ false) = λ m at.
      neither (nat_eq (act_at es m) (act_at es k)) (is_seen es seen m) (are.new m at) in
      record {
        of = λ m at. elim at [ inl here ↦ inl here | inr there ↦ inr (are.of m there) ];
        new = λ m at. elim at [ inl here ↦ sym (ap (is_seen es seen) here) ∙ fresh | inr there ↦ (parts m there).1 ];
        own = (λ m at. differ_by (act_at es m) (act_at es k) (parts m at).0, are.own);
        all = λ m at new. elim at [
          | inl here ↦ (k, inl refl, ap (act_at es) here)
          | inr there ↦ found m firsts are there new (nat_eq (act_at es m) (act_at es k)) refl
        ];
      }

  either : (b : Bool) → is_seen es seen k ≡ b → (skip take : List ℕ) → AreFirst es seen ks skip → AreFirst es (act_at es k ∷ seen) ks take
      → AreFirst es seen (k ∷ ks) (cond b skip (k ∷ take))
  either true met skip take over more = passed_over met skip over
  either false met skip take over more = taken met take more

are_first : (es : List Edge) (seen ks : List ℕ) → AreFirst es seen ks (first_acts es seen ks)
are_first es seen [] = record { of = λ k at. at; new = λ k at. absurd at; own = tt; all = λ k at new. absurd at }
are_first es seen (k ∷ ks) = either es seen k ks (is_seen es seen k) refl (first_acts es seen ks) (first_acts es (act_at es k ∷ seen) ks) (are_first es seen ks)
    (are_first es (act_at es k ∷ seen) ks)

-- ---- the edges of two groups

from_zero : (n k : ℕ) → k < n → In (range_with_len 0 n) k
from_zero n k h = let same : 0 + k ≡ k = omega arith in subst (λ (m : ℕ). In (range_with_len 0 n) m) same (in_range 0 n k h)

below_length : (es : List Edge) (k : ℕ) → In (by_link es) k → k < length es
unfolding by_link
below_length es k at =
    let l = flat_map_in (on_link es) (range_with_len 0 (link_bound es)) k at in
    let here = filter_in (λ j. nat_eq (link_at es j) l.0) (range_with_len 0 (length es)) k l.2 in
    let below = range_in 0 (length es) k here.0 in
    omega arith

stands : (es : List Edge) (k : ℕ) (edge : Edge) → slice_get es k ≡ Some edge → In (by_link es) k
unfolding by_link
stands es k edge at =
    in_flat_map (on_link es) (range_with_len 0 (link_bound es)) edge.link k
    (from_zero (link_bound es) edge.link (link_below es 0 edge (get_in es k edge at)))
    (in_filter (λ j. nat_eq (link_at es j) edge.link) (range_with_len 0 (length es)) k (from_zero (length es) k (slice_get_within es k edge at))
    (eq-eqb _ _ (at_place es [] k edge at).link))

both_tests : (a b : Bool) → a ≡ true → b ≡ true → (a && b) ≡ true
both_tests true b e f = f
both_tests false b e f = cc

tests_both : (a b c d : ℕ) → (nat_eq a b && nat_eq c d) ≡ true → (a ≡ b) × (c ≡ d)
tests_both a b c d h = (grind (arith, nat_tests), grind (arith, nat_tests))

-- the edge at a place goes into g from h
pub record GoesAt (es : List Edge) (groups : List ℕ) (g h k : ℕ) : Type 0 where
  pub edge : Edge
  pub at : slice_get es k ≡ Some edge
  pub importer : slice_index groups edge.importer ≡ g
  pub exporter : slice_index groups edge.exporter ≡ h

-- one place for each act of the edges into g from h
pub record AreActsInto (es : List Edge) (groups : List ℕ) (g h : ℕ) (places : List ℕ) : Type 0 where
  pub into : (k : ℕ) → In places k → GoesAt es groups g h k
  pub own : HaveOwnActs es places
  pub all : (k : ℕ) → GoesAt es groups g h k → (j : ℕ) × In places j × (act_at es j ≡ act_at es k)

pub acts_of_edges : (es : List Edge) (groups : List ℕ) (g h : ℕ) → AreActsInto es groups g h (acts_into es groups g h)
unfolding acts_into
acts_of_edges es groups g h =
    let first = are_first es [] (filter (goes es groups g h) (by_link es)) in
    record {
      into = λ k at. (
          let kept = filter_in (goes es groups g h) (by_link es) k (first.of k at) in
          let edge = get_some es k (below_length es k kept.0) in
          let place = at_place es groups k edge.0 edge.1 in
          let ends = tests_both (importer_at es groups k) g (exporter_at es groups k) h kept.1 in
          record { edge = edge.0; at = edge.1; importer = sym place.importer ∙ ends.0; exporter = sym place.exporter ∙ ends.1 });
      own = first.own;
      all = λ k goes_at. (
          let place = at_place es groups k goes_at.edge goes_at.at in
          let test = both_tests _ _ (eq-eqb (importer_at es groups k) g (place.importer ∙ goes_at.importer))
          (eq-eqb (exporter_at es groups k) h (place.exporter ∙ goes_at.exporter)) in
          first.all k (in_filter (goes es groups g h) (by_link es) k (stands es k goes_at.edge goes_at.at) test) refl);
    }
