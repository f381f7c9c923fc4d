-- Each problem has the problem with canonical acts, or a first edge whose act has no canonical lists.
use Rattle.std.proofs.Common.{◌≡◌, ◌≢◌, ◌⊎◌, inl, inr, ℕ, zero, suc, ◌+◌, ◌<◌, ◌≤◌, Bool, true, false, ◌||◌, nat_eq, List, [], ◌∷◌, ◌++◌, map, length, slice_get, Option, Some, None, refl, sym, ap, ◌∙◌, subst, arith, zero-add}
use Rattle.std.specs.Prelude.{if◌then◌else◌, All, Contains, IfSome, slice_index_or}
use Rattle.std.specs.List.{list_any, range_with_len, AllByRecursion}
use Rattle.std.specs.Option.{is_some, option_map}
use Rattle.std.proofs.lemmas.Bool.{cases_lt}
use Rattle.std.proofs.lemmas.Bool.Decides.{nat_tests}
use Rattle.std.proofs.lemmas.List.{length-map}
use Rattle.std.proofs.lemmas.List.Elements.{All-from_recursion}
use Rattle.std.proofs.lemmas.List.FromFn.{length-range_with_len}
use Rattle.base_kit.specs.declared.act_graph.Edge.{Edge}
use Rattle.base_kit.specs.Sets.{IsAscending}
use Rattle.base_kit.proofs.Elements.{contains_in, in_contains, In}
use Rattle.cfg_ast.specs.declared.policy.Change.{Change}
use Rattle.cfg_ast.specs.declared.policy.Change.TheVariants.{Append, Clear, Replace}
use Rattle.cfg_ast.specs.printing.WellFormed.{IsWellFormedChange}
use Rattle.route_maps.specs.declared.plain.Imported.{Imported}
use Rattle.route_maps.specs.declared.plain.Plain.{Plain}
use Rattle.route_maps.specs.declared.plain.PlainEntry.{PlainEntry}
use Rattle.route_maps.specs.Maps.{import_of}
use Rattle.route_maps.specs.Printable.{IsPrintable, IsPrintableEntry}
use Rattle.srp_core.specs.declared.route.Act.{Act}
use Rattle.srp_core.specs.declared.route.Act.TheVariants.{Cost, Import}
use Rattle.srp_core.specs.ActMaps.{IsActWithin, IsPrintableAct}
use Rattle.srp_core.specs.Acts.{ChangesToSet, KeepsSets, MapsToSets}
use Rattle.srp_core.specs.Problem.{act_of, IsProblem, Problem}
use Rattle.canon_policy.specs.declared.lists.CanonEdge.{CanonEdge}
use Rattle.canon_policy.specs.Canonical.{canonical_lists_of, canonical_of, depends_on_others, in_list, lists_of, out_list}
use Rattle.canon_policy.specs.CanonicalProblem.{canonical_act, has_canonical, session_with, AreCommunities, IsFirstWithout}
use Rattle.canon_policy.specs.Functions.{on_sets}
use Rattle.canon_policy.specs.MadeActs.{act_at_place, AreCanonicalActs, IsActFor}
use Rattle.canon_policy.proofs.ActsMade.{cost_for, same_act, session_for}
use Rattle.canon_policy.proofs.ListLaws.{import_alike}
use Rattle.canon_policy.proofs.MapsUniform.{import_uniform}
use Rattle.canon_policy.proofs.Printed.{printable_lists}
use Rattle.canon_policy.proofs.ProblemMade.{all_named, all_printable, is_alike, is_canonical, keeps_rules}
use Rattle.canon_policy.proofs.SmallNumbers.{small_import}
use Rattle.canon_policy.proofs.Uniform.{uniform_plain}
use Rattle.canon_policy.specs.Exists.{EachHasCanonical, HasCanonical}

-- ---- maps give sets

changes : (change : Option Change) → IfSome change IsWellFormedChange → ChangesToSet change
changes None is = tt
changes (Some Clear) is = tt
changes (Some (Replace by)) is = is.ascending
changes (Some (Append more)) is = tt

entries_keep : (entries : List PlainEntry) → AllByRecursion IsPrintableEntry entries → AllByRecursion (λ (e : PlainEntry). ChangesToSet e.change) entries
entries_keep [] all = tt
entries_keep (e ∷ es) all = (changes e.change all.0.change, entries_keep es all.1)

maps_keep : (plain : Plain) → IsPrintable plain → MapsToSets plain.entries
maps_keep plain is = All-from_recursion (λ (e : PlainEntry). ChangesToSet e.change) plain.entries (entries_keep plain.entries is.entries)

-- ---- lists

range_get : (a n u : ℕ) → u < n → slice_get (range_with_len a n) u ≡ Some (a + u)
range_get a zero u h = absurd (omega arith)
range_get a (suc n) zero h = ap (λ (k : ℕ). Some k) (let e : a ≡ a + 0 = omega arith in e)
range_get a (suc n) (suc u) h = range_get (a + 1) n u (omega arith) ∙ ap (λ (k : ℕ). Some k) (let e : a + 1 + u ≡ a + suc u = omega arith in e)

read_map : {Y : Type 0} (f : ℕ → Y) (xs : List ℕ) (k x : ℕ) (d : Y) → slice_get xs k ≡ Some x → slice_index_or (map f xs) k d ≡ f x
read_map f [] k x d at = absurd cc
read_map f (y ∷ ys) zero x d at = ap f (let same : y ≡ x = cc in same)
read_map f (y ∷ ys) (suc k) x d at = read_map f ys k x d at

beyond : {X : Type 0} (xs : List X) (k : ℕ) (d : X) → length xs ≤ k → slice_index_or xs k d ≡ d
beyond [] k d h = refl
beyond (x ∷ xs) zero d h = absurd (omega arith)
beyond (x ∷ xs) (suc k) d h = beyond xs k d (omega arith)

all_at : {X : Type 0} (P : X → Type 0) (xs : List X) (k : ℕ) (d : X) → k < length xs → AllByRecursion P xs → P (slice_index_or xs k d)
all_at P [] k d h all = absurd (omega arith)
all_at P (x ∷ xs) zero d h all = all.0
all_at P (x ∷ xs) (suc k) d h all = all_at P xs k d (omega arith) all.1

in_all : {X : Type 0} (P : X → Type 0) (xs : List X) (x : X) → AllByRecursion P xs → In xs x → P x
in_all P [] x all at = absurd at
in_all P (y ∷ ys) x all (inl same) = subst P same all.0
in_all P (y ∷ ys) x all (inr at) = in_all P ys x all.1 at

-- whether an edge has an act
record Uses (edges : List Edge) (place : ℕ) : Type 0 where
  edge : Edge
  edge_in : In edges edge
  same : edge.act ≡ place

abbrev is_used : List Edge → ℕ → Bool
is_used edges place = list_any (λ (e : Edge). nat_eq e.act place) edges

used_by : (edges : List Edge) (place : ℕ) → is_used edges place ≡ true → Uses edges place
used_by [] place e = absurd cc
used_by (x ∷ xs) place e = by (used_by xs place) (nat_eq x.act place) refl e
  where
    by : (is_used xs place ≡ true → Uses xs place) → (b : Bool) → nat_eq x.act place ≡ b → b || is_used xs place ≡ true → Uses (x ∷ xs) place
    by later true is e = record { edge = x; edge_in = inl refl; same = (let same : x.act ≡ place = grind (arith, nat_tests) in same) }
    by later false is e = (let u = later e in record { edge = u.edge; edge_in = inr u.edge_in; same = u.same })

by_used : (edges : List Edge) (edge : Edge) (place : ℕ) → In edges edge → edge.act ≡ place → is_used edges place ≡ true
by_used [] edge place at same = absurd at
by_used (x ∷ xs) edge place (inl here) same = yes (nat_eq x.act place) (is_used xs place)
    (let e : x.act ≡ place = ap (λ (y : Edge). y.act) here ∙ same in grind (arith, nat_tests))
  where
    yes : (a b : Bool) → a ≡ true → a || b ≡ true
    yes true b e = refl
    yes false b e = absurd cc
by_used (x ∷ xs) edge place (inr at) same = yes (nat_eq x.act place) (is_used xs place) (by_used xs edge place at same)
  where
    yes : (a b : Bool) → b ≡ true → a || b ≡ true
    yes true b e = refl
    yes false b e = e

bit : (b : Bool) → (b ≡ true) ⊎ (b ≡ false)
bit true = inl refl
bit false = inr refl

-- ---- one act

-- a function with canonical lists does not depend on what is outside
independent : (universe : List ℕ) (f : List ℕ → Option Imported) (lists : CanonEdge) → canonical_lists_of universe f ≡ Some lists
    → depends_on_others universe (on_sets f) ≡ false
unfolding canonical_lists_of canonical_of
independent universe f lists e = by (depends_on_others universe (on_sets f)) refl e
  where
    by : (b : Bool) → depends_on_others universe (on_sets f) ≡ b
        → (if b then None else lists_of (out_list universe (on_sets f)) (in_list universe (on_sets f))) ≡ Some lists
        → depends_on_others universe (on_sets f) ≡ false
    by true is e = absurd cc
    by false is e = is

module _ (universe : List ℕ) (up : IsAscending universe) (communities : AreCommunities universe) where
  import_for : (out : Plain) (sends : Bool) (into : Plain) (lists : CanonEdge) → IsPrintableAct (Import out sends into)
      → IsActWithin universe (Import out sends into)
      → canonical_lists_of universe (import_of out sends into) ≡ Some lists → IsActFor universe (Import out sends into) (session_with lists)
  import_for out sends into lists printable within e =
      let uniform = import_uniform universe out sends into printable.0 printable.1 within.0 within.1 in
      let plain = uniform_plain universe (on_sets (import_of out sends into)) uniform (independent universe (import_of out sends into) lists e) in
      session_for universe out sends into lists e (import_alike universe (import_of out sends into) lists up plain e)
      (printable_lists universe (import_of out sends into) lists up communities (small_import out sends into printable.0 printable.1) plain e)

  act_for : (old new : Act) → IsPrintableAct old → IsActWithin universe old → canonical_act universe old ≡ Some new → IsActFor universe old new
  unfolding canonical_act
  act_for (Import out sends into) new printable within e = by (canonical_lists_of universe (import_of out sends into)) refl e
    where
      by : (o : Option CanonEdge) → canonical_lists_of universe (import_of out sends into) ≡ o → option_map session_with o ≡ Some new
          → IsActFor universe (Import out sends into) new
      by None is e = absurd cc
      by (Some lists) is e = (let same : session_with lists ≡ new = cc in
          subst (IsActFor universe (Import out sends into)) same (import_for out sends into lists printable within is))
  act_for (Cost cost) new printable within e = (let same : Cost cost ≡ new = cc in subst (IsActFor universe (Cost cost)) same (cost_for universe cost))

  -- ---- the first edge without

  module _ (problem : Problem) where
    abbrev HasOne : Edge → Type 0
    HasOne edge = (new : Act) × (canonical_act universe (act_of problem edge) ≡ Some new)

    record Without (edges : List Edge) : Type 0 where
      before : List Edge
      edge : Edge
      after : List Edge
      split : edges ≡ before ++ edge ∷ after
      none : canonical_act universe (act_of problem edge) ≡ None
      earlier : AllByRecursion (λ earlier. has_canonical universe problem earlier ≡ true) before

    all_or_first : (edges : List Edge) → AllByRecursion HasOne edges ⊎ Without edges
    all_or_first [] = inl tt
    all_or_first (x ∷ xs) = by (all_or_first xs) (canonical_act universe (act_of problem x)) refl
      where
        by : AllByRecursion HasOne xs ⊎ Without xs → (o : Option Act) → canonical_act universe (act_of problem x) ≡ o → AllByRecursion HasOne (x ∷ xs)
            ⊎ Without (x ∷ xs)
        by rest None is = inr (record { before = []; edge = x; after = xs; split = refl; none = is; earlier = tt })
        by (inl all) (Some new) is = inl ((new, is), all)
        by (inr w) (Some new) is = inr (record {
          before = x ∷ w.before;
          edge = w.edge;
          after = w.after;
          split = ap (λ (es : List Edge). x ∷ es) w.split;
          none = w.none;
          earlier = (ap (λ (o : Option Act). is_some o) is, w.earlier);
        })

    first_without : (w : Without problem.edges) → IsFirstWithout universe problem (length w.before)
    first_without w = record { before = w.before; edge = w.edge; after = w.after; split = w.split; place_is = refl; none = w.none; earlier = w.earlier }

    -- ---- the acts

    module _ (rules : IsProblem problem) (printable : AllByRecursion IsPrintableAct problem.acts) (within : AllByRecursion (IsActWithin universe) problem.acts)
        (all : AllByRecursion HasOne problem.edges) where
      pick : Bool → Option Act → Act → Act
      pick true (Some new) old = new
      pick true None old = old
      pick false new old = old

      new_at : ℕ → Act
      new_at place = pick (is_used problem.edges place) (canonical_act universe (act_at_place problem.acts place)) (act_at_place problem.acts place)

      acts : List Act
      acts = map new_at (range_with_len 0 (length problem.acts))

      acts_count : length acts ≡ length problem.acts
      unfolding acts
      acts_count = length-map (range_with_len 0 (length problem.acts)) new_at ∙ length-range_with_len 0 (length problem.acts)

      at_acts : (place : ℕ) → place < length problem.acts → act_at_place acts place ≡ new_at place
      unfolding acts
      at_acts place inside =
          read_map new_at (range_with_len 0 (length problem.acts)) place place (Cost 0)
          (range_get 0 (length problem.acts) place inside ∙ ap (λ (k : ℕ). Some k) (zero-add place))

      picked : (b : Bool) (o : Option Act) (old : Act) → b ≡ false → pick b o old ≡ old
      unfolding pick
      picked true o old e = absurd cc
      picked false o old e = refl

      chosen : (b : Bool) (o : Option Act) (old new : Act) → b ≡ true → o ≡ Some new → pick b o old ≡ new
      unfolding pick
      chosen true (Some x) old new e is = (let same : x ≡ new = cc in same)
      chosen true None old new e is = absurd cc
      chosen false o old new e is = absurd cc

      used_at : (edge : Edge) → In problem.edges edge → canonical_act universe (act_of problem edge) ≡ Some (act_at_place acts edge.act)
      unfolding new_at
      used_at edge at =
          let one = in_all HasOne problem.edges edge all at in
          let inside = (rules.edges.inside edge (contains_in problem.edges edge at)).act_in in
          let new : act_at_place acts edge.act ≡ one.0 = at_acts edge.act inside
          ∙ chosen (is_used problem.edges edge.act) (canonical_act universe (act_at_place problem.acts edge.act)) (act_at_place problem.acts edge.act) one.0
          (by_used problem.edges edge edge.act at refl) one.1 in
          one.1 ∙ ap (λ (a : Act). Some a) (sym new)

      each_act : (place : ℕ) → place < length problem.acts → IsActFor universe (act_at_place problem.acts place) (act_at_place acts place)
      unfolding new_at
      each_act place inside =
          let old_printable = all_at IsPrintableAct problem.acts place (Cost 0) inside printable in
          let old_within = all_at (IsActWithin universe) problem.acts place (Cost 0) inside within in
          elim (bit (is_used problem.edges place)) [
            | inl used ↦ (
                let u = used_by problem.edges place used in
                let e : canonical_act universe (act_at_place problem.acts place) ≡ Some (act_at_place acts place) =
                subst (λ (k : ℕ). canonical_act universe (act_at_place problem.acts k) ≡ Some (act_at_place acts k)) u.same (used_at u.edge u.edge_in) in
                act_for (act_at_place problem.acts place) (act_at_place acts place) old_printable old_within e)
            | inr unused ↦ subst (IsActFor universe (act_at_place problem.acts place))
                (sym (at_acts place inside ∙ picked (is_used problem.edges place) (canonical_act universe (act_at_place problem.acts place))
                (act_at_place problem.acts place) unused))
                (same_act universe (act_at_place problem.acts place) old_printable old_within)
          ]

      unused_at : (place : ℕ) → ((edge : Edge) → Contains problem.edges edge → edge.act ≢ place) → act_at_place acts place ≡ act_at_place problem.acts place
      unfolding new_at
      unused_at place none = elim (cases_lt place (length problem.acts)) [
        | inl inside ↦ elim (bit (is_used problem.edges place)) [
          | inl used ↦ (let u = used_by problem.edges place used in absurd (none u.edge (contains_in problem.edges u.edge u.edge_in) u.same))
          | inr unused ↦ at_acts place inside ∙ picked (is_used problem.edges place) (canonical_act universe (act_at_place problem.acts place))
              (act_at_place problem.acts place) unused
        ]
        | inr past ↦ beyond acts place (Cost 0) (let n = acts_count in omega arith) ∙ sym (beyond problem.acts place (Cost 0) past)
      ]

      made : AreCanonicalActs universe problem acts
      made = record { count = acts_count; each = each_act; used = λ edge inside. used_at edge (in_contains problem.edges edge inside); unused = unused_at }

      keeps : (act : Act) → IsPrintableAct act → KeepsSets act
      unfolding KeepsSets
      keeps (Import out sends into) is = (maps_keep out is.0, maps_keep into is.1)
      keeps (Cost cost) is = tt

      keep_each : (xs : List Act) → AllByRecursion IsPrintableAct xs → AllByRecursion KeepsSets xs
      keep_each [] each = tt
      keep_each (x ∷ xs) each = (keeps x each.0, keep_each xs each.1)

      all_keep : All KeepsSets acts
      all_keep = All-from_recursion KeepsSets acts (keep_each acts (all_printable universe problem acts made))

      canonical : HasCanonical universe problem
      canonical =
          let new : Problem = record problem { acts = acts } in
          record {
            canonical = new;
            is = is_canonical universe problem acts made rules new refl refl refl refl refl refl refl;
            rules = keeps_rules universe problem acts made rules new refl refl refl refl refl refl refl all_keep;
            alike = is_alike universe problem acts made rules new refl refl refl refl refl refl refl;
            printable = all_printable universe problem acts made;
            within = all_named universe problem acts made;
          }

pub each_has_canonical : EachHasCanonical
each_has_canonical universe up communities problem rules printable within = elim (all_or_first universe up communities problem problem.edges) [
  | inl all ↦ inl (canonical universe up communities problem rules printable within all)
  | inr w ↦ inr (record { place = length w.before; first = first_without universe up communities problem w })
]
