-- The acts of a problem behind the first of its edges: each of these has a canonical act.
use Rattle.std.proofs.Common.{◌≡◌, ◌≢◌, ℕ, zero, suc, ◌<◌, ◌≤◌, Bool, true, false, List, [], ◌∷◌, ◌++◌, length, take, drop, set, replicate, get_or, Some, None, Err, refl, sym, ◌∙◌, ap, subst, arith, inl, inr, ◌⊎◌}
use Rattle.std.specs.Prelude.{Contains}
use Rattle.std.specs.List.{AllByRecursion}
use Rattle.std.specs.Option.{is_some}
use Rattle.std.proofs.lemmas.Bool.{cases_eq, cases_lt}
use Rattle.std.proofs.lemmas.List.{length-set, get_or-set_same, get_or-set_other, get_or-replicate, get_or_past, length-replicate}
use Rattle.base_kit.specs.declared.act_graph.Edge.{Edge}
use Rattle.base_kit.proofs.Elements.{In, contains_in, in_contains, in_left, in_right}
use Rattle.dd_core.specs.Marks.{is_marked}
use Rattle.srp_core.specs.declared.route.Act.{Act}
use Rattle.srp_core.specs.declared.route.Act.TheVariants.{Cost}
use Rattle.srp_core.specs.Problem.{Problem, act_of}
use Rattle.canon_policy.specs.CanonicalProblem.{canonical_act, has_canonical, IsFirstWithout}
use Rattle.srp_core.specs.ActMaps.{IsPrintableAct, IsActWithin}
use Rattle.canon_policy.specs.declared.problem.CanonSrpRefusal.{CanonSrpRefusal}
use Rattle.canon_policy.specs.declared.problem.CanonSrpRefusal.TheVariants.{NoCanon, Memory}
use Rattle.canon_policy.specs.MadeActs.{act_at_place, IsActFor, AreCanonicalActs, AreCanonicalActsOr, IsActSoFar, AreActsSoFar, IsRefusedAtFirst}
use Rattle.canon_policy.specs.MadeActs.IsActSoFar.{is_done, not_done}
use Rattle.canon_policy.proofs.ActsMade.{same_act}
use Rattle.canon_policy.proofs.Printed.{pick, all_from}
use Rattle.canon_policy.proofs.Settled.{all_append}

pub at_index : {X : Type 0} (P : X → Type 0) (xs : List X) (i : ℕ) (d : X) → i < length xs → AllByRecursion P xs → P (get_or xs i d)
at_index P [] i d lt all = absurd (omega arith)
at_index P (x ∷ xs) zero d lt all = all.0
at_index P (x ∷ xs) (suc i) d lt all = at_index P xs i d (omega arith) all.1

-- an item of a list at its place
pub split_at : {X : Type 0} (xs : List X) (i : ℕ) (x : X) → i < length xs → x ≡ get_or xs i x → xs ≡ take i xs ++ x ∷ drop (suc i) xs
split_at [] i x lt e = absurd (omega arith)
split_at (y ∷ ys) zero x lt e = ap (λ z. z ∷ ys) (sym e)
split_at (y ∷ ys) (suc i) x lt e = ap (λ l. y ∷ l) (split_at ys i x (omega arith) e)

length_before : {X : Type 0} (xs : List X) (i : ℕ) → i < length xs → length (take i xs) ≡ i
length_before [] i lt = absurd (omega arith)
length_before (y ∷ ys) zero lt = refl
length_before (y ∷ ys) (suc i) lt = ap suc (length_before ys i (omega arith))

in_take : {X : Type 0} (xs : List X) (i : ℕ) (x : X) → In (take i xs) x → In xs x
in_take [] zero x h = absurd h
in_take [] (suc i) x h = absurd h
in_take (y ∷ ys) zero x h = absurd h
in_take (y ∷ ys) (suc i) x (inl e) = inl e
in_take (y ∷ ys) (suc i) x (inr h) = inr (in_take ys i x h)

module _ (universe : List ℕ) (problem : Problem) where
  -- nothing is seen
  pub nothing_seen : AllByRecursion IsPrintableAct problem.acts → AllByRecursion (IsActWithin universe) problem.acts
      → AreActsSoFar universe problem [] problem.acts (replicate (length problem.acts) false)
  nothing_seen printable within = record {
    count = refl;
    done_count = length-replicate (length problem.acts) false;
    each = λ place lt. same_act universe (act_at_place problem.acts place) (at_index IsPrintableAct problem.acts place (Cost 0) lt printable)
        (at_index (IsActWithin universe) problem.acts place (Cost 0) lt within);
    so_far = λ place lt. not_done (get_or-replicate (length problem.acts) place false false lt) refl;
    seen = tt;
  }

  module _ (edges : List Edge) (acts : List Act) (done : List Bool) (so : AreActsSoFar universe problem edges acts done) (edge : Edge) where
    still_in : (other : Edge) → Contains edges other → Contains (edges ++ edge ∷ []) other
    still_in other h = contains_in (edges ++ edge ∷ []) other (in_left edges (edge ∷ []) other (in_contains edges other h))

    last_in : Contains (edges ++ edge ∷ []) edge
    last_in = contains_in (edges ++ edge ∷ []) edge (in_right edges (edge ∷ []) edge (inl refl))

    more : (place : ℕ) → IsActSoFar universe problem edges acts done place → IsActSoFar universe problem (edges ++ edge ∷ []) acts done place
    more place (is_done marked other h same canonical) = is_done marked other (still_in other h) same canonical
    more place (not_done marked same) = not_done marked same

    -- an edge whose act is done
    pub seen_again : is_marked done edge.act ≡ true → AreActsSoFar universe problem (edges ++ edge ∷ []) acts done
    seen_again marked = record {
      count = so.count;
      done_count = so.done_count;
      each = so.each;
      so_far = λ place lt. more place (so.so_far place lt);
      seen = all_append (λ e. is_marked done e.act ≡ true) edges (edge ∷ []) so.seen (marked, tt);
    }

    module _ (inside : edge.act < length problem.acts) (new : Act) where
      marked_in : edge.act < length done
      marked_in = let n = so.done_count in omega arith

      act_in : edge.act < length acts
      act_in = let n = so.count in omega arith

      still_marked : (place : ℕ) → is_marked done place ≡ true → is_marked (set done edge.act true) place ≡ true
      still_marked place e = elim (cases_eq place edge.act) [
        | inl same ↦ ap (is_marked (set done edge.act true)) same ∙ get_or-set_same done edge.act true false marked_in
        | inr other ↦ get_or-set_other done edge.act place true false other ∙ e
      ]

      put : (place : ℕ) → canonical_act universe (act_at_place problem.acts edge.act) ≡ Some new → (place ≡ edge.act) ⊎ (place ≢ edge.act)
          → IsActSoFar universe problem edges acts done place
          → IsActSoFar universe problem (edges ++ edge ∷ []) (set acts edge.act new) (set done edge.act true) place
      put place canonical (inl same) so_far =
          is_done (still place same) edge last_in (sym same)
          (ap (λ p. canonical_act universe (act_at_place problem.acts p)) same ∙ canonical
          ∙ ap Some (sym (ap (act_at_place (set acts edge.act new)) same ∙ get_or-set_same acts edge.act new (Cost 0) act_in)))
        where
          still : (place : ℕ) → place ≡ edge.act → is_marked (set done edge.act true) place ≡ true
          still place same = ap (is_marked (set done edge.act true)) same ∙ get_or-set_same done edge.act true false marked_in
      put place canonical (inr other) (is_done marked old h same is) =
          is_done (still_marked place marked) old (still_in old h) same
          (is ∙ ap Some (sym (get_or-set_other acts edge.act place new (Cost 0) other)))
      put place canonical (inr other) (not_done marked same) =
          not_done (get_or-set_other done edge.act place true false other ∙ marked)
          (get_or-set_other acts edge.act place new (Cost 0) other ∙ same)

      each_put : IsActFor universe (act_at_place problem.acts edge.act) new → (place : ℕ) → place < length problem.acts → (place ≡ edge.act)
          ⊎ (place ≢ edge.act)
          → IsActFor universe (act_at_place problem.acts place) (act_at_place (set acts edge.act new) place)
      each_put instead place lt (inl same) =
          subst (λ p. IsActFor universe (act_at_place problem.acts p) (act_at_place (set acts edge.act new) p)) (sym same)
          (subst (IsActFor universe (act_at_place problem.acts edge.act)) (sym (get_or-set_same acts edge.act new (Cost 0) act_in)) instead)
      each_put instead place lt (inr other) =
          subst (IsActFor universe (act_at_place problem.acts place)) (sym (get_or-set_other acts edge.act place new (Cost 0) other)) (so.each place lt)

      -- an edge whose act becomes canonical
      pub seen_first : canonical_act universe (act_at_place problem.acts edge.act) ≡ Some new → IsActFor universe (act_at_place problem.acts edge.act) new
          → AreActsSoFar universe problem (edges ++ edge ∷ []) (set acts edge.act new) (set done edge.act true)
      seen_first canonical instead = record {
        count = length-set acts edge.act new ∙ so.count;
        done_count = length-set done edge.act true ∙ so.done_count;
        each = λ place lt. each_put instead place lt (cases_eq place edge.act);
        so_far = λ place lt. put place canonical (cases_eq place edge.act) (so.so_far place lt);
        seen = all_append (λ e. is_marked (set done edge.act true) e.act ≡ true) edges (edge ∷ [])
            (all_from (λ e. is_marked (set done edge.act true) e.act ≡ true) edges
            (λ e h. still_marked e.act (pick (λ e. is_marked done e.act ≡ true) edges e so.seen h)))
            (get_or-set_same done edge.act true false marked_in, tt);
      }

  module _ (acts : List Act) (done : List Bool) (each_inside : (edge : Edge) → In problem.edges edge → edge.act < length problem.acts) where
    canonical_seen : (edges : List Edge) → AreActsSoFar universe problem edges acts done → (edge : Edge) → In edges edge → In problem.edges edge
        → canonical_act universe (act_of problem edge) ≡ Some (act_at_place acts edge.act)
    canonical_seen edges so edge h there = by (so.so_far edge.act (each_inside edge there))
      where
        by : IsActSoFar universe problem edges acts done edge.act → canonical_act universe (act_of problem edge) ≡ Some (act_at_place acts edge.act)
        by (is_done marked other i same canonical) = canonical
        by (not_done marked same) = let yes = pick (λ e. is_marked done e.act ≡ true) edges edge so.seen h in
            absurd (let wrong : true ≡ false = sym yes ∙ marked in cc)

    -- all edges are seen
    pub all_seen : AreActsSoFar universe problem problem.edges acts done → AreCanonicalActs universe problem acts
    all_seen so = record {
      count = so.count;
      each = so.each;
      used = λ edge h. let i = contains_to edge h in canonical_seen problem.edges so edge i i;
      unused = λ place none. by place none (cases_lt place (length problem.acts));
    }
      where
        contains_to : (edge : Edge) → Contains problem.edges edge → In problem.edges edge
        contains_to edge h = in_contains problem.edges edge h

        by_done : (place : ℕ) → ((edge : Edge) → Contains problem.edges edge → edge.act ≢ place) → IsActSoFar universe problem problem.edges acts done place
            → act_at_place acts place ≡ act_at_place problem.acts place
        by_done place none (is_done marked edge h same canonical) = absurd (none edge h same)
        by_done place none (not_done marked same) = same

        by : (place : ℕ) → ((edge : Edge) → Contains problem.edges edge → edge.act ≢ place) → (place < length problem.acts) ⊎ (length problem.acts ≤ place)
            → act_at_place acts place ≡ act_at_place problem.acts place
        by place none (inl lt) = by_done place none (so.so_far place lt)
        by place none (inr le) =
            get_or_past acts place (Cost 0) (let n = so.count in omega arith) ∙ sym (get_or_past problem.acts place (Cost 0) le)

    -- the first that has none
    pub first_without : (place : ℕ) (edge : Edge) → place < length problem.edges → edge ≡ get_or problem.edges place edge
        → AreActsSoFar universe problem (take place problem.edges) acts done → canonical_act universe (act_of problem edge) ≡ None
        → IsFirstWithout universe problem place
    first_without place edge lt is so none = record {
      before = take place problem.edges;
      edge = edge;
      after = drop (suc place) problem.edges;
      split = split_at problem.edges place edge lt is;
      place_is = length_before problem.edges place lt;
      none = none;
      earlier = all_from (λ e. has_canonical universe problem e ≡ true) (take place problem.edges)
          (λ e h. ap is_some (canonical_seen (take place problem.edges) so e h (in_take problem.edges place e h)));
    }

pub refused_acts : (universe : List ℕ) (problem : Problem) (refusal : CanonSrpRefusal) → IsRefusedAtFirst universe problem (Err refusal)
    → AreCanonicalActsOr universe problem (Err refusal)
refused_acts universe problem (NoCanon place) is = is
refused_acts universe problem Memory is = tt
