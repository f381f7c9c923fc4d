-- The parts of a function by its nodes: a community of the universe without a node of its own never splits.
use Rattle.std.proofs.Common.{◌≡◌, ℕ, ◌<◌, Bool, true, false, ◌&&◌, ◌||◌, cond, nat_eq, List, [], ◌∷◌, filter, length, Option, Some, None, refl, sym, ◌∙◌, ap, arith, inl, inr}
use Rattle.std.specs.Prelude.{if◌then◌else◌}
use Rattle.std.specs.Bool.{beq}
use Rattle.std.specs.Option.{option_or}
use Rattle.std.specs.List.{AllByRecursion}
use Rattle.std.proofs.Math.Path.{fun_ext}
use Rattle.std.proofs.lemmas.Bool.Decides.{nat_tests}
use Rattle.base_kit.specs.declared.ids.Community.{Community}
use Rattle.base_kit.specs.Sets.{has, IsAscending}
use Rattle.base_kit.proofs.SetFacts.{has-filter, one_list, ascending_filter}
use Rattle.base_kit.proofs.Elements.{In}
use Rattle.dd_core.specs.Sets.{Shown, IsShown, Means, value_of}
use Rattle.policy_dd.specs.declared.edge.EdgeFn.{EdgeFn}
use Rattle.policy_dd.specs.Edge.{keys_of, by_number, never, carried_by_rest, IsEdgeFn}
use Rattle.route_maps.specs.declared.plain.Imported.{Imported}
use Rattle.canon_policy.specs.declared.fixing.Fixing.{Fixing}
use Rattle.canon_policy.specs.Functions.{on_sets, accepts, carries, keeps, preference, added_count}
use Rattle.canon_policy.specs.Fixings.{Part, nothing_fixed, agreeing, sets_of, least, yes, follows, unsettled, first_unsettled, split}
use Rattle.canon_policy.specs.Fixings.Part.{community}
use Rattle.canon_policy.specs.Canonical.{in_parts, in_asked, out_asked}
use Rattle.canon_policy.specs.Hanging.{TestHangsOn, AskedHangsOn}
use Rattle.canon_policy.specs.Made.{nodes_of, asked_of, carried_nodes, in_nodes, out_nodes}
use Rattle.canon_policy.specs.Nodes.{AreInside, IsPartInside, AreFunctionNodesInside, AgreeAt, NodesTellPart, ArePartsTold, AreNodesOf}
use Rattle.canon_policy.specs.Plain.{IsPlain}
use Rattle.canon_policy.proofs.SameSets.{all_are, has-agreeing}
use Rattle.canon_policy.proofs.Least.{in_has, least_none, least_some, under_hangs}
use Rattle.canon_policy.proofs.Plain.{in_parts_hang, yes_one}
use Rattle.canon_policy.proofs.Splits.{yes_hangs}
use Rattle.canon_policy.proofs.Says.{accepts_is, by_rest, by_node, keeps_is, lps_table, adds_table}
use Rattle.canon_policy.proofs.Tables.{nodes_inside, table_tells}
use Rattle.canon_policy.proofs.Values.{value_same}

-- a part that has one value depends on nothing
pub least_constant : (universe : List ℕ) (part : List ℕ → ℕ) (n : ℕ) → ((set : List ℕ) → part set ≡ n) → least universe part ≡ None
least_constant universe part n one = by (least universe part) refl
  where
    by : (o : Option ℕ) → least universe part ≡ o → o ≡ None
    by None e = refl
    by (Some x) e = let d = (least_some universe part x e).1 in absurd (d.differ (one _ ∙ sym (one _)))

same_itself : (a b : Bool) → a ≡ b → beq a b ≡ true
same_itself true true e = refl
same_itself true false e = cc
same_itself false true e = cc
same_itself false false e = refl

module _ (universe : List ℕ) (f : List ℕ → Option Imported) (plain : IsPlain universe f) (keys : List ℕ)
    (keys_known : (c : ℕ) → has keys c ≡ true → has universe c ≡ true)
    (others : (c : ℕ) → has keys c ≡ false → (set : List ℕ) → carries f c set ≡ has set c && keeps f universe set) where
  -- where keeping is settled, so is a community without a key
  settled_by : (fixing : Fixing) (c : ℕ) → has keys c ≡ false
      → ((set : List ℕ) → keeps f universe (agreeing fixing set) ≡ keeps f universe (agreeing fixing [])) → (b : Bool)
      → keeps f universe (agreeing fixing []) ≡ b
      → (if b && follows universe fixing c (carries f c) then None else least universe (λ set. yes (carries f c (agreeing fixing set)))) ≡ None
  unfolding follows
  settled_by fixing c none one true e =
      rw (all_are (λ (set : List ℕ). beq (carries f c (agreeing fixing set)) (has (agreeing fixing set) c)) (sets_of universe) (λ set h.
      same_itself (carries f c (agreeing fixing set)) (has (agreeing fixing set) c)
      (others c none (agreeing fixing set) ∙ ap (λ k. has (agreeing fixing set) c && k) (one set ∙ e) ∙ all (has (agreeing fixing set) c)))) refl
    where
      all : (b : Bool) → b && true ≡ b
      all true = refl
      all false = refl
  settled_by fixing c none one false e =
      least_constant universe (λ set. yes (carries f c (agreeing fixing set))) 0 (λ set.
      let zero : carries f c (agreeing fixing set) ≡ false = others c none (agreeing fixing set) ∙ ap (λ k. has (agreeing fixing set) c && k) (one set ∙ e)
      ∙ nothing (has (agreeing fixing set) c) in
      ap yes zero)
    where
      nothing : (b : Bool) → b && false ≡ false
      nothing true = refl
      nothing false = refl

  never_splits : (fixing : Fixing) → least universe (λ set. yes (keeps f universe (agreeing fixing set))) ≡ None → (c : ℕ) → has keys c ≡ false
      → unsettled universe (keeps f universe) fixing (community c (carries f c)) ≡ None
  never_splits fixing settled c none =
      settled_by fixing c none
      (λ set. yes_one (keeps f universe (agreeing fixing set)) (keeps f universe (agreeing fixing []))
      (least_none universe (λ set. yes (keeps f universe (agreeing fixing set)))
      (under_hangs universe (λ set. yes (keeps f universe set)) fixing (yes_hangs universe (keeps f universe) plain.kept)) settled set))
      (keeps f universe (agreeing fixing [])) refl

  few_parts : (ask : Part → Option ℕ) (cs : List ℕ) → ((c : ℕ) → has keys c ≡ false → ask (community c (carries f c)) ≡ None)
      → first_unsettled ask (in_parts universe f (filter (has keys) cs)) ≡ first_unsettled ask (in_parts universe f cs)
  few_parts ask [] none = refl
  few_parts ask (c ∷ cs) none = by (has keys c) refl (few_parts ask cs none)
    where
      by : (b : Bool) → has keys c ≡ b → first_unsettled ask (in_parts universe f (filter (has keys) cs)) ≡ first_unsettled ask (in_parts universe f cs)
          → first_unsettled ask (in_parts universe f (cond b (c ∷ filter (has keys) cs) (filter (has keys) cs)))
          ≡ option_or (ask (community c (carries f c))) (first_unsettled ask (in_parts universe f cs))
      by true e rest = ap (λ (o : Option ℕ). option_or (ask (community c (carries f c))) o) rest
      by false e rest = rest ∙ ap (λ (o : Option ℕ). option_or o (first_unsettled ask (in_parts universe f cs))) (sym (none c e))

  and_known : (k u : Bool) → (k ≡ true → u ≡ true) → k && u ≡ k
  and_known true u g = g refl
  and_known false u g = refl

  keys_are : IsAscending universe → IsAscending keys → filter (has keys) universe ≡ keys
  keys_are up keys_up = one_list (filter (has keys) universe) keys (ascending_filter (has keys) universe up) keys_up
      (λ c. has-filter (has keys) universe c ∙ and_known (has keys c) (has universe c) (keys_known c))

  either_same : (a b c : Option ℕ) → (a ≡ None → b ≡ c) → option_or a b ≡ option_or a c
  either_same None b c g = g refl
  either_same (Some x) b c g = refl

  pub split_same : IsAscending universe → IsAscending keys → (fixing : Fixing)
      → split universe (asked_of universe f keys) fixing ≡ split universe (in_asked universe f) fixing
  unfolding split
  split_same up keys_up fixing =
      ap (λ (o : Option ℕ). option_or (least universe (λ set. yes (accepts f (agreeing fixing set)))) (if accepts f (agreeing fixing []) then o else None))
      (either_same (least universe (λ set. yes (keeps f universe (agreeing fixing set))))
      (option_or (least universe (λ set. preference f (agreeing fixing set)))
      (first_unsettled (unsettled universe (keeps f universe) fixing) (in_parts universe f keys)))
      (option_or (least universe (λ set. preference f (agreeing fixing set)))
      (first_unsettled (unsettled universe (keeps f universe) fixing) (in_parts universe f universe)))
      (λ settled. ap (λ (o : Option ℕ). option_or (least universe (λ set. preference f (agreeing fixing set))) o)
      (ap (λ (cs : List ℕ). first_unsettled (unsettled universe (keeps f universe) fixing) (in_parts universe f cs)) (sym (keys_are up keys_up))
      ∙ few_parts (unsettled universe (keeps f universe) fixing) universe (never_splits fixing settled))))

  pub splits_same : IsAscending universe → IsAscending keys → split universe (asked_of universe f keys) ≡ split universe (in_asked universe f)
  splits_same up keys_up = fun_ext (λ (fixing : Fixing). split_same up keys_up fixing)

  pub asked_hangs : AskedHangsOn universe (asked_of universe f keys)
  asked_hangs = record {
    accepted = plain.accepted;
    kept = plain.kept;
    parts = (yes_hangs universe (keeps f universe) plain.kept, (plain.lp, in_parts_hang universe f plain keys (λ c h. keys_known c (in_has keys c h))));
  }

-- with nothing fixed a set is left as it is
free_same : (set : List ℕ) (c : ℕ) → has (agreeing nothing_fixed set) c ≡ has set c
free_same set c = has-agreeing nothing_fixed set c

module _ (shown : Shown) (is : IsShown shown) where
  free_value : (node : ℕ) → node < length shown.nodes → (set : List ℕ) → value_of shown (agreeing nothing_fixed set) node ≡ value_of shown set node
  free_value node inside set = value_same shown is node inside (agreeing nothing_fixed set) set (free_same set)

  agree_free : (nodes a b : List ℕ) → AreInside shown nodes → AgreeAt shown nodes a b
      → AgreeAt shown nodes (agreeing nothing_fixed a) (agreeing nothing_fixed b)
  agree_free [] a b all agree = tt
  agree_free (n ∷ ns) a b all agree = (free_value n all.0 a ∙ agree.0 ∙ sym (free_value n all.0 b), agree_free ns a b all.1 agree.1)

  agree_bare : (nodes a b : List ℕ) → AreInside shown nodes → AgreeAt shown nodes (agreeing nothing_fixed a) (agreeing nothing_fixed b)
      → AgreeAt shown nodes a b
  agree_bare [] a b all agree = tt
  agree_bare (n ∷ ns) a b all agree = (sym (free_value n all.0 a) ∙ agree.0 ∙ free_value n all.0 b, agree_bare ns a b all.1 agree.1)

  free_tells : (nodes : List ℕ) (part : List ℕ → ℕ) → AreInside shown nodes → NodesTellPart shown nodes part
      → NodesTellPart shown nodes (λ set. part (agreeing nothing_fixed set))
  free_tells nodes part all tells = record {
    same = λ a b agree. tells.same (agreeing nothing_fixed a) (agreeing nothing_fixed b) (agree_free nodes a b all agree);
    apart = λ a b e. agree_bare nodes a b all (tells.apart (agreeing nothing_fixed a) (agreeing nothing_fixed b) e);
  }

  module _ (edge : EdgeFn) (f : List ℕ → Option Imported) (of : IsEdgeFn shown edge f) where
    outs_inside : (cases : List (Community × ℕ)) → AreInside shown (nodes_of (by_number cases))
        → ((c : ℕ) → has (keys_of (by_number cases)) c ≡ true → has shown.universe c ≡ true) → AllByRecursion (IsPartInside shown) (carried_nodes cases)
    outs_inside [] all known = tt
    outs_inside (case ∷ cases) all known = (
      (
        known case.0.0 (or_left (nat_eq case.0.0 case.0.0) (has (keys_of (by_number cases)) case.0.0) (itself case.0.0)),
        all.0,
      ),
      outs_inside cases all.1 (λ c h. known c (or_right (nat_eq case.0.0 c) (has (keys_of (by_number cases)) c) h)),
    )
      where
        or_left : (a b : Bool) → a ≡ true → a || b ≡ true
        or_left true b e = refl
        or_left false b e = absurd cc

        or_right : (a b : Bool) → b ≡ true → a || b ≡ true
        or_right true b e = refl
        or_right false b e = e

        itself : (n : ℕ) → nat_eq n n ≡ true
        itself n = grind (arith, nat_tests)

    out_cases_inside : AreInside shown (nodes_of (by_number edge.outs))
    out_cases_inside = nodes_inside shown (carried_by_rest shown edge.rest) (by_number edge.outs) of.outs.each

    lps_inside : AreInside shown (nodes_of edge.lps)
    lps_inside = nodes_inside shown never edge.lps of.lps.each

    adds_inside : AreInside shown (nodes_of edge.adds)
    adds_inside = nodes_inside shown never edge.adds of.adds.each

    pub in_inside : AreFunctionNodesInside shown (in_nodes edge)
    in_inside = record {
      permit = of.permit_inside;
      rest = of.rest_inside;
      parts = ((of.rest_inside, tt), (lps_inside, outs_inside edge.outs out_cases_inside of.outs_known));
    }

    pub out_inside : AreFunctionNodesInside shown (out_nodes edge)
    out_inside = record { permit = of.permit_inside; rest = of.rest_inside; parts = (adds_inside, tt) }

  module _ (edge : EdgeFn) (f : List ℕ → Option Imported) (of : IsEdgeFn shown edge f) (plain : IsPlain shown.universe (on_sets f)) where
    permit_hangs : TestHangsOn shown.universe (λ set. value_of shown set edge.permit)
    permit_hangs = record { same = λ a b s. sym (accepts_is shown is edge f of a) ∙ plain.accepted.same a b s ∙ accepts_is shown is edge f of b }

    pub kept_is : (set : List ℕ) → keeps (on_sets f) shown.universe set ≡ value_of shown set edge.rest
    kept_is = keeps_is shown is edge f of permit_hangs

    pub other_carried : (c : ℕ) → has (keys_of (by_number edge.outs)) c ≡ false → (set : List ℕ)
        → carries (on_sets f) c set ≡ has set c && keeps (on_sets f) shown.universe set
    other_carried c none set = by_rest shown is edge f of set c none ∙ ap (λ b. has set c && b) (sym (kept_is set))

    means_free : (node : ℕ) (test : List ℕ → Bool) → node < length shown.nodes → ((set : List ℕ) → test set ≡ value_of shown set node)
        → Means shown node (λ set. test (agreeing nothing_fixed set))
    means_free node test inside says = record { inside = inside; value = λ set. sym (free_value node inside set) ∙ sym (says (agreeing nothing_fixed set)) }

    rest_tells : NodesTellPart shown (edge.rest ∷ []) (λ set. yes (keeps (on_sets f) shown.universe set))
    rest_tells = record {
      same = λ a b agree. ap yes (kept_is a ∙ agree.0 ∙ sym (kept_is b));
      apart = λ a b e. (sym (kept_is a) ∙ yes_one (keeps (on_sets f) shown.universe a) (keeps (on_sets f) shown.universe b) e ∙ kept_is b, tt);
    }

    outs_told : (cases : List (Community × ℕ)) → AreInside shown (nodes_of (by_number cases))
        → ((case : ℕ × ℕ) → In (by_number cases) case → (set : List ℕ) → carries (on_sets f) case.0 set ≡ value_of shown set case.1)
        → ArePartsTold shown nothing_fixed (carried_nodes cases) (in_parts shown.universe (on_sets f) (keys_of (by_number cases)))
    outs_told [] all says = tt
    outs_told (case ∷ cases) all says = (
      (refl, means_free case.1 (carries (on_sets f) case.0.0) all.0 (says (case.0.0, case.1) (inl refl))),
      outs_told cases all.1 (λ c h. says c (inr h)),
    )

    pub in_told : AreNodesOf shown nothing_fixed (in_nodes edge) (asked_of shown.universe (on_sets f) (keys_of (by_number edge.outs)))
    in_told = record {
      permit = means_free edge.permit (accepts (on_sets f)) of.permit_inside (accepts_is shown is edge f of);
      rest = means_free edge.rest (keeps (on_sets f) shown.universe) of.rest_inside kept_is;
      parts = (
        free_tells (edge.rest ∷ []) (λ set. yes (keeps (on_sets f) shown.universe set)) (of.rest_inside, tt) rest_tells,
        (
          free_tells (nodes_of edge.lps) (preference (on_sets f)) (lps_inside edge f of)
              (table_tells shown edge.permit edge.lps (preference (on_sets f)) (lps_table shown is edge f of)),
          outs_told edge.outs (out_cases_inside edge f of) (λ case h set. by_node shown is edge f of set case h),
        ),
      );
    }

    pub out_told : AreNodesOf shown nothing_fixed (out_nodes edge) (out_asked shown.universe (on_sets f))
    out_told = record {
      permit = means_free edge.permit (accepts (on_sets f)) of.permit_inside (accepts_is shown is edge f of);
      rest = means_free edge.rest (keeps (on_sets f) shown.universe) of.rest_inside kept_is;
      parts = (
        free_tells (nodes_of edge.adds) (added_count (on_sets f)) (adds_inside edge f of)
            (table_tells shown edge.permit edge.adds (added_count (on_sets f)) (adds_table shown is edge f of)),
        tt,
      );
    }
