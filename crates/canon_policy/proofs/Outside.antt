-- A function depends on communities outside the universe exactly if one of its nodes does.
use Rattle.std.proofs.Common.{◌≡◌, ℕ, zero, suc, ◌+◌, ◌<◌, Bool, true, false, not, ◌||◌, nat_eq, List, [], ◌∷◌, ◌++◌, length, take, get_or, Option, Some, None, refl, sym, ◌∙◌, ap, subst, arith, inl, inr}
use Rattle.std.specs.Bool.{beq}
use Rattle.std.specs.List.{list_any}
use Rattle.std.specs.Option.{is_some, option_map_or}
use Rattle.std.proofs.lemmas.List.{take_more}
use Rattle.base_kit.specs.Sets.{has, with_number}
use Rattle.base_kit.proofs.SetFacts.{same_number, other_number, has-with_number}
use Rattle.base_kit.proofs.Elements.{In}
use Rattle.dd_core.specs.Sets.{Shown, IsShown, value_of, has_others}
use Rattle.dd_core.specs.Reach.{DependsOnOthers}
use Rattle.dd_core.proofs.SupportLemmas.{has-index, any-with_number}
use Rattle.policy_dd.specs.declared.edge.EdgeFn.{EdgeFn}
use Rattle.policy_dd.specs.Edge.{by_number, never, carried_by_rest, IsEdgeFn}
use Rattle.route_maps.specs.declared.plain.Imported.{Imported}
use Rattle.canon_policy.specs.Functions.{on_sets, outside_of, carries, preference, added_count}
use Rattle.canon_policy.specs.Fixings.{sets_of}
use Rattle.canon_policy.specs.Canonical.{differs_with_outside, depends_on_others}
use Rattle.canon_policy.specs.Hanging.{SameOn}
use Rattle.canon_policy.specs.Made.{nodes_of, told_nodes, SomeNeedsOthers, NoneNeedsOthers}
use Rattle.canon_policy.specs.Nodes.{AreInside, AgreeAt}
use Rattle.canon_policy.specs.Plain.{IsPlain}
use Rattle.canon_policy.proofs.SameSets.{or_none, any_in, none_in, filtered_in, named, named_same, same_back, same_on}
use Rattle.canon_policy.proofs.Least.{in_has, has_in, equal}
use Rattle.canon_policy.proofs.Says.{accepts_is, by_node, lps_table, adds_table, plain_from}
use Rattle.canon_policy.proofs.Tables.{nodes_inside, agree_each, key_in, AllHang, table_tells}
use Rattle.canon_policy.proofs.Values.{outside_not, value_trace, node_hangs, none_others}

-- lists of nodes
pub inside_append : (shown : Shown) (xs ys : List ℕ) → AreInside shown xs → AreInside shown ys → AreInside shown (xs ++ ys)
inside_append shown [] ys all more = more
inside_append shown (x ∷ xs) ys all more = (all.0, inside_append shown xs ys all.1 more)

none_left : (shown : Shown) (xs ys : List ℕ) → NoneNeedsOthers shown (xs ++ ys) → NoneNeedsOthers shown xs
none_left shown [] ys none = tt
none_left shown (x ∷ xs) ys none = (none.0, none_left shown xs ys none.1)

none_right : (shown : Shown) (xs ys : List ℕ) → NoneNeedsOthers shown (xs ++ ys) → NoneNeedsOthers shown ys
none_right shown [] ys none = none
none_right shown (x ∷ xs) ys none = none_right shown xs ys none.1

pub none_push : (shown : Shown) (xs : List ℕ) (x : ℕ) → NoneNeedsOthers shown xs → (DependsOnOthers shown x → ⊥) → NoneNeedsOthers shown (xs ++ x ∷ [])
none_push shown [] x none more = (more, tt)
none_push shown (y ∷ ys) x none more = (none.0, none_push shown ys x none.1 more)

pub none_more : (shown : Shown) (xs : List ℕ) (i : ℕ) → i < length xs → NoneNeedsOthers shown (take i xs) → (DependsOnOthers shown (get_or xs i 0) → ⊥)
    → NoneNeedsOthers shown (take (i + 1) xs)
none_more shown xs i lt none more = subst (NoneNeedsOthers shown) (sym (take_more xs i 0 lt)) (none_push shown (take i xs) (get_or xs i 0) none more)

pub some_at : (shown : Shown) (xs : List ℕ) (i : ℕ) → i < length xs → DependsOnOthers shown (get_or xs i 0) → SomeNeedsOthers shown xs
some_at shown xs i lt depends = record { node = get_or xs i 0; there = has-index xs i lt; depends = depends }

pub inside_index : (shown : Shown) (xs : List ℕ) (i : ℕ) → i < length xs → AreInside shown xs → get_or xs i 0 < length shown.nodes
inside_index shown [] i lt all = absurd (omega arith)
inside_index shown (x ∷ xs) zero lt all = all.0
inside_index shown (x ∷ xs) (suc i) lt all = inside_index shown xs i (omega arith) all.1

hang_all : (shown : Shown) → IsShown shown → (nodes : List ℕ) → AreInside shown nodes → NoneNeedsOthers shown nodes → AllHang shown nodes
hang_all shown is [] all none = tt
hang_all shown is (node ∷ nodes) all none = (node_hangs shown is node all.0 none.0, hang_all shown is nodes all.1 none.1)

agree_append : (shown : Shown) (xs ys a b : List ℕ) → AgreeAt shown xs a b → AgreeAt shown ys a b → AgreeAt shown (xs ++ ys) a b
agree_append shown [] ys a b one two = two
agree_append shown (x ∷ xs) ys a b one two = (one.0, agree_append shown xs ys a b one.1 two)

agree_pick : (shown : Shown) (nodes a b : List ℕ) (node : ℕ) → AgreeAt shown nodes a b → In nodes node → value_of shown a node ≡ value_of shown b node
agree_pick shown [] a b node agree h = absurd h
agree_pick shown (n ∷ ns) a b node agree (inl e) = rw (← e) agree.0
agree_pick shown (n ∷ ns) a b node agree (inr h) = agree_pick shown ns a b node agree.1 h

inside_pick : (shown : Shown) (nodes : List ℕ) (node : ℕ) → AreInside shown nodes → In nodes node → node < length shown.nodes
inside_pick shown [] node all h = absurd h
inside_pick shown (n ∷ ns) node all (inl e) = rw (← e) all.0
inside_pick shown (n ∷ ns) node all (inr h) = inside_pick shown ns node all.1 h

-- a community outside, put in
pub outside_same : (universe : List ℕ) (c : ℕ) → has universe c ≡ false → (set : List ℕ) → SameOn universe (with_number c set) set
outside_same universe c none set = record {
  same = λ d known. has-with_number c set d ∙ ap (λ b. b || has set d) (other_number c d (λ e. let h = ap (has universe) e in absurd cc));
}

pub others_put : (universe : List ℕ) (c : ℕ) → has universe c ≡ false → (set : List ℕ) → has_others universe (with_number c set) ≡ true
others_put universe c none set = any-with_number (λ d. not (has universe d)) c set ∙ rw none refl

-- a node that depends on one changes where it is put into a set of communities of the universe
differ_named : (shown : Shown) → IsShown shown → (node : ℕ) → node < length shown.nodes → (d : DependsOnOthers shown node)
    → value_of shown (named shown.universe d.depends.set) node
    ≡ value_of shown (with_number (outside_of shown.universe) (named shown.universe d.depends.set)) node → ⊥
differ_named shown is node inside d same = by (has_others shown.universe d.depends.set) refl
  where
    set : List ℕ
    set = d.depends.set

    by : (b : Bool) → has_others shown.universe d.depends.set ≡ b → ⊥
    by true e = d.depends.differ (value_trace shown is node inside (with_number d.community d.depends.set) d.depends.set
        (outside_same shown.universe d.community d.outside d.depends.set) (others_put shown.universe d.community d.outside d.depends.set ∙ sym e))
    by false e =
        let back = same_back shown.universe (named shown.universe d.depends.set) d.depends.set (named_same shown.universe d.depends.set) in
        let inner = value_trace shown is node inside d.depends.set (named shown.universe d.depends.set) back
        (e ∙ sym (none_others shown.universe d.depends.set)) in
        let put = value_trace shown is node inside (with_number d.community d.depends.set)
        (with_number (outside_of shown.universe) (named shown.universe d.depends.set))
        (same_on shown.universe (with_number d.community d.depends.set) d.depends.set
        (with_number (outside_of shown.universe) (named shown.universe d.depends.set))
        (outside_same shown.universe d.community d.outside d.depends.set)
        (same_on shown.universe d.depends.set (named shown.universe d.depends.set)
        (with_number (outside_of shown.universe) (named shown.universe d.depends.set)) back
        (same_back shown.universe (with_number (outside_of shown.universe) (named shown.universe d.depends.set)) (named shown.universe d.depends.set)
        (outside_same shown.universe (outside_of shown.universe) (outside_not shown.universe) (named shown.universe d.depends.set)))))
        (others_put shown.universe d.community d.outside d.depends.set
        ∙ sym (others_put shown.universe (outside_of shown.universe) (outside_not shown.universe) (named shown.universe d.depends.set))) in
        d.depends.differ (put ∙ sym same ∙ sym inner)

-- tests of numbers and answers
pub numbers_equal : (m n : ℕ) → not (nat_eq m n) ≡ false → m ≡ n
numbers_equal m n e = equal m n (by (nat_eq m n) e)
  where
    by : (b : Bool) → not b ≡ false → b ≡ true
    by true e = refl
    by false e = absurd cc

pub bits_equal : (a b : Bool) → not (beq a b) ≡ false → a ≡ b
bits_equal true true e = refl
bits_equal true false e = absurd cc
bits_equal false true e = absurd cc
bits_equal false false e = refl

pub differs_not : (a b : Bool) → a ≡ b → not (beq a b) ≡ false
differs_not true true e = refl
differs_not true false e = absurd cc
differs_not false true e = absurd cc
differs_not false false e = refl

pub any_none : {X : Type 0} (p : X → Bool) (xs : List X) → ((x : X) → In xs x → p x ≡ false) → list_any p xs ≡ false
any_none p [] each = refl
any_none p (x ∷ xs) each = none (p x) (list_any p xs) (each x (inl refl)) (any_none p xs (λ y h. each y (inr h)))
  where
    none : (a b : Bool) → a ≡ false → b ≡ false → a || b ≡ false
    none true b e e' = absurd cc
    none false b e e' = e'

pub accepted_alike : (a b : Option Imported) → option_map_or (λ (import : Imported). import.lp + 1) a 0
    ≡ option_map_or (λ (import : Imported). import.lp + 1) b 0 → is_some a ≡ is_some b
accepted_alike None None e = refl
accepted_alike None (Some import) e = absurd (omega arith)
accepted_alike (Some import) None e = absurd (omega arith)
accepted_alike (Some import) (Some other) e = refl

module _ (shown : Shown) (is : IsShown shown) (edge : EdgeFn) (f : List ℕ → Option Imported) (of : IsEdgeFn shown edge f) where
  outs_inside : AreInside shown (nodes_of (by_number edge.outs))
  outs_inside = nodes_inside shown (carried_by_rest shown edge.rest) (by_number edge.outs) of.outs.each

  lps_inside : AreInside shown (nodes_of edge.lps)
  lps_inside = nodes_inside shown never edge.lps of.lps.each

  adds_inside : AreInside shown (nodes_of edge.adds)
  adds_inside = nodes_inside shown never edge.adds of.adds.each

  pub told_inside : AreInside shown (told_nodes edge)
  told_inside = (
    of.permit_inside,
    inside_append shown (nodes_of edge.lps) (nodes_of edge.adds ++ nodes_of (by_number edge.outs)) lps_inside
        (inside_append shown (nodes_of edge.adds) (nodes_of (by_number edge.outs)) adds_inside outs_inside),
  )

  pub plain_of_none : NoneNeedsOthers shown (told_nodes edge) → IsPlain shown.universe (on_sets f)
  plain_of_none none =
      let rest = none_right shown (nodes_of edge.lps) (nodes_of edge.adds ++ nodes_of (by_number edge.outs)) none.1 in
      plain_from shown is edge f of
      (node_hangs shown is edge.permit of.permit_inside none.0)
      (hang_all shown is (nodes_of edge.lps) lps_inside (none_left shown (nodes_of edge.lps) (nodes_of edge.adds ++ nodes_of (by_number edge.outs)) none.1))
      (hang_all shown is (nodes_of edge.adds) adds_inside (none_left shown (nodes_of edge.adds) (nodes_of (by_number edge.outs)) rest))
      (hang_all shown is (nodes_of (by_number edge.outs)) outs_inside (none_right shown (nodes_of edge.adds) (nodes_of (by_number edge.outs)) rest))

  -- a set and that set with one more outside, where nothing differs
  agree_all : (set : List ℕ) → differs_with_outside shown.universe (on_sets f) set ≡ false
      → AgreeAt shown (told_nodes edge) set (with_number (outside_of shown.universe) set)
  agree_all set e =
      let more : List ℕ = with_number (outside_of shown.universe) set in
      let first = or_none (not (nat_eq (preference (on_sets f) set) (preference (on_sets f) (with_number (outside_of shown.universe) set))))
      (not (nat_eq (added_count (on_sets f) set) (added_count (on_sets f) (with_number (outside_of shown.universe) set))) || list_any
      (λ c. not (beq (carries (on_sets f) c set) (carries (on_sets f) c (with_number (outside_of shown.universe) set)))) shown.universe) e in
      let second = or_none (not (nat_eq (added_count (on_sets f) set) (added_count (on_sets f) (with_number (outside_of shown.universe) set))))
      (list_any (λ c. not (beq (carries (on_sets f) c set) (carries (on_sets f) c (with_number (outside_of shown.universe) set)))) shown.universe) first.1
      in
      let lp = numbers_equal (preference (on_sets f) set) (preference (on_sets f) (with_number (outside_of shown.universe) set)) first.0 in
      let adds = numbers_equal (added_count (on_sets f) set) (added_count (on_sets f) (with_number (outside_of shown.universe) set)) second.0 in (
        sym (accepts_is shown is edge f of set) ∙ accepted_alike (on_sets f set) (on_sets f (with_number (outside_of shown.universe) set)) lp
            ∙ accepts_is shown is edge f of (with_number (outside_of shown.universe) set),
        agree_append shown (nodes_of edge.lps) (nodes_of edge.adds ++ nodes_of (by_number edge.outs)) set (with_number (outside_of shown.universe) set)
            ((table_tells shown edge.permit edge.lps (preference (on_sets f)) (lps_table shown is edge f of)).apart set
            (with_number (outside_of shown.universe) set) lp)
            (agree_append shown (nodes_of edge.adds) (nodes_of (by_number edge.outs)) set (with_number (outside_of shown.universe) set)
            ((table_tells shown edge.permit edge.adds (added_count (on_sets f)) (adds_table shown is edge f of)).apart set
            (with_number (outside_of shown.universe) set) adds)
            (agree_each shown (by_number edge.outs) set (with_number (outside_of shown.universe) set) (λ case h.
            sym (by_node shown is edge f of set case h)
            ∙ bits_equal (carries (on_sets f) case.0 set) (carries (on_sets f) case.0 (with_number (outside_of shown.universe) set))
            (none_in (λ c. not (beq (carries (on_sets f) c set) (carries (on_sets f) c (with_number (outside_of shown.universe) set)))) shown.universe case.0
            second.1 (has_in shown.universe case.0 (of.outs_known case.0 (key_in (by_number edge.outs) case h))))
            ∙ by_node shown is edge f of (with_number (outside_of shown.universe) set) case h))),
      )

  pub some_depends : SomeNeedsOthers shown (told_nodes edge) → depends_on_others shown.universe (on_sets f) ≡ true
  unfolding depends_on_others
  some_depends s =
      let there = has_in (told_nodes edge) s.node s.there in
      any_in (differs_with_outside shown.universe (on_sets f)) (sets_of shown.universe) (named shown.universe s.depends.depends.set)
      (filtered_in (has s.depends.depends.set) shown.universe)
      (by (differs_with_outside shown.universe (on_sets f) (named shown.universe s.depends.depends.set)) refl)
    where
      by : (b : Bool) → differs_with_outside shown.universe (on_sets f) (named shown.universe s.depends.depends.set) ≡ b → b ≡ true
      by true e = refl
      by false e = absurd (differ_named shown is s.node (inside_pick shown (told_nodes edge) s.node told_inside (has_in (told_nodes edge) s.node s.there))
          s.depends
          (agree_pick shown (told_nodes edge) (named shown.universe s.depends.depends.set)
          (with_number (outside_of shown.universe) (named shown.universe s.depends.depends.set)) s.node
          (agree_all (named shown.universe s.depends.depends.set) e) (has_in (told_nodes edge) s.node s.there)))

-- a plain function does not depend on them
same_all : (universe : List ℕ) (f : List ℕ → Option Imported) → IsPlain universe f → (set : List ℕ) → differs_with_outside universe f set ≡ false
same_all universe f plain set =
    let s = same_back universe (with_number (outside_of universe) set) set (outside_same universe (outside_of universe) (outside_not universe) set) in
    neither (nat_eq (preference f set) (preference f (with_number (outside_of universe) set)))
    (nat_eq (added_count f set) (added_count f (with_number (outside_of universe) set)))
    (list_any (λ c. not (beq (carries f c set) (carries f c (with_number (outside_of universe) set)))) universe)
    (same_number (preference f set) (preference f (with_number (outside_of universe) set)) (plain.lp.same set (with_number (outside_of universe) set) s))
    (same_number (added_count f set) (added_count f (with_number (outside_of universe) set)) (plain.adds.same set (with_number (outside_of universe) set) s))
    (any_none (λ c. not (beq (carries f c set) (carries f c (with_number (outside_of universe) set)))) universe (λ c h.
    differs_not (carries f c set) (carries f c (with_number (outside_of universe) set))
    ((plain.carried c (in_has universe c h)).same set (with_number (outside_of universe) set) s)))
  where
    neither : (a b c : Bool) → a ≡ true → b ≡ true → c ≡ false → not a || (not b || c) ≡ false
    neither true true c e e' e'' = e''
    neither true false c e e' e'' = absurd cc
    neither false b c e e' e'' = absurd cc

pub plain_not_depends : (universe : List ℕ) (f : List ℕ → Option Imported) → IsPlain universe f → depends_on_others universe f ≡ false
unfolding depends_on_others
plain_not_depends universe f plain = any_none (differs_with_outside universe f) (sets_of universe) (λ set h. same_all universe f plain set)
