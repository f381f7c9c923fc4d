-- What the nodes of a function say of every list of communities, as the set that it stands for.
use Rattle.std.proofs.Common.{◌≡◌, ℕ, ◌+◌, Bool, true, false, not, ◌&&◌, ◌||◌, nat_eq, List, [], ◌∷◌, Option, Some, None, refl, sym, ◌∙◌, ap}
use Rattle.std.specs.Option.{is_some, option_map_or}
use Rattle.base_kit.specs.Sets.{has, with_number, IsAscending}
use Rattle.base_kit.proofs.SetFacts.{same_number, other_number, has-with_number}
use Rattle.base_kit.proofs.Elements.{In}
use Rattle.dd_core.specs.Sets.{Shown, IsShown, value_of, has_others}
use Rattle.dd_core.proofs.SupportLemmas.{any-with_number}
use Rattle.policy_dd.specs.declared.edge.EdgeFn.{EdgeFn}
use Rattle.policy_dd.specs.Edge.{case_or, keys_of, by_number, never, carried_by_rest, is_carried, ImportIs, AreCases, IsOneOf, IsEdgeFn}
use Rattle.policy_dd.proofs.CaseLemmas.{case_absent}
use Rattle.route_maps.specs.declared.plain.Imported.{Imported}
use Rattle.canon_policy.specs.Functions.{as_set, on_sets, outside_of, accepts, carries, keeps, preference, added_count}
use Rattle.canon_policy.specs.Hanging.{SameOn, TestHangsOn}
use Rattle.canon_policy.specs.Made.{nodes_of}
use Rattle.canon_policy.specs.Nodes.{AgreeAt}
use Rattle.canon_policy.specs.Plain.{IsPlain}
use Rattle.canon_policy.proofs.SameSets.{has-as_set, ascending-as_set, and_both, with_same_on}
use Rattle.canon_policy.proofs.Tables.{agree_cases, agree_as_set, nodes_inside, at_key, AllHang, IsTableOf, NumberAt, table_hangs}
use Rattle.canon_policy.proofs.Tables.NumberAt.{none, some}
use Rattle.canon_policy.proofs.Values.{value_same, outside_not, value_trace}

module _ (shown : Shown) (is : IsShown shown) (edge : EdgeFn) (f : List ℕ → Option Imported) (of : IsEdgeFn shown edge f) where
  abbrev out : ℕ
  out = outside_of shown.universe

  permit_as_set : (set : List ℕ) → value_of shown (as_set set) edge.permit ≡ value_of shown set edge.permit
  permit_as_set set = value_same shown is edge.permit of.permit_inside (as_set set) set (has-as_set set)

  rest_as_set : (set : List ℕ) → value_of shown (as_set set) edge.rest ≡ value_of shown set edge.rest
  rest_as_set set = value_same shown is edge.rest of.rest_inside (as_set set) set (has-as_set set)

  carried_as_set : (set : List ℕ) (c : ℕ) → is_carried shown edge (as_set set) c ≡ is_carried shown edge set c
  carried_as_set set c =
      agree_cases shown (by_number edge.outs) (as_set set) set c (carried_by_rest shown edge.rest c (as_set set)) (carried_by_rest shown edge.rest c set)
      (ap (λ b. b && value_of shown (as_set set) edge.rest) (has-as_set set c) ∙ ap (λ b. has set c && b) (rest_as_set set))
      (agree_as_set shown is (nodes_of (by_number edge.outs)) (nodes_inside shown (carried_by_rest shown edge.rest) (by_number edge.outs) of.outs.each) set)

  -- acceptance and communities
  pub accepts_is : (set : List ℕ) → accepts (on_sets f) set ≡ value_of shown set edge.permit
  accepts_is set = by (f (as_set set)) (of.means (as_set set) (ascending-as_set set)) ∙ permit_as_set set
    where
      by : (o : Option Imported) → ImportIs shown edge (as_set set) o → is_some o ≡ value_of shown (as_set set) edge.permit
      by None says = sym says
      by (Some import) says = sym says.permit

  pub carries_is : (set : List ℕ) (c : ℕ) → carries (on_sets f) c set ≡ is_carried shown edge set c
  carries_is set c = by (f (as_set set)) (of.means (as_set set) (ascending-as_set set)) ∙ carried_as_set set c
    where
      by : (o : Option Imported) → ImportIs shown edge (as_set set) o
          → option_map_or (λ (import : Imported). has import.comms c) o false ≡ is_carried shown edge (as_set set) c
      by None says = sym (of.outs_implied (as_set set) c (ascending-as_set set) says)
      by (Some import) says = says.comms c

  no_key : (c : ℕ) → has shown.universe c ≡ false → has (keys_of (by_number edge.outs)) c ≡ false
  no_key c outside = by (has (keys_of (by_number edge.outs)) c) refl
    where
      by : (b : Bool) → has (keys_of (by_number edge.outs)) c ≡ b → b ≡ false
      by true e = let known = of.outs_known c e in cc
      by false e = refl

  -- one without a node of its own
  pub by_rest : (set : List ℕ) (c : ℕ) → has (keys_of (by_number edge.outs)) c ≡ false → carries (on_sets f) c set ≡ has set c && value_of shown set edge.rest
  by_rest set c bare = carries_is set c ∙ case_absent shown set (by_number edge.outs) c (carried_by_rest shown edge.rest c set) bare

  pub by_node : (set : List ℕ) (case : ℕ × ℕ) → In (by_number edge.outs) case → carries (on_sets f) case.0 set ≡ value_of shown set case.1
  by_node set case h = carries_is set case.0 ∙ at_key shown set (by_number edge.outs) case (carried_by_rest shown edge.rest case.0 set) of.outs.ascending h

  -- keeping
  keeps_more : (set : List ℕ) → keeps (on_sets f) shown.universe set ≡ value_of shown (with_number (outside_of shown.universe) set) edge.rest
  keeps_more set =
      by_rest (with_number (outside_of shown.universe) set) (outside_of shown.universe) (no_key (outside_of shown.universe) (outside_not shown.universe))
      ∙ ap (λ b. b && value_of shown (with_number (outside_of shown.universe) set) edge.rest)
      (has-with_number (outside_of shown.universe) set (outside_of shown.universe)
      ∙ ap (λ b. b || has set (outside_of shown.universe)) (same_number (outside_of shown.universe) (outside_of shown.universe) refl))

  pub rest_is : (set : List ℕ) → value_of shown set edge.rest ≡ value_of shown set edge.permit
      && value_of shown (with_number (outside_of shown.universe) set) edge.rest
  rest_is set =
      sym (rest_as_set set)
      ∙ of.rest (as_set set) (outside_of shown.universe) (ascending-as_set set) (outside_not shown.universe)
      ∙ ap (λ b. b && value_of shown (with_number (outside_of shown.universe) (as_set set)) edge.rest) (permit_as_set set)
      ∙ ap (λ b. value_of shown set edge.permit && b)
      (value_same shown is edge.rest of.rest_inside (with_number (outside_of shown.universe) (as_set set)) (with_number (outside_of shown.universe) set)
      (λ c. has-with_number (outside_of shown.universe) (as_set set) c ∙ ap (λ b. nat_eq (outside_of shown.universe) c || b) (has-as_set set c)
      ∙ sym (has-with_number (outside_of shown.universe) set c)))

  pub rest_permits : (set : List ℕ) → value_of shown set edge.rest ≡ true → value_of shown set edge.permit ≡ true
  rest_permits set e = (and_both (value_of shown set edge.permit) (value_of shown (with_number (outside_of shown.universe) set) edge.rest)
      (sym (rest_is set) ∙ e)).0

  -- the preference and the count
  cases_as_set : (cases : List (ℕ × ℕ)) → AreCases shown never cases → (set : List ℕ) (key : ℕ)
      → case_or shown (as_set set) cases key false ≡ case_or shown set cases key false
  cases_as_set cases are set key = agree_cases shown cases (as_set set) set key false false refl
      (agree_as_set shown is (nodes_of cases) (nodes_inside shown never cases are.each) set)

  one_as_set : (cases : List (ℕ × ℕ)) → AreCases shown never cases → (set : List ℕ) → IsOneOf shown edge.permit cases (as_set set)
      → IsOneOf shown edge.permit cases set
  one_as_set cases are set one = record {
    one = λ v w e e'. one.one v w (cases_as_set cases are set v ∙ e) (cases_as_set cases are set w ∙ e');
    implied = λ v denied. sym (cases_as_set cases are set v) ∙ one.implied v (permit_as_set set ∙ denied);
  }

  pub lps_table : IsTableOf shown edge.permit edge.lps (preference (on_sets f))
  lps_table = record {
    number = λ set. by set (f (as_set set)) (of.means (as_set set) (ascending-as_set set));
    one = λ set. one_as_set edge.lps of.lps set (of.one_lp (as_set set) (ascending-as_set set));
    are = of.lps;
  }
    where
      by : (set : List ℕ) (o : Option Imported) → ImportIs shown edge (as_set set) o
          → NumberAt shown edge.permit edge.lps set (option_map_or (λ (import : Imported). import.lp + 1) o 0)
      by set None says = none (sym (permit_as_set set) ∙ says) refl
      by set (Some import) says = some import.lp refl (sym (cases_as_set edge.lps of.lps set import.lp) ∙ says.lp)

  pub adds_table : IsTableOf shown edge.permit edge.adds (added_count (on_sets f))
  adds_table = record {
    number = λ set. by set (f (as_set set)) (of.means (as_set set) (ascending-as_set set));
    one = λ set. one_as_set edge.adds of.adds set (of.one_adds (as_set set) (ascending-as_set set));
    are = of.adds;
  }
    where
      by : (set : List ℕ) (o : Option Imported) → ImportIs shown edge (as_set set) o
          → NumberAt shown edge.permit edge.adds set (option_map_or (λ (import : Imported). import.adds + 1) o 0)
      by set None says = none (sym (permit_as_set set) ∙ says) refl
      by set (Some import) says = some import.adds refl (sym (cases_as_set edge.adds of.adds set import.adds) ∙ says.adds)

  pub result_ascends : (set : List ℕ) (import : Imported) → on_sets f set ≡ Some import → IsAscending import.comms
  result_ascends set import e = by (f (as_set set)) e (of.means (as_set set) (ascending-as_set set))
    where
      by : (o : Option Imported) → o ≡ Some import → ImportIs shown edge (as_set set) o → IsAscending import.comms
      by None e says = absurd cc
      by (Some other) e says = let same : other ≡ import = cc in rw (← same) says.ascending

  -- where acceptance does not depend on communities outside the universe, `rest` tells what is kept
  pub keeps_is : TestHangsOn shown.universe (λ set. value_of shown set edge.permit) → (set : List ℕ)
      → keeps (on_sets f) shown.universe set ≡ value_of shown set edge.rest
  keeps_is hangs set =
      keeps_more set ∙ by (value_of shown (with_number (outside_of shown.universe) set) edge.rest) refl ∙ sym (rest_is set)
    where
      outside_same : SameOn shown.universe (with_number (outside_of shown.universe) set) set
      outside_same = record {
        same = λ c known. has-with_number (outside_of shown.universe) set c
            ∙ ap (λ b. b || has set c) (other_number (outside_of shown.universe) c
            (λ e. let wrong = outside_not shown.universe in let h = ap (has shown.universe) e in absurd cc));
      }

      by : (b : Bool) → value_of shown (with_number (outside_of shown.universe) set) edge.rest ≡ b → b ≡ value_of shown set edge.permit && b
      by true e = rw (sym (hangs.same (with_number (outside_of shown.universe) set) set outside_same)
          ∙ rest_permits (with_number (outside_of shown.universe) set) e) refl
      by false e = nothing (value_of shown set edge.permit)
        where
          nothing : (p : Bool) → false ≡ p && false
          nothing true = refl
          nothing false = refl

  rest_hangs : TestHangsOn shown.universe (λ set. value_of shown set edge.permit) → TestHangsOn shown.universe (λ set. value_of shown set edge.rest)
  rest_hangs hangs = record {
    same = λ a b s.
        rest_is a
        ∙ ap (λ x. x && value_of shown (with_number (outside_of shown.universe) a) edge.rest) (hangs.same a b s)
        ∙ ap (λ x. value_of shown b edge.permit && x)
        (value_trace shown is edge.rest of.rest_inside (with_number (outside_of shown.universe) a) (with_number (outside_of shown.universe) b)
        (with_same_on shown.universe a b (outside_of shown.universe) s) (others_in a ∙ sym (others_in b)))
        ∙ sym (rest_is b);
  }
    where
      others_in : (set : List ℕ) → has_others shown.universe (with_number (outside_of shown.universe) set) ≡ true
      others_in set = any-with_number (λ c. not (has shown.universe c)) (outside_of shown.universe) set ∙ rw (outside_not shown.universe) refl

  -- each community of the universe
  carried_hangs : TestHangsOn shown.universe (λ set. value_of shown set edge.rest) → AllHang shown (nodes_of (by_number edge.outs)) → (c : ℕ)
      → has shown.universe c ≡ true → TestHangsOn shown.universe (carries (on_sets f) c)
  carried_hangs rest hang c known = record {
    same = λ a b s.
        carries_is a c
        ∙ agree_cases shown (by_number edge.outs) a b c (carried_by_rest shown edge.rest c a) (carried_by_rest shown edge.rest c b)
        (ap (λ x. x && value_of shown a edge.rest) (s.same c known) ∙ ap (λ x. has b c && x) (rest.same a b s))
        (agree_hang (nodes_of (by_number edge.outs)) hang a b s)
        ∙ sym (carries_is b c);
  }
    where
      agree_hang : (nodes : List ℕ) → AllHang shown nodes → (a b : List ℕ) → SameOn shown.universe a b → AgreeAt shown nodes a b
      agree_hang [] hang a b s = tt
      agree_hang (node ∷ nodes) hang a b s = (hang.0.same a b s, agree_hang nodes hang.1 a b s)

  pub plain_from : TestHangsOn shown.universe (λ set. value_of shown set edge.permit) → AllHang shown (nodes_of edge.lps) → AllHang shown (nodes_of edge.adds)
      → AllHang shown (nodes_of (by_number edge.outs)) → IsPlain shown.universe (on_sets f)
  plain_from permit lps adds outs = record {
    accepted = record { same = λ a b s. accepts_is a ∙ permit.same a b s ∙ sym (accepts_is b) };
    kept = record { same = λ a b s. keeps_is permit a ∙ (rest_hangs permit).same a b s ∙ sym (keeps_is permit b) };
    lp = table_hangs shown edge.permit edge.lps (preference (on_sets f)) lps_table lps;
    adds = table_hangs shown edge.permit edge.adds (added_count (on_sets f)) adds_table adds;
    carried = carried_hangs (rest_hangs permit) outs;
    unnamed = λ set c outside. by_rest set c (no_key c outside) ∙ ap (λ b. has set c && b) (sym (keeps_is permit set));
    ascending = result_ascends;
  }
