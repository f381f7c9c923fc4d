-- How nodes for matches are put together.
use Rattle.std.proofs.Common.{◌≡◌, ℕ, zero, suc, ◌<◌, ◌≤◌, ◌-◌, Bool, true, false, not, ◌&&◌, ◌||◌, nat_eq, List, [], ◌∷◌, length, get_or, drop, Some, None, refl, sym, ◌∙◌, ap, subst, arith, inl, inr}
use Rattle.std.specs.Prelude.{if◌then◌else◌}
use Rattle.std.specs.List.{list_all, list_any, AllByRecursion}
use Rattle.std.proofs.Math.Path.{fun_ext}
use Rattle.std.proofs.Math.ListN.{drop_of_length-le}
use Rattle.std.proofs.Math.Seq.{drop-cons}
use Rattle.std.proofs.lemmas.Bool.{cases_eq}
use Rattle.base_kit.specs.Sets.{has}
use Rattle.base_kit.proofs.SetFacts.{same_number, other_number}
use Rattle.cfg_ast.specs.meaning.Lists.{first_line_decides}
use Rattle.cfg_ast.specs.declared.policy.CommunityLine.{CommunityLine}
use Rattle.cfg_ast.specs.declared.policy.CommunityList.{CommunityList}
use Rattle.route_maps.specs.Within.{AreWithin}
use Rattle.dd_core.specs.Sets.{Shown, value_of, Grows, Means, IsIteOfSets}
use Rattle.dd_core.proofs.ShownLemmas.{value_of_kept, grows_inside, means_kept}
use Rattle.policy_dd.specs.declared.matches.Carried.{Carried}
use Rattle.policy_dd.specs.Tables.{node_at}
use Rattle.policy_dd.specs.Matches.{has_in, AreNodesInside, line_by, list_by}
use Rattle.policy_dd.proofs.TableLemmas.{case_at, case_not_at, case_inside, case_kept, cases_inside_kept}

-- the item before a place, and those from it on
pub drop_before : {X : Type 0} → (xs : List X) (n : ℕ) (d : X) → 0 < n → n ≤ length xs → drop (n - 1) xs ≡ get_or xs (n - 1) d ∷ drop n xs
drop_before {X} xs n d some le =
    let lt : n - 1 < length xs = omega arith in
    let e : suc (n - 1) ≡ n = omega arith in
    drop-cons xs (n - 1) d lt ∙ ap (λ (m : ℕ). get_or xs (n - 1) d ∷ drop m xs) e

pub drop_item : {X : Type 0} → (xs : List X) (n : ℕ) (x : X) → 0 < n → n ≤ length xs → x ≡ get_or xs (n - 1) x → drop (n - 1) xs ≡ x ∷ drop n xs
drop_item {X} xs n x some le e = drop_before xs n x some le ∙ ap (λ (y : X). y ∷ drop n xs) (sym e)

-- what is said of all items of a list is said of each
pub all_at : {X : Type 0} → (P : X → Type 0) (xs : List X) (i : ℕ) (x : X) → AllByRecursion P xs → i < length xs → x ≡ get_or xs i x → P x
all_at P [] i x all inside e = absurd (omega arith)
all_at P (y ∷ ys) zero x all inside e = subst P (sym e) all.0
all_at P (y ∷ ys) (suc i) x all inside e = all_at P ys i x all.1 (omega arith) e

-- the communities of a part of the universe
pub within_each : (universe comms : List ℕ) (c : ℕ) → AreWithin universe comms → has comms c ≡ true → has universe c ≡ true
within_each universe [] c all there = absurd cc
within_each universe (d ∷ comms) c all there = elim (cases_eq d c) [
  | inl e ↦ ap (has universe) (sym e) ∙ all.0
  | inr ne ↦ within_each universe comms c all.1 (rw (other_number d c ne) at there)
]

pub within_at : (universe comms : List ℕ) (i : ℕ) → AreWithin universe comms → i < length comms → has universe (get_or comms i 0) ≡ true
within_at universe [] i all inside = absurd (omega arith)
within_at universe (d ∷ comms) zero all inside = all.0
within_at universe (d ∷ comms) (suc i) all inside = within_at universe comms i all.1 (omega arith)

or_there : (a b : Bool) → b ≡ true → a || b ≡ true
or_there true b e = refl
or_there false b e = e

pub all_within : (universe comms : List ℕ) → ((c : ℕ) → has comms c ≡ true → has universe c ≡ true) → AreWithin universe comms
all_within universe [] each = tt
all_within universe (d ∷ comms) each = (
  each d (rw (same_number d d refl) refl),
  all_within universe comms (λ c there. each c (or_there (nat_eq d c) (has comms c) there)),
)

pub means_at : (shown : Shown) (place : ℕ) (f g : List ℕ → Bool) → Means shown place f → ((set : List ℕ) → f set ≡ g set) → Means shown place g
means_at shown place f g is same = record { inside = is.inside; value = λ set. is.value set ∙ same set }

pub without_is : (old new : Shown) (a b c place : ℕ) → Means old c (λ _. false) → IsIteOfSets old new b c a place →
    Means new place (λ set. not (value_of old set b) && value_of old set a)
without_is old new a b c place never ite =
    record { inside = ite.inside; value = λ set. ite.value set ∙ rw (never.value set) (by (value_of old set b) (value_of old set a)) }
  where
    by : (x y : Bool) → (if x then false else y) ≡ not x && y
    by true y = refl
    by false y = refl

pub has_in_kept : (old new : Shown) (carried : Carried) (set : List ℕ) (c : ℕ) → Grows old new → AreNodesInside old carried →
    has_in new carried set c ≡ has_in old carried set c
has_in_kept old new carried set c grows inside =
    case_kept old new set carried.outs c (has set c && value_of new set carried.rest) (has set c && value_of old set carried.rest) grows inside.outs
    (ap (λ x. has set c && x) (value_of_kept old new set carried.rest grows inside.rest))

pub inside_kept : (old new : Shown) (carried : Carried) → Grows old new → AreNodesInside old carried → AreNodesInside new carried
inside_kept old new carried grows inside = record {
  rest = grows_inside old new carried.rest grows inside.rest;
  others = grows_inside old new carried.others grows inside.others;
  outs = cases_inside_kept old new carried.outs grows inside.outs;
  known = λ c there. ap (λ (u : List ℕ). has u c) grows.universe ∙ inside.known c there;
}

-- the condition of a community with a node of its own
pub condition_own : (shown : Shown) (carried : Carried) (c node : ℕ) → AreNodesInside shown carried → node_at carried.outs c ≡ Some node →
    Means shown node (λ set. has_in shown carried set c)
condition_own shown carried c node inside at = record {
  inside = case_inside shown carried.outs c node inside.outs at;
  value = λ set. sym (case_at shown set carried.outs c node (has set c && value_of shown set carried.rest) at);
}

pub condition_rest : (old mid new : Shown) (carried : Carried) (c there place : ℕ) → AreNodesInside old carried → Grows old mid →
    node_at carried.outs c ≡ None → Means mid there (λ set. has set c) → Means new place (λ set. value_of mid set there && value_of mid set carried.rest) →
    Means new place (λ set. has_in old carried set c)
condition_rest old mid new carried c there place inside grows at var is = record {
  inside = is.inside;
  value = λ set. is.value set ∙ rw (var.value set, value_of_kept old mid set carried.rest grows inside.rest)
      (sym (case_not_at old set carried.outs c (has set c && value_of old set carried.rest) at));
}

-- one community more
pub all_step : (old mid mid' new : Shown) (carried : Carried) (c : ℕ) (rest : List ℕ) (later here node : ℕ) → AreNodesInside old carried → Grows old mid →
    Grows mid mid' → Means mid later (λ set. list_all (has_in old carried set) rest) → Means mid' here (λ set. has_in mid carried set c) →
    Means new node (λ set. value_of mid' set here && value_of mid' set later) → Means new node (λ set. list_all (has_in old carried set) (c ∷ rest))
all_step old mid mid' new carried c rest later here node inside g g' of_later of_here is = record {
  inside = is.inside;
  value = λ set. is.value set ∙ rw (
    of_here.value set,
    has_in_kept old mid carried set c g inside,
    (means_kept mid mid' later (λ set. list_all (has_in old carried set) rest) g' of_later).value set,
  ) refl;
}

pub and_assoc : (a b c : Bool) → a && (b && c) ≡ (a && b) && c
and_assoc true b c = refl
and_assoc false b c = refl

pub there_kept : (old mid : Shown) (carried : Carried) (set : List ℕ) → Grows old mid → AreNodesInside old carried →
    has_in mid carried set ≡ has_in old carried set
there_kept old mid carried set g inside = fun_ext (λ c. has_in_kept old mid carried set c g inside)

pub and_swap : (a b : Bool) → a && b ≡ b && a
and_swap true true = refl
and_swap true false = refl
and_swap false true = refl
and_swap false false = refl

-- a test of lines, and of lists, in a store that has grown
pub line_kept : (old mid : Shown) (carried : Carried) (set : List ℕ) (exact : Bool) → Grows old mid → AreNodesInside old carried →
    line_by mid.universe (has_in mid carried set) (value_of mid set carried.others) exact ≡ line_by old.universe (has_in old carried set)
    (value_of old set carried.others) exact
line_kept old mid carried set exact g inside =
    ap (λ (u : List ℕ). line_by u (has_in mid carried set) (value_of mid set carried.others) exact) g.universe
    ∙ ap (λ (t : ℕ → Bool). line_by old.universe t (value_of mid set carried.others) exact) (there_kept old mid carried set g inside)
    ∙ ap (λ (b : Bool). line_by old.universe (has_in old carried set) b exact) (value_of_kept old mid set carried.others g inside.others)

pub lists_step : (old mid mid' new : Shown) (carried : Carried) (exact : Bool) (lists rest : List CommunityList) (list : CommunityList)
    (items : List CommunityLine) (later here place : ℕ) → items ≡ list.lines → AreNodesInside old carried → lists ≡ list ∷ rest → Grows old mid →
    Grows mid mid' →
    Means mid later (λ set. list_any (list_by old.universe (has_in old carried set) (value_of old set carried.others) exact) rest) →
    Means mid' here (λ set. first_line_decides (line_by mid.universe (has_in mid carried set) (value_of mid set carried.others) exact) items) →
    Means new place (λ set. value_of mid' set here || value_of mid' set later) →
    Means new place (λ set. list_any (list_by old.universe (has_in old carried set) (value_of old set carried.others) exact) lists)
lists_step old mid mid' new carried exact lists rest list items later here place ei inside e g g' of_later of_here is = record {
  inside = is.inside;
  value = λ set.
      let v = of_here.value set ∙ ap (λ (l : List CommunityLine).
      first_line_decides (line_by mid.universe (has_in mid carried set) (value_of mid set carried.others) exact) l) ei
      ∙ ap (λ (t : CommunityLine → Bool). first_line_decides t list.lines) (line_kept old mid carried set exact g inside) in
      let w = (means_kept mid mid' later (λ set. list_any (list_by old.universe (has_in old carried set) (value_of old set carried.others) exact) rest) g'
      of_later).value set in
      is.value set ∙ rw (v, w, e) refl;
}

-- before the first step
none_left : {X : Type 0} → (xs : List X) (n : ℕ) → n ≡ length xs → drop n xs ≡ []
none_left {X} xs n e = drop_of_length-le xs (omega arith)

pub all_none : (shown : Shown) (carried : Carried) (comms : List ℕ) (n node : ℕ) → n ≡ length comms → Means shown node (λ _. true) →
    Means shown node (λ set. list_all (has_in shown carried set) (drop n comms))
all_none shown carried comms n node e is =
    means_at shown node (λ _. true) (λ set. list_all (has_in shown carried set) (drop n comms)) is
    (λ set. sym (ap (λ (l : List ℕ). list_all (has_in shown carried set) l) (none_left comms n e)))

pub lists_none : (shown : Shown) (carried : Carried) (exact : Bool) (lists : List CommunityList) (n node : ℕ) → n ≡ length lists →
    Means shown node (λ _. false) → Means shown node
    (λ set. list_any (list_by shown.universe (has_in shown carried set) (value_of shown set carried.others) exact) (drop n lists))
lists_none shown carried exact lists n node e is =
    means_at shown node (λ _. false) (λ set. list_any (list_by shown.universe (has_in shown carried set) (value_of shown set carried.others) exact)
    (drop n lists)) is (λ set. sym (ap (λ (l : List CommunityList).
    list_any (list_by shown.universe (has_in shown carried set) (value_of shown set carried.others) exact) l) (none_left lists n e)))
