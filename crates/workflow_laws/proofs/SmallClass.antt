-- The class of prefixes that a network without prefix lists treats alike.
--
-- 1. A prefix that a router has an initial route to is among those that the network originates.
-- 2. Without prefix lists, prefixes to which all routers have equal initial routes are in one class.
-- 3. Each originated prefix is in the class of a least one, which has a number.
use Rattle.std.proofs.Common.{◌≡◌, ℕ, suc, ◌+◌, Bool, true, false, cond, ◌||◌, ◌&&◌, List, [], ◌∷◌, map, inl, inr, Option, Some, None}
use Rattle.std.proofs.Common.{◌-◌, arith, refl, sym, ap, ◌∙◌, subst, true≢false, if◌then◌else◌}
use Rattle.std.specs.Prelude.{Contains, filter, filter_map, find, flat_map, is_some, nat_eq, not, slice_get}
use Rattle.std.specs.List.{cons_option, enumerate_from, list_any}
use Rattle.std.specs.Option.{option_map, option_map_or}
use Rattle.std.proofs.lemmas.Bool.Decides.{nat_tests}
use Rattle.base_kit.specs.Prefixes.{Prefix, same_prefix}
use Rattle.base_kit.proofs.Elements.{In, contains_in, filter_in, in_filter, in_filter_map, in_flat_map, in_get, in_map}
use Rattle.cfg_ast.specs.declared.bgp.BgpProcess.{BgpProcess}
use Rattle.cfg_ast.specs.declared.bgp.NetLine.{NetLine}
use Rattle.cfg_ast.specs.declared.classes.DestClass.{DestClass}
use Rattle.cfg_ast.specs.declared.classes.Origin.{Origin}
use Rattle.cfg_ast.specs.declared.interface.Interface.{Interface}
use Rattle.cfg_ast.specs.declared.network.Network.{Network}
use Rattle.cfg_ast.specs.declared.network.Router.{Router}
use Rattle.cfg_ast.specs.declared.policy.PrefixList.{PrefixList}
use Rattle.cfg_ast.specs.meaning.Classes.{answers_of, area_interface_in, class_of, classes_of, has_prefix, initial_route, is_before, is_least}
use Rattle.cfg_ast.specs.meaning.Classes.{is_same_class, is_up_in, lists_on, origin_at, originated, originated_by, origins_of, route_by_process}
use Rattle.cfg_ast.specs.meaning.Classes.{up_subnet, with_prefixes, AllAfter, AreAscending, IsSameClass}
use Rattle.cfg_ast.specs.meaning.PrefixLists.{prefix_list_permits}
use Rattle.cfg_ast.specs.meaning.Topology.{cost_of_interface, is_in_area_interface}
use Rattle.cfg_ast.proofs.ClassFacts.{class_ascends, is_one_class, one_class}
use Rattle.cfg_ast.proofs.PrefixSets.{has-with_prefixes, not_before_back, not_before_self, one_prefix, same_prefix-self}
use Rattle.srp_core.specs.declared.route.Route.{Route}
use Rattle.srp_core.specs.ProblemOf.{route_from, start_route}
use Rattle.answer_kit.specs.ClassNumbers.{class_at}
use Rattle.emit_form_laws.proofs.Groups.{any_in}
use Rattle.emit_form_laws.proofs.Origins.{map_some}

-- ---- lists

any_step : {X : Type 0} (f : X → Bool) (x : X) (xs : List X) (b : Bool) → f x ≡ b → (b || list_any f xs) ≡ true
    → (list_any f xs ≡ true → (y : X) × In xs y × (f y ≡ true)) → (y : X) × In (x ∷ xs) y × (f y ≡ true)
any_step f x xs true is e more = (x, inl refl, is)
any_step f x xs false is e more = (let r = more e in (r.0, inr r.1, r.2))

pub any_some : {X : Type 0} (f : X → Bool) (xs : List X) → list_any f xs ≡ true → (x : X) × In xs x × (f x ≡ true)
any_some f [] e = absurd (true≢false (sym e))
any_some f (x ∷ xs) e = any_step f x xs (f x) refl e (any_some f xs)

found_step : {X : Type 0} (f : X → Bool) (y : X) (ys : List X) (x : X) (b : Bool) → f y ≡ b → cond b (Some y) (find f ys) ≡ Some x
    → (find f ys ≡ Some x → In ys x × (f x ≡ true)) → In (y ∷ ys) x × (f x ≡ true)
found_step f y ys x true is e more = (let same : y ≡ x = cc in (inl same, sym (ap f same) ∙ is))
found_step f y ys x false is e more = (let r = more e in (inr r.0, r.1))

found_in : {X : Type 0} (f : X → Bool) (xs : List X) (x : X) → find f xs ≡ Some x → In xs x × (f x ≡ true)
found_in f [] x e = absurd cc
found_in f (y ∷ ys) x e = found_step f y ys x (f y) refl e (found_in f ys x)

or_none : (b : Bool) → (b || false) ≡ b
or_none true = refl
or_none false = refl

second_true : (a b : Bool) → (a && b) ≡ true → b ≡ true
second_true true b e = e
second_true false b e = absurd (true≢false (sym e))

both_true : (a b : Bool) → (a && b) ≡ true → (a ≡ true) × (b ≡ true)
both_true true b e = (refl, e)
both_true false b e = absurd (true≢false (sym e))

-- ---- 1. what is originated

has_in : (ps : List Prefix) (p : Prefix) → has_prefix ps p ≡ true → In ps p
has_in ps p e = (let s = any_some (same_prefix p) ps e in subst (In ps) (sym (one_prefix p s.0 s.2)) s.1)

in_has : (ps : List Prefix) (p : Prefix) → In ps p → has_prefix ps p ≡ true
in_has ps p at = any_in (same_prefix p) ps p at (same_prefix-self p)

pub in_set : (ps : List Prefix) (p : Prefix) → In ps p → In (with_prefixes ps []) p
in_set ps p at = has_in (with_prefixes ps []) p (has-with_prefixes ps [] p ∙ or_none (has_prefix ps p) ∙ in_has ps p at)

pub set_in : (ps : List Prefix) (p : Prefix) → In (with_prefixes ps []) p → In ps p
set_in ps p at = has_in ps p (sym (or_none (has_prefix ps p)) ∙ sym (has-with_prefixes ps [] p) ∙ in_has (with_prefixes ps []) p at)

up_here : (p : Prefix) (o : Option Prefix) → option_map_or (same_prefix p) o false ≡ true → o ≡ Some p
up_here p None e = absurd (true≢false (sym e))
up_here p (Some q) e = ap Some (sym (one_prefix p q e))

module _ (r : Router) (p : Prefix) (c : Option ℕ) where
  up_at : (x : Interface) → In r.interfaces x → is_up_in p x ≡ true → In (filter_map up_subnet r.interfaces) p
  up_at x at up = in_filter_map up_subnet r.interfaces x p at (up_here p (up_subnet x) up)

  announced : (a b : Bool) → list_any (is_up_in p) r.interfaces ≡ b → cond (a && b) (Some None) None ≡ Some c → In (filter_map up_subnet r.interfaces) p
  announced true true is e = (let s = any_some (is_up_in p) r.interfaces is in up_at s.0 s.1 s.2)
  announced true false is e = absurd cc
  announced false b is e = absurd cc

  by_process : (b : Option BgpProcess) → route_by_process r b p ≡ Some c → In (filter_map up_subnet r.interfaces) p
  by_process (Some process) e =
      announced (list_any (λ (line : NetLine). same_prefix p line.prefix) process.networks) (list_any (is_up_in p) r.interfaces) refl e
  by_process None e =
      let m = map_some cost_of_interface (area_interface_in r p) c e in
      let f = found_in (λ (x : Interface). is_in_area_interface r x && is_up_in p x) r.interfaces m.0 m.1 in
      up_at m.0 f.0 (second_true (is_in_area_interface r m.0) (is_up_in p m.0) f.1)

pub originated_here : (n : Network) (p : Prefix) (r : Router) (start : Route) → In n.routers r → start_route p r ≡ Some start → In (originated n) p
unfolding originated
originated_here n p r start at starts =
    let m = map_some (route_from r) (initial_route r p) start starts in
    let up = by_process r p m.0 r.bgp m.1 in
    let own = in_filter (λ (q : Prefix). is_some (initial_route r q)) (filter_map up_subnet r.interfaces) p up (ap is_some m.1) in
    in_set (flat_map originated_by n.routers) p (in_flat_map originated_by n.routers r p at own)

-- ---- 2. one class

one_start : (r : Router) (a b : Option (Option ℕ)) → option_map (route_from r) a ≡ option_map (route_from r) b → a ≡ b
one_start r None None e = refl
one_start r None (Some b) e = absurd cc
one_start r (Some a) None e = absurd cc
one_start r (Some None) (Some None) e = refl
one_start r (Some None) (Some (Some d)) e = absurd cc
one_start r (Some (Some c)) (Some None) e = absurd cc
one_start r (Some (Some c)) (Some (Some d)) e = cc

one_head : (x y : Option Route) (xs ys : List (Option Route)) → x ∷ xs ≡ y ∷ ys → (x ≡ y) × (xs ≡ ys)
one_head x y xs ys e = (cc, cc)

abbrev origin : ℕ → Option ℕ → Origin
origin place cost = record { router = place; cost = cost }

module _ (p q : Prefix) where
  same_origins_from : (k : ℕ) (rs : List Router) → map (start_route p) rs ≡ map (start_route q) rs
      → filter_map (origin_at p) (enumerate_from k rs) ≡ filter_map (origin_at q) (enumerate_from k rs)
  same_origins_from k [] e = refl
  same_origins_from k (r ∷ rs) e =
      let both = one_head (start_route p r) (start_route q r) (map (start_route p) rs) (map (start_route q) rs) e in
      let here = one_start r (initial_route r p) (initial_route r q) both.0 in
      let later = same_origins_from (k + 1) rs both.1 in
      ap (λ (o : Option (Option ℕ)). cons_option (option_map (origin k) o) (filter_map (origin_at p) (enumerate_from (k + 1) rs))) here
      ∙ ap (cons_option (origin_at q (k, r))) later

origins_same : (n : Network) (p q : Prefix) → map (start_route p) n.routers ≡ map (start_route q) n.routers → origins_of n p ≡ origins_of n q
unfolding origins_of
origins_same n p q starts = same_origins_from p q 0 n.routers starts

answers_same : (n : Network) (p q : Prefix) → flat_map lists_on n.routers ≡ [] → answers_of n p ≡ answers_of n q
unfolding answers_of
answers_same n p q none =
    ap (map (λ (list : PrefixList). prefix_list_permits list p)) none ∙ sym (ap (map (λ (list : PrefixList). prefix_list_permits list q)) none)

pub same_class : (n : Network) (p q : Prefix) → flat_map lists_on n.routers ≡ []
    → map (start_route p) n.routers ≡ map (start_route q) n.routers → IsSameClass n p q
same_class n p q none starts = record { origins = origins_same n p q starts; answers = answers_same n p q none }

-- ---- 3. the least prefix of a class

pub record HasLeast (n : Network) (p : Prefix) : Type 0 where
  pub least : Prefix
  pub inside : In (originated n) least
  pub is : is_least n least ≡ true
  pub alike : IsSameClass n least p

turned : (n : Network) (p q : Prefix) → IsSameClass n p q → IsSameClass n q p
turned n p q s = record { origins = sym s.origins; answers = sym s.answers }

pub joined : (n : Network) (p q r : Prefix) → IsSameClass n p q → IsSameClass n q r → IsSameClass n p r
joined n p q r s t = record { origins = s.origins ∙ t.origins; answers = s.answers ∙ t.answers }

module _ (n : Network) (p : Prefix) (at : In (originated n) p) where
  abbrev kept : List Prefix
  kept = filter (is_same_class n p) (originated n)

  own : In kept p
  own = in_filter (is_same_class n p) (originated n) p at (is_one_class n p p (record { origins = refl; answers = refl }))

  after_all : (q : Prefix) (ps : List Prefix) (x : Prefix) → AllAfter q ps → In ps x → is_before q x ≡ true
  after_all q [] x all h = absurd h
  after_all q (y ∷ ps) x all (inl same) = subst (λ (z : Prefix). is_before q z ≡ true) same all.0
  after_all q (y ∷ ps) x all (inr h) = after_all q ps x all.1 h

  not_lesser : (q : Prefix) (more : List Prefix) → AllAfter q more → (x : Prefix) → In (q ∷ more) x → is_before x q ≡ true → ⊥
  not_lesser q more after x (inl same) lesser = true≢false (sym lesser ∙ ap (λ (y : Prefix). is_before y q) (sym same) ∙ not_before_self q)
  not_lesser q more after x (inr h) lesser = true≢false (sym lesser ∙ not_before_back q x (after_all q more x after h))

  none_lesser : (q : Prefix) (more : List Prefix) → kept ≡ q ∷ more → AllAfter q more → IsSameClass n p q → (b : Bool)
      → list_any (λ (x : Prefix). is_before x q && is_same_class n x q) (originated n) ≡ b → not b ≡ true
  none_lesser q more is after same false e = refl
  none_lesser q more is after same true e =
      let s = any_some (λ (x : Prefix). is_before x q && is_same_class n x q) (originated n) e in
      let both = both_true (is_before s.0 q) (is_same_class n s.0 q) s.2 in
      let alike = joined n p q s.0 same (turned n s.0 q (one_class n s.0 q both.1)) in
      let here = in_filter (is_same_class n p) (originated n) s.0 s.1 (is_one_class n p s.0 alike) in
      absurd (not_lesser q more after s.0 (subst (λ (ps : List Prefix). In ps s.0) is here) both.0)

  least_of : (ps : List Prefix) → kept ≡ ps → AreAscending ps → HasLeast n p
  least_of [] is up = absurd (subst (λ (ps : List Prefix). In ps p) is own)
  least_of (q ∷ more) is up =
      let here : In kept q = subst (λ (ps : List Prefix). In ps q) (sym is) (inl refl) in
      let f = filter_in (is_same_class n p) (originated n) q here in
      let same = one_class n p q f.1 in
      let tested = list_any (λ (x : Prefix). is_before x q && is_same_class n x q) (originated n) in
      record { least = q; inside = f.0; is = none_lesser q more is up.0 same tested refl; alike = turned n p q same }

  pub has_least : HasLeast n p
  has_least = least_of kept refl (class_ascends n p)

-- the class of an originated prefix has a number
pub record HasNumber (n : Network) (p : Prefix) : Type 0 where
  pub least : Prefix
  pub alike : IsSameClass n least p
  pub number : ℕ
  pub at : class_at (classes_of n) number ≡ Some (class_of n least)

at_next : (cs : List DestClass) (k : ℕ) (c : DestClass) → slice_get cs k ≡ Some c → class_at cs (suc k) ≡ Some c
at_next cs k c e =
    let later : nat_eq (suc k) 0 ≡ false = grind (arith, nat_tests) in
    let before : suc k - 1 ≡ k = omega arith in
    ap (λ (b : Bool). if b then None else slice_get cs (suc k - 1)) later ∙ ap (slice_get cs) before ∙ e

pub has_number : (n : Network) (p : Prefix) → In (originated n) p → HasNumber n p
unfolding classes_of
has_number n p at =
    let l = has_least n p at in
    let kept = in_filter (is_least n) (originated n) l.least l.inside l.is in
    let leasts = filter (is_least n) (originated n) in
    let g = in_get (map (class_of n) leasts) (class_of n l.least) (in_map (class_of n) leasts l.least kept) in
    record { least = l.least; alike = l.alike; number = suc g.0; at = at_next (classes_of n) g.0 (class_of n l.least) g.1 }

-- and each originated prefix that is treated alike
pub among : (n : Network) (p q : Prefix) → IsSameClass n p q → In (originated n) q → Contains (class_of n p).prefixes q
among n p q same at = contains_in (class_of n p).prefixes q (in_filter (is_same_class n p) (originated n) q at (is_one_class n p q same))
