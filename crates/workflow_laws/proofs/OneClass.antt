-- In BGP the network of the groups has one class.
--
-- 1. What its routers originate are prefixes of the class that it was written for.
-- 2. These are in one class there (`SmallStarts.antt`).
-- 3. So there is one class, and its number is 1.
use Rattle.std.proofs.Common.{◌≡◌, ℕ, zero, suc, Bool, true, false, cond, ◌||◌, ◌&&◌, not, List, [], ◌∷◌, map, filter, filter_map, inl, inr, refl, sym, ap, ◌∙◌, subst, true≢false, Option, Some, None}
use Rattle.std.specs.Prelude.{find, is_some, nat_eq, slice_get}
use Rattle.std.specs.List.{list_any, range_with_len}
use Rattle.std.specs.Option.{option_map, option_map_or}
use Rattle.base_kit.proofs.Elements.{In, filter_in, filter_map_in, in_map, map_in}
use Rattle.base_kit.specs.declared.protocol.Protocol.TheVariants.{Bgp as OverBgp}
use Rattle.base_kit.specs.Prefixes.{Prefix, same_prefix}
use Rattle.cfg_ast.proofs.ClassFacts.{is_one_class, originated_ascends}
use Rattle.cfg_ast.proofs.PrefixSets.{ascending_filter_prefixes, one_prefix}
use Rattle.cfg_ast.specs.declared.bgp.BgpProcess.{BgpProcess}
use Rattle.cfg_ast.specs.declared.bgp.NetLine.{NetLine}
use Rattle.cfg_ast.specs.declared.classes.DestClass.{DestClass}
use Rattle.cfg_ast.specs.declared.interface.Interface.{Interface}
use Rattle.cfg_ast.specs.declared.network.Network.{Network}
use Rattle.cfg_ast.specs.declared.network.Router.{Router}
use Rattle.cfg_ast.specs.declared.ospf.OspfProcess.{OspfProcess}
use Rattle.cfg_ast.specs.meaning.Addresses.{Address}
use Rattle.cfg_ast.specs.meaning.Classes.{area_interface_in, class_of, classes_of, initial_route, is_announced, is_before, is_least, is_same_class, is_up_in, originated, route_by_process, AreAscending, IsSameClass}
use Rattle.cfg_ast.specs.meaning.Topology.{cost_of_interface, is_in_area_interface, process_has_address, up_address}
use Rattle.cfg_ast.specs.printing.Bare.{bare, bare_bgp, bare_net, bare_ospf, bare_router}
use Rattle.config_emit.specs.Emitted.{class_line_of, emitted, emitted_router, net_lines, ospf_of, process_of, written_bgp}
use Rattle.config_emit.specs.Plan.{Plan, first_router_of, small}
use Rattle.srp_core.specs.Problem.{number}
use Rattle.answer_kit.specs.ClassNumbers.{class_at}
use Rattle.workflow_laws.proofs.FewClasses.{at_before}
use Rattle.workflow_laws.proofs.SmallClass.{any_some}

-- ---- 1. what is originated

same_some : {X : Type 0} (x y : X) → Some x ≡ Some y → x ≡ y
same_some x y e = cc

-- each item of a list that is another one except for line numbers
from_bare : {X : Type 0} (f : X → X) (xs ys : List X) (x : X) → map f xs ≡ map f ys → In xs x → (y : X) × In ys y × (f y ≡ f x)
from_bare f xs ys x same at = map_in f ys (f x) (subst (λ zs. In zs (f x)) same (in_map f xs x at))

-- the router of a group, except for line numbers
pub record IsOfGroup (e : Plan) (r : Router) : Type 0 where
  pub group : ℕ
  pub same : bare_router r ≡ bare_router (emitted_router e group)

pub of_group : (e : Plan) (m : Network) (r : Router) → bare m ≡ bare (emitted e) → In m.routers r → IsOfGroup e r
unfolding emitted
of_group e m r same at =
    let x = from_bare bare_router m.routers (map (emitted_router e) (range_with_len 0 e.count)) r (ap (λ (n : Network). n.routers) same) at in
    let g = map_in (emitted_router e) (range_with_len 0 e.count) x.0 x.1 in
    record { group = g.0; same = sym x.2 ∙ ap bare_router (sym g.2) }

none_ospf : (o : Option OspfProcess) → option_map bare_ospf o ≡ None → o ≡ None
none_ospf None e = refl
none_ospf (Some x) e = cc

and_true : (a b : Bool) → (a && b) ≡ true → a ≡ true
and_true true b e = refl
and_true false b e = absurd (true≢false (sym e))

none_in_area : (r : Router) (x : Interface) → r.ospf ≡ None → is_in_area_interface r x ≡ false
none_in_area r x none = ap (λ (o : Option OspfProcess). option_map_or (process_has_address o) (up_address x) false) none ∙ by (up_address x)
  where
    by : (a : Option Address) → option_map_or (process_has_address None) a false ≡ false
    by None = refl
    by (Some a) = refl

none_found : (r : Router) (p : Prefix) (xs : List Interface) → r.ospf ≡ None → find (λ (x : Interface). is_in_area_interface r x && is_up_in p x) xs ≡ None
none_found r p [] none = refl
none_found r p (x ∷ xs) none = rw (none_in_area r x none) (none_found r p xs none)

module _ (e : Plan) (bgp : e.problem.protocol ≡ OverBgp) (r : Router) (of : IsOfGroup e r) (p : Prefix) where
  abbrev g : ℕ
  g = of.group

  -- a `network` line of the group has a prefix of the class
  of_lines : (o : Option Router) (line : NetLine) → In (option_map_or (λ (x : Router). filter_map (class_line_of x) e.class.prefixes) o []) line
      → In e.class.prefixes line.prefix
  of_lines None line at = absurd at
  of_lines (Some x) line at =
      let q = filter_map_in (class_line_of x) e.class.prefixes line at in
      subst (In e.class.prefixes) (by q.0 (is_some (initial_route x q.0)) q.2) q.1
    where
      by : (q : Prefix) (b : Bool) → cond b (Some (record { prefix = q; line = 0 })) None ≡ Some line → q ≡ line.prefix
      by q true e = ap (λ (l : NetLine). l.prefix) (same_some (record { prefix = q; line = 0 }) line e)
      by q false e = absurd cc

  of_process : (x : BgpProcess) (b : Bool) → Some (bare_bgp x) ≡ option_map bare_bgp (cond b None (Some (process_of e g))) → is_announced r x p ≡ true
      → In e.class.prefixes p
  of_process x true same is = absurd cc
  of_process x false same is =
      let lines : map bare_net x.networks ≡ map bare_net (net_lines e g) = ap (λ (b : BgpProcess). b.networks)
      (same_some (bare_bgp x) (bare_bgp (process_of e g)) same) in
      let l = any_some (λ (line : NetLine). same_prefix p line.prefix) x.networks (and_true _ _ is) in
      let m = from_bare bare_net x.networks (net_lines e g) l.0 lines l.1 in
      subst (In e.class.prefixes) (ap (λ (line : NetLine). line.prefix) m.2 ∙ sym (one_prefix p l.0.prefix l.2)) (of_lines (first_router_of e g) m.0 m.1)

  by_process : (o : Option BgpProcess) → r.bgp ≡ o → is_some (route_by_process r o p) ≡ true → In e.class.prefixes p
  by_process None is found =
      let no_process : r.ospf ≡ None = none_ospf r.ospf (ap (λ (y : Router). y.ospf) of.same ∙ ap (λ q. option_map bare_ospf (ospf_of q e g)) bgp) in
      let none : area_interface_in r p ≡ None = none_found r p r.interfaces no_process in
      absurd (true≢false (sym found ∙ ap (λ (o : Option Interface). is_some (option_map cost_of_interface o)) none))
  by_process (Some x) is found =
      of_process x (nat_eq (number (small e) g) 0)
      (sym (ap (option_map bare_bgp) is) ∙ ap (λ (y : Router). y.bgp) of.same ∙ ap (λ q. option_map bare_bgp (written_bgp q e g)) bgp)
      (by (is_announced r x p) found)
    where
      by : (b : Bool) → is_some (let o : Option (Option ℕ) = cond b (Some None) None in o) ≡ true → b ≡ true
      by true found = refl
      by false found = absurd (true≢false (sym found))

  pub originates_class : is_some (initial_route r p) ≡ true → In e.class.prefixes p
  originates_class found = by_process r.bgp refl found

-- ---- 3. one class

module _ (m : Network) (all : (p q : Prefix) → In (originated m) p → In (originated m) q → IsSameClass m p q) where
  abbrev leasts : List Prefix
  leasts = filter (is_least m) (originated m)

  lesser_first : (p q : Prefix) → In (originated m) p → In (originated m) q → is_least m q ≡ true → is_before p q ≡ true → ⊥
  lesser_first p q at other least before =
      let here = both (is_before p q) (is_same_class m p q) before (is_one_class m p q (all p q at other)) in
      let found = in_any (λ (x : Prefix). is_before x q && is_same_class m x q) (originated m) p at here in
      true≢false (sym least ∙ ap not found)
    where
      both : (a b : Bool) → a ≡ true → b ≡ true → (a && b) ≡ true
      both a b e f = rw (e, f) refl

      or_second : (a b : Bool) → b ≡ true → (a || b) ≡ true
      or_second true b e = refl
      or_second false b e = e

      in_any : (test : Prefix → Bool) (xs : List Prefix) (x : Prefix) → In xs x → test x ≡ true → list_any test xs ≡ true
      in_any test [] x at is = absurd at
      in_any test (y ∷ ys) x (inl same) is = (let here : test y ≡ true = ap test same ∙ is in rw here refl)
      in_any test (y ∷ ys) x (inr at) is = or_second (test y) (list_any test ys) (in_any test ys x at is)

  alone : (ps : List Prefix) → leasts ≡ ps → AreAscending ps → (q : Prefix) (more : List Prefix) → ps ≡ q ∷ more → more ≡ []
  alone ps is up q [] same = refl
  alone ps is up q (x ∷ more) same =
      let first : In leasts q = subst (λ (qs : List Prefix). In qs q) (sym (is ∙ same)) (inl refl) in
      let second : In leasts x = subst (λ (qs : List Prefix). In qs x) (sym (is ∙ same)) (inr (inl refl)) in
      let a = filter_in (is_least m) (originated m) q first in
      let b = filter_in (is_least m) (originated m) x second in
      let before = (subst AreAscending same up).0.0 in
      absurd (lesser_first q x a.0 b.0 b.1 before)

  at_place : (ps : List Prefix) → leasts ≡ ps → (k : ℕ) (c : DestClass) → slice_get (map (class_of m) ps) k ≡ Some c → suc k ≡ 1
  at_place [] is k c e = cc
  at_place (q ∷ more) is zero c e = refl
  at_place (q ∷ more) is (suc k) c e =
      let none = alone (q ∷ more) is (subst AreAscending is (ascending_filter_prefixes (is_least m) (originated m) (originated_ascends m))) q more refl in
      let later : slice_get (map (class_of m) []) k ≡ Some c = ap (λ (ps : List Prefix). slice_get (map (class_of m) ps) k) (sym none) ∙ e in
      absurd cc

  by_number : (k : ℕ) (c : DestClass) → class_at (map (class_of m) leasts) k ≡ Some c → k ≡ 1
  by_number zero c e = cc
  by_number (suc k) c e = at_place leasts refl k c (at_before (map (class_of m) leasts) k c e)

  pub one_number : (k : ℕ) (c : DestClass) → class_at (classes_of m) k ≡ Some c → k ≡ 1
  unfolding classes_of
  one_number k c e = by_number k c e
