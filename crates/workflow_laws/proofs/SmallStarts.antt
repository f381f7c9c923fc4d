-- What `compress` or `canon` writes has a class with the prefixes of the class.
--
-- 1. No router of the network that is read back has a prefix list.
-- 2. To each prefix of the class some group has an initial route, and so has its router there.
-- 3. All prefixes of the class have one problem there, so equal initial routes: they are in one class.
-- 4. In BGP there is no other class.
use Rattle.std.proofs.Common.{◌≡◌, ℕ, zero, suc, ◌<◌, true, List, [], ◌∷◌, ◌++◌, map, length, inl, inr}
use Rattle.std.proofs.Common.{Option, Some, None, Ok, refl, sym, ap, ◌∙◌, subst, arith}
use Rattle.std.specs.Prelude.{Contains, filter_map, flat_map, is_some, slice_index_or}
use Rattle.std.specs.List.{range_with_len}
use Rattle.std.specs.Option.{option_map}
use Rattle.base_kit.specs.declared.protocol.Protocol.TheVariants.{Bgp}
use Rattle.base_kit.specs.Prefixes.{Prefix}
use Rattle.base_kit.proofs.Elements.{In, contains_in, filter_in, flat_map_in, in_contains, in_map, map_in}
use Rattle.cfg_ast.specs.declared.classes.DestClass.{DestClass}
use Rattle.cfg_ast.specs.declared.network.Network.{Network}
use Rattle.cfg_ast.specs.declared.network.Router.{Router}
use Rattle.cfg_ast.specs.declared.policy.PrefixList.{PrefixList}
use Rattle.cfg_ast.specs.meaning.Classes.{class_of, classes_of, initial_route, is_same_class, lists_on, originated, originated_by, up_subnet}
use Rattle.cfg_ast.specs.printing.Bare.{bare, bare_prefix_list, bare_router}
use Rattle.cfg_ast.specs.text.Reading.{reading_of}
use Rattle.cfg_round_trip.specs.Laws.{PrintedIsReadBack}
use Rattle.compress_laws.specs.Laws.{compressed_text, FittingPlanFits}
use Rattle.config_emit.specs.Emitted.{emitted, emitted_router, notes_of}
use Rattle.config_emit.specs.Laws.{EmittedCanBePrinted}
use Rattle.config_emit.specs.Plan.{Plan, small}
use Rattle.reading_laws.specs.WellRead.{WhatIsReadIsWell}
use Rattle.srp_core.specs.declared.route.Route.{Route}
use Rattle.srp_core.specs.Problem.{count, Problem}
use Rattle.srp_core.specs.ProblemOf.{route_from, start_route, IsProblemOf}
use Rattle.srp_core.specs.Quotient.{group_of, IsQuotient}
use Rattle.srp_quotient.specs.Groups.{quotient_problem}
use Rattle.srp_quotient.specs.Laws.{QuotientIsQuotient}
use Rattle.emit_form_laws.proofs.Origins.{class_is}
use Rattle.answer_kit.specs.ClassNumbers.{class_at}
use Rattle.answer_kit.proofs.OneClass.{some_prefix}
use Rattle.workflow_laws.specs.ClassKept.{ClassIsKept, HasClassOf}
use Rattle.workflow_laws.specs.Setting.{HasClass, HasPrefixesOf}
use Rattle.workflow_laws.specs.Written.{FittingTextHasProblemOfGroups}
use Rattle.workflow_laws.proofs.FewClasses.{short_of_class}
use Rattle.workflow_laws.proofs.Kept.{one_network}
use Rattle.workflow_laws.proofs.OneClass.{of_group, one_number, originates_class}
use Rattle.workflow_laws.proofs.SmallClass.{among, has_number, joined, originated_here, same_class, set_in}
use Rattle.workflow_laws.proofs.SomeClass.{has_class}
use Rattle.workflow_laws.proofs.Written.{few_lines, written_of, WrittenFits}

-- ---- 1. no prefix lists

no_list : (ls : List PrefixList) → map bare_prefix_list ls ≡ [] → ls ≡ []
no_list [] e = refl
no_list (l ∷ ls) e = absurd cc

heads : (x y : Router) (xs ys : List Router) → x ∷ xs ≡ y ∷ ys → (x ≡ y) × (xs ≡ ys)
heads x y xs ys e = (cc, cc)

no_lists : (e : Plan) (gs : List ℕ) (rs : List Router) → map bare_router rs ≡ map bare_router (map (emitted_router e) gs) → flat_map lists_on rs ≡ []
no_lists e [] [] same = refl
no_lists e [] (r ∷ rs) same = absurd cc
no_lists e (g ∷ gs) [] same = absurd cc
no_lists e (g ∷ gs) (r ∷ rs) same =
    let both = heads (bare_router r) (bare_router (emitted_router e g)) (map bare_router rs) (map bare_router (map (emitted_router e) gs)) same in
    let none = no_list r.prefix_lists (ap (λ (x : Router). x.prefix_lists) both.0) in
    ap (λ (ls : List PrefixList). ls ++ flat_map lists_on rs) none ∙ no_lists e gs rs both.1

none_listed : (e : Plan) (m : Network) → bare m ≡ bare (emitted e) → flat_map lists_on m.routers ≡ []
unfolding emitted
none_listed e m same = no_lists e (range_with_len 0 e.count) m.routers (ap (λ (n : Network). n.routers) same)

-- ---- 2. some group has an initial route

is_given : {X : Type 0} (o : Option X) → is_some o ≡ true → (x : X) × (o ≡ Some x)
is_given None e = absurd cc
is_given (Some x) e = (x, refl)

other_default : (xs : List (Option Route)) (k : ℕ) (s : Route) → k < length xs → slice_index_or xs k (Some s) ≡ Some s → slice_index_or xs k None ≡ Some s
other_default [] k s h e = absurd (omega arith)
other_default (x ∷ xs) zero s h e = e
other_default (x ∷ xs) (suc k) s h e = other_default xs k s (omega arith) e

start_in : (xs : List (Option Route)) (k : ℕ) (s : Route) → slice_index_or xs k None ≡ Some s → In xs (Some s)
start_in [] k s e = absurd cc
start_in (x ∷ xs) zero s e = inl e
start_in (x ∷ xs) (suc k) s e = inr (start_in xs k s e)

-- a router has an initial route to the prefix
record HasStart (n : Network) (p : Prefix) : Type 0 where
  router : Router
  inside : In n.routers router
  start : Route
  starts : start_route p router ≡ Some start

starts_in : (n : Network) (p : Prefix) → In (originated n) p → HasStart n p
unfolding originated
starts_in n p at =
    let r = flat_map_in originated_by n.routers p (set_in (flat_map originated_by n.routers) p at) in
    let kept = filter_in (λ (q : Prefix). is_some (initial_route r.0 q)) (filter_map up_subnet r.0.interfaces) p r.2 in
    let c = is_given (initial_route r.0 p) kept.1 in
    record { router = r.0; inside = r.1; start = route_from r.0 c.0; starts = ap (option_map (route_from r.0)) c.1 }

starts_below : (n m : Network) (p : Prefix) (P Q : Problem) (groups : List ℕ) → IsProblemOf n p P → IsProblemOf m p Q → IsQuotient P groups Q
    → HasStart n p → HasStart m p
starts_below n m p P Q groups of below quotient s =
    let IsAmong : List (Option Route) → Type 0 = λ os. In os (Some s.start) in
    let above : In (map (start_route p) n.routers) (Some s.start) =
    subst (In (map (start_route p) n.routers)) s.starts (in_map (start_route p) n.routers s.router s.inside) in
    let listed : In P.init (Some s.start) = subst IsAmong (sym of.init) above in
    let k = contains_in P.init (Some s.start) listed in
    let inside : k.0 < count P = subst (λ (c : ℕ). k.0 < c) of.rules.tables.init k.1 in
    let lower = quotient.origins k.0 inside ∙ other_default P.init k.0 s.start k.1 k.2 in
    let here = map_in (start_route p) m.routers (Some s.start) (subst IsAmong below.init (start_in Q.init (group_of groups k.0) s.start lower)) in
    record { router = here.0; inside = here.1; start = s.start; starts = here.2 }

-- ---- 3. one class

-- networks with one problem for all prefixes of a class, the one the quotient of the other
keeps : WhatIsReadIsWell → (n m : Network) (class : DestClass) (P Q : Problem) (groups text : List ℕ) → Contains (classes_of n) class
    → reading_of text ≡ Ok m → flat_map lists_on m.routers ≡ []
    → ((p : Prefix) → Contains class.prefixes p → IsProblemOf n p P) → ((p : Prefix) → Contains class.prefixes p → IsProblemOf m p Q)
    → IsQuotient P groups Q → HasClassOf class text
keeps well n m class P Q groups text has reads none of below quotient =
    let inside : (p : Prefix) → Contains class.prefixes p → In (originated m) p = λ p i. (
    let c = class_is n class has in
    let listed : In (class_of n c.least).prefixes p = subst (λ (k : DestClass). In k.prefixes p) (sym c.is) (in_contains class.prefixes p i) in
    let s = starts_below n m p P Q groups (of p i) (below p i) quotient (starts_in n p (filter_in (is_same_class n c.least) (originated n) p listed).0) in
    originated_here m p s.router s.start s.inside s.starts) in
    let first = some_prefix n class has in
    let k = has_number m first.0 (inside first.0 first.1) in
    let prefixes : HasPrefixesOf class (class_of m k.least) = λ p i. (
    let same = same_class m first.0 p none (sym (below first.0 first.1).init ∙ (below p i).init) in
    among m k.least p (joined m k.least first.0 p k.alike same) (inside p i)) in
    let named : HasClass text k.number = record { network = m; reads = reads; class = class_of m k.least; class_is = k.at } in
    record { number = k.number; short = short_of_class well text k.number named; of_text = named; prefixes = prefixes }

-- ---- 4. no other class

-- a router that originates the prefix
originator : (m : Network) (p : Prefix) → In (originated m) p → (r : Router) × In m.routers r × (is_some (initial_route r p) ≡ true)
unfolding originated
originator m p at =
    let r = flat_map_in originated_by m.routers p (set_in (flat_map originated_by m.routers) p at) in
    (r.0, r.1, (filter_in (λ (q : Prefix). is_some (initial_route r.0 q)) (filter_map up_subnet r.0.interfaces) p r.2).1)

only_one : (e : Plan) → e.problem.protocol ≡ Bgp → (m : Network) → bare m ≡ bare (emitted e) → flat_map lists_on m.routers ≡ []
    → (Q : Problem) → ((p : Prefix) → Contains e.class.prefixes p → IsProblemOf m p Q) → (k : ℕ) (c : DestClass) → class_at (classes_of m) k ≡ Some c → k ≡ 1
only_one e bgp m same none Q below k c at = one_number m (λ p q i j. same_class m p q none (sym (of p i).init ∙ (of q j).init)) k c at
  where
    of : (p : Prefix) → In (originated m) p → IsProblemOf m p Q
    of p i =
        let r = originator m p i in
        below p (contains_in e.class.prefixes p (originates_class e bgp r.0 (of_group e m r.0 same r.1) p r.2))

pub class_is_kept : WhatIsReadIsWell → WrittenFits → FittingTextHasProblemOfGroups → FittingPlanFits → EmittedCanBePrinted → PrintedIsReadBack →
    QuotientIsQuotient
    → ClassIsKept
class_is_kept well written has_problem fits printed back is_quotient contents F large bytes N short holds x =
    let w = written_of well written contents F N short large holds bytes x in
    let n = w.network in
    let read = well large n w.reads in
    let class = w.class in
    let has = has_class n N class w.class_is in
    let t = w.text in
    let e = t.plan in
    let h = has_problem n class e ∣ (large, read.given) ∣₁ read.faultless has t.is t.apart t.short in
    let plan = fits n class e ∣ (large, read.given) ∣₁ read.faultless has t.is t.apart in
    let can = printed e plan in
    let again = back (emitted e) (notes_of e) can.well_formed can.notes (few_lines (compressed_text e) t.short) can.short in
    let one : h.read ≡ again.read = one_network h.read again.read (sym (well (compressed_text e) h.read h.reads).given ∙ again.reads) in
    let none = none_listed e h.read (ap bare one ∙ again.same) in
    let first = some_prefix n class has in
    let quotient : IsQuotient e.problem e.groups (small e) =
    subst (IsQuotient e.problem e.groups) (sym (ap (quotient_problem e.problem e.groups e.count) t.is.links))
    (is_quotient e.problem e.groups e.count (t.is.built.of first.0 first.1).rules t.is.coarsest.admissible t.is.numbered) in
    let below : (p : Prefix) → Contains class.prefixes p → IsProblemOf h.read p (small e) =
    λ p i. h.problem p (subst (λ (c : DestClass). Contains c.prefixes p) (sym t.is.class_is) i) in
    let kept : HasClassOf class bytes = keeps well n h.read class e.problem (small e) e.groups bytes has (ap reading_of t.text ∙ h.reads) none t.is.built.of
    below quotient in
    let other : h.read ≡ kept.of_text.network = one_network h.read kept.of_text.network (sym (ap reading_of t.text ∙ h.reads) ∙ kept.of_text.reads) in
    record {
      of_large = record { network = n; reads = w.reads; class = class; class_is = w.class_is };
      of_small = kept;
      in_bgp = λ over. (
          let protocol : Some e.problem.protocol ≡ Some Bgp = sym (t.is.built.of first.0 first.1).protocol ∙ over in
          let bgp : e.problem.protocol ≡ Bgp = cc in
          subst (λ (m : Network). (k : ℕ) (c : DestClass) → class_at (classes_of m) k ≡ Some c → k ≡ 1) other
          (only_one e bgp h.read (ap bare one ∙ again.same) none (small e) (λ p i. h.problem p i)));
    }
