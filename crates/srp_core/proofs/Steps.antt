-- What a step makes of a route.
use Rattle.std.proofs.Common.{◌≡◌, ◌⊎◌, ℕ, zero, suc, ◌+◌, ◌<◌, Bool, true, false, cond, List, [], length, Option, Some, None, refl, sym, ap, ◌∙◌, subst, inl, inr, arith}
use Rattle.std.specs.Prelude.{nat_eq, nat_lt, option_map}
use Rattle.base_kit.specs.Sets.{IsAscending, with_number}
use Rattle.std.proofs.lemmas.Bool.{or_cases, eqb-true}
use Rattle.base_kit.specs.declared.protocol.Protocol.{Protocol}
use Rattle.base_kit.specs.declared.protocol.Protocol.TheVariants.{Bgp as OverBgp, Ospf as OverOspf}
use Rattle.srp_core.specs.declared.route.Route.{Route}
use Rattle.srp_core.specs.declared.route.Route.TheVariants.{Bgp, Ospf}
use Rattle.srp_core.specs.declared.route.Act.{Act}
use Rattle.srp_core.specs.declared.route.Act.TheVariants.{Import, Cost}
use Rattle.srp_core.specs.Routes.{preference_of, size_of, path_of, comms_of, IsRouteOf, is_on, chosen, Key, key_by}
use Rattle.srp_core.specs.Acts.{KeepsSets, IsActOf, import_by, ActsAlike, prepended, arrived, step_by}
use Rattle.route_maps.specs.declared.plain.Imported.{Imported}
use Rattle.route_maps.specs.declared.plain.Plain.{Plain}
use Rattle.srp_core.proofs.Imports.{import_sets}

-- what an import of a route gives
pub record Arrives (act : Act) (number : ℕ) (path comms : List ℕ) (route : Route) : Type 0 where
  pub imported : Imported
  pub accepted : import_by act comms ≡ Some imported
  pub is : route ≡ arrived number path imported

mapped : (o : Option Imported) (number : ℕ) (path : List ℕ) (c : Route) → option_map (arrived number path) o ≡ Some c → (i : Imported) × (o ≡ Some i)
    × (c ≡ arrived number path i)
mapped None number path c e = absurd (cc)
mapped (Some i) number path c e = (i, refl, cc)

pub arrives : (out : Plain) (sends : Bool) (into : Plain) (number lp' : ℕ) (path comms : List ℕ) (c : Route) →
    step_by (Import out sends into) number (Bgp lp' path comms) ≡ Some c → Arrives (Import out sends into) number path comms c
unfolding step_by
arrives out sends into number lp' path comms c e =
    let m = mapped (import_by (Import out sends into) comms) number path c e in
    record { imported = m.0; accepted = m.1; is = m.2 }

pub arrive : (out : Plain) (sends : Bool) (into : Plain) (number lp' : ℕ) (path comms : List ℕ) (i : Imported) →
    import_by (Import out sends into) comms ≡ Some i → step_by (Import out sends into) number (Bgp lp' path comms) ≡ Some (arrived number path i)
unfolding step_by
arrive out sends into number lp' path comms i e = ap (option_map (arrived number path)) e

summed : (b : Bool) (n : ℕ) (c : Route) → cond b None (Some (Ospf n)) ≡ Some c → (b ≡ false) × (c ≡ Ospf n)
summed true n c e = absurd (cc)
summed false n c e = (refl, cc)

pub costs : (cost number other : ℕ) (c : Route) → step_by (Cost cost) number (Ospf other) ≡ Some c → (nat_lt 4294967295 (cost + other) ≡ false)
    × (c ≡ Ospf (cost + other))
unfolding step_by
costs cost number other c e = summed _ (cost + other) c e

pub costed : (cost number other : ℕ) → nat_lt 4294967295 (cost + other) ≡ false → step_by (Cost cost) number (Ospf other) ≡ Some (Ospf (cost + other))
unfolding step_by
costed cost number other e = ap (λ b. cond b None (Some (Ospf (cost + other)))) e

no_import_ospf : (out : Plain) (sends : Bool) (into : Plain) (number cost : ℕ) (c : Route) → step_by (Import out sends into) number (Ospf cost) ≡ Some c → ⊥
unfolding step_by
no_import_ospf out sends into number cost c e = cc

no_cost_bgp : (cost number lp : ℕ) (path comms : List ℕ) (c : Route) → step_by (Cost cost) number (Bgp lp path comms) ≡ Some c → ⊥
unfolding step_by
no_cost_bgp cost number lp path comms c e = cc

length-prepended : (times number : ℕ) (path : List ℕ) → length (prepended times number path) ≡ times + length path
length-prepended zero number path = omega arith
length-prepended (suc times) number path = let e = length-prepended times number path in omega (arith, e)

is_on-prepended : (a times number : ℕ) (path : List ℕ) → is_on a (prepended times number path) ≡ true → (a ≡ number) ⊎ (is_on a path ≡ true)
is_on-prepended a zero number path e = inr e
is_on-prepended a (suc times) number path e =
    elim (or_cases (nat_eq number a) (is_on a (prepended times number path)) e)
    [ inl h ↦ inl (sym (eqb-true number a h)) | inr h ↦ is_on-prepended a times number path h ]

chosen-prepended : (test : ℕ → Bool) (a b times : ℕ) (p q : List ℕ) → ((test a ≡ false) × (test b ≡ false)) ⊎ (a ≡ b) → chosen test p ≡ chosen test q →
    chosen test (prepended times a p) ≡ chosen test (prepended times b q)
unfolding chosen
chosen-prepended test a b zero p q h e = e
chosen-prepended test a b (suc times) p q (inl h) e =
    let r = chosen-prepended test a b times p q (inl h) e in
    ap (λ t. cond t (with_number a (chosen test (prepended times a p))) (chosen test (prepended times a p))) h.0 ∙ r
    ∙ sym (ap (λ t. cond t (with_number b (chosen test (prepended times b q))) (chosen test (prepended times b q))) h.1)
chosen-prepended test a b (suc times) p q (inr h) e =
    let r = chosen-prepended test a b times p q (inr h) e in
    ap (λ l. cond (test a) (with_number a l) l) r
    ∙ ap (λ n. cond (test n) (with_number n (chosen test (prepended times b q))) (chosen test (prepended times b q))) h

-- the step makes the size grow
pub step_grows : (protocol : Protocol) (act : Act) (number : ℕ) (r c : Route) → IsActOf protocol act → step_by act number r ≡ Some c → size_of r < size_of c
step_grows protocol (Import out sends into) number (Bgp lp' path comms) c good e =
    let a = arrives out sends into number lp' path comms c e in
    let l = length-prepended (suc a.imported.adds) number path in
    let s : size_of c ≡ length (prepended (suc a.imported.adds) number path) = ap size_of a.is in
    omega (arith, l, s)
step_grows protocol (Import out sends into) number (Ospf cost) c good e = absurd (no_import_ospf _ _ _ _ _ _ e)
step_grows protocol (Cost cost) number (Bgp lp path comms) c good e = absurd (no_cost_bgp _ _ _ _ _ _ e)
step_grows OverBgp (Cost cost) number (Ospf other) c good e = absurd good
step_grows OverOspf (Cost cost) number (Ospf other) c good e =
    let s : size_of c ≡ cost + other = ap size_of (costs cost number other c e).1 in omega (arith, s, good)

-- a number on the new path is the exporter's, in BGP, or was on the path
pub step_path : (protocol : Protocol) (act : Act) (number a : ℕ) (r c : Route) → IsActOf protocol act → step_by act number r ≡ Some c →
    is_on a (path_of c) ≡ true → (protocol ≡ OverBgp) × ((a ≡ number) ⊎ (is_on a (path_of r) ≡ true))
step_path OverBgp (Import out sends into) number a (Bgp lp' path comms) c good e h =
    let s = arrives out sends into number lp' path comms c e in
    (refl, is_on-prepended a (suc s.imported.adds) number path (subst (λ x. is_on a (path_of x) ≡ true) s.is h))
step_path OverOspf (Import out sends into) number a (Bgp lp' path comms) c good e h = absurd good
step_path protocol (Import out sends into) number a (Ospf cost) c good e h = absurd (no_import_ospf _ _ _ _ _ _ e)
step_path protocol (Cost cost) number a (Bgp lp path comms) c good e h = absurd (no_cost_bgp _ _ _ _ _ _ e)
step_path protocol (Cost cost) number a (Ospf other) c good e h =
    let no : false ≡ true = subst (λ x. is_on a (path_of x) ≡ true) (costs cost number other c e).1 h in absurd (cc)

-- the new route is of the protocol
pub step_route : (protocol : Protocol) (act : Act) (number : ℕ) (r c : Route) → KeepsSets act → IsRouteOf protocol r → step_by act number r ≡ Some c →
    IsRouteOf protocol c
step_route OverBgp (Import out sends into) number (Bgp lp' path comms) c keeps fits e =
    let s = arrives out sends into number lp' path comms c e in
    subst (IsRouteOf OverBgp) (sym s.is) (import_sets (Import out sends into) comms s.imported keeps fits s.accepted)
step_route OverOspf (Import out sends into) number (Bgp lp' path comms) c keeps fits e = absurd fits
step_route protocol (Import out sends into) number (Ospf cost) c keeps fits e = absurd (no_import_ospf _ _ _ _ _ _ e)
step_route protocol (Cost cost) number (Bgp lp path comms) c keeps fits e = absurd (no_cost_bgp _ _ _ _ _ _ e)
step_route OverBgp (Cost cost) number (Ospf other) c keeps fits e = absurd fits
step_route OverOspf (Cost cost) number (Ospf other) c keeps fits e = subst (IsRouteOf OverOspf) (sym (costs cost number other c e).1) tt

-- a step like this one from the same route has a route of this preference
pub step_alike : (protocol : Protocol) (act act' : Act) (number number' : ℕ) (r c : Route) → IsRouteOf protocol r → ActsAlike act act' →
    step_by act number r ≡ Some c → (c' : Route) × (step_by act' number' r ≡ Some c') × (preference_of c' ≡ preference_of c)
step_alike OverBgp (Import out sends into) (Import out' sends' into') number number' (Bgp lp' path comms) c fits alike e =
    let s = arrives out sends into number lp' path comms c e in
    let same = sym (alike.same comms fits) ∙ s.accepted in
    (arrived number' path s.imported, arrive out' sends' into' number' lp' path comms s.imported same, sym (ap preference_of s.is))
step_alike OverOspf (Import out sends into) act' number number' (Bgp lp' path comms) c fits alike e = absurd fits
step_alike protocol (Import out sends into) act' number number' (Ospf cost) c fits alike e = absurd (no_import_ospf _ _ _ _ _ _ e)
step_alike protocol (Cost cost) act' number number' (Bgp lp path comms) c fits alike e = absurd (no_cost_bgp _ _ _ _ _ _ e)
step_alike OverBgp (Import out sends into) (Cost cost) number number' (Bgp lp' path comms) c fits alike e = absurd alike
step_alike protocol (Cost cost) (Import out sends into) number number' (Ospf other) c fits alike e = absurd alike
step_alike protocol (Cost cost) (Cost cost') number number' (Ospf other) c fits alike e =
    let s = costs cost number other c e in
    let f = subst (λ n. nat_lt 4294967295 (n + other) ≡ false) alike s.0 in
    (Ospf (cost' + other), costed cost' number' other f, sym (ap preference_of s.1))

-- same step, same key
pub step_same : (protocol : Protocol) (test : ℕ → Bool) (act act' : Act) (number number' : ℕ) (r r' c : Route) → IsRouteOf protocol r → IsRouteOf protocol r' →
    ActsAlike act act' → ((test number ≡ false) × (test number' ≡ false)) ⊎ (number ≡ number') → key_by test r ≡ key_by test r' →
    step_by act number r ≡ Some c → (c' : Route) × (step_by act' number' r' ≡ Some c') × (key_by test c ≡ key_by test c')
step_same OverBgp test (Import out sends into) (Import out' sends' into') number number' (Bgp lpr path comms) (Bgp lpr' path' comms') c fits fits' alike numbers
    k e =
    let s = arrives out sends into number lpr path comms c e in
    let same_comms : comms ≡ comms' = ap (λ (x : Key). x.comms) k in
    let same_size : length path ≡ length path' = ap (λ (x : Key). x.size) k in
    let same_lone : chosen test path ≡ chosen test path' = ap (λ (x : Key). x.lone) k in
    let there : import_by (Import out' sends' into') comms' ≡ Some s.imported =
    subst (λ x. import_by (Import out' sends' into') x ≡ Some s.imported) same_comms (sym (alike.same comms fits) ∙ s.accepted) in
    let i = s.imported in
    let sizes : length (prepended (suc i.adds) number path) ≡ length (prepended (suc i.adds) number' path') =
    omega (arith, length-prepended (suc i.adds) number path, length-prepended (suc i.adds) number' path', same_size) in
    let lones : chosen test (prepended (suc i.adds) number path) ≡ chosen test (prepended (suc i.adds) number' path') =
    chosen-prepended test number number' (suc i.adds) path path' numbers same_lone in
    let keys : key_by test (arrived number path i) ≡ key_by test (arrived number' path' i) = cc in
    (arrived number' path' i, arrive out' sends' into' number' lpr' path' comms' i there, ap (key_by test) s.is ∙ keys)
step_same OverBgp test act act' number number' (Bgp lpr path comms) (Ospf cost') c fits fits' alike numbers k e = absurd fits'
step_same OverBgp test act act' number number' (Ospf cost) r' c fits fits' alike numbers k e = absurd fits
step_same OverOspf test act act' number number' (Bgp lpr path comms) r' c fits fits' alike numbers k e = absurd fits
step_same OverOspf test act act' number number' (Ospf cost) (Bgp lpr path comms) c fits fits' alike numbers k e = absurd fits'
step_same OverBgp test (Import out sends into) (Cost cost) number number' (Bgp lpr path comms) (Bgp lpr' path' comms') c fits fits' alike numbers k e =
    absurd alike
step_same OverBgp test (Cost cost) act' number number' (Bgp lpr path comms) (Bgp lpr' path' comms') c fits fits' alike numbers k e =
    absurd (no_cost_bgp _ _ _ _ _ _ e)
step_same OverOspf test (Import out sends into) act' number number' (Ospf cost) (Ospf cost') c fits fits' alike numbers k e =
    absurd (no_import_ospf _ _ _ _ _ _ e)
step_same OverOspf test (Cost cost) (Import out sends into) number number' (Ospf other) (Ospf other') c fits fits' alike numbers k e = absurd alike
step_same OverOspf test (Cost cost) (Cost cost') number number' (Ospf other) (Ospf other') c fits fits' alike numbers k e =
    let s = costs cost number other c e in
    let same_size : other ≡ other' = ap (λ (x : Key). x.size) k in
    let sums : cost + other ≡ cost' + other' = cc in
    let f = subst (λ n. nat_lt 4294967295 n ≡ false) sums s.0 in
    (Ospf (cost' + other'), costed cost' number' other' f, ap (key_by test) s.1 ∙ ap (λ n. key_by test (Ospf n)) sums)

-- what a step in BGP depends on
pub step_accepts : (act : Act) (number : ℕ) (r c : Route) → IsRouteOf OverBgp r → step_by act number r ≡ Some c →
    (i : Imported) × (import_by act (comms_of r) ≡ Some i) × (i.lp ≡ preference_of c) × IsAscending (comms_of r)
step_accepts (Import out sends into) number (Bgp lp' path comms) c fits e =
    let s = arrives out sends into number lp' path comms c e in
    (s.imported, s.accepted, sym (ap preference_of s.is), fits)
step_accepts act number (Ospf cost) c fits e = absurd fits
step_accepts (Cost cost) number (Bgp lp path comms) c fits e = absurd (no_cost_bgp _ _ _ _ _ _ e)

pub ospf_zero : (r : Route) → IsRouteOf OverOspf r → preference_of r ≡ 0
ospf_zero (Bgp lp path comms) fits = absurd fits
ospf_zero (Ospf cost) fits = refl

pub no_import_cost : (act : Act) (comms : List ℕ) (i : Imported) → IsActOf OverOspf act → import_by act comms ≡ Some i → ⊥
unfolding import_by
no_import_cost (Import out sends into) comms i good e = good
no_import_cost (Cost cost) comms i good e = cc

-- the path after a step
pub step_repeats : (protocol : Protocol) (act : Act) (number : ℕ) (r c : Route) → IsActOf protocol act → step_by act number r ≡ Some c →
    (path_of c ≡ []) ⊎ ((k : ℕ) × (protocol ≡ OverBgp) × (path_of c ≡ prepended k number (path_of r)))
step_repeats OverBgp (Import out sends into) number (Bgp lp' path comms) c good e =
    let s = arrives out sends into number lp' path comms c e in inr (suc s.imported.adds, refl, ap path_of s.is)
step_repeats OverOspf (Import out sends into) number (Bgp lp' path comms) c good e = absurd good
step_repeats protocol (Import out sends into) number (Ospf cost) c good e = absurd (no_import_ospf _ _ _ _ _ _ e)
step_repeats protocol (Cost cost) number (Bgp lp path comms) c good e = absurd (no_cost_bgp _ _ _ _ _ _ e)
step_repeats protocol (Cost cost) number (Ospf other) c good e = inl (ap path_of (costs cost number other c e).1)

cost_imports : (x : ℕ) (comms : List ℕ) (i : Imported) → import_by (Cost x) comms ≡ Some i → ⊥
unfolding import_by
cost_imports x comms i e = cc

pub alike_accepts : (x y : Act) (comms : List ℕ) (i : Imported) → ActsAlike x y → IsAscending comms → import_by x comms ≡ Some i → import_by y comms ≡ Some i
alike_accepts (Import a b c) (Import a' b' c') comms i h s e = sym (h.same comms s) ∙ e
alike_accepts (Cost x) (Cost y) comms i h s e = absurd (cost_imports x comms i e)
alike_accepts (Import a b c) (Cost d) comms i h s e = absurd h
alike_accepts (Cost d) (Import a b c) comms i h s e = absurd h

-- a step in BGP puts the exporter's number before the path
pub step_bgp : (act : Act) (number : ℕ) (r c : Route) → IsActOf OverBgp act → step_by act number r ≡ Some c →
    (k : ℕ) × (path_of c ≡ prepended (suc k) number (path_of r))
step_bgp (Import out sends into) number (Bgp lp' path comms) c good e =
    let s = arrives out sends into number lp' path comms c e in (s.imported.adds, ap path_of s.is)
step_bgp (Import out sends into) number (Ospf cost) c good e = absurd (no_import_ospf _ _ _ _ _ _ e)
step_bgp (Cost cost) number r c good e = absurd good

pub length_repeated : (times number : ℕ) (path : List ℕ) → length (prepended times number path) ≡ times + length path
length_repeated times number path = length-prepended times number path

pub bgp_size : (r : Route) → IsRouteOf OverBgp r → size_of r ≡ length (path_of r)
bgp_size (Bgp lp path comms) fits = refl
bgp_size (Ospf cost) fits = absurd fits

pub ospf_same : (r s : Route) → IsRouteOf OverOspf r → IsRouteOf OverOspf s → size_of r ≡ size_of s → r ≡ s
ospf_same (Ospf a) (Ospf b) f g e = ap Ospf e
ospf_same (Bgp a b c) s f g e = absurd f
ospf_same (Ospf a) (Bgp b c d) f g e = absurd g

pub alike_self : (x : Act) → ActsAlike x x
alike_self (Import a b c) = record { same = λ s i. refl }
alike_self (Cost x) = refl

pub bgp_parts : (r s : Route) → IsRouteOf OverBgp r → IsRouteOf OverBgp s → preference_of r ≡ preference_of s → path_of r ≡ path_of s →
    comms_of r ≡ comms_of s → r ≡ s
bgp_parts (Bgp a b c) (Bgp a' b' c') f g p q o = λ i. Bgp (p i) (q i) (o i)
bgp_parts (Ospf a) s f g p q o = absurd f
bgp_parts (Bgp a b c) (Ospf d) f g p q o = absurd g
