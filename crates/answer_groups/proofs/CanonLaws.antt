-- Edges that act alike have one canonical act, and the problem with canonical acts fits its class.
use Rattle.std.proofs.Common.{◌≡◌, ◌⊎◌, inl, inr, ℕ, zero, suc, List, [], ◌∷◌, Option, Some, map, refl, sym, ap, ◌∙◌, subst}
use Rattle.std.specs.Prelude.{slice_index_or}
use Rattle.std.specs.List.{AllByRecursion}
use Rattle.std.specs.Option.{option_map}
use Rattle.base_kit.proofs.SetFacts.{ascending_with_numbers}
use Rattle.base_kit.specs.Sets.{IsAscending}
use Rattle.canon_policy.specs.Exists.{EachHasCanonical, HasCanonical, IsWithoutCanonical}
use Rattle.cfg_ast.specs.declared.network.Network.{Network}
use Rattle.cfg_ast.specs.meaning.PolicyFaults.{communities_of, community_of, mentions}
use Rattle.compress_laws.specs.Laws.{BuiltFits, FitsClass}
use Rattle.given_laws.specs.Laws.{GivenIsWellFormed}
use Rattle.answer_kit.proofs.OneClass.{some_prefix}
use Rattle.canon_policy.specs.Canonical.{canonical_lists_of}
use Rattle.canon_policy.specs.CanonicalProblem.{session_with, canonical_act}
use Rattle.canon_policy.specs.Laws.{AlikeActsAreWrittenAlike, EqualFunctionsHaveEqualLists}
use Rattle.canon_policy.specs.declared.lists.CanonEdge.{CanonEdge}
use Rattle.route_maps.specs.Maps.{import_of}
use Rattle.srp_core.specs.ActMaps.{IsActWithin, IsPrintableAct}
use Rattle.srp_core.specs.Acts.{ActsAlike, import_by}
use Rattle.srp_core.specs.Problem.{Problem, act_of}
use Rattle.srp_core.specs.declared.route.Act.{Act}
use Rattle.srp_core.specs.declared.route.Act.TheVariants.{Import, Cost}
use Rattle.answer_groups.specs.CanonLaws.{AlikeEdgesAcrossNetworks, AlikeEdgesHaveOneAct, CanonicalFits, IsCanonicalOf}
use Rattle.answer_groups.proofs.Canonizing.{fits_for}
use Rattle.answer_groups.proofs.NamedCommunities.{named_communities}
use Rattle.answer_groups.proofs.OneCanon.{not_both, one_canonical}

one_act : EqualFunctionsHaveEqualLists → (universe : List ℕ) (x y : Act) → ActsAlike x y → canonical_act universe x ≡ canonical_act universe y
unfolding canonical_act import_by
one_act law universe (Import out sends into) (Import out' sends' into') alike =
    ap (λ (lists : Option CanonEdge). option_map session_with lists)
    (law universe (import_of out sends into) (import_of out' sends' into') (record { same = alike.same }))
one_act law universe (Import out sends into) (Cost cost) alike = absurd alike
one_act law universe (Cost cost) (Import out sends into) alike = absurd alike
one_act law universe (Cost cost) (Cost other) alike = ap (λ (c : ℕ). Some (Cost c)) alike

some_one : (a b : Option Act) (x y : Act) → a ≡ b → a ≡ Some x → b ≡ Some y → x ≡ y
some_one a b x y same is also = cc

pub alike_edges : EqualFunctionsHaveEqualLists → AlikeEdgesHaveOneAct
alike_edges law universe P Q C D x y e f has also alike =
    some_one (canonical_act universe (act_of P e)) (canonical_act universe (act_of Q f)) (act_of C e) (act_of D f)
    (one_act law universe (act_of P e) (act_of Q f) alike) (x.used e has) (y.used f also)

-- ---- across networks

ascending : (n : Network) → IsAscending (communities_of n)
unfolding communities_of
ascending n = ascending_with_numbers (map community_of (mentions n)) [] tt

-- what holds of all acts of a table holds of each
act_at : (A : Act → Type 0) (acts : List Act) (k : ℕ) (d : Act) → AllByRecursion A acts → A d → A (slice_index_or acts k d)
act_at A [] k d all own = own
act_at A (x ∷ acts) zero d all own = all.0
act_at A (x ∷ acts) (suc k) d all own = act_at A acts k d all.1 own

pub alike_across : BuiltFits → AlikeActsAreWrittenAlike → AlikeEdgesAcrossNetworks
alike_across fits law n m class lower C D a b e f has also alike =
    let P = a.is.original in
    let Q = b.is.original in
    let x = fits n class P a.given a.faultless a.class_in a.is.built in
    let y = fits m lower Q b.given b.faultless b.class_in b.is.built in
    let one = law (communities_of n) (communities_of m) (act_of P e) (act_of Q f) (ascending n) (ascending m)
    (act_at IsPrintableAct P.acts e.act (Cost 0) x.printable tt) (act_at IsPrintableAct Q.acts f.act (Cost 0) y.printable tt)
    (act_at (IsActWithin (communities_of n)) P.acts e.act (Cost 0) x.within tt) (act_at (IsActWithin (communities_of m)) Q.acts f.act (Cost 0) y.within tt)
    alike in
    some_one (canonical_act (communities_of n) (act_of P e)) (canonical_act (communities_of m) (act_of Q f)) (act_of C e) (act_of D f) one
    (a.is.canonical.used e has) (b.is.canonical.used f also)

-- ---- the class

pub canonical_fits : GivenIsWellFormed → BuiltFits → EachHasCanonical → CanonicalFits
canonical_fits well fits each n class C x =
    let P = x.is.original in
    let universe = communities_of n in
    let of = fits n class P x.given x.faultless x.class_in x.is.built in
    let p = some_prefix n class x.class_in in
    by of (each universe (ascending n) (named_communities n (well n x.given)) P (x.is.built.of p.0 p.1).rules of.printable of.within)
  where
    by : FitsClass n class x.is.original → HasCanonical (communities_of n) x.is.original ⊎ IsWithoutCanonical (communities_of n) x.is.original
        → FitsClass n class C
    by of (inl h) =
        subst (FitsClass n class) (one_canonical (communities_of n) x.is.original h.canonical C x.is.built.order h.is x.is.canonical)
        (fits_for n class (communities_of n) x.is.original h.canonical x.is.built refl h.rules h.alike h.printable h.within)
    by of (inr w) = absurd (not_both (communities_of n) x.is.original w.place C w.first x.is.canonical)
