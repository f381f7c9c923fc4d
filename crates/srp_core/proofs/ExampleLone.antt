-- An example in which all definitions hold together and the loop check of a lone router drops a route:
-- router 0 originates, router 1 learns from it over two parallel links, and prefers what comes from
-- router 2. Routers 2 and 3 are one group with an edge inside; they learn from router 1, which puts its
-- number twice before paths.
use Rattle.std.proofs.Common.{◌≡◌, ◌≢◌, ℕ, zero, suc, ◌+◌, ◌<◌, true, false, cond, All, List, [], ◌∷◌, Option, Some, None, refl, sym, ap, ◌∙◌, subst, inl, inr, arith}
use Rattle.std.specs.Prelude.{Contains, nat_eq, slice_index_or}
use Rattle.base_kit.specs.declared.act_graph.Edge.{Edge}
use Rattle.base_kit.specs.declared.protocol.Protocol.TheVariants.{Bgp as OverBgp}
use Rattle.route_maps.specs.declared.plain.Imported.{Imported}
use Rattle.route_maps.specs.declared.plain.Plain.{Plain}
use Rattle.route_maps.specs.declared.plain.PlainEntry.{PlainEntry}
use Rattle.srp_core.specs.declared.route.Act.{Act}
use Rattle.srp_core.specs.declared.route.Act.TheVariants.{Import, Cost}
use Rattle.srp_core.specs.declared.route.Route.{Route}
use Rattle.srp_core.specs.declared.route.Route.TheVariants.{Bgp}
use Rattle.srp_core.specs.Routes.{IsRouteOf, path_of, comms_of}
use Rattle.srp_core.specs.Acts.{import_by, ActsAlike, IsActOf, KeepsSets, MapsToSets}
use Rattle.srp_core.specs.Problem.{Problem, number, initial, is_lone, act_of, Precedes, AreOrdered, IsProblem, IsEdgeOf, Accepts, IsLone}

abbrev pub map_with : Option ℕ → ℕ → Plain
map_with lp adds = record { entries = record { seq = 10; permit = true; lists = None; lp = lp; change = None; delete = None; adds = adds; exact = false } ∷ [] }

-- an act that gives that preference, and puts the exporter's number so many times more
abbrev pub act_with : Option ℕ → ℕ → Act
act_with lp adds = Import (map_with None adds) true (map_with lp 0)

abbrev pub plain : Act
plain = act_with None 0

abbrev pub prefers : Act
prefers = act_with (Some 200) 0

abbrev pub lengthens : Act
lengthens = act_with None 1

abbrev pub edge_of : ℕ → ℕ → ℕ → ℕ → Edge
edge_of importer exporter act link = record { importer = importer; exporter = exporter; act = act; link = link }

abbrev pub first : Edge
first = edge_of 1 0 0 0

abbrev pub parallel : Edge
parallel = edge_of 1 0 0 1

abbrev pub preferred : Edge
preferred = edge_of 1 2 1 2

abbrev pub onward : Edge
onward = edge_of 2 1 2 2

abbrev pub inner : Edge
inner = edge_of 2 3 0 4

abbrev pub outward : Edge
outward = edge_of 3 1 2 3

abbrev pub origin : Route
origin = Bgp 100 [] []

abbrev pub learned : Route
learned = Bgp 100 (1 ∷ []) []

abbrev pub farther : Route
farther = Bgp 100 (2 ∷ 2 ∷ 1 ∷ []) []

abbrev pub around : Route
around = Bgp 100 (4 ∷ 2 ∷ 2 ∷ 1 ∷ []) []

abbrev pub looped : Route
looped = Bgp 200 (3 ∷ 2 ∷ 2 ∷ 1 ∷ []) []

abbrev pub S : Problem
S = record {
  protocol = OverBgp;
  names = (97 ∷ []) ∷ (98 ∷ []) ∷ (99 ∷ []) ∷ (100 ∷ []) ∷ [];
  numbers = 1 ∷ 2 ∷ 3 ∷ 4 ∷ [];
  init = Some origin ∷ None ∷ None ∷ None ∷ [];
  lone = false ∷ true ∷ false ∷ false ∷ [];
  acts = plain ∷ prefers ∷ lengthens ∷ [];
  edges = first ∷ parallel ∷ preferred ∷ onward ∷ inner ∷ outward ∷ [];
}

abbrev pub L : List (Option Route)
L = Some origin ∷ Some learned ∷ Some farther ∷ Some farther ∷ []

abbrev pub groups : List ℕ
groups = 0 ∷ 1 ∷ 2 ∷ 2 ∷ []

abbrev pub Q : Problem
Q = record {
  protocol = OverBgp;
  names = (97 ∷ []) ∷ (98 ∷ []) ∷ (99 ∷ []) ∷ [];
  numbers = 1 ∷ 2 ∷ 3 ∷ [];
  init = Some origin ∷ None ∷ None ∷ [];
  lone = false ∷ true ∷ false ∷ [];
  acts = plain ∷ prefers ∷ lengthens ∷ [];
  edges = edge_of 1 0 0 0 ∷ edge_of 1 2 1 1 ∷ edge_of 2 1 2 1 ∷ [];
}

-- what holds of all six edges holds of each
pub each_edge : (P : Edge → Type 0) → P first → P parallel → P preferred → P onward → P inner → P outward → (e : Edge) → Contains S.edges e → P e
each_edge P a b c d f g e (zero, l, h) = subst P h a
each_edge P a b c d f g e (suc zero, l, h) = subst P h b
each_edge P a b c d f g e (suc (suc zero), l, h) = subst P h c
each_edge P a b c d f g e (suc (suc (suc zero)), l, h) = subst P h d
each_edge P a b c d f g e (suc (suc (suc (suc zero))), l, h) = subst P h f
each_edge P a b c d f g e (suc (suc (suc (suc (suc zero)))), l, h) = subst P h g
each_edge P a b c d f g e (suc (suc (suc (suc (suc (suc n))))), l, h) = absurd (omega arith)

pub each_lower : (P : Edge → Type 0) → P (edge_of 1 0 0 0) → P (edge_of 1 2 1 1) → P (edge_of 2 1 2 1) → (e : Edge) → Contains Q.edges e → P e
each_lower P a b c e (zero, l, h) = subst P h a
each_lower P a b c e (suc zero, l, h) = subst P h b
each_lower P a b c e (suc (suc zero), l, h) = subst P h c
each_lower P a b c e (suc (suc (suc n)), l, h) = absurd (omega arith)

pub each_router : (P : ℕ → Type 0) → P 0 → P 1 → P 2 → P 3 → (u : ℕ) → u < 4 → P u
each_router P a b c d zero h = a
each_router P a b c d (suc zero) h = b
each_router P a b c d (suc (suc zero)) h = c
each_router P a b c d (suc (suc (suc zero))) h = d
each_router P a b c d (suc (suc (suc (suc u)))) h = absurd (omega arith)

pub each_group : (P : ℕ → Type 0) → P 0 → P 1 → P 2 → (u : ℕ) → u < 3 → P u
each_group P a b c zero h = a
each_group P a b c (suc zero) h = b
each_group P a b c (suc (suc zero)) h = c
each_group P a b c (suc (suc (suc u))) h = absurd (omega arith)

pub all_none : {X : Type 0} (P : X → Type 0) → All P []
all_none P k d h = absurd (omega arith)

pub all_with : {X : Type 0} (P : X → Type 0) (x : X) (xs : List X) → P x → All P xs → All P (x ∷ xs)
all_with P x xs here rest zero d h = here
all_with P x xs here rest (suc k) d h = rest k d (omega arith)

-- the imports of the three acts
abbrev given : ℕ → List ℕ → Imported
given zero comms = record { lp = 100; comms = comms; adds = 0 }
given (suc zero) comms = record { lp = 200; comms = comms; adds = 0 }
given (suc (suc k)) comms = record { lp = 100; comms = comms; adds = 1 }

imports_are : (k : ℕ) → k < 3 → (comms : List ℕ) → import_by (slice_index_or S.acts k (Cost 0)) comms ≡ Some (given k comms)
unfolding import_by
imports_are zero h comms = refl
imports_are (suc zero) h comms = refl
imports_are (suc (suc zero)) h comms = refl
imports_are (suc (suc (suc k))) h comms = absurd (omega arith)

act_index : (i j : ℕ) → i < 3 → j < 3 → (given i []).lp ≡ (given j []).lp → (given i []).adds ≡ (given j []).adds → i ≡ j
act_index zero zero h g a b = refl
act_index zero (suc zero) h g a b = absurd (omega arith)
act_index zero (suc (suc j)) h g a b = absurd (omega arith)
act_index (suc zero) zero h g a b = absurd (omega arith)
act_index (suc zero) (suc zero) h g a b = refl
act_index (suc zero) (suc (suc j)) h g a b = absurd (omega arith)
act_index (suc (suc i)) zero h g a b = absurd (omega arith)
act_index (suc (suc i)) (suc zero) h g a b = absurd (omega arith)
act_index (suc (suc i)) (suc (suc j)) h g a b = omega arith

acts_alike : (x y : Act) → ActsAlike x y → import_by x [] ≡ import_by y []
unfolding import_by
acts_alike (Import out sends into) (Import out' sends' into') same = same.same [] tt
acts_alike (Import out sends into) (Cost cost) same = absurd same
acts_alike (Cost cost) (Import out sends into) same = absurd same
acts_alike (Cost cost) (Cost other) same = refl

differ : (i j : ℕ) → i < 3 → j < 3 → ActsAlike (slice_index_or S.acts i (Cost 0)) (slice_index_or S.acts j (Cost 0)) → i ≡ j
differ i j h g alike =
    let same : Some (given i []) ≡ Some (given j []) = sym (imports_are i h [])
    ∙ acts_alike (slice_index_or S.acts i (Cost 0)) (slice_index_or S.acts j (Cost 0)) alike ∙ imports_are j g [] in
    let one : given i [] ≡ given j [] = cc in
    act_index i j h g (ap (λ (x : Imported). x.lp) one) (ap (λ (x : Imported). x.adds) one)

fits : (lp : Option ℕ) (adds : ℕ) → IsActOf OverBgp (act_with lp adds)
fits lp adds = all_with (λ (x : PlainEntry). x.adds ≡ 0) _ [] refl (all_none (λ (x : PlainEntry). x.adds ≡ 0))

sets : (lp : Option ℕ) (adds : ℕ) → MapsToSets (map_with lp adds).entries
sets lp adds zero d h = tt
sets lp adds (suc k) d h = absurd (omega arith)

keeps : (lp : Option ℕ) (adds : ℕ) → KeepsSets (act_with lp adds)
unfolding KeepsSets
keeps lp adds = (sets None adds, sets lp 0)

-- the edge of an importer and a link
abbrev at : ℕ → ℕ → Edge
at importer link = cond (nat_eq link 0) first
    (cond (nat_eq link 1) parallel (cond (nat_eq link 3) outward (cond (nat_eq link 4) inner (cond (nat_eq importer 1) preferred onward))))

at_itself : (e : Edge) → Contains S.edges e → at e.importer e.link ≡ e
at_itself = each_edge (λ e. at e.importer e.link ≡ e) refl refl refl refl refl refl

one_of_link : (e o : Edge) → Contains S.edges e → Contains S.edges o → e.importer ≡ o.importer → e.link ≡ o.link → e ≡ o
one_of_link e o i j importers links = sym (at_itself e i) ∙ (λ k. at (importers k) (links k)) ∙ at_itself o j

is_edge : (importer exporter act link : ℕ) → importer < 4 → exporter < 4 → importer ≢ exporter → act < 3 → IsEdgeOf S (edge_of importer exporter act link)
is_edge importer exporter act link i e d a = record { importer_in = i; exporter_in = e; differ = d; act_in = a }

pub init_is : (u : ℕ) (r : Route) → initial S u ≡ Some r → (u ≡ 0) × (origin ≡ r)
init_is zero r e = (refl, cc)
init_is (suc zero) r e = absurd (cc)
init_is (suc (suc zero)) r e = absurd (cc)
init_is (suc (suc (suc zero))) r e = absurd (cc)
init_is (suc (suc (suc (suc u)))) r e = absurd (cc)

number_is : (u : ℕ) → u < 4 → number S u ≡ u + 1
number_is = each_router (λ v. number S v ≡ v + 1) (omega arith) (omega arith) (omega arith) (omega arith)

pub lone_is : (u : ℕ) → is_lone S u ≡ true → u ≡ 1
lone_is zero e = absurd (cc)
lone_is (suc zero) e = refl
lone_is (suc (suc zero)) e = absurd (cc)
lone_is (suc (suc (suc zero))) e = absurd (cc)
lone_is (suc (suc (suc (suc u)))) e = absurd (cc)

accepts : (e : Edge) → Contains S.edges e → (k : ℕ) → e.act ≡ k → k < 3 → Accepts S e.importer (given k []).lp
accepts e i k same h = record {
  edge = e;
  edge_in = i;
  importer = refl;
  comms = [];
  is_set = tt;
  imported = given k [];
  accepted =
      ap (λ a. import_by (slice_index_or S.acts a (Cost 0)) []) same ∙ imports_are k h [];
  preferred = refl;
}

lone_one : IsLone S 1
lone_one = record {
  unoriginated = refl;
  first = 100;
  second = 200;
  first_accepted = accepts first (0, omega arith, refl) 0 refl (omega arith);
  second_accepted = accepts preferred (2, omega arith, refl) 1 refl (omega arith);
  differ = λ e. omega arith;
}

-- the other routers accept with one preference
one_preference : (e : Edge) → Contains S.edges e → e.importer ≢ 1 → (comms : List ℕ) (i : Imported) → import_by (act_of S e) comms ≡ Some i → i.lp ≡ 100
one_preference = each_edge (λ e. e.importer ≢ 1 → (comms : List ℕ) (i : Imported) → import_by (act_of S e) comms ≡ Some i → i.lp ≡ 100)
    (λ n. absurd (n refl)) (λ n. absurd (n refl)) (λ n. absurd (n refl)) (λ n comms i e. is 2 (omega arith) comms i refl e)
    (λ n comms i e. is 0 (omega arith) comms i refl e) (λ n comms i e. is 2 (omega arith) comms i refl e)
  where
    is : (k : ℕ) → k < 3 → (comms : List ℕ) (i : Imported) → (given k comms).lp ≡ 100 → import_by (slice_index_or S.acts k (Cost 0)) comms ≡ Some i → i.lp ≡ 100
    is k h comms i lp e =
        let same : Some (given k comms) ≡ Some i = sym (imports_are k h comms) ∙ e in
        let one : given k comms ≡ i = cc in
        ap (λ (x : Imported). x.lp) (sym one) ∙ lp

accepts_one : (u x : ℕ) → u ≢ 1 → Accepts S u x → x ≡ 100
accepts_one u x n a = sym a.preferred ∙ one_preference a.edge a.edge_in (λ e. n (sym a.importer ∙ e)) a.comms a.imported a.accepted

marked : (u : ℕ) → u < 4 → IsLone S u → is_lone S u ≡ true
marked u h lone = each_router (λ v. IsLone S v → is_lone S v ≡ true) (no 0 (λ z. omega arith)) (λ l. refl) (no 2 (λ z. omega arith)) (no 3 (λ z. omega arith)) u
    h lone
  where
    no : (v : ℕ) → v ≢ 1 → IsLone S v → is_lone S v ≡ true
    no v n l = absurd (l.differ (accepts_one v l.first n l.first_accepted ∙ sym (accepts_one v l.second n l.second_accepted)))

abbrev behind_onward : List Edge
behind_onward = inner ∷ outward ∷ []

abbrev behind_preferred : List Edge
behind_preferred = onward ∷ behind_onward

abbrev behind_parallel : List Edge
behind_parallel = preferred ∷ behind_preferred

ordered : AreOrdered S.edges
ordered = (
  all_with (Precedes first) parallel behind_parallel (inr (refl, inr (refl, omega arith)))
      (all_with (Precedes first) preferred behind_preferred (inr (refl, inl (omega arith)))
      (all_with (Precedes first) onward behind_onward (inl (omega arith))
      (all_with (Precedes first) inner (outward ∷ []) (inl (omega arith))
      (all_with (Precedes first) outward [] (inl (omega arith)) (all_none (Precedes first)))))),
  (
    all_with (Precedes parallel) preferred behind_preferred (inr (refl, inl (omega arith)))
        (all_with (Precedes parallel) onward behind_onward (inl (omega arith))
        (all_with (Precedes parallel) inner (outward ∷ []) (inl (omega arith))
        (all_with (Precedes parallel) outward [] (inl (omega arith)) (all_none (Precedes parallel))))),
    (
      all_with (Precedes preferred) onward behind_onward (inl (omega arith))
          (all_with (Precedes preferred) inner (outward ∷ []) (inl (omega arith))
          (all_with (Precedes preferred) outward [] (inl (omega arith)) (all_none (Precedes preferred)))),
      (
        all_with (Precedes onward) inner (outward ∷ []) (inr (refl, inl (omega arith)))
            (all_with (Precedes onward) outward [] (inl (omega arith)) (all_none (Precedes onward))),
        (all_with (Precedes inner) outward [] (inl (omega arith)) (all_none (Precedes inner)), (all_none (Precedes outward), tt)),
      ),
    ),
  ),
)

pub good : IsProblem S
good = record {
  tables = record { few_routers = omega arith; few_edges = omega arith; names = refl; init = refl; lone = refl };
  edges = record {
    inside = each_edge (IsEdgeOf S) (is_edge 1 0 0 0 (omega arith) (omega arith) (λ z. omega arith) (omega arith))
        (is_edge 1 0 0 1 (omega arith) (omega arith) (λ z. omega arith) (omega arith))
        (is_edge 1 2 1 2 (omega arith) (omega arith) (λ z. omega arith) (omega arith))
        (is_edge 2 1 2 2 (omega arith) (omega arith) (λ z. omega arith) (omega arith))
        (is_edge 2 3 0 4 (omega arith) (omega arith) (λ z. omega arith) (omega arith))
        (is_edge 3 1 2 3 (omega arith) (omega arith) (λ z. omega arith) (omega arith));
    ordered = ordered;
    one_of_link = one_of_link;
  };
  acts = record {
    fit = all_with (IsActOf OverBgp) plain (prefers ∷ lengthens ∷ []) (fits None 0)
        (all_with (IsActOf OverBgp) prefers (lengthens ∷ []) (fits (Some 200) 0)
        (all_with (IsActOf OverBgp) lengthens [] (fits None 1) (all_none (IsActOf OverBgp))));
    keep = all_with KeepsSets plain (prefers ∷ lengthens ∷ []) (keeps None 0)
        (all_with KeepsSets prefers (lengthens ∷ []) (keeps (Some 200) 0) (all_with KeepsSets lengthens [] (keeps None 1) (all_none KeepsSets)));
    differ = differ;
  };
  starts = record {
    routes = λ u r e. subst (IsRouteOf OverBgp) (init_is u r e).1 tt;
    paths = λ u r e. sym (ap path_of (init_is u r e).1);
    bare = λ u r e. sym (ap comms_of (init_is u r e).1);
    unoriginated = λ p. each_edge (λ e. initial S e.importer ≡ None) refl refl refl refl refl refl;
  };
  numbers = λ p. record {
    originators = λ u r e. subst (λ n. number S n ≢ 0) (sym (init_is u r e).0) (λ z. omega arith);
    importers = each_edge (λ e. number S e.importer ≢ 0) (λ z. omega arith) (λ z. omega arith) (λ z. omega arith) (λ z. omega arith) (λ z. omega arith)
        (λ z. omega arith);
    exporters = each_edge (λ e. number S e.exporter ≢ 0) (λ z. omega arith) (λ z. omega arith) (λ z. omega arith) (λ z. omega arith) (λ z. omega arith)
        (λ z. omega arith);
    distinct = λ u v h g e n. (let a = number_is u h in let b = number_is v g in omega arith);
  };
  marks = record { only = λ u h t. subst (IsLone S) (sym (lone_is u t)) lone_one; all = marked };
}
