-- The routers and edges of a class of a network without faults can be named.
use Rattle.std.proofs.Common.{◌≡◌, ℕ, zero, suc, ◌<◌, ◌≤◌, Bool, true, false, ◌||◌, ◌&&◌, nat_eq, List, [], ◌∷◌, length, map, All, refl, sym, ap, ◌∙◌, subst, arith, inl, inr, Some}
use Rattle.std.specs.Prelude.{Contains, slice_get}
use Rattle.std.specs.List.{AllByRecursion, list_any}
use Rattle.std.proofs.lemmas.Bool.Decides.{nat_tests}
use Rattle.base_kit.specs.declared.act_graph.Edge.{Edge}
use Rattle.base_kit.specs.declared.act_graph.ActGraph.{ActGraph}
use Rattle.base_kit.specs.Prefixes.{Prefix}
use Rattle.cfg_ast.specs.declared.network.Network.{Network}
use Rattle.cfg_ast.specs.declared.network.Router.{Router}
use Rattle.cfg_ast.specs.declared.classes.DestClass.{DestClass}
use Rattle.cfg_ast.specs.meaning.Classes.{classes_of}
use Rattle.cfg_ast.specs.meaning.Topology.{links_of}
use Rattle.cfg_ast.specs.printing.WellFormed.{IsWellFormed, IsWellFormedRouter}
use Rattle.cfg_ast.specs.text.Words.{is_router_name}
use Rattle.cfg_check.specs.Faultless.{IsFaultless}
use Rattle.cfg_check.proofs.Faultless.{few_routers}
use Rattle.net_topology.specs.Laws.{FewLinks}
use Rattle.srp_core.specs.Problem.{Problem, Precedes, AreOrdered}
use Rattle.srp_core.specs.ProblemOf.{Direction, IsDirection, IsProblemOf, low_imports, high_imports}
use Rattle.cut_certificate.specs.Texts.{is_edge_over}
use Rattle.certificate_round_trip.specs.Laws.{AreOfLinks, CanBeNamed}
use Rattle.answer_kit.proofs.NamesApart.{problem_apart}
use Rattle.answer_kit.proofs.OneClass.{some_prefix}
use Rattle.answer_certificates.specs.Certified.{IsGraphFor}

-- ---- items of lists

behind : {X : Type 0} (x y : X) (xs : List X) → Contains xs y → Contains (x ∷ xs) y
behind x y xs (k, inside, at) = (suc k, omega arith, at)

in_front : {X : Type 0} (x : X) (xs : List X) → Contains (x ∷ xs) x
in_front x xs = (0, omega arith, refl)

each_item : {X : Type 0} (P : X → Type 0) (xs : List X) → ((x : X) → Contains xs x → P x) → AllByRecursion P xs
each_item P [] each = tt
each_item P (x ∷ xs) each = (each x (in_front x xs), each_item P xs (λ y h. each y (behind x y xs h)))

inside_of : {X : Type 0} (xs : List X) (k : ℕ) (x : X) → slice_get xs k ≡ Some x → k < length xs
inside_of [] k x e = absurd cc
inside_of (y ∷ xs) zero x e = omega arith
inside_of (y ∷ xs) (suc k) x e = omega (arith, inside_of xs k x e)

map_long : {X Y : Type 0} (f : X → Y) (xs : List X) → length (map f xs) ≡ length xs
map_long f [] = refl
map_long f (x ∷ xs) = omega (arith, map_long f xs)

-- ---- names

router_names : (routers : List Router) → AllByRecursion IsWellFormedRouter routers
    → AllByRecursion (λ (name : List ℕ). is_router_name name ≡ true) (map (λ (r : Router). r.name) routers)
router_names [] all = tt
router_names (r ∷ rs) all = (all.0.name, router_names rs all.1)

-- ---- edges

not_before_itself : (x : Edge) → Precedes x x → ⊥
not_before_itself x (inl less) = omega arith
not_before_itself x (inr (same, inl less)) = omega arith
not_before_itself x (inr (same, inr (still, less))) = omega arith

both_same : (x e : Edge) → is_edge_over e.importer e.link x ≡ true → (e.importer ≡ x.importer) × (e.link ≡ x.link)
both_same x e is = by (nat_eq x.importer e.importer) refl (nat_eq x.link e.link) refl is
  where
    by : (a : Bool) → nat_eq x.importer e.importer ≡ a → (b : Bool) → nat_eq x.link e.link ≡ b → (a && b) ≡ true → (e.importer ≡ x.importer) × (e.link ≡ x.link)
    by true f true g is = (grind (arith, nat_tests), grind (arith, nat_tests))
    by true f false g is = absurd cc
    by false f b g is = absurd cc

-- of the edges of a link at most one leads to each end
abbrev AreOne : List Edge → Type 0
AreOne edges = (a b : Edge) → Contains edges a → Contains edges b → a.importer ≡ b.importer → a.link ≡ b.link → a ≡ b

none_over : (e : Edge) (es : List Edge) → All (Precedes e) es → ((x : Edge) → Contains es x → e.importer ≡ x.importer → e.link ≡ x.link → e ≡ x)
    → list_any (is_edge_over e.importer e.link) es ≡ false
none_over e [] before one = refl
none_over e (x ∷ es) before one = by (is_edge_over e.importer e.link x) refl
    (none_over e es (λ k d h. before (suc k) d (omega arith)) (λ y h. one y (behind x y es h)))
  where
    by : (b : Bool) → is_edge_over e.importer e.link x ≡ b → list_any (is_edge_over e.importer e.link) es ≡ false
        → (b || list_any (is_edge_over e.importer e.link) es) ≡ false
    by true f rest =
        let s = both_same x e f in
        let same = one x (in_front x es) s.0 s.1 in
        absurd (not_before_itself x (subst (λ (y : Edge). Precedes y x) same (before 0 x (omega arith))))
    by false f rest = rest

links_apart : (edges : List Edge) → AreOrdered edges → AreOne edges → AreOfLinks edges
links_apart [] ordered one = tt
links_apart (e ∷ es) ordered one = (
  none_over e es ordered.0 (λ x h. one e x (in_front e es) (behind e x es h)),
  links_apart es ordered.1 (λ a b ha hb. one a b (behind e a es ha) (behind e b es hb)),
)

inside_links : (n : Network) (d : Direction) → IsDirection n d → d.link < length (links_of n)
inside_links n d (inl low) = inside_of (links_of n) d.link (low_imports d) low
inside_links n d (inr high) = inside_of (links_of n) d.link (high_imports d) high

-- ---- a class

module _ (n : Network) (formed : IsWellFormed n) (faultless : IsFaultless n) (links : FewLinks) (class : DestClass) (has : Contains (classes_of n) class)
    (P : Problem) (graph : ActGraph) (are : IsGraphFor n class P graph) where
  prefix : (p : Prefix) × Contains class.prefixes p
  prefix = some_prefix n class has

  problem_of : IsProblemOf n prefix.0 P
  problem_of = are.built.of prefix.0 prefix.1

  pub few : graph.count ≤ 4096
  few =
      let names = ap length problem_of.names in
      let long = map_long (λ (r : Router). r.name) n.routers in
      omega (arith, are.of_problem.routers, problem_of.rules.tables.names, names, long, few_routers n faultless)

  small_link : (e : Edge) → Contains graph.edges e → e.link ≤ 4294967295
  small_link e h =
      let (d, stands) = problem_of.edges_stand e (subst (λ (es : List Edge). Contains es e) are.of_problem.edges h) in
      omega (arith, stands.link, inside_links n d stands.is_direction, links n formed faultless)

  pub can_be_named : CanBeNamed graph P.names
  can_be_named = record {
    one_each = problem_of.rules.tables.names ∙ sym are.of_problem.routers;
    each = subst (AllByRecursion (λ (name : List ℕ). is_router_name name ≡ true)) (sym problem_of.names) (router_names n.routers formed.routers);
    apart = problem_apart n faultless class has P are.built.of;
    few = omega (arith, few);
    one_of_link = subst AreOfLinks (sym are.of_problem.edges) (links_apart P.edges problem_of.rules.edges.ordered problem_of.rules.edges.one_of_link);
    links = each_item (λ (e : Edge). e.link ≤ 4294967295) graph.edges small_link;
  }
