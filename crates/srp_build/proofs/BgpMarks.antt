-- The lone routers of a BGP problem, by the first edge of each.
use Rattle.std.proofs.Common.{◌≡◌, ℕ, zero, suc, ◌<◌, Bool, true, false, List, [], ◌∷◌, length, Option, Some, None, refl, sym, ◌∙◌, ap, subst, arith, inl, inr, ◌⊎◌}
use Rattle.std.specs.Prelude.{Contains, slice_get, slice_index_or}
use Rattle.base_kit.specs.declared.act_graph.Edge.{Edge}
use Rattle.base_kit.specs.Prefixes.{Prefix}
use Rattle.base_kit.specs.Sets.{IsAscending}
use Rattle.cfg_ast.specs.declared.network.Network.{Network}
use Rattle.dd_core.specs.Sets.{Shown}
use Rattle.policy_dd.specs.Imports.{HaveOnePreference, AcceptsSome}
use Rattle.route_maps.specs.declared.plain.Imported.{Imported}
use Rattle.srp_core.specs.declared.route.Route.{Route}
use Rattle.srp_core.specs.Acts.{import_by}
use Rattle.srp_core.specs.Problem.{act_of, is_lone, Accepts, IsLone}
use Rattle.srp_build.specs.declared.acts.BgpAct.{BgpAct}
use Rattle.srp_build.specs.declared.bgp_edges.BgpEdges.{BgpEdges}
use Rattle.srp_build.specs.declared.lone.Mark.{Mark}
use Rattle.srp_build.specs.LineMaps.{LineMaps}
use Rattle.srp_build.specs.Lone.{HasEdgeWith, HasTwo, IsMark}
use Rattle.srp_build.specs.Plains.{import_over}
use Rattle.srp_build.proofs.BgpLinks.{read_map}
use Rattle.srp_build.proofs.BgpParts.{AreBgpParts, made, HasEdge, IsLeft, same_ends, edge_import, closed_to}
use Rattle.srp_build.proofs.SortedEdges.{from}

-- functions that each agree with one that accepts something agree with each other: all accepted routes
-- have one preference
pub first_decides : (f g h : List ℕ → Option Imported) → AcceptsSome f → HaveOnePreference f g → HaveOnePreference f h → HaveOnePreference g h
first_decides f g h some with_g with_h = record {
  same = λ set other first second a b is_first is_second.
      sym (with_g.same some.set set some.import first some.ascending a some.is is_first)
      ∙ with_h.same some.set other some.import second some.ascending b some.is is_second;
}

pub there : {X : Type 0} (xs : List X) (k : ℕ) → k < length xs → (x : X) × (slice_get xs k ≡ Some x)
there [] k h = absurd (omega arith)
there (x ∷ xs) zero h = (x, refl)
there (x ∷ xs) (suc k) h = there xs k (omega arith)

lone_bit : (b : Bool) → (b ≡ true) ⊎ (b ≡ false)
lone_bit true = inl refl
lone_bit false = inr refl

option_cases : (o : Option ℕ) → (o ≡ None) ⊎ ((k : ℕ) × (o ≡ Some k))
option_cases None = inl refl
option_cases (Some k) = inr (k, refl)

module _ (n : Network) (first p : Prefix) (init : List (Option Route)) (lone : List Bool) (maps : LineMaps) (shown : Shown) (found : BgpEdges)
    (parts : AreBgpParts n first p init lone maps shown found) where
  abbrev the_acts : List BgpAct
  the_acts = found.acts.acts.items

  abbrev Imports : BgpAct → List ℕ → Option Imported
  Imports act = import_over maps.maps act.import

  -- the act of an edge
  record IsActAt (number : ℕ) : Type 0 where
    act : BgpAct
    at : slice_get the_acts number ≡ Some act

  edge_act : (edge : Edge) → Contains found.edges edge → IsActAt edge.act
  edge_act edge inside =
      let f = from n (HasEdge n first p init lone maps shown found parts) (IsLeft n first p init lone maps shown found parts)
      (same_ends n first p init lone maps shown found parts) found.edges parts.edges.each edge inside in
      record { act = f.has.act.act; at = f.has.act.at }

  act_with : (u number : ℕ) → HasEdgeWith found.edges u number → IsActAt number
  act_with u number has = subst IsActAt has.same (edge_act has.edge has.edge_in)

  problem_act : (edge : Edge) (number : ℕ) (act : BgpAct) → edge.act ≡ number → slice_get the_acts number ≡ Some act → (comms : List ℕ) →
      import_by (act_of (made n first p init lone maps shown found parts) edge) comms ≡ Imports act comms
  problem_act edge number act same at comms = edge_import n first p init lone maps shown found parts edge act (ap (slice_get the_acts) same ∙ at) comms

  -- ---- a marked router is lone

  accepts : (u number : ℕ) (has : HasEdgeWith found.edges u number) (act : BgpAct) → slice_get the_acts number ≡ Some act →
      (set : List ℕ) (imported : Imported) → IsAscending set → Imports act set ≡ Some imported →
      Accepts (made n first p init lone maps shown found parts) u imported.lp
  accepts u number has act at set imported ascending is = record {
    edge = has.edge;
    edge_in = has.edge_in;
    importer = has.importer;
    comms = set;
    is_set = ascending;
    imported = imported;
    accepted = problem_act has.edge number act has.same at set ∙ is;
    preferred = refl;
  }

  unoriginated : (u number : ℕ) → HasEdgeWith found.edges u number → slice_index_or init u None ≡ None
  unoriginated u number has =
      let f = from n (HasEdge n first p init lone maps shown found parts) (IsLeft n first p init lone maps shown found parts)
      (same_ends n first p init lone maps shown found parts) found.edges parts.edges.each has.edge has.edge_in in
      let same : f.hop.importer ≡ u = sym (ap (λ (e : Edge). e.importer) f.same) ∙ has.importer in
      ap (λ (k : ℕ). slice_index_or init k None) (sym same) ∙ closed_to n first p init lone maps shown found parts f.hop.importer f.has.open_to

  two_are_lone : (u : ℕ) → HasTwo shown the_acts found.edges u → IsLone (made n first p init lone maps shown found parts) u
  two_are_lone u two =
      let a = act_with u two.first two.first_there in
      let b = act_with u two.second two.second_there in
      let d = two.differ.differ a.act b.act (Imports a.act) (Imports b.act) a.at b.at (parts.edges.right.acts.functions two.first a.act a.at)
      (parts.edges.right.acts.functions two.second b.act b.at) in
      record {
        unoriginated = unoriginated u two.first two.first_there;
        first = d.first.lp;
        second = d.second.lp;
        first_accepted = accepts u two.first two.first_there a.act a.at d.set d.first d.ascending d.first_is;
        second_accepted = accepts u two.second two.second_there b.act b.at d.other d.second d.other_ascending d.second_is;
        differ = d.differ;
      }

  marked : (u : ℕ) (mark : Mark) → slice_get parts.marks.marks u ≡ Some mark → is_lone (made n first p init lone maps shown found parts) u ≡ mark.lone
  marked u mark at = ap (λ (l : List Bool). slice_index_or l u false) parts.marks.read ∙ read_map (λ (m : Mark). m.lone) parts.marks.marks u mark false at

  pub only_lone : (u : ℕ) → u < length n.routers → is_lone (made n first p init lone maps shown found parts) u ≡ true →
      IsLone (made n first p init lone maps shown found parts) u
  only_lone u inside h =
      let total = parts.marks.are.total in
      let mark = there parts.marks.marks u (omega arith) in
      two_are_lone u ((parts.marks.are.each u mark.0 mark.1).lone (sym (marked u mark.0 mark.1) ∙ h))

  -- ---- a lone router is marked

  edge_with_act : (u : ℕ) (edge : Edge) → Contains found.edges edge → edge.importer ≡ u → HasEdgeWith found.edges u edge.act
  edge_with_act u edge inside importer = record { edge = edge; edge_in = inside; importer = importer; same = refl }

  one_preference : (u : ℕ) (mark : Mark) → IsMark shown the_acts found.edges u mark → mark.lone ≡ false → (e f : Edge) → Contains found.edges e →
      Contains found.edges f → e.importer ≡ u → f.importer ≡ u
      → (a b : BgpAct) → slice_get the_acts e.act ≡ Some a → slice_get the_acts f.act ≡ Some b → HaveOnePreference (Imports a) (Imports b)
  one_preference u mark is alone e f e_in f_in e_at f_at a b at at' = elim (option_cases mark.first) [
    | inl none ↦ absurd (is.none none e.act (edge_with_act u e e_in e_at))
    | inr some ↦ (
        let zero_act = act_with u some.0 (is.some some.0 some.1) in
        let with_a = (is.alone alone some.0 e.act some.1 (edge_with_act u e e_in e_at)).one zero_act.act a (Imports zero_act.act) (Imports a) zero_act.at at
        (parts.edges.right.acts.functions some.0 zero_act.act zero_act.at) (parts.edges.right.acts.functions e.act a at) in
        let with_b = (is.alone alone some.0 f.act some.1 (edge_with_act u f f_in f_at)).one zero_act.act b (Imports zero_act.act) (Imports b) zero_act.at at'
        (parts.edges.right.acts.functions some.0 zero_act.act zero_act.at) (parts.edges.right.acts.functions f.act b at') in
        first_decides (Imports zero_act.act) (Imports a) (Imports b) (parts.edges.right.acts.accept some.0 zero_act.act zero_act.at) with_a with_b)
  ]

  not_alone : (u : ℕ) (mark : Mark) → IsMark shown the_acts found.edges u mark → mark.lone ≡ false →
      IsLone (made n first p init lone maps shown found parts) u → ⊥
  not_alone u mark is alone is_lone_there =
      let x = is_lone_there.first_accepted in
      let y = is_lone_there.second_accepted in
      let a = edge_act x.edge x.edge_in in
      let b = edge_act y.edge y.edge_in in
      let one = one_preference u mark is alone x.edge y.edge x.edge_in y.edge_in x.importer y.importer a.act b.act a.at b.at in
      let same = one.same x.comms y.comms x.imported y.imported x.is_set y.is_set (sym (problem_act x.edge x.edge.act a.act refl a.at x.comms) ∙ x.accepted)
      (sym (problem_act y.edge y.edge.act b.act refl b.at y.comms) ∙ y.accepted) in
      is_lone_there.differ (sym x.preferred ∙ same ∙ y.preferred)

  pub all_lone : (u : ℕ) → u < length n.routers → IsLone (made n first p init lone maps shown found parts) u →
      is_lone (made n first p init lone maps shown found parts) u ≡ true
  all_lone u inside is =
      let total = parts.marks.are.total in
      let mark = there parts.marks.marks u (omega arith) in
      elim (lone_bit mark.0.lone) [
        | inl yes_lone ↦ marked u mark.0 mark.1 ∙ yes_lone
        | inr alone ↦ absurd (not_alone u mark.0 (parts.marks.are.each u mark.0 mark.1) alone is)
      ]
