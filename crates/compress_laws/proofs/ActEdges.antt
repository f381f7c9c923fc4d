-- One edge for each act, in every problem of the network.
use Rattle.std.proofs.Common.{◌≡◌, ℕ, zero, suc, List, [], ◌∷◌, map, length, Some, refl, sym, ◌∙◌, ap, subst, inl, inr}
use Rattle.std.specs.Prelude.{slice_get, slice_index, slice_index_or}
use Rattle.std.proofs.lemmas.List.{length-map}
use Rattle.std.proofs.lemmas.Option.{get_or_from_slice_get}
use Rattle.base_kit.specs.declared.act_graph.Edge.{Edge}
use Rattle.base_kit.proofs.Elements.{In, contains_in, in_contains, map_in, in_map, in_get, get_in}
use Rattle.abstract_net.proofs.Carried.{at_place}
use Rattle.abstract_net.specs.Carried.{act_at}
use Rattle.abstract_net.specs.Links.{acts_into}
use Rattle.srp_core.specs.Acts.{ActsAlike}
use Rattle.srp_core.specs.Alike.{EdgesAlike, AllEdgesAlike, ProblemsAlike}
use Rattle.srp_core.specs.Problem.{Problem, act_of, IsProblem}
use Rattle.srp_core.specs.declared.route.Act.{Act}
use Rattle.srp_core.specs.declared.route.Act.TheVariants.{Cost}
use Rattle.srp_core.proofs.Alike.{turned}
use Rattle.srp_core.proofs.GroupMatching.{alike_sym, alike_trans}
use Rattle.compress_laws.specs.GroupLinks.{IsEdgeInto, ActDifferently, HasOneOfEachAct}
use Rattle.compress_laws.proofs.FirstActs.{HaveOwnActs, GoesAt, acts_of_edges}

-- ---- edges by their places

record Beside (P Q : Problem) (others : List Edge) (edge : Edge) (k : ℕ) : Type 0 where
  other : Edge
  at : slice_get others k ≡ Some other
  alike : EdgesAlike P Q edge other

beside : (P Q : Problem) (es fs : List Edge) → AllEdgesAlike P Q es fs → (k : ℕ) (e : Edge) → slice_get es k ≡ Some e → Beside P Q fs e k
beside P Q [] [] same k e at = absurd cc
beside P Q [] (f ∷ fs) same k e at = absurd same
beside P Q (d ∷ es) [] same k e at = absurd same
beside P Q (d ∷ es) (f ∷ fs) same zero e at = let here : d ≡ e = cc in
    record { other = f; at = refl; alike = subst (λ (x : Edge). EdgesAlike P Q x f) here same.0 }
beside P Q (d ∷ es) (f ∷ fs) same (suc k) e at = let r = beside P Q es fs same.1 k e at in record { other = r.other; at = r.at; alike = r.alike }

nowhere : Edge
nowhere = record { importer = 0; exporter = 0; link = 0; act = 0 }

abbrev edge_at : List Edge → ℕ → Edge
edge_at es k = slice_index_or es k nowhere

pub edges_at : List Edge → List ℕ → List Edge
edges_at es ks = map (edge_at es) ks

pub as_many_edges : (es : List Edge) (ks : List ℕ) → length (edges_at es ks) ≡ length ks
unfolding edges_at
as_many_edges es ks = length-map ks (edge_at es)

as_the_other : (x y z : Act) → y ≡ z → ActsAlike x y → ActsAlike x z
as_the_other x y z same alike = subst (ActsAlike x) same alike

module _ (P Q : Problem) (rules : IsProblem P) (same : ProblemsAlike P Q) (groups : List ℕ) (g h : ℕ) where
  -- the edges of both problems at a place where that of the first goes into g from h
  record BothAt (k : ℕ) : Type 0 where
    edge : Edge
    at : slice_get P.edges k ≡ Some edge
    into : IsEdgeInto Q groups g h (edge_at Q.edges k)
    alike : ActsAlike (act_of P edge) (act_of Q (edge_at Q.edges k))

  both_at : (k : ℕ) → GoesAt P.edges groups g h k → BothAt k
  both_at k goes =
      let b = beside P Q P.edges Q.edges same.edges k goes.edge goes.at in
      let is : edge_at Q.edges k ≡ b.other = get_or_from_slice_get Q.edges k b.other nowhere b.at in
      record {
        edge = goes.edge;
        at = goes.at;
        into = subst (IsEdgeInto Q groups g h) (sym is) (record {
          has = contains_in Q.edges b.other (get_in Q.edges k b.other b.at);
          importer = ap (slice_index groups) (sym b.alike.importer) ∙ goes.importer;
          exporter = ap (slice_index groups) (sym b.alike.exporter) ∙ goes.exporter;
        });
        alike = subst (λ (x : Edge). ActsAlike (act_of P goes.edge) (act_of Q x)) (sym is) b.alike.acts;
      }

  one_act : (k j : ℕ) → GoesAt P.edges groups g h k → GoesAt P.edges groups g h j → ActsAlike (act_of Q (edge_at Q.edges k)) (act_of Q (edge_at Q.edges j))
      → act_at P.edges k ≡ act_at P.edges j
  one_act k j goes_k goes_j alike =
      let x = both_at k goes_k in
      let y = both_at j goes_j in
      let far = alike_trans (act_of P x.edge) (act_of Q (edge_at Q.edges k)) (act_of P y.edge) x.alike
      (alike_trans (act_of Q (edge_at Q.edges k)) (act_of Q (edge_at Q.edges j)) (act_of P y.edge) alike
      (alike_sym (act_of P y.edge) (act_of Q (edge_at Q.edges j)) y.alike)) in
      let inside = λ (m : ℕ) (e : Edge) (at : slice_get P.edges m ≡ Some e). (rules.edges.inside e (contains_in P.edges e (get_in P.edges m e at))).act_in in
      (at_place P.edges groups k x.edge x.at).does ∙ rules.acts.differ x.edge.act y.edge.act (inside k x.edge x.at) (inside j y.edge y.at) far
      ∙ sym (at_place P.edges groups j y.edge y.at).does

  own_acts : (ks : List ℕ) → ((k : ℕ) → In ks k → GoesAt P.edges groups g h k) → HaveOwnActs P.edges ks → ActDifferently Q (edges_at Q.edges ks)
  unfolding edges_at
  own_acts [] into own = tt
  own_acts (k ∷ ks) into own = (
    (λ other has alike. (
        let j = map_in (edge_at Q.edges) ks other (in_contains _ other has) in
        own.0 j.0 j.1 (one_act k j.0 (into k (inl refl)) (into j.0 (inr j.1))
        (subst (λ (x : Edge). ActsAlike (act_of Q (edge_at Q.edges k)) (act_of Q x)) (sym j.2) alike)))),
    own_acts ks (λ j at. into j (inr at)) own.1,
  )

  same_act : (k j : ℕ) (e f : Edge) → slice_get P.edges k ≡ Some e → slice_get P.edges j ≡ Some f → act_at P.edges j ≡ act_at P.edges k
      → act_of P e ≡ act_of P f
  same_act k j e f at_k at_j one =
      let of_e = (at_place P.edges groups k e at_k).does in
      let of_f = (at_place P.edges groups j f at_j).does in
      ap (λ (act : ℕ). slice_index_or P.acts act (Cost 0)) (sym of_e ∙ (sym one ∙ of_f))

  some_of_each : (edge : Edge) → IsEdgeInto Q groups g h edge → (j : ℕ) × In (acts_into P.edges groups g h) j
      × ActsAlike (act_of Q edge) (act_of Q (edge_at Q.edges j))
  some_of_each edge is =
      let k = in_get Q.edges edge (in_contains Q.edges edge is.has) in
      let back = beside Q P Q.edges P.edges (turned P Q same).edges k.0 edge k.1 in
      let goes : GoesAt P.edges groups g h k.0 = record {
        edge = back.other;
        at = back.at;
        importer = ap (slice_index groups) (sym back.alike.importer)
            ∙ is.importer;
        exporter = ap (slice_index groups) (sym back.alike.exporter) ∙ is.exporter;
      } in
      let are = acts_of_edges P.edges groups g h in
      let j = are.all k.0 goes in
      let y = both_at j.0 (are.into j.0 j.1) in
      let near = as_the_other (act_of Q edge) (act_of P back.other) (act_of P y.edge) (same_act k.0 j.0 back.other y.edge back.at y.at j.2) back.alike.acts in
      (j.0, j.1, alike_trans (act_of Q edge) (act_of P y.edge) (act_of Q (edge_at Q.edges j.0)) near y.alike)

  pub one_of_each : HasOneOfEachAct Q groups g h (edges_at Q.edges (acts_into P.edges groups g h))
  unfolding edges_at
  one_of_each =
      let ks = acts_into P.edges groups g h in
      let are = acts_of_edges P.edges groups g h in
      record {
        into = λ edge has. (let k = map_in (edge_at Q.edges) ks edge (in_contains _ edge has) in
            subst (IsEdgeInto Q groups g h) k.2 (both_at k.0 (are.into k.0 k.1)).into);
        differ = own_acts ks are.into are.own;
        all = λ edge is. (let j = some_of_each edge is in (edge_at Q.edges j.0, contains_in _ _ (in_map (edge_at Q.edges) ks j.0 j.1), j.2));
      }
