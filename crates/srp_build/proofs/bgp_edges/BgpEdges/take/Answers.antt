use Rattle.std.proofs.Common.{◌≡◌, List, [], ◌∷◌, ◌++◌, Option, Some, ℕ, inl, inr, refl, sym, ◌∙◌, ap, subst}
use Rattle.base_kit.specs.declared.act_graph.Edge.{Edge}
use Rattle.policy_dd.specs.Imports.{AcceptsNone}
use Rattle.route_maps.specs.declared.plain.Plain.{Plain}
use Rattle.srp_build.specs.BgpEdges.{started, denied}
use Rattle.srp_build.specs.HopEdges.{edge_with}
use Rattle.srp_build.specs.LineMaps.{with_maps}
use Rattle.srp_build.specs.Plains.{import_over}
use Rattle.srp_build.specs.MetImports.{IsActOfImport, IsActOver, IsMaybeNew}
use Rattle.srp_build.proofs.ImportSteps.{one_more}
use Rattle.srp_build.proofs.bgp_edges.BgpEdges.take.Goals as goal

pub returns-then-originates-clause-takes : goal.returns-then-originates-clause-takes
returns-then-originates-clause-takes c = λ routers lines is.
    inl (record { left = started (sym c.originates.ensures ∙ c.if-originates.true); acts = refl; edges = refl })

pub returns-in_default-clause-grown : goal.returns-in_default-clause-grown
returns-in_default-clause-grown c = one_more c.args.self.now.acts.acts.items c.act_of.new.self.acts.acts.items c.args.hop.now
    (with_maps c.args.maps.now.numbers.items c.args.import.now) c.in_ok-act.act c.in_ok-act.ensures.came

pub returns-clause-grown : goal.returns-clause-grown
returns-clause-grown c = one_more c.args.self.now.acts.acts.items c.act_of.new.self.acts.acts.items c.args.hop.now
    (with_maps c.args.maps.now.numbers.items c.args.import.now) c.in_ok-act.act c.in_ok-act.ensures.came

-- nothing is accepted
pub returns-in_default-clause-takes : goal.returns-in_default-clause-takes
returns-in_default-clause-takes c = λ routers lines is.
    let maps = c.args.maps.now in
    let import = with_maps maps.numbers.items c.args.import.now in
    let acts = c.act_of.new.self.acts.acts.items in
    let none = subst (λ (o : Option ℕ). IsActOfImport maps.maps.items acts import o) c.in_default.is c.in_ok-act.ensures.act in
    let came = subst (λ (o : Option ℕ). IsMaybeNew c.args.self.now.acts.acts.items acts c.args.hop.now import o) c.in_default.is c.in_ok-act.ensures.came in
    inl (record {
      left = denied import is.is (subst (λ (m : List Plain). AcceptsNone (import_over m import)) is.maps_are none);
      acts = came;
      edges = c.in_ok-act.ensures.edges;
    })

pub returns-clause-takes : goal.returns-clause-takes
returns-clause-takes c = λ routers lines is.
    let maps = c.args.maps.now in
    let hop = c.args.hop.now in
    let import = with_maps maps.numbers.items c.args.import.now in
    let acts = c.act_of.new.self.acts.acts.items in
    let act = subst (λ (o : Option ℕ). IsActOfImport maps.maps.items acts import o) c.in-Some.is c.in_ok-act.ensures.act in
    let came = subst (λ (o : Option ℕ). IsMaybeNew c.args.self.now.acts.acts.items acts hop import o) c.in-Some.is c.in_ok-act.ensures.came in
    inr (record {
      number = c.in-Some.act;
      open_to = sym c.originates.ensures ∙ c.if-originates.false;
      import = import;
      import_is = is.is;
      act = subst (λ (m : List Plain). IsActOver m acts import c.in-Some.act) is.maps_are act;
      came = came;
      edges = c.in_ok-push.ensures.ok ∙ ap (λ (l : List Edge). l ++ edge_with c.in-Some.act hop ∷ []) c.in_ok-act.ensures.edges;
    })
