use Rattle.std.proofs.Common.{◌≡◌, List, ℕ, ◌∙◌, ap, subst}
use Rattle.route_maps.specs.declared.plain.Plain.{Plain}
use Rattle.srp_build.specs.declared.imports.ImportByMaps.{ImportByMaps}
use Rattle.srp_build.specs.LineMaps.{with_maps}
use Rattle.srp_build.specs.MetImports.{IsActOfImport, IsMaybeNew}
use Rattle.srp_build.proofs.ImportSteps.{none_came}
use Rattle.srp_build.proofs.LastImports.{act_of_last}
use Rattle.srp_build.proofs.bgp_edges.BgpEdges.act_of.Goals as goal

pub returns-in-Some-clause-act : goal.returns-in-Some-clause-act
returns-in-Some-clause-act c =
    act_of_last c.args.maps.now c.args.self.now.acts.acts.items c.args.self.now.last c.last_if_same.result c.in-Some.known c.args.import.now c.requires.last
    c.in-Some.is c.last_if_same.ensures.last c.last_if_same.ensures.same

pub returns-in-Some-clause-came : goal.returns-in-Some-clause-came
returns-in-Some-clause-came c = none_came c.args.self.now.acts.acts.items c.args.hop.now (with_maps c.args.maps.now.numbers.items c.args.import.now)
    c.in-Some.known.act

pub returns-clause-last : goal.returns-clause-last
returns-clause-last c =
    let maps = c.args.maps.now in
    let acts = c.act_of_import.new.acts.acts.items in
    let same : c.with_maps-met.result ≡ with_maps maps.numbers.items c.args.import.now = c.with_maps-met.ensures
    ∙ ap (λ (l : List ℕ). with_maps l c.args.import.now) c.deref.ensures.value in
    subst (λ (s : ImportByMaps). IsActOfImport maps.maps.items acts s c.in_ok-act.act) same
    (subst (λ (m : List Plain). IsActOfImport m acts c.with_maps-met.result c.in_ok-act.act) c.deref-2.ensures.value c.in_ok-act.ensures.act)

pub returns-clause-act : goal.returns-clause-act
returns-clause-act c =
    let maps = c.args.maps.now in
    let acts = c.act_of_import.new.acts.acts.items in
    let same : c.with_maps-met.result ≡ with_maps maps.numbers.items c.args.import.now = c.with_maps-met.ensures
    ∙ ap (λ (l : List ℕ). with_maps l c.args.import.now) c.deref.ensures.value in
    subst (λ (s : ImportByMaps). IsActOfImport maps.maps.items acts s c.in_ok-act.act) same
    (subst (λ (m : List Plain). IsActOfImport m acts c.with_maps-met.result c.in_ok-act.act) c.deref-2.ensures.value c.in_ok-act.ensures.act)

pub returns-clause-came : goal.returns-clause-came
returns-clause-came c =
    let same : c.with_maps-met.result ≡ with_maps c.args.maps.now.numbers.items c.args.import.now = c.with_maps-met.ensures
    ∙ ap (λ (l : List ℕ). with_maps l c.args.import.now) c.deref.ensures.value in
    subst (λ (s : ImportByMaps). IsMaybeNew c.args.self.now.acts.acts.items c.act_of_import.new.acts.acts.items c.args.hop.now s c.in_ok-act.act) same
    c.in_ok-act.ensures.came
