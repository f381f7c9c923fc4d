use Rattle.std.proofs.Common.{◌≡◌, ◌∙◌, ℕ, List, ap, arith, sym, subst, length}
use Rattle.cfg_ast.specs.declared.network.Network.{Network}
use Rattle.cfg_ast.specs.meaning.Topology.{links_of}
use Rattle.solution_answers.specs.Writing.{Writes}
use Rattle.srp_core.specs.Without.{marked_down, IsWithout}
use Rattle.ask_names.specs.Marks.{AreMarksIn}
use Rattle.ask_names.specs.Networks.{names_of}
use Rattle.ask_classes.specs.Tasks.{IsTaskPart}
use Rattle.answer_kit.proofs.OneClass.{some_prefix}
use Rattle.ask_answers.proofs.Marks.{routers_marked, links_marked}
use Rattle.ask_answers.proofs.Parts.{class_written}
use Rattle.ask_answers.proofs.class_parts.put_class_part.Goals as goal

pub left_of-requires : goal.left_of-requires
left_of-requires c = c.requires.known.2.serves

pub put_class-requires-clause-scene : goal.put_class-requires-clause-scene
put_class-requires-clause-scene c =
    let checked = c.args.checked.now in
    let n = checked.network in
    let request = c.args.request.now in
    let same = c.network-network.ensures.same in
    let known = c.requires.known in
    let p = some_prefix n known.0 known.1 in
    let few = c.few_links.ensures n (c.given_is_well_formed.ensures n checked.given) checked.faultless in
    let links = c.as_slice-links.ensures ∙ c.requires.shared.links in
    let many = ap length links in
    record {
      links = links ∙ ap links_of (sym same);
      few_links = omega (arith, few, many);
      few_routers = c.network-network.ensures.few_routers;
      each_router = ap length (c.as_slice-routers_down.ensures.value ∙ c.requires.plan.routers) ∙ routers_marked n request.down
          ∙ ap (λ (m : Network). length m.routers) (sym same);
      each_link = ap length (c.as_slice-links_down.ensures.value ∙ c.requires.plan.links) ∙ links_marked (names_of n) (links_of n) request.down
          ∙ ap length (sym links);
      names = (known.2.built.of p.0 p.1).names ∙ ap names_of (sym same);
      left = subst (IsWithout c.args.known.now.whole (marked_down c.as_slice-routers_down.result.now c.as_slice-links_down.result.now))
          (sym c.made_or-left.ensures) c.in_ok-made.ensures;
      serves = known.2.serves;
    }

pub put_class-requires-clause-marks : goal.put_class-requires-clause-marks
put_class-requires-clause-marks c =
    let known = c.requires.known in
    let p = some_prefix c.args.checked.now.network known.0 known.1 in
    subst (λ (names : List (List ℕ)). AreMarksIn names c.args.request.now.task c.args.plan.now.named) (sym (known.2.built.of p.0 p.1).names)
    c.requires.plan.named

pub returns : goal.returns
returns c = λ class is.
    let n = c.args.checked.now.network in
    let request = c.args.request.now in
    let manner = c.args.plan.now.manner in
    let known = c.args.known.now in
    let left = c.made_or-left.result.now in
    let routers = c.as_slice-routers_down.result.now in
    let links = c.as_slice-links_down.result.now in
    let old = c.args.bytes.now.items in
    let new = c.put_class.new.bytes.items in
    class_written n request manner c.args.number class known left routers links old new c.in_ok-all.all
    (c.as_slice-routers_down.ensures.value ∙ c.requires.plan.routers) (c.as_slice-links_down.ensures.value ∙ c.requires.plan.links) is
    (subst (IsWithout known.whole (marked_down routers links)) (sym c.made_or-left.ensures) c.in_ok-made.ensures)
    (subst (λ (m : Network). Writes (IsTaskPart manner m routers links c.args.number known.whole left request.task) old new c.in_ok-all.all)
    c.network-network.ensures.same c.in_ok-all.ensures)
