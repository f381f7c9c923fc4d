use Rattle.std.proofs.Common.{subst, List}
use Rattle.dd_core.proofs.ShownLemmas.{grows_trans}
use Rattle.canon_policy.specs.declared.parts.PartNodes.{PartNodes}
use Rattle.canon_policy.specs.Nodes.{ArePartsFixed}
use Rattle.canon_policy.proofs.FixedNodes.{later, of_grown, parts_of_grown}
use Rattle.canon_policy.proofs.fixed.fixed.Goals as goal

pub returns-clause-fixed : goal.returns-clause-fixed
returns-clause-fixed c =
    let first = c.in_ok-permit.ensures.grows in
    let both = grows_trans c.args.store.now c.fixed_node.new.store c.fixed_node-2.new.store first c.in_ok-rest.ensures.grows in
    record {
      permit = later c.args.store.now c.fixed_node.new.store c.fixed_parts.new.store c.args.alone.now c.args.nodes.now.permit c.in_ok-permit.permit
          (grows_trans c.fixed_node.new.store c.fixed_node-2.new.store c.fixed_parts.new.store c.in_ok-rest.ensures.grows c.in_ok-parts.ensures.grows)
          c.in_ok-permit.ensures.fixed;
      rest = later c.args.store.now c.fixed_node-2.new.store c.fixed_parts.new.store c.args.alone.now c.args.nodes.now.rest c.in_ok-rest.rest
          c.in_ok-parts.ensures.grows
          (of_grown c.args.store.now c.fixed_node.new.store c.fixed_node-2.new.store c.args.alone.now c.args.nodes.now.rest c.in_ok-rest.rest first
          c.requires.nodes.rest c.in_ok-rest.ensures.fixed);
      parts = parts_of_grown c.args.store.now c.fixed_node-2.new.store c.fixed_parts.new.store c.args.alone.now c.args.nodes.now.parts c.in_ok-parts.parts both
          c.requires.nodes.parts
          (subst (λ (l : List PartNodes). ArePartsFixed c.fixed_node-2.new.store c.fixed_parts.new.store c.args.alone.now l c.in_ok-parts.parts)
          c.as_slice.ensures c.in_ok-parts.ensures.fixed);
    }

pub returns-in_err-rest-clause-grows : goal.returns-in_err-rest-clause-grows
returns-in_err-rest-clause-grows c = grows_trans _ _ _ c.in_ok-permit.ensures.grows c.in_err-rest.ensures.grows

pub returns-in_err-parts-clause-grows : goal.returns-in_err-parts-clause-grows
returns-in_err-parts-clause-grows c = grows_trans _ _ _ (grows_trans _ _ _ c.in_ok-permit.ensures.grows c.in_ok-rest.ensures.grows) c.in_err-parts.ensures.grows

pub returns-clause-grows : goal.returns-clause-grows
returns-clause-grows c = grows_trans _ _ _ (grows_trans _ _ _ c.in_ok-permit.ensures.grows c.in_ok-rest.ensures.grows) c.in_ok-parts.ensures.grows
