use Rattle.std.proofs.Common.{◌≡◌, take, true}
use Rattle.std.specs.Prelude.{IfSome}
use Rattle.std.specs.Option.{option_map}
use Rattle.base_kit.specs.declared.ids.Community.{Community}
use Rattle.base_kit.specs.Sets.{has}
use Rattle.canon_policy.specs.Nodes.{community_number}
use Rattle.canon_policy.proofs.Firsts.{least_among, NodesHang}
use Rattle.canon_policy.proofs.parts.least_of.Given as goal

abbrev pub invariant-loop-node : goal.invariant-loop-node
invariant-loop-node l = record {
  known : IfSome l.least (λ (c : Community). has l.store.universe c.0 ≡ true);
  least : NodesHang l.store l.nodes → option_map community_number l.least ≡ least_among l.store (take l.node-index l.nodes);
}
