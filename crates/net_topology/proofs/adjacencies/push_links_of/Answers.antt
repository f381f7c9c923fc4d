use Rattle.std.proofs.Common.{◌≡◌, ◌++◌, List, OnOk, filter, map, subst, ◌∙◌}
use Rattle.net_topology.specs.declared.adjacencies.Spot.{Spot}
use Rattle.net_topology.specs.Spots.{pair_of, is_later, spot_link}
use Rattle.net_topology.proofs.adjacencies.push_links_of.Goals as goal

pub returns : goal.returns
returns c = subst (λ (others : List Spot). OnOk c.push_links.result
    (c.push_links.new.found ≡ c.args.found.now ++ map (spot_link c.args.p.now) (filter (is_later c.args.p.now) others)))
    (c.items_at.ensures ∙ c.requires.each (pair_of c.args.p.now)) c.push_links.ensures
