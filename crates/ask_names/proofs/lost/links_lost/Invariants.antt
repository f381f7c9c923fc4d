use Rattle.std.proofs.Common.{◌≡◌, ◌++◌, drop, map}
use Rattle.std.specs.List.{list_any}
use Rattle.cfg_ast.specs.declared.topology.Link.{Link}
use Rattle.ask_names.specs.LinkLookups.{LooksUp}
use Rattle.ask_names.specs.Networks.{names_of}
use Rattle.ask_names.specs.Routers.{is_link_lost}
use Rattle.ask_names.proofs.lost.links_lost.Given as goal

abbrev pub invariant-loop-link : goal.invariant-loop-link
invariant-loop-link l = LooksUp l.lookup l.items
    × (l.marks.items ++ map (λ (link : Link). list_any (is_link_lost (names_of l.network) link) l.items) (drop l.link-index l.links)
    ≡ map (λ (link : Link). list_any (is_link_lost (names_of l.network) link) l.items) l.links)
