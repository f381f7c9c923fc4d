-- As many marks as routers and links.
use Rattle.std.proofs.Common.{◌≡◌, ℕ, List, length, ◌∙◌}
use Rattle.std.specs.List.{list_any}
use Rattle.std.proofs.lemmas.List.{length-map}
use Rattle.cfg_ast.specs.declared.network.Network.{Network}
use Rattle.cfg_ast.specs.declared.network.Router.{Router}
use Rattle.cfg_ast.specs.declared.topology.Link.{Link}
use Rattle.ask_words.specs.declared.request.Lost.{Lost}
use Rattle.ask_names.specs.Networks.{names_of}
use Rattle.ask_names.specs.Routers.{is_router_lost, is_link_lost, routers_lost, links_lost}

pub routers_marked : (network : Network) (items : List Lost) → length (routers_lost (names_of network) items) ≡ length network.routers
unfolding routers_lost
routers_marked network items = length-map (names_of network) (λ (name : List ℕ). list_any (is_router_lost name) items)
    ∙ length-map network.routers (λ (router : Router). router.name)

pub links_marked : (names : List (List ℕ)) (links : List Link) (items : List Lost) → length (links_lost names links items) ≡ length links
unfolding links_lost
links_marked names links items = length-map links (λ (link : Link). list_any (is_link_lost names link) items)
