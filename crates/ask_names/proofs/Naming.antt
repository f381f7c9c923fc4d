-- Names that are looked up, and the marks of their routers.
use Rattle.std.proofs.Common.{◌≡◌, ℕ, Bool, true, List, map, ap, ◌∙◌}
use Rattle.std.specs.List.{list_any}
use Rattle.cfg_ast.specs.declared.network.Network.{Network}
use Rattle.cfg_ast.specs.declared.network.Router.{Router}
use Rattle.srp_core.specs.Without.{marked_down}
use Rattle.ask_words.specs.NameLists.{is_among}
use Rattle.ask_words.specs.declared.request.Lost.{Lost}
use Rattle.ask_words.specs.declared.request.Routers.{Routers}
use Rattle.ask_words.specs.declared.request.Routers.TheVariants.{Every, Named}
use Rattle.ask_names.specs.Networks.{names_of}
use Rattle.ask_names.specs.Marks.{named_marks, marked_routers}
use Rattle.ask_names.specs.Routers.{is_router_lost, routers_lost, routers_for}
use Rattle.ask_names.proofs.Loops.{map_on}
use Rattle.ask_names.proofs.Marks.{marked_are_named}

pub lost_of : (network : Network) (routers : List Router) (items : List Lost) → routers ≡ network.routers →
    map (λ (router : Router). list_any (is_router_lost router.name) items) routers ≡ routers_lost (names_of network) items
unfolding routers_lost
lost_of network routers items same =
    ap (map (λ (router : Router). list_any (is_router_lost router.name) items)) same
    ∙ map_on (λ name. list_any (is_router_lost name) items) (λ (router : Router). router.name) network.routers

pub every_of : (network : Network) (routers : List Router) → routers ≡ network.routers →
    map (λ (router : Router). true) routers ≡ named_marks (names_of network) Every
every_of network routers same = ap (map (λ (router : Router). true)) same ∙ map_on (λ (name : List ℕ). true) (λ (router : Router). router.name) network.routers

pub placed_of : (network : Network) (routers : List Router) (names : List (List ℕ)) → routers ≡ network.routers →
    map (λ (router : Router). is_among names router.name) routers ≡ named_marks (names_of network) (Named names)
placed_of network routers names same =
    ap (map (λ (router : Router). is_among names router.name)) same ∙ map_on (is_among names) (λ (router : Router). router.name) network.routers

-- the routers that marks stand for
pub chosen_for : (names : List (List ℕ)) (of : Routers) (down links marks items : List Bool) (routers : List ℕ) → routers ≡ marked_routers marks down →
    marks ≡ items → items ≡ named_marks names of → routers ≡ routers_for names (marked_down down links) of
chosen_for names of down links marks items routers made same are =
    made ∙ ap (λ ms. marked_routers ms down) (same ∙ are) ∙ marked_are_named names of down links
