-- The network of the groups is no larger than the network read.
use Rattle.std.proofs.Common.{◌≡◌, ℕ, suc, ◌+◌, List, [], ◌∷◌, length, refl, sym, ◌∙◌, ap, arith}
use Rattle.std.specs.List.{enumerate_from}
use Rattle.std.proofs.lemmas.List.{length-map}
use Rattle.std.proofs.lemmas.List.FromFn.{length-map-range_with_len}
use Rattle.cfg_ast.specs.declared.network.Network.{Network}
use Rattle.cfg_ast.specs.declared.topology.Link.{Link}
use Rattle.cfg_ast.specs.printing.Bare.{bare_router, bare}
use Rattle.config_emit.specs.Emitted.{emitted_router, emitted}
use Rattle.config_emit.specs.Laws.{EmittedIsNoLarger}
use Rattle.config_emit.specs.Plan.{Plan}
use Rattle.emit_form_laws.specs.Laws.{GroupsAreNoMore, GroupsHaveNoMoreLinks}
use Rattle.compress_laws.specs.EmittedLinks.{EmittedHasPlannedLinks}
use Rattle.emit_link_laws.specs.Laws.{emitted_link}

router_count : (e : Plan) → length (emitted e).routers ≡ e.count
unfolding emitted
router_count e = length-map-range_with_len (emitted_router e) 0 e.count

same_count : (m n : Network) → bare m ≡ bare n → length m.routers ≡ length n.routers
same_count m n same = sym (length-map m.routers bare_router) ∙ ap (λ (k : Network). length k.routers) same ∙ length-map n.routers bare_router

numbered_length : {X : Type 0} (n : ℕ) (xs : List X) → length (enumerate_from n xs) ≡ length xs
numbered_length n [] = refl
numbered_length n (x ∷ xs) = ap (λ k. suc k) (numbered_length (n + 1) xs)

pub no_larger : GroupsAreNoMore → GroupsHaveNoMoreLinks → EmittedHasPlannedLinks → EmittedIsNoLarger
no_larger groups few links e plan n same =
    let many = same_count n (emitted e) same ∙ router_count e in
    let most = groups e plan in
    let same_links = ap (λ (ls : List Link). length ls) (links e plan n same) ∙ length-map (enumerate_from 0 e.links) (emitted_link e)
    ∙ numbered_length 0 e.links in
    let less = few e plan in
    record { routers = omega arith; links = omega arith }
