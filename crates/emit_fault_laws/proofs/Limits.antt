-- The network of the groups keeps the limits on neighbours and on links.
use Rattle.std.proofs.Common.{◌≡◌, ℕ, suc, ◌+◌, ◌*◌, ◌≤◌, List, [], ◌∷◌, length, Some, None, refl, ◌∙◌, ap, arith, length-append}
use Rattle.std.specs.List.{enumerate_from}
use Rattle.std.proofs.lemmas.List.{length-map}
use Rattle.base_kit.specs.declared.protocol.Protocol.{Protocol}
use Rattle.base_kit.specs.declared.protocol.Protocol.TheVariants.{Bgp as OverBgp, Ospf as OverOspf}
use Rattle.cfg_ast.specs.declared.topology.Link.{Link}
use Rattle.cfg_ast.specs.meaning.RouterFaults.{too_many_links_lines}
use Rattle.cfg_ast.specs.meaning.Topology.{sessions_of, adjacencies_of, links_of}
use Rattle.net_topology.specs.Laws.{FewSessions}
use Rattle.net_topology.proofs.FewLinks.{few_neighbors}
use Rattle.net_topology.proofs.LinkCounts.{few_are_no_fault}
use Rattle.net_topology.proofs.OneProtocol.{no_ospf, no_adjacencies}
use Rattle.config_emit.specs.Emitted.{ospf_of, emitted}
use Rattle.config_emit.specs.Laws.{IsPlan}
use Rattle.config_emit.specs.Plan.{Plan}
use Rattle.emit_fault_laws.proofs.Routers.{of_routers}
use Rattle.emit_link_laws.specs.Laws.{emitted_link}
use Rattle.emit_link_laws.proofs.Links.{ospf_links}
use Rattle.emit_form_laws.specs.Laws.{GroupsHaveNoMoreLinks, GroupsHaveFewLinks}
use Rattle.emit_form_laws.proofs.Groups.{problem_of}

-- ---- in BGP there are few links, since each is a session

bgp_adjacencies : (e : Plan) → IsPlan e → e.problem.protocol ≡ OverBgp → adjacencies_of e.network ≡ []
bgp_adjacencies e plan bgp = no_adjacencies e.network
    (no_ospf e.network ((problem_of e plan).of.protocol ∙ ap (λ q. Some q) bgp) plan.faultless.mixed_protocols)

pub bgp_links_few : GroupsHaveNoMoreLinks → FewSessions → (e : Plan) → IsPlan e → e.problem.protocol ≡ OverBgp → 2 * length e.links ≤ 131072
unfolding links_of
bgp_links_few no_more sessions e plan bgp =
    let less = no_more e plan in
    let both = length-append (sessions_of e.network) (adjacencies_of e.network) in
    let none = ap (λ (ls : List Link). length ls) (bgp_adjacencies e plan bgp) in
    let two = sessions e.network plan.well_formed plan.faultless in
    let most = few_neighbors e.network plan.faultless in omega arith

-- ---- links

numbered_length : {X : Type 0} (n : ℕ) (xs : List X) → length (enumerate_from n xs) ≡ length xs
numbered_length n [] = refl
numbered_length n (x ∷ xs) = ap (λ k. suc k) (numbered_length (n + 1) xs)

-- in OSPF the network has as many links as the plan
ospf_links_many : (e : Plan) → IsPlan e → e.problem.protocol ≡ OverOspf → length (links_of (emitted e)) ≡ length e.links
ospf_links_many e plan ospf = ap (λ (ls : List Link). length ls) (ospf_links e plan ospf) ∙ length-map (enumerate_from 0 e.links) (emitted_link e)
    ∙ numbered_length 0 e.links

few_adjacencies : GroupsHaveFewLinks → (e : Plan) → IsPlan e → length (adjacencies_of (emitted e)) ≤ 1048576
unfolding links_of
few_adjacencies few e plan = over e.problem.protocol refl
  where
    over : (q : Protocol) → e.problem.protocol ≡ q → length (adjacencies_of (emitted e)) ≤ 1048576
    over OverBgp bgp = (let none = ap (λ (ls : List Link). length ls)
        (no_adjacencies (emitted e) (of_routers e (λ r. r.ospf ≡ None) (λ g below. ap (λ q. ospf_of q e g) bgp))) in omega arith)
    over OverOspf ospf = (
        let both = length-append (sessions_of (emitted e)) (adjacencies_of (emitted e)) in
        let same = ospf_links_many e plan ospf in
        let most = few e plan in omega arith)

pub no_more_links : GroupsHaveFewLinks → (e : Plan) → IsPlan e → too_many_links_lines (emitted e) ≡ []
no_more_links few e plan = few_are_no_fault (emitted e) (few_adjacencies few e plan)
