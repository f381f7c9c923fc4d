-- The links of the network of the groups are those of the plan, in order. Public: crates above may cite it.
use Rattle.std.proofs.Common.{◌≡◌, ℕ, List, ◌++◌, map, None, refl, sym, ◌∙◌, ap, subst}
use Rattle.std.specs.List.{enumerate_from, range_with_len}
use Rattle.std.proofs.lemmas.List.{append-nil}
use Rattle.base_kit.specs.declared.protocol.Protocol.{Protocol}
use Rattle.base_kit.specs.declared.protocol.Protocol.TheVariants.{Bgp as OverBgp, Ospf as OverOspf}
use Rattle.base_kit.proofs.Elements.{In, map_in}
use Rattle.cfg_ast.specs.declared.network.Router.{Router}
use Rattle.cfg_ast.specs.declared.topology.Link.{Link}
use Rattle.cfg_ast.specs.meaning.Topology.{sessions_of, adjacencies_of, links_of}
use Rattle.cfg_check.specs.Faultless.{IsFaultless}
use Rattle.abstract_net.specs.declared.qlink.QLink.{QLink}
use Rattle.abstract_net.specs.Links.{QuotientCarries}
use Rattle.net_topology.proofs.OneProtocol.{no_sessions, no_adjacencies}
use Rattle.config_emit.specs.Plan.{Plan}
use Rattle.config_emit.specs.Emitted.{written_bgp, ospf_of, emitted_router, emitted}
use Rattle.config_emit.specs.Laws.{IsPlan}
use Rattle.emit_form_laws.proofs.Groups.{linked}
use Rattle.emit_link_laws.specs.Laws.{emitted_link, EmittedLinks}
use Rattle.emit_link_laws.proofs.BgpPeers.{bgp_sessions}
use Rattle.emit_link_laws.proofs.OspfSpots.{ospf_adjacencies}
use Rattle.emit_link_laws.proofs.PairedLinks.{AreBetween}
use Rattle.emit_link_laws.proofs.QuotientOrder.{quotient_between}

emitted_in : (e : Plan) (r : Router) → In (emitted e).routers r → (g : ℕ) × (emitted_router e g ≡ r)
unfolding emitted
emitted_in e r at = let made = map_in (emitted_router e) (range_with_len 0 e.count) r at in (made.0, made.2)

pub without_bgp : (e : Plan) → e.problem.protocol ≡ OverOspf → (r : Router) → In (emitted e).routers r → r.bgp ≡ None
without_bgp e over r at = let made = emitted_in e r at in sym (ap (λ (q : Router). q.bgp) made.1) ∙ ap (λ (q : Protocol). written_bgp q e made.0) over

pub without_ospf : (e : Plan) → e.problem.protocol ≡ OverBgp → (r : Router) → In (emitted e).routers r → r.ospf ≡ None
without_ospf e over r at = let made = emitted_in e r at in sym (ap (λ (q : Router). q.ospf) made.1) ∙ ap (λ (q : Protocol). ospf_of q e made.0) over

pub plan_between : (e : Plan) → IsPlan e → AreBetween e.links e.count
plan_between e plan = subst (λ (ls : List QLink). AreBetween ls e.count) (sym plan.links) (quotient_between e.problem.edges e.groups e.count)

-- in OSPF no more is needed of the network of the groups
pub ospf_links : (e : Plan) → IsPlan e → e.problem.protocol ≡ OverOspf → links_of (emitted e) ≡ map (emitted_link e) (enumerate_from 0 e.links)
unfolding links_of
ospf_links e plan over = ap (λ (ls : List Link). ls ++ adjacencies_of (emitted e)) (no_sessions (emitted e) (without_bgp e over))
    ∙ ospf_adjacencies e over (plan_between e plan)

pub bgp_links : QuotientCarries → (e : Plan) → IsPlan e → e.problem.protocol ≡ OverBgp → IsFaultless (emitted e) →
    links_of (emitted e) ≡ map (emitted_link e) (enumerate_from 0 e.links)
unfolding links_of
bgp_links carries e plan over faultless =
    ap (λ (ls : List Link). sessions_of (emitted e) ++ ls) (no_adjacencies (emitted e) (without_ospf e over))
    ∙ append-nil (sessions_of (emitted e))
    ∙ bgp_sessions e over (linked e plan carries over) (plan_between e plan) faultless

by_protocol : QuotientCarries → (e : Plan) → IsPlan e → (q : Protocol) → e.problem.protocol ≡ q → IsFaultless (emitted e) →
    links_of (emitted e) ≡ map (emitted_link e) (enumerate_from 0 e.links)
by_protocol carries e plan OverOspf over faultless = ospf_links e plan over
by_protocol carries e plan OverBgp over faultless = bgp_links carries e plan over faultless

pub emitted_links : QuotientCarries → EmittedLinks
emitted_links carries e plan faultless = by_protocol carries e plan e.problem.protocol refl faultless
