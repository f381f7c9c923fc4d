-- The network of the groups has one protocol and one area.
use Rattle.std.proofs.Common.{◌≡◌, ℕ, Bool, true, not, List, [], ◌∷◌, ◌++◌, map, Option, Some, None, inl, inr, refl, sym, ◌∙◌, ap}
use Rattle.std.specs.Option.{option_map, option_map_or}
use Rattle.base_kit.specs.declared.protocol.Protocol.{Protocol}
use Rattle.base_kit.specs.declared.protocol.Protocol.TheVariants as protocol
use Rattle.base_kit.proofs.Elements.{In, flat_map_in, filter_map_in}
use Rattle.base_kit.proofs.SetFacts.{same_number}
use Rattle.cfg_ast.specs.meaning.Addresses.{Address}
use Rattle.cfg_ast.specs.declared.bgp.BgpProcess.{BgpProcess}
use Rattle.cfg_ast.specs.declared.interface.Interface.{Interface}
use Rattle.cfg_ast.specs.declared.network.Router.{Router}
use Rattle.cfg_ast.specs.declared.ospf.AreaLine.{AreaLine}
use Rattle.cfg_ast.specs.declared.ospf.OspfProcess.{OspfProcess}
use Rattle.cfg_ast.specs.meaning.RouterFaults.{unlike_first, ProtocolLine, lines_in_order, protocol_lines_of, protocol_lines, is_same_protocol, same_protocol, mixed_protocol_lines, areas_of, area_lines, other_area_lines}
use Rattle.cfg_check.specs.Items.{line_of_protocol, area_line as line_of_area, same_area}
use Rattle.config_emit.specs.Emitted.{written_bgp, host_area_line, ospf_on, area_number, ospf_of, emitted}
use Rattle.config_emit.specs.Interfaces.{class_interfaces, link_interfaces}
use Rattle.config_emit.specs.Plan.{Plan}
use Rattle.emit_fault_laws.proofs.Routers.{of_routers}
use Rattle.emit_form_laws.proofs.Pairwise.{filter_none}

none_unlike : {X : Type 0} (alike : X → X → Bool) (xs : List X) → ((x y : X) → In xs x → In xs y → alike x y ≡ true) → unlike_first alike xs ≡ []
none_unlike alike [] same = refl
none_unlike alike (x ∷ xs) same = filter_none (λ y. not (alike x y)) xs (λ y h. ap not (same x y (inl refl) (inr h)))

-- ---- one protocol

same_itself : (q : Protocol) → is_same_protocol q q ≡ true
same_itself protocol.Bgp = refl
same_itself protocol.Ospf = refl

one_line : (q : Protocol) (e : Plan) (g : ℕ) (l : ProtocolLine) → In (lines_in_order (written_bgp q e g) (ospf_of q e g)) l → l.protocol ≡ q
one_line protocol.Bgp e g l h = step (written_bgp protocol.Bgp e g) h
  where
    step : (o : Option BgpProcess) → In (lines_in_order o None) l → l.protocol ≡ protocol.Bgp
    step None h = absurd h
    step (Some b) (inl same) = ap (λ (x : ProtocolLine). x.protocol) (sym same)
    step (Some b) (inr h) = absurd h
one_line protocol.Ospf e g l h = step (ospf_of protocol.Ospf e g) h
  where
    step : (o : Option OspfProcess) → In (lines_in_order None o) l → l.protocol ≡ protocol.Ospf
    step None h = absurd h
    step (Some b) (inl same) = ap (λ (x : ProtocolLine). x.protocol) (sym same)
    step (Some b) (inr h) = absurd h

-- each `router` line has the protocol of the problem
pub protocol_is : (e : Plan) (l : ProtocolLine) → In (protocol_lines (emitted e)) l → l.protocol ≡ e.problem.protocol
protocol_is e l h =
    let r = flat_map_in protocol_lines_of (emitted e).routers l h in
    of_routers e (λ (x : Router). In (protocol_lines_of x) l → l.protocol ≡ e.problem.protocol) (λ g below here. one_line e.problem.protocol e g l here) r.0 r.1
    r.2

pub no_mixed_protocols : (e : Plan) → mixed_protocol_lines (emitted e) ≡ []
unfolding mixed_protocol_lines
no_mixed_protocols e =
    ap (map line_of_protocol)
    (none_unlike same_protocol (protocol_lines (emitted e))
    (λ l m h k. ap (λ q. is_same_protocol q m.protocol) (protocol_is e l h) ∙ ap (is_same_protocol e.problem.protocol) (protocol_is e m k)
    ∙ same_itself e.problem.protocol))

-- ---- one area

made_area : (area : ℕ) (x : Interface) (l : AreaLine) → host_area_line area x ≡ Some l → l.area ≡ area
made_area area x l made = step x.address made
  where
    step : (o : Option Address) → option_map (λ (a : Address). let line : AreaLine = record { addr = a.addr; wild = 0; area = area; line = 0 } in line) o ≡ Some
        l → l.area ≡ area
    step None e = absurd cc
    step (Some a) e = let same : ◌≡◌ {A = AreaLine} (record { addr = a.addr; wild = 0; area = area; line = 0 }) l = cc in
        ap (λ (x : AreaLine). x.area) (sym same)

one_area : (q : Protocol) (e : Plan) (g : ℕ) (l : AreaLine) → In (option_map_or (λ (process : OspfProcess). process.areas) (ospf_of q e g) []) l →
    l.area ≡ area_number e
one_area protocol.Bgp e g l h = absurd h
one_area protocol.Ospf e g l h = step (class_interfaces e g ++ link_interfaces e g) h
  where
    step : (xs : List Interface) → In (option_map_or (λ (process : OspfProcess). process.areas) (ospf_on (area_number e) (class_interfaces e g) xs) []) l →
        l.area ≡ area_number e
    step [] h = absurd h
    step (x ∷ xs) h = let f = filter_map_in (host_area_line (area_number e)) (x ∷ xs) l h in made_area (area_number e) f.0 l f.2

pub no_other_area : (e : Plan) → other_area_lines (emitted e) ≡ []
unfolding other_area_lines
no_other_area e =
    ap (map line_of_area)
    (none_unlike same_area (area_lines (emitted e)) (λ l m h k. same_number l.area m.area (area_is l h ∙ sym (area_is m k))))
  where
    area_is : (l : AreaLine) → In (area_lines (emitted e)) l → l.area ≡ area_number e
    area_is l h =
        let r = flat_map_in areas_of (emitted e).routers l h in
        of_routers e (λ (x : Router). In (areas_of x) l → l.area ≡ area_number e) (λ g below here. one_area e.problem.protocol e g l here) r.0 r.1 r.2
