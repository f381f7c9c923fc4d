-- In the network of the groups each name that a policy line gives is defined, deletion lists have one
-- community a line, and routers prepend only their own AS numbers, and only outbound.
use Rattle.std.proofs.Common.{◌≡◌, ℕ, Bool, true, false, cond, not, List, [], ◌∷◌, ◌++◌, map, ◌⊎◌, inl, inr, Option, Some, None, refl, sym, ◌∙◌, ap, subst, bytes_eq}
use Rattle.std.specs.Prelude.{flat_map}
use Rattle.std.specs.Option.{option_map, option_map_or}
use Rattle.std.specs.List.{list_any, enumerate_from}
use Rattle.base_kit.specs.declared.protocol.Protocol.TheVariants.{Bgp as OverBgp}
use Rattle.base_kit.proofs.Elements.{In, in_map, map_in, in_flat_map, in_left, in_right}
use Rattle.cfg_ast.specs.declared.bgp.BgpProcess.{BgpProcess}
use Rattle.cfg_ast.specs.declared.bgp.Neighbor.{Neighbor}
use Rattle.cfg_ast.specs.declared.network.Named.{Named}
use Rattle.cfg_ast.specs.declared.network.Router.{Router}
use Rattle.cfg_ast.specs.declared.policy.CommunityList.{CommunityList}
use Rattle.cfg_ast.specs.declared.policy.MapEntry.{MapEntry}
use Rattle.cfg_ast.specs.declared.policy.RouteMap.{RouteMap}
use Rattle.cfg_ast.specs.meaning.PolicyFaults.{line_naming, match_line_naming, lacks_map, map_lines_naming, undefined_maps_of, undefined_map_lines, lacks_prefix_list, lacks_community_list, list_lines_naming, entry_lines_naming, lines_in_map_naming, undefined_lists_of, undefined_list_lines}
use Rattle.cfg_ast.specs.meaning.Topology.{neighbors_of}
use Rattle.abstract_net.specs.declared.qlink.QLink.{QLink}
use Rattle.route_maps.specs.declared.plain.Plain.{Plain}
use Rattle.route_maps.specs.declared.plain.PlainEntry.{PlainEntry}
use Rattle.srp_core.specs.Problem.{number}
use Rattle.config_emit.specs.Emitted.{neighbor_at, written_bgp, emitted_router, emitted}
use Rattle.config_emit.specs.Interfaces.{links_at}
use Rattle.config_emit.specs.Maps.{maps_of, deletion_name, named, name_of_list, names_line, number_of_map, written_list, match_lists, deletion_lists, lists_of_entry, lists_of_map, written_entry, denying_entry, written_entries, written_map}
use Rattle.config_emit.specs.Plan.{Plan, small}
use Rattle.emit_fault_laws.proofs.Routers.{of_routers, process_is}
use Rattle.emit_fault_laws.proofs.Uses.{IsNameOf, in_name, out_name}
use Rattle.emit_form_laws.proofs.Groups.{any_in}
use Rattle.emit_form_laws.proofs.Interfaces.{IsLinkOf, link_of}
use Rattle.emit_form_laws.proofs.Names.{bytes_self}
use Rattle.emit_form_laws.proofs.Pairwise.{none_like, flat_none}

-- ---- what a router has

-- a neighbour of the router of a group
pub record IsNeighborOf (e : Plan) (g : ℕ) (n : Neighbor) : Type 0 where
  pub over : e.problem.protocol ≡ OverBgp
  pub place : ℕ
  pub link : QLink
  pub of : IsLinkOf e g place link
  pub is : neighbor_at e g (place, link) ≡ n

pub neighbor_of : (e : Plan) (g : ℕ) (n : Neighbor) → In (neighbors_of (emitted_router e g)) n → IsNeighborOf e g n
neighbor_of e g n h = step (written_bgp e.problem.protocol e g) refl h
  where
    step : (o : Option BgpProcess) → written_bgp e.problem.protocol e g ≡ o → In (option_map_or (λ (process : BgpProcess). process.neighbors) o []) n →
        IsNeighborOf e g n
    step None made h = absurd h
    step (Some b) made h =
        let p = process_is e g b made in
        let m = map_in (neighbor_at e g) (links_at e g) n (subst (λ (x : BgpProcess). In x.neighbors n) (sym p.is) h) in
        record { over = p.over; place = m.0.0; link = m.0.1; of = link_of e g m.0.0 m.0.1 m.1; is = m.2 }

-- an entry of a written map
pub entry_of : (n k : ℕ) (xs : List PlainEntry) (x : MapEntry) → In (written_entries n k xs) x →
    (denying_entry ≡ x) ⊎ ((y : PlainEntry) × In xs y × (written_entry n k y ≡ x))
entry_of n k [] x (inl same) = inl same
entry_of n k [] x (inr h) = absurd h
entry_of n k (y ∷ ys) x h = inr (map_in (written_entry n k) (y ∷ ys) x h)

-- a map of the router of a group
pub record IsWritten (e : Plan) (g : ℕ) (w : RouteMap) : Type 0 where
  pub number_of : ℕ
  pub plain : Plain
  pub numbered : In (enumerate_from 1 (maps_of e g)) (number_of, plain)
  pub is : written_map (number (small e) g) (number_of, plain) ≡ w

pub written_of : (e : Plan) (g : ℕ) (w : RouteMap) → In (emitted_router e g).route_maps w → IsWritten e g w
written_of e g w h = let m = map_in (written_map (number (small e) g)) (enumerate_from 1 (maps_of e g)) w h in
    record { number_of = m.0.0; plain = m.0.1; numbered = m.1; is = m.2 }

-- what holds of each entry that is written, and of the denying one, holds of each entry
pub of_entries : (e : Plan) (g : ℕ) (P : MapEntry → Type 0) → P denying_entry →
    ((k : ℕ) (m : Plain) (x : PlainEntry) → In (enumerate_from 1 (maps_of e g)) (k, m) → In m.entries x → P (written_entry (number (small e) g) k x))
    → (w : RouteMap) → In (emitted_router e g).route_maps w → (entry : MapEntry) → In w.entries entry → P entry
of_entries e g P denied holds w h entry i =
    let of = written_of e g w h in
    elim (entry_of (number (small e) g) of.number_of of.plain.entries entry (subst (λ (z : RouteMap). In z.entries entry) (sym of.is) i)) [
      | inl same ↦ subst P same denied
      | inr y ↦ subst P y.2 (holds of.number_of of.plain y.0 of.numbered y.1)
    ]

-- ---- maps are defined

any_names : (name : List ℕ) (maps : List RouteMap) (w : RouteMap) → In maps w → name ≡ w.name → list_any (λ (m : RouteMap). bytes_eq name m.name) maps ≡ true
any_names name maps w h same = any_in (λ (m : RouteMap). bytes_eq name m.name) maps w h (ap (bytes_eq name) (sym same) ∙ bytes_self name)

named_is_defined : (e : Plan) (g : ℕ) (o : Option Plain) (n : Named) → IsNameOf e g o n → lacks_map (emitted_router e g) n.name ≡ false
named_is_defined e g o n of =
    ap not (any_names n.name (emitted_router e g).route_maps (written_map (number (small e) g) (number_of_map (maps_of e g) of.plain, of.at.written))
    (in_map (written_map (number (small e) g)) (enumerate_from 1 (maps_of e g)) (number_of_map (maps_of e g) of.plain, of.at.written) of.at.at) of.is)

pub no_line : (test : List ℕ → Bool) (o : Option Named) → ((n : Named) → o ≡ Some n → test n.name ≡ false) → line_naming test o ≡ []
no_line test None clear = refl
no_line test (Some n) clear = ap (λ b. cond b (n.line ∷ []) []) (clear n refl)

two_empty : (xs ys : List ℕ) → xs ≡ [] → ys ≡ [] → xs ++ ys ≡ []
two_empty xs ys e f = rw (e, f) refl

pub no_undefined_map : (e : Plan) → undefined_map_lines (emitted e) ≡ []
unfolding undefined_map_lines
no_undefined_map e =
    flat_none undefined_maps_of (emitted e).routers
    (of_routers e (λ r. undefined_maps_of r ≡ [])
    (λ g below.
    flat_none (map_lines_naming (lacks_map (emitted_router e g))) (neighbors_of (emitted_router e g))
    (λ n h.
    let of = neighbor_of e g n h in
    subst (λ (x : Neighbor). map_lines_naming (lacks_map (emitted_router e g)) x ≡ []) of.is
    (two_empty (line_naming (lacks_map (emitted_router e g)) (neighbor_at e g (of.place, of.link)).map_in)
    (line_naming (lacks_map (emitted_router e g)) (neighbor_at e g (of.place, of.link)).map_out)
    (no_line (lacks_map (emitted_router e g)) (neighbor_at e g (of.place, of.link)).map_in
    (λ m made. named_is_defined e g _ m (in_name e g of.link m of.over of.of.link_in of.of.touched made)))
    (no_line (lacks_map (emitted_router e g)) (neighbor_at e g (of.place, of.link)).map_out
    (λ m made. named_is_defined e g _ m (out_name e g of.link m of.over of.of.link_in of.of.touched made)))))))

-- ---- lists are defined

list_in_router : (e : Plan) (g k : ℕ) (m : Plain) (x : PlainEntry) (c : CommunityList) → In (enumerate_from 1 (maps_of e g)) (k, m) → In m.entries x →
    In (lists_of_entry k x) c → In (emitted_router e g).community_lists c
list_in_router e g k m x c at here h = in_flat_map lists_of_map (enumerate_from 1 (maps_of e g)) (k, m) c at
    (in_flat_map (lists_of_entry k) m.entries x c here h)

list_is_defined : (r : Router) (c : CommunityList) (name : List ℕ) → In r.community_lists c → c.name ≡ name → lacks_community_list r name ≡ false
list_is_defined r c name h same = ap not
    (any_in (λ (list : CommunityList). bytes_eq name list.name) r.community_lists c h (ap (bytes_eq name) same ∙ bytes_self name))

entry_defined : (e : Plan) (g k : ℕ) (m : Plain) (x : PlainEntry) → In (enumerate_from 1 (maps_of e g)) (k, m) → In m.entries x
    → entry_lines_naming (lacks_prefix_list (emitted_router e g)) (lacks_community_list (emitted_router e g)) (written_entry (number (small e) g) k x) ≡ []
entry_defined e g k m x at here = two_empty (matches x.lists) (deletes x.delete) (matches_none x.lists) (deletes_none x.delete refl)
  where
    r : Router
    r = emitted_router e g

    matches : Option (List CommunityList) → List ℕ
    matches o = [] ++ match_line_naming (lacks_community_list r) (option_map (λ (ls : List CommunityList). names_line (match_lists k x)) o)

    deletes : Option CommunityList → List ℕ
    deletes o = line_naming (lacks_community_list r) (option_map (λ (list : CommunityList). named (deletion_name k x.seq)) o)

    none_lacks : list_any (lacks_community_list r) (map name_of_list (match_lists k x)) ≡ false
    none_lacks =
        none_like (lacks_community_list r) (map name_of_list (match_lists k x))
        (λ name h. let c = map_in name_of_list (match_lists k x) name h in
        list_is_defined r c.0 name (list_in_router e g k m x c.0 at here (in_left (match_lists k x) (deletion_lists k x) c.0 c.1)) c.2)

    matches_none : (o : Option (List CommunityList)) → matches o ≡ []
    matches_none None = refl
    matches_none (Some ls) = ap (λ b. cond b (0 ∷ []) []) none_lacks

    deletes_none : (o : Option CommunityList) → x.delete ≡ o → deletes o ≡ []
    deletes_none None is = refl
    deletes_none (Some list) is =
        ap (λ b. cond b (0 ∷ []) [])
        (list_is_defined r (written_list (deletion_name k x.seq) list) (deletion_name k x.seq)
        (list_in_router e g k m x (written_list (deletion_name k x.seq) list) at here
        (in_right (match_lists k x) (deletion_lists k x) (written_list (deletion_name k x.seq) list)
        (subst (λ (o : Option CommunityList). In (option_map_or (λ (l : CommunityList). written_list (deletion_name k x.seq) l ∷ []) o [])
        (written_list (deletion_name k x.seq) list)) (sym is) (inl refl)))) refl)

pub no_undefined_list : (e : Plan) → undefined_list_lines (emitted e) ≡ []
unfolding undefined_list_lines
no_undefined_list e =
    flat_none undefined_lists_of (emitted e).routers
    (of_routers e (λ r. undefined_lists_of r ≡ [])
    (λ g below.
    two_empty (flat_map (list_lines_naming (lacks_prefix_list (emitted_router e g))) (neighbors_of (emitted_router e g)))
    (flat_map (lines_in_map_naming (lacks_prefix_list (emitted_router e g)) (lacks_community_list (emitted_router e g))) (emitted_router e g).route_maps)
    (flat_none (list_lines_naming (lacks_prefix_list (emitted_router e g))) (neighbors_of (emitted_router e g))
    (λ n h. let of = neighbor_of e g n h in subst (λ (x : Neighbor). list_lines_naming (lacks_prefix_list (emitted_router e g)) x ≡ []) of.is refl))
    (flat_none (lines_in_map_naming (lacks_prefix_list (emitted_router e g)) (lacks_community_list (emitted_router e g))) (emitted_router e g).route_maps
    (λ w h.
    flat_none (entry_lines_naming (lacks_prefix_list (emitted_router e g)) (lacks_community_list (emitted_router e g))) w.entries
    (of_entries e g (λ entry. entry_lines_naming (lacks_prefix_list (emitted_router e g)) (lacks_community_list (emitted_router e g)) entry ≡ []) refl
    (λ k m x at here. entry_defined e g k m x at here) w h)))))
