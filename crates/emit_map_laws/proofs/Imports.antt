-- What a session of the network of the groups imports is what the act of its link imports.
use Rattle.std.proofs.Common.{◌≡◌, ◌≢◌, ℕ, ◌≤◌, Bool, true, false, List, [], ◌∷◌, length, Option, Some, None, refl, sym, ap, ◌∙◌, subst, inl, inr}
use Rattle.std.specs.Prelude.{if◌then◌else◌}
use Rattle.base_kit.specs.Prefixes.{Prefix}
use Rattle.base_kit.specs.declared.protocol.Protocol.TheVariants.{Bgp as OverBgp}
use Rattle.base_kit.proofs.Elements.{In, in_left, in_right}
use Rattle.base_kit.proofs.SetFacts.{same_number, other_number}
use Rattle.cfg_ast.specs.declared.bgp.Neighbor.{Neighbor}
use Rattle.cfg_ast.specs.declared.network.Router.{Router}
use Rattle.cfg_ast.specs.meaning.Policy.{name_of}
use Rattle.cfg_ast.specs.printing.WellFormed.{IsWellFormedRouter}
use Rattle.abstract_net.specs.Carried.{IsJoined}
use Rattle.abstract_net.specs.Links.{QuotientCarries}
use Rattle.abstract_net.specs.declared.qlink.QLink.{QLink}
use Rattle.route_maps.specs.Maps.{verdict, accepted, received, import_of}
use Rattle.route_maps.specs.Sessions.{session_import}
use Rattle.route_maps.specs.declared.plain.Plain.{Plain}
use Rattle.route_maps.specs.declared.plain.PlainEntry.{PlainEntry}
use Rattle.route_maps.specs.declared.plain.Verdict.{Verdict}
use Rattle.route_maps.specs.declared.plain.Verdict.TheVariants.{Deny, Permit}
use Rattle.specialize.specs.OnePrefix.{plain_of}
use Rattle.specialize.specs.Sessions.{ImportAsSession}
use Rattle.srp_core.specs.Acts.{import_by}
use Rattle.srp_core.specs.declared.route.Act.{Act}
use Rattle.srp_core.specs.declared.route.Act.TheVariants.{Import, Cost}
use Rattle.srp_quotient.specs.Groups.{touches}
use Rattle.config_emit.specs.Emitted.{emitted_router, neighbor_at}
use Rattle.config_emit.specs.Laws.{IsPlan}
use Rattle.config_emit.specs.Maps.{other_end, closed_map, act_in_map, act_out_map, sends_by, is_whole, if_written, maps_at, maps_of, name_of_map}
use Rattle.config_emit.specs.Plan.{Plan, act_into}
use Rattle.emit_form_laws.proofs.Groups.{IsEnd}
use Rattle.emit_map_laws.specs.Laws.{imported_by}
use Rattle.emit_map_laws.proofs.Origins.{no_own}
use Rattle.emit_map_laws.proofs.Verdicts.{by_name, closed_by_name}

-- the other end of the other end
back_again : (g h : ℕ) (l : QLink) → IsJoined l g h → g ≢ h → other_end h l ≡ g
back_again g h l (inl low) apart = ap (λ b. if b then l.high else l.low) (other_number l.low h (λ same. apart (sym low.0 ∙ same))) ∙ low.0
back_again g h l (inr top) apart = ap (λ b. if b then l.high else l.low) (same_number l.low h top.1) ∙ top.0

-- ---- imports by verdicts

received_alike : (sends : Bool) (xs ys : List PlainEntry) (v : Verdict) → ((comms : List ℕ) → verdict xs comms ≡ verdict ys comms) →
    received sends xs v ≡ received sends ys v
received_alike sends xs ys Deny same = refl
received_alike sends xs ys (Permit lp comms adds) same = ap (accepted adds) (same (if sends then comms else []))

nothing : (sends : Bool) (xs : List PlainEntry) (v : Verdict) → ((comms : List ℕ) → verdict xs comms ≡ Deny) → received sends xs v ≡ None
nothing sends xs Deny deny = refl
nothing sends xs (Permit lp comms adds) deny = ap (accepted adds) (deny (if sends then comms else []))

used_in : (a : Plain) → is_whole a.entries ≡ false → In (if_written (Some a)) a
used_in a is = subst (λ (b : Bool). In (if b then [] else a ∷ []) a) (sym is) (inl refl)

module _ (e : Plan) (plan : IsPlan e) (law : QuotientCarries) (few : length e.links ≤ 1048576) (bgp : e.problem.protocol ≡ OverBgp) (p : Prefix) (g h : ℕ)
    (l : QLink) (at : In e.links l) (touched : touches g l ≡ true) (end : IsEnd e g l h) where
  in_here : (m : Plain) → act_in_map (act_into e g l) ≡ m → is_whole m.entries ≡ false → In (maps_at e g l) m
  in_here m is written = in_left (if_written (Some (act_in_map (act_into e g l)))) (if_written (act_out_map (act_into e (other_end g l) l))) m
      (subst (λ (x : Plain). In (if_written (Some x)) m) (sym is) (used_in m written))

  out_there : (m : Plain) → act_out_map (act_into e g l) ≡ Some m → is_whole m.entries ≡ false → In (maps_at e h l) m
  out_there m is written =
      let side : act_out_map (act_into e (other_end h l) l) ≡ Some m = ap (λ k. act_out_map (act_into e k l)) (back_again g h l end.joined end.apart) ∙ is in
      in_right (if_written (Some (act_in_map (act_into e h l)))) (if_written (act_out_map (act_into e (other_end h l) l))) m
      (subst (λ (o : Option Plain). In (if_written o) m) (sym side) (used_in m written))

  -- what the session imports, its maps being those of an act
  pub by_act : (o : Option Act) → act_into e g l ≡ o → (comms : List ℕ)
      → import_of (plain_of (emitted_router e h) (name_of (name_of_map (maps_of e h) (act_out_map o))) None p false) (sends_by o)
      (plain_of (emitted_router e g) (name_of (name_of_map (maps_of e g) (Some (act_in_map o)))) None p true) comms ≡ imported_by o comms
  unfolding import_by
  by_act None is comms =
      nothing false (plain_of (emitted_router e g) (name_of (name_of_map (maps_of e g) (Some closed_map))) None p true).entries
      (verdict (plain_of (emitted_router e h) None None p false).entries comms)
      (λ cs. closed_by_name e plan few bgp g l p true cs at touched (in_here closed_map (ap act_in_map is) refl))
  by_act (Some (Cost cost)) is comms =
      nothing false (plain_of (emitted_router e g) (name_of (name_of_map (maps_of e g) (Some closed_map))) None p true).entries
      (verdict (plain_of (emitted_router e h) None None p false).entries comms)
      (λ cs. closed_by_name e plan few bgp g l p true cs at touched (in_here closed_map (ap act_in_map is) refl))
  by_act (Some (Import out sends into)) is comms =
      let own = no_own e plan law bgp g l at touched (Import out sends into) is in
      let there = by_name e plan few bgp h l out p false comms at end.touched (out_there out (ap act_out_map is)) refl in
      let here : (cs : List ℕ) → verdict (plain_of (emitted_router e g) (name_of (name_of_map (maps_of e g) (Some into))) None p true).entries cs ≡ verdict
      into.entries cs =
      λ cs. by_name e plan few bgp g l into p true cs at touched (in_here into (ap act_in_map is)) own in
      ap (received sends (plain_of (emitted_router e g) (name_of (name_of_map (maps_of e g) (Some into))) None p true).entries) there
      ∙ received_alike sends (plain_of (emitted_router e g) (name_of (name_of_map (maps_of e g) (Some into))) None p true).entries into.entries
      (verdict out.entries comms) here

  pub session : ((exporter importer : Router) (out into : Neighbor) → IsWellFormedRouter exporter → IsWellFormedRouter importer →
      ImportAsSession p exporter out importer into)
      → IsWellFormedRouter (emitted_router e h) → IsWellFormedRouter (emitted_router e g) → (t : ℕ) (comms : List ℕ)
      → session_import p (emitted_router e h) (neighbor_at e h (t, l)) (emitted_router e g) (neighbor_at e g (t, l)) comms ≡ imported_by (act_into e g l) comms
  session as_session well_there well_here t comms =
      sym (as_session (emitted_router e h) (emitted_router e g) (neighbor_at e h (t, l)) (neighbor_at e g (t, l)) well_there well_here comms)
      ∙ ap (λ k. import_of (plain_of (emitted_router e h) (name_of (name_of_map (maps_of e h) (act_out_map (act_into e k l)))) None p false)
      (sends_by (act_into e k l)) (plain_of (emitted_router e g) (name_of (name_of_map (maps_of e g) (Some (act_in_map (act_into e g l))))) None p true)
      comms) (back_again g h l end.joined end.apart)
      ∙ by_act (act_into e g l) refl comms
