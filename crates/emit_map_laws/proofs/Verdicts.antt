-- A map has the same verdicts under the name that a neighbour gives for it.
use Rattle.std.proofs.Common.{◌≡◌, ℕ, ◌^◌, ◌<◌, ◌≤◌, Bool, true, false, not, ◌&&◌, List, [], ◌∷◌, length, Option, Some, None, refl, sym, ap, ◌∙◌, subst, arith, nat_eq}
use Rattle.std.specs.Prelude.{flat_map, filter, is_some, if◌then◌else◌}
use Rattle.std.proofs.lemmas.Bool.Decides.{nat_tests}
use Rattle.base_kit.specs.Prefixes.{Prefix}
use Rattle.base_kit.specs.declared.protocol.Protocol.TheVariants.{Bgp as OverBgp}
use Rattle.base_kit.proofs.Elements.{In, in_flat_map, in_filter}
use Rattle.cfg_ast.specs.meaning.Classes.{same_items}
use Rattle.cfg_ast.specs.meaning.Policy.{name_of}
use Rattle.abstract_net.specs.declared.qlink.QLink.{QLink}
use Rattle.route_maps.specs.Maps.{verdict}
use Rattle.route_maps.specs.Same.{same_entry, same_map}
use Rattle.route_maps.specs.declared.plain.Plain.{Plain}
use Rattle.route_maps.specs.declared.plain.PlainEntry.{PlainEntry}
use Rattle.route_maps.specs.declared.plain.Verdict.TheVariants.{Deny, Permit}
use Rattle.route_maps.proofs.SameVerdicts.{same_verdict}
use Rattle.specialize.specs.OnePrefix.{plain_of, own_preference, whole_entry}
use Rattle.srp_quotient.specs.Groups.{touches}
use Rattle.config_emit.specs.Emitted.{emitted_router}
use Rattle.config_emit.specs.Laws.{IsPlan}
use Rattle.config_emit.specs.Maps.{is_whole, maps_at, firsts, maps_of, maps_over, map_name, number_of_map, name_of_map, closed_map}
use Rattle.config_emit.specs.Plan.{Plan}
use Rattle.emit_form_laws.proofs.Policies.{map_of, map_prints, few_maps}
use Rattle.emit_map_laws.proofs.Firsts.{IsAtNumber, at_number}
use Rattle.emit_map_laws.proofs.Lookups.{ArePrintable}
use Rattle.emit_map_laws.proofs.WrittenBack.{written_back, closed_back}

-- ---- a map that is written as no line

parts : (a b : Bool) → (a && b) ≡ true → (a ≡ true) × (b ≡ true)
parts true b e = (refl, e)
parts false b e = absurd cc

none_is : {X : Type 0} (o : Option X) → not (is_some o) ≡ true → o ≡ None
none_is None e = refl
none_is (Some x) e = absurd cc

zero_is : (n : ℕ) → nat_eq n 0 ≡ true → n ≡ 0
zero_is n e = grind (arith, nat_tests)

whole_verdict : (xs : List PlainEntry) (comms : List ℕ) → is_whole xs ≡ true → verdict xs comms ≡ Permit None comms 0
whole_verdict [] comms e = absurd cc
whole_verdict (x ∷ []) comms e =
    let a = parts x.permit _ e in
    let b = parts (not (is_some x.lists)) _ a.1 in
    let c = parts (not (is_some x.lp)) _ b.1 in
    let d = parts (not (is_some x.change)) _ c.1 in
    let f = parts (not (is_some x.delete)) _ d.1 in
    let permit = a.0 in
    let lists = none_is x.lists b.0 in
    let lp = none_is x.lp c.0 in
    let change = none_is x.change d.0 in
    let delete = none_is x.delete f.0 in
    let adds = zero_is x.adds f.1 in
    let plain : x ≡ record x { permit = true; lists = None; lp = None; change = None; delete = None; adds = 0 } =
    λ i. record { seq = x.seq; permit = permit i; lists = lists i; lp = lp i; change = change i; delete = delete i; adds = adds i; exact = x.exact } in
    ap (λ (y : PlainEntry). verdict (y ∷ []) comms) plain
whole_verdict (x ∷ y ∷ xs) comms e = absurd cc

-- ---- by name

maps_are : (e : Plan) (g : ℕ) → e.problem.protocol ≡ OverBgp → maps_of e g ≡ firsts [] (flat_map (maps_at e g) (filter (touches g) e.links))
unfolding maps_of
maps_are e g bgp = ap (λ q. maps_over q e g) bgp

used_at : (e : Plan) (g : ℕ) (l : QLink) (m : Plain) → In e.links l → touches g l ≡ true → In (maps_at e g l) m →
    In (flat_map (maps_at e g) (filter (touches g) e.links)) m
used_at e g l m at touched used = in_flat_map (maps_at e g) (filter (touches g) e.links) l m (in_filter (touches g) e.links l at touched) used

numbered : (e : Plan) (g : ℕ) (l : QLink) (m : Plain) → e.problem.protocol ≡ OverBgp → In e.links l → touches g l ≡ true → In (maps_at e g l) m →
    IsAtNumber m (maps_of e g)
numbered e g l m bgp at touched used = subst (IsAtNumber m) (sym (maps_are e g bgp))
    (at_number m (flat_map (maps_at e g) (filter (touches g) e.links)) (used_at e g l m at touched used))

module _ (e : Plan) (plan : IsPlan e) (few : length e.links ≤ 1048576) (bgp : e.problem.protocol ≡ OverBgp) (g : ℕ) where
  short : length (maps_of e g) < 2 ^ 32
  short = let n = few_maps e few g in omega arith

  print : ArePrintable (maps_of e g)
  print m at = map_prints e plan g m (map_of e g m at)

  -- of a map that a link of the group uses, where the router has no preference of its own
  pub by_name : (l : QLink) (m : Plain) (p : Prefix) (inbound : Bool) (comms : List ℕ) → In e.links l → touches g l ≡ true →
      (is_whole m.entries ≡ false → In (maps_at e g l) m) → own_preference (emitted_router e g) inbound ≡ None
      → verdict (plain_of (emitted_router e g) (name_of (name_of_map (maps_of e g) (Some m))) None p inbound).entries comms ≡ verdict m.entries comms
  by_name l m p inbound comms at touched used own = step (is_whole m.entries) refl
    where
      step : (b : Bool) → is_whole m.entries ≡ b
          → verdict (plain_of (emitted_router e g) (name_of (if b then None else Some (record { name = map_name (number_of_map (maps_of e g) m); line = 0 })))
          None p inbound).entries comms ≡ verdict m.entries comms
      step true is = ap (λ o. verdict (whole_entry o ∷ []) comms) own ∙ sym (whole_verdict m.entries comms is)
      step false is =
          let n = numbered e g l m bgp at touched (used is) in
          written_back (emitted_router e g) (maps_of e g) _ refl refl short print (number_of_map (maps_of e g) m) n.other n.at p inbound comms own
          ∙ sym (same_verdict m n.other comms n.same)

  no_entries : (xs : List PlainEntry) → same_items same_entry [] xs ≡ true → xs ≡ []
  no_entries [] e = refl
  no_entries (x ∷ xs) e = absurd cc

  same_as_closed : (m : Plain) → same_map closed_map m ≡ true → m.entries ≡ []
  unfolding same_map
  same_as_closed m e = no_entries m.entries e

  -- the map that closes a direction denies
  pub closed_by_name : (l : QLink) (p : Prefix) (inbound : Bool) (comms : List ℕ) → In e.links l → touches g l ≡ true → In (maps_at e g l) closed_map
      → verdict (plain_of (emitted_router e g) (name_of (name_of_map (maps_of e g) (Some closed_map))) None p inbound).entries comms ≡ Deny
  closed_by_name l p inbound comms at touched used =
      let n = numbered e g l closed_map bgp at touched used in
      closed_back (emitted_router e g) (maps_of e g) _ refl refl short print (number_of_map (maps_of e g) closed_map) n.other n.at
      (same_as_closed n.other n.same) p inbound comms
