-- The routers of the network of the groups, one for each group in order.
use Rattle.std.proofs.Common.{◌≡◌, ◌≢◌, ℕ, ◌<◌, Bool, true, false, cond, Some, None, refl, sym, ◌∙◌, ap, subst, arith, nat_eq}
use Rattle.std.specs.Prelude.{slice_index}
use Rattle.std.specs.List.{range_with_len}
use Rattle.base_kit.specs.declared.protocol.Protocol.{Protocol}
use Rattle.base_kit.specs.declared.protocol.Protocol.TheVariants.{Bgp as OverBgp, Ospf as OverOspf}
use Rattle.base_kit.proofs.Elements.{In, map_in, range_in}
use Rattle.base_kit.proofs.SetFacts.{same_number}
use Rattle.cfg_ast.specs.declared.bgp.BgpProcess.{BgpProcess}
use Rattle.cfg_ast.specs.declared.network.Router.{Router}
use Rattle.srp_core.specs.Problem.{number}
use Rattle.srp_quotient.specs.Groups.{first_member}
use Rattle.config_emit.specs.Emitted.{process_of, written_bgp, emitted_router, emitted}
use Rattle.config_emit.specs.Plan.{Plan, small}
use Rattle.emit_form_laws.proofs.Groups.{HasFirst}
use Rattle.emit_form_laws.proofs.Pairwise.{IsPairwise, weaker, pairs_map, range_pairs}

-- a router is that of a group
pub record IsRouterOf (e : Plan) (r : Router) : Type 0 where
  pub group : ℕ
  pub below : group < e.count
  pub is : emitted_router e group ≡ r

pub router_of_group : (e : Plan) (r : Router) → In (emitted e).routers r → IsRouterOf e r
unfolding emitted
router_of_group e r h =
    let m = map_in (emitted_router e) (range_with_len 0 e.count) r h in
    record { group = m.0; below = (let below = range_in 0 e.count m.0 m.1 in omega arith); is = m.2 }

-- what holds of the routers of each group holds of each router
pub of_routers : (e : Plan) (P : Router → Type 0) → ((g : ℕ) → g < e.count → P (emitted_router e g)) → (r : Router) → In (emitted e).routers r → P r
of_routers e P holds r h = let of = router_of_group e r h in subst P of.is (holds of.group of.below)

-- what holds of the routers of each two groups holds of each two routers
pub router_pairs : (e : Plan) (R : Router → Router → Type 0) → ((g h : ℕ) → g < e.count → h < e.count → g ≢ h → R (emitted_router e g) (emitted_router e h)) →
    IsPairwise R (emitted e).routers
unfolding emitted
router_pairs e R holds =
    pairs_map (emitted_router e) R (range_with_len 0 e.count)
    (weaker (λ (g h : ℕ). g < h) (λ (g h : ℕ). R (emitted_router e g) (emitted_router e h)) (range_with_len 0 e.count)
    (λ g h i k less. (let a = range_in 0 e.count g i in let b = range_in 0 e.count h k in holds g h (omega arith) (omega arith) (λ same. absurd (omega arith))))
    (range_pairs 0 e.count))

-- different groups have different first members
pub firsts_differ : (e : Plan) (g h : ℕ) → g ≢ h → HasFirst e g → HasFirst e h → first_member e.groups g ≢ first_member e.groups h
firsts_differ e g h other f k same = other (sym f.group ∙ ap (slice_index e.groups) same ∙ k.group)

-- the process of a group
pub record IsProcessOf (e : Plan) (g : ℕ) (b : BgpProcess) : Type 0 where
  pub over : e.problem.protocol ≡ OverBgp
  pub some : number (small e) g ≢ 0
  pub is : process_of e g ≡ b

pub process_is : (e : Plan) (g : ℕ) (b : BgpProcess) → written_bgp e.problem.protocol e g ≡ Some b → IsProcessOf e g b
process_is e g b made = step e.problem.protocol refl made
  where
    by_test : (t : Bool) → nat_eq (number (small e) g) 0 ≡ t → cond t None (Some (process_of e g)) ≡ Some b → (number (small e) g ≢ 0) × (process_of e g ≡ b)
    by_test true is e = absurd cc
    by_test false is e = (λ zero. (let f = same_number _ 0 zero in cc), cc)

    step : (q : Protocol) → e.problem.protocol ≡ q → written_bgp q e g ≡ Some b → IsProcessOf e g b
    step OverOspf over made = absurd cc
    step OverBgp over made = let t = by_test (nat_eq (number (small e) g) 0) refl made in record { over = over; some = t.0; is = t.1 }
