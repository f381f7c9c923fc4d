-- In a network without faults an address of up interfaces is one of one router, in one subnet. Public:
-- crates above may cite it.
use Rattle.std.proofs.Common.{◌≡◌, ℕ, Some, ap}
use Rattle.std.specs.Prelude.{slice_get}
use Rattle.base_kit.proofs.Elements.{In}
use Rattle.cfg_ast.specs.meaning.Addresses.{Address}
use Rattle.cfg_ast.specs.declared.network.Network.{Network}
use Rattle.cfg_ast.specs.declared.network.Router.{Router}
use Rattle.cfg_ast.specs.meaning.RouterFaults.{up_addresses_of}
use Rattle.cfg_ast.specs.meaning.Topology.{first_address}
use Rattle.cfg_check.specs.Faultless.{IsFaultless}
use Rattle.net_topology.specs.Ups.{up_at}
use Rattle.net_topology.specs.declared.ups.Up.{Up}
use Rattle.net_topology.proofs.Apart.{ups_apart}
use Rattle.net_topology.proofs.UpFacts.{in_ups}

pub record AreOneAddress (r s : ℕ) (a b : Address) : Type 0 where
  pub router : r ≡ s
  pub len : a.len ≡ b.len
  pub first : first_address a ≡ first_address b

pub one_address : (n : Network) → IsFaultless n → (r s : ℕ) (u v : Router) (a b : Address) → slice_get n.routers r ≡ Some u → slice_get n.routers s ≡ Some v →
    In (up_addresses_of u) a → In (up_addresses_of v) b → a.addr ≡ b.addr → AreOneAddress r s a b
one_address n faultless r s u v a b at_r at_s a_in b_in same =
    let one : up_at r a ≡ up_at s b = (ups_apart n faultless).addrs (up_at r a) (up_at s b) (in_ups n.routers r u a at_r a_in)
    (in_ups n.routers s v b at_s b_in) same in
    record { router = ap (λ (x : Up). x.at.router) one; len = ap (λ (x : Up). x.at.len) one; first = ap (λ (x : Up). x.at.first) one }
