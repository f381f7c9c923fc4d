-- Each class has a problem, in either protocol.
use Rattle.std.proofs.Common.{◌≡◌, ℕ, ◌<◌, ◌≤◌, ◌^◌, List, [], ◌∷◌, length, Option, Some, None, refl, arith, inl}
use Rattle.std.specs.Prelude.{Contains}
use Rattle.base_kit.specs.declared.protocol.Protocol.{Protocol}
use Rattle.base_kit.specs.declared.protocol.Protocol.TheVariants as protocol
use Rattle.base_kit.specs.Prefixes.{Prefix}
use Rattle.base_kit.proofs.Elements.{contains_in}
use Rattle.by_key.proofs.KeyedItems.{length_by_key}
use Rattle.by_key.specs.ByKey.{by_key}
use Rattle.cfg_ast.specs.declared.classes.DestClass.{DestClass}
use Rattle.cfg_ast.specs.declared.network.Network.{Network}
use Rattle.cfg_ast.specs.meaning.Classes.{classes_of}
use Rattle.cfg_ast.specs.meaning.PolicyFaults.{communities_of}
use Rattle.cfg_ast.specs.meaning.RouterFaults.{protocol_of}
use Rattle.cfg_ast.specs.meaning.Topology.{links_of}
use Rattle.cfg_ast.specs.text.Reading.{IsGiven}
use Rattle.cfg_check.specs.Faultless.{IsFaultless}
use Rattle.cfg_check.proofs.Faultless.{few_routers}
use Rattle.given_laws.specs.Laws.{GivenIsWellFormed}
use Rattle.net_topology.specs.Laws.{FewLinks}
use Rattle.srp_build.specs.declared.hops.Hop.{Hop}
use Rattle.srp_build.specs.Directions.{directions_of}
use Rattle.srp_build.specs.Hops.{hops_of, sorted_by_ends}
use Rattle.srp_build.proofs.BgpChecked.{is_bgp}
use Rattle.srp_build.proofs.ClassPrefixes.{has_prefix}
use Rattle.srp_build.proofs.NoClasses.{no_class}
use Rattle.srp_build.proofs.OspfChecked.{is_ospf}
use Rattle.srp_build.proofs.SortedHops.{length-hops_of}
use Rattle.srp_build.specs.Exists.{HasProblem, HasSamples, SamplesGiveProblems}
use Rattle.srp_build.proofs.BgpExists as bgp
use Rattle.srp_build.proofs.OspfExists as ospf

length_sorted : (count : ℕ) (hops : List Hop) → length (sorted_by_ends count hops) ≤ length hops
unfolding sorted_by_ends
length_sorted count hops =
    let first = length_by_key (λ (hop : Hop). hop.exporter) count hops in
    let second = length_by_key (λ (hop : Hop). hop.importer) count (by_key (λ (hop : Hop). hop.exporter) count hops) in
    omega arith

few_directions : (n : Network) → length (links_of n) ≤ 1048576 → length (directions_of n) < 2 ^ 32
few_directions n few =
    let sorted = length_sorted (length n.routers) (hops_of (links_of n)) in
    let twice = length-hops_of (links_of n) in
    omega arith

first_of : (prefixes : List Prefix) → 0 < length prefixes → (p : Prefix) × Contains prefixes p
first_of [] some = absurd (omega arith)
first_of (p ∷ ps) some = (p, contains_in (p ∷ ps) p (inl refl))

module _ (few_links : FewLinks) (formed : GivenIsWellFormed) (samples : (universe : List ℕ) → HasSamples universe) (n : Network) (given : ∥ IsGiven n ∥₁)
    (faultless : IsFaultless n) (class : DestClass)
    (has : Contains (classes_of n) class) where
  by : (o : Option Protocol) → protocol_of n ≡ o → HasProblem n class
  by None is = absurd (no_class n class is has)
  by (Some protocol.Bgp) is =
      let first = first_of class.prefixes (has_prefix n class has) in
      let form = formed n given in
      bgp.some_problem n (is_bgp n form faultless (few_routers n faultless) is) faultless (few_directions n (few_links n form faultless))
      (samples (communities_of n)) class has first.0 first.1
  by (Some protocol.Ospf) is =
      let first = first_of class.prefixes (has_prefix n class has) in
      ospf.some_problem n (is_ospf n given faultless (few_routers n faultless) is) (few_directions n (few_links n (formed n given) faultless)) class has first.0
      first.1

pub samples_give_problems : FewLinks → GivenIsWellFormed → SamplesGiveProblems
samples_give_problems few_links formed samples n given faultless class has = by few_links formed samples n given faultless class has (protocol_of n) refl
