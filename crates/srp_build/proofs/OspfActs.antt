-- The acts of an OSPF problem are costs, so each is as the lines at its first edge give it.
use Rattle.std.proofs.Common.{◌≡◌, Result, Ok, Err, IfOk, subst}
use Rattle.std.specs.Prelude.{Contains}
use Rattle.base_kit.specs.declared.protocol.Protocol.{Protocol}
use Rattle.base_kit.specs.declared.protocol.Protocol.TheVariants.{Ospf as OverOspf}
use Rattle.base_kit.specs.Prefixes.{Prefix}
use Rattle.base_kit.proofs.Elements.{contains_in, get_in}
use Rattle.cfg_ast.specs.declared.classes.DestClass.{DestClass}
use Rattle.cfg_ast.specs.declared.network.Network.{Network}
use Rattle.srp_core.specs.declared.route.Act.{Act}
use Rattle.srp_core.specs.declared.route.Act.TheVariants.{Import, Cost}
use Rattle.srp_core.specs.Acts.{IsActOf}
use Rattle.srp_core.specs.Problem.{Problem, act_of}
use Rattle.srp_core.specs.ProblemOf.{Direction, IsProblemOf}
use Rattle.srp_core.proofs.Offers.{edge_act}
use Rattle.srp_build.specs.FirstActs.{IsActOfLines, HasFirstActs}

cost_says_all : (n : Network) (p : Prefix) (d : Direction) (act : Act) → IsActOf OverOspf act → IsActOfLines n p d act
cost_says_all n p d (Import out sends into) fits = absurd fits
cost_says_all n p d (Cost cost) fits = tt

pub ospf_first_acts : (n : Network) (p : Prefix) (problem : Problem) → problem.protocol ≡ OverOspf → IsProblemOf n p problem → HasFirstActs n p problem
ospf_first_acts n p problem ospf of = record {
  each = λ place edge at first. (
      let has = contains_in problem.edges edge (get_in problem.edges place edge at) in
      let stands = of.edges_stand edge has in
      record {
        d = stands.0;
        stands = stands.1;
        act = cost_says_all n p stands.0 (act_of problem edge)
            (subst (λ (q : Protocol). IsActOf q (act_of problem edge)) ospf (edge_act problem of.rules edge has));
      });
}

pub ospf_first : {E : Type 0} (n : Network) (class : DestClass) (r : Result Problem E) →
    IfOk r (λ problem. (p : Prefix) → Contains class.prefixes p → IsProblemOf n p problem) → IfOk r (λ problem. problem.protocol ≡ OverOspf) →
    IfOk r (λ problem. (p : Prefix) → Contains class.prefixes p → HasFirstActs n p problem)
ospf_first n class (Ok problem) of ospf = λ p at. ospf_first_acts n p problem ospf (of p at)
ospf_first n class (Err e) of ospf = tt
