-- Public: a problem that is alike to a problem of a network and a prefix is also a problem of them.
use Rattle.std.proofs.Common.{◌≡◌, ℕ, sym, ap, ◌∙◌, subst, Some}
use Rattle.base_kit.specs.declared.act_graph.Edge.{Edge}
use Rattle.base_kit.specs.declared.protocol.Protocol.{Protocol}
use Rattle.base_kit.specs.Prefixes.{Prefix}
use Rattle.cfg_ast.specs.declared.network.Network.{Network}
use Rattle.srp_core.specs.declared.route.Act.{Act}
use Rattle.srp_core.specs.declared.route.Act.TheVariants.{Import, Cost}
use Rattle.srp_core.specs.Acts.{ActsAlike, import_by}
use Rattle.srp_core.specs.Alike.{EdgesAlike, ProblemsAlike}
use Rattle.srp_core.specs.Problem.{Problem, IsProblem, act_of}
use Rattle.srp_core.specs.ProblemOf.{Direction, IsEdgeDirection, MeansLink, StandsFor, IsProblemOf}
use Rattle.srp_core.proofs.Alike.{match, turned}
use Rattle.srp_core.proofs.GroupMatching.{alike_sym}

-- an act means the direction that one which acts alike means
means_too : (n : Network) (p : Prefix) (d : Direction) (x y : Act) → ActsAlike x y → MeansLink n p d x → MeansLink n p d y
unfolding import_by
means_too n p d (Import out sends into) (Import out' sends' into') alike means =
    record { ends = means.ends; same = λ comms set. sym (alike.same comms set) ∙ means.same comms set }
means_too n p d (Import out sends into) (Cost cost) alike means = absurd alike
means_too n p d (Cost cost) (Import out sends into) alike means = absurd alike
means_too n p d (Cost cost) (Cost other) alike means =
    record { importer = means.importer; importer_at = means.importer_at; same = means.same ∙ ap (λ (c : ℕ). Some c) alike }

stands_too : (n : Network) (p : Prefix) (P Q : Problem) → P.protocol ≡ Q.protocol
    → (e f : Edge) (d : Direction) → EdgesAlike P Q e f → StandsFor P n p e d → StandsFor Q n p f d
stands_too n p P Q protocol e f d alike stands = record {
  is_direction = stands.is_direction;
  is_edge = subst (λ (q : Protocol). IsEdgeDirection q n p d) protocol stands.is_edge;
  link = sym alike.link ∙ stands.link;
  importer = sym alike.importer ∙ stands.importer;
  exporter = sym alike.exporter ∙ stands.exporter;
  means = means_too n p d (act_of P e) (act_of Q f) alike.acts stands.means;
}

turned_edge : (P Q : Problem) (e f : Edge) → EdgesAlike P Q e f → EdgesAlike Q P f e
turned_edge P Q e f alike =
    record { importer = sym alike.importer; exporter = sym alike.exporter; link = sym alike.link; acts = alike_sym (act_of P e) (act_of Q f) alike.acts }

pub problem_too : (n : Network) (p : Prefix) (P Q : Problem) → IsProblemOf n p P → IsProblem Q → ProblemsAlike P Q → IsProblemOf n p Q
problem_too n p P Q of rules alike = record {
  rules = rules;
  protocol = of.protocol ∙ ap (λ (q : Protocol). Some q) alike.protocol;
  names = sym alike.names ∙ of.names;
  numbers = sym alike.numbers ∙ of.numbers;
  init = sym alike.init ∙ of.init;
  edges_stand = λ edge has. (
      let back = match Q P (turned P Q alike) edge has in
      let d = of.edges_stand back.0 back.1 in
      (d.0, stands_too n p P Q alike.protocol back.0 edge d.0 (turned_edge Q P edge back.0 back.2) d.1));
  edges_all = λ d is carries. (
      let e = of.edges_all d is (subst (λ (q : Protocol). IsEdgeDirection q n p d) (sym alike.protocol) carries) in
      let f = match P Q alike e.0 e.1 in
      (f.0, f.1, stands_too n p P Q alike.protocol e.0 f.0 d f.2 e.2));
}
