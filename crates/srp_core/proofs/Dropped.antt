-- The route that the loop check drops is longer than what the router has.
use Rattle.std.proofs.Common.{◌≡◌, true, List, Option, Some, refl, arith}
use Rattle.std.specs.Prelude.{Contains}
use Rattle.base_kit.specs.declared.act_graph.Edge.{Edge}
use Rattle.srp_core.specs.declared.route.Route.{Route}
use Rattle.srp_core.specs.Laws.{HasShorter}
use Rattle.srp_core.specs.Problem.{Problem, number, step_over, IsProblem}
use Rattle.srp_core.specs.Routes.{path_of, is_on}
use Rattle.srp_core.specs.Stability.{label, IsStable}
use Rattle.srp_core.proofs.Offers.{Offer, offer_edge, stable_supported, candidate_offer, one_preference, grows, blocked}

pub has_shorter : (P : Problem) (good : IsProblem P) (L : List (Option Route)) → IsStable P L → (e : Edge) (r c : Route) → Contains P.edges e →
    label L e.exporter ≡ Some r → step_over P e r ≡ Some c → is_on (number P e.importer) (path_of c) ≡ true → HasShorter P L e.importer c
has_shorter P good L st e r c i lab s h =
    let sup = stable_supported P good L st in
    let b = blocked P good L sup e r c i lab s h in
    let g = grows P good e r c i s in
    let o : Offer P e.importer c = offer_edge e i refl r (st.fitting.routes e.exporter r lab) s in
    let own = candidate_offer P good L e.importer b.0 st.fitting (sup.held e.importer b.0 b.1) in
    record {
      own = b.0;
      labelled = b.1;
      shorter = (let less = b.2 in omega arith);
      preferred = λ l. one_preference P good e.importer b.0 c (good.edges.inside e i).importer_in l own o;
    }
