-- The directions of a BGP network lead from neighbour line to neighbour line, and each has an import.
use Rattle.std.proofs.Common.{◌≡◌, ℕ, zero, suc, ◌<◌, Bool, true, false, List, [], ◌∷◌, length, Some, None, refl, sym, ◌∙◌, ap, arith}
use Rattle.std.specs.Prelude.{All, slice_index_or}
use Rattle.std.specs.Option.{option_map, option_and_then}
use Rattle.base_kit.proofs.Elements.{In, in_contains}
use Rattle.cfg_ast.specs.declared.network.Network.{Network}
use Rattle.cfg_ast.specs.declared.network.Router.{Router}
use Rattle.cfg_ast.specs.meaning.Topology.{links_of, neighbors_of}
use Rattle.srp_core.specs.ProblemOf.{SessionEnds}
use Rattle.srp_build.specs.declared.hops.Hop.{Hop}
use Rattle.srp_build.specs.declared.policies.LinePolicies.{LinePolicies}
use Rattle.srp_build.specs.declared.lines.LinePlace.{LinePlace}
use Rattle.srp_build.specs.declared.imports.ImportByPolicies.{ImportByPolicies}
use Rattle.srp_build.specs.Bgp.{IsBgp}
use Rattle.srp_build.specs.Directions.{directions_of}
use Rattle.srp_build.specs.Hops.{hops_of}
use Rattle.srp_build.specs.LinePolicies.{HasLine, JoinsLines, HavePolicies, AreLinePolicies}
use Rattle.srp_build.specs.Lines.{sends_at}
use Rattle.srp_build.specs.Plains.{number_at, import_by_policies}
use Rattle.srp_build.proofs.BgpLinks.{hop_ends}
use Rattle.srp_build.proofs.FirstUse.{within_get}
use Rattle.srp_build.proofs.PolicyMaps.{has_item}
use Rattle.srp_build.proofs.LinkPlaces.{direction_of}
use Rattle.srp_build.proofs.SortedHops.{hop_of, sorted_in}

-- ---- the directions of a network

joins : (n : Network) (hop : Hop) → SessionEnds n (direction_of hop) → JoinsLines n.routers hop
joins n hop ends = record {
  exporter = record {
    router = ends.exporter;
    at = ends.exporter_at;
    inside = within_get (neighbors_of ends.exporter) hop.exporter_item ends.exporter_line ends.exporter_line_at;
  };
  importer = record {
    router = ends.importer;
    at = ends.importer_at;
    inside = within_get (neighbors_of ends.importer) hop.importer_item ends.importer_line ends.importer_line_at;
  };
}

item_in : {X : Type 0} (xs : List X) (k : ℕ) (d : X) → k < length xs → In xs (slice_index_or xs k d)
item_in xs k d inside = in_contains xs (slice_index_or xs k d) (k, inside, same xs k d (slice_index_or xs k d) inside)
  where
    same : {X : Type 0} (ys : List X) (j : ℕ) (d e : X) → j < length ys → slice_index_or ys j e ≡ slice_index_or ys j d
    same [] j d e lt = absurd (omega arith)
    same (y ∷ ys) zero d e lt = refl
    same (y ∷ ys) (suc j) d e lt = same ys j d e (omega arith)

pub all_join : (n : Network) → IsBgp n → All (JoinsLines n.routers) (directions_of n)
all_join n bgp k d inside =
    let hop = slice_index_or (directions_of n) k d in
    let at = sorted_in (length n.routers) (hops_of (links_of n)) hop (item_in (directions_of n) k d inside) in
    joins n hop (hop_ends n bgp hop (hop_of (links_of n) hop at))

-- ---- their imports

has_number : (all : List Router) (inbound : Bool) (firsts : List LinePlace) (routers : List Router) (table : List (List ℕ)) (place item : ℕ)
    → HavePolicies all inbound firsts routers table → HasLine routers place item → (number : ℕ) × (number_at table place item ≡ Some number)
has_number all inbound firsts [] table place item have line = absurd (let e = line.at in cc)
has_number all inbound firsts (router ∷ routers) [] place item have line = absurd have
has_number all inbound firsts (router ∷ routers) (numbers ∷ table) zero item have line =
    let same : router ≡ line.router = (let e = line.at in cc) in
    let inside : item < length numbers =
    (let total = have.0.total in let lines = ap (λ (r : Router). length (neighbors_of r)) same in let h = line.inside in omega arith) in
    let there = has_item numbers item inside in
    (there.item, there.at)
has_number all inbound firsts (router ∷ routers) (numbers ∷ table) (suc place) item have line =
    has_number all inbound firsts routers table place item have.1 (record { router = line.router; at = line.at; inside = line.inside })

pub has_import : (routers : List Router) (policies : LinePolicies) (hop : Hop) → AreLinePolicies routers policies → JoinsLines routers hop
    → (import : ImportByPolicies) × (import_by_policies routers policies.outs policies.ins hop ≡ Some import)
has_import routers policies hop are joins =
    let (out, out_at) = has_number routers false policies.firsts.items routers policies.outs hop.exporter hop.exporter_item are.outs joins.exporter in
    let (into, into_at) = has_number routers true policies.firsts.items routers policies.ins hop.importer hop.importer_item are.ins joins.importer in
    let sends = sends_at routers hop.exporter hop.exporter_item in
    let made : ℕ → ℕ → ImportByPolicies = λ o i. record { out = o; sends = sends; into = i } in
    (made out into, (λ j. option_and_then (λ (o : ℕ). option_map (made o) (into_at j)) (out_at j)))

pub import_missing : (routers : List Router) (policies : LinePolicies) (outs ins : List (List ℕ)) (hop : Hop) → outs ≡ policies.outs → ins ≡ policies.ins
    → AreLinePolicies routers policies → JoinsLines routers hop → import_by_policies routers outs ins hop ≡ None → ⊥
import_missing routers policies outs ins hop outs_are ins_are are joins none =
    let there = has_import routers policies hop are joins in
    let same : import_by_policies routers outs ins hop ≡ import_by_policies routers policies.outs policies.ins hop = λ j.
    import_by_policies routers (outs_are j) (ins_are j) hop in
    let e : Some there.0 ≡ None = sym there.1 ∙ sym same ∙ none in
    cc
