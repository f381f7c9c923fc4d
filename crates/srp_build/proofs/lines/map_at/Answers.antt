use Rattle.std.proofs.Common.{◌≡◌, IfOk, ℕ, List, Option, Some, length, slice_get, refl, sym, ◌∙◌, ap, subst, arith}
use Rattle.std.specs.Option.{option_map_or}
use Rattle.std.proofs.lemmas.Option.{slice_get_read}
use Rattle.cfg_ast.specs.declared.bgp.Neighbor.{Neighbor}
use Rattle.cfg_ast.specs.declared.network.Router.{Router}
use Rattle.cfg_ast.specs.meaning.Topology.{neighbors_of}
use Rattle.srp_build.specs.Lines.{map_of_line, deny_all}
use Rattle.srp_build.proofs.lines.map_at.Goals as goal

pub map_of_line-requires : goal.map_of_line-requires
map_of_line-requires c =
    let routers = c.args.routers.now in
    let places = c.args.places.now in
    let at = c.args.line.router in
    let read = c.in-Some.ensures.lookup in
    let own = c.in-Some-get.ensures.lookup in
    c.requires.each at c.in-Some.router.now c.in-Some-get.own.now
    (slice_get_read routers (length routers) at c.in-Some.router.now refl (let a = read.0 in omega arith) read.1)
    (slice_get_read places (length places) at c.in-Some-get.own.now refl (let a = own.0 in omega arith) own.1)

pub returns : goal.returns
returns c =
    let routers = c.args.routers.now in
    let router = c.in-Some.router.now in
    let lines = c.neighbors.result.now in
    let item = c.args.line.item in
    let named = c.in-Some-get-2.named.now in
    let read = c.in-Some.ensures.lookup in
    let line = c.in-Some-get-2.ensures.lookup in
    let there : slice_get routers c.args.line.router ≡ Some router =
    slice_get_read routers (length routers) c.args.line.router router refl (let a = read.0 in omega arith) read.1 in
    let stands : slice_get (neighbors_of router) item ≡ Some named =
    ap (λ (l : List Neighbor). slice_get l item) (sym c.neighbors.ensures)
    ∙ slice_get_read lines (length lines) item named refl (let a = line.0 in omega arith) line.1 in
    let map_in = map_of_line c.args.p router c.args.line.inbound in
    subst (λ (o : Option Router). IfOk c.map_of_line.result (λ plain. plain ≡ option_map_or (λ (r : Router).
    option_map_or (map_of_line c.args.p r c.args.line.inbound) (slice_get (neighbors_of r) item) deny_all) o deny_all)) (sym there)
    (subst (λ (o : Option Neighbor). IfOk c.map_of_line.result (λ plain. plain ≡ option_map_or map_in o deny_all)) (sym stands) c.map_of_line.ensures)
