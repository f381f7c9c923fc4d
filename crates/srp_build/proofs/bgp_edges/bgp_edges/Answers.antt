use Rattle.std.proofs.Common.{◌≡◌, ℕ, zero, suc, ◌<◌, ◌≤◌, false, List, [], ◌∷◌, length, take, Some, refl, sym, ◌∙◌, ap, subst, arith}
use Rattle.std.specs.Prelude.{slice_get, slice_index_or}
use Rattle.std.proofs.lemmas.Option.{get_or_from_slice_get}
use Rattle.srp_build.specs.declared.hops.Hop.{Hop}
use Rattle.srp_build.specs.declared.imports.ImportByPolicies.{ImportByPolicies}
use Rattle.srp_build.specs.BgpEdges.{AreEdgesOfSessions}
use Rattle.srp_build.specs.LineMaps.{line_maps}
use Rattle.srp_build.proofs.EdgeSteps.{edges_next}
use Rattle.srp_build.proofs.LastImports.{no_last}
use Rattle.srp_build.proofs.PolicyMaps.{some_at, import_numbered}
use Rattle.srp_build.proofs.bgp_edges.bgp_edges.Goals as goal

-- the item of a list that a slice has
read_slice : {X : Type 0} (slice items : List X) (i : ℕ) (none : X) → slice ≡ items → i < length slice → slice_get items i ≡ Some (slice_index_or slice i none)
read_slice {X} slice items i none same inside = ap (λ (l : List X). slice_get l i) (sym same) ∙ some_at slice i none inside

take_whole : {X : Type 0} (xs : List X) (k : ℕ) → length xs ≤ k → take k xs ≡ xs
take_whole [] zero h = refl
take_whole [] (suc k) h = refl
take_whole (x ∷ xs) zero h = absurd (omega arith)
take_whole {X} (x ∷ xs) (suc k) h = ap (λ (l : List X). x ∷ l) (take_whole xs k (omega arith))

pub take-requires-clause-inside : goal.take-requires-clause-inside
take-requires-clause-inside c =
    let hops = ap (λ (l : List Hop). length l) c.as_slice-hops.ensures.value in
    let imports = ap (λ (l : List ImportByPolicies). length l) c.as_slice-imports.ensures.value in
    let total = c.requires.total in
    c.requires.inside c.loop-i.i _ (read_slice c.as_slice-imports.result.now c.args.directions.now.imports.items c.loop-i.i
    (record { out = 0; sends = false; into = 0 }) c.as_slice-imports.ensures.value (omega arith))

pub take-requires-clause-few : goal.take-requires-clause-few
take-requires-clause-few c =
    let hops = ap (λ (l : List Hop). length l) c.as_slice-hops.ensures.value in
    let few = c.requires.few in
    let so_far = c.loop-i.invariant.few in
    omega arith

pub loop-i-preserved : goal.loop-i-preserved
loop-i-preserved c =
    let directions = c.args.directions.now in
    let maps = c.args.maps.now in
    let i = c.loop-i.i in
    let lines = line_maps directions.policies maps in
    let none_hop : Hop = record { importer = 0; exporter = 0; link = 0; importer_item = 0; exporter_item = 0 } in
    let none_import : ImportByPolicies = record { out = 0; sends = false; into = 0 } in
    let hop = slice_index_or c.as_slice-hops.result.now i none_hop in
    let import = slice_index_or c.as_slice-imports.result.now i none_import in
    let hops_are = ap (λ (l : List Hop). length l) c.as_slice-hops.ensures.value in
    let imports_are = ap (λ (l : List ImportByPolicies). length l) c.as_slice-imports.ensures.value in
    let total = c.requires.total in
    let inside : i < length directions.hops.items = omega arith in
    let read_hop : slice_get directions.hops.items i ≡ Some hop =
    read_slice c.as_slice-hops.result.now directions.hops.items i none_hop c.as_slice-hops.ensures.value (omega arith) in
    let read_import : slice_get directions.imports.items i ≡ Some import =
    read_slice c.as_slice-imports.result.now directions.imports.items i none_import c.as_slice-imports.ensures.value (omega arith) in
    record {
      grows = c.growth_adds_up.ensures c.args.store.now c.loop-i.store c.take.new.store c.loop-i.invariant.grows c.take.ensures.grows;
      right = c.in_ok-take.ensures.right;
      last = c.in_ok-take.ensures.last;
      few = (let a = c.in_ok-take.ensures.grown in let b = c.loop-i.invariant.few in omega arith);
      so_far = λ routers are.
          edges_next c.loop-i.store c.take.new.store routers c.args.init.now lines directions.hops.items i hop none_hop c.loop-i.found c.take.new.self inside
          (get_or_from_slice_get directions.hops.items i hop none_hop read_hop)
          (c.loop-i.invariant.so_far routers are) c.in_ok-take.ensures.right
          (c.in_ok-take.ensures.takes routers lines (record {
            maps_are = refl;
            is =
                import_numbered routers directions.policies maps hop import (are.each i hop import read_hop read_import);
          }));
    }

pub returns-clause-edges : goal.returns-clause-edges
returns-clause-edges c = λ routers are.
    let directions = c.args.directions.now in
    let hops_are = ap (λ (l : List Hop). length l) c.as_slice-hops.ensures.value in
    subst (λ (l : List Hop). AreEdgesOfSessions c.loop-i.store routers c.args.init.now (line_maps directions.policies c.args.maps.now) l c.loop-i.found)
    (take_whole directions.hops.items c.loop-i.i (omega arith)) (c.loop-i.invariant.so_far routers are)
