use Rattle.std.proofs.Common.{ℕ, List, Option, length, refl, sym, subst}
use Rattle.std.proofs.lemmas.Option.{slice_get_read}
use Rattle.policy_dd.specs.Edge.{IsEdgeFn}
use Rattle.route_maps.specs.declared.plain.Imported.{Imported}
use Rattle.route_maps.specs.Maps.{import_of}
use Rattle.srp_build.proofs.ImportMaps.{numbered_is}
use Rattle.srp_build.proofs.ImportSteps.{right_kept, step, right_next}
use Rattle.srp_build.proofs.met_imports.act_of_import.Goals as goal

pub edge_fn-requires-clause-out : goal.edge_fn-requires-clause-out
edge_fn-requires-clause-out c =
    c.requires.within c.args.import.now.out c.index-maps-import.result
    (slice_get_read c.args.maps.now (length c.args.maps.now) c.args.import.now.out c.index-maps-import.result refl c.requires.out c.index-maps-import.is)

pub edge_fn-requires-clause-into : goal.edge_fn-requires-clause-into
edge_fn-requires-clause-into c =
    c.requires.within c.args.import.now.into c.index-maps-import-2.result
    (slice_get_read c.args.maps.now (length c.args.maps.now) c.args.import.now.into c.index-maps-import-2.result refl c.requires.into
    c.index-maps-import-2.is)

pub returns-clause-right : goal.returns-clause-right
returns-clause-right c =
    let maps = c.args.maps.now in
    let import = c.args.import.now in
    let store = c.edge_fn.new.store in
    let right = right_kept c.edge_kept.ensures c.args.store.now store maps c.args.acts.now c.args.imports.now c.edge_fn.ensures.grows c.requires.right in
    let out = numbered_is maps import.out c.index-maps-import.result
    (slice_get_read maps (length maps) import.out c.index-maps-import.result refl c.requires.out c.index-maps-import.is) in
    let into = numbered_is maps import.into c.index-maps-import-2.result
    (slice_get_read maps (length maps) import.into c.index-maps-import-2.result refl c.requires.into c.index-maps-import-2.is) in
    let of_function = subst (λ (f : List ℕ → Option Imported). IsEdgeFn store c.in_ok-function.function f)
    (λ j. import_of (sym out j) import.sends (sym into j)) c.in_ok-function.ensures.edge in
    let next = step store maps c.args.acts.now.acts.items right.acts c.args.hop.now import c.in_ok-function.function of_function
    c.act_of_function.new.self.acts.items c.in_ok-act.act c.in_ok-act.ensures.act in
    right_next store maps c.args.acts.now c.act_of_function.new.self c.args.imports.now c.push.new.self (record { import = import; act = c.in_ok-act.act })
    right c.in_ok-act.ensures.listed next.acts next.kept next.is c.in_ok-push.ensures

pub returns-clause-act : goal.returns-clause-act
returns-clause-act c =
    let maps = c.args.maps.now in
    let import = c.args.import.now in
    let store = c.edge_fn.new.store in
    let right = right_kept c.edge_kept.ensures c.args.store.now store maps c.args.acts.now c.args.imports.now c.edge_fn.ensures.grows c.requires.right in
    let out = numbered_is maps import.out c.index-maps-import.result
    (slice_get_read maps (length maps) import.out c.index-maps-import.result refl c.requires.out c.index-maps-import.is) in
    let into = numbered_is maps import.into c.index-maps-import-2.result
    (slice_get_read maps (length maps) import.into c.index-maps-import-2.result refl c.requires.into c.index-maps-import-2.is) in
    let of_function = subst (λ (f : List ℕ → Option Imported). IsEdgeFn store c.in_ok-function.function f)
    (λ j. import_of (sym out j) import.sends (sym into j)) c.in_ok-function.ensures.edge in
    (step store maps c.args.acts.now.acts.items right.acts c.args.hop.now import c.in_ok-function.function of_function c.act_of_function.new.self.acts.items
    c.in_ok-act.act c.in_ok-act.ensures.act).is
