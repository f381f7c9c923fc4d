use Rattle.std.proofs.Common.{◌∙◌, ◌+◌, [], ◌∷◌, ap, length, map, sym, subst}
use Rattle.std.proofs.lemmas.List.{map-append, length-map, length-append}
use Rattle.config_emit.specs.RouterMaps.{use_now, AreUses}
use Rattle.config_emit.specs.declared.router_maps.MapUse.{MapUse}
use Rattle.config_emit.proofs.Uses.{use_known, use_new, use_added}
use Rattle.config_emit.proofs.router_maps.put_use.Goals as goal

pub returns-in-Some-clause-uses : goal.returns-in-Some-clause-uses
returns-in-Some-clause-uses c = use_known (map use_now c.args.found.now.uses.items) c.args.number c.in-Some._place.now c.args.plain.now
    (sym (c.requires.each c.args.number) ∙ sym c.in-Some.ensures.value)

pub returns-clause-places : goal.returns-clause-places
returns-clause-places c =
    let uses = c.args.found.now.uses.items in
    let u : MapUse = record { number = c.args.number; plain = c.args.plain } in
    let more = ap (map use_now) c.in_ok-push.ensures.items ∙ map-append use_now uses (u ∷ []) in
    let last = length c.as_slice-last.result.now in
    let at = ap length c.as_slice-last.ensures.value ∙ ap length c.in_ok-push.ensures.items ∙ length-append uses (u ∷ [])
    ∙ ap (λ n. n + 1) (sym (length-map uses use_now)) in
    let new = sym (c.requires.each c.args.number) ∙ sym c.in_default.ensures.value in
    subst (AreUses c.insert.new.self) (sym more)
    (use_added c.args.found.now.places c.insert.new.self (map use_now uses) c.args.number last c.args.plain.now at new
    c.in_ok-insert.ensures.updates.0 c.requires)

pub returns-clause-uses : goal.returns-clause-uses
returns-clause-uses c =
    let uses = c.args.found.now.uses.items in
    let u : MapUse = record { number = c.args.number; plain = c.args.plain } in
    ap (map use_now) c.in_ok-push.ensures.items ∙ map-append use_now uses (u ∷ [])
    ∙ use_new (map use_now uses) c.args.number c.args.plain.now (sym (c.requires.each c.args.number) ∙ sym c.in_default.ensures.value)
