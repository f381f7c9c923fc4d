use Rattle.std.proofs.Common.{◌∙◌, [], ◌∷◌, Bor, ap, map, sym, subst}
use Rattle.std.proofs.lemmas.List.{map-append, length-map}
use Rattle.route_maps.specs.declared.plain.Plain.{Plain}
use Rattle.config_emit.specs.MapNumbers.{AreNumbers, place_of_map}
use Rattle.config_emit.proofs.MapPlaces.{known, unknown, added}
use Rattle.config_emit.proofs.map_numbers.number_map.Goals as goal

abbrev at_now : Bor Plain → Plain
at_now m = m.now

pub returns-in-Some-clause-maps : goal.returns-in-Some-clause-maps
returns-in-Some-clause-maps c =
    let key = c.in_ok-key.key in
    (known (map at_now c.args.known.now.maps.items) c.args.plain.now key c.in-Some.number.now c.in_ok-key.ensures
    (sym (c.requires.each key) ∙ sym c.in-Some.ensures.value)).grown

pub returns-in-Some-clause-number : goal.returns-in-Some-clause-number
returns-in-Some-clause-number c =
    let key = c.in_ok-key.key in
    (known (map at_now c.args.known.now.maps.items) c.args.plain.now key c.in-Some.number.now c.in_ok-key.ensures
    (sym (c.requires.each key) ∙ sym c.in-Some.ensures.value)).number

pub returns-clause-known : goal.returns-clause-known
returns-clause-known c =
    let key = c.in_ok-key.key in
    let before = map at_now c.args.known.now.maps.items in
    let more = ap (map at_now) c.in_ok-push.ensures.items ∙ map-append at_now c.args.known.now.maps.items (c.args.plain ∷ []) in
    let at = c.len-number.ensures ∙ c.args.known.now.maps.ok.0 ∙ sym (length-map c.args.known.now.maps.items at_now) in
    subst (AreNumbers c.insert.new.self) (sym more)
    (added c.args.known.now.numbers c.insert.new.self before c.args.plain.now key c.len-number.result c.in_ok-key.ensures at
    (sym (c.requires.each key) ∙ sym c.in_default.ensures.value) c.in_ok-insert.ensures.updates.0 c.requires)

pub returns-clause-maps : goal.returns-clause-maps
returns-clause-maps c =
    let key = c.in_ok-key.key in
    ap (map at_now) c.in_ok-push.ensures.items ∙ map-append at_now c.args.known.now.maps.items (c.args.plain ∷ [])
    ∙ (unknown (map at_now c.args.known.now.maps.items) c.args.plain.now key c.in_ok-key.ensures
    (sym (c.requires.each key) ∙ sym c.in_default.ensures.value)).grown

pub returns-clause-number : goal.returns-clause-number
returns-clause-number c =
    let key = c.in_ok-key.key in
    let more = ap (map at_now) c.in_ok-push.ensures.items ∙ map-append at_now c.args.known.now.maps.items (c.args.plain ∷ []) in
    c.len-number.ensures ∙ c.args.known.now.maps.ok.0 ∙ sym (length-map c.args.known.now.maps.items at_now)
    ∙ (unknown (map at_now c.args.known.now.maps.items) c.args.plain.now key c.in_ok-key.ensures
    (sym (c.requires.each key) ∙ sym c.in_default.ensures.value)).number
    ∙ ap (λ ms. place_of_map ms c.args.plain.now) (sym more)
