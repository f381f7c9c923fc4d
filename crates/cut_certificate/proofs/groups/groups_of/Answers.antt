use Rattle.std.proofs.Common.{◌≡◌, ◌∙◌, ℕ, List, length, map, ap, subst, arith}
use Rattle.cut_certificate.specs.Blocks.{number_among}
use Rattle.cut_certificate.specs.Members.{AreGroupsAmong}
use Rattle.cut_certificate.proofs.Grouped.{groups_are}
use Rattle.cut_certificate.proofs.Used.{numbers_known, map_long}
use Rattle.cut_certificate.proofs.groups.groups_of.Goals as goal

pub members-requires-clause-fits : goal.members-requires-clause-fits
members-requires-clause-fits c =
    let places : c.deref.result.now ≡ map (number_among c.args.numbers.now) c.args.numbers.now = c.deref.ensures.value ∙ c.in_ok-places.ensures.numbers in
    omega (arith, ap length places, map_long (number_among c.args.numbers.now) c.args.numbers.now, c.requires)

pub members-requires-clause-known : goal.members-requires-clause-known
members-requires-clause-known c =
    let places : c.deref.result.now ≡ map (number_among c.args.numbers.now) c.args.numbers.now = c.deref.ensures.value ∙ c.in_ok-places.ensures.numbers in
    rw (places, c.in_ok-places.ensures.count) (numbers_known c.args.numbers.now)

pub returns : goal.returns
returns c =
    let places : c.deref.result.now ≡ map (number_among c.args.numbers.now) c.args.numbers.now = c.deref.ensures.value ∙ c.in_ok-places.ensures.numbers in
    let long : length c.deref.result.now ≡ length c.args.numbers.now = ap length places ∙ map_long (number_among c.args.numbers.now) c.args.numbers.now in
    let members : AreGroupsAmong (length c.args.numbers.now) (map (number_among c.args.numbers.now) c.args.numbers.now) c.in_ok-groups.groups.items =
    subst (λ (n : ℕ). AreGroupsAmong n (map (number_among c.args.numbers.now) c.args.numbers.now) c.in_ok-groups.groups.items) long
    (subst (λ (ns : List ℕ). AreGroupsAmong (length c.deref.result.now) ns c.in_ok-groups.groups.items) places c.in_ok-groups.ensures.members) in
    c.from_vec.ensures ∙ groups_are c.args.numbers.now c.in_ok-groups.groups.items members (c.in_ok-groups.ensures.total ∙ c.in_ok-places.ensures.count)
