use Rattle.std.proofs.Common.{◌≡◌, ◌∙◌, ◌≤◌, ap, length, arith}
use Rattle.std.proofs.lemmas.List.{take_all}
use Rattle.cut_certificate.proofs.Used.{first_used, first_is, map_long}
use Rattle.cut_certificate.specs.Blocks.{number_among}
use Rattle.cut_certificate.proofs.blocks.Blocks.first.Goals as goal

pub numbers_of-requires : goal.numbers_of-requires
numbers_of-requires c =
    let all : length c.args.graph.now.colors ≤ c.loop-color.color-index = omega (arith, ap length c.as_slice-color-items.ensures, c.loop-color-test.false) in
    let colors : c.deref.result.now ≡ c.args.graph.now.colors = c.deref.ensures.value ∙ c.loop-color.invariant
    ∙ take_all c.loop-color.color-index c.args.graph.now.colors all in
    omega (arith, ap length colors, c.args.graph.now.one_color_each)

pub lists_of-requires-clause-fits : goal.lists_of-requires-clause-fits
lists_of-requires-clause-fits c =
    let all : length c.args.graph.now.colors ≤ c.loop-color.color-index = omega (arith, ap length c.as_slice-color-items.ensures, c.loop-color-test.false) in
    let colors : c.deref.result.now ≡ c.args.graph.now.colors = c.deref.ensures.value ∙ c.loop-color.invariant
    ∙ take_all c.loop-color.color-index c.args.graph.now.colors all in
    let long = ap length c.deref-2.ensures.value ∙ ap length c.in_ok-numbers.ensures.numbers ∙ map_long (number_among c.deref.result.now) c.deref.result.now in
    omega (arith, long, ap length colors, c.args.graph.now.one_color_each)

pub lists_of-requires-clause-some : goal.lists_of-requires-clause-some
lists_of-requires-clause-some c = rw (c.deref-2.ensures.value, c.in_ok-numbers.ensures.numbers, c.in_ok-numbers.ensures.count)
    (first_used c.deref.result.now).few

pub lists_of-requires-clause-known : goal.lists_of-requires-clause-known
lists_of-requires-clause-known c = rw (c.deref-2.ensures.value, c.in_ok-numbers.ensures.numbers, c.in_ok-numbers.ensures.count)
    (first_used c.deref.result.now).known

pub invariant_of-result : goal.invariant_of-result
invariant_of-result c = record {
  in_use = rw (c.in_ok-numbers.ensures.numbers, c.in_ok-numbers.ensures.count) (first_used c.deref.result.now);
  listed = rw c.deref-2.ensures.value at c.in_ok-lists.ensures.listed;
  size = c.in_ok-lists.ensures.total;
}

pub returns : goal.returns
returns c =
    let all : length c.args.graph.now.colors ≤ c.loop-color.color-index = omega (arith, ap length c.as_slice-color-items.ensures, c.loop-color-test.false) in
    let colors : c.deref.result.now ≡ c.args.graph.now.colors = c.deref.ensures.value ∙ c.loop-color.invariant
    ∙ take_all c.loop-color.color-index c.args.graph.now.colors all in
    first_is c.args.graph.now c.in_ok-numbers.numbers.items c.in_ok-numbers.count c.deref.result.now colors c.in_ok-numbers.ensures.numbers
    c.in_ok-numbers.ensures.count
