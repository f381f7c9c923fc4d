use Rattle.std.proofs.Common.{◌≡◌, ◌+◌, ◌-◌, ◌*◌, ◌%◌, ◌^◌, ◌∙◌, ◌≤◌, List, ap, sym, arith, map, drop, length, subst, []}
use Rattle.std.proofs.lemmas.List.{length-map, drop_all}
use Rattle.cfg_ast.specs.declared.policy.PrefixList.{PrefixList}
use Rattle.dest_classes.specs.Stretches.{left_of, AddsList}
use Rattle.dest_classes.proofs.Rules.{at_now}
use Rattle.dest_classes.proofs.StretchFacts.{IsStretchBut, one_asked, all_asked, room_for_bit, next_list, bit_is}
use Rattle.dest_classes.proofs.stretches.stretch_from.Goals as goal

pub with_list-requires : goal.with_list-requires
with_list-requires c =
    let lists = map at_now c.args.lists.now in
    let rest = map at_now (drop (c.loop-list.list-index + 1) c.args.lists.now) in
    let few : length lists ≤ 64 = omega (arith, c.requires, length-map c.args.lists.now at_now) in
    let next = next_list c.args.lists.now c.loop-list.list-index c.list-item.result c.loop-list-test.true c.list-item.is in
    let bit = bit_is c.args.lists.now c.loop-list.list-index c.loop-list.behind c.requires c.loop-list-test.true c.loop-list.invariant.behind in
    room_for_bit lists rest c.list-item.result.now c.args.first c.args.last _ c.loop-list.stretch few bit
    (subst (λ (ls : List PrefixList). IsStretchBut lists ls c.args.first c.args.last c.loop-list.stretch) next c.loop-list.invariant.asked)

pub loop-list-preserved : goal.loop-list-preserved
loop-list-preserved c = record {
  behind = omega (arith, c.loop-list.invariant.behind, c.loop-list-test.true);
  asked =
      let lists = map at_now c.args.lists.now in
      let rest = map at_now (drop (c.loop-list.list-index + 1) c.args.lists.now) in
      let next = next_list c.args.lists.now c.loop-list.list-index c.list-item.result c.loop-list-test.true c.list-item.is in
      let bit = bit_is c.args.lists.now c.loop-list.list-index c.loop-list.behind c.requires c.loop-list-test.true c.loop-list.invariant.behind in
      let left = c.in_ok-answers.ensures ∙ ap (left_of c.args.first c.args.last) c.as_slice.ensures in
      one_asked lists rest c.list-item.result.now c.args.first c.args.last c.loop-list.stretch c.in_ok-stretch.stretch
      (subst (λ n. AddsList c.loop-list.stretch n (left_of c.args.first c.args.last c.list-item.result.now.entries) c.args.last c.in_ok-stretch.stretch) bit
      (subst (λ xs. AddsList c.loop-list.stretch (1 * 2 ^ (c.loop-list.behind - 1) % 2 ^ 64) xs c.args.last c.in_ok-stretch.stretch) left
      c.in_ok-stretch.ensures))
      (subst (λ (ls : List PrefixList). IsStretchBut lists ls c.args.first c.args.last c.loop-list.stretch) next c.loop-list.invariant.asked);
}

pub returns : goal.returns
returns c =
    let lists = map at_now c.args.lists.now in
    let few : length lists ≤ 64 = omega (arith, c.requires, length-map c.args.lists.now at_now) in
    let none : map at_now (drop c.loop-list.list-index c.args.lists.now) ≡ [] = ap (map at_now)
    (drop_all c.loop-list.list-index c.args.lists.now c.loop-list-test.false) in
    all_asked lists c.args.first c.args.last c.loop-list.stretch few
    (subst (λ (ls : List PrefixList). IsStretchBut lists ls c.args.first c.args.last c.loop-list.stretch) none c.loop-list.invariant.asked)
