use Rattle.std.proofs.Common.{◌≡◌, ◌+◌, ◌-◌, ◌<◌, ◌&&◌, ◌||◌, ℕ, Bool, false, length, drop, nat_eq, get_or, sym, ap, ◌∙◌, arith, rules}
use Rattle.std.specs.HashSet.{contains}
use Rattle.std.proofs.lemmas.List.{get_or_default}
use Rattle.srp_core.specs.Problem.{has_marked_number}
use Rattle.route_keys.proofs.LonePaths.{marked_none, marked_first}
use Rattle.route_keys.proofs.lone.marked.Goals as goal

pub loop-place-init : goal.loop-place-init
loop-place-init c = record {
  inside = omega arith;
  members = λ n. (let none : contains nat_eq c.with_hasher-set.result n ≡ false = search rules in none
      ∙ sym (marked_none n c.args.marks.now c.args.numbers.now (length c.args.marks.now) (omega arith)));
}

pub loop-place-preserved : goal.loop-place-preserved
loop-place-preserved c =
    let marks = c.args.marks.now in
    let numbers = c.args.numbers.now in
    let place = c.loop-place.place - 1 in
    let mark = get_or marks place false in
    let number = get_or numbers place 0 in
    let next : place + 1 ≡ c.loop-place.place = omega arith in
    let here : place < length marks = omega (arith, c.loop-place.invariant.inside) in
    let there : place < length numbers = omega (arith, c.loop-place.invariant.inside, c.requires) in
    record {
      inside = omega (arith, c.loop-place.invariant.inside);
      members = λ n.
          c.in_ok-set.ensures n ∙ ap (λ (b : Bool). (mark && nat_eq number n) || b) (c.loop-place.invariant.members n)
          ∙ ap (λ (k : ℕ). (mark && nat_eq number n) || has_marked_number (drop k marks) (drop k numbers) n) (sym next)
          ∙ sym (marked_first n marks numbers place number mark here c.requires (get_or_default marks place false mark here)
          (get_or_default numbers place 0 number there));
    }
