use Rattle.std.proofs.Common.{◌≡◌, Bool, true, false, not, refl, sym, ◌∙◌}
use Rattle.named_lists.specs.NumberedLists.{ascends}
use Rattle.named_lists.proofs.Held.{adds_one, adds_more, adds_known, adds_fallen}
use Rattle.named_lists.proofs.numbers.hold.Goals as goal
use Rattle.named_lists.proofs.numbers.hold.Goals.{then-not-is_held+else-is_past+in_ok-hold_all, else-not-is_held}

not_false : (b : Bool) → not b ≡ false → b ≡ true
not_false true e = refl
not_false false e = cc

not_true : (b : Bool) → not b ≡ true → b ≡ false
not_true true e = cc
not_true false e = refl

pub returns : goal.returns
returns g c =
    elim c.if-not-is_held.branch [
      | then-not-is_held+else-is_past+in_ok-hold_all w ↦
          let up : ascends g.E.Numbered.number c.args.entries.now ≡ true = not_false _ (sym w.if-not-is_held.ensures) in
          adds_fallen g.E.Numbered.number c.args.numbers.now c.insert.new.self c.args.place c.args.entries.now c.args.number up
          (sym w.is_past.ensures ∙ w.if-is_past.false)
          (adds_more c.args.numbers.now w.hold_all.new.numbers c.insert.new.self c.args.place c.args.number _ w.in_ok-hold_all.ensures
          (rw w.numbers-is at c.in_ok-insert.ensures.updates))
      | else-not-is_held w ↦
          let down : ascends g.E.Numbered.number c.args.entries.now ≡ false = not_true _ (sym w.if-not-is_held.ensures) in
          adds_known g.E.Numbered.number c.args.numbers.now c.insert.new.self c.args.place c.args.entries.now c.args.number c.requires down
          (adds_one c.args.numbers.now c.insert.new.self c.args.place c.args.number (rw w.numbers-is at c.in_ok-insert.ensures.updates))
    ]
