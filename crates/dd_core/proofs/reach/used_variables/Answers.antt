use Rattle.std.proofs.Common.{◌≡◌, ◌+◌, ◌∙◌, arith, sym, ap, List, Bool, ℕ, length, replicate, false}
use Rattle.dd_core.specs.Marks.{AreMarks, AreUsedBefore}
use Rattle.dd_core.proofs.MarkLemmas.{used_start, used_step, used_skip, used_done, lent_back}
use Rattle.dd_core.proofs.reach.used_variables.Goals.{then-marked, else-marked}
use Rattle.dd_core.proofs.reach.used_variables.Goals as goal

pub loop-place-init : goal.loop-place-init
loop-place-init c =
    let count = ap (λ (l : List ℕ). length l) c.as_slice.ensures.all in
    let all : c.in_ok-used.used.items ≡ replicate (length c.args.universe.now + 1) false = c.in_ok-used.ensures.items_if_clones_equal (λ y h. h)
    ∙ ap (λ (n : ℕ). replicate (n + 1) false) count in
    used_start _ _ _ _ _ all (sym c.in_ok-used.used.ok.0 ∙ c.in_ok-used.ensures.len ∙ ap (λ (n : ℕ). n + 1) count)

pub loop-place-preserved : goal.loop-place-preserved
loop-place-preserved c =
    let are : AreMarks c.args.table.now c.args.from c.deref-marked-items.result.now = rw c.deref-marked-items.ensures.value c.in_ok-marks.ensures in
    elim c.if-marked.branch [
      | then-marked w ↦
          let size : length w.mark_variable.new.used ≡ length c.loop-place.used.items = w.mark_variable.ensures.total
          ∙ ap (λ (l : List Bool). length l) w.deref_mut.ensures.value in
          let before : AreUsedBefore c.args.table.now c.args.from (length c.args.universe.now) c.deref-marked-items.result.now w.deref_mut.result.now
          c.loop-place.place = rw w.deref_mut.ensures.value c.loop-place.invariant in
          rw (
            w.used-is,
            lent_back c.loop-place.used.len c.loop-place.used.items w.mark_variable.new.used (size ∙ sym c.loop-place.used.ok.0)
                (sym c.loop-place.used.ok.0),
          ) (used_step _ _ _ _ _ c.loop-place.place before w.mark_variable.new.used are w.if-marked.true
          w.mark_variable.ensures)
      | else-marked w ↦ rw w.used-is (used_skip _ _ _ _ _ c.loop-place.place c.loop-place.invariant w.if-marked.false)
    ]

pub returns : goal.returns
returns c =
    let are : AreMarks c.args.table.now c.args.from c.deref-marked-items.result.now = rw c.deref-marked-items.ensures.value c.in_ok-marks.ensures in
    let past = c.loop-place-test.false in
    let inside = c.loop-place.auto.place-end in
    used_done _ _ _ _ _ c.loop-place.place c.loop-place.invariant are (omega arith)
