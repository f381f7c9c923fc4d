use Rattle.std.proofs.Common.{◌≡◌, ◌≢◌, ◌<◌, ◌≤◌, ◌-◌, arith, get_or, length, ap}
use Rattle.std.proofs.lemmas.List.{get_or_default}
use Rattle.refine_partition.specs.Arrivals.{act_of_import}
use Rattle.refine_partition.specs.declared.imports.Import.{Import}
use Rattle.refine_partition.proofs.classes.run_end.Goals as goal

pub returns-then-last-act-clause-same : goal.returns-then-last-act-clause-same
returns-then-last-act-clause-same c = λ i d at inside.
    let none : Import = record { importer = 0; act = 0 } in
    let arrivals = c.args.arrivals.now in
    let within : c.args.start < length arrivals = c.requires.inside in
    let up : act_of_import (get_or arrivals c.args.start d) ≤ act_of_import (get_or arrivals i d) = c.requires.in_order c.args.start i d at inside in
    let down : act_of_import (get_or arrivals i d) ≤ act_of_import (get_or arrivals (length arrivals - 1) d) =
    c.requires.in_order i (length arrivals - 1) d (omega arith) (omega arith) in
    let first : act_of_import (get_or arrivals c.args.start d) ≡ act_of_import (get_or arrivals c.args.start none) =
    ap act_of_import (get_or_default arrivals c.args.start d none within) in
    let end : act_of_import (get_or arrivals (length arrivals - 1) d) ≡ act_of_import (get_or arrivals (length arrivals - 1) none) =
    ap act_of_import (get_or_default arrivals (length arrivals - 1) d none (omega arith)) in
    let same : act_of_import (get_or arrivals (length arrivals - 1) none) ≡ act_of_import (get_or arrivals c.args.start none) = c.if-last-act.true in
    omega arith

pub returns-else-arrivals-end-clause-after : goal.returns-else-arrivals-end-clause-after
returns-else-arrivals-end-clause-after c = λ j d at inside.
    let none : Import = record { importer = 0; act = 0 } in
    let arrivals = c.args.arrivals.now in
    let more = c.loop-end.invariant.more in
    let here : c.loop-end.end < length arrivals = c.loop-end-test.true in
    let start : act_of_import (get_or arrivals c.args.start d) ≤ act_of_import (get_or arrivals c.loop-end.end d) =
    c.requires.in_order c.args.start c.loop-end.end d (omega arith) here in
    let later : act_of_import (get_or arrivals c.loop-end.end d) ≤ act_of_import (get_or arrivals j d) = c.requires.in_order c.loop-end.end j d at inside in
    let first : act_of_import (get_or arrivals c.args.start d) ≡ act_of_import (get_or arrivals c.args.start none) =
    ap act_of_import (get_or_default arrivals c.args.start d none c.requires.inside) in
    let end : act_of_import (get_or arrivals c.loop-end.end d) ≡ act_of_import (get_or arrivals c.loop-end.end none) =
    ap act_of_import (get_or_default arrivals c.loop-end.end d none here) in
    let other : act_of_import (get_or arrivals c.loop-end.end none) ≢ act_of_import (get_or arrivals c.args.start none) = c.if-arrivals-end.false in
    omega arith
