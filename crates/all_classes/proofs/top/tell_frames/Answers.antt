use Rattle.std.proofs.Common.{◌≡◌, ◌∙◌, ℕ, ap, length}
use Rattle.cfg_ast.specs.meaning.Classes.{classes_of}
use Rattle.all_classes.specs.Progress.{HasPut, HasPutFew, HasPutPart}
use Rattle.all_classes.specs.Tellings.{IsAnswer}
use Rattle.all_classes.proofs.Tellings.{of_asked, tells_begun, tells_cut, tells_no_memory, tells_whole}
use Rattle.all_classes.proofs.top.tell_frames.Goals as goal

pub returns-in_default-clause-tells : goal.returns-in_default-clause-tells
returns-in_default-clause-tells g c =
    let n = c.args.checked.now.network in
    let e = c.tell_no_memory.ensures in
    tells_no_memory (IsAnswer c.args.request.now.command n) c.args.request.now.asked (length (classes_of n)) _ (g.O.Sink.taken c.args.out.now) _ _ _ _ _ _
    c.tell_no_memory.result e.ending e.all e.part e.cause

pub returns-in-Ok-put_frames-clause-tells : goal.returns-in-Ok-put_frames-clause-tells
returns-in-Ok-put_frames-clause-tells g c =
    let n = c.args.checked.now.network in
    let A = IsAnswer c.args.request.now.command n in
    let asked = c.args.request.now.asked in
    let old = g.O.Sink.taken c.args.out.now in
    let new = g.O.Sink.taken c.put_frames.new.out in
    let done = c.in-Ok-put_frames.done in
    let put = of_asked (λ (from count : ℕ). HasPut A from count done old new) asked c.first-from.result c.last-to.result c.len.result (length (classes_of n))
    c.first-from.ensures c.last-to.ensures (c.len.ensures ∙ ap length c.in-Ok.ensures.classes) c.in-Ok-put_frames.ensures.all in
    tells_whole A asked (length (classes_of n)) old new _ _ _ (g.E.Sink.taken c.args.err.now) _ _ done c.ending_of.result c.ending_of.ensures put

pub returns-in-Err-NoMemory-clause-tells : goal.returns-in-Err-NoMemory-clause-tells
returns-in-Err-NoMemory-clause-tells g c =
    let n = c.args.checked.now.network in
    let A = IsAnswer c.args.request.now.command n in
    let asked = c.args.request.now.asked in
    let old = g.O.Sink.taken c.args.out.now in
    let new = g.O.Sink.taken c.put_frames.new.out in
    let put = of_asked (λ (from count : ℕ). HasPutFew A from count old new) asked c.first-from.result c.last-to.result c.len.result (length (classes_of n))
    c.first-from.ensures c.last-to.ensures (c.len.ensures ∙ ap length c.in-Ok.ensures.classes) (c.in-Err-NoMemory.ensures.no_memory (cc)) in
    let e = c.tell_no_memory-in-Err-NoMemory.ensures in
    tells_cut A asked (length (classes_of n)) old new _ _ _ _ _ _ c.tell_no_memory-in-Err-NoMemory.result put e.ending e.all e.part e.cause

pub returns-clause-tells : goal.returns-clause-tells
returns-clause-tells g c =
    let n = c.args.checked.now.network in
    let A = IsAnswer c.args.request.now.command n in
    let asked = c.args.request.now.asked in
    let old = g.O.Sink.taken c.args.out.now in
    let new = g.O.Sink.taken c.put_frames.new.out in
    let put = of_asked (λ (from count : ℕ). HasPutPart A from count old new) asked c.first-from.result c.last-to.result c.len.result (length (classes_of n))
    c.first-from.ensures c.last-to.ensures (c.len.ensures ∙ ap length c.in-Ok.ensures.classes) (c.in-Err-Failed.ensures.failed (cc)) in
    tells_begun A asked (length (classes_of n)) old new _ _ _ _ _ _ c.tell_write_fault.result c.tell_write_fault.ensures.ending put
    (c.in-Err-Failed.ensures.cause (cc)) c.tell_write_fault.ensures.part
