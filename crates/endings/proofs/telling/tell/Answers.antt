use Rattle.endings.specs.Telling.{misuse, read_fault, refused, out_of_memory}
use Rattle.endings.proofs.Lines.{tells_line}
use Rattle.endings.proofs.telling.tell.Goals as goal

pub returns-in-Refusal-clause-tells : goal.returns-in-Refusal-clause-tells
returns-in-Refusal-clause-tells g c =
    let e = c.tell_line.ensures in
    rw (c.in-Refusal.is, ← c.deref-in-Refusal.ensures.value)
    (tells_line _ _ (refused c.deref-in-Refusal.result.now).err _ _ _ _ _ _ e.ending e.all e.part e.cause)

pub returns-in-Misuse-clause-tells : goal.returns-in-Misuse-clause-tells
returns-in-Misuse-clause-tells g c = let e = c.tell_line-in-Misuse.ensures in
    rw c.in-Misuse.is (tells_line _ _ (misuse c.args.usage.now).err _ _ _ _ _ _ e.ending e.all e.part e.cause)

pub returns-in-NoMemory-clause-tells : goal.returns-in-NoMemory-clause-tells
returns-in-NoMemory-clause-tells g c = let e = c.tell_no_memory.ensures in
    rw c.in-NoMemory.is (tells_line _ _ out_of_memory.err _ _ _ _ _ _ e.ending e.all e.part e.cause)

pub returns-in-ReadFailed-clause-tells : goal.returns-in-ReadFailed-clause-tells
returns-in-ReadFailed-clause-tells g c =
    let e = c.tell_line-in-ReadFailed.ensures in
    rw (c.in-ReadFailed.is, ← c.as_bytes.ensures.value) (tells_line _ _ (read_fault c.as_bytes.result.now).err _ _ _ _ _ _ e.ending e.all e.part e.cause)

pub returns-in-SecondFailed-clause-tells : goal.returns-in-SecondFailed-clause-tells
returns-in-SecondFailed-clause-tells g c =
    let e = c.tell_line-in-SecondFailed.ensures in
    rw (c.in-SecondFailed.is, ← c.as_bytes-in-SecondFailed.ensures.value)
    (tells_line _ _ (read_fault c.as_bytes-in-SecondFailed.result.now).err _ _ _ _ _ _ e.ending e.all e.part e.cause)
