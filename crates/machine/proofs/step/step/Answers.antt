-- `machine::step::step` meets its contract. Of the arms these change more than one of the lent things, or the room.
use Rattle.machine.specs.Turn.{held}
use Rattle.machine.proofs.Landing.{allocs, frees, outputs}
use Rattle.machine.proofs.step.step.Goals as goal

pub returns-in-Alloc : goal.returns-in-Alloc
returns-in-Alloc c = let a = c.args in
    let r = c.alloc.ensures in
    allocs a.starts.now a.objects.now a.input.now (held a.temps.now a.memory.now a.table.now a.room.now) a.from c.requires.1
    c.in-Alloc.is r.value r.temps_after r.memory_after r.table_after

pub returns-in-Free : goal.returns-in-Free
returns-in-Free c = let a = c.args in
    let r = c.free.ensures in
    frees a.starts.now a.objects.now a.input.now (held a.temps.now a.memory.now a.table.now a.room.now) a.from c.requires.1
    c.in-Free.is c.value-in-Free.ensures r.value r.memory_after r.table_after

pub returns-in-Out : goal.returns-in-Out
returns-in-Out c = let a = c.args in
    outputs a.starts.now a.objects.now a.input.now (held a.temps.now a.memory.now a.table.now a.room.now) a.from c.requires.1
    c.in-Out.is c.put_out.ensures.value c.put_out.ensures.room_after
