use Rattle.std.proofs.Common.{arith}
use Rattle.iddqd_layer.proofs.RunLemmas.{fits-same, room-used_by}
use Rattle.iddqd_layer.proofs.layer.Layer.obey.Goals as goal

pub returns-in-Ok : goal.returns-in-Ok
returns-in-Ok c =
    let out = c.in-Ok.ensures in
    rw c.in-Reserve.is
    (record { answers = (out.same, out.room); fits = out.fits; room = λ _. omega (arith, out.room_kept) })

pub returns-in-Err : goal.returns-in-Err
returns-in-Err c =
    let out = c.in-Err.ensures in
    rw c.in-Reserve.is
    (record { answers = (out.same, out.roomy); fits = out.fits; room = λ _. omega (arith, out.room_kept) })

pub returns-in-Insert : goal.returns-in-Insert
returns-in-Insert c =
    let out = c.insert.ensures in
    rw c.in-Insert.is
    (record {
      answers = record {
        index = out.index;
        stored = out.stored;
        hashed = rw c.deref.ensures.value at out.hashed;
        ordered = rw c.deref-in-Insert.ensures.value at out.ordered;
        unchanged = out.refused;
        count = rw (c.deref.ensures.value, c.deref-in-Insert.ensures.value) at out.count;
        way = rw c.deref-in-Insert.ensures.value at out.way;
        full = out.full;
        memory = out.memory;
      };
      fits = out.fits;
      room = λ _. room-used_by _ _ _ out.room out.room_kept;
    })

pub returns-in-Remove : goal.returns-in-Remove
returns-in-Remove c =
    let out = c.remove.ensures in
    rw c.in-Remove.is
    (record {
      answers = record {
        live = out.live;
        stored = out.stored;
        hashed = out.hashed;
        ordered = out.ordered;
        freed = out.freed;
        unchanged = out.kept;
      };
      fits = out.fits;
      room = λ _. omega (arith, out.room_kept);
    })

pub returns-in-Rehash : goal.returns-in-Rehash
returns-in-Rehash c =
    let out = c.rehash.ensures in
    rw c.in-Rehash.is
    (record {
      answers = record {
        can = out.done;
        store = out.store;
        filed = out.filed;
        others = out.others;
        ordered = out.ordered;
        unchanged = out.kept;
      };
      fits = fits-same c.args.self.now c.rehash.new.self out.ordered;
      room = λ _. omega (arith, out.room);
    })

pub returns-in-Ok-shrink_to : goal.returns-in-Ok-shrink_to
returns-in-Ok-shrink_to c =
    let out = c.in-Ok-shrink_to.ensures in
    rw c.in-ShrinkTo.is
    (record {
      answers = record { same = out.same; slots = out.slots; hashed = out.hashed; ordered = out.ordered };
      fits = out.fits;
      room = λ never. absurd (let false≢ = never in cc);
    })

pub returns-in-Err-shrink_to : goal.returns-in-Err-shrink_to
returns-in-Err-shrink_to c =
    let out = c.in-Err-shrink_to.ensures in
    rw c.in-ShrinkTo.is
    (record { answers = out.same; fits = out.fits; room = λ never. absurd (let false≢ = never in cc) })

pub returns-in-Clear : goal.returns-in-Clear
returns-in-Clear c =
    let out = c.clear.ensures in
    rw c.in-Clear.is
    (record {
      answers = record { store = out.store; hashed = out.hashed; ordered = out.ordered };
      fits = λ _. out.fits;
      room = λ _. omega (arith, out.room);
    })

pub returns-in-Ok-compact : goal.returns-in-Ok-compact
returns-in-Ok-compact c =
    let out = c.in-Ok-compact.ensures in
    rw c.in-Compact.is
    (record {
      answers = (out.remap, record { store = out.store; hashed = out.hashed; ordered = out.ordered });
      fits = out.fits;
      room = λ _. omega (arith, out.room);
    })

pub returns-in-Err-compact : goal.returns-in-Err-compact
returns-in-Err-compact c =
    let out = c.in-Err-compact.ensures in
    rw c.in-Compact.is
    (record { answers = out.refused; fits = out.fits; room = λ _. omega (arith, out.room) })
