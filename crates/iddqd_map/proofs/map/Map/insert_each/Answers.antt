use Rattle.std.proofs.Common.{Some, subst}
use Rattle.std.specs.Prelude.{Ok}
use Rattle.iddqd_map.specs.Calls.{Inserts}
use Rattle.iddqd_map.proofs.BulkLemmas.{InsertsItems-none, Inserting-one, nearer_limit}
use Rattle.iddqd_map.proofs.RoomLemmas.{Inserts-room}
use Rattle.iddqd_map.proofs.map.Map.insert_each.Goals as goal

pub returns-in-Err-clause-inserts : goal.returns-in-Err-clause-inserts
returns-in-Err-clause-inserts g c =
    let (item, step, goes, did) = c.in-Some.ensures in
    let now = c.loop-answer.self in
    let refused = subst (λ a. Inserts g.X.KeyIndex.alike g.X.KeyIndex.grown g.X.Changes.conflicts now item a c.insert_next.new.self) c.in-Err.is did in
    let none = InsertsItems-none g.I.Iterator.can_next g.I.Iterator.next_gives g.I.Iterator.remaining g.X.KeyIndex.alike g.X.KeyIndex.grown c.loop-answer.iter c.insert_next.new.iter now (Some item) step in
    let (items, run) = c.loop-answer.invariant.along _ _ _ _ none in
    (items, (item, now, run, refused))

pub loop-answer-smaller : goal.loop-answer-smaller
loop-answer-smaller g c =
    let (item, step, goes, did) = c.in-Some.ensures in
    let now = c.loop-answer.self in
    let new = c.insert_next.new.self in
    let ix = c.in_default-answer.field-0 in
    let inserts = subst (λ a. Inserts g.X.KeyIndex.alike g.X.KeyIndex.grown g.X.Changes.conflicts now item a new) c.in_default-answer.is did in
    nearer_limit g.X.KeyIndex.alike g.X.KeyIndex.grown now new item c.loop-answer.invariant.valid (ix, inserts)

pub loop-answer-preserved : goal.loop-answer-preserved
loop-answer-preserved g c =
    let (item, step, goes, did) = c.in-Some.ensures in
    let i = c.loop-answer.invariant in
    let now = c.loop-answer.self in
    let new = c.insert_next.new.self in
    let ix = c.in_default-answer.field-0 in
    let alike = g.X.KeyIndex.alike in
    let grown = g.X.KeyIndex.grown in
    let conflicts = g.X.Changes.conflicts in
    let inserts = subst (λ a. Inserts alike grown conflicts now item a new) c.in_default-answer.is did in
    let room = Inserts-room alike grown now new item i.valid conflicts (Ok ix) inserts in
    Inserting-one g.I.Iterator.can_next g.I.Iterator.next_gives g.I.Iterator.remaining alike grown c.args.iter.now c.loop-answer.iter c.insert_next.new.iter c.args.self.now now item i step goes ix new inserts room

pub returns-clause-inserts : goal.returns-clause-inserts
returns-clause-inserts g c =
    let none = InsertsItems-none g.I.Iterator.can_next g.I.Iterator.next_gives g.I.Iterator.remaining g.X.KeyIndex.alike g.X.KeyIndex.grown c.loop-answer.iter c.insert_next.new.iter c.loop-answer.self _ c.in_default.ensures.0 in
    let (items, run) = c.loop-answer.invariant.along _ _ _ _ none in
    (items, rw c.in_default.ensures.1 run)
