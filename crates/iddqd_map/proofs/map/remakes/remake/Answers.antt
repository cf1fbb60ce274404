use Rattle.std.proofs.Common.{Some, refl, sym}
use Rattle.iddqd_map.proofs.RemakeLemmas.{Vacates-out, index-freed, LacksMemory-out, TakesPlace-put}
use Rattle.iddqd_map.proofs.map.remakes.remake.Goals as goal

pub returns-in-Ok-blocks-clause-remakes : goal.returns-in-Ok-blocks-clause-remakes
returns-in-Ok-blocks-clause-remakes g c =
    let out = c.in-Some.ensures in
    let put = c.put_in_room.ensures in
    let items = c.args.items.now in
    let mid = c.take_out.new.items in
    let made = c.f-made.result in (
      c.in-Some.item,
      made,
      sym {a = Some c.in-Some.item} out.value,
      c.f-made.ensures,
      (
        index-freed items mid c.args.ix _ _ _ _ out.removed out.capacity out.cells c.put_in_room.result put.index,
        TakesPlace-put items mid c.args.ix _ _ _ _ out.removed out.capacity out.cells g.X.KeyIndex.alike
            g.X.KeyIndex.may_need_memory made c.in-Ok.ensures.0 c.put_in_room.new.items _ _ put.stored put.capacity
            put.cells,
      ),
    )

pub returns-in-Err-blocks-clause-remakes : goal.returns-in-Err-blocks-clause-remakes
returns-in-Err-blocks-clause-remakes g c =
    let out = c.in-Some.ensures in
    let items = c.args.items.now in
    let mid = c.take_out.new.items in
    let made = c.f-made.result in (
      c.in-Some.item,
      made,
      sym {a = Some c.in-Some.item} out.value,
      c.f-made.ensures,
      (
        refl,
        LacksMemory-out items mid c.args.ix _ _ _ _ out.removed out.capacity out.cells g.X.KeyIndex.alike
            g.X.KeyIndex.may_need_memory made c.in-Ok.ensures.0 c.in-Err-blocks.ensures.may_need_memory
            c.in-Err-blocks.ensures.past,
        Vacates-out items mid c.args.ix _ _ _ _ out.removed out.capacity out.cells,
      ),
    )
