use Rattle.iddqd_order.proofs.Names.{◌≡◌, ◌∙◌, ◌<◌, arith, length, sym}
use Rattle.iddqd_order.proofs.ReadLemmas.{HasRead-start, HasRead-step, ReadsOn-ended, ReadsOn-full}
use Rattle.iddqd_order.proofs.btree_table.cursor.Cursor.read.Goals as goal

pub loop-at-init : goal.loop-at-init
loop-at-init c = (c.requires.stands, HasRead-start _ _ _ _)

pub loop-at-preserved : goal.loop-at-preserved
loop-at-preserved c =
    let long = c.loop-at.auto.numbers in
    let more : c.loop-at.at < length c.args.numbers.now = omega (arith, c.loop-at-test.true, long) in (
      c.in-Some.ensures.stands,
      rw c.as_u32.ensures
          (HasRead-step _ _ _ _ _ _ _ _ _ c.loop-at.invariant.1 more c.in-Some.ensures.next),
    )

pub returns-in-None-clause-reads : goal.returns-in-None-clause-reads
returns-in-None-clause-reads c =
    let long = c.loop-at.auto.numbers in
    let more : c.loop-at.at < length c.args.numbers.now = omega (arith, c.loop-at-test.true, long) in
    ReadsOn-ended _ _ _ _ _ _ _ _ c.loop-at.invariant.1 more c.in-None.ensures.next

pub returns-clause-reads : goal.returns-clause-reads
returns-clause-reads c =
    let long = c.loop-at.auto.numbers in
    let end : c.loop-at.at ≡ length c.args.numbers.now =
    omega (arith, c.loop-at.auto.at-end, c.loop-at-test.false, long) in
    rw (long ∙ sym end) (ReadsOn-full _ _ _ _ _ _ _ c.loop-at.invariant.1 end)
