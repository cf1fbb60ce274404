use Rattle.iddqd_order.proofs.Names.{◌≡◌, ◌+◌, ◌-◌, arith, subst, MayLackOne}
use Rattle.iddqd_order.proofs.btree_table.removal.fill_up.Goals as goal

pub returns-then-len-gt-LEAST-clause-mended : goal.returns-then-len-gt-LEAST-clause-mended
returns-then-len-gt-LEAST-clause-mended c h f =
    let e : c.args.i ≡ c.args.i - 1 + 1 = omega arith in
    c.borrow_left.ensures.mended h (subst (λ z. MayLackOne h z c.args.row.now c.args.children.now.items) e f)

pub returns-else-len-gt-LEAST-clause-mended : goal.returns-else-len-gt-LEAST-clause-mended
returns-else-len-gt-LEAST-clause-mended c h f = c.merge.ensures.mended h c.args.i (omega arith) (omega arith) f

pub returns-then-len-gt-LEAST-2-clause-mended : goal.returns-then-len-gt-LEAST-2-clause-mended
returns-then-len-gt-LEAST-2-clause-mended c h f =
    let e : c.args.i ≡ 0 = omega arith in
    c.borrow_right.ensures.mended h (subst (λ z. MayLackOne h z c.args.row.now c.args.children.now.items) e f)

pub returns-else-len-gt-LEAST-2-clause-mended : goal.returns-else-len-gt-LEAST-2-clause-mended
returns-else-len-gt-LEAST-2-clause-mended c h f =
    c.merge-else-len-gt-LEAST-2.ensures.mended h c.args.i (omega arith) (omega arith) f

pub returns-else-len-gt-LEAST-clause-counted : goal.returns-else-len-gt-LEAST-clause-counted
returns-else-len-gt-LEAST-clause-counted c h f = c.merge.ensures.counted h c.args.i (omega arith) (omega arith) f

pub returns-else-len-gt-LEAST-2-clause-counted : goal.returns-else-len-gt-LEAST-2-clause-counted
returns-else-len-gt-LEAST-2-clause-counted c h f =
    c.merge-else-len-gt-LEAST-2.ensures.counted h c.args.i (omega arith) (omega arith) f
