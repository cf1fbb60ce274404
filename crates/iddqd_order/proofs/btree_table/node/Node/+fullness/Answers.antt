use Rattle.iddqd_order.proofs.Names.{arith, refl, rules}
use Rattle.iddqd_order.proofs.CursorLemmas.{goes-here, goes-in}
use Rattle.iddqd_order.proofs.DescentLemmas.{Counts, counts_here, full-at}
use Rattle.iddqd_order.proofs.btree_table.node.Node.+fullness.Goals as goal

pub returns-then-height-eq0-clause-full : goal.returns-then-height-eq0-clause-full
returns-then-height-eq0-clause-full t c =
    let counts : Counts c.args.self.now c.args.full c.args.height c.full_from-full.result =
    record {
      above = c.requires.above;
      not_full = c.full_from-full.ensures.not_full;
      is_full = c.full_from-full.ensures.is_full;
    } in
    full-at c.full_from-full.result c.args.height c.args.self.now c.args.path.now
    (counts_here c.args.self.now c.args.full c.args.height c.full_from-full.result c.full_from-full.result counts
    (λ le. refl)).0
    (λ ne. absurd (ne c.if-height-eq0.true))

pub index-requires : goal.index-requires
index-requires t c =
    let lt = goes-here c.args.height c.get-place.result c.args.self.now c.args.path.now c.if-height-eq0.false
    c.get-place.ensures c.requires.goes in
    search (rules, lt)

pub fullness-requires : goal.fullness-requires
fullness-requires t c =
    let b = goes-in c.args.height c.get-place.result c.args.self.now c.index.result.now c.args.path.now
    c.if-height-eq0.false c.get-place.ensures c.requires.formed c.requires.goes c.index.ensures in
    let levels = c.requires.levels in
    let above = c.full_from-full.ensures.above in
    (omega arith, (b.formed, (omega arith, (b.goes, omega arith))))

pub returns-clause-full : goal.returns-clause-full
returns-clause-full t c =
    let b = goes-in c.args.height c.get-place.result c.args.self.now c.index.result.now c.args.path.now
    c.if-height-eq0.false c.get-place.ensures c.requires.formed c.requires.goes c.index.ensures in
    let is = b.is in let at = c.get-place.ensures in
    let counts : Counts c.args.self.now c.args.full c.args.height c.full_from-full.result =
    record {
      above = c.requires.above;
      not_full = c.full_from-full.ensures.not_full;
      is_full = c.full_from-full.ensures.is_full;
    } in
    full-at c.fullness.result c.args.height c.args.self.now c.args.path.now
    (counts_here c.args.self.now c.args.full c.args.height c.full_from-full.result c.fullness.result counts
    (λ le. c.fullness.ensures.all (omega arith))).0
    (λ ne. rw (← at, ← is) c.fullness.ensures.full)
