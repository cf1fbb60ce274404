use Rattle.std.proofs.Common.{◌≡◌, ◌<◌, ◌≤◌, IfOk, inl, inr, length, subst, arith}
use Rattle.std.proofs.lemmas.Bool.{cases_lt}
use Rattle.iddqd.specs.Store.{live_count}
use Rattle.iddqd_order.specs.MapBTreeTable.{order_of, capacity}
use Rattle.iddqd_by_order.proofs.OrderedCountLemmas.{length-held}
use Rattle.iddqd_ord_map.specs.OrderedSteps.{reserved_for}
use Rattle.iddqd_ord_map.proofs.SizeLemmas.{on_err, not_on_ok}
use Rattle.iddqd_ord_map.proofs.ordered_steps.blocks_anywhere.Goals as goal

pub returns-clause-past : goal.returns-clause-past
returns-clause-past g c =
    let t = c.args.table.now in
    let held = length-held c.args.items.now.store (order_of t) c.requires in
    elim (cases_lt (capacity t) (length (order_of t))) [
      | inl more ↦
          let past : reserved_for t < live_count c.args.items.now.store = omega (arith, more, held) in
          on_err c.blocks_anywhere.result past
      | inr room ↦ not_on_ok (reserved_for t < live_count c.args.items.now.store) c.blocks_anywhere.result (c.blocks_anywhere.ensures.none (c.blocks_anywhere.ensures.roomy room))
    ]

pub returns-clause-none : goal.returns-clause-none
returns-clause-none g c = λ within.
    let t = c.args.table.now in
    let held = length-held c.args.items.now.store (order_of t) c.requires in
    let fits : length (order_of t) ≤ capacity t = omega (arith, within, held) in
    subst (λ count. IfOk c.blocks_anywhere.result (λ blocks. blocks ≡ count)) (c.blocks_anywhere.ensures.roomy fits)
    c.blocks_anywhere.ensures.blocks
