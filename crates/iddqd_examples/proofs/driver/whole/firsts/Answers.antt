use Rattle.std.proofs.Common.{◌∙◌, ap, length, map, arith}
use Rattle.iddqd.proofs.LiveItemLemmas.{length-items_in}
use Rattle.iddqd_examples.proofs.driver.whole.firsts.Goals as goal

pub loop-pair-init : goal.loop-pair-init
loop-pair-init c =
    let given = c.into_iter-pair-iterator.ensures.into_iter_gives in
    let count = ap length given ∙ length-items_in c.args.pairs.state.store.items in
    record {
      whole = rw c.in_ok-firsts.ensures.items (ap (map (λ pair. pair.0)) given);
      room = omega (arith, count, c.len.ensures.value, c.in_ok-firsts.ensures.len, c.in_ok-firsts.ensures.capacity);
    }
