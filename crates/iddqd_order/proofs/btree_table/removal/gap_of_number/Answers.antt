use Rattle.std.proofs.Common.{arith}
use Rattle.iddqd_order.proofs.Names.{◌≡◌, ◌+◌, suc, length, get_or, get_or_default, ap, add-one, cases_lt, inl, inr, Node, row, gaps_before}
use Rattle.iddqd_order.proofs.GapNumberLemmas.{gaps_before-next, gaps_before-all}
use Rattle.iddqd_order.proofs.btree_table.removal.gap_of_number.Goals as goal

pub loop-place-preserved : goal.loop-place-preserved
loop-place-preserved c =
    let ks = c.args.children.now in
    let at = c.loop-place.at in
    let k : Node = c.index-children-at-in-loop-place.result in
    let tested : Node = c.index-children-at.result in
    let i = c.loop-place.invariant in
    let here = i.here in
    let counted = i.counted in
    let over = c.loop-place-test.true in
    let long : c.len-in-loop-place.result ≡ length (row (get_or ks at k)) = c.len-in-loop-place.ensures.length in
    let tested_long : c.len.result ≡ length (row (get_or ks at tested)) = c.len.ensures.length in
    let same : length (row (get_or ks at tested)) ≡ length (row (get_or ks at k)) =
    ap (λ z. length (row z)) (get_or_default ks at tested k here) in
    let next = gaps_before-next at ks k here in
    let one : gaps_before (at + 1) ks ≡ gaps_before (suc at) ks = ap (λ z. gaps_before z ks) (add-one at) in
    record {
      here = elim (cases_lt (suc at) (length ks)) [
        | inl lt ↦ omega arith
        | inr le ↦ (let all = gaps_before-all (suc at) ks le in let fits = c.requires in absurd (omega arith))
      ];
      counted = omega arith;
    }
