use Rattle.std.proofs.Common.{arith}
use Rattle.std.proofs.lemmas.Grind.{common_steps, same_number_lists}
use Rattle.iddqd_order.proofs.Names.{◌≡◌, ℕ, ◌+◌, ◌-◌, ◌<◌, ◌≤◌, List, length, take, ap, ◌∙◌, arith, length-take, slice_index, sym, remove}
use Rattle.std.proofs.lemmas.List.{places}
use Rattle.iddqd_order.proofs.btree_table.row.Row.remove.Goals as goal

-- the indexes after a place are moved down by one
moved_down :
    (was is : List ℕ) (len at : ℕ)
    → length is ≡ length was
    → len ≤ length was
    → at < len
    → ((k : ℕ) → k < at → slice_index is k ≡ slice_index was k)
    → ((k : ℕ) → at ≤ k → k + 1 < length was → slice_index is k ≡ slice_index was (k + 1))
    → take (len - 1) is ≡ remove (take len was) at
moved_down was is len at all fits within below above =
    same_number_lists _ _ (grind (arith, places, all)) (λ k lt.
    let b = below k in let a = above k in grind (arith, places))

pub returns-clause-items : goal.returns-clause-items
returns-clause-items c =
    let full = c.self.invariant.0 in let few = c.self.invariant.1 in let at = c.requires in
    let n = length-take c.self.inside.len c.self.inside.items in
    let e = ap length c.self.view_is in
    let moved = c.move_down.ensures in
    moved_down c.self.inside.items c.move_down.new.items c.self.inside.len c.args.at (moved.length ∙ sym full)
    (omega arith) (omega arith) moved.below (λ k le lt. moved.above k le (omega arith))
    ∙ ap (λ z. remove z c.args.at) c.self.view_is

pub returns-clause-value : goal.returns-clause-value
returns-clause-value c = grind (arith, common_steps)
