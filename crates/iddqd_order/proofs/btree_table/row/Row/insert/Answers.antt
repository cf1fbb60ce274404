use Rattle.iddqd_order.proofs.Names.{◌≡◌, ℕ, ◌+◌, ◌<◌, ◌≤◌, List, length, take, set, ap, ◌∙◌, arith, length-set, length-take, slice_index, sym, ◌-◌, insert}
use Rattle.std.proofs.lemmas.List.{places}
use Rattle.std.proofs.lemmas.Grind.{get_or-set_at, same_number_lists}
use Rattle.iddqd_order.proofs.btree_table.row.Row.insert.Goals as goal

-- the indexes from a place on are moved up by one, and an index is written there
moved_up :
    (was is : List ℕ) (len at x : ℕ)
    → length is ≡ length was
    → len < length was
    → at ≤ len
    → ((k : ℕ) → k ≤ at → slice_index is k ≡ slice_index was k)
    → ((k : ℕ) → at < k → k < length was → slice_index is k ≡ slice_index was (k - 1))
    → take (len + 1) (set is at x) ≡ insert (take len was) at x
moved_up was is len at x all fits within below above =
    same_number_lists _ _ (grind (arith, places, length-set, all)) (λ k lt.
    let b = below k in let a = above k in grind (arith, places, length-set, get_or-set_at))

pub returns : goal.returns
returns c =
    let full = c.self.invariant.0 in let few = c.self.invariant.1 in let room = c.requires.room in
    let at = c.requires.in_bounds in
    let n = length-take c.self.inside.len c.self.inside.items in
    let e = ap length c.self.view_is in
    let moved = c.move_up.ensures in
    moved_up c.self.inside.items c.move_up.new.items c.self.inside.len c.args.at c.args.ix (moved.length ∙ sym full)
    (omega arith) (omega arith) moved.below (λ k lt within. moved.above k lt (omega arith))
    ∙ ap (λ z. insert z c.args.at c.args.ix) c.self.view_is
