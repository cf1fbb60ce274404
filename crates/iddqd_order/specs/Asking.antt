-- What a contract sees of an `Asking`.
use Rattle.std.specs.Prelude.{ℕ}
use Rattle.iddqd_order.specs.declared.btree_table.asking.Asking.{Asking}

-- the closure, as its calls have left it
unfoldable pub closure_of : {F : Type 0} → Asking F → F
closure_of a = a.closure

-- how many times it was asked
unfoldable pub ask_count : {F : Type 0} → Asking F → ℕ
ask_count a = a.asks.total
