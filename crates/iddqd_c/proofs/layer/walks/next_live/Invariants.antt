use Rattle.std.specs.Prelude.{◌≡◌}
use Rattle.iddqd_layer.specs.Layer.{store_of}
use Rattle.iddqd_c.specs.Layers.{live_from}
use Rattle.iddqd_c.proofs.layer.walks.next_live.Given as goal

abbrev pub invariant-loop-ix : goal.invariant-loop-ix
invariant-loop-ix l = live_from l.fn.from (store_of l.fn.layer) ≡ live_from l.ix (store_of l.fn.layer)
