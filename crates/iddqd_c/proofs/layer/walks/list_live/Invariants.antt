use Rattle.iddqd_layer.specs.Layer.{store_of}
use Rattle.iddqd_c.specs.Layers.{live_from}
use Rattle.iddqd_codes.proofs.FillLemmas.{IsFilled}
use Rattle.iddqd_c.proofs.layer.walks.list_live.Given as goal

abbrev pub invariant-loop-at : goal.invariant-loop-at
invariant-loop-at l =
    IsFilled (λ n. n) (live_from l.fn.from (store_of l.fn.layer)) (live_from l.next (store_of l.fn.layer)) l.at
    l.fn.indexes l.indexes
