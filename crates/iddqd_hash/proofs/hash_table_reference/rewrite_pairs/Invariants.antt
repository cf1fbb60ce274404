use Rattle.std.specs.Fn.{FnReturnsAt}
use Rattle.iddqd_hash.proofs.RewriteLemmas.{Rewriting}
use Rattle.iddqd_hash.proofs.hash_table_reference.rewrite_pairs.Given as goal

abbrev pub invariant-loop-at : goal.invariant-loop-at
invariant-loop-at g l = Rewriting (FnReturnsAt g.F.Fn l.f) l.fn.pairs l.pairs l.at
