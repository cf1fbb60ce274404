use Rattle.std.proofs.Common.{◌∙◌, length, sym, ap}
use Rattle.std.proofs.lemmas.List.{length-map}
use Rattle.iddqd_hash.proofs.open_table.iter.TableIterExactSizeIterator.len.Goals as goal

pub returns-clause-value : goal.returns-clause-value
returns-clause-value g c =
    c.self.invariant.counted ∙ sym (length-map _ (λ e. e.1)) ∙ ap length c.self.view_is
