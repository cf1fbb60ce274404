use Rattle.std.proofs.Common.{◌+◌}
use Rattle.std.proofs.lemmas.Nat.{and_mask}
use Rattle.iddqd_hash.proofs.open_table.tags.next.Goals as goal

pub returns : goal.returns
returns c = rw c.requires.power.1 (and_mask (c.args.at + 1) (c.requires.power.0 + 4))
