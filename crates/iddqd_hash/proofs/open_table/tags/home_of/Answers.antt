use Rattle.std.proofs.Common.{◌+◌}
use Rattle.std.proofs.lemmas.Nat.{and_mask}
use Rattle.iddqd_hash.proofs.open_table.tags.home_of.Goals as goal

pub returns : goal.returns
returns c = rw c.requires.1 (and_mask c.args.hash (c.requires.0 + 4))
