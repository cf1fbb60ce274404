use Rattle.std.proofs.Common.{rules}
use Rattle.iddqd_keys.specs.Beginnings.{begin_cmp-taken, begin_cmp-whole}
use Rattle.iddqd_keys.proofs.starts_with.compare_beginning.Goals as goal

pub returns-then-is_longer : goal.returns-then-is_longer
returns-then-is_longer c = rw (begin_cmp-taken c.args.beginning.now c.args.text.now) (search rules)

pub returns-else-is_longer : goal.returns-else-is_longer
returns-else-is_longer c = rw (begin_cmp-whole c.args.beginning.now c.args.text.now (search rules)) (search rules)
