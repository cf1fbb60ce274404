use Rattle.std.proofs.Common.{◌<◌, ◌/◌, ◌^◌}
use Rattle.iddqd_hash.specs.OpenTable.{usable_of}
use Rattle.iddqd_hash.proofs.open_table.tags.count_for.Given as goal

abbrev pub invariant-loop-exponent : goal.invariant-loop-exponent
invariant-loop-exponent l = 16 < 2 ^ l.exponent → usable_of (2 ^ l.exponent / 2) < l.needed
