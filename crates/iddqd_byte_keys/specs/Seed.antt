-- The bytes of a seed.
use Rattle.std.specs.Prelude.{◌+◌, ◌*◌, ◌^◌, ℕ, List}
use Rattle.std.specs.Int.{to_le_bytes, w128}
use Rattle.iddqd_byte_keys.specs.declared.seed.Seed.{Seed}

-- the seed as a number of 128 bits, whose high half is the first of its two numbers, the lowest byte first
abbrev pub seed_bytes : Seed → List ℕ
seed_bytes seed = to_le_bytes w128 (seed.seed1 * 2 ^ 64 + seed.seed2)
