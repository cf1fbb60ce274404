-- How an index spreads the hashes of its callers, which may differ in few bits: an integer may be its own hash. The
-- table files each number under its mixed hash, and a contract reads it through the inverse.
use Rattle.std.specs.Prelude.{◌*◌, ◌/◌, ◌%◌, ◌^◌, ℕ, map, nat_lt, if◌then◌else◌}
use Rattle.std.specs.Int.RustNames.{bit_xor}
use Rattle.iddqd_hash.specs.HashTable.{Table, entries, listed, memory, room}

-- the high half of a number of 64 bits by xor onto its low half
abbrev pub folded : ℕ → ℕ
folded n = bit_xor n (n / 2 ^ 32)

-- a number of 64 bits, times a factor between two folds
abbrev pub spread : ℕ → ℕ → ℕ
spread factor n = folded (folded n * factor % 2 ^ 64)

-- A hash is mixed by an odd factor. What isn't a number of 64 bits stays, so this is a bijection of all numbers.
abbrev pub mixed : ℕ → ℕ
mixed hash = if nat_lt hash (2 ^ 64) then spread 0xc4ceb9fe1a85ec53 hash else hash

-- the inverse, by the inverse factor
abbrev pub unmixed : ℕ → ℕ
unmixed hash = if nat_lt hash (2 ^ 64) then spread 0x9cb4b2f8129337db hash else hash

-- the same pairs under the hashes of callers, in the same memory
abbrev pub under_own_hashes : Table ℕ → Table ℕ
under_own_hashes t = listed (map (λ e. (unmixed e.0, e.1)) (entries t)) (room t) (memory t)
