-- The table's own hasher.
use Rattle.std.specs.Prelude.{ℕ, List}
use Rattle.std.specs.List.{fold}
use Rattle.std.specs.Hash.FoldHasher.{initial, write, finish}

-- the hash of a key that is fed to it by these writes
abbrev pub default_hash : List (List ℕ) → ℕ
default_hash writes = finish (fold write initial writes)
