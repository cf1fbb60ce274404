-- The hash of a key under the state of a build hasher.
use Rattle.std.specs.Prelude.{ℕ, List}
use Rattle.std.specs.List.{fold}
use Rattle.std.specs.declared.hash.Hasher as hasher
use Rattle.std.specs.declared.hash.BuildHasher as builder

-- what a new hasher returns after these writes
abbrev pub hash_one : {S H : Type 0} → builder.Ghosts S H → hasher.Ghosts H → S → List (List ℕ) → ℕ
hash_one b h state writes = h.finish (fold h.write (b.build_hasher state) writes)
