use Rattle.std.proofs.Common.{◌≡◌, ◌+◌, ◌%◌, ◌^◌, take}
use Rattle.std.specs.List.{fold}
use Rattle.iddqd_examples.proofs.driver.hashers.SumHasher.write.Given as goal

-- the sum of the bytes so far
abbrev pub invariant-loop-byte : goal.invariant-loop-byte
invariant-loop-byte l = l.self.0 ≡ fold (λ sum byte. (sum + byte) % 2 ^ 64) l.initial.self.0 (take l.byte-index l.bytes)
