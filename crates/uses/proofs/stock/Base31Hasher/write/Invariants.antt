use Rattle.std.proofs.Common.{◌≡◌, ◌+◌, ◌*◌, ◌%◌, ◌^◌, take}
use Rattle.std.specs.List.{fold}
use Rattle.uses.proofs.stock.Base31Hasher.write.Given as goal

-- the number of the bytes so far
abbrev pub invariant-loop-byte : goal.invariant-loop-byte
invariant-loop-byte l =
    l.self.0 ≡ fold (λ sum byte. (sum * 31 % 2 ^ 64 + byte) % 2 ^ 64) l.initial.self.0 (take l.byte-index l.bytes)
