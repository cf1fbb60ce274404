use Rattle.std.proofs.Common.{◌≡◌, ◌+◌, ◌*◌, ◌%◌, ◌^◌, ℕ, get_or, take}
use Rattle.std.specs.List.{fold}
use Rattle.std.proofs.lemmas.List.Sums.{fold_more}
use Rattle.uses.proofs.stock.Base31Hasher.write.Goals as goal

abbrev added : ℕ → ℕ → ℕ
added sum byte = (sum * 31 % 2 ^ 64 + byte) % 2 ^ 64

pub loop-byte-preserved : goal.loop-byte-preserved
loop-byte-preserved c =
    let bytes = c.args.bytes.now in
    let at = c.loop-byte.byte-index in
    let more : fold added c.args.self.now.0 (take (at + 1) bytes) ≡ added (fold added c.args.self.now.0 (take at bytes)) (get_or bytes at 0) = fold_more added c.args.self.now.0 bytes at 0 c.loop-byte-test.true in
    cc
