use Rattle.std.proofs.Common.{rules, ◌≡◌, ◌∙◌, ◌+◌, ◌*◌, ◌%◌, ◌^◌, ◌<◌, bit_or, ap, arith}
use Rattle.std.specs.Int.{to_le_bytes, w128}
use Rattle.iddqd_byte_keys.proofs.SeedLemmas.{filled_start, joined_halves}
use Rattle.iddqd_byte_keys.proofs.seed.SeedRandomSource.fill_bytes.Goals as goal

pub returns-clause-filled : goal.returns-clause-filled
returns-clause-filled c =
    let high : c.args.self.now.seed1 < 2 ^ 64 = search rules in
    let low : c.args.self.now.seed2 < 2 ^ 64 = search rules in
    let bytes : c.to_le_bytes-bytes.result ≡ to_le_bytes w128
    (bit_or (c.args.self.now.seed1 * 2 ^ 64 % 2 ^ 128) c.args.self.now.seed2) =
    c.to_le_bytes-bytes.ensures in
    let is = bytes ∙ ap (to_le_bytes w128) (joined_halves _ _ high low) in
    rw (c.copy_from_slice.ensures.after, is) (filled_start _ _ _ c.min-count.ensures)
