use Rattle.std.proofs.Common.{◌<◌, ◌^◌, ◌∙◌, inl, inr, length, codes, refl, ap, arith}
use Rattle.iddqd_lines.proofs.LineLemmas.{short_text}
use Rattle.iddqd_lines.proofs.serve.check.Goals as goal

pub returns-in-Ok : goal.returns-in-Ok
returns-in-Ok g c = record { out = codes "ok"; answers = (inl (c.in-Ok.ensures.allowed refl, refl), refl); sends = c.put_line.ensures }

pub put_line-requires-in-Err-Invalid-General : goal.put_line-requires-in-Err-Invalid-General
put_line-requires-in-Err-Invalid-General g c =
    let is = c.in-Err-Invalid-General in
    let unsound = rw (is.field-0-is) at (is.ensures.by_scans refl) in
    let told = rw (is.field-0-is, is.field-0-0-is, is.text-is) at (is.ensures.not_compact unsound) in
    let valid = is.ensures.paired.valid in
    let few : length c.args.items.now.state.store.free < 10 ^ 10 = omega (arith, valid.counted, valid.small, valid.named) in
    omega (arith, ap length (c.as_bytes.ensures.value ∙ told), short_text (length c.args.items.now.state.store.free) few)

pub returns-in-Err-Memory : goal.returns-in-Err-Memory
returns-in-Err-Memory g c = record { out = codes "no memory"; answers = (inr (inr refl), refl); sends = c.put_line-in-Err-Memory.ensures }
