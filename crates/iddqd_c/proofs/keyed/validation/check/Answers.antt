use Rattle.std.proofs.Common.{inl, refl}
use Rattle.iddqd_c.proofs.AnswerLemmas.{apart_first, apart_second}
use Rattle.iddqd_c.proofs.keyed.validation.check.Goals as goal

pub returns-in-Ok : goal.returns-in-Ok
returns-in-Ok g c =
    let apart = c.len-count.ensures.state.apart in
    let same = g.met.B.SecondKey.alike_is_taken in
    inl (
      refl,
      apart_first g.B.SecondKey.taken g.B.KeyIndex.alike same c.args.keyed.now.entries.store apart,
      apart_second g.B.SecondKey.taken g.B.KeyIndex.alike same c.args.keyed.now.entries.store apart,
    )
