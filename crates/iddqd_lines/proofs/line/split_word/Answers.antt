use Rattle.std.proofs.Common.{refl}
use Rattle.std.proofs.lemmas.List.Splits.{slice_split_at, slice_split_none}
use Rattle.iddqd_lines.specs.Line.{is_space}
use Rattle.iddqd_lines.proofs.line.split_word.Goals as goal

pub returns-in-Some : goal.returns-in-Some
returns-in-Some c =
    let cut = c.in-Some.ensures in
    rw cut.whole (slice_split_at is_space c.in-Some.word.now 32 c.in-Some.rest.now cut.first refl)

pub returns-in-None : goal.returns-in-None
returns-in-None c = slice_split_none is_space c.args.words.now c.in-None.ensures
