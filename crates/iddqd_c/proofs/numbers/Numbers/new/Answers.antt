use Rattle.std.proofs.Common.{◌∙◌, ap, map}
use Rattle.iddqd_c.proofs.MixingLemmas.{entries_own, memory_own, own, room_own}
use Rattle.iddqd_c.proofs.numbers.Numbers.new.Goals as goal

pub returns : goal.returns
returns c =
    let none = c.new.ensures.memory in (
      entries_own _ ∙ ap (map own) c.new.ensures.empty,
      record { no_room = room_own _ ∙ none.no_room; no_cell = memory_own _ ∙ none.no_cell },
    )
