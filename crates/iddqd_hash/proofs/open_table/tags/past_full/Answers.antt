use Rattle.std.proofs.Common.{◌≡◌, ◌+◌, ◌-◌, ◌%◌, length, bit_and, sym}
use Rattle.std.proofs.lemmas.Nat.{and_mask}
use Rattle.iddqd_hash.proofs.OpenPastFullLemmas.{IsPastFull-run}
use Rattle.iddqd_hash.proofs.open_table.tags.past_full.Goals as goal

pub returns : goal.returns
returns c =
    let to = c.args.at + c.run_of_full.result in
    let is : bit_and to (length c.args.tags.now - 1) ≡ to % length c.args.tags.now =
    rw c.requires.power.1 (and_mask to (c.requires.power.0 + 4)) in
    IsPastFull-run _ _ _ _ c.run_of_full.ensures.inside c.run_of_full.ensures.full (sym is)
