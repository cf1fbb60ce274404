use Rattle.std.proofs.Common.{◌≡◌, ◌+◌, ◌-◌, ◌%◌, length, bit_and, sym}
use Rattle.std.proofs.lemmas.Nat.{and_mask}
use Rattle.iddqd_hash.proofs.OpenSkipLemmas.{Skips-run}
use Rattle.iddqd_hash.proofs.open_table.tags.past_others.Goals as goal

pub returns : goal.returns
returns c =
    let to = c.args.at + c.run_of_others.result in
    let is : bit_and to (length c.args.tags.now - 1) ≡ to % length c.args.tags.now =
    rw c.requires.power.1 (and_mask to (c.requires.power.0 + 4)) in
    Skips-run _ _ _ _ _ c.run_of_others.ensures.inside c.run_of_others.ensures.others (sym is)
