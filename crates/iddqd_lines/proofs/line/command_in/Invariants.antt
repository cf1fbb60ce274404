use Rattle.std.proofs.Common.{◌≡◌, ◌≤◌, length, take}
use Rattle.iddqd_lines.specs.Line.{command_of, words_in}
use Rattle.iddqd_lines.proofs.LineLemmas.{reads}
use Rattle.iddqd_lines.proofs.line.command_in.Given as goal

-- the words so far are the verb and these numbers
abbrev pub invariant-words : goal.invariant-words
invariant-words l = record {
  few : l.count ≤ 4;
  whole : length l.numbers ≡ 4;
  same : command_of l.line ≡ reads l.verb (take l.count l.numbers) (words_in l.behind);
}

abbrev pub decreases-words : goal.decreases-words
decreases-words l = length (words_in l.behind)
