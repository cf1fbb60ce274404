use Rattle.std.proofs.Common.{◌≡◌, ◌≤◌, ◌-◌, true, length, take}
use Rattle.std.specs.List.{list_all}
use Rattle.std.specs.Char.{is_ascii_digit}
use Rattle.std.specs.Str.Parse.{digits_value}
use Rattle.iddqd_lines.proofs.line.split_number.Given as goal

-- the bytes so far are digits, and this is their value
abbrev pub invariant-word : goal.invariant-word
invariant-word l = record {
  within : l.len ≤ length l.words;
  digits : list_all is_ascii_digit (take l.len l.words) ≡ true;
  value : l.value ≡ digits_value 10 (take l.len l.words);
  small : l.value ≤ 4294967295;
}

abbrev pub decreases-word : goal.decreases-word
decreases-word l = length l.words - l.len
