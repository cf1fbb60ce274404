-- How much of a line is kept.
use Rattle.std.proofs.Common.{◌≡◌, ◌++◌, ◌<◌, ℕ, Bool, true, false, cond, List, length, nat_le, Some, None, refl, sym, arith, length-append}
use Rattle.std.specs.Option.{option_and_then}
use Rattle.std.proofs.lemmas.Bool.Decides.{nat_tests}
use Rattle.iddqd_lines.specs.Line.{max_line}
use Rattle.iddqd_lines.specs.Serve.{kept_line}

kept_line-long : (line : List ℕ) → 128 < length line → kept_line line ≡ None
kept_line-long line long = let fits : nat_le (length line) max_line ≡ false = grind (arith, nat_tests, long) in rw fits refl

-- a line and more bytes: what is kept of both goes by what is kept of the line
pub kept_line-append :
    (line more : List ℕ)
    → option_and_then (λ begun. kept_line (begun ++ more)) (kept_line line) ≡ kept_line (line ++ more)
kept_line-append line more = by_length (nat_le (length line) max_line) refl
  where
    by_length :
        (fits : Bool)
        → nat_le (length line) max_line ≡ fits
        → option_and_then (λ begun. kept_line (begun ++ more)) (cond fits (Some line) None) ≡ kept_line (line ++ more)
    by_length true is = refl
    by_length false is =
        let long : 128 < length line = grind (arith, nat_tests, is) in
        sym (kept_line-long (line ++ more) (omega (arith, long, length-append line more)))

-- a line of which all is kept is that
pub kept_line-some : (line out : List ℕ) → kept_line line ≡ Some out → line ≡ out
kept_line-some line out is = by_length (nat_le (length line) max_line) is
  where
    by_length : (fits : Bool) → cond fits (Some line) None ≡ Some out → line ≡ out
    by_length true same = cc
    by_length false same = absurd (cc)
