use Rattle.std.proofs.Common.{◌≡◌, ◌∙◌, ◌≤◌, ◌<◌, ◌+◌, length, take, Some, None, sym, ap, arith, length-set, length-take-le}
use Rattle.std.specs.List.{slice_split}
use Rattle.iddqd_lines.specs.Line.{is_space, words_in, number_and_rest}
use Rattle.iddqd_lines.proofs.LineLemmas.{reads, reads-none, reads-next, reads-past, some_part, take-put}
use Rattle.iddqd_lines.proofs.line.command_in.Goals as goal

pub returns-then-count-eq-MAX_NUMBERS : goal.returns-then-count-eq-MAX_NUMBERS
returns-then-count-eq-MAX_NUMBERS c =
    let verb = c.split_word.result.0.now in
    let numbers = take c.words.count c.words.numbers in
    let within : c.words.count ≤ length c.words.numbers = omega (arith, c.words.invariant.whole) in
    let four : length numbers ≡ 4 = omega (arith, length-take-le c.words.count c.words.numbers within) in
    sym (c.words.invariant.same ∙ ap (λ o. reads verb numbers (words_in o)) c.in-Some.is
    ∙ reads-past verb numbers c.in-Some.words.now four)

pub returns-in_err-number : goal.returns-in_err-number
returns-in_err-number c =
    let verb = c.split_word.result.0.now in
    let numbers = take c.words.count c.words.numbers in
    let words = c.in-Some.words.now in
    c.from_residual.ensures
    ∙ sym (c.words.invariant.same ∙ ap (λ o. reads verb numbers (words_in o)) c.in-Some.is
    ∙ reads-none verb numbers (slice_split is_space words) (some_part words) c.in_err-number.ensures)

pub words-preserved : goal.words-preserved
words-preserved c =
    let verb = c.split_word.result.0.now in
    let numbers = take c.words.count c.words.numbers in
    let words = c.in-Some.words.now in
    let rest = words_in c.in_ok-number.others in
    let n = c.in_ok-number.number in
    let within : c.words.count < length c.words.numbers = omega (arith, c.words.invariant.whole) in
    record {
      few = omega arith;
      whole = length-set c.words.numbers c.words.count n ∙ c.words.invariant.whole;
      same =
          c.words.invariant.same ∙ ap (λ o. reads verb numbers (words_in o)) c.in-Some.is
          ∙ reads-next verb numbers (slice_split is_space words) n rest c.in_ok-number.ensures
          ∙ ap (λ ns. reads verb ns rest) (sym (take-put c.words.numbers c.words.count n within));
    }
