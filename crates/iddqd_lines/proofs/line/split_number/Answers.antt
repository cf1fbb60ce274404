use Rattle.std.proofs.Common.{◌≡◌, ◌∙◌, ◌+◌, ◌-◌, ◌<◌, ◌==◌, ◌++◌, List, ℕ, [], Bool, true, false, None, length, take, drop, suc, get_or, refl, sym, ap, arith, length-drop}
use Rattle.std.specs.Char.{is_ascii_digit}
use Rattle.std.specs.List.{list_all, slice_split, All}
use Rattle.std.specs.Option.{option_map}
use Rattle.std.specs.Str.Parse.{digits_value}
use Rattle.std.proofs.lemmas.Bool.Decides.{nat_tests}
use Rattle.std.proofs.lemmas.List.Elements.{All-more}
use Rattle.std.proofs.lemmas.List.{take_all}
use Rattle.iddqd_lines.specs.Line.{is_space, number_of}
use Rattle.iddqd_lines.proofs.LineLemmas.{digits_more, no_space, no_number, number_of-digits, begins_other, begins_large, ends_at_end, ends_at_space, read_all}
use Rattle.iddqd_lines.proofs.line.split_number.Goals as goal
use Rattle.iddqd_lines.proofs.line.split_number.Goals.{then-word-test+else-words-len-ne-SPACE, else-word-test}

pub returns-then-not-is_ascii_digit : goal.returns-then-not-is_ascii_digit
returns-then-not-is_ascii_digit c =
    let words = c.args.words.now in
    let len = c.word.len in
    let so_far = c.word.invariant in
    let other : is_ascii_digit (get_or words len 0) ≡ false =
    sym c.is_ascii_digit.ensures.value ∙ c.if-not-is_ascii_digit.true in
    let byte : is_space (get_or words len 0) ≡ false = grind (arith, nat_tests, c.if-words-len-ne-SPACE.true) in
    no_number words (len + 1)
    (All-more (λ b. is_space b ≡ false) words len 0 c.word-test.true (no_space _ so_far.digits) byte)
    (λ more. begins_other words len more c.word-test.true other)

pub returns-then-value-from : goal.returns-then-value-from
returns-then-value-from c =
    let words = c.args.words.now in
    let len = c.word.len in
    let so_far = c.word.invariant in
    let digit : is_ascii_digit (get_or words len 0) ≡ true =
    sym c.is_ascii_digit.ensures.value ∙ c.if-not-is_ascii_digit.false in
    let more = digits_more words len _ c.word-test.true digit so_far.digits so_far.value in
    let large : 4294967295 < digits_value 10 (take (len + 1) words) = omega (arith, more.1) in
    no_number words (len + 1) (no_space _ more.0) (λ after. begins_large words (len + 1) after (omega (arith, c.word-test.true)) large)

pub word-preserved : goal.word-preserved
word-preserved c =
    let so_far = c.word.invariant in
    let digit : is_ascii_digit (get_or c.args.words.now c.word.len 0) ≡ true =
    sym c.is_ascii_digit.ensures.value ∙ c.if-not-is_ascii_digit.false in
    let more = digits_more _ _ _ c.word-test.true digit so_far.digits so_far.value in
    record {
      within = omega (arith, c.word-test.true);
      digits = more.0;
      value = rw c.from.ensures more.1;
      small = omega arith;
    }

pub returns-then-len-eq0 : goal.returns-then-len-eq0
returns-then-len-eq0 c =
    let words = c.args.words.now in
    let digits = c.word.invariant.digits in
    let empty : number_of (take c.word.len words) ≡ None =
    ap (λ n. number_of (take n words)) c.if-len-eq0.true in
    elim c.word-test.branch [
      | then-word-test+else-words-len-ne-SPACE w ↦
          sym (ends_at_space words c.word.len w.word-test.true w.if-words-len-ne-SPACE.false digits ∙ ap (option_map _) empty)
      | else-word-test w ↦
          sym (ends_at_end words c.word.len (omega (arith, w.word-test.false)) digits ∙ ap (option_map _) empty)
    ]

pub returns-then-len-words : goal.returns-then-len-words
returns-then-len-words c =
    let words = c.args.words.now in
    let so_far = c.word.invariant in
    let value = read_all words c.word.len c.word.value c.if-len-eq0.false so_far.within so_far.digits so_far.value so_far.small in
    sym (ends_at_end words c.word.len (omega (arith, c.if-len-words.true)) so_far.digits ∙ ap (option_map _) value)

pub returns : goal.returns
returns c =
    let words = c.args.words.now in
    let len = c.word.len in
    let so_far = c.word.invariant in
    let value = read_all words len c.word.value c.if-len-eq0.false so_far.within so_far.digits so_far.value so_far.small in
    let next : len + 1 ≡ suc len = omega arith in
    let rest : take (length words - (len + 1)) (drop (len + 1) words) ≡ drop (suc len) words =
    take_all (length words - (len + 1)) (drop (len + 1) words) (omega (arith, length-drop (len + 1) words))
    ∙ ap (λ n. drop n words) next in
    elim c.word-test.branch [
      | then-word-test+else-words-len-ne-SPACE w ↦
          rw rest (sym (ends_at_space words len w.word-test.true w.if-words-len-ne-SPACE.false so_far.digits ∙ ap (option_map _) value))
      | else-word-test w ↦ absurd (c.if-len-words.false (omega (arith, w.word-test.false, so_far.within)))
    ]
