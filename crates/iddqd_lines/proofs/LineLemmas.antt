-- Numbers and words of a line.
use Rattle.std.proofs.Common.{◌≡◌, ◌∙◌, ◌⊎◌, inl, inr, ◌&&◌, ◌+◌, ◌*◌, ◌-◌, ◌^◌, ◌<◌, ◌≤◌, ℕ, Bool, true, false, cond, suc, List, [], ◌∷◌, ◌++◌, length, take, drop, get_or, nat_lt, nat_le, Option, Some, None, codes, refl, sym, ap, arith, length-append, append_assoc, set, length-set, length-take-le}
use Rattle.std.specs.List.{list_all, slice_split, onto_first, All}
use Rattle.std.specs.Option.{option_map, option_and_then}
use Rattle.std.specs.Char.{is_ascii_digit, digit_value}
use Rattle.std.specs.Fmt.{decimal}
use Rattle.std.specs.Str.{bytes_eq}
use Rattle.std.specs.Str.Parse.{digits_value, digits_value_after}
use Rattle.std.proofs.lemmas.Bool.Decides.{nat_tests, same_from_decides}
use Rattle.std.proofs.lemmas.Slice.Eq.{bytes_eq-Decides}
use Rattle.std.proofs.lemmas.Fmt.{length-decimal-le}
use Rattle.std.proofs.Math.Seq.{drop-cons}
use Rattle.std.proofs.lemmas.List.{take-append-drop, take-append-le, take_all, take_more, take-set, get_or-set_same}
use Rattle.std.proofs.lemmas.Int.Digits.{digits_value_more}
use Rattle.std.proofs.lemmas.List.Elements.{All-head, All-tail}
use Rattle.std.proofs.lemmas.List.Folds.{list_all_more, list_all-append}
use Rattle.std.proofs.lemmas.List.Splits.{slice_split-cons_yes, slice_split-cons_no, slice_split_none, slice_split_at}
use Rattle.std.proofs.lemmas.List.Sums.{AllPass-from_list_all}
use Rattle.iddqd.specs.Validation.{not_compact_text}
use Rattle.iddqd_lines.specs.Line.{is_space, max_line, space, number_and_rest, number_of, numbers_of, command_for, request_of}
use Rattle.iddqd_lines.specs.declared.record.Record.{Record}
use Rattle.iddqd_driver.specs.declared.command.Command.{Command}
use Rattle.iddqd_lines.specs.Serve.{kept_line}

-- three tests and what they choose
chosen : (a b c : Bool) (x : Option ℕ) → a ≡ true → b ≡ true → c ≡ true → cond ((a && b) && c) x None ≡ x
chosen true true true x p q r = refl
chosen true true false x p q r = absurd (cc)
chosen true false c x p q r = absurd (cc)
chosen false b c x p q r = absurd (cc)

refused_second : (a b c : Bool) (x : Option ℕ) → b ≡ false → cond ((a && b) && c) x None ≡ None
refused_second true true c x q = absurd (cc)
refused_second true false c x q = refl
refused_second false b c x q = refl

refused_third : (a b c : Bool) (x : Option ℕ) → c ≡ false → cond ((a && b) && c) x None ≡ None
refused_third true true true x r = absurd (cc)
refused_third true true false x r = refl
refused_third true false c x r = refl
refused_third false b c x r = refl

pub number_of-digits :
    (word : List ℕ)
    → 0 < length word
    → list_all is_ascii_digit word ≡ true
    → digits_value 10 word ≤ 4294967295
    → number_of word ≡ Some (digits_value 10 word)
number_of-digits word some digits small =
    chosen _ _ _ _ (grind (arith, nat_tests, some)) digits (grind (arith, nat_tests, small))

pub number_of-other : (word : List ℕ) → list_all is_ascii_digit word ≡ false → number_of word ≡ None
number_of-other word other = refused_second _ _ _ _ other

-- further digits make no number smaller
digits_value_after-ge : (n : ℕ) (word : List ℕ) → n ≤ digits_value_after 10 n word
digits_value_after-ge n [] = omega arith
digits_value_after-ge n (b ∷ word) = omega (arith, digits_value_after-ge (n * 10 + digit_value b) word)

digits_value_after-append :
    (n : ℕ) (xs ys : List ℕ)
    → digits_value_after 10 n (xs ++ ys) ≡ digits_value_after 10 (digits_value_after 10 n xs) ys
digits_value_after-append n [] ys = refl
digits_value_after-append n (x ∷ xs) ys = digits_value_after-append (n * 10 + digit_value x) xs ys

-- a word whose first bytes are too large a number is none
pub number_of-large : (word : List ℕ) (i : ℕ) → 4294967295 < digits_value 10 (take i word) → number_of word ≡ None
number_of-large word i large =
    let more = digits_value_after-ge (digits_value 10 (take i word)) (drop i word) in
    let whole = digits_value_after-append 0 (take i word) (drop i word) in
    let all = ap (digits_value 10) (take-append-drop i word) in
    let past : 4294967295 < digits_value 10 word = omega (arith, more, whole, all) in
    let too_large : nat_le (digits_value 10 word) 4294967295 ≡ false = grind (arith, nat_tests, past) in
    refused_third (nat_lt 0 (length word)) (list_all is_ascii_digit word) _ (Some (digits_value 10 word)) too_large

-- the value of a decimal digit
pub digit_value-ascii : (b : ℕ) → is_ascii_digit b ≡ true → digit_value b ≡ b - 48
digit_value-ascii b digit = grind (arith, nat_tests, digit)

-- one digit more
pub digits_more :
    (word : List ℕ) (i value : ℕ)
    → i < length word
    → is_ascii_digit (get_or word i 0) ≡ true
    → list_all is_ascii_digit (take i word) ≡ true
    → value ≡ digits_value 10 (take i word)
    → (list_all is_ascii_digit (take (i + 1) word) ≡ true) ×
    (10 * value + (get_or word i 0 - 48) ≡ digits_value 10 (take (i + 1) word))
digits_more word i value within digit digits so_far =
    let more = digits_value_more 10 word i within in
    let last = digit_value-ascii (get_or word i 0) digit in
    (rw (list_all_more is_ascii_digit word i 0 within, digits, digit) refl, omega (arith, more, last))

-- ---- the first word, read byte by byte

-- a digit is no space
digit_no_space : (b : ℕ) → is_ascii_digit b ≡ true → is_space b ≡ false
digit_no_space b digit = grind (arith, nat_tests, digit)

-- among digits is no space
pub no_space : (xs : List ℕ) → list_all is_ascii_digit xs ≡ true → All (λ b. is_space b ≡ false) xs
no_space xs digits k d inside =
    digit_no_space (get_or xs k d) (AllPass-from_list_all is_ascii_digit xs digits k d inside)

-- what is split has a first part, `more`
abbrev HasFirst : List ℕ → Type 0
HasFirst ys = (more : List ℕ) × (parts : List (List ℕ)) × (slice_split is_space ys ≡ more ∷ parts)

first_part-cons : (y : ℕ) (ys : List ℕ) (b : Bool) → is_space y ≡ b → HasFirst ys → HasFirst (y ∷ ys)
first_part-cons y ys true is rest = ([], slice_split is_space ys, slice_split-cons_yes is_space y ys is)
first_part-cons y ys false is rest =
    (y ∷ rest.0, rest.1, slice_split-cons_no is_space y ys is ∙ ap (onto_first y) rest.2)

first_part : (ys : List ℕ) → HasFirst ys
first_part [] = ([], [], refl)
first_part (y ∷ ys) = first_part-cons y ys (is_space y) refl (first_part ys)

-- the first part begins with the bytes before which no space stands
goes_on :
    (xs ys : List ℕ)
    → All (λ b. is_space b ≡ false) xs
    → (more : List ℕ) × (parts : List (List ℕ)) × (slice_split is_space (xs ++ ys) ≡ (xs ++ more) ∷ parts)
goes_on [] ys none = first_part ys
goes_on (x ∷ xs) ys none =
    let rest = goes_on xs ys (All-tail (λ b. is_space b ≡ false) x xs none) in
    let first = All-head (λ b. is_space b ≡ false) x xs none in
    (rest.0, rest.1, slice_split-cons_no is_space x (xs ++ ys) first ∙ ap (onto_first x) rest.2)

-- no number goes on behind bytes that none begins with
pub no_number :
    (words : List ℕ) (k : ℕ)
    → All (λ b. is_space b ≡ false) (take k words)
    → ((more : List ℕ) → number_of (take k words ++ more) ≡ None)
    → None ≡ number_and_rest (slice_split is_space words)
no_number words k none never =
    let rest = goes_on (take k words) (drop k words) none in
    let whole = ap (slice_split is_space) (take-append-drop k words) in
    sym (ap number_and_rest (sym whole ∙ rest.2) ∙ ap (option_map (λ n. (n, rest.1))) (never rest.0))

fails_last : (a b : Bool) → b ≡ false → (a && b) ≡ false
fails_last true b is = is
fails_last false b is = refl

-- no number begins with bytes of which the last is no digit
pub begins_other :
    (words : List ℕ) (len : ℕ) (more : List ℕ)
    → len < length words
    → is_ascii_digit (get_or words len 0) ≡ false
    → number_of (take (len + 1) words ++ more) ≡ None
begins_other words len more within other =
    let front : list_all is_ascii_digit (take (len + 1) words) ≡ false =
    list_all_more is_ascii_digit words len 0 within ∙ fails_last (list_all is_ascii_digit (take len words)) _ other in
    number_of-other (take (len + 1) words ++ more)
    (list_all-append is_ascii_digit (take (len + 1) words) more ∙ ap (λ b. b && list_all is_ascii_digit more) front)

-- nor with digits whose value is too large
pub begins_large :
    (words : List ℕ) (len : ℕ) (more : List ℕ)
    → len ≤ length words
    → 4294967295 < digits_value 10 (take len words)
    → number_of (take len words ++ more) ≡ None
begins_large words len more within large =
    let front = take len words in
    let long : length front ≡ len = length-take-le len words within in
    let same : take len (front ++ more) ≡ front =
    take-append-le len front more (omega (arith, long)) ∙ take_all len front (omega (arith, long)) in
    number_of-large (front ++ more) len (rw same large)

-- digits that were read are a number of their value
pub read_all :
    (words : List ℕ) (len value : ℕ)
    → (len ≡ 0 → ⊥)
    → len ≤ length words
    → list_all is_ascii_digit (take len words) ≡ true
    → value ≡ digits_value 10 (take len words)
    → value ≤ 4294967295
    → number_of (take len words) ≡ Some value
read_all words len value some within digits is small =
    let long : length (take len words) ≡ len = length-take-le len words within in
    number_of-digits (take len words) (omega (arith, long, some)) digits (omega (arith, is)) ∙ ap Some (sym is)

-- The first word ends with the bytes.
pub ends_at_end :
    (words : List ℕ) (len : ℕ)
    → length words ≤ len
    → list_all is_ascii_digit (take len words) ≡ true
    → number_and_rest (slice_split is_space words) ≡ option_map (λ n. (n, [])) (number_of (take len words))
ends_at_end words len past digits =
    let whole : take len words ≡ words = take_all len words past in
    let all : list_all is_ascii_digit words ≡ true = ap (list_all is_ascii_digit) (sym whole) ∙ digits in
    ap number_and_rest (slice_split_none is_space words (no_space words all))
    ∙ ap (λ l. option_map (λ n. (n, [])) (number_of l)) (sym whole)

-- It ends before a space.
pub ends_at_space :
    (words : List ℕ) (len : ℕ)
    → len < length words
    → get_or words len 0 ≡ space
    → list_all is_ascii_digit (take len words) ≡ true
    → number_and_rest (slice_split is_space words)
    ≡ option_map (λ n. (n, slice_split is_space (drop (suc len) words))) (number_of (take len words))
ends_at_space words len within here digits =
    let word = take len words in
    let rest = drop (suc len) words in
    let parted : drop len words ≡ space ∷ rest = drop-cons words len 0 within ∙ ap (λ b. b ∷ rest) here in
    let whole : words ≡ word ++ space ∷ rest = sym (take-append-drop len words) ∙ ap (λ l. word ++ l) parted in
    ap (λ l. number_and_rest (slice_split is_space l)) whole
    ∙ ap number_and_rest (slice_split_at is_space word space rest (no_space word digits) refl)

-- ---- a line's numbers, one after the other

-- behind these numbers the words are read, and give a command of the verb
abbrev pub reads : List ℕ → List ℕ → List (List ℕ) → Option (Command Record ℕ ℕ)
reads verb numbers words = option_and_then (λ ns. command_for verb (numbers ++ ns)) (numbers_of words)

module _ (verb numbers word : List ℕ) (rest : List (List ℕ)) where
  pub reads-number :
      (n : ℕ)
      → number_of word ≡ Some n
      → reads verb numbers (word ∷ rest) ≡ reads verb (numbers ++ n ∷ []) rest
  reads-number n is = rw is (by (numbers_of rest))
    where
      by :
          (o : Option (List ℕ))
          → option_and_then (λ ns. command_for verb (numbers ++ ns)) (option_map (λ ns. n ∷ ns) o)
          ≡ option_and_then (λ ns. command_for verb ((numbers ++ n ∷ []) ++ ns)) o
      by None = refl
      by (Some ns) = ap (command_for verb) (sym (append_assoc numbers (n ∷ []) ns))

-- no verb takes two numbers, or more than four
pub other_numbers :
    (verb numbers : List ℕ)
    → (length numbers ≡ 2) ⊎ (4 < length numbers)
    → None ≡ command_for verb numbers
other_numbers verb (a ∷ b ∷ []) other = refl
other_numbers verb (a ∷ b ∷ c ∷ d ∷ e ∷ numbers) other = refl
other_numbers verb [] other = absurd (grind (arith, other))
other_numbers verb (a ∷ []) other = absurd (grind (arith, other))
other_numbers verb (a ∷ b ∷ c ∷ []) other = absurd (grind (arith, other))
other_numbers verb (a ∷ b ∷ c ∷ d ∷ []) other = absurd (grind (arith, other))

-- so no command has more words
reads-past_four :
    (verb numbers word : List ℕ) (rest : List (List ℕ))
    → length numbers ≡ 4
    → reads verb numbers (word ∷ rest) ≡ None
reads-past_four verb numbers word rest four = by (number_of word) (numbers_of rest)
  where
    by :
        (n : Option ℕ) (o : Option (List ℕ))
        → option_and_then (λ ns. command_for verb (numbers ++ ns))
        (option_and_then (λ n. option_map (λ ns. n ∷ ns) o) n)
        ≡ None
    by None o = refl
    by (Some n) None = refl
    by (Some n) (Some ns) =
        sym (other_numbers verb (numbers ++ n ∷ ns) (inr (omega (arith, four, length-append numbers (n ∷ ns)))))

-- a number that was read, and the words behind it
abbrev pub read : List (List ℕ) → Option ℕ → Option (ℕ × List (List ℕ))
read rest number = option_map (λ n. (n, rest)) number

-- where the first word is no number, the words give no command
pub reads-none :
    (verb numbers : List ℕ) (parts : List (List ℕ))
    → 0 < length parts
    → read [] None ≡ number_and_rest parts
    → reads verb numbers parts ≡ None
reads-none verb numbers [] some none = absurd (omega (arith, some))
reads-none verb numbers (word ∷ rest) some none = by (number_of word) none
  where
    by :
        (o : Option ℕ)
        → read [] None ≡ read rest o
        → option_and_then (λ ns. command_for verb (numbers ++ ns))
        (option_and_then (λ n. option_map (λ ns. n ∷ ns) (numbers_of rest)) o)
        ≡ None
    by None is = refl
    by (Some n) is = absurd (cc)

-- the two parts of what was read
abbrev number_in : Option (ℕ × List (List ℕ)) → ℕ
number_in None = 0
number_in (Some pair) = pair.0

abbrev rest_in : Option (ℕ × List (List ℕ)) → List (List ℕ)
rest_in None = []
rest_in (Some pair) = pair.1

-- where it is one, the words behind it are read
pub reads-next :
    (verb numbers : List ℕ) (parts : List (List ℕ)) (n : ℕ) (rest : List (List ℕ))
    → read rest (Some n) ≡ number_and_rest parts
    → reads verb numbers parts ≡ reads verb (numbers ++ n ∷ []) rest
reads-next verb numbers [] n rest is = absurd (cc)
reads-next verb numbers (word ∷ others) n rest is = by (number_of word) refl is
  where
    by :
        (o : Option ℕ)
        → number_of word ≡ o
        → read rest (Some n) ≡ read others o
        → reads verb numbers (word ∷ others) ≡ reads verb (numbers ++ n ∷ []) rest
    by None number same = absurd (cc)
    by (Some m) number same =
        let first : n ≡ m = ap number_in same in
        let behind : rest ≡ others = ap rest_in same in
        rw (first, behind) (reads-number verb numbers word others m number)

-- what is split has more than four numbers if there were four before
pub reads-past :
    (verb numbers words : List ℕ)
    → length numbers ≡ 4
    → reads verb numbers (slice_split is_space words) ≡ None
reads-past verb numbers words four =
    let first = first_part words in
    ap (reads verb numbers) first.2 ∙ reads-past_four verb numbers first.0 first.1 four

-- there is a first word
pub some_part : (words : List ℕ) → 0 < length (slice_split is_space words)
some_part words = let first = first_part words in omega (arith, ap length first.2)

-- one number more in an array
pub take-put :
    (numbers : List ℕ) (count n : ℕ)
    → count < length numbers
    → take (count + 1) (set numbers count n) ≡ take count numbers ++ n ∷ []
take-put numbers count n within =
    take_more (set numbers count n) count 0 (omega (arith, length-set numbers count n))
    ∙ ap (λ l. l ++ get_or (set numbers count n) count 0 ∷ []) (take-set numbers count n)
    ∙ ap (λ x. take count numbers ++ x ∷ []) (get_or-set_same numbers count n 0 within)

-- what is too long for a line is no request
long_line : (line : List ℕ) → nat_le (length line) max_line ≡ false → request_of line ≡ None
long_line line over =
    let long : max_line < length line = grind (arith, nat_tests, over) in
    let other : bytes_eq line (codes "validate") ≡ false = same_from_decides (bytes_eq line (codes "validate")) false (bytes_eq-Decides line (codes "validate")) ((λ never. absurd (cc)), (λ same. absurd (omega (arith, ap length same)))) in
    rw (other, over) refl

-- a request goes by what is kept of its line
pub request_of-kept : (line : List ℕ) → option_and_then request_of (kept_line line) ≡ request_of line
request_of-kept line = by_length (nat_le (length line) max_line) refl
  where
    by_length :
        (fits : Bool)
        → nat_le (length line) max_line ≡ fits
        → option_and_then request_of (cond fits (Some line) None) ≡ request_of line
    by_length true is = refl
    by_length false is = sym (long_line line is)

-- what is said of vacant slots is short
pub short_text : (vacant : ℕ) → vacant < 10 ^ 10 → length (not_compact_text vacant) < 64
short_text vacant few =
    let digits = length-decimal-le 10 vacant (omega arith) few (omega (arith, few)) in
    let all = length-append (codes "ItemSet is not compact: " ++ decimal vacant) (codes " vacant slots") in
    let front = length-append (codes "ItemSet is not compact: ") (decimal vacant) in
    omega (arith, digits, all, front)
