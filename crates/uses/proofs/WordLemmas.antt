-- A copy of a store of words lists the same words, and what stays of it up to a page lists those up to there.
use Rattle.std.proofs.Common.{◌≡◌, ◌∙◌, ◌↔◌, ◌≤◌, zero, suc, ℕ, true, nat_le, List, [], ◌∷◌, slice_index_or, Option, Some, None, refl, sym, ap, subst, arith}
use Rattle.std.specs.List.{AllZip}
use Rattle.std.specs.String.{string_bytes}
use Rattle.std.proofs.lemmas.Bool.Decides.{nat_tests}
use Rattle.iddqd_maps.specs.Store.{Store, get}
use Rattle.uses.specs.Words.{IsListed}
use Rattle.uses.specs.declared.words.Word.{Word}

is_within : (page last : ℕ) → (nat_le page last ≡ true) ↔ (page ≤ last)
is_within page last = (λ is. grind (arith, nat_tests, is), λ within. grind (arith, nat_tests, within))

-- `R slot copy` says that the copy of a slot is this
copied_at :
    (R : Option Word → Option Word → Type 0)
    → R None None
    → (slots copies : List (Option Word))
    → AllZip R slots copies
    → (ix : ℕ)
    → R (slice_index_or slots ix None) (slice_index_or copies ix None)
copied_at R none [] [] all zero = none
copied_at R none [] [] all (suc ix) = none
copied_at R none [] (copy ∷ copies) all ix = absurd all
copied_at R none (slot ∷ slots) [] all ix = absurd all
copied_at R none (slot ∷ slots) (copy ∷ copies) all zero = all.0
copied_at R none (slot ∷ slots) (copy ∷ copies) all (suc ix) = copied_at R none slots copies all.1 ix

module _ (R : Option Word → Option Word → Type 0) (s copied : Store Word) (all : AllZip R s.items copied.items)
    (none : R None None)
    (of_none : (o : Option Word) → R None o → o ≡ None)
    (of_some :
    (word : Word) (o : Option Word) → R (Some word) o
    → (copy : Word) × (o ≡ Some copy) × (string_bytes copy.text ≡ string_bytes word.text) × (copy.page ≡ word.page))
    (ix : ℕ)
  where
    word_copied :
        (word : Word)
        → get s ix ≡ Some word
        → (copy : Word) × (get copied ix ≡ Some copy) × (string_bytes copy.text ≡ string_bytes word.text)
        × (copy.page ≡ word.page)
    word_copied word live =
        of_some word (get copied ix)
        (subst (λ o. R o (get copied ix)) live (copied_at R none s.items copied.items all ix))

    copy_of :
        (copy : Word)
        → get copied ix ≡ Some copy
        → (word : Word) × (get s ix ≡ Some word) × (string_bytes copy.text ≡ string_bytes word.text)
        × (copy.page ≡ word.page)
    copy_of copy is =
        elim (get s ix) as (λ o. get s ix ≡ o → (word : Word) × (get s ix ≡ Some word)
        × (string_bytes copy.text ≡ string_bytes word.text) × (copy.page ≡ word.page)) [
          | None ↦ λ vacant.
              let gone = of_none (get copied ix) (subst (λ o. R o (get copied ix)) vacant (copied_at R none s.items copied.items all ix)) in
              absurd (cc)
          | Some word ↦ λ live.
              let (other, there, text, page) = word_copied word live in
              let one : Some other ≡ Some copy = sym there ∙ is in
              let same : other ≡ copy = cc in
              (word, live, ap (λ (w : Word). string_bytes w.text) (sym same) ∙ text, ap (λ (w : Word). w.page) (sym same) ∙ page)
        ] refl

    -- of the copies those stay that are on a page up to the last
    pub listed_up_to :
        (last : ℕ) (new : Store Word)
        → ((item : Word) → (get new ix ≡ Some item) ↔ ((get copied ix ≡ Some item) × (nat_le item.page last ≡ true)))
        → (text : List ℕ) (page : ℕ)
        → IsListed new ix text page ↔ (IsListed s ix text page × (page ≤ last))
    listed_up_to last new stays text page = (
      λ (copy, is, has_text, on_page).
          let (there, passes) = (stays copy).0 is in
          let (word, live, same_text, same_page) = copy_of copy there in
          let within = (is_within copy.page last).0 passes in
          ((word, live, sym same_text ∙ has_text, sym same_page ∙ on_page), omega (arith, within, on_page)),
      λ ((word, live, has_text, on_page), within).
          let (copy, there, same_text, same_page) = word_copied word live in
          let passes = (is_within copy.page last).1 (omega (arith, within, on_page, same_page)) in
          (copy, (stays copy).1 (there, passes), same_text ∙ has_text, same_page ∙ on_page),
    )
