-- Words and their pages.
use Rattle.std.specs.Prelude.{◌≡◌, ◌↔◌, ◌≤◌, ℕ, List, Some}
use Rattle.std.specs.String.{string_bytes}
use Rattle.iddqd_maps.specs.Store.{Store, get}
use Rattle.uses.specs.declared.words.Word.{Word}

-- the word at the index has this text, and stands first on this page
abbrev pub IsListed : Store Word → ℕ → List ℕ → ℕ → Type 0
IsListed s ix text page =
    (word : Word) × (get s ix ≡ Some word) × (string_bytes word.text ≡ text) × (word.page ≡ page)

-- the one store has the words that the other has up to a page, each under its index
abbrev pub ListsUpTo : ℕ → Store Word → Store Word → Type 0
ListsUpTo last all some =
    (ix : ℕ) (text : List ℕ) (page : ℕ) → IsListed some ix text page ↔ (IsListed all ix text page × (page ≤ last))
