-- A law of keys that are text, in `specs` since a ghost member of an impl may not cite proofs.
use Rattle.std.proofs.Common.{◌≡◌, ℕ, List, sym, subst}
use Rattle.std.specs.Cmp.Lexicographic.{slice_cmp, nat_list_cmp_total}
use Rattle.std.specs.Ordering.{nat_cmp}
use Rattle.std.specs.declared.cmp.Ordering.TheVariants.{Equal}
use Rattle.std.proofs.lemmas.Cmp.{tied_itself}

-- a copy of a text stands where the text does
pub same_text : (text copy : List ℕ) → copy ≡ text → slice_cmp nat_cmp text copy ≡ Equal
same_text text copy same =
    subst (λ bytes. slice_cmp nat_cmp text bytes ≡ Equal) (sym same) (tied_itself nat_list_cmp_total text)
