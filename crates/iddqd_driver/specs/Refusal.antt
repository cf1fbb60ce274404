-- The words of the refusals.
use Rattle.std.specs.Prelude.{ℕ, List, ◌++◌, codes}
use Rattle.iddqd.specs.OrDash.{index_or_dash}
use Rattle.iddqd_driver.specs.declared.keyed_items.InsertRefusal.{InsertRefusal}
use Rattle.iddqd_driver.specs.declared.keyed_items.InsertRefusal.TheVariants.{Duplicate, Full, Memory}

-- why an item was not inserted, in words
abbrev pub refusal_text : {T : Type 0} → InsertRefusal T → List ℕ
refusal_text (Duplicate item first second) =
    codes "duplicate " ++ index_or_dash first ++ codes " " ++ index_or_dash second
refusal_text (Full item) = codes "full"
refusal_text (Memory item) = codes "no memory"
