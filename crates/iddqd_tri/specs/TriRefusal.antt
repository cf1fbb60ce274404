-- The text of a `TriRefusal`, and the item that it returns.
use Rattle.std.specs.Prelude.{ℕ, List, codes}
use Rattle.iddqd_tri.specs.declared.tri_refusal.TriRefusal.{TriRefusal}
use Rattle.iddqd_tri.specs.declared.tri_refusal.TriRefusal.TheVariants.{Full, Memory}

-- why an item was not inserted, in words
abbrev pub tri_refusal_text : {T : Type 0} → TriRefusal T → List ℕ
tri_refusal_text (Full item) = codes "full"
tri_refusal_text (Memory item) = codes "no memory"

-- the item that it returns
abbrev pub tri_refusal_item : {T : Type 0} → TriRefusal T → T
tri_refusal_item (Full item) = item
tri_refusal_item (Memory item) = item
