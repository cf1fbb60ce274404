-- What a walk that makes a `Count` ends in. A `Count` has no bytes, so its number is any.
use Rattle.std.proofs.Common.{List, [], ◌∷◌, refl}
use seplogic.Ra.Ura.{Ura}
use mir.Val.{Val, vstruct, vnil}
use base.Fml.{Fml, fsep, feq, ftrue}
use types.Logic.{Logic}
use types.Kit.{Goal, Item, Step, step, ‵, ◌$◌, move, fjoin, feq_i, fpack}
use denote.Steps.{nothing}
use Rattle.iddqd_order.specs.contracts.btree_table.asking.Count.{the_row}

abbrev pub no_bytes : Val
no_bytes = vstruct vnil

-- the fields of the struct, which has none
abbrev pub no_fields : Unit {0} → Fml
no_fields _ = fsep (feq (List Val) (no_bytes ∷ []) (no_bytes ∷ [])) ftrue

module _ {M : Type 1} {𝓤 : Ura M} {𝓛 : Logic 𝓤} {K : Type 0} {Γ : List (Item 𝓤)} {G : Goal 𝓤 𝓛.H} where
  -- a value with this number is owned
  pub count_made : K → (n : (the_row).Denot) → Step K 𝓛 (‵ ((the_row).own_val n (no_bytes ∷ [])) ∷ Γ) G Γ G
  count_made t n = step (λ s.
      nothing t $ feq_i t (List Val) (no_bytes ∷ []) (no_bytes ∷ []) refl $ fjoin t $ fpack t (Unit {0}) no_fields tt $
      nothing t $ move t (1 ∷ 0 ∷ []) $ fjoin t $ s)
