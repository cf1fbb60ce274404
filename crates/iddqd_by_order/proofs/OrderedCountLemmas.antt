-- For callers: a list that has exactly the live indexes has as many of them as there are items.
use Rattle.std.proofs.Common.{◌≡◌, ℕ, List, length, get_or, arith}
use Rattle.std.proofs.lemmas.List.Elements.{Contains-get_or}
use Rattle.iddqd.specs.Store.{Store, IsValid, live_count}
use Rattle.iddqd.specs.Validation.{Allows, AreAsExpected}
use Rattle.iddqd.specs.declared.internal.ValidateCompact.{ValidateCompact}
use Rattle.iddqd.specs.declared.internal.ValidateCompact.TheVariants.{Compact, NonCompact}
use Rattle.iddqd.proofs.StoreLemmas.{live_within}
use Rattle.iddqd_keys.proofs.CountLemmas.{length-listed}
use Rattle.iddqd_by_order.specs.Ordered.{Holds}

module _ {T : Type 0} where
  module _ (s : Store T) (order : List ℕ) (held : Holds s order) where
    pub length-held : length order ≡ live_count s
    length-held = length-listed s order held.each held.once

    -- so a check of the table passes where the slots may be as they are
    pub AreAsExpected-listed :
        IsValid s
        → (mode : ValidateCompact)
        → Allows mode (length s.free)
        → AreAsExpected mode (live_count s) order
    AreAsExpected-listed valid NonCompact allowed = length-held
    AreAsExpected-listed valid Compact none = (
      length-held,
      λ k d inside.
          let within = live_within s.items (get_or order k d) ((held.each (get_or order k d)).0 (Contains-get_or order k d inside)) in
          omega (arith, within, valid.counted, none),
    )
