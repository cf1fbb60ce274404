-- For callers: what `retain` leaves of a map's memory and room, beside what it leaves of the items.
use Rattle.std.proofs.Common.{◌≡◌, ◌∙◌, ◌≤◌, Bool, ap, arith}
use Rattle.iddqd.specs.Store.{Store}
pub use Rattle.iddqd_by_hash.proofs.RetainLemmas.{Contains-live, RetainsTo-fewer, MayAsk-can, AsksInTurn-by, AsksInTurn-can, AsksInTurn-everywhere, MayAskInTurn-asks, Retaining, Retaining-first, Retaining-all, Retaining-vacant, takes-next, Retaining-kept, Retaining-removed}
use Rattle.iddqd_keys.proofs.RemovalLemmas.{limit-removed_all}
use Rattle.iddqd_map.specs.Map.{MapState, MapMemory, room}
use Rattle.iddqd_map.specs.Retain.{removed_of, RetainsTo}

pub same_memory :
    {a b : MapMemory}
    → a.slots ≡ b.slots
    → a.capacity ≡ b.capacity
    → a.cells ≡ b.cells
    → a ≡ b
same_memory {a} {b} slots capacity cells =
    let one : a ≡ record { slots = b.slots; capacity = a.capacity; cells = a.cells } =
    ap (λ n. record { slots = n; capacity = a.capacity; cells = a.cells }) slots in
    let two :
    record { slots = b.slots; capacity = a.capacity; cells = a.cells }
    ≡ record { slots = b.slots; capacity = b.capacity; cells = a.cells } =
    ap (λ n. record { slots = b.slots; capacity = n; cells = a.cells }) capacity in
    one ∙ two ∙ ap (λ n. record { slots = b.slots; capacity = b.capacity; cells = n }) cells

-- `ask p x b q`: called on x in the state p, the closure may answer b and be in the state q afterwards
module _ {F T : Type 0} (ask : F → T → Bool → F → Type 0) where
  -- there is no less room in the same memory
  pub RetainsTo-room :
      (f : F) (old now : MapState T) (last : F)
      → RetainsTo ask f old.store now.store last
      → now.memory ≡ old.memory
      → room old ≤ room now
  RetainsTo-room f old now last w memory =
      let limit = ap (λ (s : Store T). s.limit) w.left ∙ limit-removed_all old.store (removed_of w.asks) in
      omega (
        arith,
        RetainsTo-fewer ask f old.store now.store last w,
        limit,
        ap (λ (m : MapMemory). m.slots) memory,
        ap (λ (m : MapMemory). m.capacity) memory,
      )
