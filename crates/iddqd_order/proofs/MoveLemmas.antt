-- For callers. An index is removed from a list and inserted again: what may be asked in between, and what was asked.
use Rattle.iddqd_order.proofs.Names.{◌≡◌, ◌*◌, ◌<◌, ◌≤◌, ◌==◌, ℕ, Bool, true, false, not, List, [], ◌∷◌, length, refl, sym, ap, ◌∙◌, arith, cases_eq, inl, inr, nat_tests, IsTrue, is_some, ◌↔◌, Option, Some, Contains, Ordering, Mut, Asking, AsksWithin, Askable, CanSearch, bound, without, order_of, Order}
use Rattle.std.proofs.lemmas.List.Filters.{length-filter_both}
use Rattle.iddqd_order.specs.PreparedBTreeMove.{PutsIn}
use Rattle.iddqd_order.specs.Search.{SearchAsks}
use Rattle.iddqd_order.proofs.AskLemmas.{After-wider, CanAsk-fewer, CanAsk-later, Steady-later, asks_more, asks_then, asks_wider}
use Rattle.iddqd_order.proofs.DigitLemmas.{digits-mono}
use Rattle.iddqd_order.proofs.IndexListLemmas.{without-missing}
use Rattle.iddqd.proofs.StoreLemmas.{contains_cases}
use Rattle.iddqd_order.specs.MapBTreeTable.{capacity, move_blocks}
use Rattle.iddqd_order.proofs.RoomLemmas.{move-most}
use Rattle.iddqd_order.proofs.MemberLemmas.{contains-without, contains-from_without}

pub absent-without : (xs : List ℕ) (ix : ℕ) → Contains (without xs ix) ix → ⊥
absent-without xs ix held = (contains-from_without xs ix ix held).1 refl

-- a removal along a path that is found if and only if the index is stored
pub removed-anyway :
    {W : Type 0} (found : Bool) (way : Option W) (old new : Order) (ix : ℕ)
    → found ≡ is_some way
    → IsTrue (is_some way) ↔ Contains (order_of old) ix
    → (IsTrue found → order_of new ≡ without (order_of old) ix)
    → (found ≡ false → new ≡ old)
    → order_of new ≡ without (order_of old) ix
removed-anyway true way old new ix e there removed kept = removed refl
removed-anyway false way old new ix e there removed kept =
    (λ i. order_of (kept refl i))
    ∙ sym (without-missing (order_of old) ix (λ held. let t = e ∙ there.1 held in absurd (cc)))

opposite : (b : Bool) → b ≡ not (not b)
opposite true = refl
opposite false = refl

fewer : (xs : List ℕ) (ix : ℕ) → bound (length (without xs ix)) ≤ bound (length xs)
fewer xs ix =
    let both = length-filter_both (λ (j : ℕ). not (j == ix)) (λ j. j == ix) (λ j. opposite (j == ix)) xs in
    let less = digits-mono (length (without xs ix)) (length xs) (omega arith) in
    omega arith

-- an index that is taken out was one of them
pub without-fewer : (xs : List ℕ) (ix : ℕ) → Contains xs ix → length (without xs ix) < length xs
without-fewer [] ix held = let lt = held.1 in absurd (omega arith)
without-fewer (x ∷ xs) ix held =
    elim (cases_eq x ix) [
      | inl same ↦
          (let out : not (x == ix) ≡ false = grind (arith, nat_tests) in
          rw out (omega (arith, length-filter_both (λ (j : ℕ). not (j == ix)) (λ j. j == ix) (λ j. opposite (j == ix)) xs)))
      | inr other ↦
          (let kept : not (x == ix) ≡ true = grind (arith, nat_tests) in
          elim (contains_cases x ix xs held) [
            | inl same ↦ absurd (other same)
            | inr below ↦ rw kept (omega (arith, without-fewer xs ix below))
          ])
    ]

-- the blocks of a move are enough for the insert, since one index fewer is stored then
pub move-left :
    (old mid : Order) (ix blocks : ℕ)
    → length (without (order_of old) ix) < length (order_of old)
    → order_of mid ≡ without (order_of old) ix
    → mid.height ≤ old.height
    → mid.reserved ≡ old.reserved
    → move_blocks old ≤ blocks
    → capacity mid ≤ length (order_of mid)
    → mid.height < blocks
unfolding capacity
move-left old mid ix blocks fewer left lower reserved taken full =
    let len = ap length left in
    let past : capacity old < length (order_of old) = omega arith in
    omega (arith, move-most old past)

pub move-enough :
    (old mid : Order) (ix blocks : ℕ)
    → length (without (order_of old) ix) < length (order_of old)
    → order_of mid ≡ without (order_of old) ix
    → mid.height ≤ old.height
    → mid.reserved ≡ old.reserved
    → blocks ≡ move_blocks old
    → capacity mid ≤ length (order_of mid)
    → mid.height < blocks
move-enough old mid ix blocks fewer left lower reserved taken full =
    let most : move_blocks old ≤ blocks = omega (arith, taken) in
    move-left old mid ix blocks fewer left lower reserved most full

module _ {F R : Type 0} (g : Mut F (ℕ × Unit {0}) R) (xs : List ℕ) (ix : ℕ) where
  abbrev among : ℕ → Type 0
  among = Askable xs (Some ix)

  abbrev others : ℕ → Type 0
  others = Askable (without xs ix) (Some ix)

  wider : (j : ℕ) → others j → among j
  wider j h = ((contains-from_without xs ix j h.0).0, h.1)

  narrower : (j : ℕ) → among j → others j
  narrower j h = (contains-without xs ix j h.0 h.1, h.1)

  pub can-insert : (a : Asking F) → CanSearch g xs (Some ix) a → CanSearch g (without xs ix) (Some ix) a
  can-insert a can = CanAsk-fewer g others among wider can

  pub can-insert_then :
      (a b : Asking F)
      → SearchAsks g xs (Some ix) a b
      → CanSearch g xs (Some ix) a
      → CanSearch g (without xs ix) (Some ix) b
  can-insert_then a b asked can = CanAsk-fewer g others among wider (CanAsk-later g among asked.after can)

  pub asked-both :
      {a b c : Asking F}
      → SearchAsks g xs (Some ix) a b
      → SearchAsks g (without xs ix) (Some ix) b c
      → AsksWithin g among (2 * bound (length xs)) a c
  asked-both left inserted =
      let less = fewer xs ix in
      asks_more g among (omega arith) (asks_then g among left (asks_wider g others among wider inserted))

  pub puts-then :
      {read : R → Ordering} {a b : Asking F} {ys : List ℕ}
      → SearchAsks g xs (Some ix) a b
      → PutsIn g read (without xs ix) ix b ys
      → PutsIn g read (without xs ix) ix a ys
  puts-then asked puts = record {
    place = puts.place;
    within = puts.within;
    inserted = puts.inserted;
    belongs = λ answer rises. puts.belongs answer (record { steady = Steady-later g others (After-wider g among others narrower asked.after) rises.steady; rising = rises.rising });
  }
