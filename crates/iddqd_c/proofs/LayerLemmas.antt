-- Buffers that a layer's functions fill, and the live indexes from a number on.
use Rattle.std.proofs.Common.{◌≡◌, ◌∙◌, ◌+◌, ◌<◌, ◌≤◌, ℕ, List, [], ◌∷◌, ◌++◌, length, slice_set, Bool, cond, true, false, is_some, refl, ap, subst, arith}
use Rattle.std.specs.Prelude.{◌==◌, drop, filter, map, min, slice_index, take}
use Rattle.std.specs.FinMap as finite
use Rattle.std.proofs.Math.ListN.{drop_of_length-le}
use Rattle.std.proofs.lemmas.List.{drop_more, length-append, length-map, map-id, take_all}
use Rattle.std.proofs.lemmas.List.Sums.{count_by-le-length, length-filter}
use Rattle.iddqd.proofs.CompactionLemmas.{length-numbers, get_or-numbers}
use Rattle.iddqd.specs.Compaction.{numbers}
use Rattle.iddqd.specs.Store.{Store, get, slot_count}
use Rattle.iddqd_hash.specs.HashTable.{Table}
use Rattle.iddqd_hash.specs.MapHashTable.{filed, indexes_under}
use Rattle.iddqd_order.specs.Buffers.{Fills}
use Rattle.iddqd_codes.proofs.FillLemmas.{IsFilled, IsFilled-step, filled_at}
use Rattle.iddqd_c.specs.Layers.{live_from}

module _ (f : ℕ → ℕ) where
  -- what f gives of one more number of a list was put to its place
  pub IsFilled-at :
      (xs : List ℕ) (at : ℕ) (was now : List ℕ)
      → IsFilled f xs (drop at xs) at was now
      → at < length xs
      → at < length was
      → IsFilled f xs (drop (at + 1) xs) (at + 1) was (slice_set now at (f (slice_index xs at)))
  IsFilled-at xs at was now before within room =
      IsFilled-step f xs (drop (at + 1) xs) (slice_index xs at) at was now
      (subst (λ rest. IsFilled f xs rest at was now) (drop_more xs at 0 within) before) room

  -- once that was done for all of them
  pub filled_all :
      (xs : List ℕ) (at : ℕ) (was now : List ℕ)
      → IsFilled f xs (drop at xs) at was now
      → at ≡ length xs
      → now ≡ map f xs ++ drop (length xs) was
  filled_all xs at was now is end =
      filled_at f xs (drop at xs) at was now is
      ∙ (λ i. map f (take (end i) xs) ++ drop (end i) was)
      ∙ ap (λ ys. map f ys ++ drop (length xs) was) (take_all (length xs) xs (omega arith))

-- the numbers themselves
pub copied_all :
    (xs : List ℕ) (at : ℕ) (was now : List ℕ)
    → IsFilled (λ n. n) xs (drop at xs) at was now
    → at ≡ length xs
    → now ≡ xs ++ drop (length xs) was
copied_all xs at was now is end =
    filled_all (λ n. n) xs at was now is end ∙ ap (λ ys. ys ++ drop (length xs) was) (map-id xs)

-- a buffer that has as many of the numbers as there are places or numbers
pub Fills-from :
    (all rest : List ℕ) (at : ℕ) (was now : List ℕ)
    → IsFilled (λ n. n) all rest at was now
    → at ≡ min (length was) (length all)
    → Fills all at was now
Fills-from all rest at was now is counted = record {
  counted = counted;
  filled = filled_at (λ n. n) all rest at was now is ∙ ap (λ ys. ys ++ drop at was) (map-id (take at all));
}

-- how many numbers were put to their places, and how many are left
pub length_filled :
    (all rest : List ℕ) (at : ℕ) (was now : List ℕ)
    → IsFilled (λ n. n) all rest at was now
    → length all ≡ at + length rest
length_filled all rest at was now is =
    ap length is.joined ∙ length-append is.done rest ∙ ap (λ n. n + length rest) is.counted

-- under a hash there are no more indexes than in the table
pub under_most : (hash : ℕ) (t : Table ℕ) → length (indexes_under hash (filed t)) ≤ finite.len (filed t)
under_most hash t =
    let m = filed t in
    let has : ℕ × ℕ → Bool = λ e. e.1 == hash in
    let es = finite.entries m in
    let under = length-map (filter has es) (λ e. e.0) in
    omega (arith, finite.len-entries m, under, length-filter has es, count_by-le-length has es)

module _ (s : Store (Unit {0})) where
  opened :
      (ix : ℕ) (b : Bool)
      → ix < slot_count s
      → is_some (get s ix) ≡ b
      → live_from ix s ≡ cond b (ix ∷ live_from (ix + 1) s) (live_from (ix + 1) s)
  opened ix b within is =
      let n = slot_count s in
      let here : drop ix (numbers n) ≡ ix ∷ drop (ix + 1) (numbers n) =
      drop_more (numbers n) ix 0 (omega (arith, within, length-numbers n))
      ∙ ap (λ k. k ∷ drop (ix + 1) (numbers n)) (get_or-numbers n ix 0 within) in
      ap (filter (λ k. is_some (get s k))) here
      ∙ ap (λ b. cond b (ix ∷ live_from (ix + 1) s) (live_from (ix + 1) s)) is

  -- a slot is the first of the live ones from it on, if it is live, and else is none of them
  pub live_here : (ix : ℕ) → ix < slot_count s → is_some (get s ix) ≡ true → live_from ix s ≡ ix ∷ live_from (ix + 1) s
  live_here ix within live = opened ix true within live

  pub live_later : (ix : ℕ) → ix < slot_count s → is_some (get s ix) ≡ false → live_from ix s ≡ live_from (ix + 1) s
  live_later ix within dead = opened ix false within dead

  -- from behind the last slot on there is none
  pub live_none : (ix : ℕ) → slot_count s ≤ ix → live_from ix s ≡ []
  live_none ix past =
      let n = slot_count s in
      let none = drop_of_length-le (numbers n) (omega (arith, past, length-numbers n)) in
      ap (filter (λ k. is_some (get s k))) none

pub not_live : (b : Bool) → (b ≡ true → ⊥) → b ≡ false
not_live true never = absurd (never refl)
not_live false never = refl
