-- Mixing is a bijection, so an index keeps what its table does.
use Rattle.std.proofs.Common.{◌≡◌, ◌∙◌, ◌+◌, ◌*◌, ◌/◌, ◌%◌, ◌^◌, ◌<◌, ◌==◌, ℕ, Bool, true, false, List, [], ◌∷◌, Some, map, length, inl, inr, refl, sym, ap, subst, arith, mod-lt, mod-eq_of_lt, mul_assoc, mul-add, mul-one, eqb-true, eq-eqb}
use lib.Bits.{xor_assoc, xor_self, xor_zero_r}
use Rattle.std.specs.Prelude.{filter, if◌then◌else◌}
use Rattle.std.specs.List.{filter_map}
use Rattle.std.proofs.Math.Nat.{add-mul-mod_self_right}
use Rattle.std.proofs.lemmas.List.{length-map}
use Rattle.std.proofs.lemmas.List.Sorted.{IsPermutation-map}
use Rattle.std.specs.List.Sorted.{IsPermutation}
use Rattle.std.proofs.lemmas.Nat.{mul-mod_first, xor_lt, xor_shr}
use Rattle.std.proofs.lemmas.Bool.{cases_lt, le-ltb, lt-ltb}
use Rattle.iddqd_hash.specs.HashTable.{Table, KeepsMemory, capacity, entries, listed, memory, room, under, values}
use Rattle.iddqd_c.specs.Mixing.{folded, mixed, spread, under_own_hashes, unmixed}

folded_fits : (n : ℕ) → n < 2 ^ 64 → folded n < 2 ^ 64
folded_fits n fits = xor_lt 64 n (n / 2 ^ 32) fits (omega (arith, fits))

folded_twice : (n : ℕ) → n < 2 ^ 64 → folded (folded n) ≡ n
folded_twice n fits =
    let high : n / 2 ^ 32 / 2 ^ 32 ≡ 0 = omega (arith, fits) in
    rw (
      xor_shr n (n / 2 ^ 32) 32,
      high,
      xor_zero_r (n / 2 ^ 32),
      xor_assoc n (n / 2 ^ 32) (n / 2 ^ 32),
      xor_self
          (n / 2 ^ 32),
    ) (xor_zero_r n)

spread_fits : (factor n : ℕ) → n < 2 ^ 64 → spread factor n < 2 ^ 64
spread_fits factor n fits = folded_fits _ (mod-lt (folded n * factor) (omega arith))

-- a spread by a factor is undone by one by the inverse factor
spread_back :
    (factor inverse wraps n : ℕ)
    → factor * inverse ≡ wraps * 2 ^ 64 + 1
    → n < 2 ^ 64
    → spread inverse (spread factor n) ≡ n
spread_back factor inverse wraps n one fits =
    let y : ℕ = folded n in
    let product : folded (spread factor n) ≡ y * factor % 2 ^ 64 = folded_twice _ (mod-lt (y * factor) (omega arith)) in
    let whole : y * factor * inverse ≡ y + y * wraps * 2 ^ 64 =
    mul_assoc y factor inverse ∙ ap (λ m. y * m) one ∙ mul-add y (wraps * 2 ^ 64) 1
    ∙ omega (arith, mul_assoc y wraps (2 ^ 64), mul-one y) in
    let back : y * factor % 2 ^ 64 * inverse % 2 ^ 64 ≡ y =
    mul-mod_first (y * factor) inverse (2 ^ 64) ∙ ap (λ m. m % 2 ^ 64) whole
    ∙ add-mul-mod_self_right y (y * wraps) (2 ^ 64) ∙ mod-eq_of_lt (folded_fits n fits) in
    ap (λ m. folded (m * inverse % 2 ^ 64)) product ∙ ap folded back ∙ folded_twice n fits

-- the two factors, whose product is one more than a multiple of 2 ^ 64
inverse_factors : 0xc4ceb9fe1a85ec53 * 0x9cb4b2f8129337db ≡ 8680939279959119233 * 2 ^ 64 + 1
inverse_factors = refl

inverse_factors_back : 0x9cb4b2f8129337db * 0xc4ceb9fe1a85ec53 ≡ 8680939279959119233 * 2 ^ 64 + 1
inverse_factors_back = refl

-- the mix of a number of 64 bits
pub mixed_fits : (hash : ℕ) → hash < 2 ^ 64 → mixed hash ≡ spread 0xc4ceb9fe1a85ec53 hash
mixed_fits hash fits = rw (lt-ltb hash (2 ^ 64) fits) refl

unmixed_fits : (hash : ℕ) → hash < 2 ^ 64 → unmixed hash ≡ spread 0x9cb4b2f8129337db hash
unmixed_fits hash fits = rw (lt-ltb hash (2 ^ 64) fits) refl

pub unmixed_mixed : (hash : ℕ) → unmixed (mixed hash) ≡ hash
unmixed_mixed hash = elim (cases_lt hash (2 ^ 64)) [
  | inl fits ↦
      ap unmixed (mixed_fits hash fits) ∙ unmixed_fits _ (spread_fits 0xc4ceb9fe1a85ec53 hash fits)
      ∙ spread_back _ _ 8680939279959119233 hash inverse_factors fits
  | inr high ↦
      let stays : mixed hash ≡ hash = rw (le-ltb hash (2 ^ 64) high) refl in
      let back : unmixed hash ≡ hash = rw (le-ltb hash (2 ^ 64) high) refl in
      ap unmixed stays ∙ back
]

mixed_unmixed : (hash : ℕ) → mixed (unmixed hash) ≡ hash
mixed_unmixed hash = elim (cases_lt hash (2 ^ 64)) [
  | inl fits ↦
      ap mixed (unmixed_fits hash fits) ∙ mixed_fits _ (spread_fits 0x9cb4b2f8129337db hash fits)
      ∙ spread_back _ _ 8680939279959119233 hash inverse_factors_back fits
  | inr high ↦
      let stays : unmixed hash ≡ hash = rw (le-ltb hash (2 ^ 64) high) refl in
      let back : mixed hash ≡ hash = rw (le-ltb hash (2 ^ 64) high) refl in
      ap mixed stays ∙ back
]

-- a stored hash is that of a caller if and only if it is its mix
same_hash : (stored hash : ℕ) → (unmixed stored == hash) ≡ (stored == mixed hash)
same_hash stored hash =
    same_truth _ _
    (λ yes. eq-eqb stored (mixed hash) (sym (mixed_unmixed stored) ∙ ap mixed (eqb-true (unmixed stored) hash yes)))
    (λ yes. eq-eqb (unmixed stored) hash (ap unmixed (eqb-true stored (mixed hash) yes) ∙ unmixed_mixed hash))
  where
    same_truth : (a b : Bool) → (a ≡ true → b ≡ true) → (b ≡ true → a ≡ true) → a ≡ b
    same_truth true b there back = sym (there refl)
    same_truth false true there back = back refl
    same_truth false false there back = refl

-- a stored pair, under the hash of the caller
abbrev pub own : ℕ × ℕ → ℕ × ℕ
own e = (unmixed e.0, e.1)

-- the numbers under a hash of the caller are those that the table has under its mix
pub under_own : (hash : ℕ) (es : List (ℕ × ℕ)) → under hash (map own es) ≡ under (mixed hash) es
under_own hash [] = refl
under_own hash ((stored, number) ∷ es) =
    joined (unmixed stored == hash) (stored == mixed hash) (same_hash stored hash) number
    (filter (λ e. e.0 == hash) (map own es)) (filter (λ e. e.0 == mixed hash) es) (under_own hash es)
  where
    joined :
        (a b : Bool) → a ≡ b → (number : ℕ) (xs ys : List (ℕ × ℕ)) → values xs ≡ values ys →
        values (if a then (unmixed stored, number) ∷ xs else xs) ≡ values (if b then (stored, number) ∷ ys else ys)
    joined true true is number xs ys rest = ap (λ numbers. number ∷ numbers) rest
    joined false false is number xs ys rest = rest
    joined true false is number xs ys rest = absurd (let never : true ≡ false = is in cc)
    joined false true is number xs ys rest = absurd (let never : false ≡ true = is in cc)

all_stand : (es : List (ℕ × ℕ)) → filter_map (λ pair. pair) (map Some es) ≡ es
all_stand [] = refl
all_stand (e ∷ es) = ap (λ xs. e ∷ xs) (all_stand es)

module _ (t : Table ℕ) where
  pub entries_own : entries (under_own_hashes t) ≡ map own (entries t)
  unfolding entries listed
  entries_own = all_stand _

  pub room_own : room (under_own_hashes t) ≡ room t
  unfolding room listed
  room_own = refl

  pub memory_own : memory (under_own_hashes t) ≡ memory t
  unfolding memory listed
  memory_own = refl

  pub length_own : length (entries (under_own_hashes t)) ≡ length (entries t)
  length_own = ap length entries_own ∙ length-map (entries t) own

  pub capacity_own : capacity (under_own_hashes t) ≡ capacity t
  capacity_own = omega (arith, length_own, room_own)

module _ (old new : Table ℕ) where
  pub KeepsMemory-own : KeepsMemory old new → KeepsMemory (under_own_hashes old) (under_own_hashes new)
  KeepsMemory-own kept =
      record {
        room_stays = rw (room_own old, room_own new) kept.room_stays;
        same_capacity = capacity_own new ∙ kept.same_capacity ∙ sym (capacity_own old);
        same_memory = memory_own new ∙ kept.same_memory ∙ sym (memory_own old);
      }

  -- a table with one more pair
  pub added_own :
      (hash number : ℕ)
      → IsPermutation ((mixed hash, number) ∷ entries old) (entries new)
      → IsPermutation ((hash, number) ∷ entries (under_own_hashes old)) (entries (under_own_hashes new))
  added_own hash number added =
      rw (entries_own old, entries_own new)
      (subst (λ h. IsPermutation ((h, number) ∷ map own (entries old)) (map own (entries new))) (unmixed_mixed hash)
      (IsPermutation-map own _ _ added))

  -- a table with one less
  pub removed_own :
      (hash number : ℕ)
      → IsPermutation (entries old) ((mixed hash, number) ∷ entries new)
      → IsPermutation (entries (under_own_hashes old)) ((hash, number) ∷ entries (under_own_hashes new))
  removed_own hash number removed =
      rw (entries_own old, entries_own new)
      (subst (λ h. IsPermutation (map own (entries old)) ((h, number) ∷ map own (entries new))) (unmixed_mixed hash)
      (IsPermutation-map own _ _ removed))
