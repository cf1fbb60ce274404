-- What filing a number leaves, and what unfiling one finds, in the hashes of callers.
use Rattle.std.proofs.Common.{◌≡◌, ◌∙◌, ◌+◌, ℕ, Result, Ok, Err, false, true, inl, inr, sym, ap, subst, arith}
use Rattle.std.proofs.lemmas.Bool.{cases_lt}
use Rattle.std.specs.List.Sorted.{IsPermutation}
use Rattle.std.specs.Result.{IsErr}
use Rattle.std.proofs.lemmas.List.Sorted.{length_permutation}
use Rattle.iddqd_hash.specs.HashTable.{Table, UsesRoom, entries, room}
use Rattle.iddqd_hash.specs.Sizes.{Reserves}
use Rattle.iddqd_c.specs.Mixing.{mixed, under_own_hashes}
use Rattle.iddqd_c.specs.Numbers.{Files, TakesCells, Unfiles}
use Rattle.iddqd_c.proofs.MixingLemmas.{KeepsMemory-own, added_own, capacity_own, entries_own, length_own, memory_own, removed_own, room_own, under_own}

-- with room an insert can't fail
pub no_room :
    {A E : Type 0} (old new : Table ℕ) (r : Result A E)
    → Reserves 1 old r new
    → IsErr r
    → room old ≡ 0
no_room old new (Ok done) made failed = absurd (let never : false ≡ true = failed in cc)
no_room old new (Err refused) made failed = elim (cases_lt 0 (room old)) [
  | inl some ↦ absurd (let never : false ≡ true = (made.had_room (omega (arith, some))).0 in cc)
  | inr none ↦ omega (arith, none)
]

-- room was made for one more pair, and it was filed
pub TakesCells-made :
    {A E : Type 0} (old made new : Table ℕ) (r : Result A E)
    → IsPermutation (entries old) (entries made)
    → Reserves 1 old r made
    → UsesRoom made new
    → TakesCells old new
TakesCells-made old made new r contents reserved used =
    let same_length = length_permutation _ _ contents in
    record {
      had_room = λ some. subst (λ t. UsesRoom t new) (reserved.had_room some).1 used;
      no_lower = omega (arith, used.same_capacity, reserved.room_stays, same_length);
      memory_stays = omega (arith, used.same_memory, reserved.memory_stays);
      few = rw used.same_memory reserved.few;
    }

TakesCells-own : (old new : Table ℕ) → TakesCells old new → TakesCells (under_own_hashes old) (under_own_hashes new)
TakesCells-own old new takes =
    record {
      had_room = λ some.
          (let uses : UsesRoom old new = takes.had_room (rw (room_own old) at some) in
          record {
            one_less = omega (arith, room_own old, room_own new, uses.one_less);
            same_capacity = capacity_own new ∙ uses.same_capacity ∙ sym (capacity_own old);
            same_memory = memory_own new ∙ uses.same_memory ∙ sym (memory_own old);
          });
      no_lower = omega (arith, capacity_own old, capacity_own new, takes.no_lower);
      memory_stays = omega (arith, memory_own old, memory_own new, takes.memory_stays);
      few = rw (memory_own old, memory_own new, length_own old) takes.few;
    }

module _ (hash number code : ℕ) (old new : Table ℕ) where
  pub Files-own :
      Files (mixed hash) number code old new → Files hash number code (under_own_hashes old) (under_own_hashes new)
  Files-own (inl (ok, added, takes)) = inl (ok, added_own old new hash number added, TakesCells-own old new takes)
  Files-own (inr (out, none, same)) = inr (out, room_own old ∙ none, ap under_own_hashes same)

  pub Unfiles-own :
      Unfiles (mixed hash) number code old new
      → Unfiles hash number code (under_own_hashes old) (under_own_hashes new)
  Unfiles-own (inl (ok, removed, kept, more)) =
      inl (
        ok,
        removed_own old new hash number removed,
        KeepsMemory-own old new kept,
        room_own new ∙ more ∙ ap (λ n. n + 1) (sym (room_own old)),
      )
  Unfiles-own (inr (missing, never, same)) =
      inr (missing, rw (entries_own old, under_own hash (entries old)) never, ap under_own_hashes same)
