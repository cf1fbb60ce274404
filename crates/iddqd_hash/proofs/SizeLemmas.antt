-- Memory that is taken ahead and given back, of both tables.
use Rattle.std.proofs.Common.{arith, ◌≡◌, ◌∙◌, ◌+◌, ◌-◌, ◌*◌, ◌^◌, ◌<◌, ◌≤◌, ◌/◌, inr, ℕ, zero, suc, List, [], ◌∷◌, ◌++◌, Option, Some, None, length, replicate, min, max, Result, Ok, Err, IsOk, OnOk, OnErr, refl, sym, ap, subst}
use Rattle.std.proofs.lemmas.List.{length-replicate, length-append, nil_from_length}
use Rattle.std.proofs.lemmas.Nat.{pow-add, pow_pos}
use Rattle.iddqd_hash.specs.HashTable.{Table, room, memory, listed}
use Rattle.iddqd_hash.specs.OpenTable.{usable_of, table_of, pairs, IsPowerOfTwo, IsSound}
use Rattle.iddqd_hash.specs.Sizes.{most_cells, TakesRoom, Shrinks}
use Rattle.iddqd_hash.proofs.CellLemmas.{room-listed, memory-listed, HasNoMemory-listed}
use Rattle.iddqd_hash.proofs.OpenSlotLemmas.{IsProbed-empty, pairs-empty, pairs-push, unused}
use Rattle.iddqd_hash.proofs.OpenTableLemmas.{room-table_of, memory-table_of}

module _ {T : Type 0} where
  -- an empty list, in memory for `held` pairs
  pub TakesRoom-listed :
      {E : Type 0} (n : ℕ) (es : List (ℕ × T)) (spare held : ℕ)
      → spare ≡ n
      → held ≡ n
      → TakesRoom {E = E} n (Ok (listed es spare held))
  TakesRoom-listed n es spare held roomy same =
      record {
        roomy = rw room-listed (omega arith);
        few = rw memory-listed (omega arith);
        succeeds = λ none. refl;
        no_memory = λ none. HasNoMemory-listed es spare held (omega arith) (omega arith);
      }

  module _
      (least len : ℕ) (es now_es : List (ℕ × T)) (counted now held holds : ℕ) (was : counted ≡ len)
      (same : now ≡ counted) (less : holds ≤ held) (enough : min (max least len) held ≤ holds)
    where
      pub Shrinks-listed :
          {A E : Type 0} (r : Result A E)
          → OnOk r (holds ≤ max least len)
          → OnErr r (max least len < holds)
          → (max least len ≡ 0 → holds ≡ 0)
          → Shrinks least len (listed es (held - counted) held) r (listed now_es (holds - now) holds)
      Shrinks-listed r shrunk refused frees =
          record {
            never_more = rw (memory-listed now_es, memory-listed es) less;
            room_stays = rw (room-listed es, room-listed now_es) (omega arith);
            shrunk = rw (memory-listed now_es) (few r shrunk);
            refused = rw (memory-listed now_es) refused;
            succeeds = λ none. served r refused (frees none);
          }
        where
          few :
              {A E : Type 0} (r : Result A E)
              → OnOk r (holds ≤ max least len)
              → OnOk r (holds ≤ most_cells (max least len))
          few (Ok x) is = omega arith
          few (Err e) is = tt

          served : {A E : Type 0} (r : Result A E) → OnErr r (max least len < holds) → holds ≡ 0 → IsOk r
          served (Ok x) more none = refl
          served (Err e) more none = absurd (omega arith)

  -- cells that are all empty
  pub IsSound-empty :
      (tags : List ℕ) (slots : List (Option (ℕ × T))) (n : ℕ)
      → tags ≡ replicate n 0
      → slots ≡ replicate n None
      → IsPowerOfTwo n
      → IsSound tags slots 0 0
  IsSound-empty tags slots n no_tag no_pair power =
      rw (no_tag, no_pair)
      (record {
        count = rw (length-replicate {A = ℕ} n 0) (inr power);
        probed = IsProbed-empty n;
        counted = sym (ap length (pairs-empty n));
        fits = omega arith;
        marked = sym (unused n);
        limited = omega arith;
      })

  pub TakesRoom-table_of :
      {E : Type 0} (n : ℕ) (slots : List (Option (ℕ × T)))
      → 0 < n
      → pairs slots ≡ []
      → n ≤ usable_of (length slots)
      → length slots ≤ most_cells n
      → TakesRoom {E = E} n (Ok (table_of slots))
  TakesRoom-table_of n slots some none fits few =
      record {
        roomy = rw (room-table_of, none) (omega arith);
        few = rw memory-table_of few;
        succeeds = λ none. refl;
        no_memory = λ none. absurd (omega arith);
      }

  -- a table that is as it was, and one whose pairs were placed in fewer cells
  pub Shrinks-same :
      {A E : Type 0} (least len : ℕ) (t : Table T) (x : A)
      → memory t ≤ most_cells (max least len)
      → Shrinks {E = E} least len t (Ok x) t
  Shrinks-same least len t x few = record { never_more = omega arith; room_stays = omega arith; shrunk = few; refused = tt; succeeds = λ none. refl }

  pub Shrinks-placed :
      {A E : Type 0} (least len : ℕ) (old new : Table T) (r : Result A E) (count : ℕ)
      → 0 < max least len
      → max least len ≤ usable_of count
      → count < memory old
      → count ≤ most_cells (max least len)
      → OnErr r (new ≡ old)
      → OnOk r (room new ≡ usable_of count - len)
      → OnOk r (memory new ≡ count)
      → Shrinks least len old r new
  Shrinks-placed least len old new (Ok x) count some fits fewer few refused roomy cells =
      record {
        never_more = omega arith;
        room_stays = omega arith;
        shrunk = omega arith;
        refused = tt;
        succeeds = λ none. refl;
      }
  Shrinks-placed least len old new (Err e) count some fits fewer few refused roomy cells =
      record {
        never_more = subst (λ t. memory t ≤ memory old) (sym refused) (omega arith);
        room_stays = subst (λ t. min (room old) (least - len) ≤ room t) (sym refused) (omega arith);
        shrunk = tt;
        refused = subst (λ t. max least len < memory t) (sym refused) (omega arith);
        succeeds = λ none. absurd (omega arith);
      }

pub half_power : (count : ℕ) → IsPowerOfTwo count → 16 < count → IsPowerOfTwo (count / 2)
half_power count (zero, is) more = absurd (omega arith)
half_power count (suc k, is) more =
    let same : suc k + 4 ≡ 1 + (k + 4) = omega arith in
    let twice : count ≡ 2 ^ 1 * 2 ^ (k + 4) = is ∙ ap (λ n. 2 ^ n) same ∙ pow-add 2 1 (k + 4) in
    (k, omega arith)

-- a number of cells is within `most_cells` if half of them are too few
pub few_halved :
    (count needed : ℕ)
    → IsPowerOfTwo count
    → 0 < needed
    → (16 < count → usable_of (count / 2) < needed)
    → count ≤ most_cells needed
few_halved count needed (zero, is) some tried = omega (arith, is)
few_halved count needed (suc k, is) some tried =
    let same : suc k + 4 ≡ 5 + k = omega arith in
    let many : count ≡ 2 ^ 5 * 2 ^ k = is ∙ ap (λ n. 2 ^ n) same ∙ pow-add 2 5 k in
    let some_cell : 0 < 2 ^ k = pow_pos k in
    let short : usable_of (count / 2) < needed = tried (omega arith) in
    omega arith

-- slots with no pair, of which the last is dropped
module _
    {T : Type 0} (slots rest : List (Option (ℕ × T))) (slot : Option (ℕ × T)) (split : slots ≡ rest ++ slot ∷ [])
    (none : pairs slots ≡ [])
  where
    parts : length (pairs rest) + length (pairs (slot ∷ [])) ≡ 0
    parts =
        sym (length-append (pairs rest) (pairs (slot ∷ [])))
        ∙ ap length (sym (pairs-push rest slot) ∙ ap pairs (sym split) ∙ none)

    pub none_in_rest : pairs rest ≡ []
    none_in_rest = nil_from_length (pairs rest) (omega (arith, parts))

    pub none_in_last : (pair : ℕ × T) → slot ≡ Some pair → ⊥
    none_in_last pair is =
        let one : length (pairs (slot ∷ [])) ≡ 1 = ap (λ o. length (pairs (o ∷ []))) is in
        absurd (omega (arith, parts, one))
