-- What a check of keyed items finds, where store and tables are paired.
use Rattle.std.proofs.Common.{◌≡◌, ◌⊎◌, inl, inr, ◌∙◌, ◌↔◌, ◌&&◌, ℕ, Bool, true, false, nat_eq, List, [], ◌∷◌, map, length, Option, Some, None, IsSome, is_some, Result, Ok, Err, IsErr, IsOk, IfErr, not, eq-eqb, refl, sym, ap, subst, T as Holds}
use Rattle.std.specs.Borrow.{Bor}
use Rattle.std.specs.Cmp.{nat_cmp_total, eq_by_cmp_equiv}
use Rattle.std.specs.List.{AllByRecursion, Contains, IsDistinct, list_any}
use Rattle.std.specs.Ordering.{nat_cmp, eq_by_cmp, is_lt}
use Rattle.std.specs.declared.cmp.Ordering.TheVariants.{Equal}
use Rattle.std.specs.FinMap as finite
use Rattle.std.specs.FinMap.{FinMap}
use Rattle.std.specs.FinMap.Entries.{is_sorted, below_all, is_some-find}
use Rattle.std.specs.Option.{option_eq}
use Rattle.std.proofs.lemmas.Bool.{false≢true}
use Rattle.std.proofs.lemmas.Cmp.{tied_itself}
use Rattle.std.proofs.lemmas.Map.Keys.{IsDistinct-cons}
use Rattle.std.proofs.lemmas.Map.Views.{list_any-from_Contains, Contains-from_any}
use Rattle.iddqd.specs.declared.internal.ValidateChaos.{ValidateChaos}
use Rattle.iddqd.specs.declared.internal.ValidateCompact.{ValidateCompact}
use Rattle.iddqd.specs.declared.internal.ValidateRefusal.{ValidateRefusal}
use Rattle.iddqd.specs.declared.internal.ValidateRefusal.TheVariants.{Invalid, Memory}
use Rattle.iddqd.specs.Store.{Store, get, live_count}
use Rattle.iddqd.specs.LiveItems.{live_pairs}
use Rattle.iddqd.specs.Validation.{Allows, AreAsExpected, IsMemory, Validates}
use Rattle.iddqd.proofs.LiveItemLemmas.{IsWalkOf-live_pairs}
use Rattle.iddqd.proofs.StoreLemmas.{contains_head, contains_tail, contains_cases, differs}
use Rattle.iddqd_hash.specs.MapHashTable.{indexes_of}
use Rattle.iddqd_hash.proofs.FiledLemmas.{same_index}
use Rattle.iddqd_keys.specs.Scan.{IsHit, AnswersScan}
use Rattle.iddqd_by_order.specs.Ordered as ordered
use Rattle.iddqd_by_order.proofs.OrderedCountLemmas.{AreAsExpected-listed}
use Rattle.iddqd_driver.specs.State.{State, IsPaired}
use Rattle.iddqd_driver.specs.Validation.{AreStored, with_table_name}
use Rattle.iddqd_driver.proofs.KeepsLemmas.{Holds-order}

-- A walk over the live items has these left, and the others pass: each that is left is live, and each live one is left
-- or passes.
module _ {T : Type 0} (s : Store T) (Passes : ℕ → T → Type 0) where
  pub record Checked (left : List (ℕ × T)) : Type 0 where
    pub live : (ix : ℕ) (item : T) → Contains left (ix, item) → get s ix ≡ Some item
    pub passed : (ix : ℕ) (item : T) → get s ix ≡ Some item → Contains left (ix, item) ⊎ Passes ix item

  -- at first all are left
  pub Checked-none : Checked (live_pairs s)
  Checked-none = record {
    live = λ ix item listed. ((IsWalkOf-live_pairs s).live ix item).0 listed;
    passed = λ ix item is. inl (((IsWalkOf-live_pairs s).live ix item).1 is);
  }

  -- the next one is live
  pub Checked-live : (ix : ℕ) (item : T) (rest : List (ℕ × T)) → Checked ((ix, item) ∷ rest) → get s ix ≡ Some item
  Checked-live ix item rest before = before.live ix item (contains_head (ix, item) rest)

  -- one more passes
  pub Checked-next :
      (ix : ℕ) (item : T) (rest : List (ℕ × T))
      → Checked ((ix, item) ∷ rest)
      → Passes ix item
      → Checked rest
  Checked-next ix item rest before passes = record {
    live = λ j other listed. before.live j other (contains_tail (ix, item) (j, other) rest listed);
    passed = λ j other is. elim (before.passed j other is) [
      | inl listed ↦ elim (contains_cases (ix, item) (j, other) rest listed) [
        | inl here ↦ inr (subst (λ (p : ℕ × T). Passes p.0 p.1) here passes)
        | inr there ↦ inl there
      ]
      | inr passed ↦ inr passed
    ];
  }

-- ---- the indexes of a map

-- the indexes of a map's entries
abbrev firsts : List (ℕ × ℕ) → List ℕ
firsts es = map (λ e. e.0) es

both_hold : (a b : Bool) → Holds (a && b) → Holds a × Holds b
both_hold true b h = (tt, h)
both_hold false b h = absurd h

less_differs : (n m : ℕ) → Holds (is_lt (nat_cmp n m)) → nat_eq n m ≡ false
less_differs n m less = differs n m (λ same.
    let equal : nat_cmp n m ≡ Equal = subst (λ k. nat_cmp n k ≡ Equal) same (tied_itself nat_cmp_total n) in
    absurd (subst (λ r. Holds (is_lt r)) equal less))

below_apart :
    (n : ℕ) (es : List (ℕ × ℕ))
    → Holds (below_all nat_cmp n es)
    → AllByRecursion (λ m. nat_eq n m ≡ false) (firsts es)
below_apart n [] below = tt
below_apart n (e ∷ es) below =
    let parts = both_hold _ _ below in
    (less_differs n e.0 parts.0, below_apart n es parts.1)

distinct-sorted : (es : List (ℕ × ℕ)) → Holds (is_sorted nat_cmp es) → IsDistinct nat_eq (firsts es)
unfolding IsDistinct
distinct-sorted [] sorted = tt
distinct-sorted (e ∷ es) sorted =
    let parts = both_hold _ _ sorted in
    IsDistinct-cons nat_eq e.0 (firsts es) (below_apart e.0 es parts.0) (distinct-sorted es parts.1)

module _ (m : FinMap nat_cmp ℕ) where
  -- the indexes of a map are those that it has, each once
  distinct-indexes : IsDistinct nat_eq (indexes_of m)
  distinct-indexes = distinct-sorted (finite.entries m) (finite.entries_sorted m)

  some_entry : (ix : ℕ) → is_some (finite.get m ix) ≡ list_any (eq_by_cmp nat_cmp ix) (indexes_of m)
  some_entry ix = ap is_some (finite.get-entries m ix) ∙ is_some-find nat_cmp ix (finite.entries m)

  listed-index : (ix : ℕ) → Contains (indexes_of m) ix ↔ IsSome (finite.get m ix)
  listed-index ix = (
    λ here. some_entry ix ∙ list_any-from_Contains (eq_by_cmp_equiv nat_cmp_total) ix (indexes_of m) here,
    λ filed. Contains-from_any same_index ix (indexes_of m) (sym (some_entry ix) ∙ filed),
  )

-- ---- what the tables are answered

module _ {T S : Type 0} (s : State T S) (paired : IsPaired s) where
  -- the filed indexes are the live ones, each once
  pub filed_has_live_indexes : ordered.Holds s.store (indexes_of s.filed)
  filed_has_live_indexes = record {
    each = λ ix. (
      λ here. (paired.filed ix).0 ((listed-index s.filed ix).0 here),
      λ live. (listed-index s.filed ix).1 ((paired.filed ix).1 live),
    );
    once = distinct-indexes s.filed;
  }

  pub AreAsExpected-filed :
      (mode : ValidateCompact)
      → Allows mode (length s.store.free)
      → AreAsExpected mode (live_count s.store) (indexes_of s.filed)
  AreAsExpected-filed mode allowed =
      AreAsExpected-listed s.store (indexes_of s.filed) filed_has_live_indexes paired.valid mode allowed

  pub AreAsExpected-order :
      (mode : ValidateCompact)
      → Allows mode (length s.store.free)
      → AreAsExpected mode (live_count s.store) s.order
  AreAsExpected-order mode allowed =
      AreAsExpected-listed s.store s.order (Holds-order s paired) paired.valid mode allowed

-- a table that is sound is refused for want of memory alone
pub IsMemory-with_table_name :
    (sound : Type 0) (name : Bor (List ℕ)) (answer : Result (Unit {0}) (ValidateRefusal (List ℕ)))
    → sound
    → Validates sound answer
    → IfErr (with_table_name name answer) IsMemory
IsMemory-with_table_name sound name (Ok passed) holds validates = tt
IsMemory-with_table_name sound name (Err (Invalid error)) holds refuted = absurd (refuted holds)
IsMemory-with_table_name sound name (Err (Memory error)) holds validates = tt

-- a refusal for want of memory will do
pub Validates-refused :
    {E : Type 0} (sound : Type 0) (answer : Result (Unit {0}) (ValidateRefusal E))
    → IsErr answer
    → IfErr answer IsMemory
    → Validates sound answer
Validates-refused sound (Ok passed) refused memory = absurd (cc)
Validates-refused sound (Err (Invalid error)) refused memory = absurd memory
Validates-refused sound (Err (Memory error)) refused memory = tt

-- so will no refusal
pub Validates-or_memory :
    {E : Type 0} (sound : Type 0) (answer : Result (Unit {0}) (ValidateRefusal E))
    → sound
    → IfErr answer IsMemory
    → Validates sound answer
Validates-or_memory sound (Ok passed) holds memory = holds
Validates-or_memory sound (Err (Invalid error)) holds memory = absurd memory
Validates-or_memory sound (Err (Memory error)) holds memory = tt

-- a check of what holds says of anything else that holds what it says
pub Validates-also :
    {E : Type 0} (sound other : Type 0) (answer : Result (Unit {0}) (ValidateRefusal E))
    → sound
    → other
    → Validates sound answer
    → Validates other answer
Validates-also sound other (Ok passed) holds also validates = also
Validates-also sound other (Err (Invalid error)) holds also validates = absurd (validates holds)
Validates-also sound other (Err (Memory error)) holds also validates = tt

pub not_ok : {A E : Type 0} (answer : Result A E) → IsErr answer → IsOk answer → ⊥
not_ok (Ok value) refused passed = false≢true refused
not_ok (Err error) refused passed = false≢true passed

pub one_way : (chaos : ValidateChaos) → chaos ≡ ValidateChaos.Yes → chaos ≡ ValidateChaos.No → ⊥
one_way chaos scans keys = let same : ValidateChaos.Yes ≡ ValidateChaos.No = sym scans ∙ keys in absurd (cc)

-- in a paired state both tables have each live index
pub AreStored-paired : {T S : Type 0} (s : State T S) → IsPaired s → AreStored s.store s.filed s.order
AreStored-paired s paired = λ ix live. ((paired.filed ix).1 live, (paired.ordered ix).1 live)

-- ---- what a scan finds

-- a scan that answers finds an index that hits
pub AnswersScan-hit :
    {T : Type 0} (s : Store T) (test : T → Bool) (answer : Option ℕ) (ix : ℕ)
    → AnswersScan s test answer
    → IsHit s test ix
    → answer ≡ Some ix
AnswersScan-hit s test None ix none hit = absurd (none ix hit)
AnswersScan-hit s test (Some at) ix one hit = ap Some (sym ((one ix).0 hit))

-- an answer is no other than itself
ne-itself : (answer : Option ℕ) (ix : ℕ) → answer ≡ Some ix → not (option_eq nat_eq answer (Some ix)) ≡ false
ne-itself answer ix is = rw (is, eq-eqb ix ix refl) refl

pub differs-itself :
    (answer : Option ℕ) (ix : ℕ) (differs : Bool)
    → differs ≡ not (option_eq nat_eq answer (Some ix))
    → differs ≡ true
    → answer ≡ Some ix
    → ⊥
differs-itself answer ix differs is told same = false≢true (sym (ne-itself answer ix same) ∙ sym is ∙ told)
