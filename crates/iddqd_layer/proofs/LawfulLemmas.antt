-- For callers. Lawful hashes and comparisons keep a layer's tables in sync with its owner's records, and a search that
-- its owner carries out by the steps of a table ends where what it seeks belongs.
use Rattle.std.proofs.Common.{◌≡◌, ◌≢◌, ◌∙◌, ℕ, ◌-◌, ◌<◌, List, length, get_or, slice_index, Some, Contains, refl, ap, subst, sym, arith, inl, inr, Ordering, Less, Equal, Greater, ◌==◌, false, map-id}
use Rattle.std.proofs.lemmas.Bool.{cases_eq, cases_lt}
use Rattle.std.proofs.lemmas.Bool.Decides.{nat_tests}
use Rattle.std.proofs.lemmas.List.{get_or_default}
use Rattle.std.specs.Cmp.{IsTotalOrder}
use Rattle.std.specs.FinMap as finite
use Rattle.iddqd.specs.Compaction.{compacted, rank}
use Rattle.iddqd.specs.Store.{Store, inserted, next_index, removed}
use Rattle.iddqd.proofs.CompactionLemmas.{live-compacted, rank_rises}
use Rattle.iddqd.proofs.LiveLemmas.{get-inserted_other, get-removed_at, get-removed_other, item_at, live_at, none_not_live}
use Rattle.iddqd_hash.specs.HashTable.{Table}
use Rattle.iddqd_hash.specs.MapHashTable.{filed, indexes_under}
use Rattle.iddqd_hash.proofs.FiledLemmas.{under_from_filed}
use Rattle.iddqd_hash.proofs.MemberLemmas.{get-insert_at, get-insert_other, get-remove_other}
use Rattle.iddqd_keys.specs.Scan.{IsLive}
use Rattle.iddqd_order.specs.KeyOrder.{IsInKeyOrder}
use Rattle.iddqd_order.specs.MapBTreeTable.{Order, order_of, without}
use Rattle.iddqd_order.specs.Search.{IsPlace, IsRising, with_ties}
use Rattle.iddqd_order.specs.Stepping.{IsAllBetween, IsChildAt, gap_behind, high, low, row_of}
use Rattle.iddqd_order.specs.declared.btree_table.stepping.Descent.{Descent}
use Rattle.iddqd_order.proofs.GuideLemmas.{split-child}
use Rattle.iddqd_order.proofs.KeyOrderLemmas.{InsertsInKeyOrder-insert, IsInKeyOrder-inserted, IsInKeyOrder-removed, IsInKeyOrder-renamed, IsRising-from_key, StaysInKeyOrder-without}
use Rattle.iddqd_order.proofs.MemberLemmas.{contains-from_without}
use Rattle.iddqd_order.proofs.SearchLemmas.{AreSplit, split-init}
use Rattle.iddqd_by_order.specs.Ordered as by_order
use Rattle.iddqd_layer.specs.Lawful.{IsFiledByKey}
use Rattle.iddqd_layer.specs.Layer.{IsFiled, IsPlaced, IsRefiled, IsTakenOut, IsUnfiled, RenamesHashed, RenamesOrdered, gap_at}
use Rattle.iddqd_layer.specs.declared.way.Way.{Way}

-- A record with the hash is among the indexes under it. So whoever goes over these and meets no equal record knows that
-- there is none, if equal keys have equal hashes.
pub found-under :
    (s : Store (Unit {0})) (t : Table ℕ) (hash_of : ℕ → ℕ) (hash ix : ℕ)
    → IsFiledByKey s t hash_of
    → IsLive s ix
    → hash_of ix ≡ hash
    → Contains (indexes_under hash (filed t)) ix
found-under s t hash_of hash ix by live e = under_from_filed (filed t) hash ix (by.each ix live ∙ ap Some e)

-- the same of any sameness of keys, under which equal keys have equal hashes
pub no-equal-under :
    (s : Store (Unit {0})) (t : Table ℕ) (hash_of : ℕ → ℕ) (hash : ℕ) (IsEqual : ℕ → Type 0)
    → IsFiledByKey s t hash_of
    → ((ix : ℕ) → IsEqual ix → hash_of ix ≡ hash)
    → ((ix : ℕ) → Contains (indexes_under hash (filed t)) ix → IsEqual ix → ⊥)
    → (ix : ℕ)
    → IsLive s ix
    → IsEqual ix
    → ⊥
no-equal-under s t hash_of hash IsEqual by same_hash none ix live equal =
    none ix (found-under s t hash_of hash ix by live (same_hash ix equal)) equal

-- an insert under the hash of the new record's key keeps this
pub filed-by_key :
    (s : Store (Unit {0})) (t u : Table ℕ) (hash_of : ℕ → ℕ) (hash : ℕ)
    → IsFiledByKey s t hash_of
    → IsFiled (next_index s) hash t u
    → hash_of (next_index s) ≡ hash
    → IsFiledByKey (inserted s tt) u hash_of
filed-by_key s t u hash_of hash by is e = record {
  each = λ ix live.
      elim (cases_eq ix (next_index s)) [
        | inl same ↦ rw (is, same) (get-insert_at (filed t) (next_index s) hash ∙ ap Some (sym e))
        | inr other ↦
            rw is (get-insert_other (filed t) (next_index s) hash ix other
            ∙ by.each ix (rw (get-inserted_other s tt ix other) at live))
      ];
}

-- and so does a removal
pub unfiled-by_key :
    (s : Store (Unit {0})) (t u : Table ℕ) (hash_of : ℕ → ℕ) (ix : ℕ)
    → IsFiledByKey s t hash_of
    → IsLive s ix
    → IsUnfiled ix t u
    → IsFiledByKey (removed s ix) u hash_of
unfiled-by_key s t u hash_of ix by was is = record {
  each = λ j live.
      let (item, stood) = item_at s ix was in
      elim (cases_eq j ix) [
        | inl same ↦ absurd (none_not_live (removed s ix) ix (get-removed_at s ix item stood)
            (subst (IsLive (removed s ix)) same live))
        | inr other ↦
            rw is (get-remove_other (filed t) ix j other
            ∙ by.each j (rw (get-removed_other s ix j other) at live))
      ];
}

-- where the key of one record changed, a rehash under its new hash
pub refiled-by_key :
    (s : Store (Unit {0})) (t u : Table ℕ) (hash_of hash_of' : ℕ → ℕ) (ix hash : ℕ)
    → IsFiledByKey s t hash_of
    → IsRefiled ix hash t u
    → hash_of' ix ≡ hash
    → ((j : ℕ) → j ≢ ix → hash_of' j ≡ hash_of j)
    → IsFiledByKey s u hash_of'
refiled-by_key s t u hash_of hash_of' ix hash by is e others = record {
  each = λ j live.
      elim (cases_eq j ix) [
        | inl same ↦ rw (is, same) (get-insert_at (finite.remove (filed t) ix) ix hash ∙ ap Some (sym e))
        | inr other ↦
            rw is (get-insert_other (finite.remove (filed t) ix) ix hash j other ∙ get-remove_other (filed t) ix j other
            ∙ by.each j live ∙ ap Some (sym (others j other)))
      ];
}

-- and a compaction, where each record has the index that is now its own
pub renamed-by_key :
    (s : Store (Unit {0})) (t u : Table ℕ) (hash_of hash_of' : ℕ → ℕ)
    → IsFiledByKey s t hash_of
    → RenamesHashed (rank s) t u
    → ((ix : ℕ) → IsLive s ix → hash_of' (rank s ix) ≡ hash_of ix)
    → IsFiledByKey (compacted s) u hash_of'
renamed-by_key s t u hash_of hash_of' by is same = record {
  each = λ at live.
      let (item, now) = item_at (compacted s) at live in
      let (ix, named, stood) = live-compacted s at item now in
      let was = live_at s ix item stood in
      subst (λ z. finite.get (filed u) z ≡ Some (hash_of' z)) named
      (is.each ix (hash_of ix) (by.each ix was) ∙ ap Some (sym (same ix was)));
}

-- an insert at the place where the key belongs keeps the order, ties by index
pub placed-in_order :
    {K : Type 0} {cmp : K → K → Ordering} (total : IsTotalOrder cmp) (key : ℕ → K) (ix : ℕ) (way : Way) (t u : Order)
    → IsInKeyOrder cmp key (order_of t)
    → IsPlaced ix way t u
    → IsPlace (with_ties (Some ix) (λ j. cmp (key ix) (key j))) (order_of t) (gap_at t way)
    → IsInKeyOrder cmp key (order_of u)
placed-in_order {K} {cmp} total key ix way t u sorted is belongs =
    subst (IsInKeyOrder cmp key) (sym is.placed)
    (IsInKeyOrder-inserted total key (order_of t) _ (gap_at t way) ix
    (InsertsInKeyOrder-insert (order_of t) (gap_at t way) ix) sorted belongs)

-- and so does a removal
pub taken_out-in_order :
    {K : Type 0} (cmp : K → K → Ordering) (key : ℕ → K) (ix : ℕ) (t u : Order)
    → IsInKeyOrder cmp key (order_of t)
    → IsTakenOut ix t u
    → IsInKeyOrder cmp key (order_of u)
taken_out-in_order cmp key ix t u sorted is =
    subst (IsInKeyOrder cmp key) (sym is)
    (IsInKeyOrder-removed cmp key (order_of t) _ (StaysInKeyOrder-without (order_of t) ix) sorted)

-- and a compaction, where each record has the index that is now its own
pub renamed-in_order :
    {K : Type 0} {cmp : K → K → Ordering} (total : IsTotalOrder cmp) (key key' : ℕ → K) (s : Store (Unit {0}))
    (t u : Order)
    → IsInKeyOrder cmp key (order_of t)
    → by_order.Holds s (order_of t)
    → RenamesOrdered (rank s) t u
    → ((ix : ℕ) → IsLive s ix → key' (rank s ix) ≡ key ix)
    → IsInKeyOrder cmp key' (order_of u)
renamed-in_order {K} {cmp} total key key' s t u sorted holds is same =
    subst (IsInKeyOrder cmp key') (sym is)
    (IsInKeyOrder-renamed total key key' (rank s) (order_of t) (λ i here. same i ((holds.each i).0 here))
    (λ i j here there less. rank_rises s i j less ((holds.each i).0 here)) sorted)

-- a record whose key changed: its index is removed, sought in the list without it, and inserted where it belongs now
pub moved-in_order :
    {K : Type 0} {cmp : K → K → Ordering} (total : IsTotalOrder cmp) (key key' : ℕ → K) (ix : ℕ) (way : Way)
    (t mid u : Order)
    → IsInKeyOrder cmp key (order_of t)
    → ((j : ℕ) → j ≢ ix → key' j ≡ key j)
    → IsTakenOut ix t mid
    → IsPlaced ix way mid u
    → IsPlace (with_ties (Some ix) (λ j. cmp (key' ix) (key' j))) (without (order_of t) ix) (gap_at mid way)
    → IsInKeyOrder cmp key' (order_of u)
moved-in_order {K} {cmp} total key key' ix way t mid u sorted others out is belongs =
    let left = taken_out-in_order cmp key ix t mid sorted out in
    let alike : (j : ℕ) → Contains (order_of mid) j → key' j ≡ key j =
    λ j here. others j (contains-from_without (order_of t) ix j (subst (λ z. Contains z j) out here)).1 in
    let again : IsInKeyOrder cmp key' (order_of mid) =
    subst (IsInKeyOrder cmp key') (map-id (order_of mid))
    (IsInKeyOrder-renamed total key key' (λ j. j) (order_of mid) alike (λ i j here there less. less) left) in
    placed-in_order total key' ix way mid u again is
    (subst (λ z. IsPlace (with_ties (Some ix) (λ j. cmp (key' ix) (key' j))) z (gap_at mid way)) (sym out) belongs)

-- A search by steps. Its answers say how what is sought compares with the key at an index. In a list in order of the
-- keys they rise. At each node its owner goes on at the place of the row where Greater ends (`IsPlace`).
module _ (answer : ℕ → Ordering) (t : Order) where
  -- it begins at the root
  pub honest-root :
      (root : Descent)
      → low t root ≡ 0
      → high t root ≡ length (order_of t)
      → AreSplit answer (order_of t) (low t root) (high t root)
  honest-root root from to = rw (from, to) (split-init answer (order_of t))

  -- it goes on to the child
  pub honest-child :
      (above node : Descent) (i : ℕ)
      → IsRising answer (order_of t)
      → IsChildAt t above i node
      → IsPlace answer (row_of t above) i
      → AreSplit answer (order_of t) (low t above) (high t above)
      → AreSplit answer (order_of t) (low t node) (high t node)
  honest-child above node i rising child place split = split-child rising child.narrows place split

  -- it ends in a leaf, at the place in the whole list
  pub honest-end :
      (leaf : Descent) (i : ℕ)
      → IsAllBetween (order_of t) (row_of t leaf) (low t leaf) (high t leaf)
      → IsPlace answer (row_of t leaf) i
      → AreSplit answer (order_of t) (low t leaf) (high t leaf)
      → IsPlace answer (order_of t) (gap_behind t leaf i)
  honest-end leaf i all place split =
      let xs = order_of t in let row = row_of t leaf in let from = low t leaf in
      let long = all.long in let within = all.within in let short = place.within in
      record {
        within = omega arith;
        greater_before = λ k lt. elim (cases_lt k from) [
          | inl before ↦ split.greater k before
          | inr behind ↦
              (let at : slice_index xs k ≡ slice_index row (k - from) =
              subst (λ z. slice_index xs z ≡ slice_index row (k - from)) (omega arith)
              (all.index (k - from) (omega arith)) in
              ap answer at ∙ place.greater_before (k - from) (omega arith))
        ];
        less_from = λ k at_least lt. elim (cases_lt k (high t leaf)) [
          | inl before ↦
              (let at : slice_index xs k ≡ slice_index row (k - from) =
              subst (λ z. slice_index xs z ≡ slice_index row (k - from)) (omega arith)
              (all.index (k - from) (omega arith)) in
              ap answer at ∙ place.less_from (k - from) (omega arith) (omega arith))
          | inr behind ↦ split.less k behind lt
        ];
      }

-- a search that ended so met no equal key
none-equal :
    (answer : ℕ → Ordering) (xs : List ℕ) (place ix : ℕ)
    → IsPlace answer xs place
    → Contains xs ix
    → answer ix ≡ Equal
    → ⊥
none-equal answer xs place ix is (k, lt, same) e =
    let at : get_or xs k 0 ≡ ix = get_or_default xs k 0 ix lt ∙ same in
    elim (cases_lt k place) [
      | inl before ↦
          (let bad : Equal ≡ Greater = sym e ∙ subst (λ z. answer z ≡ Greater) at (is.greater_before k before) in cc)
      | inr behind ↦ (let bad : Equal ≡ Less = sym e ∙ subst (λ z. answer z ≡ Less) at (is.less_from k behind lt) in cc)
    ]

-- so no live record has an equal one
pub no-equal :
    {K : Type 0} (cmp : K → K → Ordering) (key : ℕ → K) (sought : K) (s : Store (Unit {0})) (t : Order) (place : ℕ)
    → by_order.Holds s (order_of t)
    → IsPlace (λ j. cmp sought (key j)) (order_of t) place
    → (ix : ℕ)
    → IsLive s ix
    → cmp sought (key ix) ≡ Equal
    → ⊥
no-equal cmp key sought s t place holds is ix live e =
    none-equal (λ j. cmp sought (key j)) (order_of t) place ix is ((holds.each ix).1 live) e

-- and a new index belongs there, also where ties go by index
pub place-with_ties :
    (answer : ℕ → Ordering) (xs : List ℕ) (place ix : ℕ)
    → (Contains xs ix → ⊥)
    → IsPlace answer xs place
    → IsPlace (with_ties (Some ix) answer) xs place
place-with_ties answer xs place ix absent is =
    let other : (k : ℕ) → k < length xs → (get_or xs k 0 == ix) ≡ false =
    λ k lt.
    let ne : get_or xs k 0 ≢ ix = λ same. absent (k, lt, sym (get_or_default xs k 0 ix lt) ∙ same) in
    grind (arith, nat_tests) in
    let within = is.within in
    record {
      within = is.within;
      greater_before = λ k lt. rw (other k (omega arith), is.greater_before k lt) refl;
      less_from = λ k at_least lt. rw (other k lt, is.less_from k at_least lt) refl;
    }

-- the answers that compare a key rise along a list in order
pub honest-rising :
    {K : Type 0} {cmp : K → K → Ordering} (total : IsTotalOrder cmp) (key : ℕ → K) (sought : K) (t : Order)
    → IsInKeyOrder cmp key (order_of t)
    → IsRising (λ j. cmp sought (key j)) (order_of t)
honest-rising {K} {cmp} total key sought t sorted =
    IsRising-from_key total key sought (order_of t) (λ j. cmp sought (key j)) sorted (λ k d lt. refl)
