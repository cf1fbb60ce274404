-- What a table's calls leave of its parts.
use Rattle.iddqd_order.proofs.Names.{Ok, ◌≡◌, ◌≢◌, ℕ, ◌+◌, ◌-◌, ◌*◌, ◌<◌, ◌≤◌, List, [], length, get_or, map, slice_index, refl, ap, sym, ◌∙◌, arith, Option, Some, None, Err, Bool, true, false, nat_lt, if◌then◌else◌, All, Contains, not, ◌==◌, Ordering, insert, remove, length-insert, length-remove, length-map, All-nil, All-weaker, All-filter, All-map, Contains-get_or, cases_lt, inl, inr, CanRemap, remapped, IndexRemap, Mut, Asking, Node, Descends, EndsIn, in_order, inners_in, IsTree, IsTable, ReachesGapIn, place_in, ReachesIndexIn, place_at_level_in, blocks_for, order_of, IsIndexList, without, sentinel, Askable, Searches, MOST_INDEXES, row_asks, Gap, Spot, AtIndex, InGap}
use Rattle.iddqd_order.proofs.AskLemmas.{asks_more, asks_none}
use Rattle.iddqd_order.proofs.NodeLemmas.{All-insert}
use Rattle.iddqd_order.proofs.IndexListLemmas.{IsIndexList-nil, IsDistinct-insert, IsDistinct-filter, remove-distinct}
use Rattle.iddqd_order.proofs.PartLemmas.{SearchesWithin-more}
use Rattle.iddqd_order.proofs.ReckoningLemmas.{reckoning, few_indexes}
use Rattle.iddqd_order.proofs.RenameLemmas.{IsIndexList-remapped}
use Rattle.iddqd_order.proofs.TreeLemmas.{place_at_level_in-within}

-- no index at all
pub IsTable-none : IsTable None 0 0 0
IsTable-none =
    record {
      tree = refl;
      counted = refl;
      distinct = IsIndexList-nil.distinct;
      assigned = All-nil (λ ix. ix < sentinel);
      inners = refl;
    }

pub index_list : {q : ℕ} (r : Option Node) (h n : ℕ) → IsTable r h n q → IsIndexList (in_order r h)
index_list r h n t =
    record {
      distinct = t.distinct;
      assigned =
          All-weaker (λ ix. ix < sentinel) (λ ix. ix ≢ sentinel) (λ ix lt e. absurd (omega arith))
          (in_order r h) t.assigned;
    }

-- an index has 32 bits, so there are no more
pub few : {q : ℕ} (r : Option Node) (h n : ℕ) → IsTable r h n q → n ≤ MOST_INDEXES
few r h n t =
    let most = few_indexes sentinel (in_order r h) t.distinct t.assigned in let counted = t.counted in omega arith

-- at most one block for each of twelve levels
at_most : (b : Bool) (k n : ℕ) → k ≤ n → (if b then k else k - 1) ≤ n
at_most true k n le = le
at_most false k n le = omega arith

pub few_blocks : (h k : ℕ) {n : ℕ} → k ≤ n → blocks_for h k ≤ n
few_blocks h k {n = n} le = at_most (nat_lt h k) k n le

-- where the search of a table ends
module _ {F R : Type 0} (g : Mut F (ℕ × Unit {0}) R) (read : R → Ordering) (sought : Option ℕ) where
  pub Searches-nil : (a : Asking F) → Searches g read [] sought a (Err 0) a
  Searches-nil a = record {
    asked = asks_more g (Askable [] sought) (omega arith) (asks_none g (Askable [] sought) a);
    found = tt;
    missed = omega arith;
    itself = tt;
    hit = λ answer s. tt;
    place = λ answer s. record { within = omega arith; greater_before = λ k q. absurd (omega arith); less_from = λ k q r. absurd (omega arith) };
    unequal = λ none never. refl;
  }

  -- without a root it asks nothing
  pub EndsIn-none :
      (h blocks : ℕ) (gap : Gap) (a : Asking F)
      → IsTree None h
      → gap.full ≡ 0
      → EndsIn g read sought (record { root = None; height = h; reserved = blocks }) a (Err gap) a
  unfolding order_of
  EndsIn-none h blocks gap a low none = record {
    searches = Searches-nil a;
    holds = tt;
    fits = record { tree = low; goes = omega arith; full = none; levels = omega arith };
  }

  -- and else it is a walk down from the root
  pub EndsIn-spot :
      {limit : ℕ} (h blocks : ℕ) (n : Node) (spot : Spot) (a b : Asking F)
      → limit ≤ row_asks * (h + 1) + 2
      → IsTree (Some n) h
      → Descends g read sought limit (h + 1) h n a spot.path (Ok spot.level) b
      → EndsIn g read sought (record { root = Some n; height = h; reserved = blocks }) a (Ok spot) b
  unfolding order_of
  EndsIn-spot h blocks n spot a b le t d = record {
    searches = SearchesWithin-more g read sought (let asks = reckoning h 1 n t.0 t.1 (omega arith) (omega arith) in omega arith) d.searches;
    holds = d.reaches;
    fits = tt;
  }

  pub EndsIn-gap :
      {limit : ℕ} (h blocks : ℕ) (n : Node) (gap : Gap) (a b : Asking F)
      → limit ≤ row_asks * (h + 1) + 2
      → IsTree (Some n) h
      → Descends g read sought limit (h + 1) h n a gap.path (Err gap.full) b
      → EndsIn g read sought (record { root = Some n; height = h; reserved = blocks }) a (Err gap) b
  unfolding order_of
  EndsIn-gap h blocks n gap a b le t d = record {
    searches = SearchesWithin-more g read sought (let asks = reckoning h 1 n t.0 t.1 (omega arith) (omega arith) in omega arith) d.searches;
    holds = tt;
    fits = record {
      tree = t;
      goes = d.reaches;
      full = d.lower_end.0;
      levels = elim (cases_lt h gap.full) [ inl lt ↦ omega (arith, d.lower_end.1 lt) | inr le ↦ omega arith ];
    };
  }

-- the indexes with one more
pub IsTable-put :
    {q o : ℕ} (r : Option Node) (h n : ℕ) (p : List ℕ) (ix : ℕ) (s : Option Node) (k : ℕ)
    → IsTable r h n q
    → ReachesGapIn r h p
    → (Contains (in_order r h) ix → ⊥)
    → ix < sentinel
    → IsTree s k
    → in_order s k ≡ insert (in_order r h) (place_in r h p) ix
    → o ≡ inners_in s k
    → IsTable s k (n + 1) o
IsTable-put r h n p ix s k t goes absent small tree items inner =
    let xs : List ℕ = in_order r h in
    let more = length-insert xs (place_in r h p) ix (place_at_level_in-within InGap 0 r h p t.tree goes) in
    let counted = t.counted in
    let len = ap length items in
    record {
      tree = tree;
      counted = omega arith;
      distinct = rw items (IsDistinct-insert xs (place_in r h p) ix absent t.distinct);
      assigned = rw items (All-insert (λ ix. ix < sentinel) xs (place_in r h p) ix t.assigned small);
      inners = inner;
    }

-- the indexes without one
pub record Shorter (r : Option Node) (h n : ℕ) (ix : ℕ) (s : Option Node) (k o : ℕ) : Type 0 where
  pub items : in_order s k ≡ without (in_order r h) ix
  pub some : 1 ≤ n
  pub table : IsTable s k (n - 1) o

pub shorter :
    {q o : ℕ} (r : Option Node) (h n : ℕ) (l : ℕ) (p : List ℕ) (ix : ℕ) (s : Option Node) (k : ℕ)
    → IsTable r h n q
    → ReachesIndexIn l r h p
    → slice_index (in_order r h) (place_at_level_in l r h p) ≡ ix
    → IsTree s k
    → in_order s k ≡ remove (in_order r h) (place_at_level_in l r h p)
    → o ≡ inners_in s k
    → Shorter r h n ix s k o
shorter r h n l p ix s k t held there tree items inner =
    let xs : List ℕ = in_order r h in
    let at : ℕ = place_at_level_in l r h p in
    let within : at < length xs = place_at_level_in-within AtIndex l r h p t.tree held in
    let same : in_order s k ≡ without xs ix = items ∙ remove-distinct xs at t.distinct within ∙ ap (without xs) there in
    let fewer : length (remove xs at) + 1 ≡ length xs = length-remove xs at within in
    let counted = t.counted in
    let len = ap length items in
    record {
      items = same;
      some = omega arith;
      table = record {
        tree = tree;
        counted = omega arith;
        distinct = rw same (IsDistinct-filter (λ j. not (j == ix)) xs t.distinct);
        assigned = rw same (All-filter (λ j. not (j == ix)) (λ j. j < sentinel) xs t.assigned);
        inners = inner;
      };
    }

-- the indexes with new names
pub IsTable-renamed : {q : ℕ} (r : Option Node) (h n : ℕ) (s : Option Node) (remap : IndexRemap) → IsTable r h n q
    → ((ix : ℕ) → Contains (in_order r h) ix → CanRemap remap ix)
    → ((i j : ℕ) → Contains (in_order r h) i → Contains (in_order r h) j → remapped remap i ≡ remapped remap j → i ≡ j)
    → ((ix : ℕ) → ix ≤ MOST_INDEXES → CanRemap remap ix → remapped remap ix ≤ MOST_INDEXES)
    → IsTree s h → in_order s h ≡ map (remapped remap) (in_order r h) → inners_in s h ≡ inners_in r h → IsTable s h n q
IsTable-renamed r h n s remap t can unshared fits tree items inner =
    let xs : List ℕ = in_order r h in
    let named : IsIndexList (map (remapped remap) xs) =
    IsIndexList-remapped remap xs can unshared (index_list r h n t) in
    let small : All (λ ix. ix ≤ MOST_INDEXES) (map (remapped remap) xs) =
    All-map (λ ix. ix ≤ MOST_INDEXES) (remapped remap) xs (λ k d lt. let below = t.assigned k d lt in fits (get_or xs k d) (omega arith) (can (get_or xs k d) (Contains-get_or xs k d lt))) in
    let assigned : All (λ ix. ix < sentinel) (map (remapped remap) xs) = λ k d lt. let ne = named.assigned k d lt in
    let below = small k d lt in
    omega arith in
    let counted = t.counted in
    let len = ap length items in
    let same = length-map xs (remapped remap) in
    record {
      tree = tree;
      counted = omega arith;
      distinct = rw items named.distinct;
      assigned = rw items assigned;
      inners = t.inners ∙ sym inner;
    }
