-- How a search asks, and what its answers mean.
use Rattle.std.specs.Prelude.{◌≡◌, ◌≢◌, ℕ, ◌*◌, ◌<◌, ◌≤◌, ◌==◌, List, All, Contains, Option, Some, None, IfSome, IsNone, Result, IfOk, IfErr, is_err, true, if◌then◌else◌, slice_index, length}
use Rattle.std.specs.declared.cmp.Ordering.{Ordering}
use Rattle.std.specs.declared.cmp.Ordering.TheVariants.{Less, Equal, Greater}
use Rattle.std.specs.Ordering.{nat_cmp, ordering_then}
use Rattle.std.specs.Fn.{Mut}
use Rattle.iddqd_order.specs.declared.btree_table.asking.Asking.{Asking}
use Rattle.iddqd_order.specs.Asking.{closure_of}
use Rattle.iddqd_order.specs.Asks.{AsksWithin, CanAsk, Steady}
use Rattle.iddqd_order.specs.Digits.{bound}

-- the indexes that are asked about: the stored ones, except the one that is searched for, if any
abbrev pub Askable : List ℕ → Option ℕ → ℕ → Type 0
Askable stored None j = Contains stored j
Askable stored (Some ix) j = Contains stored j × (j ≢ ix)

-- The answers with ties broken: the index sought is Equal to itself. Against another index j the answer decides, and if
-- it is Equal, the lesser of the two comes first.
abbrev pub with_ties : Option ℕ → (ℕ → Ordering) → ℕ → Ordering
with_ties None answer j = answer j
with_ties (Some ix) answer j = if j == ix then Equal else ordering_then (answer j) (nat_cmp ix j)

-- along the list the answers are first all Greater, then Equal, then all Less
pub record IsRising (answer : ℕ → Ordering) (xs : List ℕ) : Type 0 where
  pub greater_before : (i j : ℕ) → i < j → j < length xs →
      answer (slice_index xs j) ≡ Greater → answer (slice_index xs i) ≡ Greater
  pub less_after : (i j : ℕ) → i < j → j < length xs →
      answer (slice_index xs i) ≡ Less → answer (slice_index xs j) ≡ Less

-- the place where Greater ends: all answers before it are Greater, and all others are Less
pub record IsPlace (answer : ℕ → Ordering) (xs : List ℕ) (place : ℕ) : Type 0 where
  pub within : place ≤ length xs
  pub greater_before : (k : ℕ) → k < place → answer (slice_index xs k) ≡ Greater
  pub less_from : (k : ℕ) → place ≤ k → k < length xs → answer (slice_index xs k) ≡ Less

-- a search in the indexes xs: for the index `sought`, or by the answers alone if it is `None`
module _ {F R : Type 0} (g : Mut F (ℕ × Unit {0}) R) (xs : List ℕ) (sought : Option ℕ) where
  -- the closure may be asked what the search asks, in every state that its own asks leave
  abbrev pub CanSearch : Asking F → Type 0
  CanSearch a = CanAsk g (Askable xs sought) (closure_of a)

  -- the search asks at most 4 plus twice the number of binary digits of the length, and counts each ask
  abbrev pub SearchAsks : Asking F → Asking F → Type 0
  SearchAsks old new = AsksWithin g (Askable xs sought) (bound (length xs)) old new

  -- two searches ask at most twice as often as one may, and count each ask
  abbrev pub TwoSearchesAsk : Asking F → Asking F → Type 0
  TwoSearchesAsk old new = AsksWithin g (Askable xs sought) (2 * bound (length xs)) old new

  -- the answers, as `read` turns them into `Ordering`s, are one function of the index
  abbrev pub IsSteady : (R → Ordering) → (ℕ → Ordering) → Asking F → Type 0
  IsSteady read answer a = Steady g (Askable xs sought) read answer (closure_of a)

  -- the answers are steady, and with ties broken they rise along the list
  pub record IsSteadyRising (read : R → Ordering) (answer : ℕ → Ordering) (a : Asking F) : Type 0 where
    pub steady : IsSteady read answer a
    pub rising : IsRising (with_ties sought answer) xs

-- calls that search in the indexes xs; `read` turns an answer into an `Ordering`
module _ {F R : Type 0} (g : Mut F (ℕ × Unit {0}) R) (read : R → Ordering) (xs : List ℕ) where
  -- The search asks at most `limit` times. It returns `Ok` of a position: if the answers are steady, the answer there
  -- is Equal once ties are broken. Or it returns `Err` of a position: if the answers, with ties broken, also rise, that
  -- is where Greater then ends. If `sought` is `None` and `read` never gives Equal, it returns `Err`.
  pub record SearchesWithin (limit : ℕ) (sought : Option ℕ) (old : Asking F) (end : Result ℕ ℕ) (new : Asking F)
      : Type 0 where
    pub asked : AsksWithin g (Askable xs sought) limit old new
    pub found : IfOk end (λ i. i < length xs)
    pub missed : IfErr end (λ i. i ≤ length xs)
    pub itself : IfOk end (λ i. (ix : ℕ) → sought ≡ Some ix → slice_index xs i ≡ ix)
    pub hit : (answer : ℕ → Ordering) → IsSteady g xs sought read answer old →
        IfOk end (λ i. with_ties sought answer (slice_index xs i) ≡ Equal)
    pub place : (answer : ℕ → Ordering) → IsSteadyRising g xs sought read answer old →
        IfErr end (IsPlace (with_ties sought answer) xs)
    pub unequal : sought ≡ None → ((r : R) → read r ≢ Equal) → is_err end ≡ true

  -- the same, with the limit for a search in all of xs
  abbrev pub Searches : Option ℕ → Asking F → Result ℕ ℕ → Asking F → Type 0
  Searches sought old end new = SearchesWithin (bound (length xs)) sought old end new

  -- The search returns a stored index: if the answers are steady, the answer there is Equal. Or it returns `None`: if
  -- the answers also rise, none of them is Equal.
  pub record Finds (old : Asking F) (found : Option ℕ) (new : Asking F) : Type 0 where
    pub asked : SearchAsks g xs None old new
    pub stored : IfSome found (Contains xs)
    pub hit : (answer : ℕ → Ordering) → IsSteady g xs None read answer old → IfSome found (λ ix. answer ix ≡ Equal)
    pub miss : (answer : ℕ → Ordering) → IsSteadyRising g xs None read answer old →
        IsNone found → All (λ ix. answer ix ≢ Equal) xs
