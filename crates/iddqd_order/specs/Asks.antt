-- The asks of an `Asking`: the states that they lead to, and their answers.
use Rattle.std.specs.Prelude.{◌≡◌, ℕ, suc, ◌+◌, ◌≤◌}
use Rattle.std.specs.declared.cmp.Ordering.{Ordering}
use Rattle.std.specs.Fn.{Called, Mut}
use Rattle.iddqd_order.specs.declared.btree_table.asking.Asking.{Asking}
use Rattle.iddqd_order.specs.Asking.{closure_of, ask_count}

-- g has the calls of the closure, and P holds of the indexes that it is asked about
module _ {F R : Type 0} (g : Mut F (ℕ × Unit {0}) R) (P : ℕ → Type 0) where
  -- n asks lead from one state of the closure to another
  pub data After : ℕ → F → F → Type 0 where
    At_once : {f : F} → After 0 f f
    One_more : {n : ℕ} {f f' f'' : F} {ix : ℕ} {r : R} →
        After n f f' → P ix → Called g f' (ix, tt) r f'' → After (suc n) f f''

  -- the closure may be asked about each index with P, in every state that its own asks leave
  pub record CanAsk (f : F) : Type 0 where
    pub at : (n : ℕ) (f' : F) → After n f f' → (ix : ℕ) → P ix → g.pre f' (ix, tt)

  -- the same in two parts: the closure may be asked about each index with P
  abbrev pub CanAskEach : F → Type 0
  CanAskEach f = (ix : ℕ) → P ix → g.pre f (ix, tt)

  -- and after any such ask it may be asked again
  abbrev pub CanAskAgain : F → Type 0
  CanAskAgain f = (ix : ℕ) (r : R) (f' : F) → P ix → Called g f (ix, tt) r f' → CanAsk f'

  -- the answers, as `read` turns them into `Ordering`s, are one function of the index, in every state that the
  -- closure's own asks leave
  pub record Steady (read : R → Ordering) (answer : ℕ → Ordering) (f : F) : Type 0 where
    pub at : (n : ℕ) (f' : F) → After n f f' → (ix : ℕ) → P ix →
        (r : R) (f'' : F) → Called g f' (ix, tt) r f'' → read r ≡ answer ix

  -- at most `limit` asks lead from the old asking to the new one, and each of them is counted
  pub record AsksWithin (limit : ℕ) (old new : Asking F) : Type 0 where
    pub asks : ℕ
    pub within : asks ≤ limit
    pub after : After asks (closure_of old) (closure_of new)
    pub counted : ask_count new ≡ ask_count old + asks
