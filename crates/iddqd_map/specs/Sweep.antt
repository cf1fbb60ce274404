-- What a call that goes over a selection asks of its closures, and what it leaves. `lists s indexes` says that a
-- selection goes over these indexes of the store s, in this order.
use Rattle.std.specs.Prelude.{◌≡◌, ◌++◌, ℕ, Bool, true, false, not, List, [], ◌∷◌, Option, Some, None, map, filter, Result, Ok, Err, MatchResult}
use Rattle.std.specs.Bool.{MatchBool}
use Rattle.std.specs.Borrow.{Bor}
use Rattle.std.specs.Fn.{Mut, Called, Takes}
use Rattle.std.specs.List.{Contains, FoldsTo}
use Rattle.iddqd.specs.Store.{Store, get}
use Rattle.iddqd_keys.specs.KeyWalk.{pairs_at}
use Rattle.iddqd_keys.specs.Removals.{removed_all}
use Rattle.iddqd_map.specs.Retain.{AsksInTurn, removed_of}
use Rattle.iddqd_map.specs.declared.verdict.Verdict.{Verdict}
use Rattle.iddqd_map.specs.declared.verdict.Verdict.TheVariants.{Keep, Remove, Stop}

-- A closure with an index and a `&` to its item: it may be called at this pair; and what such a call may answer and
-- leave of the closure.
abbrev pub TakesPairAt : {F T R : Type 0} → Mut F (ℕ × (Bor T × Unit {0})) R → F → ℕ × T → Type 0
TakesPairAt {F} {T} g f pair = (shown : Bor T) → shown.now ≡ pair.1 → Takes g f (pair.0, (shown, tt))

pub record CalledPairAt
    {F T R : Type 0} (g : Mut F (ℕ × (Bor T × Unit {0})) R) (f : F) (pair : ℕ × T) (r : R) (f' : F)
    : Type 0 where
  pub shown : Bor T
  pub shows : shown.now ≡ pair.1
  pub called : Called g f (pair.0, (shown, tt)) r f'

-- the same of a closure with an index and its item by value
abbrev pub TakesPair : {F T : Type 0} → Mut F (ℕ × (T × Unit {0})) (Unit {0}) → F → ℕ × T → Type 0
TakesPair g f pair = Takes g f (pair.0, (pair.1, tt))

abbrev pub GivesPair : {F T : Type 0} → Mut F (ℕ × (T × Unit {0})) (Unit {0}) → F → ℕ × T → F → Type 0
GivesPair g f pair f' = Called g f (pair.0, (pair.1, tt)) tt f'

-- `takes p x` says that the closure in the state p may be called at the pair x, and `ask p x b q` that it may then
-- answer b and be in the state q
module _
    {F T : Type 0} (lists : Store T → List ℕ → Type 0) (takes : F → ℕ × T → Type 0)
    (ask : F → ℕ × T → Bool → F → Type 0)
  where
    -- the closure may be called on the pairs of the selection in turn, once on each, whatever it answers
    pub record AsksAlong (f : F) (s : Store T) : Type 0 where
      pub at : (indexes : List ℕ) → lists s indexes → AsksInTurn takes ask f (pairs_at s indexes)

    -- equivalent to `AsksAlong`, and in the form of `MayAsk` for the same reason
    abbrev pub MayAskAlong : F → Store T → Type 0
    MayAskAlong f s = (((p : F) (x : ℕ × T) → takes p x) → AsksAlong f s) → AsksAlong f s

module _
    {G T : Type 0} (takes : G → ℕ × T → Type 0) (give : G → ℕ × T → G → Type 0)
  where
    -- the closure may be called with some of these pairs in turn, whichever they are
    abbrev pub TakesSome : G → List (ℕ × T) → Type 0
    TakesSome g [] = Unit {0}
    TakesSome g (pair ∷ rest) =
        takes g pair × ((g' : G) → give g pair g' → TakesSome g' rest) × TakesSome g rest

-- `g` has the calls of a closure that takes an index and its item
module _ {G T : Type 0} (lists : Store T → List ℕ → Type 0) (g : Mut G (ℕ × (T × Unit {0})) (Unit {0})) where
  -- the closure may be called with each of the pairs of the selection in turn
  abbrev pub MayGiveAlong : G → Store T → Type 0
  MayGiveAlong gone s = MayAskAlong lists (TakesPair g) (λ p x (b : Bool) q. GivesPair g p x q) gone s

  -- the closure may be called with some of the pairs of the selection in turn
  pub record TakesSomeAlong (gone : G) (s : Store T) : Type 0 where
    pub at : (indexes : List ℕ) → lists s indexes → TakesSome (TakesPair g) (GivesPair g) gone (pairs_at s indexes)

  -- equivalent to `TakesSomeAlong`, and in the form of `MayAsk` for the same reason
  abbrev pub MayGiveSomeAlong : G → Store T → Type 0
  MayGiveSomeAlong gone s = (((p : G) (x : ℕ × T) → TakesPair g p x) → TakesSomeAlong gone s) → TakesSomeAlong gone s

abbrev pub removes : Verdict → Bool
removes Keep = false
removes Remove = true
removes Stop = false

abbrev pub stops : Verdict → Bool
stops Keep = false
stops Remove = false
stops Stop = true

-- how an answer of `retain_in` reads, and one of `try_retain_in`
abbrev pub kept_if : Bool → Verdict
kept_if true = Keep
kept_if false = Remove

abbrev pub kept_if_ok : {E : Type 0} → Result Bool E → Verdict
kept_if_ok (Ok kept) = kept_if kept
kept_if_ok (Err e) = Stop

-- how an answer of `sweep` reads
abbrev pub reads_itself : Verdict → Verdict
reads_itself verdict = verdict

-- what must hold after a verdict: one thing where the item is kept, another where it is removed
abbrev pub AfterVerdict : Verdict → Type 0 → Type 0 → Type 0
AfterVerdict Keep if_kept if_removed = if_kept
AfterVerdict Remove if_kept if_removed = if_removed
AfterVerdict Stop if_kept if_removed = Unit {0}

-- `ask p x a q`: called at the pair x in the state p, a closure may answer a and be in the state q; `reads` is how an
-- answer reads. This says the same, and that the call goes on.
abbrev pub goes_on :
    {F T A : Type 0} → (A → Verdict) → (F → ℕ × T → A → F → Type 0) → F → ℕ × T → Bool → F → Type 0
goes_on {A = A} reads ask p x b q = (a : A) × ask p x a q × (stops (reads a) ≡ false)

-- `takes` and `ask` are as above, of a first closure; of a second, `accepts p x` says that it may be called with the
-- pair x in the state p, and `give p x q` that it is then in the state q
module _
    {F G T A : Type 0} (takes : F → ℕ × T → Type 0) (ask : F → ℕ × T → A → F → Type 0) (reads : A → Verdict)
    (accepts : G → ℕ × T → Type 0) (give : G → ℕ × T → G → Type 0)
  where
    -- the first may be called at this pair, and the second with it if the first answers `Remove`
    abbrev pub CanVisit : F → G → ℕ × T → Type 0
    CanVisit f gone pair =
        takes f pair × ((a : A) (f' : F) → ask f pair a f' → removes (reads a) ≡ true → accepts gone pair)

    -- so on all these pairs in turn, until the first answers `Stop`
    abbrev pub CanSweep : F → G → List (ℕ × T) → Type 0
    CanSweep f gone [] = Unit {0}
    CanSweep f gone (pair ∷ rest) =
        takes f pair
        × ((a : A) (f' : F) → ask f pair a f' → AfterVerdict (reads a) (CanSweep f' gone rest)
        (accepts gone pair × ((gone' : G) → give gone pair gone' → CanSweep f' gone' rest)))

    pub record CanSweepAlong (lists : Store T → List ℕ → Type 0) (f : F) (gone : G) (s : Store T) : Type 0 where
      pub at : (indexes : List ℕ) → lists s indexes → CanSweep f gone (pairs_at s indexes)

-- `asks` are calls of a closure: an index with its item, and the answer; `reads` is how an answer reads
module _ {A T : Type 0} (reads : A → Verdict) where
  -- the pairs that were removed
  abbrev pub pairs_removed : List ((ℕ × T) × A) → List (ℕ × T)
  pairs_removed asks = map (λ a. a.0) (filter (λ a. removes (reads a.1)) asks)

  -- No answer but the last stops the call. If none does, no pair is left unasked; else `stopped` is the index and the
  -- answer.
  abbrev pub EndsAt : List ((ℕ × T) × A) → List (ℕ × T) → Option (ℕ × A) → Type 0
  EndsAt [] unasked stopped = (unasked ≡ []) × (stopped ≡ None)
  EndsAt (a ∷ asks) unasked stopped =
      MatchBool (stops (reads a.1)) ((asks ≡ []) × (stopped ≡ Some (a.0.0, a.1))) (EndsAt asks unasked stopped)

-- `ask p x a q`: called at the pair x in the state p, the first closure may answer a and be in the state q; `reads` is
-- how an answer reads. `give p x q`: a call of the second with the pair x in the state p may leave the state q.
module _
    {F G T A : Type 0} (ask : F → ℕ × T → A → F → Type 0) (reads : A → Verdict) (give : G → ℕ × T → G → Type 0)
  where
    -- The first closure was called on these indexes with their items in turn, until it answered `Stop` or had seen all.
    -- Those at which it answered `Remove` were removed, in the order of the calls, and the second was called with each
    -- of them in that order. All others stay under their indexes.
    pub record Sweeps
        (indexes : List ℕ) (f : F) (gone : G) (old new : Store T) (last : F) (last_gone : G) (stopped : Option (ℕ × A))
        : Type 0 where
      pub asks : List ((ℕ × T) × A)
      pub unasked : List (ℕ × T)
      pub in_order : map (λ a. a.0) asks ++ unasked ≡ pairs_at old indexes
      pub ends : EndsAt reads asks unasked stopped
      pub were_asked : FoldsTo (λ p a q. ask p a.0 a.1 q) f asks last
      pub given : FoldsTo give gone (pairs_removed reads asks) last_gone
      pub left : new ≡ removed_all old (map (λ p. p.0) (pairs_removed reads asks))

    -- the same of a selection, for a call that returns neither closure
    pub record SweepsAlong
        (lists : Store T → List ℕ → Type 0) (f : F) (gone : G) (old new : Store T) (stopped : Option (ℕ × A))
        : Type 0 where
      pub indexes : List ℕ
      pub listed : lists old indexes
      pub last : F
      pub last_gone : G
      pub swept : Sweeps indexes f gone old new last last_gone stopped

-- the same of a first closure that answers a verdict, and a second one that takes an index and its item
abbrev pub SweepsBy :
    {F G T : Type 0} → Mut F (ℕ × (Bor T × Unit {0})) Verdict → Mut G (ℕ × (T × Unit {0})) (Unit {0})
    → (Store T → List ℕ → Type 0) → F → G → Store T → Store T → Option (ℕ × Verdict) → Type 0
SweepsBy f g = SweepsAlong (CalledPairAt f) reads_itself (GivesPair g)

-- `ask p x b q`: called at the pair x in the state p, the closure may answer b and be in the state q
module _ {F T : Type 0} (lists : Store T → List ℕ → Type 0) (ask : F → ℕ × T → Bool → F → Type 0) where
  -- f was called once at each pair of the selection, in its order, each time in the state that the call before left;
  -- `last` is the state after the last call. The items at which it answered false were removed, in the order of the
  -- calls. All others stay under their indexes.
  pub record RetainsSelected (f : F) (old new : Store T) (last : F) : Type 0 where
    pub indexes : List ℕ
    pub listed : lists old indexes
    pub asks : List ((ℕ × T) × Bool)
    pub each_once : map (λ a. a.0) asks ≡ pairs_at old indexes
    pub were_asked : FoldsTo (λ p a q. ask p a.0 a.1 q) f asks last
    pub gone : (ix : ℕ) → Contains (removed_of asks) ix → get new ix ≡ None
    pub others : (ix : ℕ) → (Contains (removed_of asks) ix → ⊥) → get new ix ≡ get old ix
    pub left : new ≡ removed_all old (removed_of asks)

  -- `give p x q` says that a call of the second closure with the pair x in the state p may leave the state q. The first
  -- was called once at each pair of the selection, in its order. Those at which it answered false were removed, and the
  -- second was called with each of them, in the same order.
  pub record GivesRejected
      {G : Type 0} (give : G → ℕ × T → G → Type 0) (f : F) (gone : G) (old new : Store T)
      : Type 0 where
    pub indexes : List ℕ
    pub listed : lists old indexes
    pub asks : List ((ℕ × T) × Bool)
    pub each_once : map (λ a. a.0) asks ≡ pairs_at old indexes
    pub last : F
    pub were_asked : FoldsTo (λ p a q. ask p a.0 a.1 q) f asks last
    pub last_gone : G
    pub given : FoldsTo give gone (map (λ a. a.0) (filter (λ a. not a.1) asks)) last_gone
    pub left : new ≡ removed_all old (removed_of asks)

-- `give p x q` says that a call of f with the pair x in the state p may leave the state q
module _ {F T : Type 0} (lists : Store T → List ℕ → Type 0) (give : F → ℕ × T → F → Type 0) where
  -- The items of the selection were removed, and f was called with each under its index, in the order of the selection,
  -- each time in the state that the call before left.
  pub record RemovesSelected (f : F) (old new : Store T) (last : F) : Type 0 where
    pub indexes : List ℕ
    pub listed : lists old indexes
    pub given : FoldsTo give f (pairs_at old indexes) last
    pub left : new ≡ removed_all old indexes

-- of a closure that may fail: `ask p x r q` says that, called at the pair x in the state p, it may return r and be in
-- the state q
module _
    {F T E : Type 0} (lists : Store T → List ℕ → Type 0) (ask : F → ℕ × T → Result Bool E → F → Type 0)
  where
    -- how the calls end that left the state `before`: with all pairs, or with an error of the call at the next pair
    abbrev pub EndsRetain :
        {C : Type 0} → List (ℕ × T) → List (ℕ × T) → F → Result C E → F → Type 0
    EndsRetain asked pairs before (Ok count) last = (asked ≡ pairs) × (last ≡ before)
    EndsRetain asked pairs before (Err e) last =
        (pair : ℕ × T) × (unasked : List (ℕ × T)) × (asked ++ pair ∷ unasked ≡ pairs) × ask before pair (Err e) last

    -- f was called once at each pair of the selection, in its order, up to its first error. Those at which it returned
    -- `Ok(false)` were removed, in the order of the calls. All others stay under their indexes.
    pub record RetainsUntil {C : Type 0} (f : F) (old new : Store T) (result : Result C E) (last : F) : Type 0 where
      pub indexes : List ℕ
      pub listed : lists old indexes
      pub asks : List ((ℕ × T) × Bool)
      pub before : F
      pub were_asked : FoldsTo (λ p a q. ask p a.0 (Ok a.1) q) f asks before
      pub ends : EndsRetain (map (λ a. a.0) asks) (pairs_at old indexes) before result last
      pub gone : (ix : ℕ) → Contains (removed_of asks) ix → get new ix ≡ None
      pub others : (ix : ℕ) → (Contains (removed_of asks) ix → ⊥) → get new ix ≡ get old ix
      pub left : new ≡ removed_all old (removed_of asks)
