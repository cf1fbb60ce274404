-- Asks of a closure. Each is about one value, and the closure answers true or false.
use Rattle.std.specs.Prelude.{◌≡◌, map, filter, ℕ, Bool, true, false, List, [], ◌∷◌, ◌++◌, Option, Some, None}
use Rattle.std.specs.List.{Contains, FoldsTo}
use Rattle.std.specs.List.Sorted.{IsPermutation}

-- The closure may be asked in the state f about each of the values xs; `takes` is as below. This and `CanAskAgain` make
-- `CanAsk`.
abbrev pub CanAskEach : {F T : Type 0} → (F → T → Type 0) → F → List T → Type 0
CanAskEach takes f xs = (x : _) → Contains xs x → takes f x

-- `takes p x` says that the closure in the state p may be asked about x, and `ask p x b q` that it may then answer b
-- and be in the state q
module _ {F T : Type 0} (takes : F → T → Type 0) (ask : F → T → Bool → F → Type 0) where
  -- From the state f on the closure may be asked about these values in turn, up to the first that isn't among xs. This
  -- holds whatever it answers.
  abbrev pub CanAskInTurn : F → List T → List T → Type 0
  CanAskInTurn f xs [] = Unit {0}
  CanAskInTurn f xs (y ∷ ys) =
      Contains xs y → takes f y × ((b : Bool) (f' : F) → ask f y b f' → CanAskInTurn f' xs ys)

  -- from the state f on the closure may be asked about values among xs, in any order and any number of times
  pub record CanAsk (f : F) (xs : List T) : Type 0 where
    pub at : (ys : List T) → CanAskInTurn f xs ys

  -- once the closure was asked in the state f about one of the values xs, it may be asked about them again
  abbrev pub CanAskAgain : F → List T → Type 0
  CanAskAgain f xs = (x : T) (b : Bool) (f' : F) → Contains xs x → ask f x b f' → CanAsk f' xs

-- `ask p x b q` says that the closure, asked about x in the state p, may answer b and then be in the state q
module _ {F T : Type 0} (ask : F → T → Bool → F → Type 0) where
  -- the closure was asked about each of these values in turn, and answered false each time; `last` is its state then
  abbrev pub AllRefused : F → List T → F → Type 0
  AllRefused f asked last = FoldsTo (λ p x q. ask p x false q) f asked last

  -- The closure was asked about some of the values xs, about none twice. It answered true about the last, v, and false
  -- about the others.
  pub record Hits (f : F) (xs : List T) (v : T) : Type 0 where
    pub refused : List T
    pub unasked : List T
    pub each_once : IsPermutation xs (refused ++ v ∷ unasked)
    pub before : F
    pub were_refused : AllRefused f refused before
    pub last : F
    pub accepted : ask before v true last

  -- the closure was asked once about each of the values xs, and answered false each time
  pub record Misses (f : F) (xs : List T) : Type 0 where
    pub asked : List T
    pub each_once : IsPermutation xs asked
    pub last : F
    pub were_refused : AllRefused f asked last

  -- a look-up among xs, the values under a hash, hit the value of this pair
  pub record HitsPair (f : F) (hash : ℕ) (xs : List T) (pair : Option (ℕ × T)) : Type 0 where
    pub value : T
    pub is_pair : pair ≡ Some (hash, value)
    pub hit : Hits f xs value

  -- what a look-up that answers a place found; `pair_in` gives the pair at each place
  abbrev pub FindsPlace : F → ℕ → List T → (ℕ → Option (ℕ × T)) → Option ℕ → Type 0
  FindsPlace f hash xs pair_in None = Misses f xs
  FindsPlace f hash xs pair_in (Some place) = HitsPair f hash xs (pair_in place)

  -- what a look-up among the values xs found, by a closure in the state f
  abbrev pub LooksUp : F → List T → Option T → Type 0
  LooksUp f xs (Some v) = Hits f xs v
  LooksUp f xs None = Misses f xs

  -- From the state f on the closure was asked once about the value of each old pair, and `last` is its state then. The
  -- new pairs are those about which it answered true.
  pub record RetainsPairsTo (f : F) (old new : List (ℕ × T)) (last : F) : Type 0 where
    pub asks : List ((ℕ × T) × Bool)
    pub each_once : IsPermutation old (map (λ a. a.0) asks)
    pub were_asked : FoldsTo (λ p a q. ask p a.0.1 a.1 q) f asks last
    pub kept : IsPermutation (map (λ a. a.0) (filter (λ a. a.1) asks)) new

  -- the same, if the last state of the closure doesn't matter
  pub record RetainsPairs (f : F) (old new : List (ℕ × T)) : Type 0 where
    pub last : F
    pub kept : RetainsPairsTo f old new last
