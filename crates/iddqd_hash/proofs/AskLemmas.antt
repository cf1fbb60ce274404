-- For callers of look-ups and of `retain`: that a closure may be asked, and what a look-up says where its answers are a
-- function of the value.
use Rattle.std.proofs.Common.{zero, suc, ◌||◌, Option, is_some, ◌≡◌, ℕ, ◌<◌, Bool, true, false, List, [], ◌∷◌, length, get_or, Some, None, refl, sym, subst, ◌∙◌, arith, Contains}
use Rattle.std.specs.List.{list_any}
use Rattle.std.proofs.lemmas.List.Elements.{Contains-append_left, Contains-append_right}
use Rattle.std.proofs.lemmas.List.Sorted.{IsPermutation-sym, Contains-permutation, list_any-IsPermutation}
use Rattle.iddqd_hash.specs.Asks.{CanAsk, CanAskEach, CanAskAgain, CanAskInTurn, AllRefused, Hits, Misses, LooksUp}

module _ {F T : Type 0} (takes : F → T → Type 0) (ask : F → T → Bool → F → Type 0) where
  pub CanAsk-takes : (f : F) (xs : List T) (x : T) → CanAsk takes ask f xs → Contains xs x → takes f x
  CanAsk-takes f xs x can here = (can.at (x ∷ []) here).0

  pub CanAsk-asked :
      (f : F) (xs : List T) (x : T) (r : Bool) (f' : F)
      → CanAsk takes ask f xs
      → Contains xs x
      → ask f x r f'
      → CanAsk takes ask f' xs
  CanAsk-asked f xs x r f' can here called = record { at = λ ys. (can.at (x ∷ ys) here).1 r f' called }

  pub CanAsk-joined : (f : F) (xs : List T) → CanAskEach takes f xs → CanAskAgain takes ask f xs → CanAsk takes ask f xs
  CanAsk-joined f xs each again = record { at = in_turn }
    where
      in_turn : (ys : List T) → CanAskInTurn takes ask f xs ys
      in_turn [] = tt
      in_turn (y ∷ ys) = λ here. (each y here, λ r f' called. (again y r f' here called).at ys)

  pub CanAsk-by :
      (I : F → Type 0) (xs : List T)
      → ((s : F) (x : T) → Contains xs x → I s → takes s x)
      → ((s : F) (x : T) (r : Bool) (t : F) → Contains xs x → I s → ask s x r t → I t)
      → (f : F)
      → I f
      → CanAsk takes ask f xs
  CanAsk-by I xs asks keeps f i = record { at = λ ys. in_turn ys f i }
    where
      in_turn : (ys : List T) (f : F) → I f → CanAskInTurn takes ask f xs ys
      in_turn [] f i = tt
      in_turn (y ∷ ys) f i = λ here. (asks f y here i, λ r t called. in_turn ys t (keeps f y r t here i called))

  pub CanAskAgain-by :
      (I : F → Type 0) (xs : List T)
      → ((s : F) (x : T) → Contains xs x → I s → takes s x)
      → ((s : F) (x : T) (r : Bool) (t : F) → Contains xs x → I s → ask s x r t → I t)
      → (f : F)
      → I f
      → CanAskAgain takes ask f xs
  CanAskAgain-by I xs asks keeps f i = λ x b f' here called. CanAsk-by I xs asks keeps f' (keeps f x b f' here i called)

  pub CanAsk-everywhere : (f : F) (xs : List T) → ((s : F) (x : T) → takes s x) → CanAsk takes ask f xs
  CanAsk-everywhere f xs asks = CanAsk-by (λ s. Unit {0}) xs (λ s x here i. asks s x) (λ s x r t here i called. tt) f tt

pub or_true : (a : Bool) → (a || true) ≡ true
or_true true = refl
or_true false = refl

list_any-at :
    {X : Type 0} (test : X → Bool) (xs : List X) (x : X) (k : ℕ)
    → k < length xs
    → get_or xs k x ≡ x
    → test x ≡ true
    → list_any test xs ≡ true
list_any-at test [] x k within is passes = absurd (omega arith)
list_any-at test (y ∷ xs) x zero within is passes = rw (is, passes) refl
list_any-at test (y ∷ xs) x (suc k) within is passes =
    rw (list_any-at test xs x k (omega arith) is passes) (or_true (test y))

pub list_any-passed :
    {X : Type 0} (test : X → Bool) (xs : List X) (x : X)
    → Contains xs x
    → test x ≡ true
    → list_any test xs ≡ true
list_any-passed test xs x here = list_any-at test xs x here.0 here.1 here.2

-- Where each answer on the values xs is a function of the value, in every state that asks lead to, a look-up is a
-- search for a value that passes the test.
module _
    {F T : Type 0} (ask : F → T → Bool → F → Type 0) (I : F → Type 0) (test : T → Bool) (xs : List T)
    (says : (s : F) (x : T) (b : Bool) (t : F) → Contains xs x → I s → ask s x b t → (b ≡ test x) × I t)
  where
    AllRefused-tested :
        (f : F) (ys : List T) (last : F)
        → ((x : T) → Contains ys x → Contains xs x)
        → I f
        → AllRefused ask f ys last
        → (list_any test ys ≡ false) × I last
    AllRefused-tested f [] last among i same = (refl, subst I same i)
    AllRefused-tested f (y ∷ ys) last among i asks =
        let one = says f y false asks.0 (among y (0, omega arith, refl)) i asks.1 in
        let rest =
        AllRefused-tested asks.0 ys last (λ x here. among x (Contains-append_right (y ∷ []) ys x here)) one.1 asks.2 in
        (rw (← one.0) rest.0, rest.1)

    pub Misses-tested : (f : F) → I f → Misses ask f xs → list_any test xs ≡ false
    Misses-tested f i miss =
        let among =
        λ (x : T) (here : Contains miss.asked x). Contains-permutation _ _ x (IsPermutation-sym _ _ miss.each_once) here in
        list_any-IsPermutation test _ _ miss.each_once
        ∙ (AllRefused-tested f miss.asked miss.last among i miss.were_refused).0

    pub Hits-tested : (f : F) (v : T) → I f → Hits ask f xs v → Contains xs v × (test v ≡ true)
    Hits-tested f v i hit =
        let back = IsPermutation-sym _ _ hit.each_once in
        let among =
        λ (x : T) (here : Contains hit.refused x). Contains-permutation _ _ x back (Contains-append_left hit.refused _ x here) in
        let at = (AllRefused-tested f hit.refused hit.before among i hit.were_refused).1 in
        let here = Contains-permutation _ _ v back (Contains-append_right hit.refused _ v (0, omega arith, refl)) in
        (here, sym (says hit.before v true hit.last here at hit.accepted).0)

    pub LooksUp-tested : (f : F) (r : Option T) → I f → LooksUp ask f xs r → is_some r ≡ list_any test xs
    LooksUp-tested f None i miss = sym (Misses-tested f i miss)
    LooksUp-tested f (Some v) i hit =
        let found = Hits-tested f v i hit in
        sym (list_any-passed test xs v found.0 found.1)
