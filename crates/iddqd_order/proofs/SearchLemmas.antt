-- For callers too. A search by halves through answers that rise, and what its end says.
use Rattle.iddqd_order.proofs.Names.{◌≡◌, ◌≢◌, ◌∙◌, ℕ, ◌+◌, ◌<◌, ◌≤◌, List, Option, Some, None, length, get_or, Contains, refl, ap, subst, All, arith, below_more, inl, inr, Result, Ok, Err, is_ok, true, nat_tests, get_or_default, cases_lt, Ordering, Less, Equal, Greater, Mut, Asking, Askable, with_ties, IsRising, IsPlace, IsSteadyRising, Searches, SearchesWithin, Finds, index_at, true≢false}
use Rattle.iddqd_order.proofs.AskLemmas.{asks_more}
use Rattle.iddqd_order.proofs.IndexListLemmas.{Contains-at}

-- what may be asked: any stored index if none is sought, and else any other than that
pub Askable-any :
    (xs : List ℕ) (sought : Option ℕ) (at : ℕ)
    → sought ≡ None
    → Contains xs at
    → Askable xs sought at
Askable-any xs None at none h = h
Askable-any xs (Some ix) at none h = absurd cc

pub Askable-apart :
    (xs : List ℕ) (sought : Option ℕ) (at ix : ℕ)
    → sought ≡ Some ix
    → at ≢ ix
    → Contains xs at
    → Askable xs sought at
Askable-apart xs None at ix some n h = h
Askable-apart xs (Some is) at ix some n h = (h, λ e. n (let same : is ≡ ix = cc in e ∙ same))

-- where nothing is sought, no index is
pub none-sought : {A : Type 0} (ix : ℕ) → None ≡ Some ix → A
none-sought ix e = absurd cc

-- before low all answers are Greater, and from high on Less
pub record AreSplit (answer : ℕ → Ordering) (xs : List ℕ) (low high : ℕ) : Type 0 where
  pub greater : (k : ℕ) → k < low → answer (get_or xs k 0) ≡ Greater
  pub less : (k : ℕ) → high ≤ k → k < length xs → answer (get_or xs k 0) ≡ Less

pub split-init : (a : ℕ → Ordering) (xs : List ℕ) → AreSplit a xs 0 (length xs)
split-init a xs = record { greater = λ k h. absurd (omega arith); less = λ k h h'. absurd (omega arith) }

module _ {a : ℕ → Ordering} {xs : List ℕ} {low high : ℕ} where
  pub IsPlace-from_split : low ≤ high → high ≤ low → high ≤ length xs → AreSplit a xs low high → IsPlace a xs low
  IsPlace-from_split le ge within s =
      record {
        within = omega arith;
        greater_before = s.greater;
        less_from = λ k at_least lt. s.less k (omega arith) lt;
      }

  pub split-less :
      {middle : ℕ}
      → IsRising a xs
      → middle < length xs
      → AreSplit a xs low high
      → a (get_or xs middle 0) ≡ Less
      → AreSplit a xs low middle
  split-less {middle = middle} rising within s e = record {
    greater = s.greater;
    less = λ k h h'. elim (cases_lt middle k) [ inl lt ↦ rising.less_after middle k lt h' e | inr le ↦ (let same : middle ≡ k = omega arith in subst (λ i. a (get_or xs i 0) ≡ Less) same e) ];
  }

  pub split-greater :
      {middle : ℕ}
      → IsRising a xs
      → middle < length xs
      → AreSplit a xs low high
      → a (get_or xs middle 0) ≡ Greater
      → AreSplit a xs (middle + 1) high
  split-greater {middle = middle} rising within s e =
      record { greater = below_more _ _ (λ k h. rising.greater_before k middle h within e) e; less = s.less }

-- where the answers are Greater before a place and Less from it on, none is Equal
pub none_at_place : (a : ℕ → Ordering) (xs : List ℕ) (i : ℕ) → IsPlace a xs i → All (λ ix. a ix ≢ Equal) xs
none_at_place a xs i p k d lt e =
    let here : a (get_or xs k 0) ≡ Equal = ap a (get_or_default xs k 0 d lt) ∙ e in
    elim (cases_lt k i) [
      | inl low ↦ (let g = p.greater_before k low in cc)
      | inr high ↦ (let l = p.less_from k high lt in cc)
    ]

with_ties-itself : (answer : ℕ → Ordering) (ix : ℕ) → with_ties (Some ix) answer ix ≡ Equal
with_ties-itself answer ix = grind (arith, nat_tests)

-- what is sought by its index isn't missed where answers rise
pub not_missed :
    (answer : ℕ → Ordering) (xs : List ℕ) (ix i : ℕ)
    → IsPlace (with_ties (Some ix) answer) xs i
    → Contains xs ix
    → ⊥
not_missed answer xs ix i p held =
    none_at_place (with_ties (Some ix) answer) xs i p held.0 ix held.1
    (ap (with_ties (Some ix) answer) held.2 ∙ with_ties-itself answer ix)

-- so a search for a stored index meets it where the answers rise
pub met_where_stored :
    {F R : Type 0} {g : Mut F (ℕ × Unit {0}) R} {read : R → Ordering} {xs : List ℕ} {ix : ℕ} {old new : Asking F}
    (end : Result ℕ ℕ) (answer : ℕ → Ordering)
    → Searches g read xs (Some ix) old end new
    → IsSteadyRising g xs (Some ix) read answer old
    → Contains xs ix
    → is_ok end ≡ true
met_where_stored (Ok i) answer searches rises held = refl
met_where_stored {xs = xs} {ix = ix} (Err i) answer searches rises held =
    absurd (not_missed answer xs ix i (searches.place answer rises) held)

-- what is searched with at most k asks is searched with at most l, if l is no less
module _ {F R : Type 0} (g : Mut F (ℕ × Unit {0}) R) (read : R → Ordering) (sought : Option ℕ) where
  pub SearchesWithin-more :
      {xs : List ℕ} {k l : ℕ} {old new : Asking F} {end : Result ℕ ℕ}
      → k ≤ l
      → SearchesWithin g read xs k sought old end new
      → SearchesWithin g read xs l sought old end new
  SearchesWithin-more {xs = xs} le s = record {
    asked = asks_more g (Askable xs sought) le s.asked;
    found = s.found;
    missed = s.missed;
    itself = s.itself;
    hit = s.hit;
    place = s.place;
    unequal = s.unequal;
  }

-- a find returns the index at which its search ends, or none if it ends in a gap
pub Finds-from_searches :
    {F R : Type 0} (g : Mut F (ℕ × Unit {0}) R) (read : R → Ordering) (xs : List ℕ) (end : Result ℕ ℕ)
    (found : Option ℕ) (a b : Asking F)
    → Searches g read xs None a end b
    → found ≡ index_at xs end
    → Finds g read xs a found b
Finds-from_searches g read xs (Ok i) found a b s e = rw e (record {
  asked = s.asked;
  stored = Contains-at xs i _ s.found refl;
  hit = s.hit;
  miss = λ answer steady none. absurd (true≢false none);
})
Finds-from_searches g read xs (Err i) found a b s e = rw e (record {
  asked = s.asked;
  stored = tt;
  hit = s.hit;
  miss = λ answer steady none. none_at_place answer xs i (s.place answer steady);
})
