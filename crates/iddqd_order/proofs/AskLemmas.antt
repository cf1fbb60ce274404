-- For callers too. Asks one after another.
use Rattle.iddqd_order.proofs.Names.{◌≡◌, ◌+◌, ◌≤◌, suc, sym, subst, zero-add, ℕ, arith, Ordering, Called, Mut, Asking, closure_of, ask_count, After, At_once, One_more, CanAsk, CanAskAgain, CanAskEach, Steady, AsksWithin, inl, inr, ◌⊎◌, refl}

module _ {F R : Type 0} (g : Mut F (ℕ × Unit {0}) R) (P : ℕ → Type 0) where
  pub After-trans : {n m : ℕ} {a b c : F} → After g P n a b → After g P m b c → After g P (m + n) a c
  After-trans {n = n} {a = a} {c = c} p At_once = subst (λ k. After g P k a c) (sym (zero-add n)) p
  After-trans {n = n} {m = suc m} {a = a} {c = c} p (One_more q h e) =
      subst (λ k. After g P k a c) (shift m n) (One_more (After-trans p q) h e)
    where
      shift : (m n : ℕ) → suc (m + n) ≡ suc m + n
      shift m n = omega arith

  pub CanAsk-later : {n : ℕ} {a b : F} → After g P n a b → CanAsk g P a → CanAsk g P b
  CanAsk-later p h = record { at = λ m f q. h.at _ f (After-trans p q) }

  pub Steady-later :
      {n : ℕ} {read : R → Ordering} {answer : ℕ → Ordering} {a b : F}
      → After g P n a b
      → Steady g P read answer a
      → Steady g P read answer b
  Steady-later p h = record { at = λ m f q. h.at _ f (After-trans p q) }

  -- what may be asked now and again, in two parts
  pub CanAsk-each : {f : F} → CanAsk g P f → CanAskEach g P f
  CanAsk-each can ix h = can.at 0 _ At_once ix h

  pub CanAsk-again : {f : F} → CanAsk g P f → CanAskAgain g P f
  CanAsk-again can ix r f' h e = CanAsk-later (One_more At_once h e) can

  -- the first of some asks, and those after it
  record First (f f' : F) : Type 0 where
    ix : ℕ
    r : R
    next : F
    asked : P ix
    said : Called g f (ix, tt) r next
    n : ℕ
    rest : After g P n next f'

  one_asked :
      {f f' next : F} {ix : ℕ} {r : R} → f ≡ f' → P ix → Called g f' (ix, tt) r next → First f next
  one_asked {f} {f'} {next} {ix} {r} same h e = record {
    ix = ix;
    r = r;
    next = next;
    asked = h;
    said = subst (λ z. Called g z (ix, tt) r next) (sym same) e;
    n = 0;
    rest = At_once;
  }

  first : {n : ℕ} {f f' : F} → After g P n f f' → (f ≡ f') ⊎ First f f'
  first At_once = inl refl
  first (One_more p h e) =
      elim (first p) [
        | inl same ↦ inr (one_asked same h e)
        | inr s ↦ inr (record { ix = s.ix; r = s.r; next = s.next; asked = s.asked; said = s.said; n = _; rest = One_more s.rest h e })
      ]

  -- and from these parts again
  pub CanAsk-parts : {f : F} → CanAskEach g P f → CanAskAgain g P f → CanAsk g P f
  CanAsk-parts {f} each again = record {
    at = λ n f' p ix h.
        elim (first p) [
          | inl same ↦ subst (λ z. g.pre z (ix, tt)) same (each ix h)
          | inr s ↦ (again s.ix s.r s.next s.asked s.said).at s.n f' s.rest ix h
        ];
  }

  -- asks, and further asks after them
  pub asks_then :
      {k l : ℕ} {a b c : Asking F}
      → AsksWithin g P k a b
      → AsksWithin g P l b c
      → AsksWithin g P (k + l) a c
  asks_then p q = record {
    asks = q.asks + p.asks;
    within = (let x = p.within in let y = q.within in omega (arith, x, y));
    after = After-trans p.after q.after;
    counted = (let x = p.counted in let y = q.counted in omega (arith, x, y));
  }

  pub asks_none : (a : Asking F) → AsksWithin g P 0 a a
  asks_none a = record { asks = 0; within = omega arith; after = At_once; counted = omega arith }

  pub asks_more : {k l : ℕ} {a b : Asking F} → k ≤ l → AsksWithin g P k a b → AsksWithin g P l a b
  asks_more h p =
      record { asks = p.asks; within = (let x = p.within in omega (arith, x, h)); after = p.after; counted = p.counted }

  pub asks_one :
      {a b : Asking F} {ix : ℕ} {r : R}
      → P ix
      → Called g (closure_of a) (ix, tt) r (closure_of b)
      → ask_count b ≡ ask_count a + 1
      → AsksWithin g P 1 a b
  asks_one h e c = record { asks = 1; within = omega arith; after = One_more At_once h e; counted = c }

-- what may be asked about all indexes with Q may be asked about those with P, which are fewer
module _ {F R : Type 0} (g : Mut F (ℕ × Unit {0}) R) (P Q : ℕ → Type 0) (wider : (ix : ℕ) → P ix → Q ix) where
  pub After-wider : {n : ℕ} {a b : F} → After g P n a b → After g Q n a b
  After-wider At_once = At_once
  After-wider (One_more p h e) = One_more (After-wider p) (wider _ h) e

  pub CanAsk-fewer : {f : F} → CanAsk g Q f → CanAsk g P f
  CanAsk-fewer c = record { at = λ n f' p ix h. c.at n f' (After-wider p) ix (wider ix h) }

  pub Steady-fewer :
      {read : R → Ordering} {answer : ℕ → Ordering} {f : F}
      → Steady g Q read answer f
      → Steady g P read answer f
  Steady-fewer s = record { at = λ n f' p ix h. s.at n f' (After-wider p) ix (wider ix h) }

  pub asks_wider : {k : ℕ} {a b : Asking F} → AsksWithin g P k a b → AsksWithin g Q k a b
  asks_wider p = record { asks = p.asks; within = p.within; after = After-wider p.after; counted = p.counted }

-- if each call of a closure keeps a property of its state, so do any number of calls
module _
    {F R : Type 0} (g : Mut F (ℕ × Unit {0}) R) (P : ℕ → Type 0) (I : F → Type 0)
    (keeps : (f f' : F) (ix : ℕ) (r : R) → I f → P ix → Called g f (ix, tt) r f' → I f')
  where
    pub After-keeps : {n : ℕ} {a b : F} → I a → After g P n a b → I b
    After-keeps i At_once = i
    After-keeps i (One_more p h e) = keeps _ _ _ _ (After-keeps i p) h e

    pub CanAsk-by : ((f : F) (ix : ℕ) → I f → P ix → g.pre f (ix, tt)) → (f : F) → I f → CanAsk g P f
    CanAsk-by asks f i = record { at = λ n f' p ix h. asks f' ix (After-keeps i p) h }

    pub Steady-by :
        (read : R → Ordering) (answer : ℕ → Ordering)
        → ((f f' : F) (ix : ℕ) (r : R) → I f → P ix → Called g f (ix, tt) r f' → read r ≡ answer ix)
        → (f : F)
        → I f
        → Steady g P read answer f
    Steady-by read answer says f i = record { at = λ n f' p ix h r f'' e. says f' f'' ix r (After-keeps i p) h e }
