-- Walks between places, which are found by answers of which none is Equal.
use Rattle.iddqd_order.proofs.Names.{◌≡◌, ◌≢◌, ◌↔◌, ℕ, ◌-◌, ◌≤◌, List, [], length, drop, take, slice_index, refl, ap, Option, Bool, arith, None, Err, length-drop, take_all, Ordering, Less, Equal, Greater, ordering_then, Mut, Asking, AsksWithin, Askable, IsTrue, IsRising, IsSteadyRising, Searches, SearchesWithin, Node, IsTree, in_order, Steps, Stands, gap_of, next_behind, part, false, Back, Front}
use Rattle.std.specs.Iterator.{YieldsFirst, YieldsLast}
use Rattle.std.specs.declared.ops.Bound.{Bound}
use Rattle.std.specs.declared.ops.Bound.TheVariants.{Included, Excluded, Unbounded}
use Rattle.iddqd_order.specs.Descent.{walk_asks}
use Rattle.iddqd_order.specs.declared.btree_table.cursor.Cursor.{Cursor}
use Rattle.iddqd_order.specs.Range.{Ends, EndsAt, IsBoundBy}
use Rattle.iddqd_order.specs.Search.{SearchAsks}
use Rattle.iddqd_order.proofs.AskLemmas.{Steady-later}
use Rattle.iddqd_order.proofs.CursorLemmas.{left-ahead, left-back, left-length}
use Rattle.iddqd_order.proofs.PartLemmas.{SearchesWithin-more}
use Rattle.iddqd_order.proofs.ReckoningLemmas.{reckoning-tree}

-- where Equal counts as another answer
pub never-equal : (e o : Ordering) → e ≢ Equal → ordering_then o e ≢ Equal
never-equal e Less ne = λ z. cc
never-equal e Equal ne = ne
never-equal e Greater ne = λ z. cc

pub less-unequal : Less ≢ Equal
less-unequal e = cc

pub greater-unequal : Greater ≢ Equal
greater-unequal e = cc

rises-counted :
    (e : Ordering)
    → e ≢ Equal
    → (answer : ℕ → Ordering) (xs : List ℕ)
    → IsRising answer xs
    → IsRising (λ ix. ordering_then (answer ix) e) xs
rises-counted e ne answer xs r = record {
  greater_before = λ i j lt within g. greater e ne (answer (slice_index xs i)) (answer (slice_index xs j)) (r.greater_before i j lt within) (r.less_after i j lt within) g;
  less_after = λ i j lt within s. less e ne (answer (slice_index xs i)) (answer (slice_index xs j)) (r.greater_before i j lt within) (r.less_after i j lt within) s;
}
  where
    greater :
        (e : Ordering)
        → e ≢ Equal
        → (a b : Ordering)
        → (b ≡ Greater → a ≡ Greater)
        → (a ≡ Less → b ≡ Less)
        → ordering_then b e ≡ Greater
        → ordering_then a e ≡ Greater
    greater e ne a Greater up down g = ap (λ z. ordering_then z e) (up refl)
    greater e ne a Less up down g = cc
    greater e ne Less Equal up down g = let z = down refl in cc
    greater e ne Equal Equal up down g = g
    greater e ne Greater Equal up down g = refl

    less :
        (e : Ordering)
        → e ≢ Equal
        → (a b : Ordering)
        → (b ≡ Greater → a ≡ Greater)
        → (a ≡ Less → b ≡ Less)
        → ordering_then a e ≡ Less
        → ordering_then b e ≡ Less
    less e ne Less b up down s = ap (λ z. ordering_then z e) (down refl)
    less e ne Greater b up down s = cc
    less e ne Equal Less up down s = refl
    less e ne Equal Equal up down s = s
    less e ne Equal Greater up down s = let z = up refl in cc

pub steady-counted :
    {F R : Type 0} (g : Mut F (ℕ × Unit {0}) R) (read : R → Ordering) (xs : List ℕ) (e : Ordering)
    → e ≢ Equal
    → (answer : ℕ → Ordering) (a : Asking F)
    → IsSteadyRising g xs None read answer a
    → IsSteadyRising g xs None (λ r. ordering_then (read r) e) (λ ix. ordering_then (answer ix) e) a
steady-counted g read xs e ne answer a s = record {
  steady = record { at = λ n f' p ix h r f'' c. ap (λ z. ordering_then z e) (s.steady.at n f' p ix h r f'' c) };
  rising = rises-counted e ne answer xs s.rising;
}

-- a search for a bound ends there
pub bound-met :
    {F R : Type 0} (g : Mut F (ℕ × Unit {0}) R) (read : R → Ordering) (xs : List ℕ) (e : Ordering)
    → e ≢ Equal
    → (a b : Asking F) (i : ℕ)
    → Searches g (λ r. ordering_then (read r) e) xs None a (Err i) b
    → IsBoundBy g read e xs a i
bound-met g read xs e ne a b i s answer rises =
    s.place (λ ix. ordering_then (answer ix) e) (steady-counted g read xs e ne answer a rises)

-- by a walk from the root
pub bound-sought :
    {F R : Type 0} (g : Mut F (ℕ × Unit {0}) R) (read : R → Ordering) (t : Option Node) (h : ℕ) (e : Ordering)
    → e ≢ Equal
    → (a b : Asking F) (i : ℕ)
    → IsTree t h
    → SearchesWithin g (λ r. ordering_then (read r) e) (in_order t h) (walk_asks t h) None a (Err i) b
    → SearchAsks g (in_order t h) None a b × IsBoundBy g read e (in_order t h) a i
bound-sought g read t h e ne a b i tree s =
    let few = reckoning-tree t h 0 tree (omega arith) (omega arith) in
    let all = SearchesWithin-more g (λ r. ordering_then (read r) e) None (omega arith) s in
    (all.asked, bound-met g read (in_order t h) e ne a b i all)

-- and so does a search for the end of a range
pub ends-met :
    {F R : Type 0} (g : Mut F (ℕ × Unit {0}) R) (read : R → Ordering) (xs : List ℕ) (e : Ordering)
    → e ≢ Equal
    → (a b : Asking F) (i j : ℕ)
    → EndsAt xs (λ to. Searches g (λ r. ordering_then (read r) e) xs None a (Err to) b) i j
    → EndsAt xs (IsBoundBy g read e xs a) i j
ends-met g read xs e ne a b i j s = record {
  to = s.to;
  to_within = s.to_within;
  end = bound-met g read xs e ne a b s.to s.end;
  ahead = s.ahead;
  same = s.same;
}

-- the same of a tree t and a table's tree u, which is the same
module _
    {F R : Type 0} (g : Mut F (ℕ × Unit {0}) R) (read : R → Ordering) (e : Ordering) (ne : e ≢ Equal)
    {t u : Option Node} {h k : ℕ} (same : t ≡ u) (high : h ≡ k) (a b : Asking F) (c : Cursor)
    (stands : Stands t h c)
  where
    pub bound-there :
        IsTree u k
        → SearchesWithin g (λ r. ordering_then (read r) e) (in_order t h) (walk_asks t h) None a (Err (gap_of t h c)) b
        → Stands u k c × SearchAsks g (in_order u k) None a b × IsBoundBy g read e (in_order u k) a (gap_of u k c)
    bound-there tree s =
        let found = bound-sought g read t h e ne a b _ (rw (same, high) tree) s in
        rw (← same, ← high) (stands, found.0, found.1)

    pub ends-there :
        (i : Cursor)
        → EndsAt (in_order t h) (λ to. Searches g (λ r. ordering_then (read r) e) (in_order t h) None a (Err to) b)
        (gap_of t h i) (gap_of t h c)
        → Stands u k c × SearchAsks g (in_order u k) None a b
        × EndsAt (in_order u k) (IsBoundBy g read e (in_order u k) a) (gap_of u k i) (gap_of u k c)
    ends-there i s =
        rw (← same, ← high) (stands, s.end.asked, ends-met g read (in_order t h) e ne a b _ _ s)

-- a range without an upper bound
pub ends-last : (xs : List ℕ) (i j : ℕ) → i ≤ length xs → j ≡ length xs → EndsAt xs (λ to. to ≡ length xs) i j
ends-last xs i j le e = record { to = j; to_within = omega arith; end = e; ahead = omega arith; same = refl }

-- a bound by the answers after some asks is a bound by the answers before them
pub bound-before :
    {F R : Type 0} (g : Mut F (ℕ × Unit {0}) R) (read : R → Ordering) (xs : List ℕ) (e : Ordering) {k : ℕ}
    {a b : Asking F} {i : ℕ}
    → AsksWithin g (Askable xs None) k a b
    → IsBoundBy g read e xs b i
    → IsBoundBy g read e xs a i
bound-before g read xs e asks bound answer rises =
    bound answer (record { steady = Steady-later g (Askable xs None) asks.after rises.steady; rising = rises.rising })

pub ends-before :
    {F R : Type 0} (g : Mut F (ℕ × Unit {0}) R) (xs : List ℕ) (upper : Bound (R → Ordering)) {k : ℕ} {a b : Asking F}
    (i : ℕ)
    → AsksWithin g (Askable xs None) k a b
    → Ends g xs upper b i
    → Ends g xs upper a i
ends-before g xs (Included read) i asks ends = bound-before g read xs Greater asks ends
ends-before g xs (Excluded read) i asks ends = bound-before g read xs Less asks ends
ends-before g xs Unbounded i asks ends = ends

-- what is left between two gaps
pub part-empty : (i j : ℕ) (xs : List ℕ) → i ≤ j → j ≤ length xs → (i ≡ j) ↔ (part i j xs ≡ [])
part-empty i j xs le within = (
  λ e. (let none : j - i ≡ 0 = omega arith in ap (λ k. next_behind k i xs) none),
  λ e. (let none = left-length (j - i) i j xs (omega arith) within in let len = ap length e in omega arith),
)

pub part-rest : (i : ℕ) (xs : List ℕ) → part i (length xs) xs ≡ drop i xs
part-rest i xs = take_all (length xs - i) (drop i xs) (omega (arith, length-drop i xs))

-- what hasn't ended has an index left
pub some-left :
    (i k : ℕ) (xs : List ℕ) (b : Bool)
    → IsTrue b ↔ (part i k xs ≡ [])
    → b ≡ false
    → i ≤ k
    → k ≤ length xs
    → k - i ≢ 0
some-left i k xs b told some le within none =
    let t = told.1 ((part-empty i k xs le within).0 (omega arith)) in absurd (cc)

-- after a step from the one end or the other
pub part-ahead :
    (i j k : ℕ) (xs : List ℕ) (r : Option ℕ)
    → k - i ≢ 0
    → i ≤ k
    → k ≤ length xs
    → Steps Back xs i r j
    → (j ≤ k) × YieldsFirst (λ (ys : List ℕ). ys) (part i k xs) r (part j k xs)
part-ahead i j k xs r ne le within s =
    let l = left-ahead (k - i) i j k xs r ne (omega arith) within s in
    let at = l.0 in let same : k - i - 1 ≡ k - j = omega arith in
    (omega arith, rw same at l.1)

pub part-back :
    (i j k : ℕ) (xs : List ℕ) (r : Option ℕ)
    → k - i ≢ 0
    → i ≤ k
    → k ≤ length xs
    → Steps Front xs k r j
    → (i ≤ j) × YieldsLast (λ (ys : List ℕ). ys) (part i k xs) r (part i j xs)
part-back i j k xs r ne le within s =
    let l = left-back (k - i) i j k xs r ne (omega arith) within s in
    let at = l.0 in let same : k - i - 1 ≡ j - i = omega arith in
    (omega arith, rw same at l.1)

-- what stands before a gap
pub part-first : (i : ℕ) (xs : List ℕ) → part 0 i xs ≡ take i xs
part-first i xs = let all : i - 0 ≡ i = omega arith in ap (λ k. take k xs) all
