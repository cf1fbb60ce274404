-- The gap before all indexes of a tree, and a search that tries it first.
use Rattle.iddqd_order.proofs.Names.{◌≡◌, ◌≢◌, ◌∙◌, ℕ, zero, suc, ◌+◌, ◌-◌, ◌<◌, ◌≤◌, List, length, slice_index, refl, sym, ap, arith, sub-one, Option, Result, Err, Ordering, Less, Mut, Asking, closure_of, AsksWithin, Steady, Node, row, child, flat, IsFormed, IsFullBelow, leaf, AtEdge, Front, IsBehind, Askable, CanSearch, with_ties, Descends}
use Rattle.iddqd_order.proofs.AskLemmas.{asks_then, CanAsk-later, Steady-later}
use Rattle.iddqd_order.proofs.CursorLemmas.{at_edge-leaf, at_edge-inner}
use Rattle.iddqd_order.proofs.DescentLemmas.{Counts, counts_here, full-at}
use Rattle.iddqd_order.proofs.NodeLemmas.{child-within, child-formed}
use Rattle.iddqd_order.proofs.SearchLemmas.{split-init, split-less, IsPlace-from_split}

-- the path of first places, at each level from h down
abbrev pub AreFirst : ℕ → List ℕ → Type 0
AreFirst h p = (l : ℕ) → l ≤ h → slice_index p l ≡ 0

-- it goes to the first gap
pub at_front : (h : ℕ) (n : Node) (p : List ℕ) → IsFormed h n → AreFirst h p → AtEdge Front h n (leaf h n p) p
unfolding leaf
at_front zero n p f first = at_edge-leaf Front 0 0 n (row n) p refl (first 0 (omega arith)) refl refl
at_front (suc h) n p f first =
    let ne : suc h ≢ 0 = λ e. absurd (omega arith) in
    let here = child-within (suc h) n 0 ne f (omega arith) in
    let below =
    at_front h (child n 0) p (rw sub-one at (child-formed (suc h) n 0 ne f here)) (λ l le. first l (omega arith)) in
    rw (first (suc h) (omega arith)) (at_edge-inner Front (suc h) 0 n (child n 0) (leaf h (child n 0) p) p ne f here refl (first (suc h) (omega arith)) refl (rw sub-one below))

-- how many nodes on it are full
pub full-leaf :
    (k full l : ℕ) (n : Node) (p : List ℕ)
    → l ≡ 0
    → Counts n full l k
    → IsFullBelow k l n p × (l < k → k ≡ full)
full-leaf k full (suc l) n p e c = absurd (omega arith)
full-leaf k full zero n p e c =
    let here = counts_here n full 0 k k c (λ _. refl) in (full-at k 0 n p here.0 (λ ne. absurd (ne refl)), here.1)

pub full-inner :
    (k full below l : ℕ) (n : Node) (p : List ℕ)
    → l ≢ 0
    → Counts n full l below
    → slice_index p l ≡ 0
    → IsFullBelow k (l - 1) (child n 0) p × (l - 1 < k → k ≡ below)
    → IsFullBelow k l n p × (l < k → k ≡ full)
full-inner k full below l n p ne c first q =
    let here = counts_here n full l below k c (λ up. q.1 (omega arith)) in
    (full-at k l n p here.0 (λ _. rw first q.0), here.1)

module _ {F R : Type 0} (g : Mut F (ℕ × Unit {0}) R) (read : R → Ordering) (sought : Option ℕ) where
  -- what is less than the first index goes before all indexes
  pub Descends-front :
      (h full ix : ℕ) (n : Node) (p : List ℕ) (a b : Asking F)
      → IsFormed h n
      → AreFirst h p
      → IsBehind (flat h n) 0 ix
      → IsFullBelow full h n p × (h < full → full ≡ h + 1)
      → AsksWithin g (Askable (flat h n) sought) 1 a b
      → ((answer : ℕ → Ordering) → Steady g (Askable (flat h n) sought) read answer (closure_of a)
      → Less ≡ with_ties sought answer ix)
      → Descends g read sought 1 (h + 1) h n a p (Err full) b
  Descends-front h full ix n p a b f first is low asked less =
      let edge = at_front h n p f first in
      let none : 0 ≤ length (flat h n) = omega arith in
      record {
        searches = rw edge.place_is (record {
          asked = asked;
          found = tt;
          missed = none;
          itself = tt;
          hit = λ answer steady. tt;
          place = λ answer rises.
              IsPlace-from_split (omega arith) (omega arith) none
              (split-less rises.rising is.0 (split-init (with_ties sought answer) (flat h n)) (ap (with_ties sought answer) (sym is.1) ∙ sym (less answer rises.steady)));
          unequal = λ none never. refl;
        });
        reaches = edge.goes;
        lower_end = low;
      }

  -- a walk from the root after one ask
  pub Descends-later :
      {m : ℕ} (full h : ℕ) (n : Node) (p : List ℕ) (end : Result ℕ ℕ) (a b c : Asking F)
      → AsksWithin g (Askable (flat h n) sought) 1 a b
      → Descends g read sought m full h n b p end c
      → Descends g read sought (1 + m) full h n a p end c
  Descends-later full h n p end a b c asked d =
      let s = d.searches in
      record {
        searches = record {
          asked = asks_then g (Askable (flat h n) sought) asked s.asked;
          found = s.found;
          missed = s.missed;
          itself = s.itself;
          hit = λ answer steady. s.hit answer (Steady-later g (Askable (flat h n) sought) asked.after steady);
          place = λ answer rises. s.place answer (record { steady = Steady-later g (Askable (flat h n) sought) asked.after rises.steady; rising = rises.rising });
          unequal = s.unequal;
        };
        reaches = d.reaches;
        lower_end = d.lower_end;
      }

  pub can_search-later :
      {k : ℕ} (xs : List ℕ) (a b : Asking F)
      → AsksWithin g (Askable xs sought) k a b
      → CanSearch g xs sought a
      → CanSearch g xs sought b
  can_search-later xs a b asked can = CanAsk-later g (Askable xs sought) asked.after can
