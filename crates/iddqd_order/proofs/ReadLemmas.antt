-- Reading on from a gap into a buffer, index by index.
use Rattle.iddqd_order.proofs.Names.{◌≡◌, ◌∙◌, ℕ, zero, suc, ◌+◌, ◌<◌, ◌≤◌, List, [], ◌∷◌, ◌++◌, End, Front, Back, Option, Some, None, length, length-set, take, drop, get_or, ReachesGapIn, children, slice_index, slice_set, refl, sym, ap, subst, arith, append_assoc, length-append, Node, ReachesGap, Passes, child, place_in, Steps, edge_of, IsAt, to_gap, most_levels, inl, inr, ◌⊎◌}
use Rattle.std.specs.Prelude.{reverse}
use Rattle.std.proofs.Math.Seq.{set-append_seam, take-suc}
use Rattle.std.proofs.lemmas.List.{drop_all, drop_more, length_push, reverse-append, set-get_or, take_at}
use Rattle.iddqd_order.specs.Buffers.{LiesAhead, ReadsOn, ahead_of}
use Rattle.iddqd_order.specs.MapBTreeTable.{Order}
use Rattle.iddqd_order.specs.Stepping.{Enters, GoesTo, GoesToIn, HasGap, gap_behind, low_in, node_by, row_in}
use Rattle.iddqd_order.proofs.CursorLemmas.{rest-ahead}
use Rattle.iddqd_order.proofs.DescentLemmas.{path-here}
use Rattle.iddqd_order.proofs.SteppingLemmas.{is-at, leaf-in}

-- `at` indexes from a gap on were put to the first places of a buffer, and the walk has come to another gap
pub record HasRead (towards : End) (xs : List ℕ) (from at : ℕ) (was now : List ℕ) (gap : ℕ) : Type 0 where
  pub done : List ℕ
  pub joined : ahead_of towards from xs ≡ done ++ ahead_of towards gap xs
  pub counted : length done ≡ at
  pub filled : now ≡ done ++ drop at was
  pub ahead : LiesAhead towards at from gap

lies-start : (towards : End) (from : ℕ) → LiesAhead towards 0 from from
lies-start Back from = omega arith
lies-start Front from = omega arith

pub HasRead-start : (towards : End) (xs : List ℕ) (from : ℕ) (was : List ℕ) → HasRead towards xs from 0 was was from
HasRead-start towards xs from was =
    record { done = []; joined = refl; counted = refl; filled = refl; ahead = lies-start towards from }

-- one step towards an end
ahead-step :
    (towards : End) (xs : List ℕ) (i j ix : ℕ)
    → Steps towards xs i (Some ix) j
    → ahead_of towards i xs ≡ ix ∷ ahead_of towards j xs
ahead-step Back xs i j ix s = rest-ahead i j xs (Some ix) s
ahead-step Front xs i j ix s =
    let up : i ≡ suc j = (let e = s.1 in omega arith) in
    ap (λ n. reverse (take n xs)) up ∙ ap reverse (take-suc xs j 0 s.0.0)
    ∙ reverse-append (take j xs) (get_or xs j 0 ∷ [])
    ∙ ap (λ z. z ∷ reverse (take j xs)) (sym s.0.1)

lies-step :
    (towards : End) (xs : List ℕ) (from at i j ix : ℕ)
    → LiesAhead towards at from i
    → Steps towards xs i (Some ix) j
    → LiesAhead towards (at + 1) from j
lies-step Back xs from at i j ix l s = let e = s.1 in omega arith
lies-step Front xs from at i j ix l s = let e = s.1 in omega arith

pub HasRead-step :
    (towards : End) (xs : List ℕ) (from at i j ix : ℕ) (was now : List ℕ)
    → HasRead towards xs from at was now i
    → at < length was
    → Steps towards xs i (Some ix) j
    → HasRead towards xs from (at + 1) was (slice_set now at ix) j
HasRead-step towards xs from at i j ix was now h within s =
    let done = h.done in
    let behind = drop (at + 1) was in
    let next : ℕ = get_or was at ix in
    let opened : now ≡ done ++ next ∷ behind = h.filled ∙ ap (λ ys. done ++ ys) (drop_more was at ix within) in
    let put : slice_set now at ix ≡ done ++ ix ∷ behind =
    ap (λ ys. slice_set ys at ix) opened
    ∙ subst (λ n. slice_set (done ++ next ∷ behind) n ix ≡ done ++ ix ∷ behind) h.counted
    (set-append_seam done next behind ix) in
    record {
      done = done ++ ix ∷ [];
      joined = h.joined ∙ ap (λ ys. done ++ ys) (ahead-step towards xs i j ix s)
          ∙ sym (append_assoc done (ix ∷ []) (ahead_of towards j xs));
      counted = length_push done ix ∙ ap (λ n. n + 1) h.counted;
      filled = put ∙ sym (append_assoc done (ix ∷ []) behind);
      ahead = lies-step towards xs from at i j ix h.ahead s;
    }

-- nothing lies ahead of the gap at an end
none-ahead :
    (towards : End) (xs : List ℕ) (i : ℕ)
    → i ≡ edge_of towards (length xs)
    → length (ahead_of towards i xs) ≡ 0
none-ahead Back xs i e = ap length (drop_all i xs (omega arith))
none-ahead Front xs i e = ap (λ n. length (reverse (take n xs))) e

fills-at :
    (towards : End) (xs : List ℕ) (from at gap : ℕ) (was now : List ℕ)
    → HasRead towards xs from at was now gap
    → at ≤ length was
    → (at ≡ length was) ⊎ (length (ahead_of towards gap xs) ≡ 0)
    → ReadsOn towards xs from at was now gap
fills-at towards xs from at gap was now h le ended =
    let rest = ahead_of towards gap xs in
    let all : length (ahead_of towards from xs) ≡ at + length rest =
    ap length h.joined ∙ length-append h.done rest ∙ ap (λ n. n + length rest) h.counted in
    record {
      fills = record {
        counted = elim ended [ inl full ↦ omega arith | inr none ↦ omega arith ];
        filled = h.filled
            ∙ ap (λ ys. ys ++ drop at was) (sym (ap (take at) h.joined ∙ take_at h.done rest at h.counted));
      };
      ahead = h.ahead;
    }

-- the buffer is full
pub ReadsOn-full :
    (towards : End) (xs : List ℕ) (from at gap : ℕ) (was now : List ℕ)
    → HasRead towards xs from at was now gap
    → at ≡ length was
    → ReadsOn towards xs from at was now gap
ReadsOn-full towards xs from at gap was now h full =
    fills-at towards xs from at gap was now h (omega arith) (inl full)

-- the walk has come to the end
pub ReadsOn-ended :
    (towards : End) (xs : List ℕ) (from at i j : ℕ) (was now : List ℕ)
    → HasRead towards xs from at was now i
    → at < length was
    → Steps towards xs i None j
    → ReadsOn towards xs from at was now j
ReadsOn-ended towards xs from at i j was now h within s =
    subst (λ gap. ReadsOn towards xs from at was now gap) (sym s.1)
    (fills-at towards xs from at i was now h (omega arith) (inr (none-ahead towards xs i s.0)))

-- A path to a gap goes to the leaf of that gap, whatever its place at level 0.
goes-leaf :
    (h : ℕ) (n : Node) (p q : List ℕ)
    → ((m : ℕ) → 0 < m → slice_index q m ≡ slice_index p m)
    → ReachesGap h n q
    → GoesTo 0 h n p
unfolding Passes Enters
goes-leaf zero n p q above g = record { enters = refl }
goes-leaf (suc h) n p q above g =
    let lt : 0 < suc h = omega arith in
    let same = above (suc h) lt in
    let on = g.passes.2 (omega arith) in
    let here : slice_index p (suc h) < length (children n) = rw same at on.0 in
    let q-on : ReachesGap h (child n (slice_index q (suc h))) q = record { passes = on.1 } in
    let below = goes-leaf h (child n (slice_index p (suc h))) p q above (rw same at q-on) in
    let enters : Enters 0 (suc h) n p = (omega arith, λ _. (here, below.enters)) in
    record { enters = enters }

goes-in :
    (t : Option Node) (h : ℕ) (p q : List ℕ)
    → ((m : ℕ) → 0 < m → slice_index q m ≡ slice_index p m)
    → ReachesGapIn t h q
    → GoesToIn 0 t h p
goes-in None h p q above g = refl
goes-in (Some n) h p q above g = goes-leaf h n p q above g

-- Where a cursor stands there is a gap of the leaf, by a path that has its place at level 0.
pub stands-gap :
    (t : Order) (p xs : List ℕ) (at : ℕ)
    → IsAt t.root t.height p xs at
    → HasGap t (node_by (to_gap p at) 0) (slice_index (to_gap p at) 0)
    × (gap_behind t (node_by (to_gap p at) 0) (slice_index (to_gap p at) 0) ≡ place_in t.root t.height (to_gap p at))
stands-gap t p xs at is =
    let q = to_gap p at in
    let whole : length q ≡ most_levels = length-set p 0 at ∙ is.gap.whole in
    let here : slice_index q 0 ≡ at = path-here p q 0 at is.gap.whole (omega arith) refl in
    let again : to_gap q at ≡ q = ap (to_gap q) (sym here) ∙ set-get_or q 0 0 in
    let goes = goes-in t.root t.height q q (λ m up. refl) is.gap.goes in
    let leaf-is : xs ≡ row_in 0 t.root t.height q = is.leaf ∙ sym (leaf-in t.root t.height q q (λ m up. refl)) in
    let within : at ≤ length (row_in 0 t.root t.height q) = rw leaf-is at is.within in
    let both = is-at t q 0 at goes refl within whole in (
      record { is_node = goes; level = refl; place = rw here within },
      ap (λ k. low_in 0 t.root t.height q + k) here ∙ sym both.1 ∙ ap (place_in t.root t.height) again,
    )
