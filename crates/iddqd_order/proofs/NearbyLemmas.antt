-- A search that goes along a list from a gap on: what its asks tell, and where it ends.
use Rattle.iddqd_order.proofs.Names.{◌≡◌, ◌≢◌, ◌∙◌, ℕ, ◌+◌, ◌*◌, ◌-◌, ◌<◌, ◌≤◌, List, take, drop, length, get_or, slice_index, Contains, refl, sym, ap, subst, arith, inl, inr, cases_lt, length-drop, length-take-le, true, false, IsTrue, Option, Some, None, Err, Ordering, Less, Equal, Greater, Mut, Asking, closure_of, AsksWithin, Steady, Askable, CanSearch, IsPlace, IsSteadyRising, Searches, SearchesWithin, Compares, next_behind, bound, Node, in_order, IsTree, place_in, IsAt, IsBehind, to_gap, digits, row_asks}
use Rattle.std.proofs.Common.{get_or-drop}
use Rattle.std.proofs.lemmas.List.{get_or-take}
use Rattle.std.specs.Ordering.{is_gt, is_lt}
use Rattle.iddqd_order.specs.Descent.{walk_asks}
use Rattle.iddqd_order.specs.Range.{EndsAt}
use Rattle.iddqd_order.specs.Nearby.{Advances, Arrives, GoesOn}
use Rattle.iddqd_order.proofs.AskLemmas.{asks_then, asks_more, CanAsk-fewer, CanAsk-later, Steady-later}
use Rattle.iddqd_order.proofs.CursorLemmas.{IsAt-few, IsAt-moved, IsAt-read}
use Rattle.iddqd_order.proofs.DigitLemmas.{four_digits}
use Rattle.iddqd_order.proofs.IndexListLemmas.{Contains-at}
use Rattle.iddqd_order.proofs.ReckoningLemmas.{reckoning-tree}
use Rattle.iddqd_order.proofs.PartLemmas.{Embeds, Askable-whole, LeadsTo, Searches-part, SearchesWithin-more}

is_greater : (r : Ordering) → IsTrue (is_gt r) → r ≡ Greater
is_greater Less gt = absurd (cc)
is_greater Equal gt = absurd (cc)
is_greater Greater gt = refl

is_less : (r : Ordering) → is_gt r ≡ false → r ≢ Equal → r ≡ Less
is_less Less le ne = refl
is_less Equal le ne = absurd (ne refl)
is_less Greater le ne = absurd (cc)

before : (r : Ordering) (i j : ℕ) → Compares r i j → is_lt r ≡ true → i < j
before Less i j lt is = lt
before Equal i j e is = absurd (cc)
before Greater i j gt is = absurd (cc)

behind : (r : Ordering) (i j : ℕ) → Compares r i j → is_lt r ≡ false → j ≤ i
behind Less i j lt is = absurd (cc)
behind Equal i j e is = omega arith
behind Greater i j gt is = omega arith

-- a search that ends near asks few enough
near-within :
    (t : Option Node) (h k : ℕ)
    → IsTree t h
    → k ≤ h + 1
    → k ≤ 3
    → 1 ≤ length (in_order t h)
    → row_asks + 2 * k ≤ bound (length (in_order t h))
near-within None h k tree low few some = absurd (omega arith)
near-within (Some n) h k tree low few some = let most = reckoning-tree (Some n) h k tree low few in omega arith

-- an index of a cursor's leaf, in the whole list
pub leaf-index :
    (t : Option Node) (h i : ℕ) (p row : List ℕ) (at : ℕ)
    → IsTree t h
    → IsAt t h p row at
    → i < length row
    → (place_in t h (to_gap p i) + at ≡ place_in t h (to_gap p at) + i)
    × IsBehind (in_order t h) (place_in t h (to_gap p i)) (slice_index row i)
leaf-index t h i p row at tree a lt =
    let m = IsAt-moved t h i p row at tree a (omega arith) in (m.1, IsAt-read t h p row i tree m.0 lt)

-- the indexes of the leaf from the gap up to another one stand in the whole list
leaf-part :
    (t : Option Node) (h last : ℕ) (p row : List ℕ) (at : ℕ)
    → IsTree t h
    → IsAt t h p row at
    → at ≤ last
    → last < length row
    → Embeds (take (last - at) (drop at row)) (in_order t h) (λ j. place_in t h (to_gap p at) + j)
leaf-part t h last p row at tree a le lt =
    let count : length (take (last - at) (drop at row)) ≡ last - at =
    length-take-le (last - at) (drop at row) (omega (arith, length-drop at row)) in
    record {
      within = λ j low. (let is = leaf-index t h (at + j) p row at tree a (omega arith) in let here = is.0 in let inside = is.1.0 in omega arith);
      at = λ j low.
          let is = leaf-index t h (at + j) p row at tree a (omega arith) in
          let here : place_in t h (to_gap p (at + j)) ≡ place_in t h (to_gap p at) + j = (let at_is = is.0 in omega arith) in
          ap (λ k. get_or (in_order t h) k 0) (sym here) ∙ sym is.1.1 ∙ sym (get_or-take (last - at) (drop at row) j 0 (omega arith) ∙ get_or-drop at row j 0);
      rises = λ i j less within. omega arith;
    }

module _ {F R : Type 0} (g : Mut F (ℕ × Unit {0}) R) (read : R → Ordering) where
  -- what an ask tells about the index behind gap i
  pub told :
      (xs : List ℕ) (i ix : ℕ) (r : Ordering) (a : Asking F)
      → IsBehind xs i ix
      → ((ys : List ℕ) (answer : ℕ → Ordering)
      → Contains ys ix
      → Steady g (Askable ys None) read answer (closure_of a)
      → r ≡ answer ix)
      → (answer : ℕ → Ordering)
      → IsSteadyRising g xs None read answer a
      → answer (slice_index xs i) ≡ r
  told xs i ix r a b steady answer s =
      ap answer (sym b.1) ∙ sym (steady xs answer (Contains-at xs i ix b.0 b.1) s.steady)

  module _ {xs : List ℕ} {a b : Asking F} where
    -- what is Greater at an index is Greater before it
    pub advances :
        (i j : ℕ) (r : Ordering)
        → i < length xs
        → j ≤ i + 1
        → IsTrue (is_gt r)
        → AsksWithin g (Askable xs None) 1 a b
        → ((answer : ℕ → Ordering) → IsSteadyRising g xs None read answer a → answer (slice_index xs i) ≡ r)
        → Advances g read xs 1 j a b
    advances i j r lt le gt asked says = record {
      asked = asked;
      greater = λ answer s k low.
          let here : answer (slice_index xs i) ≡ Greater = says answer s ∙ is_greater r gt in
          elim (cases_lt k i) [
            | inl less ↦ s.rising.greater_before k i less lt here
            | inr ge ↦ (let same : i ≡ k = omega arith in subst (λ z. answer (slice_index xs z) ≡ Greater) same here)
          ];
    }

    -- a search that ends in a gap
    pub gap_found :
        {limit : ℕ} (i : ℕ)
        → AsksWithin g (Askable xs None) limit a b
        → i ≤ length xs
        → ((answer : ℕ → Ordering) → IsSteadyRising g xs None read answer a → IsPlace answer xs i)
        → SearchesWithin g read xs limit None a (Err i) b
    gap_found i asked within place = record {
      asked = asked;
      found = tt;
      missed = within;
      itself = tt;
      hit = λ answer s. tt;
      place = place;
      unequal = λ none never. refl;
    }

  -- answers that rise still do after some asks
  rising-later :
      {xs : List ℕ} {limit i : ℕ} {start a : Asking F} {answer : ℕ → Ordering}
      → Advances g read xs limit i start a
      → IsSteadyRising g xs None read answer start
      → IsSteadyRising g xs None read answer a
  rising-later d s = record { steady = Steady-later g _ d.asked.after s.steady; rising = s.rising }

  -- no ask, or one
  pub stays : {xs : List ℕ} {a : Asking F} (i : ℕ) → GoesOn g read xs i i a a
  stays {xs = xs} i limit start d =
      record { asked = asks_more g (Askable xs None) (omega arith) d.asked; greater = d.greater }

  pub advances-then :
      {xs : List ℕ} {limit i j : ℕ} {start a b : Asking F}
      → Advances g read xs limit i start a
      → Advances g read xs 1 j a b
      → Advances g read xs (limit + 1) j start b
  advances-then {xs = xs} d e = record {
    asked = asks_then g (Askable xs None) d.asked e.asked;
    greater = λ answer s. e.greater answer (rising-later d s);
  }

  -- all before gap i is Greater, and the index behind it is Less
  pub arrives-here :
      {xs : List ℕ} {a b : Asking F} (i : ℕ) (r : Ordering)
      → i < length xs
      → is_gt r ≡ false
      → r ≢ Equal
      → AsksWithin g (Askable xs None) 1 a b
      → ((answer : ℕ → Ordering) → IsSteadyRising g xs None read answer a → answer (slice_index xs i) ≡ r)
      → Arrives g read xs 1 i i a b
  arrives-here {xs = xs} i r lt le ne asked says limit start d =
      gap_found i (asks_then g (Askable xs None) d.asked asked) (omega arith)
      (λ answer s.
      let here : answer (slice_index xs i) ≡ Less = says answer (rising-later d s) ∙ is_less r le ne in
      record {
        within = omega arith;
        greater_before = d.greater answer s;
        less_from = λ k from within. elim (cases_lt i k) [
          | inl less ↦ s.rising.less_after i k less within here
          | inr ge ↦ (let same : i ≡ k = omega arith in subst (λ z. answer (slice_index xs z) ≡ Less) same here)
        ];
      })

  -- all is Greater
  pub arrives-end : {xs : List ℕ} {a : Asking F} (i : ℕ) → i ≡ length xs → Arrives g read xs 1 i i a a
  arrives-end {xs = xs} i e limit start d =
      gap_found i (asks_more g (Askable xs None) (omega arith) d.asked) (omega arith)
      (λ answer s. record { within = omega arith; greater_before = d.greater answer s; less_from = λ k from within. absurd (omega arith) })

  module _
      (t : Option Node) (h last : ℕ) (p row : List ℕ) (at : ℕ) (tree : IsTree t h) (is_at : IsAt t h p row at)
      (le : at ≤ last) (lt : last < length row)
    where
      -- what may be asked about the whole list may be asked about a part of the leaf
      pub can_search-part :
          {n : ℕ} {a b : Asking F}
          → AsksWithin g (Askable (in_order t h) None) n a b
          → CanSearch g (in_order t h) None a
          → CanSearch g (take (last - at) (drop at row)) None b
      can_search-part asked can =
          CanAsk-fewer g (Askable (take (last - at) (drop at row)) None) (Askable (in_order t h) None)
          (Askable-whole (leaf-part t h last p row at tree is_at le lt) None)
          (CanAsk-later g (Askable (in_order t h) None) asked.after can)

      -- the last index of the leaf is Less, and a search in those before it ends in a gap
      pub arrives-in_leaf :
          {a b c : Asking F} (i k : ℕ) (r : Ordering)
          → is_gt r ≡ false
          → r ≢ Equal
          → AsksWithin g (Askable (in_order t h) None) 1 a b
          → ((answer : ℕ → Ordering)
          → IsSteadyRising g (in_order t h) None read answer a
          → answer (slice_index (in_order t h) (place_in t h (to_gap p last))) ≡ r)
          → k ≡ digits (length (take (last - at) (drop at row)))
          → SearchesWithin g read (take (last - at) (drop at row)) k None b (Err i) c
          → Arrives g read (in_order t h) (row_asks + 1) (place_in t h (to_gap p at))
          (place_in t h (to_gap p at) + i) a c
      arrives-in_leaf i k r gt ne asked says most s limit start d =
          let xs : List ℕ = in_order t h in
          let ys : List ℕ = take (last - at) (drop at row) in
          let count : length ys ≡ last - at =
          length-take-le (last - at) (drop at row) (omega (arith, length-drop at row)) in
          let few = IsAt-few t h p row at tree is_at in
          let there = leaf-index t h last p row at tree is_at lt in
          let end : place_in t h (to_gap p last) ≡ place_in t h (to_gap p at) + length ys = (let e = there.0 in omega arith) in
          let inside = there.1.0 in
          let four = four_digits (length ys) (omega arith) in
          let leads : LeadsTo g read None (limit + 1) (place_in t h (to_gap p at)) ys xs start _ =
          record {
            part = leaf-part t h last p row at tree is_at le lt;
            within = omega arith;
            asked = asks_then g (Askable xs None) d.asked asked;
            split = λ answer rises.
                let here = says answer (rising-later d rises) ∙ is_less r gt ne in record {
                  greater = d.greater answer rises;
                  less = λ k from within. elim (cases_lt (place_in t h (to_gap p last)) k) [
                    | inl less ↦ rises.rising.less_after (place_in t h (to_gap p last)) k less within here
                    | inr ge ↦ (let same : place_in t h (to_gap p last) ≡ k = omega arith in subst (λ z. answer (slice_index xs z) ≡ Less) same here)
                  ];
                };
          } in
          SearchesWithin-more g read None (omega arith) (Searches-part g read None leads (Err i) s)

  -- a range that begins at gap i ends where its end is found near it, or by a walk from the root after asks near it
  module _ (t : Option Node) (h k i j : ℕ) where
    pub end-near :
        {a b : Asking F}
        → IsTree t h
        → k ≤ h + 1
        → k ≤ 3
        → 1 ≤ length (in_order t h)
        → i ≤ j
        → SearchesWithin g read (in_order t h) (row_asks + 2 * k) None a (Err j) b
        → EndsAt (in_order t h) (λ to. Searches g read (in_order t h) None a (Err to) b) i j
    end-near tree low few some le s =
        record {
          to = j;
          to_within = s.missed;
          end = SearchesWithin-more g read None (near-within t h k tree low few some) s;
          ahead = le;
          same = refl;
        }

    found-far :
        {a b c : Asking F}
        → IsTree t h
        → k ≤ h + 1
        → k ≤ 3
        → AsksWithin g (Askable (in_order t h) None) (2 * k) a b
        → SearchesWithin g read (in_order t h) (walk_asks t h) None b (Err j) c
        → Searches g read (in_order t h) None a (Err j) c
    found-far tree low few asked s =
        gap_found j
        (asks_more g (Askable (in_order t h) None) (let most = reckoning-tree t h k tree low few in omega arith)
        (asks_then g (Askable (in_order t h) None) asked s.asked)) s.missed
        (λ answer rises. s.place answer (record { steady = Steady-later g _ asked.after rises.steady; rising = rises.rising }))

    pub end-before :
        {a b c : Asking F} (r : Ordering)
        → IsTree t h
        → k ≤ h + 1
        → k ≤ 3
        → AsksWithin g (Askable (in_order t h) None) (2 * k) a b
        → SearchesWithin g read (in_order t h) (walk_asks t h) None b (Err j) c
        → Compares r j i
        → is_lt r ≡ true
        → EndsAt (in_order t h) (λ to. Searches g read (in_order t h) None a (Err to) c) i i
    end-before r tree low few asked s compares less =
        let lt = before r j i compares less in
        let none : j - i ≡ i - i = omega arith in
        record {
          to = j;
          to_within = s.missed;
          end = found-far tree low few asked s;
          ahead = omega arith;
          same = ap (λ n. next_behind n i (in_order t h)) (sym none);
        }

    pub end-behind :
        {a b c : Asking F} (r : Ordering)
        → IsTree t h
        → k ≤ h + 1
        → k ≤ 3
        → AsksWithin g (Askable (in_order t h) None) (2 * k) a b
        → SearchesWithin g read (in_order t h) (walk_asks t h) None b (Err j) c
        → Compares r j i
        → is_lt r ≡ false
        → EndsAt (in_order t h) (λ to. Searches g read (in_order t h) None a (Err to) c) i j
    end-behind r tree low few asked s compares ge =
        record {
          to = j;
          to_within = s.missed;
          end = found-far tree low few asked s;
          ahead = behind r j i compares ge;
          same = refl;
        }
