-- For callers too. A search by steps: what is known when it comes to a node, and what the search of its row adds.
use Rattle.iddqd_order.proofs.Names.{◌≡◌, ◌∙◌, ℕ, ◌+◌, ◌-◌, ◌≤◌, List, length, sym, ap, subst, arith, inl, inr, cases_eq, cases_lt, None, Ok, Err, Ordering, Mut, AsksWithin, Asking, Askable, CanSearch, IsPlace, IsSteadyRising, SearchesWithin, IsRising}
use Rattle.iddqd_order.proofs.AskLemmas.{asks_more, asks_none, asks_then, asks_wider, CanAsk-fewer, CanAsk-later, Steady-fewer, Steady-later}
use Rattle.iddqd_order.proofs.PartLemmas.{Embeds, Askable-whole, IsRising-part, LeadsTo, Searches-hit, Searches-part}
use Rattle.iddqd_order.proofs.SearchLemmas.{AreSplit, split-init, split-greater, split-less}
use Rattle.iddqd_order.specs.Stepping.{IsAllBetween, Narrows, StandsBetween}

-- a row in the list
pub row-embeds : {xs row : List ℕ} {low high : ℕ} (s : StandsBetween xs row low high) → Embeds row xs s.place
row-embeds s = record {
  within = λ i lt. let to = s.to i lt in let within = s.within in omega arith;
  at = s.index;
  rises = s.rises;
}

-- If all answers before a node's span are Greater and all behind it Less, this holds of the child to which the answers
-- along the node's row lead.
pub split-child :
    {a : ℕ → Ordering} {xs row : List ℕ} {low high i low' high' : ℕ}
    → IsRising a xs
    → Narrows xs row low high i low' high'
    → IsPlace a row i
    → AreSplit a xs low high
    → AreSplit a xs low' high'
split-child {a} {xs} {row} {low} {high} {i} {low'} {high'} rising n p s =
    let last = n.last in let ordered = n.ordered in
    let inner : high' ≤ high =
    elim (cases_lt i (length row)) [ inl lt ↦ (let b = (n.ahead lt).0 in omega arith) | inr over ↦ (let b = n.right over in omega arith) ] in
    let left : AreSplit a xs low' high =
    elim (cases_eq i 0) [
      | inl e ↦ subst (λ z. AreSplit a xs z high) (sym (n.left e)) s
      | inr ne ↦
          (let b = n.behind (omega arith) in
          let up = b.0 in
          let next : low' - 1 + 1 ≡ low' = omega arith in
          subst (λ z. AreSplit a xs z high) next (split-greater rising (omega arith) s (ap a b.1 ∙ p.greater_before (i - 1) (omega arith))))
    ] in
    elim (cases_lt i (length row)) [
      | inl lt ↦ (let b = n.ahead lt in let up = b.0 in split-less rising (omega arith) left (ap a b.1 ∙ p.less_from i (omega arith) lt))
      | inr over ↦ subst (λ z. AreSplit a xs low' z) (sym (n.right over)) left
    ]

module _ {F R : Type 0} (g : Mut F (ℕ × Unit {0}) R) (read : R → Ordering) (xs : List ℕ) where
  -- At most `limit` asks lead to the node that spans the gaps low and high: if the answers are steady and rise, all
  -- before the span are Greater, and all behind it are Less.
  pub record Guides (limit low high : ℕ) (old mid : Asking F) : Type 0 where
    pub asked : AsksWithin g (Askable xs None) limit old mid
    pub split : (answer : ℕ → Ordering) → IsSteadyRising g xs None read answer old → AreSplit answer xs low high

  pub guides-first : (low high : ℕ) (a : Asking F) → low ≡ 0 → high ≡ length xs → Guides 0 low high a a
  guides-first low high a from to = record {
    asked = asks_none g (Askable xs None) a;
    split = λ answer rises. rw (from, to) (split-init answer xs);
  }

  pub guides-more :
      {k l low high : ℕ} {a b : Asking F}
      → k ≤ l
      → Guides k low high a b
      → Guides l low high a b
  guides-more le s = record { asked = asks_more g (Askable xs None) le s.asked; split = s.split }

  module _
      {row : List ℕ} {limit low high : ℕ} {a b : Asking F} (led : Guides limit low high a b)
      (s : StandsBetween xs row low high)
    where
      -- the row may be asked where the list may be
      pub can_ask_row : CanSearch g xs None a → CanSearch g row None b
      can_ask_row can =
          CanAsk-fewer g (Askable row None) (Askable xs None) (Askable-whole (row-embeds s) None)
          (CanAsk-later g (Askable xs None) led.asked.after can)

      pub rises-row :
          (answer : ℕ → Ordering)
          → IsSteadyRising g xs None read answer a
          → IsSteadyRising g row None read answer b
      rises-row answer rises = record {
        steady =
            Steady-fewer g (Askable row None) (Askable xs None) (Askable-whole (row-embeds s) None)
            (Steady-later g (Askable xs None) led.asked.after rises.steady);
        rising = IsRising-part (row-embeds s) answer rises.rising;
      }

      -- a hit in the row is one in the list
      pub guided-hit :
          {k : ℕ} {c : Asking F} (i : ℕ)
          → SearchesWithin g read row k None b (Ok i) c
          → SearchesWithin g read xs (limit + k) None a (Ok (s.place i)) c
      guided-hit i found = Searches-hit g read None (row-embeds s) led.asked i found

      -- a miss leads to the child at its place
      pub guided-child :
          {k i low' high' : ℕ} {c : Asking F}
          → SearchesWithin g read row k None b (Err i) c
          → Narrows xs row low high i low' high'
          → Guides (limit + k) low' high' a c
      guided-child missed n = record {
        asked =
            asks_then g (Askable xs None) led.asked
            (asks_wider g (Askable row None) (Askable xs None) (Askable-whole (row-embeds s) None) missed.asked);
        split = λ answer rises.
            split-child rises.rising n (missed.place answer (rises-row answer rises)) (led.split answer rises);
      }

  -- or, in a leaf, to the gap that is sought
  pub guided-end :
      {row : List ℕ} {limit low high k i : ℕ} {a b c : Asking F}
      → Guides limit low high a b
      → IsAllBetween xs row low high
      → SearchesWithin g read row k None b (Err i) c
      → SearchesWithin g read xs (limit + k) None a (Err (low + i)) c
  guided-end {row} {limit} {low} {high} {k} {i} {a} {b} {c} led s missed =
      let long = s.long in let within = s.within in
      let leads : LeadsTo g read None limit low row xs a b = record {
        part = record {
          within = λ j lt. omega arith;
          at = s.index;
          rises = λ j m less lt. omega arith;
        };
        within = omega arith;
        asked = led.asked;
        split = λ answer rises. subst (λ z. AreSplit answer xs low z) long (led.split answer rises);
      } in
      Searches-part g read None leads (Err i) missed
