-- A search in a part of a list, and what it says of a search in the whole.
use Rattle.iddqd_order.proofs.Names.{◌≡◌, ◌∙◌, ℕ, ◌+◌, ◌-◌, ◌<◌, ◌≤◌, List, length, get_or, Contains, refl, sym, ap, arith, inl, inr, cases_lt, Option, Some, None, Result, Ok, Err, get_or_default, Ordering, Mut, AsksWithin, Steady, Asking, Askable, with_ties, IsRising, IsPlace, IsSteadyRising, SearchesWithin, closure_of}
use Rattle.iddqd_order.proofs.AskLemmas.{asks_then, asks_wider, Steady-fewer, Steady-later}
use Rattle.iddqd_order.proofs.SearchLemmas.{AreSplit}
pub use Rattle.iddqd_order.proofs.SearchLemmas.{SearchesWithin-more}

-- the members of xs stand in ws in the same order, the i-th one at the place e i
pub record Embeds (xs ws : List ℕ) (e : ℕ → ℕ) : Type 0 where
  pub within : (i : ℕ) → i < length xs → e i < length ws
  pub at : (i : ℕ) → i < length xs → get_or ws (e i) 0 ≡ get_or xs i 0
  pub rises : (i j : ℕ) → i < j → j < length xs → e i < e j

module _ {xs ws : List ℕ} {e : ℕ → ℕ} (m : Embeds xs ws e) where
  pub held : (ix : ℕ) → Contains xs ix → Contains ws ix
  held ix h = (e h.0, m.within h.0 h.1, get_or_default ws (e h.0) ix 0 (m.within h.0 h.1) ∙ m.at h.0 h.1 ∙ get_or_default xs h.0 0 ix h.1 ∙ h.2)

  pub Askable-whole : (sought : Option ℕ) (ix : ℕ) → Askable xs sought ix → Askable ws sought ix
  Askable-whole None ix h = held ix h
  Askable-whole (Some sought) ix h = (held ix h.0, h.1)

  pub IsRising-part : (a : ℕ → Ordering) → IsRising a ws → IsRising a xs
  IsRising-part a r = record {
    greater_before = λ i j lt within g. ap a (sym (m.at i (omega arith))) ∙ r.greater_before (e i) (e j) (m.rises i j lt within) (m.within j within) (ap a (m.at j within) ∙ g);
    less_after = λ i j lt within s. ap a (sym (m.at j within)) ∙ r.less_after (e i) (e j) (m.rises i j lt within) (m.within j within) (ap a (m.at i (omega arith)) ∙ s);
  }

-- a place in a part that begins at low, where all is Greater before the part and Less after it
IsPlace-part :
    {c ws : List ℕ} {low : ℕ} (m : Embeds c ws (λ j. low + j)) (a : ℕ → Ordering) (i : ℕ)
    → low + length c ≤ length ws
    → AreSplit a ws low (low + length c)
    → IsPlace a c i
    → IsPlace a ws (low + i)
IsPlace-part {c = c} {ws = ws} {low = low} m a i le s p =
    let there : (k : ℕ) → low ≤ k → k < low + length c → a (get_or ws k 0) ≡ a (get_or c (k - low) 0) =
    λ k from lt. (let same : k ≡ low + (k - low) = omega arith in ap (λ z. a (get_or ws z 0)) same ∙ ap a (m.at (k - low) (omega arith))) in
    let inside = p.within in
    record {
      within = omega arith;
      greater_before = λ k lt. elim (cases_lt k low) [
        | inl below ↦ s.greater k below
        | inr from ↦ there k from (omega arith) ∙ p.greater_before (k - low) (omega arith)
      ];
      less_from = λ k from lt. elim (cases_lt k (low + length c)) [
        | inl below ↦ there k (omega arith) below ∙ p.less_from (k - low) (omega arith) (omega arith)
        | inr beyond ↦ s.less k beyond lt
      ];
    }

-- an end in a part that begins after n indexes
abbrev pub shifted : ℕ → Result ℕ ℕ → Result ℕ ℕ
shifted n (Ok i) = Ok (n + i)
shifted n (Err i) = Err (n + i)

module _ {F R : Type 0} (g : Mut F (ℕ × Unit {0}) R) (read : R → Ordering) (sought : Option ℕ) where
  module _
      {xs ws : List ℕ} {e : ℕ → ℕ} (m : Embeds xs ws e) {n : ℕ} {old mid : Asking F}
      (led : AsksWithin g (Askable ws sought) n old mid)
    where
      -- asks in a part, after asks that led there, are asks in the whole
      asked-part :
          {k : ℕ} {new : Asking F}
          → AsksWithin g (Askable xs sought) k mid new
          → AsksWithin g (Askable ws sought) (n + k) old new
      asked-part p =
          asks_then g (Askable ws sought) led
          (asks_wider g (Askable xs sought) (Askable ws sought) (Askable-whole m sought) p)

      steady-part :
          (answer : ℕ → Ordering)
          → Steady g (Askable ws sought) read answer (closure_of old)
          → Steady g (Askable xs sought) read answer (closure_of mid)
      steady-part answer s =
          Steady-fewer g (Askable xs sought) (Askable ws sought) (Askable-whole m sought)
          (Steady-later g (Askable ws sought) led.after s)

      -- a hit in the part is one in the whole
      pub Searches-hit :
          {k : ℕ} {new : Asking F} (i : ℕ)
          → SearchesWithin g read xs k sought mid (Ok i) new
          → SearchesWithin g read ws (n + k) sought old (Ok (e i)) new
      Searches-hit i s = record {
        asked = asked-part s.asked;
        found = m.within i s.found;
        missed = tt;
        itself = λ ix same. m.at i s.found ∙ s.itself ix same;
        hit = λ answer steady. ap (with_ties sought answer) (m.at i s.found) ∙ s.hit answer (steady-part answer steady);
        place = λ answer rises. tt;
        unequal = s.unequal;
      }

  -- asks lead to the part that begins at low: if the answers rise, all is Greater before it and Less after it
  pub record LeadsTo (limit low : ℕ) (c ws : List ℕ) (old mid : Asking F) : Type 0 where
    pub part : Embeds c ws (λ j. low + j)
    pub within : low + length c ≤ length ws
    pub asked : AsksWithin g (Askable ws sought) limit old mid
    pub split :
        (answer : ℕ → Ordering)
        → IsSteadyRising g ws sought read answer old
        → AreSplit (with_ties sought answer) ws low (low + length c)

  -- then the search in the part is one in the whole
  pub Searches-part :
      {limit low k : ℕ} {c ws : List ℕ} {old mid new : Asking F}
      → LeadsTo limit low c ws old mid
      → (end : Result ℕ ℕ)
      → SearchesWithin g read c k sought mid end new
      → SearchesWithin g read ws (limit + k) sought old (shifted low end) new
  Searches-part leads (Ok i) s = Searches-hit leads.part leads.asked i s
  Searches-part leads (Err i) s =
      let le = s.missed in
      let inside = leads.within in
      record {
        asked = asked-part leads.part leads.asked s.asked;
        found = tt;
        missed = omega arith;
        itself = tt;
        hit = λ answer steady. tt;
        place = λ answer rises.
            IsPlace-part leads.part (with_ties sought answer) i leads.within (leads.split answer rises)
            (s.place answer (record { steady = steady-part leads.part leads.asked answer rises.steady; rising = IsRising-part leads.part (with_ties sought answer) rises.rising }));
        unequal = λ none never. refl;
      }
