use Rattle.iddqd_order.proofs.Names.{arith, ◌≡◌, ℕ, List, ◌+◌, ◌-◌, ◌/◌, ◌≤◌, digits, ◌<◌, length, get_or, Contains, refl, sym, ◌∙◌, ap, get_or_default, Askable, with_ties}
use Rattle.iddqd_order.proofs.AskLemmas.{asks_none, asks_then, asks_more, CanAsk-parts, Steady-later}
use Rattle.iddqd_order.proofs.DigitLemmas.{digits-half, digits-mono}
use Rattle.iddqd_order.proofs.SearchLemmas.{Askable-any, Askable-apart, IsPlace-from_split, split-init, split-less, split-greater}
use Rattle.iddqd_order.proofs.btree_table.search.search.Goals as goal

-- what is read at a place
met : (xs : List ℕ) (i x : ℕ) → i < length xs → x ≡ get_or xs i x → (get_or xs i 0 ≡ x) × Contains xs x
met xs i x lt is = (sym (is ∙ get_or_default xs i x 0 lt), (i, lt, sym is))

-- one more ask about a part of at most half as many
fewer : (k d part most : ℕ) → 0 < d → part ≤ d / 2 → k + digits d ≤ most → k + 1 + digits part ≤ most
fewer k d part most some half within =
    let less = digits-mono part (d / 2) half in
    let one = digits-half d some in
    omega arith

pub loop-low-init : goal.loop-low-init
loop-low-init g c = record {
  ordered = omega arith;
  within = omega arith;
  asked = (0, (let most = digits-mono (length c.args.items.now - 0) (length c.args.items.now) (omega arith) in omega arith), asks_none g.F.FnMut (Askable c.args.items.now c.args.sought.now) _);
  split = λ answer s. split-init (with_ties c.args.sought.now answer) c.args.items.now;
}

pub loop-low-preserved-in-Less : goal.loop-low-preserved-in-Less
loop-low-preserved-in-Less g c =
    let asked = c.loop-low.invariant.asked in
    let m = met c.args.items.now ((c.loop-low.low + c.loop-low.high) / 2) _ (omega arith) c.index-items-middle.is in
    record {
      ordered = omega arith;
      within = omega arith;
      asked = (asked.0 + 1, fewer asked.0 (c.loop-low.high - c.loop-low.low) _ _ (omega arith) (omega arith) asked.1, asks_then g.F.FnMut (Askable c.args.items.now c.args.sought.now) asked.2 (c.in-Less.ensures.asks _ m.1));
      split = λ answer s.
          split-less s.rising (omega arith) (c.loop-low.invariant.split answer s)
          (ap (with_ties c.args.sought.now answer) m.0 ∙ sym (c.in-Less.ensures.steady _ answer m.1 (Steady-later g.F.FnMut _ asked.2.after s.steady)));
    }

pub loop-low-preserved : goal.loop-low-preserved
loop-low-preserved g c =
    let asked = c.loop-low.invariant.asked in
    let m = met c.args.items.now ((c.loop-low.low + c.loop-low.high) / 2) _ (omega arith) c.index-items-middle.is in
    record {
      ordered = omega arith;
      within = omega arith;
      asked = (asked.0 + 1, fewer asked.0 (c.loop-low.high - c.loop-low.low) _ _ (omega arith) (omega arith) asked.1, asks_then g.F.FnMut (Askable c.args.items.now c.args.sought.now) asked.2 (c.in-Greater.ensures.asks _ m.1));
      split = λ answer s.
          split-greater s.rising (omega arith) (c.loop-low.invariant.split answer s)
          (ap (with_ties c.args.sought.now answer) m.0 ∙ sym (c.in-Greater.ensures.steady _ answer m.1 (Steady-later g.F.FnMut _ asked.2.after s.steady)));
    }

pub returns-in-Equal : goal.returns-in-Equal
returns-in-Equal g c =
    let asked = c.loop-low.invariant.asked in
    let m = met c.args.items.now ((c.loop-low.low + c.loop-low.high) / 2) _ (omega arith) c.index-items-middle.is in
    let asks = asked.1 in
    record {
      asked =
          asks_more g.F.FnMut _
          (let one = digits-half (c.loop-low.high - c.loop-low.low) (omega arith) in omega arith)
          (asks_then g.F.FnMut (Askable c.args.items.now c.args.sought.now) asked.2 (c.in-Equal.ensures.asks _ m.1));
      found = omega arith;
      missed = tt;
      itself = λ ix same. m.0 ∙ c.in-Equal.ensures.itself refl ix same;
      hit = λ answer s. ap (with_ties c.args.sought.now answer) m.0 ∙ sym (c.in-Equal.ensures.steady _ answer m.1 (Steady-later g.F.FnMut _ asked.2.after s));
      place = λ answer s. tt;
      unequal = λ none never. absurd (c.in-Equal.ensures.unequal none never refl);
    }

pub returns : goal.returns
returns g c =
    let asks = c.loop-low.invariant.asked.1 in
    record {
      asked = asks_more g.F.FnMut _ (omega arith) c.loop-low.invariant.asked.2;
      found = tt;
      missed = omega arith;
      itself = tt;
      hit = λ answer s. tt;
      place = λ answer s. IsPlace-from_split (omega arith) (omega arith) c.loop-low.invariant.within (c.loop-low.invariant.split answer s);
      unequal = λ none never. refl;
    }

pub compare-requires-clause-any : goal.compare-requires-clause-any
compare-requires-clause-any g c none =
    let can = CanAsk-parts g.F.FnMut (Askable c.args.items.now c.args.sought.now) c.requires.each c.requires.again in
    can.at _ _ c.loop-low.invariant.asked.2.after _
    (Askable-any c.args.items.now c.args.sought.now _ none (met _ _ _ (omega arith) c.index-items-middle.is).1)

pub compare-requires-clause-other : goal.compare-requires-clause-other
compare-requires-clause-other g c ix some apart =
    let can = CanAsk-parts g.F.FnMut (Askable c.args.items.now c.args.sought.now) c.requires.each c.requires.again in
    can.at _ _ c.loop-low.invariant.asked.2.after _
    (Askable-apart c.args.items.now c.args.sought.now _ ix some apart (met _ _ _ (omega arith) c.index-items-middle.is).1)
