use Rattle.std.proofs.lemmas.List.{nil_from_length}
use Rattle.std.proofs.Common.{◌≡◌, ◌∙◌, ◌∷◌, length, sym, ap, arith, rules}
use Rattle.iddqd_hash.specs.HashTable.{values}
use Rattle.iddqd_hash.specs.OpenTable.{pairs, slots_of}
use Rattle.iddqd_hash.proofs.OpenAheadLemmas.{IsMultipleOf16-count, SomeFull-pairs, pairs-full}
use Rattle.std.specs.Prelude.{drop}
use Rattle.iddqd_hash.proofs.open_table.iter.TableIterIterator.next.Goals as goal

pub next-here-requires-clause-sixteens : goal.next-here-requires-clause-sixteens
next-here-requires-clause-sixteens g c = IsMultipleOf16-count _ c.self.invariant.count

pub next-here-requires-clause-some : goal.next-here-requires-clause-some
next-here-requires-clause-some g c =
    SomeFull-pairs c.self.inside.tags.now (slots_of g.C.Cell.slot c.self.inside.tags.now c.self.inside.cells.now) c.self.invariant.probed (length c.self.inside.tags.now) c.self.inside.places.at (omega arith) (omega (arith, c.self.invariant.counted, c.if-self-eq0.false))

pair_here :
    (g : _) (c : goal.After-pair_at g)
    → pairs (drop c.self.inside.places.at (slots_of g.C.Cell.slot c.self.inside.tags.now c.self.inside.cells.now)) ≡ (
      c.pair_at.result.0,
      c.pair_at.result.1.now,
    ) ∷ pairs (drop c.next-here.new.self.at (slots_of g.C.Cell.slot c.self.inside.tags.now c.self.inside.cells.now))
pair_here g c =
    let tags = c.self.inside.tags.now in
    let slots = slots_of g.C.Cell.slot tags c.self.inside.cells.now in
    pairs-full tags slots c.self.invariant.probed _ c.next-here.result _ c.next-here.ensures.onward c.next-here.ensures.inside c.next-here.ensures.gaps c.pair_at.ensures
    ∙ ap (λ n. (c.pair_at.result.0, c.pair_at.result.1.now) ∷ pairs (drop n slots)) (sym c.next-here.ensures.behind)

pub invariant_of-self : goal.invariant_of-self
invariant_of-self g c =
    record {
      count = c.self.invariant.count;
      probed = c.self.invariant.probed;
      ahead = c.next-here.ensures.ahead;
      counted = let same = ap length (pair_here g c) in omega (arith, same, c.self.invariant.counted);
    }

pub returns-clause-steps : goal.returns-clause-steps
returns-clause-steps g c = sym c.self.view_is ∙ ap values (pair_here g c)

pub returns-clause-goes : goal.returns-clause-goes
returns-clause-goes g c = let steps = returns-clause-steps g c in search rules

pub returns-then-self-eq0-clause-steps : goal.returns-then-self-eq0-clause-steps
returns-then-self-eq0-clause-steps g c =
    let none = sym c.self.view_is ∙ ap values (nil_from_length _ (sym c.self.invariant.counted ∙ c.if-self-eq0.true)) in
    (none, none)
