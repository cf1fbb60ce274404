use Rattle.std.proofs.Common.{subst}
use Rattle.iddqd_map.specs.BulkOverwrite.{Displaces}
use Rattle.iddqd_map.specs.Sweep.{GivesPair}
use Rattle.iddqd_map.proofs.DisplaceLemmas.{Overwriting-first, Overwriting-one, can-stored}
use Rattle.iddqd_map.proofs.map.Map.overwrite_each.Goals as goal

pub loop-answer-init : goal.loop-answer-init
loop-answer-init g c =
    Overwriting-first g.I.Iterator.can_next g.I.Iterator.next_gives g.I.Iterator.remaining g.G.FnMut g.X.KeyIndex.alike g.X.KeyIndex.grown
    c.args.iter.now c.args.self.now c.args.gone.now c.requires.next c.requires.fits.0 c.requires.valid c.requires.given

pub overwrite_next-requires-clause-can_give : goal.overwrite_next-requires-clause-can_give
overwrite_next-requires-clause-can_give g c =
    can-stored g.I.Iterator.can_next g.I.Iterator.next_gives g.I.Iterator.remaining g.G.FnMut g.X.KeyIndex.alike g.X.KeyIndex.grown
    c.loop-answer.iter c.loop-answer.gone c.loop-answer.self.store c.loop-answer.invariant.may_give

pub loop-answer-preserved : goal.loop-answer-preserved
loop-answer-preserved g c =
    let (item, step, goes, did) = c.in-Some.ensures in
    let now = c.loop-answer.self in
    let new = c.overwrite_next.new.self in
    let last = c.overwrite_next.new.gone in
    let alike = g.X.KeyIndex.alike in
    let grown = g.X.KeyIndex.grown in
    let (more, at, given) = subst (λ a. Displaces alike grown g.X.KeyIndex.may_need_memory (GivesPair g.G.FnMut) now c.loop-answer.gone item a new last) c.in_default-answer.is did in
    Overwriting-one g.I.Iterator.can_next g.I.Iterator.next_gives g.I.Iterator.remaining g.G.FnMut alike grown
    c.args.iter.now c.loop-answer.iter c.overwrite_next.new.iter c.args.self.now now c.args.gone.now c.loop-answer.gone
    c.loop-answer.inserted item c.loop-answer.invariant step goes c.in_default-answer.field-0 new last more at given
