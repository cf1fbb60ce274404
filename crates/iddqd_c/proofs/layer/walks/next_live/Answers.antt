use Rattle.std.proofs.Common.{◌≡◌, ◌∙◌, ◌<◌, true, false, is_some, sym}
use Rattle.iddqd.specs.Store.{get, slot_count}
use Rattle.iddqd_layer.specs.Layer.{store_of}
use Rattle.iddqd_c.proofs.LayerLemmas.{live_here, live_later, live_none, not_live}
use Rattle.iddqd_c.proofs.layer.walks.next_live.Goals as goal

pub returns-then-is_live-clause-next : goal.returns-then-is_live-clause-next
returns-then-is_live-clause-next c =
    let s = store_of c.args.layer.now in
    let within : c.loop-ix.ix < slot_count s = rw c.slots-ix-end.ensures at c.loop-ix-test.true in
    let live : is_some (get s c.loop-ix.ix) ≡ true = rw c.new.ensures at (c.is_live.ensures.0 c.if-is_live.true) in
    c.loop-ix.invariant ∙ live_here s c.loop-ix.ix within live

pub loop-ix-preserved : goal.loop-ix-preserved
loop-ix-preserved c =
    let s = store_of c.args.layer.now in
    let within : c.loop-ix.ix < slot_count s = rw c.slots-ix-end.ensures at c.loop-ix-test.true in
    let never : is_some (get s c.loop-ix.ix) ≡ true → ⊥ = λ live.
    (let yes = c.is_live.ensures.1 (rw c.new.ensures live) in
    let both : true ≡ false = sym yes ∙ c.if-is_live.false in cc) in
    c.loop-ix.invariant ∙ live_later s c.loop-ix.ix within (not_live _ never)

pub returns-clause-none : goal.returns-clause-none
returns-clause-none c = λ _.
    c.loop-ix.invariant
    ∙ live_none (store_of c.args.layer.now) c.loop-ix.ix (rw c.slots-ix-end.ensures at c.loop-ix-test.false)
