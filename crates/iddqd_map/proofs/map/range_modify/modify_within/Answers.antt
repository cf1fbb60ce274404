use Rattle.std.proofs.Common.{◌∙◌, ℕ, refl}
use Rattle.iddqd.proofs.LiveLemmas.{live_at}
use Rattle.iddqd_keys.proofs.NextLemmas.{IsNextHit-between}
use Rattle.iddqd_map.specs.Ranges.{itself}
use Rattle.iddqd_map.proofs.MapLemmas.{IsIndexed-rebound}
use Rattle.iddqd_map.proofs.ModifyLemmas.{ModifyingWithin-first, ModifyingWithin-all, ModifyingWithin-takes, ModifyingWithin-one, ModifyingWithin-next, ModifyingWithin-fewer, ModifiesWithin-none, level_between}
use Rattle.iddqd_map.proofs.map.range_modify.modify_within.Goals as goal

pub loop-next-init : goal.loop-next-init
loop-next-init g c =
    let ix : ℕ = c.in-Some.first-1-given.0.0.0 in
    record {
      kept = c.requires.indexed;
      stands = c.in-Some.ensures.stands;
      modifying = ModifyingWithin-first _ _ _ _ _ _ _ _ _ ix c.requires.callable c.in-Some.ensures.first;
      slots = refl;
    }

pub modify_slot-requires : goal.modify_slot-requires
modify_slot-requires g c = λ item live.
    let i = c.loop-next.invariant in
    let ix = c.in-Some-next.ix in
    ModifyingWithin-takes _ _ _ _ _ _ _ _ _ _ ix _ _ _ i.modifying c.in-Some-next.is item live

pub next_between-next-requires-clause-indexed : goal.next_between-next-requires-clause-indexed
next_between-next-requires-clause-indexed g c =
    let i = c.loop-next.invariant in
    let ix = c.in-Some-next.ix in
    let now = c.loop-next.items.store in
    let one = ModifyingWithin-one _ _ _ _ _ _ _ _ _ _ ix _ _ _ i.modifying c.in-Some-next.is c.modify_slot.new.items _ _ c.requires.keeps c.modify_slot.ensures.called in
    rw one.is (g.met.X.IndexLaws.modified c.args.indexes.now c.args.state.now now ix one.item one.left i.kept.indexed one.live one.same)

pub loop-next-smaller : goal.loop-next-smaller
loop-next-smaller g c =
    let i = c.loop-next.invariant in
    let ix = c.in-Some-next.ix in
    let then = c.modify_slot.new.items in
    let one = ModifyingWithin-one _ _ _ _ _ _ _ _ _ _ ix _ _ _ i.modifying c.in-Some-next.is then _ _ c.requires.keeps c.modify_slot.ensures.called in
    let is_next = IsNextHit-between itself _ _ g.met.X.StepsAt.fits then.store ix c.args.bounds.now.lower c.args.bounds.now.upper _ one.hit c.next_between-next.ensures.next in
    ModifyingWithin-fewer _ _ _ _ _ _ _ _ _ _ ix _ _ _ i.modifying c.in-Some-next.is then _ _ one _ is_next

pub loop-next-preserved : goal.loop-next-preserved
loop-next-preserved g c =
    let i = c.loop-next.invariant in
    let ix = c.in-Some-next.ix in
    let now = c.loop-next.items.store in
    let then = c.modify_slot.new.items in
    let one = ModifyingWithin-one _ _ _ _ _ _ _ _ _ _ ix _ _ _ i.modifying c.in-Some-next.is then _ _ c.requires.keeps c.modify_slot.ensures.called in
    let is_next = IsNextHit-between itself _ _ g.met.X.StepsAt.fits then.store ix c.args.bounds.now.lower c.args.bounds.now.upper _ one.hit c.next_between-next.ensures.next in
    record {
      kept = IsIndexed-rebound _ c.args.state.now now then.store ix one.left one.is i.kept.valid (live_at now ix one.item one.live)
          (g.met.X.IndexLaws.modified c.args.indexes.now c.args.state.now now ix one.item one.left i.kept.indexed one.live one.same);
      stands = c.next_between-next.ensures.stands;
      modifying = ModifyingWithin-next _ _ _ _ _ _ _ _ _ _ ix _ _ _ i.modifying c.in-Some-next.is then _ _ one _ is_next i.kept.valid;
      slots = one.slots ∙ i.slots;
    }

pub returns-clause-modified : goal.returns-clause-modified
returns-clause-modified g c =
    let w = rw c.in_default-next.is at c.loop-next.invariant.modifying in
    ModifyingWithin-all _ _ _ _ _ _ _ _ _ _ _ _ w

pub returns-in_default-clause-modified : goal.returns-in_default-clause-modified
returns-in_default-clause-modified g c =
    let level = level_between g.X.OrderedAt.order g.X.OrderedAt.compare g.met.X.StepsAt.fits c.args.bounds.now.lower c.args.bounds.now.upper in
    ModifiesWithin-none _ g.X.KeyIndex.keys _ g.met.X.StepsAt.total g.met.X.StepsAt.keys_tie _ level _ _ c.in_default.ensures.first
