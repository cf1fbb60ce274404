use Rattle.std.proofs.Common.{rules, true, ◌≡◌, ◌∙◌, None, Some, refl, sym, ap, arith}
use Rattle.iddqd.specs.ItemSet.{SizedStore}
use Rattle.iddqd.specs.LiveItems.{live_items}
use Rattle.iddqd.specs.Store.{get, live_count}
use Rattle.iddqd.proofs.LiveCountLemmas.{live_count-removed}
use Rattle.iddqd.proofs.LiveLemmas.{item_at}
use Rattle.iddqd_hash.proofs.AskLemmas.{CanAsk-asked, CanAsk-takes}
use Rattle.iddqd_map.specs.BulkOverwrite.{GivesSomewhere, TakesAnywhere}
use Rattle.iddqd_map.proofs.DisplaceLemmas.{Displacing-next, Displacing-none, GivesReported-all, displaced_live, displaced_room, displaced_was}
use Rattle.iddqd_map.proofs.OverwriteLemmas.{no_next}
use Rattle.iddqd_map.proofs.RetainLemmas.{Contains-live}
use Rattle.iddqd_map.proofs.map.bulk_overwrites.give_reported.Goals as goal

pub loop-next-init : goal.loop-next-init
loop-next-init g c = record {
  map = c.requires.map;
  can = c.requires.can_give;
  enough = λ blocks enough. enough;
  displacing = Displacing-none _ c.args.items.now.store _ _ _ _ c.requires.first;
  slots = refl;
  capacity = refl;
  cells = refl;
}

pub give_entry-requires-clause-live : goal.give_entry-requires-clause-live
give_entry-requires-clause-live g c =
    displaced_live _ _ _ _ _ _ _ _ c.loop-next.invariant.displacing c.in-Some.ix c.in-Some.is c.requires.live

pub give_entry-requires-clause-given : goal.give_entry-requires-clause-given
give_entry-requires-clause-given g c = λ item live.
    let old = c.args.items.now.store in
    let i = c.loop-next.invariant in
    let was : get old c.in-Some.ix ≡ Some item = sym (displaced_was _ _ _ _ _ _ _ _ i.displacing c.in-Some.ix c.in-Some.is) ∙ live in
    CanAsk-takes (TakesAnywhere g.G.FnMut) (GivesSomewhere g.G.FnMut) c.loop-next.gone (live_items old) item i.can
    (Contains-live old c.in-Some.ix item was) c.in-Some.ix

pub loop-next-smaller : goal.loop-next-smaller
loop-next-smaller g c =
    let i = c.loop-next.invariant in
    let s = c.loop-next.items.store in
    let ix = c.in-Some.ix in
    let (item, live) = item_at s ix (displaced_live _ _ _ _ _ _ _ _ i.displacing ix c.in-Some.is c.requires.live) in
    let gone = ap (λ (z : SizedStore _). live_count z.store) c.give_entry.ensures.removed in
    omega (arith, live_count-removed s ix item i.map.valid live, gone)

pub loop-next-preserved : goal.loop-next-preserved
loop-next-preserved g c =
    let i = c.loop-next.invariant in
    let old = c.args.items.now.store in
    let s = c.loop-next.items.store in
    let ix = c.in-Some.ix in
    let did = c.give_entry.ensures in
    let (item, live) = item_at s ix (displaced_live _ _ _ _ _ _ _ _ i.displacing ix c.in-Some.is c.requires.live) in
    let was : get old ix ≡ Some item = sym (displaced_was _ _ _ _ _ _ _ _ i.displacing ix c.in-Some.is) ∙ live in
    let gives = did.given item live in
    record {
      map = did.map;
      can =
          CanAsk-asked (TakesAnywhere g.G.FnMut) (GivesSomewhere g.G.FnMut) c.loop-next.gone (live_items old) item
          true c.give_entry.new.gone i.can (Contains-live old ix item was) (ix, gives);
      enough = λ blocks enough. did.enough blocks (i.enough blocks enough);
      displacing =
          Displacing-next _ _ _ _ _ _ _ _ i.displacing ix item c.give_entry.new.gone _ _ _ c.in-Some.is
          c.next_reported-next.ensures.next live gives (ap (λ (z : SizedStore _). z.store) did.removed)
          (omega (arith, did.items_room), λ plan blocks enough. did.roomy plan blocks (i.enough blocks enough));
      slots = ap (λ (z : SizedStore _). z.capacity) did.removed ∙ i.slots;
      capacity = did.capacity ∙ i.capacity;
      cells = did.cells ∙ i.cells;
    }

pub returns-clause-given : goal.returns-clause-given
returns-clause-given g c =
    let none : c.loop-next.next ≡ None = no_next c.loop-next.next (search rules) in
    GivesReported-all _ _ _ _ _ _ _ _ c.loop-next.invariant.displacing none

pub returns-clause-room : goal.returns-clause-room
returns-clause-room g c =
    let none : c.loop-next.next ≡ None = no_next c.loop-next.next (search rules) in
    (displaced_room _ _ _ _ _ _ _ _ c.loop-next.invariant.displacing none c.requires.some).0

pub returns-clause-roomy : goal.returns-clause-roomy
returns-clause-roomy g c =
    let none : c.loop-next.next ≡ None = no_next c.loop-next.next (search rules) in
    (displaced_room _ _ _ _ _ _ _ _ c.loop-next.invariant.displacing none c.requires.some).1
