use Rattle.std.proofs.Common.{◌∙◌, ap, arith}
use Rattle.iddqd.specs.ItemSet.{SizedStore}
use Rattle.iddqd.specs.Store.{live_count}
use Rattle.iddqd.proofs.LiveLemmas.{item_at}
use Rattle.iddqd.proofs.LiveCountLemmas.{live_count-rebound}
use Rattle.iddqd_map.proofs.MapLemmas.{IsIndexed-rebound}
use Rattle.iddqd_map.proofs.map.replaces.replace.Goals as goal

pub returns-clause-map : goal.returns-clause-map
returns-clause-map g c =
    IsIndexed-rebound _ c.args.state.now c.args.items.now.store _ c.args.ix c.args.item
    (ap (λ (s : SizedStore _). s.store) c.replace.ensures.rebound) c.requires.map.valid c.requires.live
    c.commit_move.ensures.indexed

pub returns-clause-count : goal.returns-clause-count
returns-clause-count g c =
    let s = c.args.items.now.store in
    let (was, live) = item_at s c.args.ix c.requires.live in
    ap (λ (s : SizedStore _). live_count s.store) c.replace.ensures.rebound
    ∙ live_count-rebound s c.args.ix c.args.item was c.requires.map.valid live

pub returns-clause-room : goal.returns-clause-room
returns-clause-room g c =
    let count = returns-clause-count g c in
    let slots = ap (λ (s : SizedStore _). s.capacity) c.replace.ensures.rebound in
    let limit = ap (λ (s : SizedStore _). s.store.limit) c.replace.ensures.rebound in
    omega (arith, count, slots, limit)
