use Rattle.std.proofs.Common.{sym, subst}
use Rattle.iddqd_map.specs.BulkOverwrite.{CanDisplace, HandsOver, OverwritesUntil}
use Rattle.iddqd_map.specs.Sweep.{GivesPair}
use Rattle.iddqd_map.proofs.DisplaceLemmas.{HandsOver-until, MayDisplace-can}
use Rattle.iddqd_map.proofs.map.Map.overwrite_all.Goals as goal

pub overwrite_each-inserted-requires-clause-given : goal.overwrite_each-inserted-requires-clause-given
overwrite_each-inserted-requires-clause-given g c =
    subst (CanDisplace g.I.Iterator.next_gives g.G.FnMut c.args.iter c.args.gone) (sym c.reserve-reserved.ensures.store)
    (MayDisplace-can g.I.Iterator.can_next g.I.Iterator.next_gives g.I.Iterator.remaining g.G.FnMut g.X.KeyIndex.alike
    g.X.KeyIndex.grown c.args.iter c.args.gone c.args.self.now.store c.requires.given)

pub returns-in-None-clause-overwrites : goal.returns-in-None-clause-overwrites
returns-in-None-clause-overwrites g c =
    let (items, displaced, counted, until, handed) = c.overwrite_each-inserted.ensures.overwrites in
    let mid = c.reserve-reserved.new.self in
    let rest = c.overwrite_each-inserted.new.iter in
    let new = c.overwrite_each-inserted.new.self in (
      rest,
      c.overwrite_each-inserted.new.gone,
      record {
        wanted = c.size_hint-least.result.0;
        at_most = c.size_hint-least.ensures.lower;
        roomy = mid;
        reserved = (c.reserve-reserved.result, c.reserve-reserved.ensures);
        items = items;
        counted = counted;
        displaced = displaced;
        inserts = subst (λ r. OverwritesUntil g.X.KeyIndex.alike g.X.KeyIndex.grown g.X.KeyIndex.may_need_memory g.I.Iterator.next_gives c.args.iter mid items r rest new displaced) c.in-None.is until;
        handed = handed;
      },
    )

pub returns-in-Some-clause-overwrites : goal.returns-in-Some-clause-overwrites
returns-in-Some-clause-overwrites g c =
    let (items, displaced, counted, until, handed) = c.overwrite_each-inserted.ensures.overwrites in
    let mid = c.reserve-reserved.new.self in
    let rest = c.overwrite_each-inserted.new.iter in
    let new = c.overwrite_each-inserted.new.self in (
      c.overwrite_each-inserted.new.gone,
      record {
        wanted = c.size_hint-least.result.0;
        at_most = c.size_hint-least.ensures.lower;
        roomy = mid;
        reserved = (c.reserve-reserved.result, c.reserve-reserved.ensures);
        items = items;
        counted = counted;
        displaced = displaced;
        inserts = subst (λ r. OverwritesUntil g.X.KeyIndex.alike g.X.KeyIndex.grown g.X.KeyIndex.may_need_memory g.I.Iterator.next_gives c.args.iter mid items r rest new displaced) c.in-Some.is until;
        handed = handed;
      },
    )

pub returns-in-None-clause-handed : goal.returns-in-None-clause-handed
returns-in-None-clause-handed g c =
    let (items, displaced, counted, until, handed) = c.overwrite_each-inserted.ensures.overwrites in
    let give = GivesPair g.G.FnMut in
    let last = c.overwrite_each-inserted.new.gone in
    let old = c.args.self.now in
    let new = c.overwrite_each-inserted.new.self in (
      last,
      subst (λ n. HandsOver give c.args.gone last old.store new.store n) (sym counted)
          (HandsOver-until g.X.KeyIndex.alike g.X.KeyIndex.grown g.I.Iterator.next_gives give g.X.KeyIndex.may_need_memory old
          c.args.iter c.overwrite_each-inserted.new.iter c.reserve-reserved.new.self new items displaced
          c.overwrite_each-inserted.result.1 c.args.gone last c.reserve-reserved.ensures.store c.len-items.ensures.state.valid until
          handed),
    )

pub returns-in-Some-clause-handed : goal.returns-in-Some-clause-handed
returns-in-Some-clause-handed g c =
    let (items, displaced, counted, until, handed) = c.overwrite_each-inserted.ensures.overwrites in
    let give = GivesPair g.G.FnMut in
    let last = c.overwrite_each-inserted.new.gone in
    let old = c.args.self.now in
    let new = c.overwrite_each-inserted.new.self in (
      last,
      subst (λ n. HandsOver give c.args.gone last old.store new.store n) (sym counted)
          (HandsOver-until g.X.KeyIndex.alike g.X.KeyIndex.grown g.I.Iterator.next_gives give g.X.KeyIndex.may_need_memory old
          c.args.iter c.overwrite_each-inserted.new.iter c.reserve-reserved.new.self new items displaced
          c.overwrite_each-inserted.result.1 c.args.gone last c.reserve-reserved.ensures.store c.len-items.ensures.state.valid until
          handed),
    )
