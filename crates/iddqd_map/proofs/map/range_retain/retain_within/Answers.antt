use Rattle.std.proofs.Common.{ℕ, None, Some, ◌≡◌, ◌≢◌, ◌∙◌, true, false, refl, sym, ap, subst, arith}
use Rattle.std.specs.Fn.{TakesAt, CalledAt}
use Rattle.iddqd.specs.ItemSet.{SizedStore}
use Rattle.iddqd.specs.Store.{get, removed}
use Rattle.iddqd_keys.specs.KeyWalk.{IsFirstHit}
use Rattle.iddqd_keys.specs.Bounds.{is_in_bounds}
use Rattle.iddqd_keys.specs.Scan.{IsHit}
use Rattle.iddqd_keys.proofs.NextLemmas.{IsNextHit-between}
use Rattle.iddqd_map.specs.Bulk.{AsksAndGives, GivesIfRefused}
use Rattle.iddqd_map.proofs.RangeIntoLemmas.{gives-if}
use Rattle.iddqd_map.proofs.RangeRetainLemmas.{takes-at, AsksFrom-asked, RetainsFrom, RetainsFrom-none, RetainsFrom-asked, RetainsWithin-from, first_passes, limit_stays, live_then, next_passes, no_more_live, others_stay, to_ask-asked}
use Rattle.iddqd_map.specs.Ranges.{TakesItem, itself}
use Rattle.iddqd_map.proofs.map.range_retain.retain_within.Goals as goal

pub loop-next-init : goal.loop-next-init
loop-next-init g c =
    let s = c.args.items.now.store in
    let compare = g.X.OrderedAt.order in
    let within = is_in_bounds g.X.OrderedAt.compare c.args.bounds.now in
    let ix : ℕ = c.in-Some.first-1-given.0.0.0 in
    let first : IsFirstHit itself compare s within (Some ix) = c.in-Some.ensures.first in
    record {
      kept = c.requires.indexed;
      stands = c.in-Some.ensures.stands;
      can = λ n. c.requires.can_ask.at n (Some ix) first;
      can_give = λ n. c.requires.can_give.at n (Some ix) first;
      among = λ j x there. there;
      passing = first_passes itself compare s within (Some ix) first;
      retains = λ new last.
          RetainsWithin-from compare g.met.X.StepsAt.total within (AsksAndGives g.G.FnMut (CalledAt g.F.FnMut))
          (c.args.keep.now, c.args.gone.now) s new last (Some ix) first;
      others = λ j other. refl;
      fewer = omega arith;
      limit = refl;
      slots = refl;
      capacity = refl;
      cells = refl;
    }

pub retain_at-then-requires-clause-takes : goal.retain_at-then-requires-clause-takes
retain_at-then-requires-clause-takes g c = λ item live.
    let compare = g.X.OrderedAt.order in
    let within = is_in_bounds g.X.OrderedAt.compare c.args.bounds.now in
    takes-at compare within (TakesAt g.F.FnMut) (CalledAt g.F.FnMut) c.loop-next.items.store c.loop-next.keep c.loop-next.next c.in-Some-next.ix item c.loop-next.invariant.can c.in-Some-next.is live

pub retain_at-then-requires-clause-gives : goal.retain_at-then-requires-clause-gives
retain_at-then-requires-clause-gives g c = λ item live.
    let compare = g.X.OrderedAt.order in
    let within = is_in_bounds g.X.OrderedAt.compare c.args.bounds.now in
    takes-at compare within (TakesItem g.G.FnMut) (GivesIfRefused g.G.FnMut) c.loop-next.items.store c.loop-next.gone c.loop-next.next c.in-Some-next.ix item c.loop-next.invariant.can_give c.in-Some-next.is live

pub loop-next-smaller : goal.loop-next-smaller
loop-next-smaller g c =
    let i = c.loop-next.invariant in
    let s = c.loop-next.items.store in
    let now = c.retain_at-then.new.items.store in
    let ix = c.in-Some-next.ix in
    let did = c.retain_at-then.ensures in
    let compare = g.X.OrderedAt.order in
    let cmp = g.X.OrderedAt.compare in
    let within = is_in_bounds cmp c.args.bounds.now in
    let next = c.retain_at-then.result.1 in
    let hit : IsHit s within ix = i.passing ix c.in-Some-next.is in
    let is = IsNextHit-between itself compare cmp g.met.X.StepsAt.fits s ix c.args.bounds.now.lower c.args.bounds.now.upper next hit did.next in
    let smaller = to_ask-asked compare g.met.X.StepsAt.total within (CalledAt g.F.FnMut) c.loop-next.keep c.retain_at-then.new.keep c.retain_at-then.new.keep s now ix hit.0 next hit.1 hit.2 is now c.retain_at-then.result.0
    (λ yes. ap (λ (z : SizedStore _). z.store) (did.kept yes)) (λ other. ap (λ (z : SizedStore _). z.store) (did.removed other)) (did.asked hit.0 hit.1) in
    rw (← c.in-Some-next.is) at smaller

pub loop-next-preserved : goal.loop-next-preserved
loop-next-preserved g c =
    let i = c.loop-next.invariant in
    let old = c.args.items.now.store in
    let s = c.loop-next.items.store in
    let now = c.retain_at-then.new.items.store in
    let keep = c.loop-next.keep in
    let gone = c.loop-next.gone in
    let kept_then = c.retain_at-then.new.keep in
    let gone_then = c.retain_at-then.new.gone in
    let f : _ × _ = (keep, gone) in
    let after : _ × _ = (kept_then, gone_then) in
    let ix = c.in-Some-next.ix in
    let did = c.retain_at-then.ensures in
    let b = c.retain_at-then.result.0 in
    let compare = g.X.OrderedAt.order in
    let total = g.met.X.StepsAt.total in
    let cmp = g.X.OrderedAt.compare in
    let ask = AsksAndGives g.G.FnMut (CalledAt g.F.FnMut) in
    let within = is_in_bounds cmp c.args.bounds.now in
    let next = c.retain_at-then.result.1 in
    let hit : IsHit s within ix = i.passing ix c.in-Some-next.is in
    let (item, live, passes) = hit in
    let is = IsNextHit-between itself compare cmp g.met.X.StepsAt.fits s ix c.args.bounds.now.lower c.args.bounds.now.upper next hit did.next in
    let kept : b ≡ true → now ≡ s = λ yes. ap (λ (z : SizedStore _). z.store) (did.kept yes) in
    let less : b ≡ false → now ≡ removed s ix = λ other. ap (λ (z : SizedStore _). z.store) (did.removed other) in
    let answered = did.asked item live in
    let gives = gives-if (CalledAt g.F.FnMut) g.G.FnMut gone item b gone_then did.ungiven (λ no. did.given no item live) in
    let asked : ask f item b after = (answered, gives) in
    let was = i.among ix item live in
    record {
      kept = did.indexed;
      stands = did.stands;
      can = AsksFrom-asked compare within (TakesAt g.F.FnMut) (CalledAt g.F.FnMut) total s ix item live keep kept_then c.loop-next.next next now b i.can c.in-Some-next.is answered is kept less;
      can_give = AsksFrom-asked compare within (TakesItem g.G.FnMut) (GivesIfRefused g.G.FnMut) total s ix item live gone gone_then c.loop-next.next next now b i.can_give c.in-Some-next.is gives is kept less;
      among = λ j x there. i.among j x (live_then compare total within ask f after after s now ix item next live passes is now b kept less asked j x there);
      passing = next_passes compare total within ask f after after s now ix item next live passes is now b kept less asked;
      retains = λ new last from.
          let then = RetainsFrom-asked compare total within ask f after last s new ix item next live passes is now b kept less asked from in
          i.retains new last (subst (λ n. RetainsFrom compare total within ask f s n new last) (sym c.in-Some-next.is) then);
      others = λ j other.
          let apart : j ≢ ix = λ same. other (item, ap (get old) same ∙ was, passes) in
          others_stay compare total within ask f after after s now ix item next live passes is now b kept less asked j apart ∙ i.others j other;
      fewer = omega (arith, i.fewer, no_more_live compare total within ask f after after s now ix item next live passes is now b kept less asked i.kept.valid);
      limit = limit_stays compare total within ask f after after s now ix item next live passes is now b kept less asked ∙ i.limit;
      slots = did.slots ∙ i.slots;
      capacity = did.capacity ∙ i.capacity;
      cells = did.cells ∙ i.cells;
    }

pub returns-clause-asked : goal.returns-clause-asked
returns-clause-asked g c =
    let i = c.loop-next.invariant in
    let s = c.loop-next.items.store in
    let last : _ × _ = (c.loop-next.keep, c.loop-next.gone) in
    let compare = g.X.OrderedAt.order in
    let total = g.met.X.StepsAt.total in
    let within = is_in_bounds g.X.OrderedAt.compare c.args.bounds.now in
    let ask = AsksAndGives g.G.FnMut (CalledAt g.F.FnMut) in
    let none = RetainsFrom-none compare total within ask last s in
    i.retains s last (subst (λ n. RetainsFrom compare total within ask last s n s last) (sym c.in_default-next.is) none)

pub returns-in_default-clause-asked : goal.returns-in_default-clause-asked
returns-in_default-clause-asked g c =
    let s = c.args.items.now.store in
    let f : _ × _ = (c.args.keep.now, c.args.gone.now) in
    let compare = g.X.OrderedAt.order in
    let total = g.met.X.StepsAt.total in
    let within = is_in_bounds g.X.OrderedAt.compare c.args.bounds.now in
    let ask = AsksAndGives g.G.FnMut (CalledAt g.F.FnMut) in
    RetainsWithin-from compare total within ask f s s f None c.in_default.ensures.first (RetainsFrom-none compare total within ask f s)
