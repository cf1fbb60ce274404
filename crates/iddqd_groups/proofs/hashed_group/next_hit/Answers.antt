use Rattle.std.proofs.Common.{◌≡◌, ◌∙◌, false, sym, ap, arith}
use Rattle.iddqd.proofs.StoreLemmas.{contains_tail}
use Rattle.iddqd_by_hash.specs.Hashed.{passes}
use Rattle.iddqd_groups.specs.HashedGroup.{hits_among}
use Rattle.iddqd_groups.proofs.GroupLemmas.{filter-refused}
use Rattle.iddqd_groups.proofs.hashed_group.next_hit.Goals as goal

pub returns-then-stands_for_item-clause-live : goal.returns-then-stands_for_item-clause-live
returns-then-stands_for_item-clause-live g c =
    λ ix here. c.passing.invariant.0 ix (rw c.in-Some.ensures.steps (contains_tail _ ix _ here))

pub passing-preserved : goal.passing-preserved
passing-preserved g c =
    let s = c.args.items.now.store in
    let passing = g.Q.ItemHashQuery.stands_for_item c.args.query.now in
    let refused : passes s passing c.in-Some.ix ≡ false =
    rw (passes, c.index.ensures) (sym c.stands_for_item.ensures ∙ c.if-stands_for_item.false) in (
      λ ix here. c.passing.invariant.0 ix (rw c.in-Some.ensures.steps (contains_tail _ ix _ here)),
      c.passing.invariant.1 ∙ ap (hits_among s passing) c.in-Some.ensures.steps
          ∙ filter-refused (passes s passing) c.in-Some.ix _ refused,
      omega (arith, c.passing.invariant.2, c.in-Some.ensures.bound),
    )
