use Rattle.std.proofs.Common.{◌≡◌, ◌∙◌, ◌∷◌, true, false, length, sym, ap, subst, arith, Contains}
use Rattle.iddqd.proofs.StoreLemmas.{contains_head, contains_tail}
use Rattle.iddqd_by_hash.specs.Hashed.{passes}
use Rattle.iddqd_groups.specs.HashedGroup.{hits_among}
use Rattle.iddqd_groups.specs.LinkedTable.{behind}
use Rattle.iddqd_groups.proofs.GroupLemmas.{filter-passed, filter-refused}
use Rattle.iddqd_map.specs.Groups.{listed_from}
use Rattle.iddqd_groups.proofs.group_steps.first_from.Goals as goal

pub index-requires : goal.index-requires
index-requires g c =
    let after = behind c.args.table.now in
    let ix = c.in-Some.ix in
    c.requires.live ix
    (c.loop-at.invariant.present ix (subst (λ l. Contains l ix) (sym (ap (listed_from after) c.in-Some.is)) (contains_head ix (after ix))))

pub next_under-at-requires : goal.next_under-at-requires
next_under-at-requires g c =
    let after = behind c.args.table.now in
    let ix = c.in-Some.ix in
    c.loop-at.invariant.present ix (subst (λ l. Contains l ix) (sym (ap (listed_from after) c.in-Some.is)) (contains_head ix (after ix)))

pub loop-at-smaller : goal.loop-at-smaller
loop-at-smaller g c =
    let after = behind c.args.table.now in
    let ix = c.in-Some.ix in
    let whole = ap (listed_from after) c.in-Some.is ∙ ap (λ l. ix ∷ l) c.next_under-at.ensures.next in
    let long = ap length whole in
    omega (arith, long)

pub loop-at-preserved : goal.loop-at-preserved
loop-at-preserved g c =
    let after = behind c.args.table.now in
    let s = c.args.items.now.store in
    let test = g.Q.ItemHashQuery.stands_for_item c.args.query.now in
    let ix = c.in-Some.ix in
    let rest = listed_from after c.next_under-at.result in
    let i = c.loop-at.invariant in
    let whole = ap (listed_from after) c.in-Some.is ∙ ap (λ l. ix ∷ l) c.next_under-at.ensures.next in
    let refused : passes s test ix ≡ false =
    rw (passes, c.index.ensures) (sym c.stands_for_item.ensures ∙ c.if-stands_for_item.false) in
    record {
      present = λ j here. i.present j (subst (λ l. Contains l j) (sym whole) (contains_tail ix j rest here));
      same = i.same ∙ ap (hits_among s test) whole ∙ filter-refused (passes s test) ix rest refused;
    }

pub returns-then-stands_for_item : goal.returns-then-stands_for_item
returns-then-stands_for_item g c =
    let after = behind c.args.table.now in
    let s = c.args.items.now.store in
    let test = g.Q.ItemHashQuery.stands_for_item c.args.query.now in
    let ix = c.in-Some.ix in
    let passed : passes s test ix ≡ true =
    rw (passes, c.index.ensures) (sym c.stands_for_item.ensures ∙ c.if-stands_for_item.true) in
    c.loop-at.invariant.same ∙ ap (hits_among s test) (ap (listed_from after) c.in-Some.is)
    ∙ filter-passed (passes s test) ix (after ix) passed

pub returns : goal.returns
returns g c =
    let after = behind c.args.table.now in
    let s = c.args.items.now.store in
    let test = g.Q.ItemHashQuery.stands_for_item c.args.query.now in
    c.loop-at.invariant.same ∙ ap (hits_among s test) (ap (listed_from after) c.in_default.is)
