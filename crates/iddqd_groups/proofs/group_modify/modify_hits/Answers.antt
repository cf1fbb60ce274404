use Rattle.std.proofs.Common.{rules, ◌≡◌, ◌∙◌, true, false, length, refl, sym, ap, arith}
use Rattle.iddqd.specs.ItemSet.{SizedStore}
use Rattle.iddqd_by_hash.specs.Hashed.{passes}
use Rattle.iddqd_groups.proofs.GroupLemmas.{length-kept}
use Rattle.iddqd_groups.proofs.GroupModifyLemmas.{ModifyingHits-first, ModifyingHits-takes, ModifyingHits-live, ModifyingHits-passed, ModifyingHits-called, ModifyingHits-calls, ModifyingHits-each, ModifyingHits-counted}
use Rattle.iddqd_groups.proofs.group_modify.modify_hits.Goals as goal

pub loop-ix-init : goal.loop-ix-init
loop-ix-init g c =
    let test = g.Q.ItemHashQuery.stands_for_item c.args.query.now in
    record {
      modifying = ModifyingHits-first g.F.FnMut test c.args.f.now c.args.indexes.rest c.args.items.now.store c.requires.valid c.requires.once c.requires.live c.requires.callable;
      slots = refl;
    }

pub modify_hit-requires : goal.modify_hit-requires
modify_hit-requires g c = λ item live passed.
    let test = g.Q.ItemHashQuery.stands_for_item c.args.query.now in
    ModifyingHits-takes g.F.FnMut test c.args.f.now c.args.indexes.rest c.args.items.now.store c.loop-ix.items.store c.loop-ix.indexes.rest _ c.in-Some.ix c.loop-ix.f c.loop-ix.count c.loop-ix.invariant.modifying c.in-Some.ensures.steps item live passed

pub overflow_add-count : goal.overflow_add-count
overflow_add-count g c =
    let test = g.Q.ItemHashQuery.stands_for_item c.args.query.now in
    let counted = c.loop-ix.invariant.modifying.counted in
    let most = length-kept (passes c.args.items.now.store test) c.args.indexes.rest in
    omega (arith, counted, most, c.requires.few)

pub loop-ix-smaller-then-modify_hit : goal.loop-ix-smaller-then-modify_hit
loop-ix-smaller-then-modify_hit g c = omega (arith, ap length c.in-Some.ensures.steps)

pub loop-ix-preserved-then-modify_hit : goal.loop-ix-preserved-then-modify_hit
loop-ix-preserved-then-modify_hit g c =
    let test = g.Q.ItemHashQuery.stands_for_item c.args.query.now in
    let f = c.args.f.now in
    let under = c.args.indexes.rest in
    let old = c.args.items.now.store in
    let now = c.loop-ix.items.store in
    let state = c.loop-ix.f in
    let count = c.loop-ix.count in
    let ix = c.in-Some.ix in
    let i = c.loop-ix.invariant in
    let at = c.in-Some.ensures.steps in
    let did = c.modify_hit.ensures in
    let yes : c.modify_hit.result ≡ true = search rules in
    let (item, live) = ModifyingHits-live g.F.FnMut test f under old now c.loop-ix.indexes.rest _ ix state count i.modifying at in
    let passed : test item ≡ true = sym (did.test item live) ∙ yes in
    let (left, called, made) = did.called item live yes in
    record {
      modifying = ModifyingHits-called g.F.FnMut test f under old now c.loop-ix.indexes.rest _ ix state count i.modifying at item left c.modify_hit.new.f c.modify_hit.new.items.store live passed called (ap (λ (s : SizedStore _). s.store) made);
      slots = ap (λ (s : SizedStore _). s.capacity) made ∙ i.slots;
    }

pub loop-ix-smaller : goal.loop-ix-smaller
loop-ix-smaller g c = omega (arith, ap length c.in-Some.ensures.steps)

pub loop-ix-preserved : goal.loop-ix-preserved
loop-ix-preserved g c =
    let test = g.Q.ItemHashQuery.stands_for_item c.args.query.now in
    let f = c.args.f.now in
    let under = c.args.indexes.rest in
    let old = c.args.items.now.store in
    let now = c.loop-ix.items.store in
    let state = c.loop-ix.f in
    let count = c.loop-ix.count in
    let ix = c.in-Some.ix in
    let i = c.loop-ix.invariant in
    let at = c.in-Some.ensures.steps in
    let did = c.modify_hit.ensures in
    let no : c.modify_hit.result ≡ false = search rules in
    let (item, live) = ModifyingHits-live g.F.FnMut test f under old now c.loop-ix.indexes.rest _ ix state count i.modifying at in
    let refused : test item ≡ false = sym (did.test item live) ∙ no in
    let (same, same_state) = did.passed no in
    let same_store = ap (λ (s : SizedStore _). s.store) same in
    record {
      modifying = rw (same_store, same_state) (ModifyingHits-passed g.F.FnMut test f under old now c.loop-ix.indexes.rest _ ix state count i.modifying at item live refused);
      slots = ap (λ (s : SizedStore _). s.capacity) same ∙ i.slots;
    }

pub returns-clause-calls : goal.returns-clause-calls
returns-clause-calls g c =
    let test = g.Q.ItemHashQuery.stands_for_item c.args.query.now in
    let w = rw c.in_default.ensures.steps.0 at c.loop-ix.invariant.modifying in
    ModifyingHits-calls g.F.FnMut test c.args.f.now c.args.indexes.rest c.args.items.now.store c.loop-ix.items.store c.loop-ix.f c.loop-ix.count w

pub returns-clause-each : goal.returns-clause-each
returns-clause-each g c =
    let test = g.Q.ItemHashQuery.stands_for_item c.args.query.now in
    let w = rw c.in_default.ensures.steps.0 at c.loop-ix.invariant.modifying in
    ModifyingHits-each g.F.FnMut test c.args.f.now c.args.indexes.rest c.args.items.now.store c.loop-ix.items.store c.loop-ix.f c.loop-ix.count w

pub returns-clause-counted : goal.returns-clause-counted
returns-clause-counted g c =
    let test = g.Q.ItemHashQuery.stands_for_item c.args.query.now in
    let w = rw c.in_default.ensures.steps.0 at c.loop-ix.invariant.modifying in
    ModifyingHits-counted g.F.FnMut test c.args.f.now c.args.indexes.rest c.args.items.now.store c.loop-ix.items.store c.loop-ix.f c.loop-ix.count w

pub returns-clause-others : goal.returns-clause-others
returns-clause-others g c = c.loop-ix.invariant.modifying.others

pub returns-clause-count : goal.returns-clause-count
returns-clause-count g c = c.loop-ix.invariant.modifying.as_many

pub returns-clause-limit : goal.returns-clause-limit
returns-clause-limit g c = c.loop-ix.invariant.modifying.limit
