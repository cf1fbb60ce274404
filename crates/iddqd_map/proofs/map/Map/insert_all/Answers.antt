use Rattle.std.proofs.Common.{arith, subst}
use Rattle.iddqd_map.specs.Bulk.{InsertsUntil}
use Rattle.iddqd_map.proofs.BulkLemmas.{InsertsUntil-from}
use Rattle.iddqd_map.proofs.map.Map.insert_all.Goals as goal

pub overflow_sub-inserted : goal.overflow_sub-inserted
overflow_sub-inserted g c =
    let did = c.insert_each-refusal.ensures.inserts in
    let (more, stays) = InsertsUntil-from g.I.Iterator.next_gives g.X.KeyIndex.alike g.X.KeyIndex.grown g.X.Changes.conflicts c.args.self.now _ _ c.reserve-reserved.new.self _ did.0 c.insert_each-refusal.result c.reserve-reserved.ensures.store c.len-before.ensures.state.valid did.1 in
    omega (arith, more, c.len.ensures.value, c.len-before.ensures.value)

pub returns-in-None-clause-inserts : goal.returns-in-None-clause-inserts
returns-in-None-clause-inserts g c =
    let did = c.insert_each-refusal.ensures.inserts in
    let mid = c.reserve-reserved.new.self in
    let (more, stays) = InsertsUntil-from g.I.Iterator.next_gives g.X.KeyIndex.alike g.X.KeyIndex.grown g.X.Changes.conflicts c.args.self.now _ _ mid _ did.0 c.insert_each-refusal.result c.reserve-reserved.ensures.store c.len-before.ensures.state.valid did.1 in (
      c.insert_each-refusal.new.iter,
      record {
        wanted = c.size_hint-least.result.0;
        at_most = c.size_hint-least.ensures.lower;
        roomy = mid;
        reserved = (c.reserve-reserved.result, c.reserve-reserved.ensures);
        items = did.0;
        counted = omega (arith, more, c.len.ensures.value, c.len-before.ensures.value);
        inserts = subst (λ r. InsertsUntil g.I.Iterator.next_gives g.X.KeyIndex.alike g.X.KeyIndex.grown g.X.Changes.conflicts c.args.iter mid did.0 r c.insert_each-refusal.new.iter c.insert_each-refusal.new.self) c.in-None.is did.1;
      },
    )

pub returns-in-None-clause-count : goal.returns-in-None-clause-count
returns-in-None-clause-count g c =
    let did = c.insert_each-refusal.ensures.inserts in
    let (more, stays) = InsertsUntil-from g.I.Iterator.next_gives g.X.KeyIndex.alike g.X.KeyIndex.grown g.X.Changes.conflicts c.args.self.now _ _ c.reserve-reserved.new.self _ did.0 c.insert_each-refusal.result c.reserve-reserved.ensures.store c.len-before.ensures.state.valid did.1 in
    omega (arith, more, c.len.ensures.value, c.len-before.ensures.value)

pub returns-in-None-clause-others : goal.returns-in-None-clause-others
returns-in-None-clause-others g c =
    let did = c.insert_each-refusal.ensures.inserts in
    let (more, stays) = InsertsUntil-from g.I.Iterator.next_gives g.X.KeyIndex.alike g.X.KeyIndex.grown g.X.Changes.conflicts c.args.self.now _ _ c.reserve-reserved.new.self _ did.0 c.insert_each-refusal.result c.reserve-reserved.ensures.store c.len-before.ensures.state.valid did.1 in
    stays

pub returns-in-Some-clause-inserts : goal.returns-in-Some-clause-inserts
returns-in-Some-clause-inserts g c =
    let did = c.insert_each-refusal.ensures.inserts in
    let mid = c.reserve-reserved.new.self in
    let (more, stays) = InsertsUntil-from g.I.Iterator.next_gives g.X.KeyIndex.alike g.X.KeyIndex.grown g.X.Changes.conflicts c.args.self.now _ _ mid _ did.0 c.insert_each-refusal.result c.reserve-reserved.ensures.store c.len-before.ensures.state.valid did.1 in
    record {
      wanted = c.size_hint-least.result.0;
      at_most = c.size_hint-least.ensures.lower;
      roomy = mid;
      reserved = (c.reserve-reserved.result, c.reserve-reserved.ensures);
      items = did.0;
      counted = omega (arith, more, c.len.ensures.value, c.len-before.ensures.value);
      inserts = subst (λ r. InsertsUntil g.I.Iterator.next_gives g.X.KeyIndex.alike g.X.KeyIndex.grown g.X.Changes.conflicts c.args.iter mid did.0 r c.insert_each-refusal.new.iter c.insert_each-refusal.new.self) c.in-Some.is did.1;
    }

pub returns-in-Some-clause-count : goal.returns-in-Some-clause-count
returns-in-Some-clause-count g c =
    let did = c.insert_each-refusal.ensures.inserts in
    let (more, stays) = InsertsUntil-from g.I.Iterator.next_gives g.X.KeyIndex.alike g.X.KeyIndex.grown g.X.Changes.conflicts c.args.self.now _ _ c.reserve-reserved.new.self _ did.0 c.insert_each-refusal.result c.reserve-reserved.ensures.store c.len-before.ensures.state.valid did.1 in
    omega (arith, more, c.len.ensures.value, c.len-before.ensures.value)

pub returns-in-Some-clause-others : goal.returns-in-Some-clause-others
returns-in-Some-clause-others g c =
    let did = c.insert_each-refusal.ensures.inserts in
    let (more, stays) = InsertsUntil-from g.I.Iterator.next_gives g.X.KeyIndex.alike g.X.KeyIndex.grown g.X.Changes.conflicts c.args.self.now _ _ c.reserve-reserved.new.self _ did.0 c.insert_each-refusal.result c.reserve-reserved.ensures.store c.len-before.ensures.state.valid did.1 in
    stays
