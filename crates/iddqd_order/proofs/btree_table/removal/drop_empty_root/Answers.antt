use Rattle.iddqd_order.proofs.Names.{sym, arith, rules}
use Rattle.iddqd_order.proofs.GapLeftLemmas.{bare-place, lowered-goes}
use Rattle.iddqd_order.proofs.RemovalLemmas.{IsBare, bare, IsLowered, lowered}
use Rattle.iddqd_order.proofs.btree_table.removal.drop_empty_root.Goals as goal

bared : (c : goal.After-drop-children) → IsBare c.args.height c.args.root.now
bared c = bare c.args.height c.args.root.now c.in-Some.field-0 c.in-Some.ensures.value c.requires.emptied (search rules)

pub returns-in_default-pop : goal.returns-in_default-pop
returns-in_default-pop c = record {
  places = λ p goes.
      rw c.take.ensures.after
      (sym (bare-place c.args.height c.args.root.now c.in-Some.field-0 p c.in-Some.ensures.value c.requires.emptied (search rules) goes));
  items = rw c.take.ensures.after (sym (bared c).items);
  inners = rw c.take.ensures.after (omega (arith, (bared c).inners));
  reserved = search rules;
  goes = search rules;
  no_higher = search rules;
  tree = search rules;
}

pub put_back-requires-clause-block : goal.put_back-requires-clause-block
put_back-requires-clause-block c =
    let l = lowered c.args.height c.args.root.now c.in-Some.field-0 c.pop.new.self.items c.in-Some-pop.child c.in-Some.ensures.value c.requires.emptied c.in-Some-pop.ensures.items in
    (l.alone, search (rules, l.has_room))

pub put_back-requires-clause-some : goal.put_back-requires-clause-some
put_back-requires-clause-some c =
    let l = lowered c.args.height c.args.root.now c.in-Some.field-0 c.pop.new.self.items c.in-Some-pop.child c.in-Some.ensures.value c.requires.emptied c.in-Some-pop.ensures.items in
    omega (arith, l.inners)

left :
    (c : goal.After-saturating_sub)
    → IsLowered c.args.height c.args.root.now c.in-Some.field-0 c.pop.new.self.items c.in-Some-pop.child
left c =
    lowered c.args.height c.args.root.now c.in-Some.field-0 c.pop.new.self.items c.in-Some-pop.child c.in-Some.ensures.value c.requires.emptied c.in-Some-pop.ensures.items

pub returns : goal.returns
returns c = record {
  items = rw c.saturating_sub.ensures (left c).items;
  goes = λ p goes. rw c.saturating_sub.ensures (lowered-goes c.args.height c.args.root.now c.in-Some.field-0 c.pop.new.self.items c.in-Some-pop.child p c.in-Some.ensures.value c.requires.emptied c.in-Some-pop.ensures.items (left c).alone goes).goes;
  inners = rw c.saturating_sub.ensures (omega (arith, (left c).inners));
  places = λ p goes. rw c.saturating_sub.ensures (lowered-goes c.args.height c.args.root.now c.in-Some.field-0 c.pop.new.self.items c.in-Some-pop.child p c.in-Some.ensures.value c.requires.emptied c.in-Some-pop.ensures.items (left c).alone goes).place;
  tree = rw c.saturating_sub.ensures (left c).tree;
  reserved = search rules;
  no_higher = search rules;
}

pub returns-in_default : goal.returns-in_default
returns-in_default c = record {
  tree = search rules;
  places = search rules;
  reserved = search rules;
  items = search rules;
  no_higher = search rules;
  goes = search rules;
  inners = search rules;
}
