use Rattle.std.proofs.Common.{rules}
use Rattle.iddqd_order.proofs.btree_table.retain.retain_in.Goals as goal

pub returns : goal.returns
returns g c = record {
  inners = search rules;
  reserved = search rules;
  kept = search rules;
  counted = search rules;
  tree = search rules;
}

pub gather-kept-requires-clause-some : goal.gather-kept-requires-clause-some
gather-kept-requires-clause-some g c = (rw c.in-Some.is at c.requires.tree).1

pub gather-kept-requires-clause-formed : goal.gather-kept-requires-clause-formed
gather-kept-requires-clause-formed g c = (rw c.in-Some.is at c.requires.tree).0

pub gather-kept-requires-clause-levels : goal.gather-kept-requires-clause-levels
gather-kept-requires-clause-levels g c = (rw c.in-Some.is at c.requires.tree).2

pub gather-kept-requires-clause-counted : goal.gather-kept-requires-clause-counted
gather-kept-requires-clause-counted g c = rw c.in-Some.is at c.requires.counted

pub gather-kept-requires-clause-can_ask : goal.gather-kept-requires-clause-can_ask
gather-kept-requires-clause-can_ask g c = rw c.in-Some.is at c.requires.can_ask
