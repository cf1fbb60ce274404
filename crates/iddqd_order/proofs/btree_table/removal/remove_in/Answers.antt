use Rattle.std.proofs.Common.{rules}
use Rattle.iddqd_order.proofs.btree_table.removal.remove_in.Goals as goal

pub returns : goal.returns
returns g c = record {
  reserved = search rules;
  index = search rules;
  place = λ wanted. search (rules, c.remove-removed.ensures.place wanted, c.remove-removed.ensures.goes wanted);
  tree = search rules;
  goes = λ wanted. search (rules, c.remove-removed.ensures.goes wanted);
  path = c.remove-removed.ensures.path;
  inners = search rules;
  no_higher = search rules;
  items = search rules;
}

pub returns-then-len-gt0 : goal.returns-then-len-gt0
returns-then-len-gt0 g c = record {
  no_higher = search rules;
  place = λ wanted. search (rules, c.remove-removed.ensures.place wanted, c.remove-removed.ensures.goes wanted);
  items = search rules;
  path = c.remove-removed.ensures.path;
  reserved = search rules;
  tree = search rules;
  index = search rules;
  inners = search rules;
  goes = λ wanted. search (rules, c.remove-removed.ensures.goes wanted);
}
