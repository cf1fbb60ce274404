use Rattle.std.proofs.Common.{arith}
use Rattle.std.proofs.lemmas.Grind.{common_steps}
use Rattle.iddqd_order.proofs.CursorLemmas.{IsAt-whole}
use Rattle.iddqd_order.proofs.btree_table.cursor.Cursor.at_end.Goals as goal

pub returns-in-Some-clause-stands : goal.returns-in-Some-clause-stands
returns-in-Some-clause-stands c =
    let e = c.edge-row.ensures in
    record {
      at = (IsAt-whole _ _ c.in-Some.node _ _ _ c.in-Some.is e.path e.edge.goes e.edge.leaf_is c.get.ensures).1;
      leaf_parent = tt;
    }

pub returns-in-Some-clause-gap : goal.returns-in-Some-clause-gap
returns-in-Some-clause-gap c = grind (arith, common_steps)
