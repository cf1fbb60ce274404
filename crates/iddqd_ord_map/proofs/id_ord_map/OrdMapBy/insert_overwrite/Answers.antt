use Rattle.std.specs.Ordering.{eq_by_cmp}
use Rattle.iddqd_map.specs.Map.{shares}
use Rattle.iddqd_ord_map.proofs.CallLemmas.{not_refused, overwritten}
use Rattle.iddqd_ord_map.proofs.id_ord_map.OrdMapBy.insert_overwrite.Goals as goal

pub unreachable-requires : goal.unreachable-requires
unreachable-requires g c =
    let alike = shares g.E.OrdKey.key_of (eq_by_cmp g.E.OrdKey.cmp) in
    let reported = rw c.in-Err-Duplicate.field-0-is at c.in-Err-Duplicate.ensures.inserts in
    not_refused alike c.self.inside.map c.insert_unique.new.self c.replace_at.new.self c.args.item c.in-Err-Duplicate.item c.in-Err-Duplicate.at reported c.in-Err.field-0 c.in-Err.ensures.replaces

pub returns-in-Ok-replace_at-clause-inserts : goal.returns-in-Ok-replace_at-clause-inserts
returns-in-Ok-replace_at-clause-inserts g c =
    let alike = shares g.E.OrdKey.key_of (eq_by_cmp g.E.OrdKey.cmp) in
    let reported = rw c.in-Err-Duplicate.field-0-is at c.in-Err-Duplicate.ensures.inserts in
    rw (← c.self.view_is) (overwritten alike c.self.inside.map c.insert_unique.new.self c.replace_at.new.self c.args.item c.in-Err-Duplicate.item c.in-Err-Duplicate.at reported c.in-Ok-replace_at.was c.in-Ok-replace_at.ensures.replaces)
