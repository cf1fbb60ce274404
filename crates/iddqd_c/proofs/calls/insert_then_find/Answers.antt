use Rattle.iddqd_c.proofs.CallLemmas.{inserted}
use Rattle.iddqd_c.proofs.calls.insert_then_find.Goals as goal

pub returns-clause-found : goal.returns-clause-found
returns-clause-found c =
    let done = c.iddqd_keyed_insert-inserted in
    let looked = c.iddqd_keyed_find1-looked_up in
    inserted c.args.key.now c.args.second c.args.value looked.result done.result done.new.at looked.new.row done.new.found
    c.args.t.now.handle.value done.new.t.handle.value done.ensures.inserts looked.ensures.finds
