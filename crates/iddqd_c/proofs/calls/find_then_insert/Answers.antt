use Rattle.iddqd_c.proofs.CallLemmas.{found}
use Rattle.iddqd_c.proofs.calls.find_then_insert.Goals as goal

pub returns-clause-found : goal.returns-clause-found
returns-clause-found c =
    let looked = c.iddqd_keyed_find1-looked_up in
    let inserted = c.iddqd_keyed_insert-inserted in
    found c.args.key.now c.args.second c.args.value looked.result inserted.result inserted.new.at looked.new.row
    inserted.new.found c.args.t.now.handle.value looked.new.t.handle.value inserted.new.t.handle.value
    looked.ensures.same looked.ensures.finds inserted.ensures.inserts
