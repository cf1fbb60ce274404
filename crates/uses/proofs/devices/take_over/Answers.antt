use Rattle.uses.proofs.devices.take_over.Goals as goal

pub returns-clause-taken : goal.returns-clause-taken
returns-clause-taken c =
    let out = c.in_ok-ix.ensures.inserts in
    record {
      removed = out.conflicts;
      each = out.are_conflicts.each;
      rising = out.are_conflicts.rising;
      given_back = out.items;
      index = out.index;
      left = out.stored;
      memory = λ at hit. out.same_memory (λ none. none at hit);
    }
