use Rattle.std.proofs.Common.{refl}
use Rattle.std.proofs.lemmas.Bool.{false≢true}
use Rattle.iddqd_driver.proofs.KeepsLemmas.{Holds-order, Keeps-same}
use Rattle.iddqd_driver.proofs.StepLemmas.{Step-keeping, StepsInMemory-kept, StepsInMemory-inserted, StepsInMemory-refused}
use Rattle.iddqd_driver.proofs.keyed_items.KeyedItems.step.Goals as goal

pub returns-in-Ok : goal.returns-in-Ok
returns-in-Ok g c =
    let out = c.in-Ok.ensures in
    rw c.in-Insert.is
    (record {
      step = Step-keeping _ _ _ _ _ out.keeps out.inserts out.tells.first out.tells.second;
      memory = StepsInMemory-inserted _ _ _ _ c.in-Ok.ensures.memory c.in-Ok.ensures.few;
    })

pub returns-in-Err : goal.returns-in-Err
returns-in-Err g c =
    let out = c.in-Err.ensures in
    rw c.in-Insert.is
    (record {
      step = Step-keeping _ _ _ _ _ out.keeps out.inserts out.tells.first out.tells.second;
      memory = StepsInMemory-refused _ _ _ _ c.in-Err.ensures.memory c.in-Err.ensures.few;
    })

pub returns-in-Find1 : goal.returns-in-Find1
returns-in-Find1 g c =
    let out = c.find1.ensures in
    rw c.in-Find1.is
    (record {
      step = Step-keeping _ _ _ _ _ (Keeps-same _ _ out.paired _ refl) (out.found.found, refl) out.found.as_scan (λ _. tt);
      memory = StepsInMemory-kept _ _ _ _ refl (λ never. never);
    })

pub returns-in-Find2 : goal.returns-in-Find2
returns-in-Find2 g c =
    let out = c.find2.ensures in
    rw c.in-Find2.is
    (record {
      step = Step-keeping _ _ _ _ _ (Keeps-same _ _ out.paired _ refl) (out.found.found, refl) (λ _. tt) out.found.as_scan;
      memory = StepsInMemory-kept _ _ _ _ refl (λ never. never);
    })

pub returns-in-Some : goal.returns-in-Some
returns-in-Some g c =
    rw c.in-Remove.is
    (record {
      step = Step-keeping _ _ _ _ _ c.in-Some.ensures.keeps (refl, c.in-Some.ensures.removes) (λ _. tt) (λ _. tt);
      memory = StepsInMemory-kept _ _ _ _ c.in-Some.ensures.memory (λ never. never);
    })

pub returns-in-None : goal.returns-in-None
returns-in-None g c =
    rw c.in-Remove.is
    (record {
      step = Step-keeping _ _ _ _ _ c.in-None.ensures.keeps c.in-None.ensures.removes (λ _. tt) (λ _. tt);
      memory = StepsInMemory-kept _ _ _ _ c.in-None.ensures.memory (λ never. never);
    })

pub returns-in-Remove1 : goal.returns-in-Remove1
returns-in-Remove1 g c =
    rw c.in-Remove1.is
    (record {
      step = Step-keeping _ _ _ _ _ c.remove1.ensures.keeps c.remove1.ensures.removes.removes c.remove1.ensures.removes.as_scan (λ _. tt);
      memory = StepsInMemory-kept _ _ _ _ c.remove1.ensures.memory (λ never. never);
    })

pub returns-in-Remove2 : goal.returns-in-Remove2
returns-in-Remove2 g c =
    rw c.in-Remove2.is
    (record {
      step = Step-keeping _ _ _ _ _ c.remove2.ensures.keeps c.remove2.ensures.removes.removes (λ _. tt) c.remove2.ensures.removes.as_scan;
      memory = StepsInMemory-kept _ _ _ _ c.remove2.ensures.memory (λ never. never);
    })

pub returns-in-Overwrite : goal.returns-in-Overwrite
returns-in-Overwrite g c =
    rw c.in-Overwrite.is
    (record {
      step = record { answers = c.overwrite.ensures.overwrites; paired = c.overwrite.ensures.keeps.paired; first_keys = record { keeps = c.overwrite.ensures.keeps.first_keys; as_scan = λ _. tt }; second_keys = record { keeps = c.overwrite.ensures.keeps.second_keys; as_scan = λ _. tt } };
      memory = StepsInMemory-kept _ _ _ _ c.overwrite.ensures.memory (λ never. never);
    })

pub returns-in-Ok-compact : goal.returns-in-Ok-compact
returns-in-Ok-compact g c =
    rw c.in-Compact.is
    (record {
      step = Step-keeping _ _ _ _ _ c.in-Ok-compact.ensures.keeps c.in-Ok-compact.ensures.compacts (λ _. tt) (λ _. tt);
      memory = StepsInMemory-kept _ _ _ _ c.in-Ok-compact.ensures.memory (λ never. never);
    })

pub returns-in-Err-compact : goal.returns-in-Err-compact
returns-in-Err-compact g c =
    let out = c.in-Err-compact.ensures in
    rw c.in-Compact.is
    (record {
      step = Step-keeping _ _ _ _ _ out.keeps (λ none. absurd (false≢true (out.dense none)), out.refused) (λ _. tt) (λ _. tt);
      memory = StepsInMemory-kept _ _ _ _ c.in-Err-compact.ensures.memory (λ never. never);
    })

pub returns-in-Clear : goal.returns-in-Clear
returns-in-Clear g c =
    rw c.in-Clear.is
    (record {
      step = Step-keeping _ _ _ _ _ c.clear.ensures.keeps c.clear.ensures.cleared (λ _. tt) (λ _. tt);
      memory = StepsInMemory-kept _ _ _ _ c.clear.ensures.memory (λ never. never);
    })

pub returns-in-Ok-indexes : goal.returns-in-Ok-indexes
returns-in-Ok-indexes g c =
    let out = c.in-Ok-indexes.ensures in
    rw c.in-Walk.is
    (record {
      step = Step-keeping _ _ _ _ _ (Keeps-same _ _ out.paired _ refl) (out.all, refl) (λ _. tt) (λ o. rw out.all (record { holds = Holds-order _ out.paired; placed = o.placed }));
      memory = StepsInMemory-kept _ _ _ _ refl (λ never. never);
    })

pub returns-in-Err-indexes : goal.returns-in-Err-indexes
returns-in-Err-indexes g c =
    let out = c.in-Err-indexes.ensures in
    rw c.in-Walk.is
    (record {
      step = Step-keeping _ _ _ _ _ (Keeps-same _ _ out.paired _ refl) (λ none. absurd (false≢true (out.empty none)), refl) (λ _. tt) (λ _. tt);
      memory = StepsInMemory-kept _ _ _ _ refl (λ never. never);
    })
