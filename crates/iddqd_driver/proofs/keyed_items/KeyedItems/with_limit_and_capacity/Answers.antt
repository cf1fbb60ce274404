use Rattle.std.proofs.Common.{◌∙◌, arith, refl}
use Rattle.std.proofs.lemmas.Bool.{false≢true}
use Rattle.iddqd_driver.proofs.KeepsLemmas.{IsPaired-empty}
use Rattle.iddqd_driver.proofs.MemoryLemmas.{IsMadeWithin-parts, none_fits}
use Rattle.iddqd_driver.proofs.keyed_items.KeyedItems.with_limit_and_capacity.Goals as goal

pub invariant_of-result : goal.invariant_of-result
invariant_of-result g c =
    rw (c.in-Ok.ensures.contents, c.in-Ok-with_capacity.ensures.empty, c.in-Ok-with_capacity-2.ensures.empty)
    (IsPaired-empty c.args.limit _ (omega arith))

pub returns-in_default : goal.returns-in_default
returns-in_default g c = record {
  state = tt;
  room = tt;
  made = tt;
  none = λ none. absurd (false≢true (c.in_default.ensures.none (c.min-items.ensures ∙ none)));
  no_memory = λ _. tt;
}

pub returns-in_default-with_capacity : goal.returns-in_default-with_capacity
returns-in_default-with_capacity g c = record {
  state = tt;
  room = tt;
  made = tt;
  none = λ none. absurd (false≢true (c.in_default-with_capacity.ensures.memory.succeeds (c.min-items.ensures ∙ none)));
  no_memory = λ _. tt;
}

pub returns-in_default-with_capacity-2 : goal.returns-in_default-with_capacity-2
returns-in_default-with_capacity-2 g c = record {
  state = tt;
  room = tt;
  made = tt;
  none = λ none. absurd (false≢true (c.in_default-with_capacity-2.ensures.succeeds (none_fits _ _ (c.min-items.ensures ∙ none))));
  no_memory = λ _. tt;
}

pub returns : goal.returns
returns g c =
    let hashed = c.in-Ok-with_capacity.ensures.memory in
    let ordered = c.in-Ok-with_capacity-2.ensures in
    let made =
    IsMadeWithin-parts c.args.state c.in-Ok.set c.in-Ok-with_capacity.filed c.in-Ok-with_capacity-2.order
    c.args.limit c.args.items c.min-items.result c.min-items.ensures c.in-Ok.ensures.contents c.in-Ok.ensures.capacity
    c.in-Ok-with_capacity.ensures.empty hashed.roomy hashed.few hashed.no_memory ordered.empty ordered.made ordered.roomy in
    record { state = made.state; room = made.has_room; made = made.made; none = λ _. refl; no_memory = made.none }
