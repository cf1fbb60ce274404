use Rattle.std.proofs.Common.{Some, sym, ap, ◌∙◌, arith}
use Rattle.std.proofs.lemmas.Grind.{common_steps}
use Rattle.iddqd.proofs.StoreLemmas.{none_free, first_free}
use Rattle.iddqd.proofs.item_set.ItemSet.fill.Goals as goal

pub push-requires : goal.push-requires
push-requires g c = record {
  room = c.requires.room;
  dense = none_free c.args.self.now.store c.slot_count.ensures.valid (sym c.requires.next ∙ sym c.as_u32.ensures ∙ c.if-as_u32-slot_count.true ∙ c.slot_count.ensures.value);
}

pub reuse-requires : goal.reuse-requires
reuse-requires g c = record {
  room = c.requires.room;
  first = first_free c.args.self.now.store (λ same. c.if-as_u32-slot_count.false (c.as_u32.ensures ∙ c.requires.next ∙ same ∙ sym c.slot_count.ensures.value)) ∙ ap Some (sym c.requires.next);
}

pub returns-then-as_u32-slot_count-clause-room : goal.returns-then-as_u32-slot_count-clause-room
returns-then-as_u32-slot_count-clause-room g c = grind (arith, common_steps)

pub returns-then-as_u32-slot_count-clause-slots : goal.returns-then-as_u32-slot_count-clause-slots
returns-then-as_u32-slot_count-clause-slots g c = grind (arith, common_steps)
