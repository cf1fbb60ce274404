use Rattle.std.proofs.Common.{◌∙◌, refl, arith}
use Rattle.iddqd_hash.specs.MapHashTable.{filed}
use Rattle.iddqd_hash.proofs.MemberLemmas.{get-remove_at}
use Rattle.iddqd_by_hash.proofs.hashed_move.commit_move.Goals as goal

pub insert_prehashed_unchecked-requires-clause-new : goal.insert_prehashed_unchecked-requires-clause-new
insert_prehashed_unchecked-requires-clause-new c =
    rw c.remove_index.ensures.taken (get-remove_at (filed c.args.table.now) c.args.ix)

pub returns-in-To-clause-memory : goal.returns-in-To-clause-memory
returns-in-To-clause-memory c =
    let out = c.remove_index.ensures in
    let put = c.insert_prehashed_unchecked.ensures.memory in
    record {
      room_stays = omega (arith, out.room, put.one_less);
      same_capacity = put.same_capacity ∙ out.memory.same_capacity;
      same_memory = put.same_memory ∙ out.memory.same_memory;
    }

pub returns-in_default-clause-memory : goal.returns-in_default-clause-memory
returns-in_default-clause-memory c = record { room_stays = omega arith; same_capacity = refl; same_memory = refl }
