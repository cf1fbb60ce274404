use Rattle.std.proofs.Common.{refl}
use Rattle.iddqd_order.specs.Entry.{entry_index, vacant_place}
use Rattle.iddqd_order.proofs.IndexListLemmas.{Contains-at}
use Rattle.iddqd_order.proofs.SearchLemmas.{none_at_place}
use Rattle.iddqd_order.proofs.btree_table.table.MapBTreeTable.make_entry.Goals as goal

pub returns-in-Ok-clause-made : goal.returns-in-Ok-clause-made
unfolding entry_index
returns-in-Ok-clause-made g c =
    let s = c.in-Ok.ensures.ends.searches in
    record {
      asked = s.asked;
      stored = Contains-at _ _ _ s.found refl;
      hit = s.hit;
      within = tt;
      place = λ answer rises. tt;
      miss = λ answer rises. tt;
    }

pub returns-in-Err-clause-made : goal.returns-in-Err-clause-made
unfolding vacant_place
returns-in-Err-clause-made g c =
    let s = c.in-Err.ensures.ends.searches in
    record {
      asked = s.asked;
      stored = tt;
      hit = λ answer steady. tt;
      within = s.missed;
      place = s.place;
      miss = λ answer rises. none_at_place answer _ _ (s.place answer rises);
    }
