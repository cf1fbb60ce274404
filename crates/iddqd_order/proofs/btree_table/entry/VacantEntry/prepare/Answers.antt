use Rattle.std.proofs.Common.{refl, ◌∙◌}
use Rattle.iddqd_order.specs.Entry.{vacant_place}
use Rattle.iddqd_order.specs.PreparedBTreeInsert.{place_of, index_of, blocks_of, needed_of}
use Rattle.iddqd_order.proofs.btree_table.entry.VacantEntry.prepare.Goals as goal

pub returns : goal.returns
unfolding place_of index_of blocks_of needed_of vacant_place
returns c =
    let taken = c.in-Ok.ensures in (
      (refl, λ w. refl, tt),
      record {
        unchanged = tt;
        same_reference = refl;
        prepared =
            record {
              table = refl;
              index = refl;
              place = refl;
              needed = taken.blocks;
              few_blocks = rw taken.blocks (taken.few c.args.self.levels);
            };
        memory = refl;
        roomy = λ _. refl;
        no_blocks = λ lt. taken.blocks ∙ taken.roomy _ c.args.self.goes c.args.self.full_nodes c.args.self.levels lt;
      },
    )
