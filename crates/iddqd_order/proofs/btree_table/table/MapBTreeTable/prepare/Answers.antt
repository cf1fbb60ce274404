use Rattle.std.proofs.Common.{refl, ◌∙◌}
use Rattle.iddqd_order.specs.PreparedBTreeInsert.{place_of, index_of, blocks_of, needed_of}
use Rattle.iddqd_order.proofs.btree_table.table.MapBTreeTable.prepare.Goals as goal

pub returns : goal.returns
unfolding place_of index_of blocks_of needed_of
returns g c =
    let gap = c.find_own_gap-gap.ensures in let taken = c.in-Ok.ensures in (
      (refl, λ w. refl, tt),
      record {
        unchanged = tt;
        same_reference = refl;
        asked = gap.asked;
        prepared =
            record {
              prepared = record { table = refl; index = refl; within = gap.within; place = gap.place };
              needed = taken.blocks;
              few_blocks = rw taken.blocks (taken.few gap.fits.levels);
            };
        memory = refl;
        roomy = λ _. refl;
        no_blocks = λ lt. taken.blocks ∙ taken.roomy _ gap.fits.goes gap.fits.full gap.fits.levels lt;
      },
    )

pub returns-in-Err : goal.returns-in-Err
returns-in-Err g c =
    let gap = c.find_own_gap-gap.ensures in
    let taken = c.in-Err.ensures in (
      (refl, λ _. tt, refl),
      record {
        unchanged = tt;
        same_reference = tt;
        asked = gap.asked;
        prepared = tt;
        memory = tt;
        roomy = λ lt. taken.none (taken.roomy _ gap.fits.goes gap.fits.full gap.fits.levels lt);
        no_blocks = λ _. tt;
      },
    )
