use Rattle.std.proofs.Common.{refl, ◌∙◌}
use Rattle.iddqd_order.specs.PreparedBTreeMove.{index_of, blocks_of}
use Rattle.iddqd_order.proofs.MoveLemmas.{without-fewer}
use Rattle.iddqd_order.proofs.btree_table.table.MapBTreeTable.prepare_move.Goals as goal

pub returns : goal.returns
unfolding index_of blocks_of
returns c =
    let taken = c.in-Ok.ensures in (
      (refl, λ w. refl, tt),
      record {
        unchanged = tt;
        same_reference = refl;
        prepared = record { table = refl; index = refl; needed = taken.blocks; few_blocks = rw taken.blocks taken.few };
        memory = refl;
        roomy = λ _. refl;
        no_blocks = λ le. taken.blocks ∙ taken.roomy le;
      },
    )

pub invariant_of-result-clause-stored : goal.invariant_of-result-clause-stored
invariant_of-result-clause-stored c = without-fewer _ _ c.requires
