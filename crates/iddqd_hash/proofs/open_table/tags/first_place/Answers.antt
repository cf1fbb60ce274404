use Rattle.iddqd_hash.proofs.OpenPastFullLemmas.{IsPastFull-start, IsPastFull-on}
use Rattle.iddqd_hash.proofs.open_table.tags.first_place.Goals as goal

pub returns-else-tags-gt-LARGE : goal.returns-else-tags-gt-LARGE
returns-else-tags-gt-LARGE c =
    IsPastFull-on _ _ _ _ (IsPastFull-start c.args.tags.now c.args.hash) (rw c.home_of-home.ensures at c.past_full.ensures)
