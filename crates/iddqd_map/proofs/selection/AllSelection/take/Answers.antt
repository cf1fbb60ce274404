use Rattle.iddqd_map.proofs.SelectionLemmas.{live-taken}
use Rattle.iddqd_map.proofs.selection.AllSelection.take.Goals as goal

pub returns-clause-next : goal.returns-clause-next
returns-clause-next g c =
    live-taken c.args.items.now.store c.args.ix c.next_live.result c.requires.hit c.next_live.ensures
