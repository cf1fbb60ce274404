use Rattle.iddqd_map.proofs.SelectionLemmas.{live-next}
use Rattle.iddqd_map.proofs.selection.AllSelection.next.Goals as goal

pub returns-clause-next : goal.returns-clause-next
returns-clause-next g c =
    live-next c.args.items.now.store c.args.ix c.next_live.result c.requires.hit c.next_live.ensures
