use Rattle.std.proofs.Common.{refl}
use Rattle.std.specs.declared.cmp.Ordering.TheVariants.{Greater}
use Rattle.iddqd_ord_map.proofs.EndLemmas.{IsEnd-at, PopsEnd-none, PopsEnd-removed}
use Rattle.iddqd_ord_map.proofs.id_ord_map.OrdMapBy.pop_last.Goals as goal

pub returns-in_err-ix-clause-pops : goal.returns-in_err-ix-clause-pops
returns-in_err-ix-clause-pops g c =
    PopsEnd-none g.E.OrdKey.key_of g.E.OrdKey.cmp Greater c.args.self.now c.from_residual.result c.from_residual.ensures c.in_err-ix.ensures

pub returns-clause-pops : goal.returns-clause-pops
returns-clause-pops g c =
    let key_of = g.E.OrdKey.key_of in
    let compare = g.E.OrdKey.cmp in
    PopsEnd-removed key_of compare Greater c.args.self.now c.remove_at.new.self c.in_ok-ix.ix c.remove_at.result
    (IsEnd-at key_of compare Greater c.args.self.now.store c.in_ok-ix.ix c.in_ok-ix.ensures) (rw (← c.self.view_is) c.remove_at.ensures.removes)

pub returns-in_err-ix-clause-count : goal.returns-in_err-ix-clause-count
returns-in_err-ix-clause-count g c = rw c.from_residual.ensures tt

pub returns-in_err-ix-clause-freed : goal.returns-in_err-ix-clause-freed
returns-in_err-ix-clause-freed g c = rw c.from_residual.ensures tt

pub returns-in_err-ix-clause-unchanged : goal.returns-in_err-ix-clause-unchanged
returns-in_err-ix-clause-unchanged g c = rw c.from_residual.ensures refl

pub returns-clause-room : goal.returns-clause-room
returns-clause-room g c = rw (← c.self.view_is) c.remove_at.ensures.room

pub returns-clause-count : goal.returns-clause-count
returns-clause-count g c = rw (← c.self.view_is) c.remove_at.ensures.count

pub returns-clause-unchanged : goal.returns-clause-unchanged
returns-clause-unchanged g c = rw (← c.self.view_is) c.remove_at.ensures.unchanged

pub returns-clause-freed : goal.returns-clause-freed
returns-clause-freed g c = rw (← c.self.view_is) c.remove_at.ensures.freed
