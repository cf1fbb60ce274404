use Rattle.uses.proofs.RegistryLemmas.{resolves}
use Rattle.uses.proofs.registry.Registry.resolve.Goals as goal

pub returns : goal.returns
returns c =
    rw (← c.self.view_is)
    (resolves c.self.inside.entries.store c.self.invariant c.args.name.now c.find.result c.find.ensures)
