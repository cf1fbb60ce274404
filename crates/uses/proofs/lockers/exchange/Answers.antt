use Rattle.std.proofs.Common.{false}
use Rattle.iddqd_maps.specs.Several.{both_keys}
use Rattle.iddqd_maps.specs.TwoKeys.{AreTaken}
use Rattle.uses.specs.Lockers.{has_number, same_holder, same_number, share_key}
use Rattle.uses.proofs.ExchangeLemmas.{exchanges, not_exchanged}
use Rattle.uses.proofs.lockers.exchange.Goals as goal

pub returns-clause-exchanged : goal.returns-clause-exchanged
returns-clause-exchanged c = exchanges share_key (both_keys same_number same_holder) false (AreTaken same_number same_holder) c.args.lockers.now c.replace1.new.self (has_number c.args.number) c.args.locker c.replace1.result c.replace1.ensures.replaces

pub returns-clause-refused : goal.returns-clause-refused
returns-clause-refused c = not_exchanged share_key (both_keys same_number same_holder) false (AreTaken same_number same_holder) c.args.lockers.now c.replace1.new.self (has_number c.args.number) c.args.locker c.replace1.result c.replace1.ensures.replaces
