use Rattle.std.proofs.Common.{false}
use Rattle.iddqd_maps.specs.Several.{both_keys}
use Rattle.iddqd_maps.specs.TwoKeys.{AreTaken}
use Rattle.uses.specs.Lockers.{has_holder, same_holder, same_number, share_key}
use Rattle.uses.proofs.ExchangeLemmas.{exchanges, not_exchanged}
use Rattle.uses.proofs.lockers.exchange_of.Goals as goal

pub returns-clause-exchanged : goal.returns-clause-exchanged
returns-clause-exchanged c = exchanges share_key (both_keys same_number same_holder) false (AreTaken same_number same_holder) c.args.lockers.now c.replace2.new.self (has_holder c.args.holder) c.args.locker c.replace2.result c.replace2.ensures.replaces

pub returns-clause-refused : goal.returns-clause-refused
returns-clause-refused c = not_exchanged share_key (both_keys same_number same_holder) false (AreTaken same_number same_holder) c.args.lockers.now c.replace2.new.self (has_holder c.args.holder) c.args.locker c.replace2.result c.replace2.ensures.replaces
