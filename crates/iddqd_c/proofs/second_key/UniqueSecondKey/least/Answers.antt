use Rattle.iddqd_c.proofs.AnswerLemmas.{scan_least}
use Rattle.iddqd_c.specs.Keys.{has_second}
use Rattle.iddqd_c.proofs.second_key.UniqueSecondKey.least.Goals as goal

pub returns : goal.returns
returns c = scan_least c.args.items.now.store (has_second c.args.second) c.find-found.result.0 c.find-found.ensures.found
