use Rattle.std.proofs.Common.{◌<◌}
use Rattle.std.specs.Ordering.{nat_cmp, is_gt}
use Rattle.uses.specs.declared.scores.Score.{Score}
use Rattle.iddqd_maps.proofs.CallerLemmas.{Drops-left, is_earlier}
use Rattle.uses.proofs.scores.forget_before.Goals as goal

pub returns-clause-dropped : goal.returns-clause-dropped
returns-clause-dropped c =
    Drops-left c.args.scores.now.store c.remove_range.new.self.store
    (λ (score : Score). is_gt (nat_cmp c.args.hour score.hour))
    (λ (score : Score). score.hour < c.args.hour)
    (λ (score : Score). is_earlier c.args.hour score.hour)
    c.remove_range.ensures.left
