use Rattle.std.proofs.Common.{rules, ◌≡◌, ◌≤◌, ◌<◌, ℕ, nat_le, not, refl}
use Rattle.std.specs.Ordering.{nat_cmp, is_lt}
use Rattle.iddqd_maps.proofs.CallerLemmas.{Drops-retained, GivesRefusedWithin-tested, RetainsWithin-gone, RetainsWithin-stays, is_less, is_no_later}
use Rattle.uses.specs.declared.scores.Score.{Score}
use Rattle.uses.proofs.board.hand_on_low.Goals as goal

pub retain_range_into-requires-clause-given : goal.retain_range_into-requires-clause-given
retain_range_into-requires-clause-given g c = λ may. may c.requires

pub returns-clause-dropped : goal.returns-clause-dropped
returns-clause-dropped g c =
    let (last, retains) = c.retain_range_into.ensures.asked in
    Drops-retained c.args.board.now.store c.retain_range_into.new.self.store
    (λ (score : Score). score.hour)
    (λ (hour : ℕ). not (is_lt (nat_cmp c.args.hour hour)))
    (λ (score : Score). nat_le c.args.least score.points)
    (λ (score : Score). score.hour ≤ c.args.hour)
    (λ (score : Score). score.points < c.args.least)
    (λ (score : Score). is_no_later c.args.hour score.hour)
    (λ (score : Score). is_less c.args.least score.points)
    (RetainsWithin-stays _ (λ s. s.0.now ≡ c.args.least) _ (λ s x b t i asked. search rules) _ _ _ _ _ _ refl retains)
    (RetainsWithin-gone _ (λ s. s.0.now ≡ c.args.least) _ (λ s x b t i asked. search rules) _ _ _ _ _ _ refl retains)
    c.retain_range_into.ensures.others

pub returns-clause-handed : goal.returns-clause-handed
returns-clause-handed g c =
    let (items, last, given, each) =
    GivesRefusedWithin-tested _ (λ s. s.0.now ≡ c.args.least) (λ (score : Score). nat_le c.args.least score.points)
    (λ s x b t i asked. search rules) _ _ _ _ _ _ _ refl c.retain_range_into.ensures.given in (
      items,
      last,
      given,
      λ score here.
          let (due, low) = each score here in
          ((is_no_later c.args.hour score.hour).0 due, (is_less c.args.least score.points).0 low),
    )
