use Rattle.std.proofs.Common.{rules, ◌≡◌, nat_le, refl}
use Rattle.std.proofs.lemmas.Bool.{le-leb, leb-true}
use Rattle.iddqd_maps.proofs.CallerLemmas.{RetainsAlong-tested, walked}
use Rattle.uses.specs.declared.scores.Score.{Score}
use Rattle.uses.proofs.board.keep_high.Goals as goal

pub retain_into-requires-clause-given : goal.retain_into-requires-clause-given
retain_into-requires-clause-given g c = λ may. may c.requires

pub returns-clause-stay : goal.returns-clause-stay
returns-clause-stay g c = λ ix score.
    let (walk, before, after) =
    RetainsAlong-tested _ (λ s. s.0.now ≡ c.args.least) (λ (score : Score). nat_le c.args.least score.points)
    (λ s x b t i asked. search rules) _ _ _ _ refl c.retain_into.ensures.retained in
    let (was, is) = walked _ _ _ _ _ walk before after ix score in (
      λ live. let (there, high) = was live in (there, leb-true c.args.least score.points high),
      λ both. is (both.0, le-leb c.args.least score.points both.1),
    )

pub returns-clause-memory : goal.returns-clause-memory
returns-clause-memory g c = c.retain_into.ensures.retained.memory
