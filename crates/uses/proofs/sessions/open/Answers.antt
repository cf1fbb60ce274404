use Rattle.std.proofs.Common.{◌≡◌, refl}
use Rattle.std.specs.Prelude.{Ok, Err, IfErr}
use Rattle.iddqd_maps.specs.declared.refusal.InsertRefusal.TheVariants.{Duplicate, Full, Memory}
use Rattle.uses.specs.Exchanges.{IsWhyNotAdded}
use Rattle.uses.specs.Sessions.{share_key}
use Rattle.iddqd_maps.proofs.CallerLemmas.{reported_hit}
use Rattle.uses.proofs.sessions.open.Goals as goal

pub returns-clause-refused : goal.returns-clause-refused
returns-clause-refused c =
    elim c.insert_unique.result as (λ r. c.insert_unique.result ≡ r
    → IfErr r (IsWhyNotAdded share_key c.args.session c.args.sessions.now)) [
      | Ok ix ↦ λ is. tt
      | Err (Duplicate back at) ↦ λ is.
          let refused = rw is at c.insert_unique.ensures.inserts in
          let (ix, hit) = reported_hit _ _ _ _ _ _
          (λ at scan. (at, (scan at).1 refl)) (λ at scan. (at, (scan at).1 refl)) _ _ refused.1 in
          (refused.0, (ix, hit))
      | Err (Full back) ↦ λ is. let refused = rw is at c.insert_unique.ensures.inserts in (refused.given_back, refused.no_conflict, refused.full)
      | Err (Memory back) ↦ λ is. let refused = rw is at c.insert_unique.ensures.inserts in (refused.given_back, refused.no_conflict, refused.no_room)
    ] refl
