use Rattle.std.proofs.Common.{rules, ◌≡◌, ◌∙◌, true, Some, None, refl, sym, ap, subst}
use Rattle.std.specs.Prelude.{Ok, Err, IfOk, IfErr, OnErr}
use Rattle.iddqd_maps.specs.Several.{HasNoOther}
use Rattle.iddqd_maps.specs.Store.{rebound}
use Rattle.iddqd_maps.specs.declared.refusal.ReplaceRefusal.TheVariants.{Missing, Duplicate, Memory}
use Rattle.iddqd_maps.specs.Several.{HitsOther}
use Rattle.uses.specs.Exchanges.{ExchangesIfFound, IsKeyTaken, IsWhyNotChanged}
use Rattle.uses.specs.Sessions.{ending, has_id, share_key}
use Rattle.uses.specs.declared.sessions.Session.{Session}
use Rattle.iddqd_maps.proofs.CallerLemmas.{reported_other}
use Rattle.uses.proofs.sessions.extend.Goals as goal

pub returns-clause-extended : goal.returns-clause-extended
returns-clause-extended c =
    let old = c.args.sessions.now in
    let new = c.change_by.new.self in
    elim c.change_by.result as (λ r. c.change_by.result ≡ r → IfOk r (λ found. ExchangesIfFound share_key (has_id c.args.id) (ending c.args.ends) old found new)) [
      | Ok None ↦ λ is. rw is at c.change_by.ensures.changes
      | Ok (Some was) ↦ λ is.
          let (ix, only, (one, item, live, gave, becomes)) = rw is at c.change_by.ensures.changes in
          let here : Some one ≡ Some was = sym live ∙ becomes.live in
          let same : one ≡ was = cc in
          let (session, returned, shows) = gave in
          let made : item ≡ record session.now { ends = c.args.ends } = search rules in
          let ends : item ≡ record one { ends = c.args.ends } = subst (λ (x : Session). item ≡ record x { ends = c.args.ends }) shows made in
          let is_ending : item ≡ ending c.args.ends was = rw same at ends in
          record {
            ix = ix;
            found = record { live = becomes.live; only = only };
            unlike = subst (λ (x : Session). HasNoOther old.store (share_key x) ix) is_ending becomes.no_other;
            left = becomes.left ∙ ap (rebound old.store ix) is_ending;
            memory = becomes.memory;
          }
      | Err refusal ↦ λ is. tt
    ] refl

pub returns-clause-refused : goal.returns-clause-refused
returns-clause-refused c =
    let old = c.args.sessions.now in
    elim c.change_by.result as (λ r. c.change_by.result ≡ r
    → IfErr r (IsWhyNotChanged (IsKeyTaken share_key) true (has_id c.args.id) (ending c.args.ends) old)) [
      | Ok found ↦ λ is. tt
      | Err (Missing back) ↦ λ is.
          let (ix, only, (one, item, live, gave, never)) = rw is at c.change_by.ensures.changes in absurd never
      | Err (Duplicate back at) ↦ λ is.
          let (ix, only, (one, item, live, (session, returned, shows), (given, taken, same))) = rw is at c.change_by.ensures.changes in
          let made : item ≡ record session.now { ends = c.args.ends } = search rules in
          let ends : item ≡ ending c.args.ends one = subst (λ (x : Session). item ≡ ending c.args.ends x) shows made in
          let (j, apart, hit) = reported_other _ _ _ _ _ _ _
          (λ at here. (at, here.0, (here.1 at).1 refl)) (λ at here. (at, here.0, (here.1 at).1 refl)) _ _ taken in
          let other = subst (λ (x : Session). HitsOther old.store (share_key x) ix) ends (j, apart, hit) in
          (ix, one, record { live = live; only = only }, (given ∙ ends, other))
      | Err (Memory back) ↦ λ is.
          let (ix, only, (one, item, live, (session, returned, shows), (given, lacks, same))) = rw is at c.change_by.ensures.changes in
          let made : item ≡ record session.now { ends = c.args.ends } = search rules in
          let ends : item ≡ ending c.args.ends one = subst (λ (x : Session). item ≡ ending c.args.ends x) shows made in
          (ix, one, record { live = live; only = only }, (given ∙ ends, lacks.lacks, lacks.past))
    ] refl

pub returns-clause-unchanged : goal.returns-clause-unchanged
returns-clause-unchanged c =
    let old = c.args.sessions.now in
    let new = c.change_by.new.self in
    elim c.change_by.result as (λ r. c.change_by.result ≡ r → OnErr r (new ≡ old)) [
      | Ok found ↦ λ is. tt
      | Err (Missing back) ↦ λ is.
          let (ix, only, (one, item, live, gave, never)) = rw is at c.change_by.ensures.changes in absurd never
      | Err (Duplicate back at) ↦ λ is.
          let (ix, only, (one, item, live, gave, (given, taken, same))) = rw is at c.change_by.ensures.changes in same
      | Err (Memory back) ↦ λ is.
          let (ix, only, (one, item, live, gave, (given, lacks, same))) = rw is at c.change_by.ensures.changes in same
    ] refl
