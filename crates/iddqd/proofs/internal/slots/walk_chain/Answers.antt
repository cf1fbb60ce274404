use Rattle.std.proofs.Common.{◌≢◌, ◌≡◌, refl, arith, rules}
use Rattle.std.proofs.lemmas.Bool.{false≢true}
use Rattle.std.proofs.lemmas.Result.{err_from_is_err_and}
use Rattle.iddqd.specs.Store.{sentinel}
use Rattle.iddqd.proofs.VacancyLemmas.{Leads-step, walked_at_end, as_many_at_end, more_before_end}
use Rattle.iddqd.proofs.internal.slots.walk_chain.Goals as goal

pub returns-in_err-next : goal.returns-in_err-next
returns-in_err-next g c =
    let before : c.walking.at ≢ sentinel = search rules in
    let p = err_from_is_err_and c.from_residual.result c.from_residual.ensures.1 in
    rw p.1 (λ ok. absurd (false≢true ok), λ chain. let more = more_before_end c.walking.invariant.leads before c.args.vacant chain in absurd (c.in_err-next.ensures more.1 more.2))

pub walking-preserved : goal.walking-preserved
walking-preserved g c =
    let before : c.walking.at ≢ sentinel = search rules in
    record {
      within = omega arith;
      leads = Leads-step c.walking.invariant.leads _ before c.in_ok-next.ensures;
    }

pub returns-then-walked-vacant-2 : goal.returns-then-walked-vacant-2
returns-then-walked-vacant-2 g c =
    let ends : c.walking.at ≡ sentinel = search rules in
    (λ ok. absurd (false≢true ok), λ chain. absurd (c.if-walked-vacant-2.true (as_many_at_end c.walking.invariant.leads ends c.args.vacant chain)))

pub returns-then-walked-vacant : goal.returns-then-walked-vacant
returns-then-walked-vacant g c =
    let before : c.walking.at ≢ sentinel = search rules in
    (λ ok. absurd (false≢true ok), λ chain. let more = more_before_end c.walking.invariant.leads before c.args.vacant chain in absurd (omega (arith, more.0, c.if-walked-vacant.true)))

pub returns : goal.returns
returns g c =
    let ends : c.walking.at ≡ sentinel = search rules in
    let chain = walked_at_end c.walking.invariant.leads ends in
    (λ ok. (chain.0, chain.1, omega (arith, chain.2)), λ any. refl)
