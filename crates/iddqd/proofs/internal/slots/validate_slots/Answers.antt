use Rattle.std.proofs.Common.{refl}
use Rattle.std.proofs.lemmas.Bool.{false≢true}
use Rattle.std.proofs.lemmas.Result.{err_from_is_err_and}
use Rattle.iddqd.specs.Slots.{IsSound}
use Rattle.iddqd.proofs.VacancyLemmas.{IsSound-from_chain}
use Rattle.iddqd.proofs.SoundSlotLemmas.{IsSound-in, HasChain-sound, IsSoundIn-allowed}
use Rattle.iddqd.proofs.internal.slots.validate_slots.Goals as goal

pub returns-in_err-walk_chain-clause-sound : goal.returns-in_err-walk_chain-clause-sound
returns-in_err-walk_chain-clause-sound g c =
    let p = err_from_is_err_and c.from_residual-in_err-walk_chain.result c.from_residual-in_err-walk_chain.ensures.1 in
    let walked = λ (sound : IsSound c.args.slots.now c.args.free_head c.args.len). c.in_err-walk_chain.ensures.1 (HasChain-sound sound c.in_ok-vacant.vacant c.in_ok-vacant.ensures.1) in
    rw p.1 (λ ok. absurd (false≢true ok), λ all. absurd (false≢true (walked (IsSound-in c.args.compactness all))))

pub returns-in_err-walk_chain-clause-not_compact : goal.returns-in_err-walk_chain-clause-not_compact
returns-in_err-walk_chain-clause-not_compact g c = λ sound.
    absurd (false≢true (c.in_err-walk_chain.ensures.1 (HasChain-sound sound c.in_ok-vacant.vacant c.in_ok-vacant.ensures.1)))

pub returns-clause-sound : goal.returns-clause-sound
returns-clause-sound g c =
    let counts = c.in_ok-vacant.ensures in
    let sound = IsSound-from_chain c.args.slots.now c.args.free_head c.args.len counts.0 c.in_ok-vacant.vacant counts.1 (c.in_ok-walk_chain.ensures.0 refl) in
    let allowed = IsSoundIn-allowed sound c.in_ok-vacant.vacant counts.1 c.args.compactness in
    (λ ok. allowed.0 (c.check_compact.ensures.allows.0 ok), λ all. c.check_compact.ensures.allows.1 (allowed.1 all))
