use Rattle.std.proofs.Common.{◌∙◌, refl, sym}
use Rattle.std.proofs.lemmas.Bool.{false≢true}
use Rattle.iddqd_driver.proofs.InSyncLemmas.{Searched-none, Searched-next, Searched-head, Searched-all, HasLesserHit-found}
use Rattle.iddqd_driver.proofs.keyed_items.validation.has_lesser.Goals as goal

pub loop-at-init : goal.loop-at-init
loop-at-init g c = rw c.into_iter-at-iterator.ensures.into_iter_gives (Searched-none _ _ _ _ _ _ c.indexes_under-at-items.ensures)

pub returns-then-is_lesser_hit : goal.returns-then-is_lesser_hit
returns-then-is_lesser_hit g c =
    let left = rw c.in-Some.ensures.steps at c.loop-at.invariant in
    let hit = c.is_lesser_hit.ensures.0 c.if-is_lesser_hit.true in
    (λ _. HasLesserHit-found _ _ _ _ _ c.in-Some.at (Searched-head _ _ _ _ _ _ _ left) hit, λ _. refl)

pub loop-at-preserved : goal.loop-at-preserved
loop-at-preserved g c =
    let left = rw c.in-Some.ensures.steps at c.loop-at.invariant in
    Searched-next _ _ _ _ _ _ _ left (λ hit. absurd (false≢true (sym c.if-is_lesser_hit.false ∙ c.is_lesser_hit.ensures.1 hit)))

pub returns : goal.returns
returns g c =
    let done = rw c.in-None.ensures.steps.0 at c.loop-at.invariant in
    (λ yes. absurd (false≢true yes), λ lesser. absurd (Searched-all _ _ _ _ _ done lesser))
