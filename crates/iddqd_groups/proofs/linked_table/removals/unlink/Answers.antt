use Rattle.std.proofs.Common.{◌≡◌, ◌≢◌, ◌∙◌, arith, ap, sym, Some, true, false, eqb-true, eq-eqb}
use Rattle.iddqd.specs.Store.{sentinel}
use Rattle.iddqd_hash.specs.{filed}
use Rattle.iddqd_groups.specs.Links.{prev_of}
use Rattle.iddqd_groups.proofs.UnlinkLemmas.{at_other, prev_within, next_left, leads, follower_unled, AreHeadsOf-taken, AreHeadsOf-head_taken}
use Rattle.iddqd_groups.proofs.linked_table.removals.unlink.Goals as goal

pub set_next_if_any-requires : goal.set_next_if_any-requires
set_next_if_any-requires c = λ there.
    let old = c.args.links.now.items in
    let within =
    prev_within (filed c.args.heads.now) old c.requires.linked c.args.ix _ c.take-link.ensures.hash _
    c.take-link.ensures.prev_was there in
    omega (arith, within)

pub set_prev_if_any-requires-clause-present : goal.set_prev_if_any-requires-clause-present
set_prev_if_any-requires-clause-present c = λ there.
    let old = c.args.links.now.items in
    rw (c.set_next_if_any.ensures.filed, c.take-link.ensures.filed)
    (next_left (filed c.args.heads.now) old c.requires.linked c.args.ix _ c.take-link.ensures.hash _
    c.take-link.ensures.next_was there)

pub replace_head-requires-clause-head : goal.replace_head-requires-clause-head
replace_head-requires-clause-head c =
    let old = c.args.links.now.items in
    let first : prev_of old c.args.ix ≡ sentinel =
    sym c.take-link.ensures.prev_was ∙ eqb-true _ _ (sym c.eq.ensures ∙ c.if-eq.true) in
    leads (filed c.args.heads.now) old c.requires.linked c.args.ix _ c.take-link.ensures.hash first
    ∙ ap Some (sym c.new.ensures)

pub replace_head-requires-clause-new : goal.replace_head-requires-clause-new
replace_head-requires-clause-new c =
    let old = c.args.links.now.items in
    rw c.take-link.ensures.next_was (follower_unled (filed c.args.heads.now) old c.requires.linked c.args.ix _
    c.take-link.ensures.hash)

pub returns-then-eq-clause-linked : goal.returns-then-eq-clause-linked
returns-then-eq-clause-linked c =
    let old = c.args.links.now.items in
    let first : c.take-link.result.prev ≡ sentinel = eqb-true _ _ (sym c.eq.ensures ∙ c.if-eq.true) in
    let filed_new = c.set_prev_if_any.ensures.filed ∙ c.set_next_if_any.ensures.filed ∙ c.take-link.ensures.filed in
    rw (c.replace_head.ensures.heads, c.new.ensures)
    (AreHeadsOf-head_taken (filed c.args.heads.now) old c.requires.linked c.args.ix _ c.take-link.ensures.hash _ _ _ _ _
    c.take-link.ensures.next_was c.take-link.ensures.prev_was c.take-link.ensures.next c.take-link.ensures.prev
    c.set_next_if_any.ensures.next c.set_next_if_any.ensures.prev c.set_prev_if_any.ensures.next
    c.set_prev_if_any.ensures.prev filed_new first)

pub returns-else-eq-clause-linked : goal.returns-else-eq-clause-linked
returns-else-eq-clause-linked c =
    let old = c.args.links.now.items in
    let led : c.take-link.result.prev ≢ sentinel =
    λ none. absurd (let never : true ≡ false = sym (eq-eqb _ _ none) ∙ sym c.eq.ensures ∙ c.if-eq.false in cc) in
    let filed_new = c.set_prev_if_any.ensures.filed ∙ c.set_next_if_any.ensures.filed ∙ c.take-link.ensures.filed in
    AreHeadsOf-taken (filed c.args.heads.now) old c.requires.linked c.args.ix _ c.take-link.ensures.hash _ _ _ _ _
    c.take-link.ensures.next_was c.take-link.ensures.prev_was c.take-link.ensures.next c.take-link.ensures.prev
    c.set_next_if_any.ensures.next c.set_next_if_any.ensures.prev c.set_prev_if_any.ensures.next
    c.set_prev_if_any.ensures.prev filed_new led

pub returns-then-eq-clause-next : goal.returns-then-eq-clause-next
returns-then-eq-clause-next c = λ j there other apart.
    c.set_prev_if_any.ensures.next j
    ∙ c.set_next_if_any.ensures.next j there
    ∙ at_other j c.take-link.result.prev c.take-link.result.next _ (λ same. apart (same ∙ c.take-link.ensures.prev_was))
    ∙ c.take-link.ensures.next j other

pub returns-else-eq-clause-next : goal.returns-else-eq-clause-next
returns-else-eq-clause-next c = λ j there other apart.
    c.set_prev_if_any.ensures.next j
    ∙ c.set_next_if_any.ensures.next j there
    ∙ at_other j c.take-link.result.prev c.take-link.result.next _ (λ same. apart (same ∙ c.take-link.ensures.prev_was))
    ∙ c.take-link.ensures.next j other
