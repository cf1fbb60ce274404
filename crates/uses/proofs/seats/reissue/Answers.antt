use Rattle.std.proofs.Common.{rules, ◌≡◌, false, subst}
use Rattle.iddqd_maps.specs.ThreeKeys.{AreTaken, all_keys}
use Rattle.uses.specs.Seats.{has_guest, same_guest, same_place, same_ticket, share_key}
use Rattle.uses.specs.declared.seats.Seat.{Seat}
use Rattle.uses.proofs.ExchangeLemmas.{changes, not_changed, unchanged}
use Rattle.uses.proofs.seats.reissue.Goals as goal

pub returns-clause-reissued : goal.returns-clause-reissued
returns-clause-reissued c =
    changes share_key (all_keys same_place same_guest same_ticket) false (AreTaken same_place same_guest same_ticket) c.args.seats.now c.change2.new.self _ (λ (seat : Seat). record seat { ticket = c.args.ticket }) (has_guest c.args.guest) c.change2.result c.change2.ensures.changes
    (λ was item (seat, returned, shows).
    let made : item ≡ record seat.now { ticket = c.args.ticket } = search rules in
    subst (λ (x : Seat). item ≡ record x { ticket = c.args.ticket }) shows made)

pub returns-clause-refused : goal.returns-clause-refused
returns-clause-refused c =
    not_changed share_key (all_keys same_place same_guest same_ticket) false (AreTaken same_place same_guest same_ticket) c.args.seats.now c.change2.new.self _ (λ (seat : Seat). record seat { ticket = c.args.ticket }) (has_guest c.args.guest) c.change2.result c.change2.ensures.changes
    (λ was item (seat, returned, shows).
    let made : item ≡ record seat.now { ticket = c.args.ticket } = search rules in
    subst (λ (x : Seat). item ≡ record x { ticket = c.args.ticket }) shows made)

pub returns-clause-unchanged : goal.returns-clause-unchanged
returns-clause-unchanged c = unchanged share_key (all_keys same_place same_guest same_ticket) false (AreTaken same_place same_guest same_ticket) c.args.seats.now c.change2.new.self _ (has_guest c.args.guest) c.change2.result c.change2.ensures.changes
