use Rattle.std.proofs.Common.{rules, ◌≡◌, false, subst}
use Rattle.iddqd_maps.specs.ThreeKeys.{AreTaken, all_keys}
use Rattle.uses.specs.Seats.{has_ticket, same_guest, same_place, same_ticket, share_key}
use Rattle.uses.specs.declared.seats.Seat.{Seat}
use Rattle.uses.proofs.ExchangeLemmas.{changes, not_changed, unchanged}
use Rattle.uses.proofs.seats.move_to.Goals as goal

pub returns-clause-moved : goal.returns-clause-moved
returns-clause-moved c =
    changes share_key (all_keys same_place same_guest same_ticket) false (AreTaken same_place same_guest same_ticket) c.args.seats.now c.change3.new.self _ (λ (seat : Seat). record seat { place = c.args.place }) (has_ticket c.args.ticket) c.change3.result c.change3.ensures.changes
    (λ was item (seat, returned, shows).
    let made : item ≡ record seat.now { place = c.args.place } = search rules in
    subst (λ (x : Seat). item ≡ record x { place = c.args.place }) shows made)

pub returns-clause-refused : goal.returns-clause-refused
returns-clause-refused c =
    not_changed share_key (all_keys same_place same_guest same_ticket) false (AreTaken same_place same_guest same_ticket) c.args.seats.now c.change3.new.self _ (λ (seat : Seat). record seat { place = c.args.place }) (has_ticket c.args.ticket) c.change3.result c.change3.ensures.changes
    (λ was item (seat, returned, shows).
    let made : item ≡ record seat.now { place = c.args.place } = search rules in
    subst (λ (x : Seat). item ≡ record x { place = c.args.place }) shows made)

pub returns-clause-unchanged : goal.returns-clause-unchanged
returns-clause-unchanged c = unchanged share_key (all_keys same_place same_guest same_ticket) false (AreTaken same_place same_guest same_ticket) c.args.seats.now c.change3.new.self _ (has_ticket c.args.ticket) c.change3.result c.change3.ensures.changes
