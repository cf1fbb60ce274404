use Rattle.std.proofs.Common.{rules, ◌≡◌, false, subst}
use Rattle.iddqd_maps.specs.ThreeKeys.{AreTaken, all_keys}
use Rattle.uses.specs.Seats.{has_place, same_guest, same_place, same_ticket, share_key}
use Rattle.uses.specs.declared.seats.Seat.{Seat}
use Rattle.uses.proofs.ExchangeLemmas.{changes, not_changed, unchanged}
use Rattle.uses.proofs.seats.give_to.Goals as goal

pub returns-clause-given : goal.returns-clause-given
returns-clause-given c =
    changes share_key (all_keys same_place same_guest same_ticket) false (AreTaken same_place same_guest same_ticket) c.args.seats.now c.change1.new.self _ (λ (seat : Seat). record seat { guest = c.args.guest }) (has_place c.args.place) c.change1.result c.change1.ensures.changes
    (λ was item (seat, returned, shows).
    let made : item ≡ record seat.now { guest = c.args.guest } = search rules in
    subst (λ (x : Seat). item ≡ record x { guest = c.args.guest }) shows made)

pub returns-clause-refused : goal.returns-clause-refused
returns-clause-refused c =
    not_changed share_key (all_keys same_place same_guest same_ticket) false (AreTaken same_place same_guest same_ticket) c.args.seats.now c.change1.new.self _ (λ (seat : Seat). record seat { guest = c.args.guest }) (has_place c.args.place) c.change1.result c.change1.ensures.changes
    (λ was item (seat, returned, shows).
    let made : item ≡ record seat.now { guest = c.args.guest } = search rules in
    subst (λ (x : Seat). item ≡ record x { guest = c.args.guest }) shows made)

pub returns-clause-unchanged : goal.returns-clause-unchanged
returns-clause-unchanged c = unchanged share_key (all_keys same_place same_guest same_ticket) false (AreTaken same_place same_guest same_ticket) c.args.seats.now c.change1.new.self _ (has_place c.args.place) c.change1.result c.change1.ensures.changes
