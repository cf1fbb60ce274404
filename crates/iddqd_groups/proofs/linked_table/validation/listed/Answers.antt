use Rattle.std.proofs.Common.{◌≡◌, ◌<◌, ◌∙◌, false, true, length, IsSome, sym, arith}
use Rattle.std.specs.FinMap as finite
use Rattle.iddqd_groups.specs.Links.{filed_by}
use Rattle.iddqd_groups.proofs.LinkListLemmas.{listed_with, listed_without, listed_all}
use Rattle.iddqd_groups.proofs.linked_table.validation.listed.Goals as goal
use Rattle.iddqd_groups.proofs.linked_table.validation.listed.Goals.{then-is_present+in_ok-push, else-is_present}

pub listing-preserved : goal.listing-preserved
listing-preserved c =
    let links = c.args.links.now in
    let place = c.listing.place in
    let within : place < length links = omega arith in
    elim c.if-is_present.branch [
      | then-is_present+in_ok-push w ↦
          let here = rw c.new-ix.ensures at (c.is_present.ensures.0 w.if-is_present.true) in
          rw (w.list-is, w.in_ok-push.ensures.items, c.new-ix.ensures, c.listing.invariant)
          (sym (listed_with links place within here))
      | else-is_present w ↦
          let gone : IsSome (finite.get (filed_by links) place) → ⊥ =
          λ here. absurd (let never : false ≡ true = sym w.if-is_present.false
          ∙ c.is_present.ensures.1 (rw c.new-ix.ensures here) in cc) in
          rw (w.list-is, c.listing.invariant) (sym (listed_without links place within gone))
    ]

pub returns : goal.returns
returns c = c.listing.invariant ∙ listed_all c.args.links.now c.listing.place (omega arith)
