use Rattle.std.proofs.Common.{rules, arith}
use Rattle.iddqd_order.proofs.Names.{◌-◌, ℕ, slice_index, get_or, Node}
use Rattle.iddqd_order.proofs.NodeLemmas.{formed-within}
use Rattle.iddqd_order.proofs.GapNumberLemmas.{LeadsAlike}
use Rattle.iddqd_order.proofs.GapLeftLemmas.{lacking-formed, goes-low, numbered, mended-leads}
use Rattle.iddqd_order.proofs.btree_table.removal.mend_along.Goals as goal

pub number_of_gap-gap-requires-clause-few : goal.number_of_gap-gap-requires-clause-few
number_of_gap-gap-requires-clause-few c j d lt =
    let here = c.requires.leads.here in
    let is = c.get.ensures in
    let ks = c.args.children.now.items in
    rw c.as_slice.ensures.value (formed-within (c.args.height - 1) (get_or ks j d) (lacking-formed (c.args.height - 1) c.args.i c.args.row.now ks c.requires.lacks j d (omega arith)))

pub number_of_gap-gap-requires-clause-place : goal.number_of_gap-gap-requires-clause-place
number_of_gap-gap-requires-clause-place c =
    let ks = c.args.children.now.items in
    let p = c.args.path.now in
    let at : ℕ = slice_index p c.args.height in
    let k : Node = c.index.result.now in
    let formed = lacking-formed (c.args.height - 1) c.args.i c.args.row.now ks c.requires.lacks at k c.requires.leads.here in
    let low = goes-low (c.args.height - 1) (get_or ks at k) p formed (c.requires.leads.on k) in
    let few = formed-within (c.args.height - 1) (get_or ks at k) formed in
    let is = c.get-2.ensures in
    omega arith

pub returns-clause-mended : goal.returns-clause-mended
returns-clause-mended c = c.fill_up.ensures.mended (c.args.height - 1) c.requires.lacks

pub returns-clause-counted : goal.returns-clause-counted
returns-clause-counted c = c.fill_up.ensures.counted (c.args.height - 1) c.requires.lacks

pub gap_of_number-at-requires : goal.gap_of_number-at-requires
gap_of_number-at-requires c =
    let m = c.fill_up.ensures.mended (c.args.height - 1) c.requires.lacks in
    let is = c.number_of_gap-gap.ensures in
    let fits = numbered c.args.height c.args.i c.args.row.now c.fill_up.new.row c.args.children.now.items c.fill_up.new.children.items c.args.path.now c.requires.lacks m c.requires.leads in
    search (rules, fits, is)

pub set-requires-clause-place : goal.set-requires-clause-place
set-requires-clause-place c =
    let m = c.fill_up.ensures.mended (c.args.height - 1) c.requires.lacks in
    let one = m.one_more in
    let few = m.within in
    let lt = c.gap_of_number-at.ensures.within in
    omega arith

pub set-requires-2-clause-place : goal.set-requires-2-clause-place
set-requires-2-clause-place c =
    let m = c.fill_up.ensures.mended (c.args.height - 1) c.requires.lacks in
    let k : Node = c.index.result.now in
    let g = rw c.as_slice-2.ensures.value at c.gap_of_number-at.ensures in
    let lt = g.within in
    let le = g.place k in
    let few = formed-within (c.args.height - 1) (get_or c.fill_up.new.children.items c.gap_of_number-at.result.0 k) (m.below c.gap_of_number-at.result.0 k lt).1 in
    omega arith

led :
    (c : goal.After-set-2)
    → LeadsAlike c.args.height c.args.row.now c.fill_up.new.row c.args.children.now.items c.fill_up.new.children.items
    c.args.path.now c.set-2.new.self
led c =
    let m = c.fill_up.ensures.mended (c.args.height - 1) c.requires.lacks in
    let g = rw c.as_slice-2.ensures.value at c.gap_of_number-at.ensures in
    mended-leads c.args.height c.args.i c.args.row.now c.fill_up.new.row c.args.children.now.items c.fill_up.new.children.items c.args.path.now c.set.new.self c.set-2.new.self c.number_of_gap-gap.result c.gap_of_number-at.result.0 c.gap_of_number-at.result.1
    (λ e. absurd (omega (arith, e, c.requires.inner))) c.requires.levels c.requires.path c.set.ensures.length c.requires.lacks m c.requires.leads
    (rw (c.as_slice.ensures.value, c.get.ensures, c.get-2.ensures) at c.number_of_gap-gap.ensures) g.within g.place g.number c.set.ensures.place c.set-2.ensures.place

pub returns-clause-leads : goal.returns-clause-leads
returns-clause-leads c = (led c).leads

pub returns-clause-place : goal.returns-clause-place
returns-clause-place c = (led c).same

pub returns-clause-capacity : goal.returns-clause-capacity
returns-clause-capacity c = c.fill_up.ensures.capacity
