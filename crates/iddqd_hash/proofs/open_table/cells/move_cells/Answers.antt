use Rattle.std.proofs.Common.{◌≡◌, ◌∙◌, ◌<◌, ℕ, ◌+◌, ◌^◌, [], Some, None, length, sym, ap, arith}
use Rattle.std.proofs.lemmas.List.{nil_from_length}
use Rattle.iddqd_hash.specs.OpenTable.{slots_of}
use Rattle.iddqd_hash.proofs.OpenCellLemmas.{cells_long, slots-popped}
use Rattle.iddqd_hash.proofs.OpenPastFullLemmas.{IsReached-past_full}
use Rattle.iddqd_hash.proofs.OpenSlotLemmas.{free_slot}
use Rattle.iddqd_hash.proofs.OpenTableLemmas.{pow_some}
use Rattle.iddqd_hash.proofs.OpenMoveLemmas.{Moving-start, Moving-room, Moving-skip, Moving-put, Moving-end}
use Rattle.iddqd_hash.proofs.open_table.cells.move_cells.Goals as goal

pub moving-init : goal.moving-init
moving-init g c =
    record {
      moving = Moving-start _ _ _ (length c.args.tags.now) c.requires.no_tag c.requires.no_pair;
      within = omega (arith, c.requires.same_length);
    }

pub free_near_home-place-requires-clause-power : goal.free_near_home-place-requires-clause-power
free_near_home-place-requires-clause-power g c = rw c.moving.auto.tags c.requires.power

pub free_near_home-place-requires-clause-ends : goal.free_near_home-place-requires-clause-ends
free_near_home-place-requires-clause-ends g c =
    let same : length c.moving.tags ≡ length c.args.tags.now = c.moving.auto.tags in
    let power : length c.args.tags.now ≡ 2 ^ (c.requires.power.0 + 4) = c.requires.power.1 in
    let some : 0 < 2 ^ (c.requires.power.0 + 4) = pow_some (c.requires.power.0 + 4) in
    Moving-room _ _ _ _ c.moving.invariant.moving (omega (arith, same, power, some)) (omega (arith, same, c.requires.fits))

pub put-requires-clause-inside : goal.put-requires-clause-inside
put-requires-clause-inside g c = c.free_near_home-place.ensures.free.within

pub put-requires-clause-same_length : goal.put-requires-clause-same_length
put-requires-clause-same_length g c =
    sym (cells_long g.C.Cell.slot c.moving.tags c.moving.cells) ∙ c.moving.invariant.moving.probed.same_length

pub put-requires-clause-free : goal.put-requires-clause-free
put-requires-clause-free g c =
    let free = c.free_near_home-place.ensures.free in
    free_slot _ _ (c.moving.invariant.moving.probed.suited c.free_near_home-place.result free.within) free.free

pub moving-preserved : goal.moving-preserved
moving-preserved g c =
    let rest = c.pop.new.self.items in
    let last : c.len.result ≡ length rest = omega (arith, c.len.ensures) in
    let split =
    slots-popped g.C.Cell.slot c.args.old_tags.now _ rest c.in-Some.cell _ _ None c.in-Some.ensures.items last c.has_pair.ensures (sym c.in_default-into_pair.is ∙ c.into_pair.ensures) in
    record {
      moving = Moving-skip _ _ _ _ c.moving.invariant.moving _ split;
      within = omega (arith, c.moving.invariant.within, c.in-Some.ensures.len);
    }

pub moving-preserved-in-Some-into_pair : goal.moving-preserved-in-Some-into_pair
moving-preserved-in-Some-into_pair g c =
    let rest = c.pop.new.self.items in
    let last : c.len.result ≡ length rest = omega (arith, c.len.ensures) in
    let pair : ℕ × g.row.T.Denot = (c.in-Some-into_pair.hash, c.in-Some-into_pair.value) in
    let split =
    slots-popped g.C.Cell.slot c.args.old_tags.now _ rest c.in-Some.cell _ _ (Some pair) c.in-Some.ensures.items last c.has_pair.ensures (sym c.in-Some-into_pair.is ∙ c.into_pair.ensures) in
    let free = c.free_near_home-place.ensures.free in
    record {
      moving = rw (c.put.ensures.slots, c.put.ensures.tags)
          (Moving-put _ _ _ _ c.moving.invariant.moving _ c.free_near_home-place.result _ _ split free.within free.free (IsReached-past_full _ _ _ c.free_near_home-place.ensures.past_full));
      within = omega (arith, c.moving.invariant.within, c.in-Some.ensures.len);
    }

pub returns-clause-moved : goal.returns-clause-moved
returns-clause-moved g c =
    let none : c.moving.old.items ≡ [] = nil_from_length _ (omega (arith, c.in_default.ensures.cases.0)) in
    Moving-end _ _ _ _ c.moving.invariant.moving (ap (slots_of g.C.Cell.slot c.args.old_tags.now) none)

pub returns-clause-probed : goal.returns-clause-probed
returns-clause-probed g c = c.moving.invariant.moving.probed

pub returns-clause-unmarked : goal.returns-clause-unmarked
returns-clause-unmarked g c = c.moving.invariant.moving.counted
