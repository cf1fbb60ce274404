use Rattle.iddqd_order.proofs.Names.{true, rules, refl, most_levels, ◌<◌, [], ◌∷◌, ◌++◌, length, ℕ, suc, ◌-◌, remove, slice_index, arith, ap, sym, ◌∙◌, ◌≡◌, subst, child, roll-Node, out-roll-Node, row, children, child_room, flat, place_at_level}
use Rattle.iddqd_order.proofs.NodeLemmas.{row-roll, children-roll, room-roll}
use Rattle.iddqd_order.proofs.RemovalLemmas.{holds-leaf, holds-level, goes-below, ends-inner, child-below, child-before, remade-leaf, TookNow, took-now, took-below, took-here, remade, room-kept}
use Rattle.iddqd_order.proofs.DescentLemmas.{child_is}
use Rattle.iddqd_order.proofs.SpotCursorLemmas.{ends-here, read-below}
use Rattle.iddqd_order.specs.Node.{inners}
use Rattle.iddqd_order.specs.Removal.{inners_of, Recounts}
use Rattle.iddqd_order.proofs.GapLeftLemmas.{LeadsTo, goes-there, left-in_leaf, left-here, left-below}
use Rattle.iddqd_order.proofs.RecountLemmas.{child-counted, inners-leaf, unchanged, recounted-below, recounted-mended}
use Rattle.iddqd_order.proofs.btree_table.node.Node.+remove.Goals as goal
use Rattle.iddqd_order.proofs.btree_table.node.Node.+remove.Goals.{then-height-level, else-height-level}

pub remove-requires : goal.remove-requires
remove-requires g t c =
    let e = c.get-i.ensures ∙ ap (λ z. slice_index c.args.path.now z) c.if-height-eq0.true in
    rw e (holds-leaf c.args.level c.args.height c.args.self.now c.args.path.now c.if-height-eq0.true c.requires.holds)

pub returns-then-height-eq0 : goal.returns-then-height-eq0
returns-then-height-eq0 g t c =
    let k =
    remade-leaf c.args.level c.args.height c.get-i.result c.args.self.now
    (roll-Node _) c.args.path.now c.if-height-eq0.true c.get-i.ensures c.requires.formed c.requires.holds
    (row-roll _ ∙ c.remove.ensures.items) (children-roll _) in
    let left = left-in_leaf c.args.level c.args.height c.get-i.result c.args.self.now (roll-Node _) c.args.path.now c.if-height-eq0.true c.get-i.ensures c.requires.holds (row-roll _ ∙ c.remove.ensures.items) in
    record {
      index =
          c.remove.ensures.value
          ∙ sym (ends-here (omega (arith, c.if-height-eq0.true)) c.get-i.ensures c.requires.formed c.requires.holds).spot_is;
      items = k.items;
      formed = k.formed;
      fewer = k.fewer;
      counted =
          unchanged c.args.reserve.now (inners-leaf c.args.height c.args.self.now c.if-height-eq0.true)
          (inners-leaf c.args.height (roll-Node _) c.if-height-eq0.true);
      goes = λ wanted. left.goes;
      place = λ wanted. left.place;
      path = c.requires.path;
      above = λ m lt. refl;
    }

pub index_mut-requires : goal.index_mut-requires
index_mut-requires g t c =
    search (rules, (ends-inner c.args.height c.args.level c.get-i.result c.args.self.now c.args.path.now c.if-height-eq0.false c.if-height-level.true c.get-i.ensures c.requires.formed c.requires.holds).here)

pub get-here-requires : goal.get-here-requires
get-here-requires g t c = (ends-here (omega (arith, c.if-height-level.true)) c.get-i.ensures c.requires.formed c.requires.holds).within

pub remove_last-last-requires : goal.remove_last-last-requires
remove_last-last-requires g t c =
    let e = ends-inner c.args.height c.args.level c.get-i.result c.args.self.now c.args.path.now c.if-height-eq0.false c.if-height-level.true c.get-i.ensures c.requires.formed c.requires.holds in
    let at = e.within in
    let b =
    child-before c.args.height c.get-i.result c.args.self.now c.index_mut.result.now c.if-height-eq0.false
    (omega arith) c.requires.formed (search rules) in
    let five = b.1.0 in
    let k =
    child-counted c.args.height c.get-i.result c.args.self.now c.index_mut.result.now c.if-height-eq0.false e.here
    (search rules) in
    record { some = omega arith; formed = b.1.1; counted = omega (arith, k, c.requires.counted) }

pub set-requires : goal.set-requires
set-requires g t c =
    simp out-roll-Node (ends-inner c.args.height c.args.level c.get-i.result c.args.self.now c.args.path.now c.if-height-eq0.false c.if-height-level.true c.get-i.ensures c.requires.formed c.requires.holds).within

pub overflow_add-i : goal.overflow_add-i
overflow_add-i g t c =
    omega (arith, (ends-here (omega (arith, c.if-height-level.true)) c.get-i.ensures c.requires.formed c.requires.holds).low)

pub set_and_zero_below-requires-clause-place : goal.set_and_zero_below-requires-clause-place
set_and_zero_below-requires-clause-place g t c =
    omega (arith, (ends-here (omega (arith, c.if-height-level.true)) c.get-i.ensures c.requires.formed c.requires.holds).low)

pub index_mut-requires-else-height-level : goal.index_mut-requires-else-height-level
index_mut-requires-else-height-level g t c =
    let le = holds-level c.args.level c.args.height c.args.self.now c.args.path.now c.requires.holds in
    search (rules, (goes-below c.args.height c.args.level c.get-i.result c.args.self.now c.args.path.now (omega arith) c.get-i.ensures c.requires.formed c.requires.holds).here)

pub remove-removed-requires : goal.remove-removed-requires
remove-removed-requires g t c = λ κs within.
    let b = child-below c.args.level c.args.height c.get-i.result c.args.self.now c.index_mut-else-height-level.result.now c.args.path.now c.if-height-eq0.false c.if-height-level.false c.get-i.ensures c.requires.formed c.requires.holds (search rules) in
    let five = b.formed.0 in
    let le = holds-level c.args.level c.args.height c.args.self.now c.args.path.now c.requires.holds in
    let here = (goes-below c.args.height c.args.level c.get-i.result c.args.self.now c.args.path.now (omega arith) c.get-i.ensures c.requires.formed c.requires.holds).here in
    let k = child-counted c.args.height c.get-i.result c.args.self.now c.index_mut-else-height-level.result.now c.if-height-eq0.false here (search rules) in
    (omega arith, (within, (omega arith, (omega arith, (b.formed.1, (b.holds, (c.requires.path, omega (arith, k, c.requires.counted))))))))

-- what is mended, on both ways
took :
    (g : _) (t : ℕ) (c : goal.After-mend-arg-4-1 g t)
    → TookNow c.args.height c.get-i.result c.args.self.now c.if-height-level.self
    (remove (flat c.args.height c.args.self.now)
    (place_at_level c.args.level c.args.height c.args.self.now c.args.path.now))
took g t c =
    elim c.if-height-level.branch [
      | then-height-level w ↦
          (let d = w.remove_last-last.ensures in
          let k = took-here c.args.level c.args.height c.get-i.result c.args.self.now w.index_mut.result.now w.remove_last-last.new.self c.args.path.now w.remove_last-last.result c.if-height-eq0.false w.if-height-level.true c.get-i.ensures c.requires.formed c.requires.some c.requires.holds (search rules) d.items d.formed d.fewer in
          let set_is = simp out-roll-Node at w.set.ensures in
          took-now c.args.height c.get-i.result c.args.self.now c.if-height-level.self _ _ _ k
          (ap row w.self-is ∙ row-roll _ ∙ set_is) (ap children w.self-is ∙ children-roll _ ∙ children-roll _)
          (ap child_room w.self-is ∙ room-roll _ ∙ room-roll _))
      | else-height-level w ↦
          (let d = w.remove-removed.ensures in
          let k = took-below c.args.level c.args.height c.get-i.result c.args.self.now w.index_mut-else-height-level.result.now w.remove-removed.new.self c.args.path.now c.if-height-eq0.false w.if-height-level.false c.get-i.ensures c.requires.formed c.requires.some c.requires.holds (search rules) d.items d.formed d.fewer in
          took-now c.args.height c.get-i.result c.args.self.now c.if-height-level.self _ _ _ k
          (ap row w.self-is ∙ row-roll _) (ap children w.self-is ∙ children-roll _)
          (ap child_room w.self-is ∙ room-roll _))
    ]

-- the index is the one to which the path goes, on both ways
index :
    (g : _) (t : ℕ) (c : goal.After-mend-arg-4-1 g t)
    → c.if-height-level.removed
    ≡ slice_index (flat c.args.height c.args.self.now)
    (place_at_level c.args.level c.args.height c.args.self.now c.args.path.now)
index g t c =
    elim c.if-height-level.branch [
      | then-height-level w ↦
          w.removed-is ∙ w.get-here.ensures
          ∙ sym (ends-here (omega (arith, w.if-height-level.true)) c.get-i.ensures c.requires.formed c.requires.holds).spot_is
      | else-height-level w ↦
          (let le = holds-level c.args.level c.args.height c.args.self.now c.args.path.now c.requires.holds in
          let other = w.if-height-level.false in
          let b = goes-below c.args.height c.args.level c.get-i.result c.args.self.now c.args.path.now (omega arith) c.get-i.ensures c.requires.formed c.requires.holds in
          let same : w.index_mut-else-height-level.result.now ≡ child c.args.self.now c.get-i.result =
          child_is c.args.self.now c.get-i.result w.index_mut-else-height-level.result.now b.here (search rules) in
          w.removed-is
          ∙ read-below c.args.height c.args.level c.get-i.result w.remove-removed.result c.args.self.now c.args.path.now b c.requires.formed
          (subst (λ z. w.remove-removed.result ≡ slice_index (flat (c.args.height - 1) z) (place_at_level c.args.level (c.args.height - 1) z c.args.path.now)) same w.remove-removed.ensures.index))
    ]

below :
    (g : _) (t : ℕ) (c : goal.After-mend-arg-4-1 g t)
    → Recounts c.args.reserve.now c.if-height-level.reserve (inners c.args.height c.args.self.now)
    (suc (inners_of (c.args.height - 1) (children c.if-height-level.self)))
below g t c =
    elim c.if-height-level.branch [
      | then-height-level w ↦
          (let e = ends-inner c.args.height c.args.level c.get-i.result c.args.self.now c.args.path.now c.if-height-eq0.false w.if-height-level.true c.get-i.ensures c.requires.formed c.requires.holds in
          rw (ap children w.self-is ∙ children-roll _ ∙ children-roll _, w.reserve-is)
          (recounted-below c.args.height c.get-i.result c.args.self.now w.index_mut.result.now w.remove_last-last.new.self c.args.reserve.now w.remove_last-last.new.reserve c.if-height-eq0.false e.here (search rules) w.remove_last-last.ensures.counted))
      | else-height-level w ↦
          (let le = holds-level c.args.level c.args.height c.args.self.now c.args.path.now c.requires.holds in
          let other = w.if-height-level.false in
          let here = (goes-below c.args.height c.args.level c.get-i.result c.args.self.now c.args.path.now (omega arith) c.get-i.ensures c.requires.formed c.requires.holds).here in
          rw (ap children w.self-is ∙ children-roll _, w.reserve-is)
          (recounted-below c.args.height c.get-i.result c.args.self.now w.index_mut-else-height-level.result.now w.remove-removed.new.self c.args.reserve.now w.remove-removed.new.reserve c.if-height-eq0.false here (search rules) w.remove-removed.ensures.counted))
    ]

-- where the path goes then, on both ways
left :
    (g : _) (t : ℕ) (c : goal.After-mend-arg-4-1 g t)
    → g.G.GoesOn.to_gap ≡ true
    → LeadsTo c.args.height (row c.if-height-level.self) (children c.if-height-level.self) c.if-height-level.path
    (place_at_level c.args.level c.args.height c.args.self.now c.args.path.now)
left g t c wanted =
    elim c.if-height-level.branch [
      | then-height-level w ↦
          (let set_is = simp out-roll-Node at w.set.ensures in
          let e = ends-inner c.args.height c.args.level c.get-i.result c.args.self.now c.args.path.now c.if-height-eq0.false w.if-height-level.true c.get-i.ensures c.requires.formed c.requires.holds in
          let same : w.index_mut.result.now ≡ child c.args.self.now c.get-i.result =
          child_is c.args.self.now c.get-i.result w.index_mut.result.now e.here (search rules) in
          rw (ap row w.self-is ∙ row-roll _ ∙ set_is, ap children w.self-is ∙ children-roll _ ∙ children-roll _, w.path-is)
          (left-here c.args.level c.args.height c.get-i.result c.args.self.now w.remove_last-last.new.self c.args.path.now w.set_and_zero_below.new.self w.remove_last-last.result c.if-height-eq0.false w.if-height-level.true c.get-i.ensures c.requires.formed c.requires.holds (subst (λ z. flat (c.args.height - 1) z ≡ flat (c.args.height - 1) w.remove_last-last.new.self ++ w.remove_last-last.result ∷ []) same w.remove_last-last.ensures.items) w.set_and_zero_below.ensures.here w.set_and_zero_below.ensures.below))
      | else-height-level w ↦
          (let d = w.remove-removed.ensures in
          let inner = c.if-height-eq0.false in
          let same : slice_index w.remove-removed.new.path c.args.height ≡ c.get-i.result =
          d.above c.args.height (omega arith) ∙ sym c.get-i.ensures in
          rw (ap row w.self-is ∙ row-roll _, ap children w.self-is ∙ children-roll _, w.path-is)
          (left-below c.args.level c.args.height c.get-i.result c.args.self.now w.index_mut-else-height-level.result.now w.remove-removed.new.self c.args.path.now w.remove-removed.new.path c.if-height-eq0.false w.if-height-level.false c.get-i.ensures c.requires.formed c.requires.holds (search rules) same (record { goes = d.goes wanted; place = d.place wanted })))
    ]

-- what stays of it
kept_above :
    (g : _) (t : ℕ) (c : goal.After-mend-arg-4-1 g t)
    → (length c.if-height-level.path ≡ most_levels)
    × ((m : ℕ) → c.args.height < m → slice_index c.if-height-level.path m ≡ slice_index c.args.path.now m)
kept_above g t c =
    elim c.if-height-level.branch [
      | then-height-level w ↦ rw w.path-is (w.set_and_zero_below.ensures.length, w.set_and_zero_below.ensures.above)
      | else-height-level w ↦ rw w.path-is (w.remove-removed.ensures.path, λ m lt. w.remove-removed.ensures.above m (omega arith))
    ]

pub mend-requires : goal.mend-requires
mend-requires g t c =
    let inner = c.if-height-eq0.false in
    let levels = c.requires.levels in
    record {
      inner = omega arith;
      levels = c.requires.levels;
      lacks = (took g t c).took.may_lack;
      some = omega (arith, c.requires.counted, (below g t c).inners);
      leads = λ wanted. (left g t c wanted).leads;
      path = (kept_above g t c).0;
    }

pub returns : goal.returns
returns g t c =
    let k = took g t c.before in
    let did = c.mend.ensures in
    let m =
    remade c.args.height c.get-i.result c.args.self.now (roll-Node _) _ _ _ _ _ k.took did.mended (row-roll _)
    (children-roll _) (room-kept c.args.self.now _ (did.capacity ∙ k.room_is)) in
    let there = λ (wanted : g.G.GoesOn.to_gap ≡ true).
    goes-there c.args.height (roll-Node _) _ _ c.mend.new.path (place_at_level c.args.level c.args.height c.args.self.now c.args.path.now) c.if-height-eq0.false (row-roll _) (children-roll _) (record { leads = did.leads wanted; place = λ d. did.place wanted d d ∙ (left g t c.before wanted).place d }) in
    record {
      index = index g t c.before;
      items = m.items;
      formed = m.formed;
      fewer = m.fewer;
      counted = recounted-mended c.args.height c.args.self.now (roll-Node _) (children c.if-height-level.self) c.mend.new.children.items c.args.reserve.now c.if-height-level.reserve c.mend.new.reserve c.if-height-eq0.false (below g t c.before) did.counted (children-roll _);
      goes = λ wanted. (there wanted).goes;
      place = λ wanted. (there wanted).place;
      path = did.path;
      above = λ m lt. did.above m lt ∙ (kept_above g t c.before).1 m lt;
    }

pub set_and_zero_below-requires-clause-path : goal.set_and_zero_below-requires-clause-path
set_and_zero_below-requires-clause-path g t c = c.requires.path
