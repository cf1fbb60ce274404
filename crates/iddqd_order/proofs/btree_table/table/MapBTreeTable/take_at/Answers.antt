use Rattle.std.proofs.lemmas.Bool.{false≢true}
use Rattle.std.specs.List.{slice_get}
use Rattle.iddqd_order.proofs.Names.{ℕ, ◌∙◌, ap, refl, sym, slice_index, place_in}
use Rattle.std.proofs.lemmas.Option.{get_or_from_slice_get}
use Rattle.iddqd_order.specs.MapBTreeTable.{capacity, capacity_of, order_of, spot_place, without}
use Rattle.iddqd_order.proofs.SpotLemmas.{remove-next}
use Rattle.iddqd_order.proofs.btree_table.table.MapBTreeTable.take_at.Goals as goal

pub returns : goal.returns
unfolding capacity
returns c =
    let did = rw c.copied-path.ensures.same at c.remove_along.ensures in
    let old = c.args.self.now in
    let t = c.remove_along.new.self in
    let at = spot_place old c.args.spot.now in
    let b = c.in_ok-ix.ensures in
    record {
      within = did.within;
      removed = did.removed ∙ ap (without (order_of old)) did.index;
      next = b.next ∙ (λ j. slice_get (did.items j) (did.place refl j)) ∙ remove-next (order_of old) at did.within;
      spot = record { is_spot = b.level; index = ap (slice_index (order_of t)) b.place ∙ get_or_from_slice_get (order_of t) (place_in t.root t.height c.remove_along.new.path) _ 0 (sym b.next) };
      place = λ some. b.place ∙ did.place refl;
      memory = ap (λ (r : ℕ). capacity_of r) did.reserved;
    }

pub returns-in_err-ix : goal.returns-in_err-ix
unfolding capacity
returns-in_err-ix c =
    let did = rw c.copied-path.ensures.same at c.remove_along.ensures in
    let old = c.args.self.now in
    let at = spot_place old c.args.spot.now in
    rw c.from_residual.ensures (record {
      within = did.within;
      removed = did.removed ∙ ap (without (order_of old)) did.index;
      next = c.in_err-ix.ensures.next ∙ (λ j. slice_get (did.items j) (did.place refl j)) ∙ remove-next (order_of old) at did.within;
      spot = tt;
      place = λ some. absurd (false≢true some);
      memory = ap (λ (r : ℕ). capacity_of r) did.reserved;
    })

pub behind-requires : goal.behind-requires
behind-requires c = c.remove_along.ensures.goes refl
