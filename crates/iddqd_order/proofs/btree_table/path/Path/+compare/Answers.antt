use Rattle.iddqd_order.proofs.Names.{◌≡◌, ◌-◌, false, sym, ap, refl, ◌∙◌, ranked, Ordering, Less, Equal, Greater, slice_index, child, ReachesGap, Compares}
use Rattle.std.specs.Ordering.{is_ne}
use Rattle.iddqd_order.proofs.CursorLemmas.{gaps-part, gaps-below}
use Rattle.iddqd_order.proofs.NodeLemmas.{child-formed, goes-inner}
use Rattle.iddqd_order.proofs.btree_table.path.Path.+compare.Goals as goal
use Rattle.iddqd_order.proofs.btree_table.path.Path.+compare.Goals.{then-level-eq0-via-then-level-eq0, then-level-eq0-via-else-level-eq0+then-is_ne}

pub returns-then-level-eq0 : goal.returns-then-level-eq0
returns-then-level-eq0 t c n f from to =
    gaps-part c.cmp-here.result c.args.level n c.args.self.now c.args.other.now f from to
    (ranked _ _ c.cmp-here.result (rw (← c.get.ensures, ← c.get-2.ensures) c.cmp-here.ensures))
    (λ e. elim c.then-level-eq0.branch [
      | then-level-eq0-via-then-level-eq0 w ↦ w.if-level-eq0.true
      | then-level-eq0-via-else-level-eq0+then-is_ne w ↦ (let ne = sym w.if-is_ne.true ∙ w.is_ne.ensures ∙ ap is_ne e in absurd (cc))
    ])

alike : (r : Ordering) → false ≡ is_ne r → r ≡ Equal
alike Less e = absurd (cc)
alike Equal e = refl
alike Greater e = absurd (cc)

pub returns : goal.returns
returns t c n f from to =
    let ne = c.if-level-eq0.false in
    let level = c.args.level in let p = c.args.self.now in let q = c.args.other.now in
    let told : Compares c.cmp-here.result (slice_index p level) (slice_index q level) =
    ranked _ _ c.cmp-here.result (rw (← c.get.ensures, ← c.get-2.ensures) c.cmp-here.ensures) in
    let same : slice_index p level ≡ slice_index q level = rw (alike c.cmp-here.result c.if-is_ne.ensures) at told in
    let below = goes-inner level n p ne from in
    let on : ReachesGap (level - 1) (child n (slice_index p level)) q =
    rw (← same) at (goes-inner level n q ne to).on in
    gaps-below c.compare.result level (slice_index p level) n p q ne refl (sym same) (c.compare.ensures (child n (slice_index p level)) (child-formed level n (slice_index p level) ne f below.here) below.on on)
