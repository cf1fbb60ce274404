use Rattle.std.proofs.Common.{◌≡◌, ◌∙◌, ◌+◌, ◌==◌, if◌then◌else◌, arith, ℕ, IsSome, false, true, sym, ap, subst}
use Rattle.std.specs.FinMap as finite
use Rattle.iddqd.specs.Compaction.{remapped}
use Rattle.iddqd_hash.proofs.MemberLemmas.{filed_at}
use Rattle.iddqd_groups.specs.Links.{filed_by, next_of, prev_of, renamed}
use Rattle.iddqd_groups.proofs.RenamingLemmas.{Renaming, Renaming-past, Renaming-on, name_free}
use Rattle.iddqd_groups.proofs.linked_table.renames.rename_links.Goals as goal
use Rattle.iddqd_groups.proofs.linked_table.renames.rename_links.Goals.{then-is_present, else-is_present}

pub put-requires-clause-absent : goal.put-requires-clause-absent
put-requires-clause-absent c =
    let name = remapped c.args.remap.now in
    let old = c.args.links.now.items in
    let now = c.renaming.links.items in
    let was = subst (λ (p : ℕ). Renaming name old now p) (sym c.new-ix.ensures) c.renaming.invariant.0 in
    rw c.remap.ensures (name_free name old c.requires.distinct c.requires.never_up now c.take-link.new.links.items
    c.new-ix.result _ was c.take-link.ensures.hash c.take-link.ensures.filed c.take-link.ensures.next
    c.take-link.ensures.prev)

pub renaming-preserved : goal.renaming-preserved
renaming-preserved c =
    let name = remapped c.args.remap.now in
    let old = c.args.links.now.items in
    let now = c.renaming.links.items in
    let was = subst (λ (p : ℕ). Renaming name old now p) (sym c.new-ix.ensures) c.renaming.invariant.0 in
    elim c.if-is_present.branch [
      | then-is_present w ↦
          let next = w.new_name.ensures ∙ ap (λ k. renamed name k) w.take-link.ensures.next_was in
          let prev = w.new_name-then-is_present.ensures ∙ ap (λ k. renamed name k) w.take-link.ensures.prev_was in
          let filed =
          subst (λ k. filed_by w.put.new.links.items
          ≡ finite.insert (filed_by w.take-link.new.links.items) k w.take-link.result.hash) w.remap.ensures
          w.put.ensures.filed in
          let nexts =
          subst (λ k. (j : ℕ) → next_of w.put.new.links.items j ≡ (if j == k then w.new_name.result else next_of
          w.take-link.new.links.items j)) w.remap.ensures w.put.ensures.next in
          let prevs =
          subst (λ k. (j : ℕ) → prev_of w.put.new.links.items j ≡ (if j == k then w.new_name-then-is_present.result else
          prev_of w.take-link.new.links.items j)) w.remap.ensures w.put.ensures.prev in
          let stood = sym (was.rest c.new-ix.result (omega arith)) ∙ w.take-link.ensures.hash in
          let falls = c.requires.never_up c.new-ix.result (filed_at _ _ stood) in
          let on =
          Renaming-on name old c.requires.distinct c.requires.never_up now w.take-link.new.links.items c.new-ix.result _
          was w.take-link.ensures.hash w.take-link.ensures.filed w.take-link.ensures.next w.take-link.ensures.prev
          w.put.new.links.items _ _ next prev filed nexts prevs in (
            rw w.links-is (subst (λ (p : ℕ). Renaming name old w.put.new.links.items (p + 1)) c.new-ix.ensures on),
            rw w.links-is (omega (
              arith,
              w.put.ensures.len,
              w.take-link.ensures.len,
              c.renaming.invariant.1,
              c.renaming-test.true,
              c.new-ix.ensures,
              w.remap.ensures,
              falls,
            )),
            rw w.links-is (omega (arith, w.put.ensures.capacity, w.take-link.ensures.capacity, c.renaming.invariant.2)),
          )
      | else-is_present w ↦
          let none : IsSome (finite.get (filed_by now) c.new-ix.result) → ⊥ =
          λ here. absurd (let never : false ≡ true = sym w.if-is_present.false
          ∙ c.is_present.ensures.1 (rw c.deref.ensures.value here) in cc) in
          let on = Renaming-past name old c.requires.distinct c.requires.never_up now c.new-ix.result was none in
          rw w.links-is (
            subst (λ (p : ℕ). Renaming name old now (p + 1)) c.new-ix.ensures on,
            c.renaming.invariant.1,
            c.renaming.invariant.2,
          )
    ]
