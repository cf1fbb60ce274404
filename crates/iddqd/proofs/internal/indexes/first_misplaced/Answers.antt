use Rattle.std.proofs.Common.{◌<◌, length, slice_index, sym, ap, ◌∙◌, arith}
use Rattle.std.proofs.lemmas.List.{same_lists, get_or_default, get_or_read}
use Rattle.iddqd.specs.Compaction.{numbers}
use Rattle.iddqd.proofs.CompactionLemmas.{length-numbers, get_or-numbers}
use Rattle.iddqd.proofs.internal.indexes.first_misplaced.Goals as goal

pub returns-then-as_u32-place : goal.returns-then-as_u32-place
returns-then-as_u32-place c = λ same.
    let indexes = c.args.indexes.now in
    let within : c.loop-place.place < length indexes = omega arith in
    let read = get_or_read indexes c.loop-place.place _ within c.index-indexes-place.is 0 in
    let named = ap (λ l. slice_index l c.loop-place.place) same ∙ get_or-numbers (length indexes) c.loop-place.place 0 within in
    c.if-as_u32-place.true (c.as_u32.ensures ∙ read ∙ named)

pub returns : goal.returns
returns c =
    let indexes = c.args.indexes.now in
    same_lists indexes (numbers (length indexes)) (sym (length-numbers (length indexes))) (λ k d within. get_or_default indexes k d 0 within ∙ c.loop-place.invariant k (omega arith) ∙ sym (get_or-numbers (length indexes) k d within))
