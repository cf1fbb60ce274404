use Rattle.std.proofs.Common.{◌≡◌, ◌∙◌, ◌≤◌, [], length, refl, sym, arith}
use Rattle.std.specs.FinMap as finite
use Rattle.std.proofs.lemmas.List.Sorted.{length_permutation}
use Rattle.iddqd_hash.specs.MapHashTable.{filed}
use Rattle.iddqd_c.proofs.CopyLemmas.{IsCopied-start, IsCopied-step, IsCopied-end, nothing_left}
use Rattle.iddqd_c.proofs.LayerLemmas.{under_most}
use Rattle.iddqd_c.proofs.layer.finds.list.Goals as goal

pub loop-at-init : goal.loop-at-init
loop-at-init c = IsCopied-start c.indexes_under-found.result c.args.indexes.now

pub returns-in-None : goal.returns-in-None
returns-in-None c =
    let end = IsCopied-end _ _ _ _ (rw c.in-None.ensures.steps.0 at c.loop-at.invariant) in
    record {
      done = refl;
      found = c.indexes_under-found.result;
      each_once = rw (c.new.ensures, c.mix.ensures) at c.indexes_under-found.ensures;
      counted = end.0;
      filled = end.1;
    }

pub loop-at-preserved : goal.loop-at-preserved
loop-at-preserved c =
    IsCopied-step _ _ _ _ _ _ _ (rw c.in-Some.ensures.steps at c.loop-at.invariant) c.loop-at.auto.indexes
    (rw c.as_u32.ensures at c.write.ensures.inside) c.write.ensures.outside

pub returns : goal.returns
returns c =
    let few : length c.indexes_under-found.result ≤ finite.len (filed c.args.filed.now) =
    omega (arith, length_permutation _ _ c.indexes_under-found.ensures, under_most c.new.result c.args.filed.now) in
    let most = c.len-at-end.ensures in
    let at_end : c.loop-at.at ≡ finite.len (filed c.args.filed.now) =
    omega (arith, c.loop-at.auto.at-end, c.loop-at-test.false, most) in
    let none : c.loop-at.found ≡ [] = nothing_left _ _ _ _ _ c.loop-at.invariant (omega (arith, few, at_end)) in
    let end = IsCopied-end _ _ _ _ (rw none at c.loop-at.invariant) in
    record {
      done = refl;
      found = c.indexes_under-found.result;
      each_once = rw (c.new.ensures, c.mix.ensures) at c.indexes_under-found.ensures;
      counted = c.len.ensures ∙ sym at_end ∙ end.0;
      filled = end.1;
    }
