use Rattle.std.proofs.Common.{◌≡◌, ◌∙◌, ◌≤◌, [], length, refl, sym, arith}
use Rattle.std.proofs.lemmas.List.Sorted.{length_permutation}
use Rattle.iddqd_hash.specs.HashTable.{entries}
use Rattle.iddqd_c.proofs.CopyLemmas.{IsCopied-start, IsCopied-step, IsCopied-end, nothing_left, under_few}
use Rattle.iddqd_c.proofs.index.list.Goals as goal

pub loop-at-init : goal.loop-at-init
loop-at-init c = IsCopied-start c.under-found.result c.args.numbers.now

pub returns-in-None : goal.returns-in-None
returns-in-None c =
    let end = IsCopied-end _ _ _ _ (rw c.in-None.ensures.steps.0 at c.loop-at.invariant) in
    record {
      done = refl;
      found = c.under-found.result;
      each_once = c.under-found.ensures;
      counted = end.0;
      filled = end.1;
    }

pub loop-at-preserved : goal.loop-at-preserved
loop-at-preserved c =
    IsCopied-step _ _ _ _ _ _ _ (rw c.in-Some.ensures.steps at c.loop-at.invariant) c.loop-at.auto.numbers
    c.write.ensures.inside c.write.ensures.outside

pub returns : goal.returns
returns c =
    let few : length c.under-found.result ≤ length (entries c.args.filed.now) =
    omega (arith, length_permutation _ _ c.under-found.ensures, under_few c.args.hash (entries c.args.filed.now)) in
    let most = c.len-at-end.ensures in
    let at_end : c.loop-at.at ≡ length (entries c.args.filed.now) = omega (arith, c.loop-at.auto.at-end, c.loop-at-test.false, most) in
    let none : c.loop-at.found ≡ [] = nothing_left _ _ _ _ _ c.loop-at.invariant (omega (arith, few, at_end)) in
    let end = IsCopied-end _ _ _ _ (rw none at c.loop-at.invariant) in
    record {
      done = refl;
      found = c.under-found.result;
      each_once = c.under-found.ensures;
      counted = c.len.ensures ∙ sym at_end ∙ end.0;
      filled = end.1;
    }
