use Rattle.std.proofs.Common.{◌≡◌, ◌∙◌, length, sym, ap, subst}
use Rattle.std.specs.Prelude.{IfSome}
use Rattle.std.specs.Iterator.{UpTo, at_most}
use Rattle.iddqd_keys.proofs.KeyWalkLemmas.{length-pairs_at}
use Rattle.iddqd_groups.proofs.in_groups.GroupItemsIterator.size_hint.Goals as goal

pub returns-clause-upper : goal.returns-clause-upper
returns-clause-upper g c =
    let rest = c.self.inside.indexes.rest in
    let as_many : length rest ≡ length c.args.self.now =
    sym (length-pairs_at c.self.inside.items.now.store rest c.self.invariant) ∙ ap length c.self.view_is in
    subst (λ n. IfSome c.size_hint.result.1 (UpTo (at_most n))) as_many c.size_hint.ensures.upper
