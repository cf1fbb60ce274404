use Rattle.std.proofs.Common.{ℕ, Option, Some, None}
use Rattle.std.specs.Option.{IfSome}
use Rattle.iddqd.specs.Store.{Store}
use Rattle.iddqd_map.specs.KeyIndex.{AreKnownAt}
use Rattle.iddqd_ord_map.proofs.by_order.ByOrderOfUniqueAtHere.find.Goals as goal

-- of a key in order no hash is known
none_known :
    {T H : Type 0} (s : Store T) (known : H) (found : Option ℕ)
    → IfSome found (λ ix. AreKnownAt (λ item (hashes : H). Unit {0}) s ix known)
none_known s known None = tt
none_known s known (Some ix) = λ item live. tt

pub returns-clause-known : goal.returns-clause-known
returns-clause-known g c = none_known c.args.items.now.store (tt {0}) c.find_by.result
