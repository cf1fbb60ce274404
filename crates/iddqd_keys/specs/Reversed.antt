-- Queries in a reversed order.
use Rattle.std.specs.Prelude.{◌≡◌}
use Rattle.std.proofs.Common.{ap, refl, sym}
use Rattle.std.specs.Ordering.{flip_args, ordering_reverse}
use Rattle.std.specs.declared.cmp.Ordering.{Ordering}
use Rattle.std.specs.declared.cmp.Ordering.TheVariants.{Less, Equal, Greater}
use Rattle.iddqd_keys.specs.OrderedQuery.{FitsOrder, IsOneKey}

-- what a query answers in a reversed order
abbrev pub reversed_answer : {K : Type 0} → (K → Ordering) → K → Ordering
reversed_answer answer k = ordering_reverse (answer k)

from_less : (r : Ordering) → ordering_reverse r ≡ Less → r ≡ Greater
from_less Less is = cc
from_less Equal is = cc
from_less Greater is = refl

from_greater : (r : Ordering) → ordering_reverse r ≡ Greater → r ≡ Less
from_greater Less is = refl
from_greater Equal is = cc
from_greater Greater is = cc

from_equal : (r : Ordering) → ordering_reverse r ≡ Equal → r ≡ Equal
from_equal Less is = cc
from_equal Equal is = refl
from_equal Greater is = cc

module _ {K : Type 0} {compare : K → K → Ordering} where
  pub FitsOrder-reversed :
      (answer : K → Ordering) → FitsOrder compare answer → FitsOrder (flip_args compare) (reversed_answer answer)
  FitsOrder-reversed answer fits = record {
    less_after = λ a b before less. ap ordering_reverse (fits.greater_before b a before (from_less (answer a) less));
    greater_before = λ a b before greater.
        ap ordering_reverse (fits.less_after b a before (from_greater (answer b) greater));
    equal_keys = λ a b same. ap ordering_reverse (sym (fits.equal_keys b a same));
  }

  pub IsOneKey-reversed :
      (answer : K → Ordering) → IsOneKey compare answer → IsOneKey (flip_args compare) (reversed_answer answer)
  IsOneKey-reversed answer one a b here there = one b a (from_equal (answer b) there) (from_equal (answer a) here)
