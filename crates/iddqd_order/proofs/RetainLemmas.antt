-- What `retain` leaves of a tree.
use Rattle.std.proofs.Common.{◌≡◌, ◌<◌, ℕ, Bool, length, sym, subst, All, Option, nat_eq}
use Rattle.std.proofs.lemmas.Map.Made.{IsDistinct-keys_filter}
use Rattle.std.specs.List.{IsDistinct}
use Rattle.std.specs.Fn.{Mut}
use Rattle.iddqd_order.specs.declared.btree_table.node.Node.{Node}
use Rattle.iddqd_order.specs.MapBTreeTable.{sentinel}
use Rattle.iddqd_order.specs.Retain.{RetainsTo}
use Rattle.iddqd_order.specs.Tree.{in_order, inners_in, IsTree, IsTable}
use Rattle.iddqd_order.proofs.GatherLemmas.{all_kept}

pub IsTable-retained :
    {F : Type 0} {q o : ℕ} (g : Mut F (ℕ × Unit {0}) Bool) (f last : F) (r : Option Node) (h n : ℕ) (s : Option Node)
    (k m : ℕ)
    → IsTable r h n q
    → IsTree s k
    → m ≡ length (in_order s k)
    → RetainsTo g f (in_order r h) (in_order s k) last
    → o ≡ inners_in s k
    → IsTable s k m o
IsTable-retained g f last r h n s k m t tree counted kept inner =
    record {
      tree = tree;
      counted = counted;
      distinct = subst (IsDistinct nat_eq) (sym kept.kept) (IsDistinct-keys_filter nat_eq (λ (a : ℕ × Bool). a.1) kept.asks (subst (IsDistinct nat_eq) (sym kept.each_once) t.distinct));
      assigned = subst (All (λ ix. ix < sentinel)) (sym kept.kept) (all_kept (λ ix. ix < sentinel) kept.asks (subst (All (λ ix. ix < sentinel)) (sym kept.each_once) t.assigned));
      inners = inner;
    }
