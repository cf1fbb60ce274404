use Rattle.std.proofs.Common.{◌≡◌, ◌≤◌, ℕ, IfSome, Some}
use Rattle.std.specs.Fn.{TakesAt, CalledAt}
use Rattle.iddqd.specs.Store.{Store, get, live_count}
use Rattle.iddqd_keys.specs.Bounds.{is_in_bounds}
use Rattle.iddqd_keys.specs.Scan.{IsHit}
use Rattle.iddqd_map.specs.KeyIndex.{IsIndexed}
use Rattle.iddqd_map.specs.Bulk.{AsksAndGives, GivesIfRefused}
use Rattle.iddqd_map.specs.RangeRetain.{AsksFrom, KeepsMisses, RetainsWithin}
use Rattle.iddqd_map.proofs.RangeRetainLemmas.{RetainsFrom, to_ask}
use Rattle.iddqd_map.specs.Ranges.{TakesItem, itself}
use Rattle.iddqd_map.proofs.map.range_retain.retain_within.Given as goal

-- what the asks that are still to come leave is what all of them leave
abbrev pub invariant-loop-next : goal.invariant-loop-next
invariant-loop-next g l =
    let compare = g.X.OrderedAt.order in
    let within = is_in_bounds g.X.OrderedAt.compare l.fn.bounds in
    let both = AsksAndGives g.G.FnMut (CalledAt g.F.FnMut) in
    record {
      kept : IsIndexed (g.X.KeyIndex.indexes l.indexes) l.fn.state l.items.store;
      stands : IfSome l.next (g.X.StepsAt.stands l.indexes l.spot);
      can : (n : ℕ)
          → AsksFrom compare within (TakesAt g.F.FnMut) (CalledAt g.F.FnMut) l.items.store n l.keep l.next;
      can_give : (n : ℕ)
          → AsksFrom compare within (TakesItem g.G.FnMut) (GivesIfRefused g.G.FnMut) l.items.store n l.gone l.next;
      among : (j : ℕ) (x : _) → get l.items.store j ≡ Some x → get l.fn.items.store j ≡ Some x;
      passing : (n : ℕ) → l.next ≡ Some n → IsHit l.items.store within n;
      retains : (new : Store _) (last : _)
          → RetainsFrom compare g.met.X.StepsAt.total within both (l.keep, l.gone) l.items.store l.next new last
          → RetainsWithin compare within both (l.fn.keep, l.fn.gone) l.fn.items.store new last;
      others : KeepsMisses l.fn.items.store within l.items.store;
      fewer : live_count l.items.store ≤ live_count l.fn.items.store;
      limit : l.items.store.limit ≡ l.fn.items.store.limit;
      slots : l.items.capacity ≡ l.fn.items.capacity;
      capacity : g.X.KeyIndex.capacity l.indexes ≡ g.X.KeyIndex.capacity l.fn.indexes;
      cells : g.X.KeyIndex.cells l.indexes ≡ g.X.KeyIndex.cells l.fn.indexes;
    }

abbrev pub decreases-loop-next : goal.decreases-loop-next
decreases-loop-next g l = to_ask itself g.X.OrderedAt.order l.items.store l.next
