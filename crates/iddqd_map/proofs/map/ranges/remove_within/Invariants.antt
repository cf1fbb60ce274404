use Rattle.std.proofs.Common.{◌≡◌, ◌≤◌, ℕ, Bool, IfSome}
use Rattle.iddqd.specs.Store.{Store, live_count}
use Rattle.iddqd_keys.specs.KeyWalk.{IsFirstHit}
use Rattle.iddqd_keys.specs.Bounds.{is_in_bounds}
use Rattle.iddqd_map.specs.KeyIndex.{IsIndexed}
use Rattle.iddqd_map.specs.RangeRetain.{AsksFrom}
use Rattle.iddqd_map.specs.Ranges.{LeavesOthers, RemovesAlong, TakesItem, GivesItem, itself}
use Rattle.iddqd_map.proofs.map.ranges.remove_within.Given as goal

-- what the calls that are still to come leave is what all of them leave
abbrev pub invariant-loop-next : goal.invariant-loop-next
invariant-loop-next g l =
    let compare = g.X.OrderedAt.order in
    let within = is_in_bounds g.X.OrderedAt.compare l.fn.bounds in
    record {
      kept : IsIndexed (g.X.KeyIndex.indexes l.indexes) l.fn.state l.items.store;
      first : IsFirstHit itself compare l.items.store within l.next;
      stands : IfSome l.next (g.X.StepsAt.stands l.indexes l.spot);
      can : (n : ℕ)
          → AsksFrom compare within (TakesItem g.F.FnMut) (λ p x (b : Bool) q. GivesItem g.F.FnMut p x q)
          l.items.store n l.f l.next;
      leaves : (new : Store _) → LeavesOthers l.items.store within new
          → LeavesOthers l.fn.items.store within new;
      removes : (new : Store _) (last : _)
          → RemovesAlong compare within (GivesItem g.F.FnMut) l.f l.items.store new last
          → RemovesAlong compare within (GivesItem g.F.FnMut) l.fn.f l.fn.items.store new last;
      fewer : live_count l.items.store ≤ live_count l.fn.items.store;
      limit : l.items.store.limit ≡ l.fn.items.store.limit;
      slots : l.items.capacity ≡ l.fn.items.capacity;
      capacity : g.X.KeyIndex.capacity l.indexes ≡ g.X.KeyIndex.capacity l.fn.indexes;
      cells : g.X.KeyIndex.cells l.indexes ≡ g.X.KeyIndex.cells l.fn.indexes;
    }

abbrev pub decreases-loop-next : goal.decreases-loop-next
decreases-loop-next g l = live_count l.items.store
