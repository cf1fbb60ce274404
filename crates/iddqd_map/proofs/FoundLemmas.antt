-- For callers: what a look-up found: the one item that passes a test, or none.
use Rattle.std.proofs.Common.{◌≡◌, ◌∙◌, ◌↔◌, ℕ, Bool, false, Option, Some, None, is_some, refl}
use Rattle.std.specs.Borrow.{Bor, MutBor}
use Rattle.std.specs.Fn.{Once}
use Rattle.std.specs.Option.{IfSome}
use Rattle.iddqd.proofs.LiveLemmas.{live_at}
use Rattle.iddqd.specs.Store.{Store, get}
use Rattle.iddqd_keys.specs.Scan.{IsLive, HasNoHit, AnswersScan}
use Rattle.iddqd_map.specs.Map.{MapState, FindsItem}
use Rattle.iddqd_map.specs.Calls.{MayChange}
use Rattle.iddqd_map.specs.Modify.{ModifiesAt, Modifies}

-- the index that a scan hits is live
pub hit_live : {T : Type 0} (s : Store T) (test : T → Bool) (ix : ℕ) → AnswersScan s test (Some ix) → IsLive s ix
hit_live s test ix scan = let (item, live, passed) = (scan ix).1 refl in live_at s ix item live

pub live_found :
    {T : Type 0} (s : Store T) (test : T → Bool) (found : Option ℕ)
    → AnswersScan s test found
    → IfSome found (IsLive s)
live_found s test None scan = tt
live_found s test (Some ix) scan = hit_live s test ix scan

-- what stands at the index that a scan hits is the item that passes
pub FindsItem-found :
    {T : Type 0} (s : Store T) (test : T → Bool) (ix : ℕ) (r : Option T)
    → AnswersScan s test (Some ix)
    → r ≡ get s ix
    → FindsItem s test r
FindsItem-found s test ix r scan is =
    let (item, live, passed) = (scan ix).1 refl in
    rw (is ∙ live) (ix, record { live = live; only = scan })

-- a scan misses exactly where nothing hits
pub scan_misses :
    {T : Type 0} (s : Store T) (test : T → Bool) (r : Option ℕ)
    → AnswersScan s test r
    → (is_some r ≡ false) ↔ HasNoHit s test
scan_misses s test None none = (λ _. none, λ _. refl)
scan_misses s test (Some ix) scan = (λ is. absurd (cc), λ none. absurd (none ix ((scan ix).1 refl)))

-- a closure that may be called at the item that passes may be called at the one that a scan found
pub callable_found :
    {F T R : Type 0} (g : Once F (Bor T × Unit {0}) R) (f : F) (s : Store T) (test : T → Bool) (found : Option ℕ)
    → AnswersScan s test found
    → MayChange g f s test
    → IfSome found (λ ix. (item : Bor T) → get s ix ≡ Some item.now → g.pre f (item, tt))
callable_found g f s test None scan may = tt
callable_found g f s test (Some ix) scan may = λ item live. may item (ix, record { live = live; only = scan })

-- where the item at the index that a scan hits was modified, that was the one item that passes
module _ {F T R : Type 0} (g : Once F (MutBor T × Unit {0}) (R × (MutBor T × Unit {0}))) (f : F) where
  pub Modifies-found :
      (old : MapState T) (test : T → Bool) (ix : ℕ) (result : Option R) (new : MapState T)
      → AnswersScan old.store test (Some ix)
      → ModifiesAt g f old ix result new
      → Modifies g f old test result new
  Modifies-found old test ix (Some result) new scan (did, memory) =
      let (item, live, passed) = (scan ix).1 refl in
      let same : item ≡ did.was = cc (live, did.live) in
      record {
        ix = ix;
        modified = did;
        hit = record { live = did.live; only = scan };
        passes = rw (← same) passed;
        memory = memory;
      }
  Modifies-found old test ix None new scan (gone, same) =
      let (item, live, passed) = (scan ix).1 refl in
      absurd (cc (gone, live))
