-- Of calls whose rejected items go to a second closure: the two closures as one, and each of them.
use Rattle.std.proofs.Common.{◌≡◌, ℕ, Bool, true, false, List, [], ◌∷◌, refl, ap, subst, Ordering}
use Rattle.std.specs.Fn.{Mut}
use Rattle.std.specs.List.{FoldsTo}
use Rattle.iddqd.specs.Store.{Store}
use Rattle.iddqd_map.specs.Bulk.{AsksAndGives, GivesIfRefused, TakesBoth, refused_of}
use Rattle.iddqd_map.specs.RangeRetain.{GivesRefusedWithin, RetainsWithin}
use Rattle.iddqd_map.specs.Ranges.{GivesItem, TakesItem}
use Rattle.iddqd_map.specs.Retain.{AsksInTurn}

module _ {F G T : Type 0} (ask : F → T → Bool → F → Type 0) (g : Mut G (T × Unit {0}) (Unit {0})) where
  -- what becomes of the second closure, from the two answers
  pub gives-if :
      (p : G) (x : T) (b : Bool) (q : G)
      → (b ≡ true → q ≡ p)
      → (b ≡ false → GivesItem g p x q)
      → GivesIfRefused g p x b q
  gives-if p x true q stays gives = stays refl
  gives-if p x false q stays gives = gives refl

  -- the calls of the first closure among those of both
  pub asked_first :
      (p : F × G) (asks : List ((ℕ × T) × Bool)) (last : F × G)
      → FoldsTo (λ p a q. AsksAndGives g ask p a.0.1 a.1 q) p asks last
      → FoldsTo (λ p a q. ask p a.0.1 a.1 q) p.0 asks last.0
  asked_first p [] last same = ap (λ s. s.0) same
  asked_first p (a ∷ asks) last folds = (folds.0.0, folds.1.0, asked_first folds.0 asks last folds.2)

  -- and those of the second
  pub given_refused :
      (p : F × G) (asks : List ((ℕ × T) × Bool)) (last : F × G)
      → FoldsTo (λ p a q. AsksAndGives g ask p a.0.1 a.1 q) p asks last
      → FoldsTo (GivesItem g) p.1 (refused_of asks) last.1
  given_refused p [] last same = ap (λ s. s.1) same
  given_refused p ((pair, true) ∷ asks) last folds =
      subst (λ q. FoldsTo (GivesItem g) q (refused_of asks) last.1) folds.1.1 (given_refused folds.0 asks last folds.2)
  given_refused p ((pair, false) ∷ asks) last folds =
      (folds.0.1, folds.1.1, given_refused folds.0 asks last folds.2)

  -- where each of the two may be called in turn, both may
  pub AsksInTurn-both :
      (takes : F → T → Type 0) (keep : F) (gone : G) (items : List T)
      → AsksInTurn takes ask keep items
      → AsksInTurn (TakesItem g) (GivesIfRefused g) gone items
      → AsksInTurn (TakesBoth g takes) (AsksAndGives g ask) (keep, gone) items
  AsksInTurn-both takes keep gone [] asks gives = tt
  AsksInTurn-both takes keep gone (x ∷ items) asks gives = (
    (asks.0, gives.0),
    λ b next both. AsksInTurn-both takes next.0 next.1 items (asks.1 b next.0 both.0) (gives.1 b next.1 both.1),
  )

  module _
      (order : T → T → Ordering) (within : T → Bool) (keep : F) (gone : G) (old new : Store T) (last : F × G)
      (r : RetainsWithin order within (AsksAndGives g ask) (keep, gone) old new last)
    where
      pub RetainsWithin-asked : RetainsWithin order within ask keep old new last.0
      RetainsWithin-asked = record {
        indexes = r.indexes;
        sorted = r.sorted;
        asks = r.asks;
        each_once = r.each_once;
        were_asked = asked_first (keep, gone) r.asks last r.were_asked;
        gone = r.gone;
        others = r.others;
        left = r.left;
      }

      pub GivesRefusedWithin-both : GivesRefusedWithin order within ask (GivesItem g) keep gone old new
      GivesRefusedWithin-both = record {
        indexes = r.indexes;
        sorted = r.sorted;
        last_keep = last.0;
        last_gone = last.1;
        given = record {
          asks = r.asks;
          each_once = r.each_once;
          were_asked = asked_first (keep, gone) r.asks last r.were_asked;
          given = given_refused (keep, gone) r.asks last r.were_asked;
          left = r.left;
        };
      }
