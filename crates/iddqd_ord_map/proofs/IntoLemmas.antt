-- What calls leave whose rejected items go to a second closure, of both closures and of each.
use Rattle.std.proofs.Common.{◌≡◌, ℕ, Bool, true, false, List, [], ◌∷◌, map, refl, ap, subst}
use Rattle.std.specs.Fn.{Mut}
use Rattle.std.specs.List.{FoldsTo}
use Rattle.iddqd.specs.Store.{Store}
use Rattle.iddqd_map.specs.Bulk.{AsksAndGives, GivesIfRefused, TakesBoth, refused_of}
use Rattle.iddqd_map.specs.Ranges.{GivesItem, TakesItem}
use Rattle.iddqd_map.specs.Retain.{AsksInTurn}
use Rattle.iddqd_map.proofs.RangeIntoLemmas.{AsksInTurn-both, asked_first, given_refused}
use Rattle.iddqd_map.proofs.RetainLemmas.{AsksInTurn-everywhere}
use Rattle.iddqd_ord_map.specs.Retain.{AsksAlong, GivesAlong, GivesRefusedAlong, RetainsAlongTo}

module _ {F G T : Type 0} (is_walk : Store T → List (ℕ × T) → Type 0) (ask : F → T → Bool → F → Type 0)
    (g : Mut G (T × Unit {0}) (Unit {0})) (keep : F) (gone : G) where
  -- where each closure may be called along the items, both may
  pub AsksAlong-both :
      (takes : F → T → Type 0) (s : Store T)
      → AsksAlong is_walk takes ask keep s
      → AsksAlong is_walk (TakesItem g) (GivesIfRefused g) gone s
      → AsksAlong is_walk (TakesBoth g takes) (AsksAndGives g ask) (keep, gone) s
  AsksAlong-both takes s asks gives = record {
    at = λ pairs walk. AsksInTurn-both ask g takes keep gone (map (λ (p : ℕ × T). p.1) pairs) (asks.at pairs walk) (gives.at pairs walk);
  }

  -- and where the second may be called with anything
  pub AsksAlong-first :
      (takes : F → T → Type 0) (s : Store T)
      → AsksAlong is_walk takes ask keep s
      → ((p : G) (x : T) → TakesItem g p x)
      → AsksAlong is_walk (TakesBoth g takes) (AsksAndGives g ask) (keep, gone) s
  AsksAlong-first takes s asks any =
      AsksAlong-both takes s asks (record {
        at = λ pairs walk. AsksInTurn-everywhere (TakesItem g) (GivesIfRefused g) gone (map (λ (p : ℕ × T). p.1) pairs) any;
      })

  module _ (old new : Store T) (last : F × G)
      (r : RetainsAlongTo is_walk (AsksAndGives g ask) (keep, gone) old new last) where
    pub RetainsAlongTo-asked : RetainsAlongTo is_walk ask keep old new last.0
    RetainsAlongTo-asked = record {
      asks = r.asks;
      each_once = r.each_once;
      were_asked = asked_first ask g (keep, gone) r.asks last r.were_asked;
      kept = r.kept;
      left = r.left;
    }

    pub GivesRefusedAlong-both : GivesRefusedAlong is_walk ask (GivesItem g) keep gone old new
    GivesRefusedAlong-both = record {
      pairs = map (λ a. a.0) r.asks;
      walk = r.each_once;
      last_keep = last.0;
      last_gone = last.1;
      given = record {
        asks = r.asks;
        each_once = refl;
        were_asked = asked_first ask g (keep, gone) r.asks last r.were_asked;
        given = given_refused ask g (keep, gone) r.asks last r.were_asked;
        left = r.left;
      };
    }

-- where the first closure always answers false, and the second may be called with each item, both may be called
module _ {F G T : Type 0} (is_walk : Store T → List (ℕ × T) → Type 0) (takes : F → T → Type 0)
    (ask : F → T → Bool → F → Type 0) (g : Mut G (T × Unit {0}) (Unit {0}))
    (any : (p : F) (x : T) → takes p x) (refuses : (p : F) (x : T) (b : Bool) (q : F) → ask p x b q → b ≡ false)
  where
    AsksInTurn-refused :
        (keep : F) (gone : G) (items : List T)
        → AsksInTurn (TakesItem g) (λ p x (b : Bool) q. GivesItem g p x q) gone items
        → AsksInTurn (TakesBoth g takes) (AsksAndGives g ask) (keep, gone) items
    AsksInTurn-refused keep gone [] gives = tt
    AsksInTurn-refused keep gone (x ∷ items) gives = (
      (any keep x, gives.0),
      λ b next both.
          let given = subst (λ a. GivesIfRefused g gone x a next.1) (refuses keep x b next.0 both.0) both.1 in
          AsksInTurn-refused next.0 next.1 items (gives.1 false next.1 given),
    )

    pub AsksAlong-refused :
        (keep : F) (gone : G) (s : Store T)
        → AsksAlong is_walk (TakesItem g) (λ p x (b : Bool) q. GivesItem g p x q) gone s
        → AsksAlong is_walk (TakesBoth g takes) (AsksAndGives g ask) (keep, gone) s
    AsksAlong-refused keep gone s gives = record {
      at = λ pairs walk. AsksInTurn-refused keep gone (map (λ (p : ℕ × T). p.1) pairs) (gives.at pairs walk);
    }

-- of each item, then: the second closure was called with it
module _ {F G T : Type 0} (is_walk : Store T → List (ℕ × T) → Type 0) (ask : F → T → Bool → F → Type 0)
    (g : Mut G (T × Unit {0}) (Unit {0}))
  where
    all_refused :
        (refuses : (p : F) (x : T) (b : Bool) (q : F) → ask p x b q → b ≡ false)
        (p : F × G) (asks : List ((ℕ × T) × Bool)) (last : F × G)
        → FoldsTo (λ p a q. AsksAndGives g ask p a.0.1 a.1 q) p asks last
        → refused_of asks ≡ map (λ (pair : ℕ × T). pair.1) (map (λ (a : (ℕ × T) × Bool). a.0) asks)
    all_refused refuses p [] last folds = refl
    all_refused refuses p ((pair, true) ∷ asks) last folds =
        absurd (let never = refuses p.0 pair.1 true folds.0.0 folds.1.0 in cc)
    all_refused refuses p ((pair, false) ∷ asks) last folds =
        ap (λ l. pair.1 ∷ l) (all_refused refuses folds.0 asks last folds.2)

    pub GivesAlong-refused :
        (keep : F) (gone : G) (old new : Store T) (last : F × G)
        → RetainsAlongTo is_walk (AsksAndGives g ask) (keep, gone) old new last
        → ((p : F) (x : T) (b : Bool) (q : F) → ask p x b q → b ≡ false)
        → GivesAlong is_walk (GivesItem g) gone old
    GivesAlong-refused keep gone old new last r refuses =
        let given = given_refused ask g (keep, gone) r.asks last r.were_asked in
        let all = all_refused refuses (keep, gone) r.asks last r.were_asked in
        (map (λ a. a.0) r.asks, last.1, r.each_once, subst (λ l. FoldsTo (GivesItem g) gone l last.1) all given)
