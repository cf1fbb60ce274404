-- What `retain_into` leaves, and gives to its second closure.
use Rattle.std.proofs.Common.{◌≡◌, ◌∙◌, ◌+◌, ◌<◌, ◌≤◌, ℕ, Bool, true, false, List, [], ◌∷◌, length, drop, Option, Some, None, refl, sym, ap, subst}
use Rattle.std.specs.Fn.{Mut}
use Rattle.std.proofs.lemmas.List.{at_drop_more, drop_all}
use Rattle.iddqd.specs.Store.{Store, get, removed}
use Rattle.iddqd.specs.LiveItems.{items_in, live_items, live_pairs, pairs_from}
use Rattle.iddqd_keys.specs.Removals.{removed_all}
use Rattle.iddqd_map.specs.Bulk.{GivesSome, MayGiveSome, RetainsInto}
use Rattle.iddqd_map.specs.Ranges.{TakesItem, GivesItem}
use Rattle.iddqd_map.specs.Retain.{removed_of}

module _ {G T : Type 0} (g : Mut G (T × Unit {0}) (Unit {0})) where
  everywhere : (f : G) (items : List T) → ((p : G) (x : T) → TakesItem g p x) → GivesSome g f items
  everywhere f [] takes = tt
  everywhere f (x ∷ items) takes = (takes f x, (λ f' gives. everywhere f' items takes), everywhere f items takes)

  pub MayGiveSome-gives : (f : G) (items : List T) → MayGiveSome g f items → GivesSome g f items
  MayGiveSome-gives f items may = may (everywhere f items)

module _ {F G T : Type 0} (ask : F → T → Bool → F → Type 0) (g : Mut G (T × Unit {0}) (Unit {0})) where
  -- The slots before p are done. What the calls that are still to come do is what all of them do.
  pub record RetainingInto (keep : F) (gone : G) (old now : Store T) (p : ℕ) (asked : F) (given : G) : Type 0 where
    pub may : GivesSome g given (items_in (drop p old.items))
    pub along : (new : Store T) (last_keep : F) (last_gone : G)
        → RetainsInto ask (GivesItem g) (pairs_from p (drop p old.items)) asked given now new last_keep last_gone
        → RetainsInto ask (GivesItem g) (live_pairs old) keep gone old new last_keep last_gone

  pub RetainingInto-first :
      (keep : F) (gone : G) (old : Store T)
      → GivesSome g gone (live_items old)
      → RetainingInto keep gone old old 0 keep gone
  RetainingInto-first keep gone old may = record { may = may; along = λ new last_keep last_gone run. run }

  module _
      (keep : F) (gone : G) (old now : Store T) (p : ℕ) (asked : F) (given : G)
      (w : RetainingInto keep gone old now p asked given)
    where
      pub RetainingInto-all :
          length old.items ≤ p
          → RetainsInto ask (GivesItem g) (live_pairs old) keep gone old now asked given
      RetainingInto-all past =
          let none : pairs_from p (drop p old.items) ≡ [] = ap (pairs_from p) (drop_all p old.items past) in
          w.along now asked given
          (subst (λ l. RetainsInto ask (GivesItem g) l asked given now now asked given) (sym none)
          (record { asks = []; each_once = refl; were_asked = refl; given = refl; left = refl }))

      module _ (within : p < length old.items) where
        to_come :
            {A : Type 0} (walk : List (Option T) → A) (slot : Option T)
            → get old p ≡ slot
            → walk (drop p old.items) ≡ walk (slot ∷ drop (p + 1) old.items)
        to_come walk slot is = at_drop_more walk old.items p None within ∙ ap (λ o. walk (o ∷ drop (p + 1) old.items)) is

        pub RetainingInto-vacant : get old p ≡ None → RetainingInto keep gone old now (p + 1) asked given
        RetainingInto-vacant none = record {
          may = subst (GivesSome g given) (to_come items_in None none) w.may;
          along = λ new last_keep last_gone run.
              w.along new last_keep last_gone
              (subst (λ l. RetainsInto ask (GivesItem g) l asked given now new last_keep last_gone)
              (sym (to_come (pairs_from p) None none)) run);
        }

        module _ (item : T) (live : get old p ≡ Some item) where
          may-next : GivesSome g given (item ∷ items_in (drop (p + 1) old.items))
          may-next = subst (GivesSome g given) (to_come items_in (Some item) live) w.may

          pub RetainingInto-takes : TakesItem g given item
          RetainingInto-takes = may-next.0

          pub RetainingInto-kept :
              (then : F)
              → ask asked item true then
              → RetainingInto keep gone old now (p + 1) then given
          RetainingInto-kept then answers = record {
            may = (let (takes, gives, skips) = may-next in skips);
            along = λ new last_keep last_gone run.
                w.along new last_keep last_gone
                (subst (λ l. RetainsInto ask (GivesItem g) l asked given now new last_keep last_gone)
                (sym (to_come (pairs_from p) (Some item) live))
                (record {
                  asks = ((p, item), true) ∷ run.asks;
                  each_once = ap (λ l. (p, item) ∷ l) run.each_once;
                  were_asked = (then, answers, run.were_asked);
                  given = run.given;
                  left = run.left;
                }));
          }

          pub RetainingInto-removed :
              (then : F) (after : G) (less : Store T)
              → ask asked item false then
              → GivesItem g given item after
              → less ≡ removed now p
              → RetainingInto keep gone old less (p + 1) then after
          RetainingInto-removed then after less answers gives is = record {
            may = (let (takes, goes, skips) = may-next in goes after gives);
            along = λ new last_keep last_gone run.
                w.along new last_keep last_gone
                (subst (λ l. RetainsInto ask (GivesItem g) l asked given now new last_keep last_gone)
                (sym (to_come (pairs_from p) (Some item) live))
                (record {
                  asks = ((p, item), false) ∷ run.asks;
                  each_once = ap (λ l. (p, item) ∷ l) run.each_once;
                  were_asked = (then, answers, run.were_asked);
                  given = (after, gives, run.given);
                  left = run.left ∙ ap (λ s. removed_all s (removed_of run.asks)) is;
                }));
          }
