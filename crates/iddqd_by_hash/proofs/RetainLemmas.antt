-- For callers: what asks up to a slot leave, where each item that is refused is removed before the next is asked about.
use Rattle.std.proofs.Common.{◌≡◌, ◌∙◌, inl, inr, ℕ, ◌+◌, ◌<◌, ◌≤◌, List, [], ◌∷◌, ◌++◌, length, get_or, take, drop, set, map, not, Bool, true, false, Option, Some, None, refl, sym, ap, subst, arith, Contains, length-set, length-take-le, append-nil}
use Rattle.std.specs.List.{FoldsTo}
use Rattle.std.proofs.lemmas.Bool.{cases_eq, cases_lt}
use Rattle.std.proofs.lemmas.Fn.{FoldsTo-push}
use Rattle.std.proofs.lemmas.List.{at_drop_more, map-append, length-map, take_all, take_more, take-set, get_or_past, get_or-set_same, get_or-set_other}
use Rattle.std.proofs.lemmas.List.Elements.{filter-append}
use Rattle.iddqd.specs.Store.{Store, get, live_count, removed}
use Rattle.iddqd.specs.LiveItems.{pairs_from, live_pairs, items_in, live_items}
use Rattle.iddqd.proofs.StoreLemmas.{contains_head, contains_tail}
use Rattle.iddqd.proofs.LiveLemmas.{get-removed_other}
use Rattle.iddqd.proofs.LiveItemLemmas.{pairs_from-append, length-pairs_from, items_of_pairs, IsWalkOf-live_pairs}
use Rattle.iddqd_hash.specs.Asks.{CanAsk}
use Rattle.iddqd_hash.proofs.AskLemmas.{CanAsk-takes, CanAsk-asked, CanAsk-everywhere}
use Rattle.iddqd_hash.proofs.RetainLemmas.{Contains-values}
use Rattle.iddqd_keys.specs.Removals.{removed_all}
use Rattle.iddqd_by_hash.specs.Retain.{MayAsk, MayAskInTurn, AsksInTurn, kept_of, removed_of, RetainsTo}

module _ {T : Type 0} where
  -- the walk over one slot more
  pairs_more :
      (items : List (Option T)) (p : ℕ) (slot : Option T)
      → p < length items
      → get_or items p None ≡ slot
      → pairs_from 0 (take (p + 1) items) ≡ pairs_from 0 (take p items) ++ pairs_from p (slot ∷ [])
  pairs_more items p slot within is =
      let at : 0 + length (take p items) ≡ p = omega (arith, length-take-le p items (omega arith)) in
      ap (pairs_from 0) (take_more items p None within ∙ ap (λ o. take p items ++ o ∷ []) is)
      ∙ pairs_from-append 0 (take p items) (slot ∷ [])
      ∙ ap (λ n. pairs_from 0 (take p items) ++ pairs_from n (slot ∷ [])) at

  pairs_vacant :
      (items : List (Option T)) (p : ℕ)
      → p < length items
      → get_or items p None ≡ None
      → pairs_from 0 (take (p + 1) items) ≡ pairs_from 0 (take p items)
  pairs_vacant items p within is = pairs_more items p None within is ∙ append-nil _

  removed_all-push :
      (s : Store T) (ixs : List ℕ) (ix : ℕ)
      → removed_all s (ixs ++ ix ∷ []) ≡ removed (removed_all s ixs) ix
  removed_all-push s [] ix = refl
  removed_all-push s (at ∷ ixs) ix = removed_all-push (removed s at) ixs ix

  kept-push :
      (asks : List ((ℕ × T) × Bool)) (a : (ℕ × T) × Bool)
      → kept_of (asks ++ a ∷ []) ≡ kept_of asks ++ kept_of (a ∷ [])
  kept-push asks a =
      ap (map (λ (a : (ℕ × T) × Bool). a.0)) (filter-append (λ (a : (ℕ × T) × Bool). a.1) asks (a ∷ []))
      ∙ map-append (λ (a : (ℕ × T) × Bool). a.0) _ _

  refused-push :
      (asks : List ((ℕ × T) × Bool)) (a : (ℕ × T) × Bool)
      → removed_of (asks ++ a ∷ []) ≡ removed_of asks ++ removed_of (a ∷ [])
  refused-push asks a =
      ap (map (λ (a : (ℕ × T) × Bool). a.0.0)) (filter-append (λ (a : (ℕ × T) × Bool). not a.1) asks (a ∷ []))
      ∙ map-append (λ (a : (ℕ × T) × Bool). a.0.0) _ _

  -- a live item is one of the items
  pub Contains-live : (s : Store T) (ix : ℕ) (item : T) → get s ix ≡ Some item → Contains (live_items s) item
  Contains-live s ix item live =
      subst (λ l. Contains l item) (items_of_pairs 0 s.items)
      (Contains-values (live_pairs s) (ix, item) (((IsWalkOf-live_pairs s).live ix item).1 live))

  -- no more are kept than were asked about
  kept_fewer : (asks : List ((ℕ × T) × Bool)) → length (kept_of asks) ≤ length asks
  kept_fewer [] = omega arith
  kept_fewer ((a, true) ∷ asks) = omega (arith, kept_fewer asks)
  kept_fewer ((a, false) ∷ asks) = omega (arith, kept_fewer asks)

  -- what there is after a removal was there before
  from_removed : (s : Store T) (ix j : ℕ) (item : T) → get (removed s ix) j ≡ Some item → get s j ≡ Some item
  from_removed s ix j item is =
      elim (cases_eq j ix) [
        | inl same ↦
            let here : get (removed s ix) ix ≡ Some item = subst (λ k. get (removed s ix) k ≡ Some item) same is in
            elim (cases_lt ix (length s.items)) [
              | inl within ↦
                  let gone = get_or-set_same s.items ix None None within in
                  absurd (cc)
              | inr past ↦
                  let long = length-set s.items ix None in
                  let gone : get (removed s ix) ix ≡ None =
                  get_or_past (removed s ix).items ix None (omega (arith, past, long)) in
                  absurd (cc)
            ]
        | inr other ↦ sym (get-removed_other s ix j other) ∙ is
      ]

  -- and so after several
  pub was_there :
      (s : Store T) (ixs : List ℕ) (j : ℕ) (item : T)
      → get (removed_all s ixs) j ≡ Some item
      → get s j ≡ Some item
  was_there s [] j item is = is
  was_there s (ix ∷ ixs) j item is = from_removed s ix j item (was_there (removed s ix) ixs j item is)

-- `ask p x b q`: called on x in the state p, the closure may answer b and be in the state q afterwards
module _ {F T : Type 0} (ask : F → T → Bool → F → Type 0) where
  -- no more items are left than there were
  pub RetainsTo-fewer :
      (f : F) (old now : Store T) (last : F)
      → RetainsTo ask f old now last
      → live_count now ≤ live_count old
  RetainsTo-fewer f old now last w =
      let asked = ap length w.each_once in
      let kept = ap length w.kept in
      omega (
        arith,
        kept_fewer w.asks,
        length-map w.asks (λ (a : (ℕ × T) × Bool). a.0),
        asked,
        kept,
        length-pairs_from 0 now.items,
        length-pairs_from 0 old.items,
      )

module _ {F T : Type 0} (takes : F → T → Type 0) (ask : F → T → Bool → F → Type 0) where
  pub MayAsk-can : (f : F) (items : List T) → MayAsk takes ask f items → CanAsk takes ask f items
  MayAsk-can f items may = may (CanAsk-everywhere takes ask f items)

  pub AsksInTurn-everywhere :
      (f : F) (items : List T)
      → ((s : F) (x : T) → takes s x)
      → AsksInTurn takes ask f items
  AsksInTurn-everywhere f [] asks = tt
  AsksInTurn-everywhere f (x ∷ items) asks = (asks f x, λ b f' called. AsksInTurn-everywhere f' items asks)

  -- what may be called on items in any order may be called on some of them in turn
  pub AsksInTurn-can :
      (f : F) (items all : List T)
      → ((x : T) → Contains items x → Contains all x)
      → CanAsk takes ask f all
      → AsksInTurn takes ask f items
  AsksInTurn-can f [] all among can = tt
  AsksInTurn-can f (x ∷ items) all among can =
      let here = among x (contains_head x items) in (
        CanAsk-takes takes ask f all x can here,
        λ b f' called.
            AsksInTurn-can f' items all (λ y there. among y (contains_tail x y items there))
            (CanAsk-asked takes ask f all x b f' can here called),
      )

  -- it may be called in turn where an invariant of its states allows each call, and each call keeps it
  pub AsksInTurn-by :
      (I : F → Type 0) (items : List T)
      → ((s : F) (x : T) → Contains items x → I s → takes s x)
      → ((s : F) (x : T) (b : Bool) (t : F) → Contains items x → I s → ask s x b t → I t)
      → (f : F)
      → I f
      → AsksInTurn takes ask f items
  AsksInTurn-by I [] asks keeps f i = tt
  AsksInTurn-by I (x ∷ items) asks keeps f i = (
    asks f x (contains_head x items) i,
    λ b f' called.
        AsksInTurn-by I items (λ s y there. asks s y (contains_tail x y items there))
        (λ s y c t there. keeps s y c t (contains_tail x y items there)) f'
        (keeps f x b f' (contains_head x items) i called),
  )

  -- and where an invariant of the items to come and of its states does so
  pub AsksInTurn-to_come :
      (I : List T → F → Type 0)
      → ((x : T) (rest : List T) (s : F) → I (x ∷ rest) s → takes s x)
      → ((x : T) (rest : List T) (s : F) (b : Bool) (t : F) → I (x ∷ rest) s → ask s x b t → I rest t)
      → (items : List T) (f : F)
      → I items f
      → AsksInTurn takes ask f items
  AsksInTurn-to_come I asks keeps [] f i = tt
  AsksInTurn-to_come I asks keeps (x ∷ items) f i =
      (asks x items f i, λ b f' called. AsksInTurn-to_come I asks keeps items f' (keeps x items f b f' i called))

  pub MayAskInTurn-asks : (f : F) (items : List T) → MayAskInTurn takes ask f items → AsksInTurn takes ask f items
  MayAskInTurn-asks f items may = may (AsksInTurn-everywhere f items)

  -- the slots before p were asked about, and from p on all is as it was
  pub record Retaining (f : F) (old now : Store T) (p : ℕ) (state : F) : Type 0 where
    pub asks : List ((ℕ × T) × Bool)
    pub each_once : map (λ a. a.0) asks ≡ pairs_from 0 (take p old.items)
    pub were_asked : FoldsTo (λ p a q. ask p a.0.1 a.1 q) f asks state
    pub kept : pairs_from 0 (take p now.items) ≡ kept_of asks
    pub left : now ≡ removed_all old (removed_of asks)
    pub rest : (ix : ℕ) → p ≤ ix → get now ix ≡ get old ix
    pub counted : length now.items ≡ length old.items
    pub can : AsksInTurn takes ask state (items_in (drop p old.items))

  pub Retaining-first : (f : F) (old : Store T) → AsksInTurn takes ask f (live_items old) → Retaining f old old 0 f
  Retaining-first f old can = record {
    asks = [];
    each_once = refl;
    were_asked = refl;
    kept = refl;
    left = refl;
    rest = λ ix from. refl;
    counted = refl;
    can = can;
  }

  -- all slots were asked about
  pub Retaining-all :
      (f : F) (old now : Store T) (p : ℕ) (state : F)
      → Retaining f old now p state
      → length old.items ≤ p
      → RetainsTo ask f old now state
  Retaining-all f old now p state w past = record {
    asks = w.asks;
    each_once = w.each_once ∙ ap (pairs_from 0) (take_all p old.items past);
    were_asked = w.were_asked;
    kept = sym (ap (pairs_from 0) (take_all p now.items (let counted = w.counted in omega arith))) ∙ w.kept;
    left = w.left;
  }

  module _
      (f : F) (old now : Store T) (p : ℕ) (state : F) (w : Retaining f old now p state) (within : p < length old.items)
    where
      -- the items to come are that of this slot, if it has one, and those behind it
      to_come :
          (slot : Option T)
          → get old p ≡ slot
          → items_in (drop p old.items) ≡ items_in (slot ∷ drop (p + 1) old.items)
      to_come slot is =
          at_drop_more items_in old.items p None within ∙ ap (λ o. items_in (o ∷ drop (p + 1) old.items)) is

      -- a slot without an item
      pub Retaining-vacant : get now p ≡ None → Retaining f old now (p + 1) state
      Retaining-vacant vacant = record {
        asks = w.asks;
        each_once = w.each_once ∙ sym (pairs_vacant old.items p within (sym (w.rest p (omega arith)) ∙ vacant));
        were_asked = w.were_asked;
        kept = pairs_vacant now.items p (let counted = w.counted in omega arith) vacant ∙ w.kept;
        left = w.left;
        rest = λ ix from. w.rest ix (omega arith);
        counted = w.counted;
        can = subst (AsksInTurn takes ask state) (to_come None (sym (w.rest p (omega arith)) ∙ vacant)) w.can;
      }

      module _ (item : T) (live : get now p ≡ Some item) where
        was_live : get old p ≡ Some item
        was_live = sym (w.rest p (omega arith)) ∙ live

        can-next : AsksInTurn takes ask state (item ∷ items_in (drop (p + 1) old.items))
        can-next = subst (AsksInTurn takes ask state) (to_come (Some item) was_live) w.can

        -- its item may be asked about
        pub takes-next : takes state item
        takes-next = can-next.0

        each-more :
            (b : Bool)
            → map (λ (a : (ℕ × T) × Bool). a.0) (w.asks ++ ((p, item), b) ∷ []) ≡ pairs_from 0 (take (p + 1) old.items)
        each-more b =
            map-append (λ (a : (ℕ × T) × Bool). a.0) w.asks (((p, item), b) ∷ [])
            ∙ ap (λ l. l ++ (p, item) ∷ []) w.each_once
            ∙ sym (pairs_more old.items p (Some item) within was_live)

        -- it was answered true
        pub Retaining-kept : (next : F) → ask state item true next → Retaining f old now (p + 1) next
        Retaining-kept next asked = record {
          asks = w.asks ++ ((p, item), true) ∷ [];
          each_once = each-more true;
          were_asked =
              FoldsTo-push (λ p a q. ask p a.0.1 a.1 q) f w.asks state ((p, item), true) next w.were_asked asked;
          kept =
              pairs_more now.items p (Some item) (let counted = w.counted in omega arith) live
              ∙ ap (λ l. l ++ (p, item) ∷ []) w.kept ∙ sym (kept-push w.asks ((p, item), true));
          left = w.left ∙ ap (removed_all old) (sym (refused-push w.asks ((p, item), true) ∙ append-nil _));
          rest = λ ix from. w.rest ix (omega arith);
          counted = w.counted;
          can = can-next.1 true next asked;
        }

        -- it was answered false, and removed
        pub Retaining-removed :
            (after : Store T) (next : F)
            → after ≡ removed now p
            → ask state item false next
            → Retaining f old after (p + 1) next
        Retaining-removed after next gone asked =
            let counted = w.counted in
            let within_now : p < length now.items = omega arith in
            let long = length-set now.items p None in
            rw gone
            (record {
              asks = w.asks ++ ((p, item), false) ∷ [];
              each_once = each-more false;
              were_asked =
                  FoldsTo-push (λ p a q. ask p a.0.1 a.1 q) f w.asks state ((p, item), false) next w.were_asked asked;
              kept =
                  pairs_vacant (set now.items p None) p (omega arith) (get_or-set_same now.items p None None within_now)
                  ∙ ap (pairs_from 0) (take-set now.items p None) ∙ w.kept
                  ∙ sym (kept-push w.asks ((p, item), false) ∙ append-nil _);
              left =
                  ap (λ s. removed s p) w.left ∙ sym (removed_all-push old (removed_of w.asks) p)
                  ∙ ap (removed_all old) (sym (refused-push w.asks ((p, item), false)));
              rest =
                  λ ix from. get_or-set_other now.items p ix None None (λ same. omega arith) ∙ w.rest ix (omega arith);
              counted = long ∙ counted;
              can = can-next.1 false next asked;
            })
