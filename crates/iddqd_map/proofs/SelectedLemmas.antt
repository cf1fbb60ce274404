-- What the calls on a selection ask and leave, as sweeps.
use Rattle.std.proofs.Common.{◌≡◌, ◌≢◌, ◌∙◌, ◌++◌, ◌≤◌, ◌+◌, inl, inr, ℕ, zero, suc, Bool, true, false, not, nat_eq, List, [], ◌∷◌, filter, length, map, slice_index_or, slice_set, is_some, Option, Some, None, Result, Ok, Err, refl, sym, ap, subst, arith, append-nil}
use Rattle.std.specs.Bool.{Decides, MatchBool}
use Rattle.std.specs.Fn.{Mut}
use Rattle.std.specs.List.{Contains, FoldsTo}
use Rattle.std.specs.Option.{option_map}
use Rattle.std.specs.Set.{is_member}
use Rattle.std.proofs.lemmas.Bool.Decides.{Decides-eqb, not_from_Decides}
use Rattle.std.proofs.lemmas.Map.Made.{is_member-Decides}
use Rattle.std.proofs.lemmas.Map.Steps.{length-le_from_distinct_below}
use Rattle.iddqd.specs.Store.{Store, get, removed}
use Rattle.iddqd.proofs.StoreLemmas.{contains_head, contains_tail, contains_cases, contains_none, live_within}
use Rattle.iddqd_keys.specs.KeyWalk.{pairs_at}
use Rattle.iddqd_keys.specs.Removals.{removed_all}
use Rattle.iddqd_keys.specs.Scan.{IsHit}
use Rattle.iddqd_keys.proofs.KeyWalkLemmas.{pairs_at-first}
use Rattle.iddqd_map.specs.Groups.{AreHits, CountsHits}
use Rattle.iddqd_map.specs.Ranges.{LeavesOthers}
use Rattle.iddqd_map.specs.Retain.{AsksInTurn, removed_of}
use Rattle.iddqd_map.specs.Sweep.{AfterVerdict, AsksAlong, CanSweep, CanSweepAlong, EndsAt, EndsRetain, GivesPair, GivesRejected, MayAskAlong, MayGiveSomeAlong, RemovesSelected, RetainsSelected, RetainsUntil, SweepsAlong, TakesPair, TakesSome, TakesSomeAlong, goes_on, kept_if, kept_if_ok, pairs_removed, reads_itself, removes, stops}
use Rattle.iddqd_map.specs.declared.verdict.Verdict.{Verdict}
use Rattle.iddqd_map.specs.declared.verdict.Verdict.TheVariants.{Keep, Remove, Stop}
use Rattle.iddqd_map.proofs.OverwriteLemmas.{get-removed_all}

-- a closure that may always be called may be on these
module _
    {F T : Type 0} (lists : Store T → List ℕ → Type 0) (takes : F → ℕ × T → Type 0)
    (ask : F → ℕ × T → Bool → F → Type 0)
  where
    in_turn : ((p : F) (x : ℕ × T) → takes p x) → (f : F) (xs : List (ℕ × T)) → AsksInTurn takes ask f xs
    in_turn all f [] = tt
    in_turn all f (x ∷ xs) = (all f x, λ b f' asked. in_turn all f' xs)

    pub AsksAlong-may : (f : F) (s : Store T) → MayAskAlong lists takes ask f s → AsksAlong lists takes ask f s
    AsksAlong-may f s may = may (λ all. record { at = λ indexes listed. in_turn all f (pairs_at s indexes) })

module _ {G T : Type 0} (lists : Store T → List ℕ → Type 0) (g : Mut G (ℕ × (T × Unit {0})) (Unit {0})) where
  some_in_turn :
      ((p : G) (x : ℕ × T) → TakesPair g p x)
      → (gone : G) (xs : List (ℕ × T))
      → TakesSome (TakesPair g) (GivesPair g) gone xs
  some_in_turn all gone [] = tt
  some_in_turn all gone (x ∷ xs) = (all gone x, (λ gone' gave. some_in_turn all gone' xs), some_in_turn all gone xs)

  pub TakesSomeAlong-all :
      ((p : G) (x : ℕ × T) → TakesPair g p x)
      → (gone : G) (s : Store T)
      → TakesSomeAlong lists g gone s
  TakesSomeAlong-all all gone s = record { at = λ indexes listed. some_in_turn all gone (pairs_at s indexes) }

  pub TakesSomeAlong-may : (gone : G) (s : Store T) → MayGiveSomeAlong lists g gone s → TakesSomeAlong lists g gone s
  TakesSomeAlong-may gone s may = may (λ all. TakesSomeAlong-all all gone s)

-- what is asked of each closure makes what is asked of both
module _
    {F G T A : Type 0} (takes : F → ℕ × T → Type 0) (ask : F → ℕ × T → A → F → Type 0) (reads : A → Verdict)
    (accepts : G → ℕ × T → Type 0) (give : G → ℕ × T → G → Type 0)
  where
    can_sweep :
        (f : F) (gone : G) (xs : List (ℕ × T))
        → AsksInTurn takes (goes_on reads ask) f xs
        → TakesSome accepts give gone xs
        → CanSweep takes ask reads accepts give f gone xs
    can_sweep f gone [] asks some = tt
    can_sweep f gone (x ∷ xs) asks some = (
      asks.0,
      λ a f' asked.
          elim (reads a) as (λ v. reads a ≡ v → AfterVerdict v (CanSweep takes ask reads accepts give f' gone xs) (accepts gone x × ((gone' : G) → give gone x gone' → CanSweep takes ask reads accepts give f' gone' xs))) [
            | Keep ↦ λ is. can_sweep f' gone xs (asks.1 true f' (a, asked, ap stops is)) some.2
            | Remove ↦ λ is. (some.0, λ gone' gave. can_sweep f' gone' xs (asks.1 true f' (a, asked, ap stops is)) (some.1 gone' gave))
            | Stop ↦ λ is. tt
          ] refl,
    )

module _
    {F G T A : Type 0} (lists : Store T → List ℕ → Type 0) (takes : F → ℕ × T → Type 0)
    (ask : F → ℕ × T → A → F → Type 0) (reads : A → Verdict) (g : Mut G (ℕ × (T × Unit {0})) (Unit {0}))
  where
    pub CanSweepAlong-both :
        (f : F) (gone : G) (s : Store T)
        → AsksAlong lists takes (goes_on reads ask) f s
        → TakesSomeAlong lists g gone s
        → CanSweepAlong takes ask reads (TakesPair g) (GivesPair g) lists f gone s
    CanSweepAlong-both f gone s asks some = record {
      at = λ indexes listed.
          can_sweep takes ask reads (TakesPair g) (GivesPair g) f gone (pairs_at s indexes) (asks.at indexes listed) (some.at indexes listed);
    }

-- no answer of a closure that keeps or removes ends a call
never_stops : (b : Bool) → stops (kept_if b) ≡ false
never_stops true = refl
never_stops false = refl

removes_if : (b : Bool) → removes (kept_if b) ≡ not b
removes_if true = refl
removes_if false = refl

module _
    {F T : Type 0} (lists : Store T → List ℕ → Type 0) (takes : F → ℕ × T → Type 0)
    (ask : F → ℕ × T → Bool → F → Type 0)
  where
    asks_go_on : (f : F) (xs : List (ℕ × T)) → AsksInTurn takes ask f xs → AsksInTurn takes (goes_on kept_if ask) f xs
    asks_go_on f [] asks = tt
    asks_go_on f (x ∷ xs) asks = (asks.0, λ b f' on. asks_go_on f' xs (asks.1 on.0 f' on.1))

    pub AsksAlong-go_on :
        (f : F) (s : Store T)
        → AsksAlong lists takes ask f s
        → AsksAlong lists takes (goes_on kept_if ask) f s
    AsksAlong-go_on f s asks = record { at = λ indexes listed. asks_go_on f (pairs_at s indexes) (asks.at indexes listed) }

-- a closure that rejects all, and one that gets them
module _
    {F G T : Type 0} (lists : Store T → List ℕ → Type 0) (takes : F → ℕ × T → Type 0)
    (ask : F → ℕ × T → Bool → F → Type 0) (accepts : G → ℕ × T → Type 0) (give : G → ℕ × T → G → Type 0)
    (all : (p : F) (x : ℕ × T) → takes p x)
    (never : (p : F) (x : ℕ × T) (b : Bool) (q : F) → ask p x b q → b ≡ false)
  where
    can_remove :
        (f : F) (gone : G) (xs : List (ℕ × T))
        → AsksInTurn accepts (λ p x (b : Bool) q. give p x q) gone xs
        → CanSweep takes ask kept_if accepts give f gone xs
    can_remove f gone [] asks = tt
    can_remove f gone (x ∷ xs) asks = (
      all f x,
      λ a f' asked.
          subst (λ b. AfterVerdict (kept_if b) (CanSweep takes ask kept_if accepts give f' gone xs) (accepts gone x × ((gone' : G) → give gone x gone' → CanSweep takes ask kept_if accepts give f' gone' xs)))
          (sym (never f x a f' asked))
          (asks.0, λ gone' gave. can_remove f' gone' xs (asks.1 true gone' gave)),
    )

    pub CanSweepAlong-remove :
        (f : F) (gone : G) (s : Store T)
        → AsksAlong lists accepts (λ p x (b : Bool) q. give p x q) gone s
        → CanSweepAlong takes ask kept_if accepts give lists f gone s
    CanSweepAlong-remove f gone s asks = record { at = λ indexes listed. can_remove f gone (pairs_at s indexes) (asks.at indexes listed) }

-- nothing is left at an index that was removed
gone_set : {T : Type 0} (items : List (Option T)) (ix : ℕ) → slice_index_or (slice_set items ix None) ix None ≡ None
gone_set [] ix = refl
gone_set (slot ∷ items) zero = refl
gone_set (slot ∷ items) (suc ix) = gone_set items ix

pub gone_all : {T : Type 0} (s : Store T) (l : List ℕ) (ix : ℕ) → Contains l ix → get (removed_all s l) ix ≡ None
gone_all s [] ix here = absurd (contains_none ix here)
gone_all s (x ∷ rest) ix here = elim (is_member nat_eq rest ix) as (λ b. Decides b (Contains rest ix) → get (removed_all (removed s x) rest) ix ≡ None) [
  | true ↦ λ d. gone_all (removed s x) rest ix (d.0 refl)
  | false ↦ λ d.
      let same : x ≡ ix = elim (contains_cases x ix rest here) [
        | inl is ↦ is
        | inr there ↦ absurd (not_from_Decides false d refl there)
      ] in
      get-removed_all (removed s x) rest ix (not_from_Decides false d refl) ∙ subst (λ j. get (removed s x) j ≡ None) same (gone_set s.items x)
] (is_member-Decides Decides-eqb rest ix)

-- the pairs that were removed are those that were rejected
module _ {T : Type 0} where
  rejected : (asks : List ((ℕ × T) × Bool)) → pairs_removed kept_if asks ≡ map (λ a. a.0) (filter (λ a. not a.1) asks)
  rejected [] = refl
  rejected ((pair, true) ∷ asks) = rejected asks
  rejected ((pair, false) ∷ asks) = ap (λ l. pair ∷ l) (rejected asks)

  removed_are :
      (asks : List ((ℕ × T) × Bool))
      → map (λ p. p.0) (map (λ a. a.0) (filter (λ a. not a.1) asks)) ≡ removed_of asks
  removed_are [] = refl
  removed_are ((pair, true) ∷ asks) = removed_are asks
  removed_are ((pair, false) ∷ asks) = ap (λ l. pair.0 ∷ l) (removed_are asks)

  all_asked :
      (asks : List ((ℕ × T) × Bool)) (unasked : List (ℕ × T)) (stopped : Option (ℕ × Bool))
      → EndsAt kept_if asks unasked stopped
      → unasked ≡ []
  all_asked [] unasked stopped ends = ends.0
  all_asked (a ∷ asks) unasked stopped ends =
      all_asked asks unasked stopped (subst (λ b. MatchBool b ((asks ≡ []) × (stopped ≡ Some (a.0.0, a.1))) (EndsAt kept_if asks unasked stopped)) (never_stops a.1) ends)

-- what a sweep leaves by a closure that answers true or false
module _
    {F G T : Type 0} (lists : Store T → List ℕ → Type 0) (ask : F → ℕ × T → Bool → F → Type 0)
    (give : G → ℕ × T → G → Type 0) (f : F) (gone : G) (old new : Store T) (stopped : Option (ℕ × Bool))
    (did : SweepsAlong ask kept_if give lists f gone old new stopped)
  where
    whole : map (λ a. a.0) did.swept.asks ≡ pairs_at old did.indexes
    whole =
        let asked = did.swept.asks in
        let none = all_asked asked did.swept.unasked stopped did.swept.ends in
        sym (ap (λ l. map (λ a. a.0) asked ++ l) none ∙ append-nil (map (λ a. a.0) asked)) ∙ did.swept.in_order

    left : new ≡ removed_all old (removed_of did.swept.asks)
    left = did.swept.left ∙ ap (λ l. removed_all old (map (λ p. p.0) l)) (rejected did.swept.asks) ∙ ap (removed_all old) (removed_are did.swept.asks)

    pub RetainsSelected-swept : (last : F) × RetainsSelected lists ask f old new last
    RetainsSelected-swept = (
      did.last,
      record {
        indexes = did.indexes;
        listed = did.listed;
        asks = did.swept.asks;
        each_once = whole;
        were_asked = did.swept.were_asked;
        gone = λ ix here. ap (λ s. get s ix) left ∙ gone_all old (removed_of did.swept.asks) ix here;
        others = λ ix other. ap (λ s. get s ix) left ∙ get-removed_all old (removed_of did.swept.asks) ix other;
        left = left;
      },
    )

    pub GivesRejected-swept : GivesRejected lists ask give f gone old new
    GivesRejected-swept = record {
      indexes = did.indexes;
      listed = did.listed;
      asks = did.swept.asks;
      each_once = whole;
      last = did.last;
      were_asked = did.swept.were_asked;
      last_gone = did.last_gone;
      given = subst (λ l. FoldsTo give gone l did.last_gone) (rejected did.swept.asks) did.swept.given;
      left = left;
    }

    -- where it rejects all
    module _ (test : T → Bool) (never : (p : F) (x : ℕ × T) (b : Bool) (q : F) → ask p x b q → b ≡ false)
        (hits : AreHits old test did.indexes)
      where
        all_rejected :
            (p : F) (asks : List ((ℕ × T) × Bool)) (q : F)
            → FoldsTo (λ p a q. ask p a.0 a.1 q) p asks q
            → pairs_removed kept_if asks ≡ map (λ a. a.0) asks
        all_rejected p [] q folds = refl
        all_rejected p ((pair, true) ∷ asks) q folds = absurd (let kept : true ≡ false = never p pair true folds.0 folds.1 in cc)
        all_rejected p ((pair, false) ∷ asks) q folds = ap (λ l. pair ∷ l) (all_rejected folds.0 asks q folds.2)

        all_pairs : pairs_removed kept_if did.swept.asks ≡ pairs_at old did.indexes
        all_pairs = all_rejected f did.swept.asks did.last did.swept.were_asked ∙ whole

        indexes_of :
            (xs : List ℕ)
            → ((ix : ℕ) → Contains xs ix → IsHit old test ix)
            → map (λ p. p.0) (pairs_at old xs) ≡ xs
        indexes_of [] live = refl
        indexes_of (x ∷ xs) live =
            let (item, here, passes) = live x (contains_head x xs) in
            ap (map (λ p. p.0)) (pairs_at-first old (x ∷ xs) xs x item refl here)
            ∙ ap (λ l. x ∷ l) (indexes_of xs (λ j there. live j (contains_tail x j xs there)))

        emptied : new ≡ removed_all old did.indexes
        emptied = did.swept.left ∙ ap (λ l. removed_all old (map (λ p. p.0) l)) all_pairs
            ∙ ap (removed_all old) (indexes_of did.indexes (λ ix here. (hits.each ix).0 here))

        pub RemovesSelected-swept : (last : G) × RemovesSelected lists give gone old new last
        RemovesSelected-swept = (
          did.last_gone,
          record {
            indexes = did.indexes;
            listed = did.listed;
            given = subst (λ l. FoldsTo give gone l did.last_gone) all_pairs did.swept.given;
            left = emptied;
          },
        )

        pub LeavesOthers-swept : LeavesOthers old test new
        LeavesOthers-swept = record {
          gone = λ ix hit. ap (λ s. get s ix) emptied ∙ gone_all old did.indexes ix ((hits.each ix).1 hit);
          others = λ ix misses. ap (λ s. get s ix) emptied ∙ get-removed_all old did.indexes ix (λ here. misses ((hits.each ix).0 here));
        }

-- what a sweep leaves by a closure that may fail
module _ {F T E : Type 0} (ask : F → ℕ × T → Result Bool E → F → Type 0) where
  -- how the calls end
  abbrev Ends : List (ℕ × T) → List (ℕ × T) → F → Option (ℕ × Result Bool E) → F → Type 0
  Ends asked pairs before None last = (asked ≡ pairs) × (last ≡ before)
  Ends asked pairs before (Some (ix, Ok kept)) last = ⊥
  Ends asked pairs before (Some (ix, Err e)) last =
      (pair : ℕ × T) × (unasked : List (ℕ × T)) × (asked ++ pair ∷ unasked ≡ pairs) × ask before pair (Err e) last

  -- the calls that didn't fail
  record Succeeds (f : F) (asks : List ((ℕ × T) × Result Bool E)) (pairs : List (ℕ × T)) (stopped : Option (ℕ × Result Bool E)) (last : F) : Type 0 where
    oks : List ((ℕ × T) × Bool)
    before : F
    were_asked : FoldsTo (λ p a q. ask p a.0 (Ok a.1) q) f oks before
    ends : Ends (map (λ a. a.0) oks) pairs before stopped last
    same : pairs_removed kept_if_ok asks ≡ map (λ a. a.0) (filter (λ a. not a.1) oks)

  one_more :
      (pair : ℕ × T) (asked pairs : List (ℕ × T)) (before : F) (stopped : Option (ℕ × Result Bool E)) (last : F)
      → Ends asked pairs before stopped last
      → Ends (pair ∷ asked) (pair ∷ pairs) before stopped last
  one_more pair asked pairs before None last (same, is) = (ap (λ l. pair ∷ l) same, is)
  one_more pair asked pairs before (Some (ix, Ok kept)) last never = never
  one_more pair asked pairs before (Some (ix, Err e)) last (at, unasked, is, asks) = (at, unasked, ap (λ l. pair ∷ l) is, asks)

  succeeds :
      (f : F) (asks : List ((ℕ × T) × Result Bool E)) (unasked : List (ℕ × T)) (stopped : Option (ℕ × Result Bool E))
      (last : F)
      → FoldsTo (λ p a q. ask p a.0 a.1 q) f asks last
      → EndsAt kept_if_ok asks unasked stopped
      → Succeeds f asks (map (λ a. a.0) asks ++ unasked) stopped last
  succeeds f [] unasked stopped last folds ends = record {
    oks = [];
    before = f;
    were_asked = refl;
    ends = subst (λ o. Ends [] unasked f o last) (sym ends.1) (sym ends.0, sym folds);
    same = refl;
  }
  succeeds f ((pair, Ok true) ∷ asks) unasked stopped last folds ends =
      let rest = succeeds folds.0 asks unasked stopped last folds.2 ends in
      record {
        oks = (pair, true) ∷ rest.oks;
        before = rest.before;
        were_asked = (folds.0, folds.1, rest.were_asked);
        ends = one_more pair (map (λ a. a.0) rest.oks) (map (λ a. a.0) asks ++ unasked) rest.before stopped last rest.ends;
        same = rest.same;
      }
  succeeds f ((pair, Ok false) ∷ asks) unasked stopped last folds ends =
      let rest = succeeds folds.0 asks unasked stopped last folds.2 ends in
      record {
        oks = (pair, false) ∷ rest.oks;
        before = rest.before;
        were_asked = (folds.0, folds.1, rest.were_asked);
        ends = one_more pair (map (λ a. a.0) rest.oks) (map (λ a. a.0) asks ++ unasked) rest.before stopped last rest.ends;
        same = ap (λ l. pair ∷ l) rest.same;
      }
  succeeds f ((pair, Err e) ∷ asks) unasked stopped last folds ends =
      let at_end : folds.0 ≡ last = subst (λ l. FoldsTo (λ p a q. ask p a.0 a.1 q) folds.0 l last) ends.0 folds.2 in
      record {
        oks = [];
        before = f;
        were_asked = refl;
        ends = subst (λ o. Ends [] (pair ∷ (map (λ a. a.0) asks ++ unasked)) f o last) (sym ends.1)
            (pair, map (λ a. a.0) asks ++ unasked, refl, subst (ask f pair (Err e)) at_end folds.1);
        same = ap (pairs_removed kept_if_ok) ends.0;
      }

  module _
      {G : Type 0} (lists : Store T → List ℕ → Type 0) (give : G → ℕ × T → G → Type 0) (f : F) (gone : G)
      (old new : Store T)
    where
      until :
          {C : Type 0} (stopped : Option (ℕ × Result Bool E)) (result : Result C E)
          → ((asked pairs : List (ℕ × T)) (before last : F) → Ends asked pairs before stopped last
          → EndsRetain lists ask asked pairs before result last)
          → SweepsAlong ask kept_if_ok give lists f gone old new stopped
          → (last : F) × RetainsUntil lists ask f old new result last
      until stopped result reads did =
          let all = succeeds f did.swept.asks did.swept.unasked stopped did.last did.swept.were_asked did.swept.ends in
          let left : new ≡ removed_all old (removed_of all.oks) =
          did.swept.left ∙ ap (λ l. removed_all old (map (λ p. p.0) l)) all.same ∙ ap (removed_all old) (removed_are all.oks) in (
            did.last,
            record {
              indexes = did.indexes;
              listed = did.listed;
              asks = all.oks;
              before = all.before;
              were_asked = all.were_asked;
              ends = reads (map (λ a. a.0) all.oks) (pairs_at old did.indexes) all.before did.last
                  (subst (λ l. Ends (map (λ a. a.0) all.oks) l all.before stopped did.last) did.swept.in_order all.ends);
              gone = λ ix here. ap (λ s. get s ix) left ∙ gone_all old (removed_of all.oks) ix here;
              others = λ ix other. ap (λ s. get s ix) left ∙ get-removed_all old (removed_of all.oks) ix other;
              left = left;
            },
          )

      pub RetainsUntil-ok :
          {C : Type 0} (count : C)
          → SweepsAlong ask kept_if_ok give lists f gone old new None
          → (last : F) × RetainsUntil lists ask f old new (Ok count) last
      RetainsUntil-ok count = until None (Ok count) (λ asked pairs before last ends. ends)

      pub RetainsUntil-err :
          (C : Type 0) (ix : ℕ) (e : E)
          → SweepsAlong ask kept_if_ok give lists f gone old new (Some (ix, Err e))
          → (last : F) × RetainsUntil lists ask {C = C} f old new (Err e) last
      RetainsUntil-err C ix e = until {C = C} (Some (ix, Err e)) (Err e) (λ asked pairs before last ends. ends)

      -- a success ends no call
      pub no_ok : (ix : ℕ) (kept : Bool) → SweepsAlong ask kept_if_ok give lists f gone old new (Some (ix, Ok kept)) → ⊥
      no_ok ix kept did =
          (succeeds f did.swept.asks did.swept.unasked (Some (ix, Ok kept)) did.last did.swept.were_asked did.swept.ends).ends

-- an answer that ended a call is `Stop`
ending : Option (ℕ × Verdict) → Verdict
ending None = Stop
ending (Some at) = at.1

module _ {T : Type 0} where
  end_stops :
      (asks : List ((ℕ × T) × Verdict)) (unasked : List (ℕ × T)) (ix : ℕ) (v : Verdict)
      → EndsAt reads_itself asks unasked (Some (ix, v))
      → v ≡ Stop
  unfolding ending
  end_stops [] unasked ix v ends = absurd (let never = ends.1 in cc)
  end_stops ((pair, Keep) ∷ asks) unasked ix v ends = end_stops asks unasked ix v ends
  end_stops ((pair, Remove) ∷ asks) unasked ix v ends = end_stops asks unasked ix v ends
  end_stops ((pair, Stop) ∷ asks) unasked ix v ends = ap ending ends.1

  module _
      {F G : Type 0} (lists : Store T → List ℕ → Type 0) (ask : F → ℕ × T → Verdict → F → Type 0)
      (give : G → ℕ × T → G → Type 0) (f : F) (gone : G) (old new : Store T)
    where
      pub SweepsAlong-stopped :
          (stopped : Option (ℕ × Verdict)) (at : Option ℕ)
          → at ≡ option_map (λ p. p.0) stopped
          → SweepsAlong ask reads_itself give lists f gone old new stopped
          → SweepsAlong ask reads_itself give lists f gone old new (option_map (λ ix. (ix, Stop)) at)
      SweepsAlong-stopped None at is did = rw is did
      SweepsAlong-stopped (Some (ix, v)) at is did =
          let stop = end_stops did.swept.asks did.swept.unasked ix v did.swept.ends in
          rw is (subst (λ w. SweepsAlong ask reads_itself give lists f gone old new (Some (ix, w))) stop did)

-- a count along a selection: so many were counted, and those in `left` are still to come
module _ {T : Type 0} (test : T → Bool) (s : Store T) where
  pub record Counting (left : List ℕ) (count : ℕ) : Type 0 where
    pub all : List ℕ
    pub hits : AreHits s test all
    pub ahead : (j : ℕ) → Contains left j → IsHit s test j
    pub counted : count + length left ≡ length all

  pub Counting-first : (all : List ℕ) → AreHits s test all → Counting all 0
  Counting-first all hits = record {
    all = all;
    hits = hits;
    ahead = λ j here. (hits.each j).0 here;
    counted = omega arith;
  }

  pub Counting-next : (ix : ℕ) (rest : List ℕ) (count : ℕ) → Counting (ix ∷ rest) count → Counting rest (count + 1)
  Counting-next ix rest count w = record {
    all = w.all;
    hits = w.hits;
    ahead = λ j here. w.ahead j (contains_tail ix j rest here);
    counted = omega (arith, w.counted);
  }

  pub Counting-all : (count : ℕ) → Counting [] count → CountsHits s test count
  Counting-all count w = (w.all, w.hits, omega (arith, w.counted))

  -- never more than there are slots
  pub Counting-few : (left : List ℕ) (count : ℕ) → Counting left count → count + length left ≤ length s.items
  Counting-few left count w =
      let few : length w.all ≤ length s.items =
      length-le_from_distinct_below w.all (length s.items) w.hits.once (λ q here.
      let (item, live, passes) = (w.hits.each q).0 ((is_member-Decides Decides-eqb w.all q).0 here) in
      live_within s.items q (ap is_some live)) in
      omega (arith, few, w.counted)
