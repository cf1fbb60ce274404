-- What a call that goes over a selection leaves, where the next index is found before a removed item is.
use Rattle.std.proofs.Common.{◌≡◌, ◌≢◌, ◌∙◌, ◌++◌, ◌≤◌, inl, inr, ℕ, zero, suc, Bool, true, false, not, cond, nat_eq, List, [], ◌∷◌, filter, map, slice_index_or, slice_set, Option, Some, None, refl, sym, ap, subst, arith}
use Rattle.std.specs.Bool.{Decides, MatchBool}
use Rattle.std.specs.List.{Contains, FoldsTo, IsDistinct}
use Rattle.std.specs.Set.{is_member}
use Rattle.std.proofs.lemmas.Bool.Decides.{Decides-eqb, not_from_Decides}
use Rattle.std.proofs.lemmas.Map.Keys.{IsDistinct-tail}
use Rattle.std.proofs.lemmas.Map.Made.{is_member-Decides}
use Rattle.iddqd.specs.Store.{Store, get, live_count, removed}
use Rattle.iddqd.proofs.LiveLemmas.{get-removed_other}
use Rattle.iddqd.proofs.StoreLemmas.{contains_head, contains_tail, contains_cases, contains_none}
use Rattle.iddqd_keys.specs.KeyWalk.{pairs_at}
use Rattle.iddqd_keys.specs.Removals.{removed_all}
use Rattle.iddqd_keys.specs.Scan.{IsHit}
use Rattle.iddqd_keys.proofs.KeyWalkLemmas.{pairs_at-alike, pairs_at-first}
use Rattle.iddqd_keys.proofs.RemovalLemmas.{limit-removed_all}
use Rattle.iddqd_keys.proofs.ScanLemmas.{live_before}
use Rattle.iddqd_map.specs.Groups.{AreHits}
use Rattle.iddqd_map.specs.RangeRetain.{KeepsMisses}
use Rattle.iddqd_map.specs.Sweep.{AfterVerdict, CanSweep, CanSweepAlong, CanVisit, EndsAt, Sweeps, SweepsAlong, pairs_removed, removes, stops}
use Rattle.iddqd_map.specs.declared.verdict.Verdict.{Verdict}
use Rattle.iddqd_map.specs.declared.verdict.Verdict.TheVariants.{Keep, Remove, Stop}
use Rattle.iddqd_map.proofs.AlongLemmas.{apart_first}
use Rattle.iddqd_map.proofs.CallerLemmas.{fewer_all}

-- no verdict stops and removes
pub stop_keeps : (v : Verdict) → stops v ≡ true → removes v ≡ false
stop_keeps Keep is = cc
stop_keeps Remove is = cc
stop_keeps Stop is = refl

pub not_stopped : (v : Verdict) → (v ≡ Stop → ⊥) → stops v ≡ false
not_stopped Keep other = refl
not_stopped Remove other = refl
not_stopped Stop other = absurd (other refl)

if_removed : (v : Verdict) (P Q : Type 0) → AfterVerdict v P Q → removes v ≡ true → Q
if_removed Keep P Q holds is = cc
if_removed Remove P Q holds is = holds
if_removed Stop P Q holds is = cc

if_kept : (v : Verdict) (P Q : Type 0) → AfterVerdict v P Q → stops v ≡ false → removes v ≡ false → P
if_kept Keep P Q holds goes_on is = holds
if_kept Remove P Q holds goes_on is = cc
if_kept Stop P Q holds goes_on is = cc

module _
    {F G T A : Type 0} (takes : F → ℕ × T → Type 0) (ask : F → ℕ × T → A → F → Type 0) (reads : A → Verdict)
    (accepts : G → ℕ × T → Type 0) (give : G → ℕ × T → G → Type 0)
  where
    abbrev Can : F → G → List (ℕ × T) → Type 0
    Can = CanSweep takes ask reads accepts give

    CanVisit-first :
        (f : F) (gone : G) (p : ℕ × T) (rest : List (ℕ × T))
        → Can f gone (p ∷ rest)
        → CanVisit takes ask reads accepts give f gone p
    CanVisit-first f gone p rest can = (can.0, λ a f' asked is. (if_removed (reads a) _ _ (can.1 a f' asked) is).0)

    -- once the first closure was asked at a pair, and the second given it if the answer was so
    can_after :
        (f f' : F) (gone gone' : G) (p : ℕ × T) (rest : List (ℕ × T)) (a : A)
        → Can f gone (p ∷ rest)
        → ask f p a f'
        → stops (reads a) ≡ false
        → (removes (reads a) ≡ false → gone' ≡ gone)
        → (removes (reads a) ≡ true → give gone p gone')
        → Can f' gone' rest
    can_after f f' gone gone' p rest a can asked goes_on ungiven given =
        elim (removes (reads a)) as (λ b. removes (reads a) ≡ b → Can f' gone' rest) [
          | true ↦ λ is. (if_removed (reads a) _ _ (can.1 a f' asked) is).1 gone' (given is)
          | false ↦ λ is. subst (λ q. Can f' q rest) (sym (ungiven is)) (if_kept (reads a) _ _ (can.1 a f' asked) goes_on is)
        ] refl

    pairs_kept :
        (a : (ℕ × T) × A) (asks : List ((ℕ × T) × A))
        → removes (reads a.1) ≡ false
        → pairs_removed reads (a ∷ asks) ≡ pairs_removed reads asks
    pairs_kept a asks is = rw is refl

    pairs_taken :
        (a : (ℕ × T) × A) (asks : List ((ℕ × T) × A))
        → removes (reads a.1) ≡ true
        → pairs_removed reads (a ∷ asks) ≡ a.0 ∷ pairs_removed reads asks
    pairs_taken a asks is = rw is refl

    abbrev Did : List ℕ → F → G → Store T → Store T → F → G → Option (ℕ × A) → Type 0
    Did = Sweeps ask reads give

    Did-none : (f : F) (gone : G) (s : Store T) → Did [] f gone s s f gone None
    Did-none f gone s = record {
      asks = [];
      unasked = [];
      in_order = refl;
      ends = (refl, refl);
      were_asked = refl;
      given = refl;
      left = refl;
    }

    module _ (s : Store T) (ix : ℕ) (rest : List ℕ) (item : T) (live : get s ix ≡ Some item) (f f' : F) (a : A)
        (asked : ask f (ix, item) a f')
      where
        first_pair : pairs_at s (ix ∷ rest) ≡ (ix, item) ∷ pairs_at s rest
        first_pair = pairs_at-first s (ix ∷ rest) rest ix item refl live

        -- the answer that stops the call
        Did-stopped : (gone : G) → stops (reads a) ≡ true → Did (ix ∷ rest) f gone s s f' gone (Some (ix, a))
        Did-stopped gone is =
            let none : pairs_removed reads (((ix, item), a) ∷ []) ≡ [] = pairs_kept ((ix, item), a) [] (stop_keeps (reads a) is) in
            record {
              asks = ((ix, item), a) ∷ [];
              unasked = pairs_at s rest;
              in_order = sym first_pair;
              ends = rw is (refl, refl);
              were_asked = (f', asked, refl);
              given = subst (λ l. FoldsTo give gone l gone) (sym none) refl;
              left = ap (λ l. removed_all s (map (λ p. p.0) l)) (sym none);
            }

        module _
            (goes_on : stops (reads a) ≡ false) (new : Store T) (last : F) (last_gone : G)
            (stopped : Option (ℕ × A))
          where
            -- one that is kept, and then those behind it
            Did-kept :
                (gone : G)
                → removes (reads a) ≡ false
                → Did rest f' gone s new last last_gone stopped
                → Did (ix ∷ rest) f gone s new last last_gone stopped
            Did-kept gone is did =
                let same = pairs_kept ((ix, item), a) did.asks is in
                record {
                  asks = ((ix, item), a) ∷ did.asks;
                  unasked = did.unasked;
                  in_order = ap (λ l. (ix, item) ∷ l) did.in_order ∙ sym first_pair;
                  ends = rw goes_on did.ends;
                  were_asked = (f', asked, did.were_asked);
                  given = subst (λ l. FoldsTo give gone l last_gone) (sym same) did.given;
                  left = did.left ∙ ap (λ l. removed_all s (map (λ p. p.0) l)) (sym same);
                }

            -- one that is removed, and then those behind it
            Did-removed :
                (gone gone' : G)
                → removes (reads a) ≡ true
                → give gone (ix, item) gone'
                → ((j : ℕ) → Contains rest j → j ≢ ix)
                → Did rest f' gone' (removed s ix) new last last_gone stopped
                → Did (ix ∷ rest) f gone s new last last_gone stopped
            Did-removed gone gone' is gave apart did =
                let more = pairs_taken ((ix, item), a) did.asks is in
                let still : pairs_at (removed s ix) rest ≡ pairs_at s rest =
                pairs_at-alike s (removed s ix) rest (λ j there. get-removed_other s ix j (apart j there)) in
                record {
                  asks = ((ix, item), a) ∷ did.asks;
                  unasked = did.unasked;
                  in_order = ap (λ l. (ix, item) ∷ l) (did.in_order ∙ still) ∙ sym first_pair;
                  ends = rw goes_on did.ends;
                  were_asked = (f', asked, did.were_asked);
                  given = subst (λ l. FoldsTo give gone l last_gone) (sym more) (gone', gave, did.given);
                  left = did.left ∙ ap (λ l. removed_all s (map (λ p. p.0) l)) (sym more);
                }

    -- what the calls that are still to come leave is what all of them leave
    pub record Sweeping
        (lists : Store T → List ℕ → Type 0) (test : T → Bool) (f0 : F) (gone0 : G) (old now : Store T)
        (left : List ℕ) (f : F) (gone : G)
        : Type 0 where
      pub can : CanSweep takes ask reads accepts give f gone (pairs_at now left)
      pub once : IsDistinct nat_eq left
      pub hits : (j : ℕ) → Contains left j → IsHit now test j
      pub among : (j : ℕ) (x : T) → get now j ≡ Some x → get old j ≡ Some x
      pub others : KeepsMisses old test now
      pub all : List ℕ
      pub listed : lists old all
      pub whole :
          (new : Store T) (last : F) (last_gone : G) (stopped : Option (ℕ × A))
          → Sweeps ask reads give left f gone now new last last_gone stopped
          → Sweeps ask reads give all f0 gone0 old new last last_gone stopped

    module _ (lists : Store T → List ℕ → Type 0) (test : T → Bool) (f0 : F) (gone0 : G) (old : Store T) where
      pub Sweeping-first :
          (all : List ℕ)
          → lists old all
          → AreHits old test all
          → CanSweepAlong takes ask reads accepts give lists f0 gone0 old
          → Sweeping lists test f0 gone0 old old all f0 gone0
      Sweeping-first all listed are can = record {
        can = can.at all listed;
        once = are.once;
        hits = λ j here. (are.each j).0 here;
        among = λ j x live. live;
        others = λ j other. refl;
        all = all;
        listed = listed;
        whole = λ new last last_gone stopped did. did;
      }

      module _ (now : Store T) (f : F) (gone : G) where
        -- nothing is left to ask about
        pub Sweeping-none :
            Sweeping lists test f0 gone0 old now [] f gone
            → SweepsAlong ask reads give lists f0 gone0 old now None
        Sweeping-none w = record {
          indexes = w.all;
          listed = w.listed;
          last = f;
          last_gone = gone;
          swept = w.whole now f gone None (Did-none f gone now);
        }

        module _ (ix : ℕ) (rest : List ℕ) (w : Sweeping lists test f0 gone0 old now (ix ∷ rest) f gone) where
          pub Sweeping-hit : IsHit now test ix
          Sweeping-hit = w.hits ix (contains_head ix rest)

          module _ (item : T) (live : get now ix ≡ Some item) where
            can_first : Can f gone ((ix, item) ∷ pairs_at now rest)
            can_first = subst (Can f gone) (pairs_at-first now (ix ∷ rest) rest ix item refl live) w.can

            pub Sweeping-visit : CanVisit takes ask reads accepts give f gone (ix, item)
            Sweeping-visit = CanVisit-first f gone (ix, item) (pairs_at now rest) can_first

            module _ (f' : F) (a : A) (asked : ask f (ix, item) a f') where
              pub Sweeping-stopped :
                  stops (reads a) ≡ true
                  → SweepsAlong ask reads give lists f0 gone0 old now (Some (ix, a))
              Sweeping-stopped is = record {
                indexes = w.all;
                listed = w.listed;
                last = f';
                last_gone = gone;
                swept = w.whole now f' gone (Some (ix, a)) (Did-stopped now ix rest item live f f' a asked gone is);
              }

              module _ (goes_on : stops (reads a) ≡ false) (then : Store T) (gone' : G)
                  (kept : removes (reads a) ≡ false → then ≡ now)
                  (less : removes (reads a) ≡ true → then ≡ removed now ix)
                  (ungiven : removes (reads a) ≡ false → gone' ≡ gone)
                  (given : removes (reads a) ≡ true → give gone (ix, item) gone')
                where
                  apart : (j : ℕ) → Contains rest j → j ≢ ix
                  apart = apart_first ix rest w.once

                  -- what holds where it was kept, and where it was removed
                  left_as :
                      (P : Store T → Type 0)
                      → (removes (reads a) ≡ false → P now)
                      → (removes (reads a) ≡ true → P (removed now ix))
                      → P then
                  left_as P at_kept at_removed = elim (removes (reads a)) as (λ b. removes (reads a) ≡ b → P then) [
                    | true ↦ λ is. subst P (sym (less is)) (at_removed is)
                    | false ↦ λ is. subst P (sym (kept is)) (at_kept is)
                  ] refl

                  others_stay : (j : ℕ) → j ≢ ix → get then j ≡ get now j
                  others_stay j other = left_as (λ t. get t j ≡ get now j) (λ _. refl) (λ _. get-removed_other now ix j other)

                  did_more :
                      (new : Store T) (last : F) (last_gone : G) (stopped : Option (ℕ × A))
                      → Did rest f' gone' then new last last_gone stopped
                      → Did (ix ∷ rest) f gone now new last last_gone stopped
                  did_more new last last_gone stopped =
                      left_as (λ t. Did rest f' gone' t new last last_gone stopped → Did (ix ∷ rest) f gone now new last last_gone stopped)
                      (λ is did. Did-kept now ix rest item live f f' a asked goes_on new last last_gone stopped gone is
                      (subst (λ q. Did rest f' q now new last last_gone stopped) (ungiven is) did))
                      (λ is did. Did-removed now ix rest item live f f' a asked goes_on new last last_gone stopped gone gone' is (given is) apart did)

                  pub Sweeping-next : Sweeping lists test f0 gone0 old then rest f' gone'
                  Sweeping-next =
                      let was = w.among ix item live in
                      let (x, there, passes) = w.hits ix (contains_head ix rest) in
                      record {
                        can =
                            subst (Can f' gone') (sym (pairs_at-alike now then rest (λ j here. others_stay j (apart j here))))
                            (can_after f f' gone gone' (ix, item) (pairs_at now rest) a can_first asked goes_on ungiven given);
                        once = IsDistinct-tail nat_eq ix rest w.once;
                        hits = λ j here.
                            let (y, is, passed) = w.hits j (contains_tail ix j rest here) in
                            (y, others_stay j (apart j here) ∙ is, passed);
                        among = λ j y is. w.among j y (left_as (λ t. get t j ≡ Some y → get now j ≡ Some y) (λ _ here. here) (λ _ here. (live_before now ix j item y live here).1) is);
                        others = λ j other.
                            let other_than : j ≢ ix = λ same. other (x, ap (get old) same ∙ w.among ix x there, passes) in
                            others_stay j other_than ∙ w.others j other;
                        all = w.all;
                        listed = w.listed;
                        whole = λ new last last_gone stopped did. w.whole new last last_gone stopped (did_more new last last_gone stopped did);
                      }

    -- a call leaves no more items than there were, and the limit
    module _ (lists : Store T → List ℕ → Type 0) (f : F) (gone : G) (old new : Store T) (stopped : Option (ℕ × A))
        (did : SweepsAlong ask reads give lists f gone old new stopped)
      where
        pub swept-fewer : live_count new ≤ live_count old
        swept-fewer = subst (λ s. live_count s ≤ live_count old) (sym did.swept.left) (fewer_all old (map (λ p. p.0) (pairs_removed reads did.swept.asks)))

        pub swept-limit : new.limit ≡ old.limit
        swept-limit = ap (λ s. s.limit) did.swept.left ∙ limit-removed_all old (map (λ p. p.0) (pairs_removed reads did.swept.asks))
