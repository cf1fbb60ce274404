-- For callers too. The indexes that a closure keeps: what the asks up to a place leave.
use Rattle.std.proofs.Common.{◌≡◌, ◌∙◌, ℕ, ◌+◌, ◌<◌, ◌≤◌, List, [], ◌∷◌, ◌++◌, length, get_or, take, drop, slice_index, map, filter, Bool, refl, sym, ap, subst, arith, All, Contains}
use Rattle.std.proofs.lemmas.List.{map-append, length-map, get_or-map, take_all, take_more, drop_more}
use Rattle.std.proofs.lemmas.List.Elements.{filter-append, All-map, All-filter}
use Rattle.std.proofs.lemmas.Grind.{drop_more_same}
use Rattle.std.proofs.lemmas.Fn.{FoldsTo-push}
use Rattle.std.specs.Fn.{Called, Mut}
use Rattle.iddqd_order.specs.Asks.{At_once, One_more, CanAsk}
use Rattle.iddqd_order.specs.Retain.{RetainsTo}
use Rattle.iddqd_order.proofs.IndexListLemmas.{Contains-at}
use Rattle.iddqd_order.proofs.AskLemmas.{CanAsk-later}

-- the indexes of which the asks say true
abbrev pub kept_of : List (ℕ × Bool) → List ℕ
kept_of asks = map (λ a. a.0) (filter (λ a. a.1) asks)

module _ {F : Type 0} (g : Mut F (ℕ × Unit {0}) Bool) where
  -- The closure was asked about the indexes of xs before p. Those that it keeps stand in ys before t. From p on, ys is
  -- equal to xs.
  pub record Gathers (f : F) (xs ys : List ℕ) (p t : ℕ) (now : F) : Type 0 where
    pub kept : RetainsTo g f (take p xs) (take t ys) now
    pub rest : drop p ys ≡ drop p xs
    pub few : t ≤ p
    pub within : p ≤ length xs
    pub counted : length ys ≡ length xs
    pub can : CanAsk g (Contains xs) now

  pub gathers-none : (f : F) (xs : List ℕ) (p t : ℕ) → p ≡ 0 → t ≡ 0 → CanAsk g (Contains xs) f → Gathers f xs xs p t f
  gathers-none f xs p t ep et can = record {
    kept =
        record {
          asks = [];
          each_once = ap (λ z. take z xs) (sym ep);
          were_asked = refl;
          kept = ap (λ z. take z xs) et;
        };
    rest = refl;
    few = omega arith;
    within = omega arith;
    counted = refl;
    can = can;
  }

  -- the index at p is still the one of xs
  next_is :
      {f now : F} {xs ys : List ℕ} {p t : ℕ} (ix : ℕ)
      → Gathers f xs ys p t now
      → p < length ys
      → ix ≡ slice_index ys p
      → ix ≡ get_or xs p 0
  next_is {xs = xs} {ys = ys} {p = p} ix w lt e =
      let c = w.counted in
      e ∙ ap (λ z. get_or z 0 0) (sym (drop_more ys p 0 lt) ∙ w.rest ∙ drop_more xs p 0 (omega arith))

  pub next_held :
      {f now : F} {xs ys : List ℕ} {p t : ℕ} (ix : ℕ)
      → Gathers f xs ys p t now
      → p < length ys
      → ix ≡ slice_index ys p
      → Contains xs ix
  next_held {xs = xs} {p = p} ix w lt e = let c = w.counted in Contains-at xs p ix (omega arith) (next_is ix w lt e)

  -- the closure is asked about it, and if it is kept, it is written at t
  pub gathers-next :
      {f now : F} {xs ys : List ℕ} {p t : ℕ} (ix : ℕ) (b : Bool) (q u : ℕ) (new : List ℕ) (next : F)
      → Gathers f xs ys p t now
      → p < length ys
      → ix ≡ slice_index ys p
      → Called g now (ix, tt) b next
      → q ≡ p + 1
      → take u new ≡ take t ys ++ kept_of ((ix, b) ∷ [])
      → drop q new ≡ drop q ys
      → length new ≡ length ys
      → u ≤ t + 1
      → Gathers f xs new q u next
  gathers-next {f = f} {now = now} {xs = xs} {ys = ys} {p = p} {t = t} ix b q u new next w lt e said eq front behind long up =
      let c = w.counted in let few = w.few in let k = w.kept in
      let one : List (ℕ × Bool) = (ix, b) ∷ [] in
      record {
        kept = record {
          asks = k.asks ++ one;
          each_once =
              map-append (λ (a : ℕ × Bool). a.0) k.asks one ∙ (λ j. k.each_once j ++ next_is ix w lt e j ∷ [])
              ∙ sym (take_more xs p 0 (omega arith)) ∙ ap (λ z. take z xs) (sym eq);
          were_asked = FoldsTo-push (λ q a r. Called g q (a.0, tt) a.1 r) f k.asks now (ix, b) next k.were_asked said;
          kept = front ∙ ap (λ z. z ++ kept_of one) k.kept ∙ sym (map-append (λ (a : ℕ × Bool). a.0) (filter (λ (a : ℕ × Bool). a.1) k.asks) (filter (λ (a : ℕ × Bool). a.1) one))
              ∙ ap (map (λ (a : ℕ × Bool). a.0)) (sym (filter-append (λ (a : ℕ × Bool). a.1) k.asks one));
        };
        rest = behind ∙ ap (λ z. drop z ys) eq ∙ drop_more_same ys xs p w.rest ∙ ap (λ z. drop z xs) (sym eq);
        few = omega arith;
        within = omega arith;
        counted = long ∙ c;
        can = CanAsk-later g (Contains xs) (One_more At_once (next_held ix w lt e) said) w.can;
      }

  -- all were asked about
  pub gathers-all :
      {f now : F} {xs ys : List ℕ} {p t : ℕ}
      → Gathers f xs ys p t now
      → length xs ≤ p
      → RetainsTo g f xs (take t ys) now
  gathers-all {f = f} {now = now} {xs = xs} {ys = ys} {p = p} {t = t} w over =
      subst (λ z. RetainsTo g f z (take t ys) now) (take_all p xs over) w.kept

-- what holds of all indexes holds of those that are kept
pub all_kept :
    (P : ℕ → Type 0) (asks : List (ℕ × Bool)) → All P (map (λ (a : ℕ × Bool). a.0) asks) → All P (kept_of asks)
all_kept P asks all =
    let each : All (λ (a : ℕ × Bool). P a.0) asks = λ j d lt. subst P (get_or-map (λ (a : ℕ × Bool). a.0) asks j d d.0 lt) (all j d.0 (omega (arith, length-map asks (λ (a : ℕ × Bool). a.0)))) in
    All-map P (λ (a : ℕ × Bool). a.0) (filter (λ (a : ℕ × Bool). a.1) asks)
    (All-filter (λ (a : ℕ × Bool). a.1) (λ (a : ℕ × Bool). P a.0) asks each)
