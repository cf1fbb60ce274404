-- For callers: the steps of a loop that asks of each pair and swaps out those refused.
use Rattle.std.proofs.Common.{◌≡◌, ℕ, ◌+◌, ◌<◌, ◌≤◌, Bool, true, false, cond, List, [], ◌∷◌, ◌++◌, map, filter, length, take, get_or, swap_remove, refl, sym, ap, subst, ◌∙◌, arith, Contains}
use Rattle.std.specs.List.{FoldsTo}
use Rattle.std.specs.List.Sorted.{IsPermutation}
use Rattle.std.proofs.lemmas.List.{length-map, get_or-map, take_all, take-set, take-take, map-append, take_more, append-nil, append_assoc}
use Rattle.std.proofs.lemmas.List.Elements.{filter-append, Contains-append_right}
use Rattle.std.proofs.lemmas.List.Sorted.{IsPermutation-refl, IsPermutation-trans, IsPermutation-sym, IsPermutation-swap_remove, IsPermutation-append_right, IsPermutation-append_left, IsPermutation-append_comm, IsPermutation-middle, IsPermutation-to_front, Contains-permutation}
use Rattle.std.proofs.lemmas.Fn.{FoldsTo-push}
use Rattle.std.proofs.lemmas.Option.{slice_get_read, get_or_from_slice_get}
use Rattle.iddqd_hash.specs.Asks.{RetainsPairs, RetainsPairsTo}
use Rattle.iddqd_hash.proofs.PermutationLemmas.{IsPermutation-filter}
use Rattle.iddqd_hash.specs.HashTable.{values}

pub Contains-values : {T : Type 0} (es : List (ℕ × T)) (e : ℕ × T) → Contains es e → Contains (values es) e.1
Contains-values es e here =
    (here.0, omega (arith, length-map es (λ p. p.1)), get_or-map (λ p. p.1) es here.0 e e.1 here.1 ∙ ap (λ p. p.1) here.2)

module _ {F T : Type 0} (ask : F → T → Bool → F → Type 0) where
  -- the pairs below a place were asked and kept, and the refused ones were taken out
  pub record Retaining (f : F) (old : List (ℕ × T)) (f' : F) (now : List (ℕ × T)) (place : ℕ) : Type 0 where
    pub asks : List ((ℕ × T) × Bool)
    pub refused : List (ℕ × T)
    pub whole : IsPermutation old (refused ++ now)
    pub asked : IsPermutation (take place now ++ refused) (map (λ a. a.0) asks)
    pub were_asked : FoldsTo (λ p a q. ask p a.0.1 a.1 q) f asks f'
    pub kept : take place now ≡ map (λ a. a.0) (filter (λ a. a.1) asks)

  pub Retaining-start : (f : F) (old : List (ℕ × T)) → Retaining f old f old 0
  Retaining-start f old =
      record {
        asks = [];
        refused = [];
        whole = IsPermutation-refl old;
        asked = IsPermutation-refl [];
        were_asked = refl;
        kept = refl;
      }

  -- what is moved goes to the place or beyond
  take-swap_remove :
      {X : Type 0} (xs : List X) (i : ℕ) (d : X)
      → i < length xs
      → take i (swap_remove xs i d) ≡ take i xs
  take-swap_remove xs i d within = take-take i _ _ (omega arith) ∙ take-set xs i _

  to_back : {X : Type 0} (xs ys : List X) (x : X) → IsPermutation ((xs ++ x ∷ []) ++ ys) ((xs ++ ys) ++ x ∷ [])
  to_back xs ys x =
      rw append_assoc (IsPermutation-trans _ _ _ (IsPermutation-middle xs x ys) (IsPermutation-sym _ _ (IsPermutation-to_front (xs ++ ys) x)))

  module _
      (f : F) (old : List (ℕ × T)) (before : F) (now : List (ℕ × T)) (place : ℕ) (e : ℕ × T)
      (within : place < length now) (read : e ≡ get_or now place e) (state : Retaining f old before now place)
    where
      asks_more : (b : Bool) → map (λ a. a.0) (state.asks ++ (e, b) ∷ []) ≡ map (λ a. a.0) state.asks ++ e ∷ []
      asks_more b = map-append (λ a. a.0) state.asks ((e, b) ∷ [])

      taken_more : take (place + 1) now ≡ take place now ++ e ∷ []
      taken_more = take_more now place e within ∙ ap (λ x. take place now ++ x ∷ []) (sym read)

      pub Contains-read_now : Contains (values old) e.1
      Contains-read_now =
          let here : Contains now e = (place, within, sym read) in
          Contains-values old e (Contains-permutation _ _ e (IsPermutation-sym _ _ state.whole) (Contains-append_right state.refused now e here))

      pub Retaining-keep : (last : F) → ask before e.1 true last → Retaining f old last now (place + 1)
      Retaining-keep last called =
          record {
            asks = state.asks ++ (e, true) ∷ [];
            refused = state.refused;
            whole = state.whole;
            asked =
                rw (taken_more, asks_more) (IsPermutation-trans _ _ _ (to_back _ _ e) (IsPermutation-append_left (e ∷ []) _ _ state.asked));
            were_asked = FoldsTo-push _ f _ before (e, true) last state.were_asked called;
            kept =
                taken_more ∙ ap (λ xs. xs ++ e ∷ []) state.kept
                ∙ sym (ap (map (λ a. a.0)) (filter-append (λ a. a.1) state.asks ((e, true) ∷ [])) ∙ map-append (λ a. a.0) _ _);
          }

      pub Retaining-drop :
          (last : F) (later : List (ℕ × T)) (x : ℕ × T)
          → x ≡ get_or now place x
          → later ≡ swap_remove now place x
          → ask before e.1 false last
          → Retaining f old last later place
      Retaining-drop last later x taken given called =
          let found = slice_get_read now (length now) place e refl within read in
          let e-is : x ≡ e = taken ∙ get_or_from_slice_get now place e x found in
          let is : later ≡ swap_remove now place e = given ∙ ap (swap_remove now place) e-is in
          let same : take place later ≡ take place now = ap (take place) is ∙ take-swap_remove now place e within in
          let moved : IsPermutation now (e ∷ later) = rw is (IsPermutation-swap_remove now place e within read) in
          record {
            asks = state.asks ++ (e, false) ∷ [];
            refused = state.refused ++ e ∷ [];
            whole =
                rw append_assoc (IsPermutation-trans _ _ _ state.whole (IsPermutation-append_right state.refused _ _ moved));
            asked = rw (same, asks_more, ← append_assoc) (IsPermutation-append_left (e ∷ []) _ _ state.asked);
            were_asked = FoldsTo-push _ f _ before (e, false) last state.were_asked called;
            kept =
                same ∙ state.kept
                ∙ sym (ap (map (λ a. a.0)) (filter-append (λ a. a.1) state.asks ((e, false) ∷ [])) ∙ map-append (λ a. a.0) _ _ ∙ append-nil _);
          }

  pub RetainsPairs-from_retaining :
      (f : F) (old : List (ℕ × T)) (last : F) (now : List (ℕ × T)) (place : ℕ)
      → length now ≤ place
      → Retaining f old last now place
      → RetainsPairsTo ask f old now last
  RetainsPairs-from_retaining f old last now place past state =
      let all : take place now ≡ now = take_all place now past in
      let both : IsPermutation old (take place now ++ state.refused) =
      rw all (IsPermutation-trans _ _ _ state.whole (IsPermutation-append_comm state.refused now)) in
      record {
        asks = state.asks;
        each_once = IsPermutation-trans _ _ _ both state.asked;
        were_asked = state.were_asked;
        kept = rw (← state.kept, all) (IsPermutation-refl now);
      }

-- Where each answer is a function of the value, what is kept is what passes the test.
module _
    {F T : Type 0} (ask : F → T → Bool → F → Type 0) (I : F → Type 0) (test : T → Bool)
    (says : (s : F) (x : T) (b : Bool) (t : F) → I s → ask s x b t → (b ≡ test x) × I t)
  where
    kept_passes :
        (f : F) (asks : List ((ℕ × T) × Bool)) (last : F)
        → I f
        → FoldsTo (λ p a q. ask p a.0.1 a.1 q) f asks last
        → map (λ a. a.0) (filter (λ a. a.1) asks) ≡ filter (λ e. test e.1) (map (λ a. a.0) asks)
    kept_passes f [] last i asked = refl
    kept_passes f (a ∷ asks) last i asked =
        let one = says f a.0.1 a.1 asked.0 i asked.1 in
        let rest = kept_passes asked.0 asks last one.1 asked.2 in
        let asked_kept = filter (λ (a : (ℕ × T) × Bool). a.1) asks in
        let passing = filter (λ (e : ℕ × T). test e.1) (map (λ (a : (ℕ × T) × Bool). a.0) asks) in
        let as_answered : map (λ (a : (ℕ × T) × Bool). a.0) (cond a.1 (a ∷ asked_kept) asked_kept) ≡ cond a.1 (a.0 ∷ passing) passing =
        elim a.1 as (λ b. map (λ (a : (ℕ × T) × Bool). a.0) (cond b (a ∷ asked_kept) asked_kept) ≡ cond b (a.0 ∷ passing) passing) [
          | true ↦ ap (λ es. a.0 ∷ es) rest
          | false ↦ rest
        ] in
        as_answered ∙ ap (λ b. cond b (a.0 ∷ passing) passing) one.0

    pub RetainsPairs-tested :
        (f : F) (old new : List (ℕ × T))
        → I f
        → RetainsPairs ask f old new
        → IsPermutation (filter (λ e. test e.1) old) new
    RetainsPairs-tested f old new i retained =
        let keeps = retained.kept in
        let passed = IsPermutation-filter (λ e. test e.1) _ _ keeps.each_once in
        IsPermutation-trans _ _ _ passed (subst (λ es. IsPermutation es new) (kept_passes f keeps.asks retained.last i keeps.were_asked) keeps.kept)
