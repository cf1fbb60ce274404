-- The values under a hash, as a walk over a list of pairs meets them.
use Rattle.std.proofs.Common.{zero, suc, ⊎_elim, eqb-true, slice_get, eq-eqb, ne_eqb, ◌≡◌, ◌==◌, ℕ, ◌+◌, ◌<◌, ◌≤◌, not, filter, Bool, true, false, List, [], ◌∷◌, ◌++◌, length, take, drop, get_or, Some, refl, sym, ap, subst, ◌∙◌, arith, Contains}
use Rattle.std.proofs.lemmas.List.{length-map, map-append, take_more, drop_more, take-append-drop, append-nil}
use Rattle.std.proofs.lemmas.List.Elements.{filter-append, Contains-append_right, Contains-append_cases}
use Rattle.std.proofs.lemmas.List.Filters.{length-filter_both}
use Rattle.std.proofs.lemmas.List.Sorted.{IsPermutation-refl}
use Rattle.std.proofs.lemmas.Fn.{FoldsTo-push}
use Rattle.std.proofs.lemmas.Option.{slice_get_read}
use Rattle.iddqd_hash.specs.Asks.{AllRefused, Hits, FindsPlace}
use Rattle.iddqd_hash.specs.HashTable.{under}

module _ {T : Type 0} where
  pub under-append : (h : ℕ) (xs ys : List (ℕ × T)) → under h (xs ++ ys) ≡ under h xs ++ under h ys
  under-append h xs ys = rw filter-append (map-append (λ e. e.1) _ _)

  pub under-cons_same : (h k : ℕ) (x : T) (es : List (ℕ × T)) → (k == h) ≡ true → under h ((k, x) ∷ es) ≡ x ∷ under h es
  under-cons_same h k x es same = rw same

  pub under-cons_other : (h k : ℕ) (x : T) (es : List (ℕ × T)) → (k == h) ≡ false → under h ((k, x) ∷ es) ≡ under h es
  under-cons_other h k x es other = rw other

  -- the entries fall into those before a place, the one there, and those after
  pub split_at :
      (es : List (ℕ × T)) (i : ℕ) (d : ℕ × T)
      → i < length es
      → es ≡ take i es ++ get_or es i d ∷ drop (i + 1) es
  split_at es i d within = sym (take-append-drop i es) ∙ ap (λ xs. take i es ++ xs) (drop_more es i d within)

  pub under_at :
      (h : ℕ) (es : List (ℕ × T)) (i : ℕ) (d : ℕ × T)
      → i < length es
      → ((get_or es i d).0 == h) ≡ true
      → under h es ≡ under h (take i es) ++ (get_or es i d).1 ∷ under h (drop (i + 1) es)
  under_at h es i d within same =
      ap (under h) (split_at es i d within)
      ∙ under-append h (take i es) (get_or es i d ∷ drop (i + 1) es)
      ∙ ap (λ xs. under h (take i es) ++ xs) (under-cons_same h _ _ _ same)

  pub under_more_same :
      (h : ℕ) (es : List (ℕ × T)) (i : ℕ) (d : ℕ × T)
      → i < length es
      → ((get_or es i d).0 == h) ≡ true
      → under h (take (i + 1) es) ≡ under h (take i es) ++ (get_or es i d).1 ∷ []
  under_more_same h es i d within same =
      ap (under h) (take_more es i d within)
      ∙ under-append h (take i es) (get_or es i d ∷ [])
      ∙ ap (λ xs. under h (take i es) ++ xs) (under-cons_same h _ _ [] same)

  pub under_more_other :
      (h : ℕ) (es : List (ℕ × T)) (i : ℕ) (d : ℕ × T)
      → i < length es
      → ((get_or es i d).0 == h) ≡ false
      → under h (take (i + 1) es) ≡ under h (take i es)
  under_more_other h es i d within other =
      ap (under h) (take_more es i d within)
      ∙ under-append h (take i es) (get_or es i d ∷ [])
      ∙ ap (λ xs. under h (take i es) ++ xs) (under-cons_other h _ _ [] other)
      ∙ append-nil _

  -- a pair read at a place, whose hash is the one asked for
  module _ (h : ℕ) (es : List (ℕ × T)) (i : ℕ) (e : ℕ × T) (within : i < length es) (read : e ≡ get_or es i e) where
    pub under_read : e.0 ≡ h → under h es ≡ under h (take i es) ++ e.1 ∷ under h (drop (i + 1) es)
    under_read same =
        let there : ((get_or es i e).0 == h) ≡ true = eq-eqb _ h (ap (λ p. p.0) (sym read) ∙ same) in
        under_at h es i e within there ∙ ap (λ p. under h (take i es) ++ p.1 ∷ under h (drop (i + 1) es)) (sym read)

    pub under_read_more : e.0 ≡ h → under h (take (i + 1) es) ≡ under h (take i es) ++ e.1 ∷ []
    under_read_more same =
        let there : ((get_or es i e).0 == h) ≡ true = eq-eqb _ h (ap (λ p. p.0) (sym read) ∙ same) in
        under_more_same h es i e within there ∙ ap (λ p. under h (take i es) ++ p.1 ∷ []) (sym read)

    pub under_read_other : (e.0 ≡ h → ⊥) → under h (take (i + 1) es) ≡ under h (take i es)
    under_read_other other =
        let there : ((get_or es i e).0 == h) ≡ false = ne_eqb _ h (λ same. other (ap (λ p. p.0) read ∙ same)) in
        under_more_other h es i e within there

    pub Contains-read : e.0 ≡ h → Contains (under h es) e.1
    Contains-read same =
        subst (λ xs. Contains xs e.1) (sym (under_read same)) (Contains-append_right (under h (take i es)) _ _ (0, omega arith, refl))

    module _ {F : Type 0} (ask : F → T → Bool → F → Type 0) (f before last : F) where
      pub Hits-read :
          e.0 ≡ h
          → AllRefused ask f (under h (take i es)) before
          → ask before e.1 true last
          → Hits ask f (under h es) e.1
      Hits-read same refused called =
          record {
            refused = under h (take i es);
            unasked = under h (drop (i + 1) es);
            each_once = rw (under_read same) (IsPermutation-refl _);
            before = before;
            were_refused = refused;
            last = last;
            accepted = called;
          }

      pub AllRefused-read :
          e.0 ≡ h
          → AllRefused ask f (under h (take i es)) before
          → ask before e.1 false last
          → AllRefused ask f (under h (take (i + 1) es)) last
      AllRefused-read same refused called =
          rw (under_read_more same) (FoldsTo-push _ f _ before e.1 last refused called)

      pub FindsPlace-read :
          e.0 ≡ h
          → AllRefused ask f (under h (take i es)) before
          → ask before e.1 true last
          → FindsPlace ask f h (under h es) (slice_get es) (Some i)
      FindsPlace-read same refused called =
          record {
            value = e.1;
            is_pair = slice_get_read es (length es) i e refl within read ∙ ap (λ hash. Some (hash, e.1)) same;
            hit = Hits-read same refused called;
          }

-- no more values stand under a hash than there are pairs
pub under_few : {T : Type 0} (hash : ℕ) (es : List (ℕ × T)) → length (under hash es) ≤ length es
under_few {T} hash es =
    let parts : length (filter (λ e. e.0 == hash) es) + length (filter (λ e. not (e.0 == hash)) es) ≡ length es =
    length-filter_both (λ (e : ℕ × T). e.0 == hash) (λ e. not (e.0 == hash)) (λ e. refl) es in
    omega (arith, parts, length-map (filter (λ e. e.0 == hash) es) (λ (e : ℕ × T). e.1))

Contains-singleton : {X : Type 0} (y x : X) → Contains (y ∷ []) x → y ≡ x
Contains-singleton y x (zero, within, is) = is
Contains-singleton y x (suc k, within, is) = absurd (omega arith)

-- a value that stands under a hash stands there with it
pub Contains-under : {T : Type 0} (h : ℕ) (es : List (ℕ × T)) (v : T) → Contains (under h es) v → Contains es (h, v)
Contains-under h [] v (k, within, is) = absurd (omega arith)
Contains-under {T} h (e ∷ es) v here =
    elim (e.0 == h) as (λ b. (e.0 == h) ≡ b → Contains (under h (e ∷ es)) v → Contains (e ∷ es) (h, v)) [
      | true ↦ λ same here.
          let split : Contains (e.1 ∷ under h es) v = rw same at here in
          ⊎_elim (λ (first : Contains (e.1 ∷ []) v). let is : e ≡ (h, v) = λ i. ((eqb-true e.0 h same) i, (Contains-singleton e.1 v first) i) in subst (λ x. Contains (e ∷ es) x) is (0, omega arith, refl))
          (λ rest. Contains-append_right (e ∷ []) es (h, v) (Contains-under h es v rest))
          (Contains-append_cases (e.1 ∷ []) (under h es) v split)
      | false ↦ λ other here.
          let rest : Contains (under h es) v = rw other at here in
          Contains-append_right (e ∷ []) es (h, v) (Contains-under h es v rest)
    ] refl here
