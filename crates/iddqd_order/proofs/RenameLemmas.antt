-- For callers too. What a list of indexes keeps where each of them gets a new name.
use Rattle.iddqd_order.proofs.Names.{◌≡◌, ◌≢◌, ◌∙◌, ℕ, ◌<◌, List, length, map, get_or, Contains, nat_eq, ne_eqb, inl, inr, sym, ap, arith, cases_lt, eqb-false, IsDistinct, get_or-map, length-map, All-map, Contains-get_or, apart_from_distinct, IsDistinct-from_apart, CanRemap, remapped, IndexRemap, Identity, Permuted, IsIndexList, sentinel}

module _ (name : ℕ → ℕ) (xs : List ℕ) where
  -- the new name of a member is a member
  pub Contains-map : (ix : ℕ) → Contains xs ix → Contains (map name xs) (name ix)
  Contains-map ix h =
      (h.0, omega (arith, length-map xs name, h.1), get_or-map name xs h.0 ix (name ix) h.1 ∙ ap name h.2)

  -- and each member is the new name of one
  pub Contains-from_map : (at : ℕ) → Contains (map name xs) at → (ix : ℕ) × Contains xs ix × (name ix ≡ at)
  Contains-from_map at h =
      let within : h.0 < length xs = omega (arith, length-map xs name, h.1) in
      (get_or xs h.0 0, Contains-get_or xs h.0 0 within, sym (get_or-map name xs h.0 0 at within) ∙ h.2)

  -- distinct indexes have distinct new names where no two of them share one
  pub IsDistinct-map :
      ((i j : ℕ) → Contains xs i → Contains xs j → name i ≡ name j → i ≡ j)
      → IsDistinct nat_eq xs
      → IsDistinct nat_eq (map name xs)
  IsDistinct-map one distinct =
      IsDistinct-from_apart nat_eq (map name xs) (λ i j d lt in_new.
      let within : j < length xs = omega (arith, length-map xs name) in
      let lower : i < length xs = omega arith in
      let apart = apart_from_distinct nat_eq xs i j d distinct lt within in
      rw (get_or-map name xs i d d lower, get_or-map name xs j d d within)
      (ne_eqb _ _ (λ e. eqb-false _ _ apart (one _ _ (Contains-get_or xs i d lower) (Contains-get_or xs j d within) e))))

-- names that rise with their indexes are never shared
pub unshared-from_rising :
    (name : ℕ → ℕ) (xs : List ℕ)
    → ((i j : ℕ) → Contains xs i → Contains xs j → i < j → name i < name j)
    → (i j : ℕ)
    → Contains xs i
    → Contains xs j
    → name i ≡ name j
    → i ≡ j
unshared-from_rising name xs rises i j has_i has_j same =
    elim (cases_lt i j) [
      | inl low ↦ (let up = rises i j has_i has_j low in absurd (omega (arith, same, up)))
      | inr high ↦
          elim (cases_lt j i) [
            | inl low ↦ (let up = rises j i has_j has_i low in absurd (omega (arith, same, up)))
            | inr low ↦ omega arith
          ]
    ]

-- a new name is never `SENTINEL`
assigned-remapped : (remap : IndexRemap) (ix : ℕ) → ix ≢ sentinel → CanRemap remap ix → remapped remap ix ≢ sentinel
assigned-remapped Identity ix assigned can = assigned
assigned-remapped (Permuted names) ix assigned can = can.1

-- a list of distinct indexes stays so under a remap that gives each its own name
pub IsIndexList-remapped :
    (remap : IndexRemap) (xs : List ℕ)
    → ((ix : ℕ) → Contains xs ix → CanRemap remap ix)
    → ((i j : ℕ) → Contains xs i → Contains xs j → remapped remap i ≡ remapped remap j → i ≡ j)
    → IsIndexList xs
    → IsIndexList (map (remapped remap) xs)
IsIndexList-remapped remap xs can one h = record {
  distinct = IsDistinct-map (remapped remap) xs one h.distinct;
  assigned =
      All-map (λ ix. ix ≢ sentinel) (remapped remap) xs
      (λ k d within. assigned-remapped remap _ (h.assigned k d within) (can _ (Contains-get_or xs k d within)));
}
