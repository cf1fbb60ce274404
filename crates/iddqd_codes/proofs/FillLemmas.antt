-- For callers. A buffer that a loop fills from its start.
use Rattle.std.proofs.Common.{◌≡◌, ◌∙◌, ◌+◌, ◌<◌, ℕ, List, [], ◌∷◌, ◌++◌, length, get_or, slice_set, refl, sym, ap, subst}
use Rattle.std.specs.Prelude.{map, take, drop}
use Rattle.std.proofs.Math.Seq.{set-append_seam}
use Rattle.std.proofs.lemmas.List.{append_assoc, drop_more, length-map, length_push, map_push, take_at}

module _ {X Y : Type 0} (f : X → Y) where
  -- The first `at` places have what `f` gives of the first of these items, and `rest` are the others. The places behind
  -- them are as they were.
  pub record IsFilled (all rest : List X) (at : ℕ) (was now : List Y) : Type 0 where
    pub done : List X
    pub joined : all ≡ done ++ rest
    pub counted : length done ≡ at
    pub filled : now ≡ map f done ++ drop at was

  pub IsFilled-start : (all : List X) (was : List Y) → IsFilled all all 0 was was
  IsFilled-start all was = record { done = []; joined = refl; counted = refl; filled = refl }

  pub IsFilled-step :
      (all rest : List X) (x : X) (at : ℕ) (was now : List Y)
      → IsFilled all (x ∷ rest) at was now
      → at < length was
      → IsFilled all rest (at + 1) was (slice_set now at (f x))
  IsFilled-step all rest x at was now before within =
      let done = before.done in
      let behind = drop (at + 1) was in
      let next : Y = get_or was at (f x) in
      let long : length (map f done) ≡ at = length-map done f ∙ before.counted in
      let opened : now ≡ map f done ++ next ∷ behind = before.filled ∙ ap (λ ys. map f done ++ ys) (drop_more was at (f x) within) in
      let set_there : slice_set now at (f x) ≡ map f done ++ f x ∷ behind =
      ap (λ ys. slice_set ys at (f x)) opened
      ∙ subst (λ n. slice_set (map f done ++ next ∷ behind) n (f x) ≡ map f done ++ f x ∷ behind) long (set-append_seam (map f done) next behind (f x)) in
      record {
        done = done ++ x ∷ [];
        joined = before.joined ∙ sym (append_assoc done (x ∷ []) rest);
        counted = length_push done x ∙ ap (λ n. n + 1) before.counted;
        filled = set_there ∙ sym (ap (λ ys. ys ++ behind) (map_push f done x) ∙ append_assoc (map f done) (f x ∷ []) behind);
      }

  -- a buffer has what `f` gives of the first items, as many as were put there
  pub filled_at :
      (all rest : List X) (at : ℕ) (was now : List Y)
      → IsFilled all rest at was now
      → now ≡ map f (take at all) ++ drop at was
  filled_at all rest at was now is =
      is.filled ∙ ap (λ xs. map f xs ++ drop at was) (sym (ap (take at) is.joined ∙ take_at is.done rest at is.counted))
