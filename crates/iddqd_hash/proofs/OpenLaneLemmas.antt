-- Of sixteen tags, which are empty or have a tag, and which are not full.
use Rattle.std.proofs.Common.{◌≡◌, ◌==◌, ◌%◌, ◌^◌, ◌||◌, ◌≤◌, ◌<◌, leb, leb-false, ltb, ltb-false, ℕ, Bool, true, false, cond, List, [], ◌∷◌, map, length, refl, bit_or, arith}
use Rattle.std.specs.Prelude.{replicate}
use Rattle.std.proofs.lemmas.List.{length-map}
use Rattle.std.proofs.lemmas.Simd.{zip2_splat, zip2_splat_left, zip2-map, map-map, mask_l-mod}
use lib.Lanes.{zip2, mask_l, top}
use Rattle.iddqd_hash.specs.OpenTable.{is_stop}
use Rattle.iddqd_hash.specs.OpenWalk.{is_full}

abbrev pub same : ℕ → ℕ → ℕ
same a b = cond (a == b) 255 0

top_joined : (p q : Bool) → top 7 (bit_or (cond p 255 0) (cond q 255 0)) ≡ (p || q)
top_joined true true = refl
top_joined true false = refl
top_joined false true = refl
top_joined false false = refl

tops : (tag : ℕ) (v : List ℕ) → map (λ x. top 7 (bit_or (same x tag) (same x 0))) v ≡ map (is_stop tag) v
tops tag [] = refl
tops tag (x ∷ v) = rw (top_joined (x == tag) (x == 0), tops tag v) refl

pub stops_mask :
    (v : List ℕ) (tag : ℕ)
    → length v ≡ 16
    → mask_l (map (top 7) (zip2 bit_or (zip2 same v (replicate 16 tag)) (zip2 same v (replicate 16 0)))) % 2 ^ 64 ≡
    mask_l (map (is_stop tag) v)
stops_mask v tag long =
    rw (zip2_splat same v 16 tag long, zip2_splat same v 16 0 long, zip2-map bit_or (λ x. same x tag) (λ x. same x 0) v, map-map, tops tag v)
    (mask_l-mod (map (is_stop tag) v) 64 (omega (arith, length-map v (is_stop tag))))

-- whether no pair stands in a cell with this tag
abbrev pub is_free : ℕ → Bool
is_free tag = ltb tag 128

abbrev pub less : ℕ → ℕ → ℕ
less a b = cond (ltb a b) 255 0

top_kept : (p : Bool) → top 7 (cond p 255 0) ≡ p
top_kept true = refl
top_kept false = refl

free_tops : (v : List ℕ) → map (λ x. top 7 (less x 128)) v ≡ map is_free v
free_tops [] = refl
free_tops (x ∷ v) = rw (top_kept (ltb x 128), free_tops v) refl

pub free_mask :
    (v : List ℕ)
    → length v ≡ 16
    → mask_l (map (top 7) (zip2 less v (replicate 16 128))) % 2 ^ 64 ≡ mask_l (map is_free v)
free_mask v long =
    rw (zip2_splat less v 16 128 long, map-map, free_tops v) (mask_l-mod (map is_free v) 64 (omega (arith, length-map v is_free)))

pub not_free : (tag : ℕ) → is_free tag ≡ false → 128 ≤ tag
not_free tag is = ltb-false tag 128 is

abbrev pub at_most : ℕ → ℕ → ℕ
at_most a b = cond (leb a b) 255 0

full_tops : (v : List ℕ) → map (λ x. top 7 (at_most 128 x)) v ≡ map is_full v
full_tops [] = refl
full_tops (x ∷ v) = rw (top_kept (is_full x), full_tops v) refl

pub full_mask :
    (v : List ℕ)
    → length v ≡ 16
    → mask_l (map (top 7) (zip2 at_most (replicate 16 128) v)) % 2 ^ 64 ≡ mask_l (map is_full v)
full_mask v long =
    rw (zip2_splat_left at_most 128 16 v long, map-map, full_tops v) (mask_l-mod (map is_full v) 64 (omega (arith, length-map v is_full)))

pub not_full : (tag : ℕ) → is_full tag ≡ false → tag < 128
not_full tag is = leb-false 128 tag is
