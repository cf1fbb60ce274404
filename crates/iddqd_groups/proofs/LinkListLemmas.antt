-- The indexes of a list of links, as a walk over its places meets them.
use Rattle.std.proofs.Common.{◌≡◌, ◌<◌, ◌≤◌, ◌+◌, ◌==◌, ◌∙◌, ℕ, suc, true, false, cond, List, [], ◌∷◌, ◌++◌, length, length-take, map, take, take_all, IsSome, append-nil, refl, sym, ap, arith, eq-eqb, ne_eqb}
use Rattle.std.specs.FinMap as finite
use Rattle.std.proofs.lemmas.List.{take_more}
use Rattle.iddqd_hash.proofs.MemberLemmas.{filed_at}
use Rattle.iddqd_hash.specs.MapHashTable.{indexes_of}
use Rattle.iddqd_groups.specs.Links.{absent_link, hashed_from, filed_by, prev_of}
use Rattle.iddqd_groups.specs.declared.linked_table.links.Link.{Link}
use Rattle.iddqd_groups.proofs.LinksLemmas.{before, link_at, entries-filed_by, filed_where, present}

-- the indexes that the links have, where the first one's has this number
abbrev pub listed_from : ℕ → List Link → List ℕ
listed_from at links = map (λ (e : ℕ × ℕ). e.0) (hashed_from at links)

-- a link more adds its index, if that is in the table
listed_push :
    (at : ℕ) (links : List Link) (link : Link) (ix : ℕ)
    → ix ≡ at + length links
    → listed_from at (links ++ link ∷ []) ≡ listed_from at links ++ cond (link.prev == ix) [] (ix ∷ [])
listed_push at [] link ix is =
    elim (link.prev == at) as (λ b. map (λ (e : ℕ × ℕ). e.0) (cond b [] ((at, link.hash) ∷ [])) ≡ cond b [] (at ∷ [])) [
      | true ↦ refl
      | false ↦ refl
    ]
    ∙ ap (λ i. cond (link.prev == i) [] (i ∷ [])) (let same : at ≡ ix = omega arith in same)
listed_push at (first ∷ links) link ix is =
    let rest = listed_push (suc at) links link ix (omega arith) in
    let last = cond (link.prev == ix) [] (ix ∷ []) in
    elim (first.prev == at) as (λ b. map (λ (e : ℕ × ℕ). e.0)
    (before b at first (hashed_from (suc at) (links ++ link ∷ [])))
    ≡ map (λ (e : ℕ × ℕ). e.0) (before b at first (hashed_from (suc at) links)) ++ last) [
      | true ↦ rest
      | false ↦ ap (λ (l : List ℕ). at ∷ l) rest
    ]

listed_more :
    (links : List Link) (k : ℕ)
    → k < length links
    → listed_from 0 (take (k + 1) links) ≡ listed_from 0 (take k links) ++ cond (prev_of links k == k) [] (k ∷ [])
listed_more links k within =
    ap (listed_from 0) (take_more links k (absent_link k) within)
    ∙ listed_push 0 (take k links) (link_at links k) k (omega (arith, length-take k links))

pub listed_with :
    (links : List Link) (k : ℕ)
    → k < length links
    → IsSome (finite.get (filed_by links) k)
    → listed_from 0 (take (k + 1) links) ≡ listed_from 0 (take k links) ++ k ∷ []
listed_with links k within here =
    listed_more links k within
    ∙ ap (λ b. listed_from 0 (take k links) ++ cond b [] (k ∷ [])) (ne_eqb (prev_of links k) k (present links k here))

pub listed_without :
    (links : List Link) (k : ℕ)
    → k < length links
    → (IsSome (finite.get (filed_by links) k) → ⊥)
    → listed_from 0 (take (k + 1) links) ≡ listed_from 0 (take k links)
listed_without links k within gone =
    listed_more links k within
    ∙ ap (λ b. listed_from 0 (take k links) ++ cond b [] (k ∷ [])) back
    ∙ append-nil (listed_from 0 (take k links))
  where
    back : (prev_of links k == k) ≡ true
    back =
        elim (prev_of links k == k) as (λ b. (prev_of links k == k) ≡ b → b ≡ true) [
          | true ↦ λ _. refl
          | false ↦
              λ is. absurd (gone (filed_at _ _ (filed_where links k
              (λ same. absurd (let never : false ≡ true = sym is ∙ eq-eqb (prev_of links k) k same in cc)))))
        ] refl

pub listed_all :
    (links : List Link) (k : ℕ)
    → length links ≤ k
    → listed_from 0 (take k links) ≡ indexes_of (filed_by links)
listed_all links k whole =
    ap (listed_from 0) (take_all k links whole)
    ∙ ap (λ (es : List (ℕ × ℕ)). map (λ (e : ℕ × ℕ). e.0) es) (sym (entries-filed_by links))
