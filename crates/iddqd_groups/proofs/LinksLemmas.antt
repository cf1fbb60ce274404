-- What a list of links says of the hash of each index, and what it says after a step.
use Rattle.std.proofs.Common.{◌≡◌, ◌≢◌, ◌<◌, ◌≤◌, ◌+◌, ◌==◌, ◌∙◌, inl, inr, ◌&&◌, nat_eq, ℕ, zero, suc, Bool, true, false, cond, List, [], ◌∷◌, ◌++◌, length, take, map, Option, Some, None, IsSome, if◌then◌else◌, slice_index_or, slice_set, refl, sym, ap, subst, arith, T as Holds, eq-eqb, ne_eqb, get_or-set_same, get_or-set_other, get_or-take, length-append, length-take, ◌-◌}
use Rattle.std.specs.Ordering.{nat_cmp, eq_by_cmp, is_lt}
use Rattle.std.specs.declared.cmp.Ordering.TheVariants.{Less}
use Rattle.std.specs.Cmp.{nat_cmp_is, nat_eq_equiv, unsigned_tied}
use Rattle.std.specs.List.{list_any, IsDistinct}
use Rattle.std.specs.Map.{lookup}
use Rattle.std.specs.FinMap as finite
use Rattle.std.specs.FinMap.{FinMap}
use Rattle.std.specs.FinMap.Entries.{find, is_sorted, below_all}
use Rattle.std.proofs.lemmas.Bool.{cases_eq, cases_lt}
use Rattle.std.proofs.lemmas.Cmp.{nat_cmp_total}
use Rattle.std.proofs.lemmas.Map.Steps.{length-le_from_keys}
use Rattle.std.proofs.lemmas.List.{length-map, get_or_default, get_or_past, get_or_append_left, get_or-append_right}
use Rattle.iddqd_hash.proofs.MemberLemmas.{get-insert_at, get-insert_other, get-remove_at, get-remove_other}
use Rattle.iddqd_by_hash.proofs.HashedCountLemmas.{sorted_apart}
use Rattle.iddqd_groups.specs.Links.{absent_link, hashed_from, filed_by, next_of, prev_of}
use Rattle.iddqd_groups.specs.declared.linked_table.links.Link.{Link}

-- the link of a slot, also past the end
abbrev pub link_at : List Link → ℕ → Link
link_at links ix = slice_index_or links ix (absent_link ix)

-- the hash that a link gives its index, if that is in the table
abbrev pub hash_in : Link → ℕ → Option ℕ
hash_in link ix = if link.prev == ix then None else Some link.hash

-- what an index adds before the rest, by whether its link leads back to it
abbrev pub before : Bool → ℕ → Link → List (ℕ × ℕ) → List (ℕ × ℕ)
before back ix link rest = cond back rest ((ix, link.hash) ∷ rest)

tied : (x y : ℕ) → x ≡ y → eq_by_cmp nat_cmp x y ≡ true
tied x y same = unsigned_tied x y ∙ eq-eqb x y same

untied : (x y : ℕ) → x ≢ y → eq_by_cmp nat_cmp x y ≡ false
untied x y other = unsigned_tied x y ∙ ne_eqb x y other

-- the indexes rise
below_hashed :
    (x at : ℕ) (links : List Link)
    → x < at
    → Holds (below_all nat_cmp x (hashed_from at links))
below_hashed x at [] less = tt
below_hashed x at (link ∷ links) less =
    let rest = below_hashed x (suc at) links (omega arith) in
    elim (link.prev == at) as (λ b. Holds (below_all nat_cmp x (before b at link (hashed_from (suc at) links)))) [
      | true ↦ rest
      | false ↦
          subst (λ r. Holds (is_lt r && below_all nat_cmp x (hashed_from (suc at) links)))
          (nat_cmp_is x at Less less) rest
    ]

both : (a b : Bool) → Holds a → Holds b → Holds (a && b)
both true b p q = q
both false b p q = p

sorted-hashed : (at : ℕ) (links : List Link) → Holds (is_sorted nat_cmp (hashed_from at links))
sorted-hashed at [] = tt
sorted-hashed at (link ∷ links) =
    let rest = sorted-hashed (suc at) links in
    elim (link.prev == at) as (λ b. Holds (is_sorted nat_cmp (before b at link (hashed_from (suc at) links)))) [
      | true ↦ rest
      | false ↦ both _ _ (below_hashed at (suc at) links (omega arith)) rest
    ]

not_before :
    (q at : ℕ) (links : List Link)
    → q < at
    → find nat_cmp q (hashed_from at links) ≡ None
not_before q at [] less = refl
not_before q at (link ∷ links) less =
    let rest = not_before q (suc at) links (omega arith) in
    elim (link.prev == at) as (λ b. find nat_cmp q (before b at link (hashed_from (suc at) links)) ≡ None) [
      | true ↦ rest
      | false ↦
          ap (λ b. cond b (Some link.hash) (find nat_cmp q (hashed_from (suc at) links))) (untied q at (omega arith))
          ∙ rest
    ]

find-hashed :
    (q at k : ℕ) (links : List Link)
    → q ≡ at + k
    → find nat_cmp q (hashed_from at links) ≡ hash_in (slice_index_or links k (absent_link q)) q
find-hashed q at k [] is = sym (ap (λ b. cond b None (Some 0)) (eq-eqb q q refl))
find-hashed q at zero (link ∷ links) is =
    let same : q ≡ at = omega arith in
    elim (link.prev == at) as (λ b. find nat_cmp q (before b at link (hashed_from (suc at) links))
    ≡ cond b None (Some link.hash)) [
      | true ↦ not_before q (suc at) links (omega arith)
      | false ↦ ap (λ b. cond b (Some link.hash) (find nat_cmp q (hashed_from (suc at) links))) (tied q at same)
    ]
    ∙ ap (λ i. hash_in link i) (sym same)
find-hashed q at (suc k) (link ∷ links) is =
    elim (link.prev == at) as (λ b. find nat_cmp q (before b at link (hashed_from (suc at) links))
    ≡ find nat_cmp q (hashed_from (suc at) links)) [
      | true ↦ refl
      | false ↦
          ap (λ b. cond b (Some link.hash) (find nat_cmp q (hashed_from (suc at) links))) (untied q at (omega arith))
    ]
    ∙ find-hashed q (suc at) k links (omega arith)

-- the hash of an index is that of its link, and none past the end or where the link leads back to the index
pub get-filed_by : (links : List Link) (ix : ℕ) → finite.get (filed_by links) ix ≡ hash_in (link_at links ix) ix
unfolding filed_by
get-filed_by links ix =
    finite.get-from_sorted nat_cmp (hashed_from 0 links) ix (sorted-hashed 0 links)
    ∙ find-hashed ix 0 ix links (omega arith)

pub entries-filed_by : (links : List Link) → finite.entries (filed_by links) ≡ hashed_from 0 links
unfolding filed_by
entries-filed_by links = finite.entries-from_sorted nat_cmp (hashed_from 0 links) (sorted-hashed 0 links)

-- what has these hashes is the map of the links
pub filed_by-is :
    (links : List Link) (m : FinMap nat_cmp ℕ)
    → ((ix : ℕ) → hash_in (link_at links ix) ix ≡ finite.get m ix)
    → filed_by links ≡ m
filed_by-is links m same =
    finite.same_map nat_cmp_total finite.nat_cmp-IsAntisymmetric (filed_by links) m
    (λ ix. get-filed_by links ix ∙ same ix)

-- an index whose link leads elsewhere is in the table, with the hash of its link, and no other is
pub filed_where :
    (links : List Link) (ix : ℕ)
    → prev_of links ix ≢ ix
    → finite.get (filed_by links) ix ≡ Some (link_at links ix).hash
filed_where links ix other =
    get-filed_by links ix ∙ ap (λ b. cond b None (Some (link_at links ix).hash)) (ne_eqb (prev_of links ix) ix other)

pub unfiled_where :
    (links : List Link) (ix : ℕ)
    → prev_of links ix ≡ ix
    → finite.get (filed_by links) ix ≡ None
unfiled_where links ix same =
    get-filed_by links ix ∙ ap (λ b. cond b None (Some (link_at links ix).hash)) (eq-eqb (prev_of links ix) ix same)

pub present : (links : List Link) (ix : ℕ) → IsSome (finite.get (filed_by links) ix) → prev_of links ix ≢ ix
present links ix here same = absurd (let never = rw (unfiled_where links ix same) at here in cc)

pub hash_of_link :
    (links : List Link) (ix : ℕ)
    → IsSome (finite.get (filed_by links) ix)
    → finite.get (filed_by links) ix ≡ Some (link_at links ix).hash
hash_of_link links ix here = filed_where links ix (present links ix here)

pub below-filed_by :
    (links : List Link) (ix : ℕ)
    → IsSome (finite.get (filed_by links) ix)
    → ix < length links
below-filed_by links ix here =
    elim (cases_lt ix (length links)) [
      | inl within ↦ within
      | inr past ↦
          absurd (present links ix here (ap (λ (link : Link). link.prev) (get_or_past links ix (absent_link ix) past)))
    ]

-- what is read at a place of the list is the link of that index
pub link_read :
    (links : List Link) (place ix : ℕ) (link : Link)
    → place ≡ ix
    → ix < length links
    → link ≡ slice_index_or links place link
    → link ≡ link_at links ix
link_read links place ix link same within is =
    is
    ∙ get_or_default links place link (absent_link ix) (omega arith)
    ∙ ap (λ i. slice_index_or links i (absent_link ix)) same

-- Links of which one was written: it is this one, and the others are as they were.
pub record IsPut (old : List Link) (ix : ℕ) (link : Link) (new : List Link) : Type 0 where
  pub at : link_at new ix ≡ link
  pub others : (j : ℕ) → j ≢ ix → link_at new j ≡ link_at old j

pub IsPut-set :
    (links : List Link) (place ix : ℕ) (link : Link)
    → place ≡ ix
    → ix < length links
    → IsPut links ix link (slice_set links place link)
IsPut-set links place ix link same within =
    subst (λ i. IsPut links ix link (slice_set links i link)) (sym same) (record {
      at = get_or-set_same links ix link (absent_link ix) within;
      others = λ j other. get_or-set_other links ix j link (absent_link j) other;
    })

pub IsPut-push :
    (links : List Link) (ix : ℕ) (link : Link)
    → ix ≡ length links
    → IsPut links ix link (links ++ link ∷ [])
IsPut-push links ix link last = record {
  at = pushed_at (length links) refl ix last;
  others = λ j other.
      elim (cases_lt j (length links)) [
        | inl within ↦ get_or_append_left links (link ∷ []) (absent_link j) j within
        | inr past ↦
            get_or_past (links ++ link ∷ []) j (absent_link j) (omega (arith, length-append links (link ∷ [])))
            ∙ sym (get_or_past links j (absent_link j) past)
      ];
}
  where
    pushed_at : (n : ℕ) → length links ≡ n → (i : ℕ) → i ≡ n → link_at (links ++ link ∷ []) i ≡ link
    pushed_at n size i same =
        get_or-append_right links (link ∷ []) n i (absent_link i) size (omega arith)
        ∙ ap (λ k. slice_index_or (link ∷ []) k (absent_link i)) (let none : i - n ≡ 0 = omega arith in none)

module _ {old : List Link} {ix : ℕ} {link : Link} {new : List Link} (put : IsPut old ix link new) where
  -- what the links have of each index, by a part of it
  by_part :
      {X : Type 0} (part : Link → X)
      → (j : ℕ)
      → part (link_at new j) ≡ (if j == ix then part link else part (link_at old j))
  by_part part j =
      elim (cases_eq j ix) [
        | inl same ↦ ap part (subst (λ i. link_at new i ≡ link) (sym same) put.at)
            ∙ sym (ap (λ b. cond b (part link) (part (link_at old j))) (eq-eqb j ix same))
        | inr other ↦ ap part (put.others j other)
            ∙ sym (ap (λ b. cond b (part link) (part (link_at old j))) (ne_eqb j ix other))
      ]

  pub next-put : (j : ℕ) → next_of new j ≡ (if j == ix then link.next else next_of old j)
  next-put j = by_part (λ l. l.next) j

  pub prev-put : (j : ℕ) → prev_of new j ≡ (if j == ix then link.prev else prev_of old j)
  prev-put j = by_part (λ l. l.prev) j

  -- the map after it, from what it has at this index and at the others
  filed_from :
      (m : FinMap nat_cmp ℕ)
      → hash_in link ix ≡ finite.get m ix
      → ((j : ℕ) → j ≢ ix → finite.get (filed_by old) j ≡ finite.get m j)
      → filed_by new ≡ m
  filed_from m at others =
      filed_by-is new m (λ j. elim (cases_eq j ix) [
        | inl same ↦
            subst (λ i. hash_in (link_at new i) i ≡ finite.get m i) (sym same) (ap (λ l. hash_in l ix) put.at ∙ at)
        | inr other ↦ ap (λ l. hash_in l j) (put.others j other) ∙ sym (get-filed_by old j) ∙ others j other
      ])

  -- the link leads elsewhere: its index is in the table
  pub filed-put : link.prev ≢ ix → filed_by new ≡ finite.insert (filed_by old) ix link.hash
  filed-put elsewhere =
      filed_from (finite.insert (filed_by old) ix link.hash)
      (ap (λ b. cond b None (Some link.hash)) (ne_eqb link.prev ix elsewhere)
      ∙ sym (get-insert_at (filed_by old) ix link.hash))
      (λ j other. sym (get-insert_other (filed_by old) ix link.hash j other))

  -- it leads back to its index: that isn't in the table
  pub filed-taken : link.prev ≡ ix → filed_by new ≡ finite.remove (filed_by old) ix
  filed-taken back =
      filed_from (finite.remove (filed_by old) ix)
      (ap (λ b. cond b None (Some link.hash)) (eq-eqb link.prev ix back) ∙ sym (get-remove_at (filed_by old) ix))
      (λ j other. sym (get-remove_other (filed_by old) ix j other))

  -- it gives its index what that had
  pub filed-kept : hash_in link ix ≡ hash_in (link_at old ix) ix → filed_by new ≡ filed_by old
  filed-kept same = filed_from (filed_by old) (same ∙ sym (get-filed_by old ix)) (λ j other. refl)

  -- it leads elsewhere, as before, under the hash that its index had
  pub filed-kept_hash :
      IsSome (finite.get (filed_by old) ix)
      → link.prev ≢ ix
      → link.hash ≡ (link_at old ix).hash
      → filed_by new ≡ filed_by old
  filed-kept_hash here elsewhere same =
      filed_from (filed_by old)
      (ap (λ b. cond b None (Some link.hash)) (ne_eqb link.prev ix elsewhere) ∙ ap Some same
      ∙ sym (hash_of_link old ix here))
      (λ j other. refl)

-- where only the next index was named anew, the previous ones stay, and the other way round
pub same_part :
    {X : Type 0} (part : Link → X) (links : List Link) (ix j : ℕ)
    → (if j == ix then part (link_at links ix) else part (link_at links j)) ≡ part (link_at links j)
same_part part links ix j =
    elim (cases_eq j ix) [
      | inl same ↦ ap (λ b. cond b (part (link_at links ix)) (part (link_at links j))) (eq-eqb j ix same)
          ∙ ap (λ i. part (link_at links i)) (sym same)
      | inr other ↦ ap (λ b. cond b (part (link_at links ix)) (part (link_at links j))) (ne_eqb j ix other)
    ]

-- no links: no index is in the table
pub filed_by-none : filed_by [] ≡ finite.empty
filed_by-none =
    filed_by-is [] finite.empty (λ ix. ap (λ b. cond b None (Some 0)) (eq-eqb ix ix refl)
    ∙ sym (finite.get-empty nat_cmp ix))

-- the first links have the indexes below their number, so all of them where each is
pub link_at-take :
    (n : ℕ) (links : List Link) (ix : ℕ)
    → ix < n
    → link_at (take n links) ix ≡ link_at links ix
link_at-take n links ix below = get_or-take n links ix (absent_link ix) below

pub filed_by-take :
    (n : ℕ) (links : List Link)
    → ((ix : ℕ) → IsSome (finite.get (filed_by links) ix) → ix < n)
    → filed_by (take n links) ≡ filed_by links
filed_by-take n links below =
    filed_by-is (take n links) (filed_by links) (λ ix. elim (cases_lt ix n) [
      | inl within ↦ ap (λ l. hash_in l ix) (link_at-take n links ix within) ∙ sym (get-filed_by links ix)
      | inr past ↦
          ap (λ l. hash_in l ix) (get_or_past (take n links) ix (absent_link ix) (omega (arith, length-take n links)))
          ∙ ap (λ b. cond b None (Some 0)) (eq-eqb ix ix refl)
          ∙ sym (none_past ix past)
    ])
  where
    none_past : (ix : ℕ) → n ≤ ix → finite.get (filed_by links) ix ≡ None
    none_past ix past =
        elim (finite.get (filed_by links) ix) as (λ o. finite.get (filed_by links) ix ≡ o → o ≡ None) [
          | Some hash ↦ λ is. absurd (let within = below ix (rw is refl) in omega (arith, within))
          | None ↦ λ _. refl
        ] refl

length-hashed : (at : ℕ) (links : List Link) → length (hashed_from at links) ≤ length links
length-hashed at [] = omega arith
length-hashed at (link ∷ links) =
    let rest = length-hashed (suc at) links in
    elim (link.prev == at) as (λ b. length (before b at link (hashed_from (suc at) links)) ≤ suc (length links)) [
      | true ↦ omega arith
      | false ↦ omega arith
    ]

pub length-filed_by : (links : List Link) → finite.len (filed_by links) ≤ length links
length-filed_by links =
    rw (finite.len-entries (filed_by links), entries-filed_by links) (length-hashed 0 links)

-- the two tests of an index are one
one_test : (q : ℕ) → eq_by_cmp nat_cmp q ≡ nat_eq q
one_test q = λ i x. unsigned_tied q x i

looked_up : (q : ℕ) (es : List (ℕ × ℕ)) → find nat_cmp q es ≡ lookup (eq_by_cmp nat_cmp q) es
looked_up q [] = refl
looked_up q (e ∷ es) = ap (cond (eq_by_cmp nat_cmp q e.0) (Some e.1)) (looked_up q es)

-- distinct indexes of a map are no more than it has
pub length-filed :
    (indexes : List ℕ) (m : FinMap nat_cmp ℕ)
    → IsDistinct nat_eq indexes
    → ((ix : ℕ) → list_any (nat_eq ix) indexes ≡ true → IsSome (finite.get m ix))
    → length indexes ≤ finite.len m
length-filed indexes m apart within =
    let entries = finite.entries m in
    let fewer : length indexes ≤ length entries = length-le_from_keys nat_eq_equiv indexes entries apart has in
    omega (arith, fewer, finite.len-entries m)
  where
    has : (q : ℕ) → list_any (nat_eq q) indexes ≡ true → IsSome (lookup (nat_eq q) (finite.entries m))
    has q listed =
        let found =
        finite.get-entries m q
        ∙ looked_up q (finite.entries m)
        ∙ ap (λ test. lookup test (finite.entries m)) (one_test q) in
        subst IsSome found (within q listed)

-- a map whose indexes another one has has no more of them
pub len-within :
    (m n : FinMap nat_cmp ℕ)
    → ((ix : ℕ) → IsSome (finite.get m ix) → IsSome (finite.get n ix))
    → finite.len m ≤ finite.len n
len-within m n within =
    let keys = map (λ (e : ℕ × ℕ). e.0) (finite.entries m) in
    let fewer : length keys ≤ finite.len n =
    length-filed keys n (sorted_apart (finite.entries m) (finite.entries_sorted m))
    (λ q listed. within q (finite.contains_key-keys m q ∙ ap (λ test. list_any test keys) (one_test q) ∙ listed)) in
    omega (arith, fewer, finite.len-entries m, length-map (finite.entries m) (λ (e : ℕ × ℕ). e.0))
