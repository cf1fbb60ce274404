-- LinkedState tables that have no index, or whose links past all indexes were cut off, and how many heads there are.
use Rattle.std.proofs.Common.{◌≡◌, ◌≤◌, ◌<◌, ◌∙◌, ◌+◌, ◌-◌, inl, inr, cond, is_some, None, length, ℕ, List, [], length-take, min, max, take, Some, IsSome, Result, Ok, Err, OnErr, sym, ap, subst, arith}
use Rattle.std.specs.Ordering.{nat_cmp}
use Rattle.std.specs.FinMap as finite
use Rattle.std.specs.FinMap.{FinMap}
use Rattle.std.proofs.lemmas.Bool.{cases_eq}
use Rattle.std.proofs.lemmas.Cmp.{nat_cmp_total}
use Rattle.iddqd.specs.Store.{sentinel}
use Rattle.iddqd_hash.specs.OpenTableSizes.{least_cells}
use Rattle.iddqd_hash.proofs.LeastCellsLemmas.{least_cells-grows}
use Rattle.iddqd_hash.proofs.MemberLemmas.{filed_hash, filed_at}
use Rattle.iddqd_groups.specs.LinkedTable.{AreHeadsOf, IsLinkedTable, LinkedState, kept_linked, needed_linked}
use Rattle.iddqd_groups.specs.Links.{filed_by, next_of, prev_of, IsChained, AreHeads}
use Rattle.iddqd_groups.specs.declared.linked_table.links.Link.{Link}
use Rattle.iddqd_groups.proofs.LinksLemmas.{link_at-take, filed_by-none, filed_by-take, len-within}

nothing : {X : Type 0} (ix : ℕ) → IsSome (finite.get (finite.empty {K = ℕ} {X = ℕ} {R = nat_cmp}) ix) → X
nothing ix here = absurd (let never = rw (finite.get-empty nat_cmp ix) at here in cc)

nothing_under : {X : Type 0} (ix hash : ℕ) → finite.get (finite.empty {K = ℕ} {X = ℕ} {R = nat_cmp}) ix ≡ Some hash → X
nothing_under ix hash is = nothing ix (filed_at _ hash is)

AreHeads-none : (next prev : ℕ → ℕ) → AreHeads finite.empty finite.empty next prev
AreHeads-none next prev = record {
  chained = record {
    forth = λ ix hash is. nothing_under ix hash is;
    back = λ ix hash is. nothing_under ix hash is;
    acyclic = record {
      depth = λ ix. 0;
      top = 0;
      below = λ ix here. nothing ix here;
      rises = λ ix here. nothing ix here;
    };
    not_sentinel = λ ix here. nothing ix here;
  };
  firsts = λ ix hash. (λ is. nothing_under ix hash is, λ both. nothing_under ix hash both.0);
  one_head = λ i j hash is. nothing_under i hash is;
}

pub IsLinkedTable-none :
    (heads : FinMap nat_cmp ℕ) (most : ℕ) (links : List Link)
    → heads ≡ finite.empty
    → links ≡ []
    → IsLinkedTable heads most links 0
IsLinkedTable-none heads most links no_heads no_links = rw (no_heads, no_links) (record {
  linked = rw filed_by-none (AreHeads-none (next_of []) (prev_of []));
  counted = rw filed_by-none (sym (finite.len-empty nat_cmp ℕ));
  roomy = omega arith;
  small = omega arith;
})

-- what is said of neighbours is said of those of the indexes in the table alone
IsChained-alike :
    {filed : FinMap nat_cmp ℕ} {next prev : ℕ → ℕ} (next' prev' : ℕ → ℕ)
    → ((ix : ℕ) → IsSome (finite.get filed ix) → next' ix ≡ next ix)
    → ((ix : ℕ) → IsSome (finite.get filed ix) → prev' ix ≡ prev ix)
    → IsChained filed next prev
    → IsChained filed next' prev'
IsChained-alike {filed} {next} {prev} next' prev' nexts prevs was = record {
  forth = λ ix hash is goes_on.
      let same = nexts ix (filed_at _ hash is) in
      let there = was.forth ix hash is (λ ends. goes_on (same ∙ ends)) in
      (ap (finite.get filed) same ∙ there.0, ap prev' same ∙ prevs (next ix) (filed_at _ hash there.0) ∙ there.1);
  back = λ ix hash is goes_on.
      let same = prevs ix (filed_at _ hash is) in
      let there = was.back ix hash is (λ ends. goes_on (same ∙ ends)) in
      (ap (finite.get filed) same ∙ there.0, ap next' same ∙ nexts (prev ix) (filed_at _ hash there.0) ∙ there.1);
  acyclic = record {
    depth = was.acyclic.depth;
    top = was.acyclic.top;
    below = was.acyclic.below;
    rises = λ ix here goes_on.
        let same = nexts ix here in
        subst (λ n. was.acyclic.depth ix < was.acyclic.depth n) (sym same)
        (was.acyclic.rises ix here (λ ends. goes_on (same ∙ ends)));
  };
  not_sentinel = was.not_sentinel;
}

AreHeads-alike :
    {heads filed : FinMap nat_cmp ℕ} {next prev : ℕ → ℕ} (next' prev' : ℕ → ℕ)
    → ((ix : ℕ) → IsSome (finite.get filed ix) → next' ix ≡ next ix)
    → ((ix : ℕ) → IsSome (finite.get filed ix) → prev' ix ≡ prev ix)
    → AreHeads heads filed next prev
    → AreHeads heads filed next' prev'
AreHeads-alike next' prev' nexts prevs was = record {
  chained = IsChained-alike next' prev' nexts prevs was.chained;
  firsts = λ ix hash. (
    λ is. let there = (was.firsts ix hash).0 is in (there.0, prevs ix (filed_at _ hash there.0) ∙ there.1),
    λ both. (was.firsts ix hash).1 (both.0, sym (prevs ix (filed_at _ hash both.0)) ∙ both.1),
  );
  one_head = was.one_head;
}

-- each head is an index of the table
pub len-heads :
    {heads filed : FinMap nat_cmp ℕ} {next prev : ℕ → ℕ}
    → AreHeads heads filed next prev
    → finite.len heads ≤ finite.len filed
len-heads {heads} {filed} linked =
    len-within heads filed (λ ix here.
    let (hash, is) = filed_hash _ here in
    filed_at _ hash ((linked.firsts ix hash).0 is).0)

-- the links below a number that each index is below, and memory for so many heads
pub IsLinkedTable-take :
    {heads heads' : FinMap nat_cmp ℕ} {most : ℕ} {links links' : List Link} {len : ℕ} (most' n : ℕ)
    → IsLinkedTable heads most links len
    → ((ix : ℕ) → IsSome (finite.get (filed_by links) ix) → ix < n)
    → heads' ≡ heads
    → links' ≡ take n links
    → len ≤ most'
    → IsLinkedTable heads' most' links' len
IsLinkedTable-take {heads} {heads'} {most} {links} {links'} {len} most' n was below same cut roomy =
    let filed = filed_by-take n links below in
    rw (same, cut) (record {
      linked =
          rw filed (AreHeads-alike (next_of (take n links)) (prev_of (take n links))
          (λ ix here. ap (λ (l : Link). l.next) (link_at-take n links ix (below ix here)))
          (λ ix here. ap (λ (l : Link). l.prev) (link_at-take n links ix (below ix here)))
          was.linked);
      counted = was.counted ∙ ap finite.len (sym filed);
      roomy = roomy;
      small = omega (arith, was.small, length-take n links);
    })

-- the same links, and memory for so many heads
pub IsLinkedTable-kept :
    {heads heads' : FinMap nat_cmp ℕ} {most : ℕ} {links links' : List Link} {len : ℕ} (most' : ℕ)
    → IsLinkedTable heads most links len
    → heads' ≡ heads
    → links' ≡ links
    → len ≤ most'
    → IsLinkedTable heads' most' links' len
IsLinkedTable-kept most' was same_heads same_links roomy = rw (same_heads, same_links) (record {
  linked = was.linked;
  counted = was.counted;
  roomy = roomy;
  small = was.small;
})

pub same_linked :
    (t u : LinkedState)
    → t.filed ≡ u.filed
    → t.nexts ≡ u.nexts
    → t.slots ≡ u.slots
    → t.capacity ≡ u.capacity
    → t.memory ≡ u.memory
    → t ≡ u
same_linked t u filed nexts slots capacity memory = λ i. record {
  filed = filed i;
  nexts = nexts i;
  slots = slots i;
  capacity = capacity i;
  memory = memory i;
}

-- what was held for so many indexes stays after both parts were made smaller
pub capacity_at_least :
    (heads links least len wanted heads' links' : ℕ)
    → len ≤ wanted
    → least ≤ wanted
    → min heads (max least len) ≤ heads'
    → min wanted links ≤ links'
    → min (min heads links) (max least len) ≤ min heads' links'
capacity_at_least heads links least len wanted heads' links' holds most for_heads for_links = omega arith

-- what holds in any case holds after a refusal
pub OnErr-anyway : {A E : Type 0} (r : Result A E) (holds : Type 0) → holds → OnErr r holds
OnErr-anyway (Ok x) holds is = tt
OnErr-anyway (Err e) holds is = is

-- where the heads kept their cells, or the links their memory, there is more than is needed
pub needed-heads :
    (kept count slots cells links : ℕ)
    → kept ≤ count
    → least_cells count < cells
    → max slots kept ≤ links
    → needed_linked (max slots kept) kept < cells + links
needed-heads kept count slots cells links below fewer within =
    let least = least_cells-grows kept count below in
    omega (arith, least, fewer, within)

pub needed-links :
    (kept capacity slots cells links : ℕ)
    → kept ≤ capacity
    → least_cells capacity ≤ cells
    → max slots kept < links
    → needed_linked (max slots kept) kept < cells + links
needed-links kept capacity slots cells links below enough fewer =
    let least = least_cells-grows kept capacity below in
    omega (arith, least, enough, fewer)

pub needed-enough :
    (kept capacity slots cells links : ℕ)
    → kept ≤ capacity
    → least_cells capacity ≤ cells
    → max slots kept ≤ links
    → needed_linked (max slots kept) kept ≤ cells + links
needed-enough kept capacity slots cells links below enough within =
    let least = least_cells-grows kept capacity below in
    omega (arith, least, enough, within)

-- where no cell may be left over, no index is asked for
pub none_kept : (slots count : ℕ) → kept_linked slots count ≡ 0 → count ≡ 0
none_kept slots count none = omega arith

-- one index more
pub IsLinkedTable-added :
    {heads heads' : FinMap nat_cmp ℕ} {most most' : ℕ} {links links' : List Link} {len : ℕ}
    → IsLinkedTable heads most links len
    → AreHeadsOf heads' links'
    → (ix hash : ℕ)
    → finite.get (filed_by links) ix ≡ None
    → filed_by links' ≡ finite.insert (filed_by links) ix hash
    → len + 1 ≤ most'
    → length links' ≤ sentinel
    → IsLinkedTable heads' most' links' (len + 1)
IsLinkedTable-added {links = links} was linked ix hash absent filed roomy small = record {
  linked = linked;
  counted =
      ap (λ n. n + 1) was.counted ∙ sym (ap finite.len filed ∙ finite.len-insert nat_cmp_total (filed_by links) ix hash
      ∙ ap (λ o. cond (is_some o) (finite.len (filed_by links)) (finite.len (filed_by links) + 1)) absent);
  roomy = roomy;
  small = small;
}

-- a map that has an index isn't empty
len-positive : (m : FinMap nat_cmp ℕ) (ix : ℕ) → IsSome (finite.get m ix) → 1 ≤ finite.len m
len-positive m ix here =
    elim (cases_eq (finite.len m) 0) [
      | inl none ↦
          nothing ix (subst (λ (n : FinMap nat_cmp ℕ). IsSome (finite.get n ix)) (finite.empty_of_len m none) here)
      | inr some ↦ omega (arith, some)
    ]

-- a removal leaves one less
pub len-less :
    (m : FinMap nat_cmp ℕ) (ix : ℕ)
    → IsSome (finite.get m ix)
    → finite.len (finite.remove m ix) + 1 ≡ finite.len m
len-less m ix here =
    let (hash, is) = filed_hash _ here in
    let removed =
    finite.len-remove nat_cmp_total m ix ∙ ap (λ o. cond (is_some o) (finite.len m - 1) (finite.len m)) is in
    let some = len-positive m ix here in
    omega (arith, removed, some)

pub IsLinkedTable-fewer :
    {heads heads' : FinMap nat_cmp ℕ} {most most' : ℕ} {links links' : List Link} {len : ℕ}
    → IsLinkedTable heads most links len
    → AreHeadsOf heads' links'
    → (ix : ℕ)
    → IsSome (finite.get (filed_by links) ix)
    → filed_by links' ≡ finite.remove (filed_by links) ix
    → len ≤ most' + 1
    → length links' ≤ sentinel
    → IsLinkedTable heads' most' links' (len - 1)
IsLinkedTable-fewer {links = links} was linked ix here filed roomy small =
    let one = len-less (filed_by links) ix here in
    record {
      linked = linked;
      counted = omega (arith, was.counted, one, ap finite.len filed);
      roomy = omega (arith, roomy);
      small = small;
    }
