-- A linked table after each index was given a new name below the number of indexes, and the links past it were cut off.
use Rattle.std.proofs.Common.{◌≡◌, ◌≢◌, ◌∙◌, ◌<◌, ◌≤◌, ℕ, List, length, length-take, take, IsSome, refl, sym, ap, subst, arith}
use Rattle.std.specs.Ordering.{nat_cmp}
use Rattle.std.specs.FinMap as finite
use Rattle.std.specs.FinMap.{FinMap}
use Rattle.iddqd.specs.Store.{sentinel}
use Rattle.iddqd_hash.specs.MapHashTable.{HaveOwnNames, Renames}
use Rattle.iddqd_hash.proofs.MemberLemmas.{filed_hash, filed_at}
use Rattle.iddqd_groups.specs.LinkedTable.{IsLinkedTable}
use Rattle.iddqd_groups.specs.Links.{filed_by, next_of, prev_of, RenamesLinks}
use Rattle.iddqd_groups.specs.declared.linked_table.links.Link.{Link}
use Rattle.iddqd_groups.proofs.LinksLemmas.{filed_by-take, length-filed_by}
use Rattle.iddqd_groups.proofs.LinkedSizeLemmas.{IsLinkedTable-take}
use Rattle.iddqd_groups.proofs.RenameLinkLemmas.{AreHeads-renamed}
use Rattle.iddqd_groups.proofs.RenamedLenLemmas.{len-renamed}

module _
    (name : ℕ → ℕ) (heads heads_new : FinMap nat_cmp ℕ) (most len : ℕ) (old new cut : List Link)
    (was : IsLinkedTable heads most old len)
    (heads_named : Renames name heads heads_new)
    (named : RenamesLinks name old new)
    (one_name : HaveOwnNames name (filed_by old))
    (dense : (ix : ℕ) → IsSome (finite.get (filed_by old) ix) → name ix < finite.len (filed_by old))
    (as_long : length new ≡ length old)
    (is_cut : cut ≡ take len new)
  where
    real : (ix : ℕ) → IsSome (finite.get (filed_by old) ix) → name ix ≢ sentinel
    real ix here none =
        let less = dense ix here in
        omega (arith, less, none, length-filed_by old, was.small)

    below : (at : ℕ) → IsSome (finite.get (filed_by new) at) → at < len
    below at here =
        let (hash, is) = filed_hash _ here in
        let (ix, same, stood) = named.filed.no_other at hash is in
        let less = dense ix (filed_at _ hash stood) in
        omega (arith, less, same, was.counted)

    IsLinkedTable-named : IsLinkedTable heads_new most new len
    IsLinkedTable-named = record {
      linked =
          AreHeads-renamed name heads (filed_by old) heads_new (filed_by new) (next_of old) (prev_of old)
          (next_of new) (prev_of new) was.linked heads_named named.filed named.nexts named.prevs one_name real;
      counted = was.counted ∙ sym (len-renamed name (filed_by old) (filed_by new) named.filed one_name);
      roomy = was.roomy;
      small = omega (arith, was.small, as_long);
    }

    pub IsLinkedTable-cut : (most_new : ℕ) → len ≤ most_new → IsLinkedTable heads_new most_new cut len
    IsLinkedTable-cut most_new roomy =
        IsLinkedTable-take most_new len IsLinkedTable-named below refl is_cut roomy

    pub Renames-cut : Renames name (filed_by old) (filed_by cut)
    Renames-cut =
        subst (Renames name (filed_by old)) (sym (ap filed_by is_cut ∙ filed_by-take len new below)) named.filed

    -- each slot that is left has an index
    pub length-cut : length cut ≡ finite.len (filed_by cut)
    length-cut =
        let counted = (IsLinkedTable-cut len (omega arith)).counted in
        let long = ap length is_cut in
        omega (arith, counted, long, length-take len new, length-filed_by old, was.counted, as_long)
