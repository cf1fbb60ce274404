-- For callers of look-ups in an ordered table beside a store: what an answer says of the items.
use Rattle.std.proofs.Common.{◌≡◌, ◌≢◌, ◌∙◌, ◌↔◌, ◌≤◌, ℕ, Bool, IsTrue, List, length, Option, Some, None, refl, sym, ap, Ordering}
use Rattle.std.specs.List.{Contains, All}
use Rattle.std.specs.Option.{option_cmp}
use Rattle.std.specs.Ordering.{is_eq}
use Rattle.std.specs.Fn.{Mut}
use Rattle.std.specs.Cmp.{IsTotalOrder, Equal-is}
use Rattle.std.specs.Cmp.Lexicographic.{options_total}
use Rattle.std.specs.declared.cmp.Ordering.TheVariants.{Less, Equal, Greater}
use Rattle.std.proofs.lemmas.List.Elements.{All-contains}
use Rattle.iddqd.specs.Store.{Store, get}
use Rattle.iddqd.proofs.LiveLemmas.{item_at, live_at}
use Rattle.iddqd_order.specs.declared.btree_table.asking.Asking.{Asking}
use Rattle.iddqd_order.specs.declared.btree_table.entry.Entry.{Entry}
use Rattle.iddqd_order.specs.declared.btree_table.entry.Entry.TheVariants.{Occupied, Vacant}
use Rattle.iddqd_order.specs.Entry as table_entry
use Rattle.iddqd_order.specs.KeyOrder.{IsInKeyOrder}
use Rattle.iddqd_order.specs.Search as search
use Rattle.iddqd_order.specs.Search.{IsSteady, IsSteadyRising, IsRising, with_ties}
use Rattle.iddqd_order.proofs.KeyOrderLemmas.{IsRising-from_query}
use Rattle.iddqd_keys.specs.Scan.{IsHit, HasNoHit, passes_by}
use Rattle.iddqd_keys.specs.OrderedQuery.{FitsOrder, IsQuery}
use Rattle.iddqd_by_order.specs.Ordered.{Holds, IsInPlace, Finds, LooksUp, IsEntryOf, IsVacantAt, is_equal, compared, key_at}
use Rattle.iddqd_keys.proofs.ScanLemmas.{AnswersScan-hit}

module _ {K : Type 0} (compare : K → K → Ordering) where
  -- a query whose type keeps its laws does
  pub IsQuery-lawful :
      {comparing : K → Ordering} (equivalent : K → Bool)
      → ((a b : K) → compare a b ≡ Less → comparing a ≡ Less → comparing b ≡ Less)
      → ((a b : K) → compare a b ≡ Less → comparing b ≡ Greater → comparing a ≡ Greater)
      → ((a b : K) → compare a b ≡ Equal → comparing a ≡ comparing b)
      → ((k : K) → IsTrue (equivalent k) ↔ (comparing k ≡ Equal))
      → ((k a : K) → IsTrue (equivalent k) → comparing a ≡ compare k a)
      → IsQuery compare comparing
  IsQuery-lawful equivalent less_after greater_before equal_keys equal as_key = record {
    fits = record { less_after = less_after; greater_before = greater_before; equal_keys = equal_keys };
    one_key = λ a b one other. sym (as_key a b ((equal a).1 one)) ∙ other;
  }

  -- the laws of a query that fits the order, along optional keys, none first
  module _ (comparing : K → Ordering) (fits : FitsOrder compare comparing) where
    less_after :
        (a b : Option K)
        → option_cmp compare a b ≡ Less
        → compared comparing a ≡ Less
        → compared comparing b ≡ Less
    less_after None b before less = cc
    less_after (Some a) None before less = cc
    less_after (Some a) (Some b) before less = fits.less_after a b before less

    greater_before :
        (a b : Option K)
        → option_cmp compare a b ≡ Less
        → compared comparing b ≡ Greater
        → compared comparing a ≡ Greater
    greater_before None b before greater = refl
    greater_before (Some a) None before greater = cc
    greater_before (Some a) (Some b) before greater = fits.greater_before a b before greater

    equal_keys : (a b : Option K) → option_cmp compare a b ≡ Equal → compared comparing a ≡ compared comparing b
    equal_keys None None same = refl
    equal_keys None (Some b) same = cc
    equal_keys (Some a) None same = cc
    equal_keys (Some a) (Some b) same = fits.equal_keys a b same

    -- so along a list in order the answers rise
    pub IsRising-fitting :
        IsTotalOrder compare
        → (key : ℕ → Option K) (order : List ℕ)
        → IsInKeyOrder (option_cmp compare) key order
        → IsRising (with_ties None (λ ix. compared comparing (key ix))) order
    IsRising-fitting total key order sorted =
        IsRising-from_query (options_total total) key (compared comparing) less_after greater_before equal_keys order (λ ix. compared comparing (key ix)) sorted (λ k d within. refl)

module _
    {T K : Type 0} (key_of : T → K) (compare : K → K → Ordering) (s : Store T) (order : List ℕ)
    (comparing : K → Ordering)
  where
    -- how a query compares with the key at an index
    abbrev pub answer : ℕ → Ordering
    answer ix = compared comparing (key_at key_of s ix)

    pub answer_at : (ix : ℕ) (item : T) → get s ix ≡ Some item → answer ix ≡ comparing (key_of item)
    answer_at ix item is = rw is refl

    -- where the table is exact, what a look-up answers is a scan's answer
    pub LooksUp-found :
        IsQuery compare comparing
        → (r : Option ℕ)
        → Finds key_of compare s order comparing r
        → LooksUp key_of compare s order comparing r
    LooksUp-found query None missed = record { found = missed; as_scan = λ o. missed o.placed }
    LooksUp-found query (Some ix) hit = record {
      found = hit;
      as_scan = λ o. AnswersScan-hit _ s _ ix (λ x y p q. ap is_eq (query.one_key (key_of x) (key_of y) ((Equal-is _).0 p) ((Equal-is _).0 q))) o.apart hit;
    }

    module _ (holds : Holds s order) where
      -- a stored index at which the query compares Equal
      equal_hit : (ix : ℕ) → Contains order ix → answer ix ≡ Equal → IsHit s (passes_by key_of (is_equal comparing)) ix
      equal_hit ix here equal =
          let (item, is) = item_at s ix ((holds.each ix).0 here) in
          (item, is, ap is_eq (sym (answer_at ix item is) ∙ equal))

      -- no stored index at which it does
      equal_miss : All (λ ix. answer ix ≢ Equal) order → HasNoHit s (passes_by key_of (is_equal comparing))
      equal_miss none ix (item, is, passed) =
          All-contains (λ j. answer j ≢ Equal) order ix none ((holds.each ix).1 (live_at s ix item is)) (answer_at ix item is ∙ (Equal-is _).0 passed)

      -- what a find of the table tells, where each answer reads as the comparison of the query with the key
      module _
          {F R : Type 0} (g : Mut F (ℕ × Unit {0}) R) (read : R → Ordering) (old new : Asking F)
          (total : IsTotalOrder compare) (fits : FitsOrder compare comparing)
          (steady : IsSteady g order None read answer old)
        where
          rises : IsInPlace key_of compare s order → IsSteadyRising g order None read answer old
          rises placed = record { steady = steady; rising = IsRising-fitting compare comparing fits total (key_at key_of s) order placed }

          pub Finds-from_finds :
              (r : Option ℕ)
              → search.Finds g read order old r new
              → Finds key_of compare s order comparing r
          Finds-from_finds None finds = λ placed. equal_miss (finds.miss answer (rises placed) refl)
          Finds-from_finds (Some ix) finds = equal_hit ix finds.stored (finds.hit answer steady)

      -- the same, and what an entry tells, where the query stands for one key
      module _
          {F R : Type 0} (g : Mut F (ℕ × Unit {0}) R) (read : R → Ordering) (old new : Asking F)
          (total : IsTotalOrder compare) (query : IsQuery compare comparing)
          (steady : IsSteady g order None read answer old)
        where
          rises_by : IsInPlace key_of compare s order → IsSteadyRising g order None read answer old
          rises_by = rises g read old new total query.fits steady

          pub LooksUp-from_finds :
              (r : Option ℕ)
              → search.Finds g read order old r new
              → LooksUp key_of compare s order comparing r
          LooksUp-from_finds r finds =
              LooksUp-found query r (Finds-from_finds g read old new total query.fits steady r finds)

          pub IsEntryOf-from_table :
              (e : Entry)
              → table_entry.FindsEntry g read order old e new
              → IsEntryOf key_of compare s order comparing e
          IsEntryOf-from_table (Occupied entry) enters =
              LooksUp-found query (Some _) (equal_hit _ enters.stored (enters.hit answer steady))
          IsEntryOf-from_table (Vacant entry) enters = record {
            missed = LooksUp-found query None (λ placed. equal_miss (enters.miss answer (rises_by placed)));
            within = enters.within;
            is_place = λ placed. enters.place answer (rises_by placed);
          }

          -- the same of a place that isn't lent
          pub LooksUp-stored :
              (ix : ℕ)
              → Contains order ix
              → ((a : ℕ → Ordering) → IsSteady g order None read a old → a ix ≡ Equal)
              → LooksUp key_of compare s order comparing (Some ix)
          LooksUp-stored ix stored hit = LooksUp-found query (Some ix) (equal_hit ix stored (hit answer steady))

          pub IsVacantAt-placed :
              (place : ℕ)
              → place ≤ length order
              → ((a : ℕ → Ordering) → IsSteadyRising g order None read a old → search.IsPlace a order place)
              → ((a : ℕ → Ordering) → IsSteadyRising g order None read a old → All (λ ix. a ix ≢ Equal) order)
              → IsVacantAt key_of compare s order comparing place
          IsVacantAt-placed place within is_place miss = record {
            missed = LooksUp-found query None (λ placed. equal_miss (miss answer (rises_by placed)));
            within = within;
            is_place = λ placed. is_place answer (rises_by placed);
          }
