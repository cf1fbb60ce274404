-- The first entry in the order of second keys among those that have one of them: the one with the least index.
use Rattle.std.proofs.Common.{◌≡◌, ◌≢◌, ◌∙◌, ◌<◌, inl, inr, ℕ, true, Option, Some, None, refl, sym, ap, arith}
use Rattle.std.specs.Prelude.{◌&&◌, not}
use Rattle.std.specs.Option.{option_cmp, option_map}
use Rattle.std.specs.Ordering.{is_eq, is_gt, is_lt, nat_cmp, ordering_then}
use Rattle.std.specs.declared.cmp.Ordering.{Ordering}
use Rattle.std.specs.declared.cmp.Ordering.TheVariants.{Less, Equal, Greater}
use Rattle.std.specs.declared.ops.Bound.TheVariants.{Included}
use Rattle.std.proofs.lemmas.Bool.{cases_lt}
use Rattle.std.proofs.lemmas.Cmp.{ranked}
use Rattle.iddqd.specs.Store.{Store}
use Rattle.iddqd_keys.specs.KeyWalk.{ComesBefore, IsFirstHit}
use Rattle.iddqd_keys.specs.OrderedQuery.{is_within}
use Rattle.iddqd_keys.specs.Scan.{IsHit, itself}
use Rattle.iddqd_c.specs.Entries.{FindsLeast}
use Rattle.iddqd_c.specs.Keys.{by_second, compares_second, has_second}
use Rattle.iddqd_c.specs.declared.entry.Entry.{Entry}

is_equal_when : (o : Ordering) → not (is_gt o) && not (is_lt o) ≡ is_eq o
is_equal_when Less = refl
is_equal_when Equal = refl
is_equal_when Greater = refl

equal_of : (o : Ordering) → is_eq o ≡ true → o ≡ Equal
equal_of Less is = cc
equal_of Equal is = refl
equal_of Greater is = cc

same_when : (x y : ℕ) (o : Ordering) → o ≡ nat_cmp x y → o ≡ Equal → x ≡ y
same_when x y Less is eq = cc
same_when x y Equal is eq = ranked x y Equal is
same_when x y Greater is eq = cc

less_when : (x y : ℕ) (o : Ordering) → o ≡ nat_cmp x y → o ≡ Less → x < y
less_when x y Less is eq = ranked x y Less is
less_when x y Equal is eq = cc
less_when x y Greater is eq = cc

module _ (s : Store Entry) (second : ℕ) where
  -- the entry's second key, if it passes
  key_is : (entry : Entry) → has_second second entry ≡ true → second ≡ entry.second
  key_is entry passes = same_when second entry.second _ refl (equal_of _ passes)

  -- of two entries with this key, the one that comes before has the lesser index
  before_less :
      (i j : ℕ) → IsHit s (has_second second) i → IsHit s (has_second second) j → ComesBefore itself by_second s i j → i < j
  before_less i j (x, at_i, has_i) (y, at_j, has_j) before =
      let compared : Option Entry → Option Entry → Ordering = λ a b.
      ordering_then (option_cmp by_second (option_map itself a) (option_map itself b)) (nat_cmp i j) in
      let opened : compared (Some x) (Some y) ≡ Less =
      (λ k. compared (sym at_i k) (sym at_j k)) ∙ before in
      let tied : nat_cmp x.second y.second ≡ Equal =
      (λ k. nat_cmp (sym (key_is x has_i) k) (sym (key_is y has_j) k)) ∙ self second in
      less_when i j _ refl (ap (λ o. ordering_then o (nat_cmp i j)) (sym tied) ∙ opened)
    where
      self : (n : ℕ) → nat_cmp n n ≡ Equal
      self n = by_itself (nat_cmp n n) refl
        where
          by_itself : (o : Ordering) → o ≡ nat_cmp n n → o ≡ Equal
          by_itself Less is = absurd (omega (arith, ranked n n Less is))
          by_itself Equal is = refl
          by_itself Greater is = absurd (omega (arith, ranked n n Greater is))

  within_is :
      (entry : Entry)
      → is_within compares_second (Included second) (Included second) entry ≡ has_second second entry
  within_is entry = is_equal_when (compares_second second entry)

  into :
      (j : ℕ) → IsHit s (has_second second) j
      → IsHit s (is_within compares_second (Included second) (Included second)) j
  into j (entry, live, passes) = (entry, live, within_is entry ∙ passes)

  out :
      (j : ℕ) → IsHit s (is_within compares_second (Included second) (Included second)) j
      → IsHit s (has_second second) j
  out j (entry, live, passes) = (entry, live, sym (within_is entry) ∙ passes)

  pub first_least :
      (r : Option ℕ) → IsFirstHit itself by_second s (is_within compares_second (Included second) (Included second)) r
      → FindsLeast s (has_second second) r
  first_least None none = λ j hit. none j (into j hit)
  first_least (Some ix) (hit, before) = (
    out ix hit,
    λ j other. (elim (cases_lt j ix) [
      | inl less ↦
          let apart : j ≢ ix = λ same. omega (arith, same, less) in
          let ahead = before_less ix j (out ix hit) other (before j (into j other) apart) in
          absurd (omega (arith, less, ahead))
      | inr past ↦ past
    ]),
  )
