-- For callers: a list that has exactly the live indexes, each once, has as many of them as there are items.
use Rattle.std.proofs.Common.{◌≡◌, ◌∙◌, ◌↔◌, ◌+◌, ◌<◌, ℕ, nat_eq, false, List, [], ◌∷◌, map, length, Option, Some, None, refl, subst, inl, inr, arith}
use Rattle.std.specs.Cmp.{nat_eq_equiv}
use Rattle.std.specs.List.{AllByRecursion, Contains, IsDistinct}
use Rattle.std.proofs.lemmas.Bool.Decides.{Decides-eqb}
use Rattle.std.proofs.lemmas.Map.Keys.{IsDistinct-cons}
use Rattle.std.proofs.lemmas.Map.Made.{is_member-Decides, length-le_from_is_member}
use Rattle.iddqd.specs.Store.{Store, live_count}
use Rattle.iddqd.specs.LiveItems.{live_pairs, pairs_from}
use Rattle.iddqd.proofs.LiveItemLemmas.{IsWalkOf-live_pairs, length-pairs_from}
use Rattle.iddqd.proofs.LiveLemmas.{item_at, live_at}
use Rattle.iddqd.proofs.StoreLemmas.{contains_head, contains_tail, contains_cases, contains_none, differs}
use Rattle.iddqd_keys.specs.Scan.{IsLive}

-- two lists of distinct numbers with the same members are as long
same_count :
    (xs ys : List ℕ)
    → IsDistinct nat_eq xs
    → IsDistinct nat_eq ys
    → ((n : ℕ) → Contains xs n ↔ Contains ys n)
    → length xs ≡ length ys
same_count xs ys apart also_apart same =
    let le = length-le_from_is_member nat_eq_equiv xs ys apart (λ n here. (is_member-Decides Decides-eqb ys n).1 ((same n).0 ((is_member-Decides Decides-eqb xs n).0 here))) in
    let ge = length-le_from_is_member nat_eq_equiv ys xs also_apart (λ n here. (is_member-Decides Decides-eqb xs n).1 ((same n).1 ((is_member-Decides Decides-eqb ys n).0 here))) in
    omega (arith, le, ge)

module _ {T : Type 0} where
  abbrev firsts : List (ℕ × T) → List ℕ
  firsts pairs = map (λ p. p.0) pairs

  firsts-listed : (pairs : List (ℕ × T)) (n : ℕ) (x : T) → Contains pairs (n, x) → Contains (firsts pairs) n
  firsts-listed [] n x listed = absurd (contains_none (n, x) listed)
  firsts-listed (p ∷ pairs) n x listed = elim (contains_cases p (n, x) pairs listed) [
    | inl here ↦ subst (λ (q : ℕ × T). Contains (p.0 ∷ firsts pairs) q.0) here (contains_head p.0 (firsts pairs))
    | inr there ↦ contains_tail p.0 n (firsts pairs) (firsts-listed pairs n x there)
  ]

  listed-firsts : (pairs : List (ℕ × T)) (n : ℕ) → Contains (firsts pairs) n → (x : T) × Contains pairs (n, x)
  listed-firsts [] n listed = absurd (contains_none n listed)
  listed-firsts (p ∷ pairs) n listed = elim (contains_cases p.0 n (firsts pairs) listed) [
    | inl here ↦ (p.1, subst (λ (m : ℕ). Contains (p ∷ pairs) (m, p.1)) here (contains_head p pairs))
    | inr there ↦ let later = listed-firsts pairs n there in (later.0, contains_tail p (n, later.0) pairs later.1)
  ]

  rising_apart :
      (n first : ℕ) (slots : List (Option T))
      → n < first
      → AllByRecursion (λ m. nat_eq n m ≡ false) (firsts (pairs_from first slots))
  rising_apart n first [] less = tt
  rising_apart n first (None ∷ rest) less = rising_apart n (first + 1) rest (omega arith)
  rising_apart n first (Some item ∷ rest) less = (differs n first (omega arith), rising_apart n (first + 1) rest (omega arith))

  distinct-pairs : (first : ℕ) (slots : List (Option T)) → IsDistinct nat_eq (firsts (pairs_from first slots))
  unfolding IsDistinct
  distinct-pairs first [] = tt
  distinct-pairs first (None ∷ rest) = distinct-pairs (first + 1) rest
  distinct-pairs first (Some item ∷ rest) =
      IsDistinct-cons nat_eq first (firsts (pairs_from (first + 1) rest)) (rising_apart first (first + 1) rest (omega arith)) (distinct-pairs (first + 1) rest)

  length-firsts : (pairs : List (ℕ × T)) → length (firsts pairs) ≡ length pairs
  length-firsts [] = refl
  length-firsts (p ∷ pairs) = omega (arith, length-firsts pairs)

  pub length-listed :
      (s : Store T) (order : List ℕ)
      → ((ix : ℕ) → Contains order ix ↔ IsLive s ix)
      → IsDistinct nat_eq order
      → length order ≡ live_count s
  length-listed s order each once =
      let all = same_count order (firsts (live_pairs s)) once (distinct-pairs 0 s.items) (λ ix. (
        λ here. let at = item_at s ix ((each ix).0 here) in firsts-listed (live_pairs s) ix at.0 (((IsWalkOf-live_pairs s).live ix at.0).1 at.1),
        λ here. let at = listed-firsts (live_pairs s) ix here in (each ix).1 (live_at s ix at.0 (((IsWalkOf-live_pairs s).live ix at.0).0 at.1)),
      )) in
      all ∙ length-firsts (live_pairs s) ∙ length-pairs_from 0 s.items
