-- What calls along a list of distinct indexes keep, if each call keeps it.
use Rattle.std.proofs.Common.{◌≡◌, ◌≢◌, ◌∙◌, inl, inr, ℕ, nat_eq, true, false, List, [], ◌∷◌, map, Some, refl, sym, ap, subst, eq-eqb}
use Rattle.std.specs.Borrow.{MutBor}
use Rattle.std.specs.Fn.{Mut, CalledAtMut}
use Rattle.std.specs.List.{AllByRecursion, Contains, FoldsTo, IsDistinct}
use Rattle.std.proofs.lemmas.Map.Keys.{IsDistinct-head, IsDistinct-tail}
use Rattle.iddqd.specs.Store.{Store, get, rebound}
use Rattle.iddqd.proofs.StoreLemmas.{contains_cases, contains_head, contains_none, contains_tail, get-rebound_other}
use Rattle.iddqd_keys.specs.KeyWalk.{pairs_at}
use Rattle.iddqd_keys.proofs.KeyWalkLemmas.{pairs_at-first}
use Rattle.iddqd_map.specs.ModifyMany.{KeepsKeys, left_by, rebound_all}

-- the members of a list differ from an index that differs from each
apart_all :
    (ix : ℕ) (rest : List ℕ)
    → AllByRecursion (λ y. nat_eq ix y ≡ false) rest
    → (j : ℕ)
    → Contains rest j
    → j ≢ ix
apart_all ix [] all j here = absurd (contains_none j here)
apart_all ix (k ∷ rest) (one, others) j here =
    elim (contains_cases k j rest here) [
      | inl same ↦ λ is.
          let equal : nat_eq ix k ≡ true = eq-eqb ix k (sym is ∙ sym same) in
          let never : true ≡ false = sym equal ∙ one in
          cc
      | inr there ↦ apart_all ix rest others j there
    ]

-- the first of distinct indexes differs from the others
pub apart_first : (ix : ℕ) (rest : List ℕ) → IsDistinct nat_eq (ix ∷ rest) → (j : ℕ) → Contains rest j → j ≢ ix
apart_first ix rest once j here = apart_all ix rest (IsDistinct-head nat_eq ix rest once) j here

module _
    {F T K : Type 0} (g : Mut F (MutBor T × Unit {0}) (Unit {0} × (MutBor T × Unit {0}))) (keys : T → K)
    (IsThere : T → Type 0) (keeps : KeepsKeys g keys IsThere) (Kept : Store T → Type 0)
    (one : (s : Store T) (ix : ℕ) (was left : T)
    → Kept s
    → get s ix ≡ Some was
    → keys left ≡ keys was
    → Kept (rebound s ix left))
    (old : Store T)
  where
    pub kept_along :
        (indexes : List ℕ) (s : Store T) (calls : List ((ℕ × T) × T)) (f last : F)
        → IsDistinct nat_eq indexes
        → ((j : ℕ) → Contains indexes j → (x : T) × (get old j ≡ Some x) × IsThere x)
        → ((j : ℕ) → Contains indexes j → get s j ≡ get old j)
        → map (λ call. call.0) calls ≡ pairs_at old indexes
        → FoldsTo (λ p call q. CalledAtMut g p call.0.1 tt q call.1) f calls last
        → Kept s
        → Kept (rebound_all s (left_by calls))
    kept_along [] s [] f last once there same pairs called kept = kept
    kept_along [] s (call ∷ calls) f last once there same pairs called kept = absurd (cc)
    kept_along (ix ∷ rest) s [] f last once there same pairs called kept =
        let (x, live, is_there) = there ix (contains_head ix rest) in
        let first : [] ≡ (ix, x) ∷ pairs_at old rest = pairs ∙ pairs_at-first old (ix ∷ rest) rest ix x refl live in
        absurd (cc)
    kept_along (ix ∷ rest) s (call ∷ calls) f last once there same pairs (after, called, then) kept =
        let (x, live, is_there) = there ix (contains_head ix rest) in
        let split : call.0 ∷ map (λ c. c.0) calls ≡ (ix, x) ∷ pairs_at old rest =
        pairs ∙ pairs_at-first old (ix ∷ rest) rest ix x refl live in
        let first : call.0 ≡ (ix, x) = cc in
        let others : map (λ (c : (ℕ × T) × T). c.0) calls ≡ pairs_at old rest = cc in
        let at : call.0.0 ≡ ix = ap (λ (p : ℕ × T). p.0) first in
        let is : call.0.1 ≡ x = ap (λ (p : ℕ × T). p.1) first in
        let now : get s call.0.0 ≡ Some call.0.1 =
        ap (get s) at ∙ same ix (contains_head ix rest) ∙ live ∙ ap Some (sym is) in
        kept_along rest (rebound s call.0.0 call.1) calls after last (IsDistinct-tail nat_eq ix rest once)
        (λ j here. there j (contains_tail ix j rest here))
        (λ j here.
        let other : j ≢ call.0.0 = λ equal. apart_first ix rest once j here (equal ∙ at) in
        get-rebound_other s call.0.0 j call.1 other ∙ same j (contains_tail ix j rest here))
        others then
        (one s call.0.0 call.0.1 call.1 kept now (keeps f call.0.1 after call.1 (subst IsThere (sym is) is_there) called))
