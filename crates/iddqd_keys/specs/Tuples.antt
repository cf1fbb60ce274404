-- The laws of keys of several fields, and of queries for them.
use Rattle.std.specs.Prelude.{◌≡◌, ◌&&◌, ◌++◌, ℕ, Bool, true, false, IsTrue, List}
use Rattle.std.proofs.Common.{◌∙◌, ap, refl, sym}
use Rattle.std.specs.Cmp.{IsEquivalence, IsTotalOrder, and_equiv, on_equiv, on_total, then_total}
use Rattle.std.specs.Ordering.{ordering_then}
use Rattle.std.specs.declared.cmp.Ordering.{Ordering}
use Rattle.std.specs.declared.cmp.Ordering.TheVariants.{Less, Equal, Greater}
use Rattle.iddqd_keys.specs.OrderedQuery.{FitsOrder, IsOneKey}
use Rattle.iddqd_keys.specs.declared.item_order_query.Part.{Part}
use Rattle.iddqd_keys.specs.declared.item_order_query.Part.TheVariants.{First, Both}

module _ {K L : Type 0} where
  pub pairs_equiv :
      {E : K → K → Bool} {F : L → L → Bool} → IsEquivalence E → IsEquivalence F
      → IsEquivalence (λ (x y : K × L). E x.0 y.0 && F x.1 y.1)
  pairs_equiv e f = and_equiv (on_equiv (λ (t : K × L). t.0) e) (on_equiv (λ (t : K × L). t.1) f)

  pub pairs_total :
      {R : K → K → Ordering} {S : L → L → Ordering} → IsTotalOrder R → IsTotalOrder S
      → IsTotalOrder (λ (x y : K × L). ordering_then (R x.0 y.0) (S x.1 y.1))
  pairs_total r s = then_total (on_total (λ (t : K × L). t.0) r) (on_total (λ (t : K × L). t.1) s)

-- where both tests hold, both feed the same
pub pairs_fed :
    (a b : Bool) (p q r s : List (List ℕ))
    → (IsTrue a → p ≡ r)
    → (IsTrue b → q ≡ s)
    → IsTrue (a && b)
    → p ++ q ≡ r ++ s
pairs_fed true b p q r s left right both = ap (λ l. l ++ q) (left refl) ∙ ap (λ l. r ++ l) (right both)
pairs_fed false b p q r s left right both = cc

pub triples_fed :
    (a b c : Bool) (p q r s t u : List (List ℕ))
    → (IsTrue a → p ≡ s)
    → (IsTrue b → q ≡ t)
    → (IsTrue c → r ≡ u)
    → IsTrue (a && (b && c))
    → (p ++ q) ++ r ≡ (s ++ t) ++ u
triples_fed true true c p q r s t u first second third all =
    ap (λ l. (l ++ q) ++ r) (first refl) ∙ (ap (λ l. (s ++ l) ++ r) (second refl) ∙ ap (λ l. (s ++ t) ++ l) (third all))
triples_fed true false c p q r s t u first second third all = cc
triples_fed false b c p q r s t u first second third all = cc

-- where both tests hold, the two are the same as those of the other pair
pub pairs_same :
    (a b c d e f : Bool)
    → (IsTrue a → c ≡ e)
    → (IsTrue b → d ≡ f)
    → IsTrue (a && b)
    → (c && d) ≡ (e && f)
pairs_same true b c d e f left right both = ap (λ x. x && d) (left refl) ∙ ap (λ x. e && x) (right both)
pairs_same false b c d e f left right both = cc

-- Two keys in turn. r and s compare the first and the second keys of two pairs; x and y are what two queries answer
-- at the first pair, u and v at the second one.

pub pair_less :
    (r s x y u v : Ordering)
    → (r ≡ Less → x ≡ Less → u ≡ Less)
    → (r ≡ Less → u ≡ Greater → x ≡ Greater)
    → (r ≡ Equal → x ≡ u)
    → (x ≡ Equal → u ≡ Equal → r ≡ Equal)
    → (s ≡ Less → y ≡ Less → v ≡ Less)
    → ordering_then r s ≡ Less
    → ordering_then x y ≡ Less
    → ordering_then u v ≡ Less
pair_less Less s Less y u v f g h k m before less = ap (λ o. ordering_then o v) (f refl refl)
pair_less Less s Equal y Less v f g h k m before less = refl
pair_less Less s Equal y Equal v f g h k m before less = let bad = k refl refl in cc
pair_less Less s Equal y Greater v f g h k m before less = let bad = g refl refl in cc
pair_less Less s Greater y u v f g h k m before less = cc
pair_less Equal s Less y u v f g h k m before less = ap (λ o. ordering_then o v) (sym (h refl))
pair_less Equal s Equal y u v f g h k m before less = ap (λ o. ordering_then o v) (sym (h refl)) ∙ m before less
pair_less Equal s Greater y u v f g h k m before less = cc
pair_less Greater s x y u v f g h k m before less = cc

pub pair_greater :
    (r s x y u v : Ordering)
    → (r ≡ Less → x ≡ Less → u ≡ Less)
    → (r ≡ Less → u ≡ Greater → x ≡ Greater)
    → (r ≡ Equal → x ≡ u)
    → (x ≡ Equal → u ≡ Equal → r ≡ Equal)
    → (s ≡ Less → v ≡ Greater → y ≡ Greater)
    → ordering_then r s ≡ Less
    → ordering_then u v ≡ Greater
    → ordering_then x y ≡ Greater
pair_greater Less s x y Greater v f g h k m before greater = ap (λ o. ordering_then o y) (g refl refl)
pair_greater Less s Greater y Equal v f g h k m before greater = refl
pair_greater Less s Equal y Equal v f g h k m before greater = let bad = k refl refl in cc
pair_greater Less s Less y Equal v f g h k m before greater = let bad = f refl refl in cc
pair_greater Less s x y Less v f g h k m before greater = cc
pair_greater Equal s x y Less v f g h k m before greater = cc
pair_greater Equal s x y Equal v f g h k m before greater = ap (λ o. ordering_then o y) (h refl) ∙ m before greater
pair_greater Equal s x y Greater v f g h k m before greater = ap (λ o. ordering_then o y) (h refl)
pair_greater Greater s x y u v f g h k m before greater = cc

pub pair_equal :
    (r s x y u v : Ordering)
    → (r ≡ Equal → x ≡ u)
    → (s ≡ Equal → y ≡ v)
    → ordering_then r s ≡ Equal
    → ordering_then x y ≡ ordering_then u v
pair_equal Less s x y u v h m same = cc
pair_equal Equal s x y u v h m same = ap (λ o. ordering_then o y) (h refl) ∙ ap (λ o. ordering_then u o) (m same)
pair_equal Greater s x y u v h m same = cc

pair_one :
    (r s x y u v : Ordering)
    → (x ≡ Equal → u ≡ Equal → r ≡ Equal)
    → (y ≡ Equal → v ≡ Equal → s ≡ Equal)
    → ordering_then x y ≡ Equal
    → ordering_then u v ≡ Equal
    → ordering_then r s ≡ Equal
pair_one r s Less y u v k m one other = cc
pair_one r s Greater y u v k m one other = cc
pair_one r s Equal y Less v k m one other = cc
pair_one r s Equal y Greater v k m one other = cc
pair_one r s Equal y Equal v k m one other = ap (λ o. ordering_then o s) (k refl refl) ∙ m one other

first_less : (r s x u : Ordering) → (r ≡ Less → x ≡ Less → u ≡ Less) → (r ≡ Equal → x ≡ u) → ordering_then r s ≡ Less
    → x ≡ Less → u ≡ Less
first_less Less s x u f h before less = f refl less
first_less Equal s x u f h before less = sym (h refl) ∙ less
first_less Greater s x u f h before less = cc

first_greater : (r s x u : Ordering) → (r ≡ Less → u ≡ Greater → x ≡ Greater) → (r ≡ Equal → x ≡ u)
    → ordering_then r s ≡ Less → u ≡ Greater → x ≡ Greater
first_greater Less s x u g h before greater = g refl greater
first_greater Equal s x u g h before greater = h refl ∙ greater
first_greater Greater s x u g h before greater = cc

first_equal : (r s x u : Ordering) → (r ≡ Equal → x ≡ u) → ordering_then r s ≡ Equal → x ≡ u
first_equal Less s x u h same = cc
first_equal Equal s x u h same = h refl
first_equal Greater s x u h same = cc

module _ {K : Type 0} (R S : K → K → Ordering) where
  module _ (p : K → Ordering) where
    module _ (q : K → Ordering) where
      pub FitsOrder-pair : FitsOrder R p → IsOneKey R p → FitsOrder S q
          → FitsOrder (λ a b. ordering_then (R a b) (S a b)) (λ k. ordering_then (p k) (q k))
      FitsOrder-pair first one second = record {
        less_after = λ a b. pair_less (R a b) (S a b) (p a) (q a) (p b) (q b)
            (first.less_after a b) (first.greater_before a b) (first.equal_keys a b) (one a b) (second.less_after a b);
        greater_before = λ a b. pair_greater (R a b) (S a b) (p a) (q a) (p b) (q b)
            (first.less_after a b) (first.greater_before a b) (first.equal_keys a b) (one a b)
            (second.greater_before a b);
        equal_keys = λ a b. pair_equal (R a b) (S a b) (p a) (q a) (p b) (q b) (first.equal_keys a b)
            (second.equal_keys a b);
      }

      pub IsOneKey-pair : IsOneKey R p → IsOneKey S q
          → IsOneKey (λ a b. ordering_then (R a b) (S a b)) (λ k. ordering_then (p k) (q k))
      IsOneKey-pair first second a b =
          pair_one (R a b) (S a b) (p a) (q a) (p b) (q b) (first a b) (second a b)

    pub FitsOrder-first : FitsOrder R p → FitsOrder (λ a b. ordering_then (R a b) (S a b)) p
    FitsOrder-first first = record {
      less_after = λ a b. first_less (R a b) (S a b) (p a) (p b) (first.less_after a b) (first.equal_keys a b);
      greater_before = λ a b. first_greater (R a b) (S a b) (p a) (p b) (first.greater_before a b)
          (first.equal_keys a b);
      equal_keys = λ a b. first_equal (R a b) (S a b) (p a) (p b) (first.equal_keys a b);
    }

module _ {K P Q : Type 0} where
  -- a prefix compares first keys alone
  abbrev pub part_answer : (P → K → Ordering) → (Q → K → Ordering) → Part P Q → K → Ordering
  part_answer p q (First one) k = p one k
  part_answer p q (Both one other) k = ordering_then (p one k) (q other k)

  pub FitsOrder-part :
      (R S : K → K → Ordering) (p : P → K → Ordering) (q : Q → K → Ordering)
      → ((one : P) → FitsOrder R (p one))
      → ((one : P) → IsOneKey R (p one))
      → ((other : Q) → FitsOrder S (q other))
      → (part : Part P Q)
      → FitsOrder (λ a b. ordering_then (R a b) (S a b)) (part_answer p q part)
  FitsOrder-part R S p q first one second (First x) = FitsOrder-first R S (p x) (first x)
  FitsOrder-part R S p q first one second (Both x y) = FitsOrder-pair R S (p x) (q y) (first x) (one x) (second y)

-- how two items compare by the second and the third of three keys
abbrev pub triple_rest :
    {T K L : Type 0} → (T → K) → (K → K → Ordering) → (T → L) → (L → L → Ordering) → T → T → Ordering
triple_rest second compare third other x y =
    ordering_then (compare (second x) (second y)) (other (third x) (third y))

module _ {K : Type 0} (R S U : K → K → Ordering) (p q r : K → Ordering) where
  pub FitsOrder-triple :
      FitsOrder R p
      → IsOneKey R p
      → FitsOrder S q
      → IsOneKey S q
      → FitsOrder U r
      → FitsOrder (λ a b. ordering_then (R a b) (ordering_then (S a b) (U a b)))
      (λ k. ordering_then (p k) (ordering_then (q k) (r k)))
  FitsOrder-triple first one second two third =
      FitsOrder-pair R (λ a b. ordering_then (S a b) (U a b)) p (λ k. ordering_then (q k) (r k)) first one
      (FitsOrder-pair S U q r second two third)

  pub IsOneKey-triple :
      IsOneKey R p
      → IsOneKey S q
      → IsOneKey U r
      → IsOneKey (λ a b. ordering_then (R a b) (ordering_then (S a b) (U a b)))
      (λ k. ordering_then (p k) (ordering_then (q k) (r k)))
  IsOneKey-triple first second third =
      IsOneKey-pair R (λ a b. ordering_then (S a b) (U a b)) p (λ k. ordering_then (q k) (r k)) first
      (IsOneKey-pair S U q r second third)
