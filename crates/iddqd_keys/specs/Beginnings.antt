-- How a text compares with the beginning of another, and that its answers fit the order of texts.
use Rattle.std.specs.Prelude.{◌≡◌, ◌≤◌, ◌∷◌, ℕ, List, [], length, take}
use Rattle.std.proofs.Common.{ap, refl, subst, take_all}
use Rattle.std.specs.Cmp.{nat_cmp_total}
use Rattle.std.specs.Cmp.Lexicographic.{slice_cmp}
use Rattle.std.specs.Ordering.{nat_cmp, ordering_then}
use Rattle.std.specs.declared.cmp.Ordering.{Ordering}
use Rattle.std.specs.declared.cmp.Ordering.TheVariants.{Less, Equal, Greater}
use Rattle.iddqd_keys.specs.OrderedQuery.{FitsOrder, IsQuery-key}
use Rattle.iddqd_keys.specs.Tuples.{pair_less, pair_greater, pair_equal}

-- how a text compares with as many bytes of another, from its beginning on; Equal if the other begins with it
abbrev pub begin_cmp : List ℕ → List ℕ → Ordering
begin_cmp [] text = Equal
begin_cmp (x ∷ xs) [] = Greater
begin_cmp (x ∷ xs) (y ∷ ys) = ordering_then (nat_cmp x y) (begin_cmp xs ys)

pub begin_cmp-taken : (xs ys : List ℕ) → begin_cmp xs ys ≡ slice_cmp nat_cmp xs (take (length xs) ys)
begin_cmp-taken [] ys = refl
begin_cmp-taken (x ∷ xs) [] = refl
begin_cmp-taken (x ∷ xs) (y ∷ ys) = ap (ordering_then (nat_cmp x y)) (begin_cmp-taken xs ys)

-- a text that isn't longer is compared whole
pub begin_cmp-whole : (xs ys : List ℕ) → length ys ≤ length xs → begin_cmp xs ys ≡ slice_cmp nat_cmp xs ys
begin_cmp-whole xs ys short =
    subst (λ l. begin_cmp xs ys ≡ slice_cmp nat_cmp xs l) (take_all (length xs) ys short) (begin_cmp-taken xs ys)

less_after :
    (q a b : List ℕ) → slice_cmp nat_cmp a b ≡ Less → begin_cmp q a ≡ Less → begin_cmp q b ≡ Less
less_after [] a b before less = cc
less_after (x ∷ q) [] b before less = cc
less_after (x ∷ q) (y ∷ a) [] before less = cc
less_after (x ∷ q) (y ∷ a) (z ∷ b) before less =
    let one = IsQuery-key nat_cmp nat_cmp_total x in
    pair_less (nat_cmp y z) (slice_cmp nat_cmp a b) (nat_cmp x y) (begin_cmp q a) (nat_cmp x z) (begin_cmp q b)
    (one.fits.less_after y z) (one.fits.greater_before y z) (one.fits.equal_keys y z) (one.one_key y z)
    (less_after q a b) before less

greater_before :
    (q a b : List ℕ) → slice_cmp nat_cmp a b ≡ Less → begin_cmp q b ≡ Greater → begin_cmp q a ≡ Greater
greater_before [] a b before greater = cc
greater_before (x ∷ q) [] b before greater = refl
greater_before (x ∷ q) (y ∷ a) [] before greater = cc
greater_before (x ∷ q) (y ∷ a) (z ∷ b) before greater =
    let one = IsQuery-key nat_cmp nat_cmp_total x in
    pair_greater (nat_cmp y z) (slice_cmp nat_cmp a b) (nat_cmp x y) (begin_cmp q a) (nat_cmp x z) (begin_cmp q b)
    (one.fits.less_after y z) (one.fits.greater_before y z) (one.fits.equal_keys y z) (one.one_key y z)
    (greater_before q a b) before greater

equal_keys : (q a b : List ℕ) → slice_cmp nat_cmp a b ≡ Equal → begin_cmp q a ≡ begin_cmp q b
equal_keys [] a b same = refl
equal_keys (x ∷ q) [] [] same = refl
equal_keys (x ∷ q) [] (z ∷ b) same = cc
equal_keys (x ∷ q) (y ∷ a) [] same = cc
equal_keys (x ∷ q) (y ∷ a) (z ∷ b) same =
    let one = IsQuery-key nat_cmp nat_cmp_total x in
    pair_equal (nat_cmp y z) (slice_cmp nat_cmp a b) (nat_cmp x y) (begin_cmp q a) (nat_cmp x z) (begin_cmp q b)
    (one.fits.equal_keys y z) (equal_keys q a b) same

pub FitsOrder-begin :
    {T : Type 0} (text_of : T → List ℕ) (q : List ℕ)
    → FitsOrder (λ x y. slice_cmp nat_cmp (text_of x) (text_of y)) (λ x. begin_cmp q (text_of x))
FitsOrder-begin text_of q = record {
  less_after = λ x y. less_after q (text_of x) (text_of y);
  greater_before = λ x y. greater_before q (text_of x) (text_of y);
  equal_keys = λ x y. equal_keys q (text_of x) (text_of y);
}
