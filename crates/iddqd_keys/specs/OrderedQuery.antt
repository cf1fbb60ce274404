-- The law of a query that has a place in the order of the keys. `answer` is what the query answers at each key.
use Rattle.std.specs.Prelude.{◌≡◌, ◌&&◌, Bool, true, not}
use Rattle.std.proofs.Common.{◌∙◌, ap, refl, sym}
use Rattle.std.specs.Cmp.{IsTotalOrder}
use Rattle.std.specs.Ordering.{ordering_reverse, is_eq, is_lt, is_gt, on}
use Rattle.std.specs.Range.Bound.{bound_map}
use Rattle.std.specs.declared.cmp.Ordering.{Ordering}
use Rattle.std.specs.declared.cmp.Ordering.TheVariants.{Less, Equal, Greater}
use Rattle.std.specs.declared.ops.Bound.{Bound}
use Rattle.std.specs.declared.ops.Bound.TheVariants.{Included, Excluded, Unbounded}
use Rattle.std.proofs.lemmas.Cmp.{alike_right}
use Rattle.iddqd.specs.MapHashLaws.{greater_before_in}

-- whether the query is Equal at the key
abbrev pub is_equal : {K : Type 0} → (K → Ordering) → K → Bool
is_equal answer key = is_eq (answer key)

module _ {K : Type 0} (compare : K → K → Ordering) where
  -- The query fits the order of the keys: along keys in order its answers are first Greater, then Equal, then Less;
  -- and equal keys get the same answer. It may be Equal at keys that differ.
  pub record FitsOrder (answer : K → Ordering) : Type 0 where
    pub less_after : (a b : K) → compare a b ≡ Less → answer a ≡ Less → answer b ≡ Less
    pub greater_before : (a b : K) → compare a b ≡ Less → answer b ≡ Greater → answer a ≡ Greater
    pub equal_keys : (a b : K) → compare a b ≡ Equal → answer a ≡ answer b

  -- all keys at which the query is Equal are equal to each other
  abbrev pub IsOneKey : (K → Ordering) → Type 0
  IsOneKey answer = (a b : K) → answer a ≡ Equal → answer b ≡ Equal → compare a b ≡ Equal

  -- the query fits the order of the keys and stands for one key
  pub record IsQuery (answer : K → Ordering) : Type 0 where
    pub fits : FitsOrder answer
    pub one_key : IsOneKey answer

  -- a key is a lawful query
  pub IsQuery-key : IsTotalOrder compare → (key : K) → IsQuery (compare key)
  IsQuery-key o key = record {
    fits = record {
      less_after = λ a b before less. o.trans key a b less before;
      greater_before = greater_before_in o key;
      equal_keys = λ a b same. alike_right o a b key same;
    };
    one_key = λ a b one other. sym (o.congr key a b one) ∙ other;
  }

  module _ (total : IsTotalOrder compare) (answer : K → Ordering) (query : IsQuery answer) (k a : K)
      (here : answer k ≡ Equal) where
    -- if the query is Equal at the key k, and k is before a, then it is Less at a
    key_before : compare k a ≡ Less → (r : Ordering) → answer a ≡ r → answer a ≡ Less
    key_before less Less is = is
    key_before less Equal is = let same = query.one_key k a here is in cc
    key_before less Greater is = let greater = query.fits.greater_before k a less is in cc

    -- if the query is Equal at the key k, and k is behind a, then it is Greater at a
    key_behind : compare a k ≡ Less → (r : Ordering) → answer a ≡ r → answer a ≡ Greater
    key_behind less Less is = let later = query.fits.less_after a k less is in cc
    key_behind less Equal is = let same = query.one_key a k is here in cc
    key_behind less Greater is = is

    by_order : (r : Ordering) → compare k a ≡ r → answer a ≡ compare k a
    by_order Less is = key_before is (answer a) refl ∙ sym is
    by_order Equal is = sym (query.fits.equal_keys k a is) ∙ here ∙ sym is
    by_order Greater is = key_behind (total.antisymm a k ∙ ap ordering_reverse is) (answer a) refl ∙ sym is

    -- a query that is Equal at a key compares as that key does
    pub compares_as_key : answer a ≡ compare k a
    compares_as_key = by_order (compare k a) refl

-- a lawful query on keys fits the order of the items by their keys, and stands for one key of theirs
module _ {T K : Type 0} (key_of : T → K) (compare : K → K → Ordering) (answer : K → Ordering)
    (query : IsQuery compare answer) where
  pub FitsOrder-query : FitsOrder (on key_of compare) (λ x. answer (key_of x))
  FitsOrder-query = record {
    less_after = λ a b. query.fits.less_after (key_of a) (key_of b);
    greater_before = λ a b. query.fits.greater_before (key_of a) (key_of b);
    equal_keys = λ a b. query.fits.equal_keys (key_of a) (key_of b);
  }

  pub IsOneKey-query : IsOneKey (on key_of compare) (λ x. answer (key_of x))
  IsOneKey-query a b = query.one_key (key_of a) (key_of b)

-- if keys are ordered by a part of theirs, a lawful query on parts is a lawful query on keys
pub IsQuery-on :
    {K P : Type 0} (part : K → P) (compare : P → P → Ordering) (answer : P → Ordering) → IsQuery compare answer
    → IsQuery (λ a b. compare (part a) (part b)) (λ a. answer (part a))
IsQuery-on part compare answer query = record {
  fits = FitsOrder-query part compare answer query;
  one_key = IsOneKey-query part compare answer query;
}

module _ {K : Type 0} where
  -- Whether the key satisfies a lower bound: it is at or after an included one, or after an excluded one. A bound is
  -- given as its query's answers.
  abbrev pub is_from : Bound (K → Ordering) → K → Bool
  is_from (Included answer) key = not (is_gt (answer key))
  is_from (Excluded answer) key = is_lt (answer key)
  is_from Unbounded key = true

  -- whether it satisfies an upper bound
  abbrev pub is_up_to : Bound (K → Ordering) → K → Bool
  is_up_to (Included answer) key = not (is_lt (answer key))
  is_up_to (Excluded answer) key = is_gt (answer key)
  is_up_to Unbounded key = true

  -- whether it satisfies both
  abbrev pub is_between : Bound (K → Ordering) → Bound (K → Ordering) → K → Bool
  is_between lower upper key = is_from lower key && is_up_to upper key

-- whether the key satisfies both bounds, which are given as queries; `compare` is what a query answers at a key
abbrev pub is_within : {Q K : Type 0} → (Q → K → Ordering) → Bound Q → Bound Q → K → Bool
is_within compare lower upper = is_between (bound_map compare lower) (bound_map compare upper)
