-- The hashes that a look-up in a pair of key indexes computed.
use Rattle.std.specs.Prelude.{◌≡◌}
use Rattle.iddqd_map.specs.declared.pair_hashes.PairHashes.{PairHashes}
use Rattle.iddqd_map.specs.declared.pair_hashes.PairHashes.TheVariants.{Neither, First, Second}

module _ {A B : Type 0} where
  -- those that the first key index computed are known to it, and those that the second did to the second
  abbrev pub AreKnownToPair : (A → Type 0) → (B → Type 0) → PairHashes A B → Type 0
  AreKnownToPair first second Neither = Unit {0}
  AreKnownToPair first second (First known) = first known
  AreKnownToPair first second (Second known) = second known

  -- the first key index computed hashes, which have the property
  abbrev pub IsFirst : (A → Type 0) → PairHashes A B → Type 0
  IsFirst property Neither = ⊥
  IsFirst property (First known) = property known
  IsFirst property (Second known) = ⊥

  -- the second did, and they have the property
  abbrev pub IsSecond : (B → Type 0) → PairHashes A B → Type 0
  IsSecond property Neither = ⊥
  IsSecond property (First known) = ⊥
  IsSecond property (Second known) = property known

  -- what the first key index computed, if it did
  abbrev pub KeepsFirst : PairHashes A B → A → Type 0
  KeepsFirst Neither result = Unit {0}
  KeepsFirst (First known) result = result ≡ known
  KeepsFirst (Second known) result = Unit {0}

  -- what the second computed, if it did
  abbrev pub KeepsSecond : PairHashes A B → B → Type 0
  KeepsSecond Neither result = Unit {0}
  KeepsSecond (First known) result = Unit {0}
  KeepsSecond (Second known) result = result ≡ known
