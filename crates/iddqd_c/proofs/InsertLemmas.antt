-- What an insert answers, from what the map answers.
use Rattle.std.proofs.Common.{◌≡◌, ◌⊎◌, ℕ, Bool, List, Some, Err, inl, inr, subst}
use Rattle.iddqd.specs.Store.{Store}
use Rattle.iddqd_keys.specs.Scan.{AnswersScan, HasNoHit}
use Rattle.iddqd_map.specs.Calls.{Inserts}
use Rattle.iddqd_map.specs.PairConflict.{ReportBoth, first_of, second_of}
use Rattle.iddqd_map.specs.Several.{either_key}
use Rattle.iddqd_map.specs.declared.pair_conflict.PairConflict.{PairConflict}
use Rattle.iddqd_map.specs.declared.refusal.InsertRefusal.{InsertRefusal}
use Rattle.iddqd_map.specs.declared.refusal.InsertRefusal.TheVariants.{Duplicate, Full, Memory}
use Rattle.iddqd_c.specs.Entries.{AreNew, InsertsAt, SaysRefusal}
use Rattle.iddqd_c.specs.Held.{Items, Taken}
use Rattle.iddqd_c.specs.Keys.{IsEntry, has_first}
use Rattle.iddqd_c.specs.declared.entry.Conflict.{Conflict}
use Rattle.iddqd_c.specs.declared.entry.Entry.{Entry}
use Rattle.iddqd_c.proofs.AnswerLemmas.{alike_first, new_first, new_second, scans_first}

module _ (taken : Taken) (alike : Entry → Entry → Bool) (same : (x y : Entry) → alike x y ≡ taken x.second y)
    (bytes : List ℕ) (second value : ℕ) (entry : Entry) (is : IsEntry bytes second value entry) where
  -- what the map finds that shares no unique key is new by both keys
  pub are_new : (m : Items) → HasNoHit m.store (either_key alike_first alike entry) → AreNew taken bytes second m
  are_new m none = (
    subst (λ b. HasNoHit m.store (has_first b)) is.has_bytes (new_first taken alike same m.store entry none),
    subst (λ n. HasNoHit m.store (taken n)) is.has_second (new_second taken alike same m.store entry none),
  )

  either : {A B C D : Type 0} → (A → C) → (B → D) → A ⊎ B → C ⊎ D
  either f g (inl a) = inl (f a)
  either f g (inr b) = inr (g b)

  pub refused :
      {C : Type 0} (conflicts : Store Entry → Entry → C → Type 0) (grown : ℕ → ℕ) (code at : ℕ) (conflict : Conflict)
      (refusal : InsertRefusal Entry (PairConflict ℕ C)) (old new : Items)
      → SaysRefusal alike conflicts taken code conflict refusal
      → Inserts (either_key alike_first alike) grown
      (λ s item at. ReportBoth alike_first alike (λ s item at. AnswersScan s (alike_first item) (Some at)) conflicts s item (first_of at) (second_of at))
      old entry (Err refusal) new
      → InsertsAt taken bytes second value code at conflict old new
  refused conflicts grown code at conflict (Duplicate back there) old new says (given_back, reports, stays) =
      let (duplicate, first_number, (other, other_number, some, scans)) = says in
      inr (inl (
        duplicate,
        record {
          first = first_of there;
          other = other;
          first_number = first_number;
          other_number = other_number;
          some = either (λ here. here) some reports.some;
          by_first = subst (λ b. AnswersScan old.store (has_first b) (first_of there)) is.has_bytes
              (scans_first old.store entry (first_of there) reports.first);
          by_second = subst (λ n. AnswersScan old.store (taken n) other) is.has_second (scans old.store entry reports.second);
        },
        stays,
      ))
  refused conflicts grown code at conflict (Full back) old new says out =
      inr (inr (inl (says, are_new old out.no_conflict, out.full, out.unchanged)))
  refused conflicts grown code at conflict (Memory back) old new says out =
      inr (inr (inr (says, are_new old out.no_conflict, out.not_full, out.store_stays)))
