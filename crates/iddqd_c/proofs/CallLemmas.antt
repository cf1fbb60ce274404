-- What a look-up and an insert answer of one first key, one after the other.
use Rattle.std.proofs.Common.{◌≡◌, ◌∙◌, ℕ, List, Option, Some, None, inl, inr, refl, sym, ap, subst, arith}
use Rattle.std.specs.Cmp.Lexicographic.{bytes_decides}
use Rattle.iddqd.specs.Store.{get}
use Rattle.iddqd_keys.specs.Scan.{AnswersScan, IsHit}
use Rattle.iddqd_codes.specs.declared.TheConstants.{OK, DUPLICATE}
use Rattle.iddqd_c.specs.Entries.{FindsFirst, InsertsAt}
use Rattle.iddqd_c.specs.Held.{Items, Taken, ReadsKeyed, ChangesEach}
use Rattle.iddqd_c.specs.Keys.{has_first}
use Rattle.iddqd_c.specs.Rows.{number_of}
use Rattle.iddqd_c.specs.declared.entry.Conflict.{Conflict}
use Rattle.iddqd_c.specs.declared.entry.Entry.{Entry}
use Rattle.iddqd_c.specs.declared.entry.Row.{Row}
use Rattle.iddqd_c.specs.declared.table.Table.{Table}
use Rattle.iddqd_c.specs.declared.table.Table.TheVariants.{Unique, Shared, Index}
use Rattle.iddqd_c.specs.declared.table.Table.TheVariants.{Layer as Records}

module _ (bytes : List ℕ) (second value looked done at : ℕ) (row : Row) (conflict : Conflict) where
  -- a scan that hits finds this entry
  hits :
      (m : Items) (ix : ℕ) (r : Option ℕ) → IsHit m.store (has_first bytes) ix
      → AnswersScan m.store (has_first bytes) r → r ≡ Some ix
  hits m ix None hit none = absurd (none ix hit)
  hits m ix (Some found) hit scan = ap Some (sym ((scan ix).0 hit))

  -- an entry has the key, so the insert reports it
  reports : (taken : Taken) (old new : Items) (ix : ℕ)
      → IsHit old.store (has_first bytes) ix
      → InsertsAt taken bytes second value done at conflict old new
      → (done ≡ DUPLICATE) × (conflict.first ≡ ix)
  reports taken old new ix hit (inl (is, stores)) = absurd (stores.new_keys.0 ix hit)
  reports taken old new ix hit (inr (inl (is, there, same))) =
      (is, there.first_number ∙ ap number_of (hits old ix there.first hit there.by_first))
  reports taken old new ix hit (inr (inr (inl (is, news, full, same)))) = absurd (news.0 ix hit)
  reports taken old new ix hit (inr (inr (inr (is, news, vacant, same)))) = absurd (news.0 ix hit)

  found_here : (taken : Taken) (old new : Items)
      → looked ≡ OK
      → FindsFirst bytes looked row old
      → InsertsAt taken bytes second value done at conflict old new
      → (done ≡ DUPLICATE) × (conflict.first ≡ row.index)
  found_here taken old new ok (inl (is, (ix, (entry, only, is_row)))) inserts =
      let (told, first) = reports taken old new ix ((only.only ix).1 refl) inserts in
      (told, first ∙ ap (λ (r : Row). r.index) (sym is_row))
  found_here taken old new ok (inr (is, none)) inserts = absurd (omega (arith, ok, is))

  found_held : (old new : Option Table)
      → looked ≡ OK
      → ReadsKeyed (FindsFirst bytes looked row) old looked
      → ChangesEach (λ taken. InsertsAt taken bytes second value done at conflict) old done new
      → (done ≡ DUPLICATE) × (conflict.first ≡ row.index)
  found_held (Some (Unique old)) (Some (Unique new)) ok finds inserts = found_here _ old.entries new.entries ok finds inserts
  found_held (Some (Shared old)) (Some (Shared new)) ok finds inserts = found_here _ old.entries new.entries ok finds inserts
  found_held (Some (Unique old)) (Some (Shared new)) ok finds inserts = absurd inserts
  found_held (Some (Unique old)) (Some (Index new)) ok finds inserts = absurd inserts
  found_held (Some (Unique old)) (Some (Records new)) ok finds inserts = absurd inserts
  found_held (Some (Unique old)) None ok finds inserts = absurd inserts
  found_held (Some (Shared old)) (Some (Unique new)) ok finds inserts = absurd inserts
  found_held (Some (Shared old)) (Some (Index new)) ok finds inserts = absurd inserts
  found_held (Some (Shared old)) (Some (Records new)) ok finds inserts = absurd inserts
  found_held (Some (Shared old)) None ok finds inserts = absurd inserts
  found_held (Some (Index old)) new ok finds inserts = absurd (omega (arith, ok, finds))
  found_held (Some (Records old)) new ok finds inserts = absurd (omega (arith, ok, finds))
  found_held None new ok finds inserts = absurd (omega (arith, ok, finds))

  -- the same of what a handle holds between the two
  pub found : (old between new : Option Table)
      → between ≡ old
      → ReadsKeyed (FindsFirst bytes looked row) old looked
      → ChangesEach (λ taken. InsertsAt taken bytes second value done at conflict) between done new
      → looked ≡ OK
      → (done ≡ DUPLICATE) × (conflict.first ≡ row.index)
  found old between new same finds inserts ok =
      found_held old new ok finds (subst (λ h. ChangesEach (λ taken. InsertsAt taken bytes second value done at conflict) h done new) same inserts)

  -- what was inserted is found
  abbrev pub IsInserted : Type 0
  IsInserted = (looked ≡ OK) × (row ≡ record { second = second; value = value; index = at })

  inserted_here : (taken : Taken) (old new : Items)
      → done ≡ OK
      → InsertsAt taken bytes second value done at conflict old new
      → FindsFirst bytes looked row new
      → IsInserted
  inserted_here taken old new ok (inl (is, stores)) looks =
      let is_entry = stores.is_entry in
      let hit : IsHit new.store (has_first bytes) at =
      (stores.entry, stores.live, (bytes_decides bytes stores.entry.first.bytes.items).1 (sym is_entry.has_bytes)) in
      by_look looks hit stores.entry stores.live is_entry.has_second is_entry.has_value
    where
      by_look :
          FindsFirst bytes looked row new → IsHit new.store (has_first bytes) at
          → (entry : Entry) → get new.store at ≡ Some entry
          → entry.second ≡ second → entry.value ≡ value → IsInserted
      by_look (inr (missed, none)) hit entry live has_second has_value = absurd (none at hit)
      by_look (inl (done, (ix, (first, only, is_row)))) hit entry live has_second has_value =
          let there : at ≡ ix = (only.only at).0 hit in
          let both : Some first ≡ Some entry = sym only.live ∙ ap (get new.store) (sym there) ∙ live in
          let same : first ≡ entry = cc in
          (done, is_row ∙ (λ i. record { second = (ap (λ (e : Entry). e.second) same ∙ has_second) i; value = (ap (λ (e : Entry). e.value) same ∙ has_value) i; index = sym there i }))
  inserted_here taken old new ok (inr (inl refused)) looks = absurd (omega (arith, ok, refused.0))
  inserted_here taken old new ok (inr (inr (inl refused))) looks = absurd (omega (arith, ok, refused.0))
  inserted_here taken old new ok (inr (inr (inr refused))) looks = absurd (omega (arith, ok, refused.0))

  pub inserted : (old new : Option Table)
      → ChangesEach (λ taken. InsertsAt taken bytes second value done at conflict) old done new
      → ReadsKeyed (FindsFirst bytes looked row) new looked
      → done ≡ OK
      → IsInserted
  inserted (Some (Unique old)) (Some (Unique new)) inserts looks ok = inserted_here _ old.entries new.entries ok inserts looks
  inserted (Some (Shared old)) (Some (Shared new)) inserts looks ok = inserted_here _ old.entries new.entries ok inserts looks
  inserted (Some (Unique old)) (Some (Shared new)) inserts looks ok = absurd inserts
  inserted (Some (Unique old)) (Some (Index new)) inserts looks ok = absurd inserts
  inserted (Some (Unique old)) (Some (Records new)) inserts looks ok = absurd inserts
  inserted (Some (Unique old)) None inserts looks ok = absurd inserts
  inserted (Some (Shared old)) (Some (Unique new)) inserts looks ok = absurd inserts
  inserted (Some (Shared old)) (Some (Index new)) inserts looks ok = absurd inserts
  inserted (Some (Shared old)) (Some (Records new)) inserts looks ok = absurd inserts
  inserted (Some (Shared old)) None inserts looks ok = absurd inserts
  inserted (Some (Index old)) new inserts looks ok = absurd (omega (arith, ok, inserts.0))
  inserted (Some (Records old)) new inserts looks ok = absurd (omega (arith, ok, inserts.0))
  inserted None new inserts looks ok = absurd (omega (arith, ok, inserts.0))
