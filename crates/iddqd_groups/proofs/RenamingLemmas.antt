-- A walk over a list of links that gives each index its new name, which is never greater than the old one.
use Rattle.std.proofs.Common.{◌≡◌, ◌≢◌, ◌∙◌, ◌==◌, ◌<◌, ◌≤◌, ◌⊎◌, inl, inr, if◌then◌else◌, ◌+◌, ℕ, List, length, Some, None, IsSome, refl, sym, ap, subst, arith}
use Rattle.std.specs.FinMap as finite
use Rattle.std.proofs.lemmas.Bool.{cases_eq}
use Rattle.iddqd.specs.Store.{sentinel}
use Rattle.iddqd_hash.proofs.MemberLemmas.{get-insert_at, get-insert_other, get-remove_at, get-remove_other, filed_at}
use Rattle.iddqd_hash.specs.MapHashTable.{HaveOwnNames}
use Rattle.iddqd_groups.specs.Links.{filed_by, next_of, prev_of, renamed, AreNeighbours, RenamesLinks}
use Rattle.iddqd_groups.specs.declared.linked_table.links.Link.{Link}
use Rattle.iddqd_groups.proofs.InsertLinkLemmas.{one_hash}
use Rattle.iddqd_groups.proofs.LinksLemmas.{below-filed_by}
use Rattle.iddqd_groups.proofs.RenameLinkLemmas.{renamed_none, renamed_some}
use Rattle.iddqd_groups.proofs.UnlinkLemmas.{at_place, at_other}

-- the indexes below a place have their new names, and the others are as they were
pub record Renaming (name : ℕ → ℕ) (old now : List Link) (place : ℕ) : Type 0 where
  pub done :
      (ix hash : ℕ) → ix < place → finite.get (filed_by old) ix ≡ Some hash
      → finite.get (filed_by now) (name ix) ≡ Some hash
  pub done_next :
      (ix : ℕ) → ix < place → IsSome (finite.get (filed_by old) ix)
      → next_of now (name ix) ≡ renamed name (next_of old ix)
  pub done_prev :
      (ix : ℕ) → ix < place → IsSome (finite.get (filed_by old) ix)
      → prev_of now (name ix) ≡ renamed name (prev_of old ix)
  pub no_other :
      (at hash : ℕ) → at < place → finite.get (filed_by now) at ≡ Some hash
      → (ix : ℕ) × (ix < place) × (name ix ≡ at) × (finite.get (filed_by old) ix ≡ Some hash)
  pub rest : (j : ℕ) → place ≤ j → finite.get (filed_by now) j ≡ finite.get (filed_by old) j
  pub rest_next : (j : ℕ) → place ≤ j → IsSome (finite.get (filed_by old) j) → next_of now j ≡ next_of old j
  pub rest_prev : (j : ℕ) → place ≤ j → IsSome (finite.get (filed_by old) j) → prev_of now j ≡ prev_of old j

pub Renaming-none : (name : ℕ → ℕ) (old : List Link) → Renaming name old old 0
Renaming-none name old = record {
  done = λ ix hash below. absurd (omega (arith, below));
  done_next = λ ix below. absurd (omega (arith, below));
  done_prev = λ ix below. absurd (omega (arith, below));
  no_other = λ at hash below. absurd (omega (arith, below));
  rest = λ j from. refl;
  rest_next = λ j from here. refl;
  rest_prev = λ j from here. refl;
}

module _
    (name : ℕ → ℕ) (old : List Link)
    (one_name : HaveOwnNames name (filed_by old))
    (falling : (ix : ℕ) → IsSome (finite.get (filed_by old) ix) → name ix ≤ ix)
  where
    pub Renaming-all :
        (now : List Link) (place : ℕ)
        → Renaming name old now place
        → length old ≤ place
        → length now ≤ place
        → RenamesLinks name old now
    Renaming-all now place was whole_old whole_now = record {
      filed = record {
        each = λ ix hash here. was.done ix hash (within ix (filed_at _ hash here)) here;
        no_other = λ at hash here.
            let (ix, below, named, stood) =
            was.no_other at hash (omega (arith, whole_now, below-filed_by now at (filed_at _ hash here))) here in
            (ix, named, stood);
      };
      nexts = λ ix here. was.done_next ix (within ix here) here;
      prevs = λ ix here. was.done_prev ix (within ix here) here;
    }
      where
        within : (ix : ℕ) → IsSome (finite.get (filed_by old) ix) → ix < place
        within ix here = omega (arith, whole_old, below-filed_by old ix here)

    -- a place without an index
    pub Renaming-past :
        (now : List Link) (place : ℕ)
        → Renaming name old now place
        → (IsSome (finite.get (filed_by now) place) → ⊥)
        → Renaming name old now (place + 1)
    Renaming-past now place was none = record {
      done = λ ix hash below here. was.done ix hash (less ix below (filed_at _ hash here)) here;
      done_next = λ ix below here. was.done_next ix (less ix below here) here;
      done_prev = λ ix below here. was.done_prev ix (less ix below here) here;
      no_other = λ at hash below here.
          let apart : at ≢ place =
          λ same. none (subst (λ k. IsSome (finite.get (filed_by now) k)) same (filed_at _ hash here)) in
          let (ix, low, named, stood) = was.no_other at hash (omega (arith, below, apart)) here in
          (ix, omega (arith, low), named, stood);
      rest = λ j from. was.rest j (omega (arith, from));
      rest_next = λ j from. was.rest_next j (omega (arith, from));
      rest_prev = λ j from. was.rest_prev j (omega (arith, from));
    }
      where
        less : (ix : ℕ) → ix < place + 1 → IsSome (finite.get (filed_by old) ix) → ix < place
        less ix below here =
            let apart : ix ≢ place =
            λ same. none (subst (λ k. IsSome (finite.get (filed_by now) k)) same
            (rw (was.rest ix (omega (arith, same))) here)) in
            omega (arith, below, apart)

    -- a place whose index is taken out, and put back under its new name
    module _
        (now taken : List Link) (place hash : ℕ) (was : Renaming name old now place)
        (here : finite.get (filed_by now) place ≡ Some hash)
        (taken_filed : filed_by taken ≡ finite.remove (filed_by now) place)
        (taken_next : (j : ℕ) → j ≢ place → next_of taken j ≡ next_of now j)
        (taken_prev : (j : ℕ) → j ≢ place → prev_of taken j ≡ prev_of now j)
      where
        stood : finite.get (filed_by old) place ≡ Some hash
        stood = sym (was.rest place (omega arith)) ∙ here

        low : name place ≤ place
        low = falling place (filed_at _ hash stood)

        -- another index that is done has another name, below the place
        apart : (ix : ℕ) → ix < place → IsSome (finite.get (filed_by old) ix) → name ix ≢ name place
        apart ix below there same =
            let one = one_name ix place there (filed_at _ hash stood) same in
            omega (arith, below, one)

        name_below : (ix : ℕ) → ix < place → IsSome (finite.get (filed_by old) ix) → name ix ≢ place
        name_below ix below there same =
            let falls = falling ix there in
            omega (arith, below, falls, same)

        pub name_free : finite.get (filed_by taken) (name place) ≡ None
        name_free =
            elim (finite.get (filed_by taken) (name place)) as (λ o. finite.get (filed_by taken) (name place) ≡ o
            → o ≡ None) [
              | Some h ↦ λ is. absurd (never h is)
              | None ↦ λ _. refl
            ] refl
          where
            never : (h : ℕ) → finite.get (filed_by taken) (name place) ≡ Some h → ⊥
            never h is =
                elim (cases_eq (name place) place) [
                  | inl same ↦
                      let gone : finite.get (filed_by taken) (name place) ≡ None =
                      rw (taken_filed, same) (get-remove_at (filed_by now) place) in
                      let never : None ≡ Some h = sym gone ∙ is in
                      cc
                  | inr other ↦
                      let left : finite.get (filed_by now) (name place) ≡ Some h =
                      sym (get-remove_other (filed_by now) place (name place) other)
                      ∙ sym (ap (λ m. finite.get m (name place)) taken_filed) ∙ is in
                      let (ix, below, named, there) = was.no_other (name place) h (omega (arith, low, other)) left in
                      apart ix below (filed_at _ h there) named
                ]

        module _
            (new : List Link) (next prev : ℕ)
            (next_is : next ≡ renamed name (next_of now place))
            (prev_is : prev ≡ renamed name (prev_of now place))
            (new_filed : filed_by new ≡ finite.insert (filed_by taken) (name place) hash)
            (new_next : (j : ℕ) → next_of new j ≡ (if j == name place then next else next_of taken j))
            (new_prev : (j : ℕ) → prev_of new j ≡ (if j == name place then prev else prev_of taken j))
          where
            get_other : (j : ℕ) → j ≢ name place → j ≢ place → finite.get (filed_by new) j ≡ finite.get (filed_by now) j
            get_other j other away =
                ap (λ m. finite.get m j) new_filed ∙ get-insert_other (filed_by taken) (name place) hash j other
                ∙ ap (λ m. finite.get m j) taken_filed ∙ get-remove_other (filed_by now) place j away

            get_named : finite.get (filed_by new) (name place) ≡ Some hash
            get_named = ap (λ m. finite.get m (name place)) new_filed ∙ get-insert_at (filed_by taken) (name place) hash

            next_away : (j : ℕ) → j ≢ name place → j ≢ place → next_of new j ≡ next_of now j
            next_away j other away = new_next j ∙ at_other j (name place) next _ other ∙ taken_next j away

            prev_away : (j : ℕ) → j ≢ name place → j ≢ place → prev_of new j ≡ prev_of now j
            prev_away j other away = new_prev j ∙ at_other j (name place) prev _ other ∙ taken_prev j away

            next_named : next_of new (name place) ≡ renamed name (next_of old place)
            next_named =
                new_next (name place) ∙ at_place (name place) next _ ∙ next_is
                ∙ ap (renamed name) (was.rest_next place (omega arith) (filed_at _ hash stood))

            prev_named : prev_of new (name place) ≡ renamed name (prev_of old place)
            prev_named =
                new_prev (name place) ∙ at_place (name place) prev _ ∙ prev_is
                ∙ ap (renamed name) (was.rest_prev place (omega arith) (filed_at _ hash stood))

            pub Renaming-on : Renaming name old new (place + 1)
            Renaming-on = record {
              done = λ ix h below there.
                  elim (cases_eq ix place) [
                    | inl same ↦
                        let hashed : hash ≡ h =
                        one_hash _ hash h stood (ap (finite.get (filed_by old)) (sym same) ∙ there) in
                        ap (λ k. finite.get (filed_by new) (name k)) same ∙ get_named ∙ ap Some hashed
                    | inr other ↦
                        let less : ix < place = omega (arith, below, other) in
                        let is = filed_at _ h there in
                        get_other (name ix) (apart ix less is) (name_below ix less is) ∙ was.done ix h less there
                  ];
              done_next = λ ix below is.
                  elim (cases_eq ix place) [
                    | inl same ↦
                        ap (λ k. next_of new (name k)) same ∙ next_named
                        ∙ ap (λ k. renamed name (next_of old k)) (sym same)
                    | inr other ↦
                        let less : ix < place = omega (arith, below, other) in
                        next_away (name ix) (apart ix less is) (name_below ix less is) ∙ was.done_next ix less is
                  ];
              done_prev = λ ix below is.
                  elim (cases_eq ix place) [
                    | inl same ↦
                        ap (λ k. prev_of new (name k)) same ∙ prev_named
                        ∙ ap (λ k. renamed name (prev_of old k)) (sym same)
                    | inr other ↦
                        let less : ix < place = omega (arith, below, other) in
                        prev_away (name ix) (apart ix less is) (name_below ix less is) ∙ was.done_prev ix less is
                  ];
              no_other = λ at h below there. others at h below there (cases_eq at (name place));
              rest =
                  λ j from. get_other j (λ same. absurd (omega (arith, from, low, same)))
                  (λ same. absurd (omega (arith, from, same))) ∙ was.rest j (omega (arith, from));
              rest_next =
                  λ j from is. next_away j (λ same. absurd (omega (arith, from, low, same)))
                  (λ same. absurd (omega (arith, from, same))) ∙ was.rest_next j (omega (arith, from)) is;
              rest_prev =
                  λ j from is. prev_away j (λ same. absurd (omega (arith, from, low, same)))
                  (λ same. absurd (omega (arith, from, same))) ∙ was.rest_prev j (omega (arith, from)) is;
            }
              where
                others :
                    (at h : ℕ)
                    → at < place + 1
                    → finite.get (filed_by new) at ≡ Some h
                    → ((at ≡ name place) ⊎ (at ≢ name place))
                    → (ix : ℕ) × (ix < place + 1) × (name ix ≡ at) × (finite.get (filed_by old) ix ≡ Some h)
                others at h below there (inl same) =
                    let hashed : hash ≡ h =
                    one_hash _ hash h get_named (ap (finite.get (filed_by new)) (sym same) ∙ there) in
                    (place, omega arith, sym same, stood ∙ ap Some hashed)
                others at h below there (inr other) =
                    let left : finite.get (finite.remove (filed_by now) place) at ≡ Some h =
                    sym (ap (λ m. finite.get m at) new_filed
                    ∙ get-insert_other (filed_by taken) (name place) hash at other
                    ∙ ap (λ m. finite.get m at) taken_filed) ∙ there in
                    let away : at ≢ place =
                    λ same. absurd (let never : None ≡ Some h = sym (get-remove_at (filed_by now) place)
                    ∙ ap (finite.get (finite.remove (filed_by now) place)) (sym same) ∙ left in cc) in
                    let (ix, less, named, is) =
                    was.no_other at h (omega (arith, below, away))
                    (sym (get-remove_other (filed_by now) place at away) ∙ left) in
                    (ix, omega (arith, less), named, is)

        -- the new name isn't that of a neighbour
        pub neighbour_apart :
            (prev : ℕ)
            → AreNeighbours (filed_by old) (next_of old) (prev_of old)
            → prev ≡ renamed name (prev_of now place)
            → place < sentinel
            → prev ≢ name place
        neighbour_apart prev neighbours is small same =
            let there = filed_at _ hash stood in
            let was_prev = was.rest_prev place (omega arith) there in
            elim (cases_eq (prev_of now place) sentinel) [
              | inl none ↦
                  let ends : name place ≡ sentinel = sym same ∙ is ∙ renamed_none name _ none in
                  absurd (omega (arith, ends, low, small))
              | inr leads ↦
                  let named : name (prev_of old place) ≡ name place =
                  ap name (sym was_prev) ∙ sym (renamed_some name _ leads) ∙ sym is ∙ same in
                  let stands = neighbours.prevs place there (λ none. leads (was_prev ∙ none)) in
                  neighbours.others place there (one_name (prev_of old place) place stands there named)
            ]
