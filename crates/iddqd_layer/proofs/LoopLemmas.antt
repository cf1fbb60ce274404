-- Loops over the tables of a layer.
use Rattle.std.proofs.Common.{◌≡◌, ◌∙◌, ℕ, ◌+◌, ◌<◌, ◌≤◌, List, length, get_or, set, refl, sym, ap, subst, arith, inl, inr, get_or-set_other, get_or-set_same, length-set}
use Rattle.std.proofs.lemmas.Bool.{cases_eq, cases_lt}
use Rattle.std.proofs.lemmas.List.{get_or_default}
use Rattle.iddqd_layer.specs.Layer.{Each, EachBy}

-- the first i members are done, and the others as they were
pub record Halfway {A : Type 0} (P : ℕ → A → A → Type 0) (i : ℕ) (old now : List A) : Type 0 where
  pub long : length now ≡ length old
  pub done : (k : ℕ) (a : A) → k < i → k < length old → P k (get_or old k a) (get_or now k a)
  pub left : (k : ℕ) (a : A) → i ≤ k → get_or now k a ≡ get_or old k a

pub halfway-start : {A : Type 0} (P : ℕ → A → A → Type 0) (xs : List A) → Halfway P 0 xs xs
halfway-start P xs = record { long = refl; done = λ k a lt. absurd (omega arith); left = λ k a le. refl }

pub halfway-next :
    {A : Type 0} (P : ℕ → A → A → Type 0) (i : ℕ) (old now new : List A) (v : A)
    → Halfway P i old now
    → i < length old
    → new ≡ set now i v
    → ((a : A) → P i (get_or old i a) v)
    → Halfway P (i + 1) old new
halfway-next P i old now new v h lt is here =
    let long = h.long in
    record {
      long = ap length is ∙ length-set now i v ∙ h.long;
      done = λ k a low within. elim (cases_eq k i) [
        | inl e ↦
            (let at : get_or new k a ≡ v =
            ap (λ z. get_or new z a) e ∙ ap (λ z. get_or z i a) is ∙ get_or-set_same now i v a (omega arith) in
            rw (at, e) (here a))
        | inr ne ↦
            (let at : get_or new k a ≡ get_or now k a = ap (λ z. get_or z k a) is ∙ get_or-set_other now i k v a ne in
            rw at (h.done k a (omega arith) within))
      ];
      left = λ k a le. ap (λ z. get_or z k a) is ∙ get_or-set_other now i k v a (λ e. absurd (omega arith))
          ∙ h.left k a (omega arith);
    }

-- the member that the loop has come to is still the old one
pub here-left :
    {A : Type 0} {P : ℕ → A → A → Type 0} {i : ℕ} {old now : List A} (h : Halfway P i old now) (a b : A)
    → i < length old
    → get_or now i a ≡ get_or old i b
here-left {i = i} {old = old} h a b lt = h.left i a (omega arith) ∙ get_or_default old i a b lt

pub each-done :
    {A : Type 0} (P : A → A → Type 0) (i : ℕ) (old now : List A)
    → Halfway (λ k. P) i old now
    → length old ≤ i
    → Each P old now
each-done P i old now h end = record {
  long = h.long;
  at = λ k a b lt.
      let long = h.long in
      subst (P (get_or old k a)) (get_or_default now k a b (omega arith)) (h.done k a (omega arith) lt);
}

-- a loop that ended early, where what isn't done is as it should be too
pub each-so_far :
    {A : Type 0} (P : A → A → Type 0) (i : ℕ) (old now : List A)
    → ((a : A) → P a a)
    → Halfway (λ k. P) i old now
    → Each P old now
each-so_far P i old now same h = record {
  long = h.long;
  at = λ k a b lt.
      let long = h.long in
      subst (P (get_or old k a)) (get_or_default now k a b (omega arith)) (elim (cases_lt k i) [
        | inl low ↦ h.done k a low lt
        | inr high ↦ subst (P (get_or old k a)) (sym (h.left k a high)) (same (get_or old k a))
      ]);
}

pub each_by-done :
    {A C : Type 0} (P : C → A → A → Type 0) (by : List C) (i : ℕ) (old now : List A)
    → Halfway (λ k a b. (c : C) → P (get_or by k c) a b) i old now
    → length old ≤ i
    → EachBy P by old now
each_by-done P by i old now h end = record {
  long = h.long;
  at = λ k c a b lt.
      let long = h.long in
      subst (P (get_or by k c) (get_or old k a)) (get_or_default now k a b (omega arith))
      (h.done k a (omega arith) lt c);
}
