-- For maps: which items pass a test, and which a closure may be asked about.
use Rattle.std.proofs.Common.{◌≡◌, ◌∙◌, ⊎_elim, Bool, true, false, cond, List, [], ◌∷◌, filter, refl, sym, ap, subst}
use Rattle.std.specs.List.{Contains}
use Rattle.iddqd.proofs.StoreLemmas.{contains_head, contains_tail, contains_cases, contains_none}
use Rattle.iddqd_hash.specs.Asks.{CanAsk, CanAskInTurn}

-- a member of a list that passes a test is one of those that pass
pub Contains-passing :
    {X : Type 0} (test : X → Bool) (xs : List X) (x : X)
    → Contains xs x
    → test x ≡ true
    → Contains (filter test xs) x
Contains-passing test [] x here is = absurd (contains_none x here)
Contains-passing test (y ∷ xs) x here is =
    elim (test y) as (λ b. test y ≡ b → Contains (cond b (y ∷ filter test xs) (filter test xs)) x) [
      | true ↦
          λ _. ⊎_elim (λ same. subst (λ z. Contains (z ∷ filter test xs) x) (sym same)
          (contains_head x (filter test xs)))
          (λ rest. contains_tail y x (filter test xs) (Contains-passing test xs x rest is))
          (contains_cases y x xs here)
      | false ↦
          λ other. ⊎_elim (λ same. absurd (let never : true ≡ false = sym is ∙ ap test (sym same) ∙ other in cc))
          (λ rest. Contains-passing test xs x rest is) (contains_cases y x xs here)
    ] refl

-- a closure that may be called with some items may be with fewer
module _ {F T : Type 0} (takes : F → T → Type 0) (ask : F → T → Bool → F → Type 0) where
  pub CanAsk-among :
      (f : F) (xs ys : List T)
      → ((y : T) → Contains ys y → Contains xs y)
      → CanAsk takes ask f xs
      → CanAsk takes ask f ys
  CanAsk-among f xs ys among can = record { at = λ zs. in_turn zs f (can.at zs) }
    where
      in_turn : (zs : List T) (f : F) → CanAskInTurn takes ask f xs zs → CanAskInTurn takes ask f ys zs
      in_turn [] f can = tt
      in_turn (z ∷ zs) f can = λ here.
          let one = can (among z here) in (one.0, λ b f' called. in_turn zs f' (one.1 b f' called))
