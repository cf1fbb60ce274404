-- For callers: which indexes an ordered table keeps where the closure of `retain` answers by a test.
use Rattle.std.proofs.Common.{◌≡◌, ◌∙◌, ℕ, List, [], ◌∷◌, map, filter, cond, Bool, true, false, refl, ap}
use Rattle.std.specs.Fn.{Called, Mut}
use Rattle.std.specs.List.{FoldsTo}
use Rattle.iddqd_order.specs.Retain.{Retains}

-- the closure answers by the test in each state that it comes to
module _
    {F : Type 0} (g : Mut F (ℕ × Unit {0}) Bool) (I : F → Type 0) (test : ℕ → Bool)
    (says : (f f' : F) (ix : ℕ) (b : Bool) → I f → Called g f (ix, tt) b f' → I f' × (b ≡ test ix))
  where
    kept_by_test :
        (asks : List (ℕ × Bool)) (f last : F)
        → I f
        → FoldsTo (λ p (a : ℕ × Bool) q. Called g p (a.0, tt) a.1 q) f asks last
        → map (λ (a : ℕ × Bool). a.0) (filter (λ (a : ℕ × Bool). a.1) asks)
        ≡ filter test (map (λ (a : ℕ × Bool). a.0) asks)
    kept_by_test [] f last i steps = refl
    kept_by_test (a ∷ asks) f last i (next, asked, steps) =
        let (later, same) = says f next a.0 a.1 i asked in
        let rest = kept_by_test asks next last later steps in
        let more : List (ℕ × Bool) = filter (λ (a : ℕ × Bool). a.1) asks in
        let tested : List ℕ = filter test (map (λ (a : ℕ × Bool). a.0) asks) in
        rw (← same)
        (elim a.1 as (λ b. map (λ (a : ℕ × Bool). a.0) (cond b (a ∷ more) more) ≡ cond b (a.0 ∷ tested) tested) [
          | true ↦ ap (λ l. a.0 ∷ l) rest
          | false ↦ rest
        ])

    pub Retains-test : (f : F) (old new : List ℕ) → I f → Retains g f old new → new ≡ filter test old
    Retains-test f old new i r =
        r.kept.kept ∙ kept_by_test r.kept.asks f r.last i r.kept.were_asked ∙ ap (filter test) r.kept.each_once
