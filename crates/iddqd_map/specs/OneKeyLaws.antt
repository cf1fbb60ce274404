-- What a table by a unique key reports of an item that has the key of a stored one: one index.
use Rattle.std.specs.Prelude.{◌≡◌, ◌≤◌, ◌↔◌, ℕ, Bool, List, [], ◌∷◌, length, Some}
use Rattle.std.proofs.Common.{sym, subst, arith}
use Rattle.std.specs.List.{Contains}
use Rattle.iddqd.specs.Store.{Store}
use Rattle.iddqd.proofs.StoreLemmas.{contains_head}
use Rattle.iddqd_keys.specs.Scan.{IsHit, AnswersScan}

-- the reported index is the only one whose item passes the test
pub reported_one :
    {T : Type 0} (s : Store T) (test : T → Bool) (at : ℕ)
    → AnswersScan s test (Some at)
    → (ix : ℕ)
    → (ix ≡ at) ↔ IsHit s test ix
reported_one s test at scan ix = ((scan ix).1, (scan ix).0)

-- at most one index is reported
pub few_one : (at : ℕ) → (l : List ℕ) × (length l ≤ 1) × ((ix : ℕ) → ix ≡ at → Contains l ix)
few_one at = (at ∷ [], omega arith, λ ix is. subst (Contains (at ∷ [])) (sym is) (contains_head at []))
