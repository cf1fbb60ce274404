use Rattle.iddqd_order.proofs.Names.{[], ◌∷◌, ◌++◌, ◌≡◌, ◌∙◌, List, ℕ, ap, append_assoc, out-roll-Node}
use Rattle.iddqd_order.proofs.btree_table.node.Node.join.Goals as goal

-- an index and a row behind another one
joined :
    (xs ys zs pushed appended : List ℕ) (x : ℕ)
    → pushed ≡ xs ++ x ∷ []
    → zs ≡ pushed
    → appended ≡ zs ++ ys
    → appended ≡ xs ++ x ∷ ys
joined xs ys zs pushed appended x p z a =
    a ∙ ap (λ l. l ++ ys) (z ∙ p) ∙ append_assoc xs (x ∷ []) ys

pub returns-then-is_empty-clause-row : goal.returns-then-is_empty-clause-row
returns-then-is_empty-clause-row c =
    ap (λ n. n.row) (out-roll-Node _)
    ∙ joined _ _ _ _ _ c.args.middle c.push.ensures (ap (λ n. n.row) (out-roll-Node _)) c.append.ensures

pub returns-clause-row : goal.returns-clause-row
returns-clause-row c =
    ap (λ n. n.row) (out-roll-Node _) ∙ ap (λ n. n.row) (out-roll-Node _)
    ∙ joined _ _ _ _ _ c.args.middle c.push.ensures (ap (λ n. n.row) (out-roll-Node _)) c.append.ensures

pub put_back-requires-clause-some : goal.put_back-requires-clause-some
put_back-requires-clause-some c = c.requires.some
