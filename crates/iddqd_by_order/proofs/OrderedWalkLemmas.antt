-- For callers too: a run of a list.
use Rattle.std.proofs.Common.{◌≡◌, ◌∙◌, ◌-◌, ℕ, nat_eq, false, List, [], ◌∷◌, ◌++◌, take, drop, sym, ap, subst}
use Rattle.std.specs.List.{AllByRecursion, Contains, IsDistinct}
use Rattle.std.proofs.lemmas.List.{take-append-drop}
use Rattle.std.proofs.lemmas.List.Elements.{Contains-append_left, Contains-append_right}
use Rattle.std.proofs.lemmas.Map.Keys.{IsDistinct-cons, IsDistinct-head, IsDistinct-tail}
use Rattle.iddqd_order.specs.Cursor.{part}
use Rattle.iddqd_by_order.specs.OrderedWalk.{IsRunOf}

pub IsRunOf-part : (xs : List ℕ) (from to : ℕ) → IsRunOf xs (part from to xs)
IsRunOf-part xs from to = record {
  before = take from xs;
  after = drop (to - from) (drop from xs);
  joined =
      sym (take-append-drop from xs)
      ∙ ap (λ rest. take from xs ++ rest) (sym (take-append-drop (to - from) (drop from xs)));
}

pub Contains-run : (xs run : List ℕ) → IsRunOf xs run → (x : ℕ) → Contains run x → Contains xs x
Contains-run xs run is x here =
    subst (λ l. Contains l x) (sym is.joined)
    (Contains-append_right is.before (run ++ is.after) x (Contains-append_left run is.after x here))

all_left : (P : ℕ → Type 0) (xs ys : List ℕ) → AllByRecursion P (xs ++ ys) → AllByRecursion P xs
all_left P [] ys all = tt
all_left P (x ∷ xs) ys all = (all.0, all_left P xs ys all.1)

distinct_left : (xs ys : List ℕ) → IsDistinct nat_eq (xs ++ ys) → IsDistinct nat_eq xs
unfolding IsDistinct
distinct_left [] ys once = tt
distinct_left (x ∷ xs) ys once =
    IsDistinct-cons nat_eq x xs
    (all_left (λ y. nat_eq x y ≡ false) xs ys (IsDistinct-head nat_eq x (xs ++ ys) once))
    (distinct_left xs ys (IsDistinct-tail nat_eq x (xs ++ ys) once))

distinct_right : (xs ys : List ℕ) → IsDistinct nat_eq (xs ++ ys) → IsDistinct nat_eq ys
distinct_right [] ys once = once
distinct_right (x ∷ xs) ys once = distinct_right xs ys (IsDistinct-tail nat_eq x (xs ++ ys) once)

pub IsDistinct-run : (xs run : List ℕ) → IsRunOf xs run → IsDistinct nat_eq xs → IsDistinct nat_eq run
IsDistinct-run xs run is once =
    distinct_left run is.after (distinct_right is.before (run ++ is.after) (subst (IsDistinct nat_eq) is.joined once))
