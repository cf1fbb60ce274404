-- What one write after another does to the bytes of a sink.
use Rattle.std.proofs.Common.{◌≡◌, ◌+◌, ◌<◌, ◌≤◌, ℕ, List, [], ◌++◌, true, cond, take, drop, get_or, length, take_all, Option, Some, None, Result, Ok, Err, IsErr, is_ok, refl, sym, ap, subst, ◌∙◌, append_assoc, append-nil, arith, length-append}
use Rattle.std.specs.List.{flat_map}
use Rattle.std.proofs.lemmas.List.{take_more, flat_map_more, take-append-drop}
use Rattle.std.proofs.lemmas.Grind.{flat_map-append}
use Rattle.std.specs.Io.KnownBytes.{Appends, Keeps, Consumes, IsAtEnd}
use Rattle.iddqd_lines.specs.Replies.{Sends}
use Rattle.iddqd_lines.specs.declared.sink.Sink as sink

pub Appends-trans : (a b c : Option (List ℕ)) (x y : List ℕ) → Appends a b x → Appends b c y → Appends a c (x ++ y)
Appends-trans None b c x y p q = tt
Appends-trans (Some a) None c x y p q = absurd p
Appends-trans (Some a) (Some b) None x y p q = absurd q
Appends-trans (Some a) (Some b) (Some c) x y p q = q ∙ ap (λ l. l ++ y) p ∙ append_assoc a x y

pub Appends-nil : (a : Option (List ℕ)) → Appends a a []
Appends-nil None = tt
Appends-nil (Some a) = sym (append-nil a)

pub Keeps-refl : (a : Option (List ℕ)) → Keeps a a
Keeps-refl None = tt
Keeps-refl (Some a) = refl

-- a write that failed appends nothing
pub Appends-kept : (a b c : Option (List ℕ)) (x : List ℕ) → Appends a b x → Keeps b c → Appends a c x
Appends-kept None b c x p q = tt
Appends-kept (Some a) None c x p q = absurd p
Appends-kept (Some a) (Some b) None x p q = absurd q
Appends-kept (Some a) (Some b) (Some c) x p q = q ∙ p

module _ {O E : Type 0} (g : sink.Ghosts O) where
  -- what is put waits
  pub Sends-put :
      (o : O) (waited text waits : List ℕ)
      → waits ≡ waited ++ text
      → Sends {E = E} g o waited text (Ok tt) o waits
  Sends-put o waited text waits is =
      record { out = []; others = waited ++ text; parts = refl; written = Appends-nil (g.written o); rest = is; lost = tt; failed = refl }

  -- a text, and then another
  pub Sends-then :
      (a b c : O) (waited text mid more waits : List ℕ) (r : Result (Unit {0}) E)
      → Sends {E = E} g a waited text (Ok tt) b mid
      → Sends g b mid more r c waits
      → Sends g a waited (text ++ more) r c waits
  Sends-then a b c waited text mid more waits r p q =
      record {
        out = p.out ++ q.out;
        others = q.others;
        parts =
            sym (append_assoc waited text more) ∙ ap (λ l. l ++ more) p.parts ∙ append_assoc p.out p.others more
            ∙ ap (λ l. p.out ++ l) (ap (λ l. l ++ more) (sym p.rest) ∙ q.parts) ∙ sym (append_assoc p.out q.out q.others);
        written = Appends-trans (g.written a) (g.written b) (g.written c) p.out q.out p.written q.written;
        rest = q.rest;
        lost = q.lost;
        failed = subst (λ f. g.has_failed c ≡ cond (is_ok r) f true) p.failed q.failed;
      }

  -- and then none
  pub Sends-last :
      (a b c : O) (waited text mid waits : List ℕ) (r : Result (Unit {0}) E)
      → Sends {E = E} g a waited text (Ok tt) b mid
      → Sends g b mid [] r c waits
      → Sends g a waited text r c waits
  Sends-last a b c waited text mid waits r p q =
      subst (λ l. Sends g a waited l r c waits) (append-nil text) (Sends-then a b c waited text mid [] waits r p q)

  -- after room was made, more is put
  pub Sends-more :
      (a b c : O) (waited text mid made more waits : List ℕ)
      → Sends {E = E} g a waited text (Ok tt) b mid
      → Sends {E = E} g b mid [] (Ok tt) c made
      → waits ≡ made ++ more
      → Sends {E = E} g a waited (text ++ more) (Ok tt) c waits
  Sends-more a b c waited text mid made more waits p q is =
      Sends-then a b c waited text mid more waits (Ok tt) p (Sends-then b c c mid [] made more waits (Ok tt) q (Sends-put c made more waits is))

  -- where a text failed, one that goes on has
  pub Sends-fails :
      (a b : O) (waited text more waits : List ℕ) (e : E) (r : Result (Unit {0}) E)
      → IsErr r
      → Sends g a waited text (Err e) b waits
      → Sends g a waited (text ++ more) r b waits
  Sends-fails a b waited text more waits e (Ok u) err p = absurd (cc)
  Sends-fails a b waited text more waits e (Err d) err p =
      record {
        out = p.out;
        others = p.others ++ more;
        parts = sym (append_assoc waited text more) ∙ ap (λ l. l ++ more) p.parts ∙ append_assoc p.out p.others more;
        written = p.written;
        rest = tt;
        lost = omega (arith, p.lost, length-append p.others more);
        failed = p.failed;
      }

  -- bytes that a sink took
  pub Sends-write :
      (a b : O) (bytes : List ℕ)
      → Appends (g.written a) (g.written b) bytes
      → g.has_failed b ≡ g.has_failed a
      → Sends {E = E} g a [] bytes (Ok tt) b []
  Sends-write a b bytes written failed =
      record { out = bytes; others = []; parts = sym (append-nil bytes); written = written; rest = refl; lost = tt; failed = failed }

  -- bytes of which it took none
  pub Sends-break :
      (a b : O) (bytes : List ℕ) (r : Result (Unit {0}) E)
      → IsErr r
      → Keeps (g.written a) (g.written b)
      → g.has_failed b ≡ true
      → 0 < length bytes
      → Sends g a [] bytes r b []
  Sends-break a b bytes (Ok u) err kept failed some = absurd (cc)
  Sends-break a b bytes (Err e) err kept failed some =
      record { out = []; others = bytes; parts = refl; written = Appends-kept _ _ _ [] (Appends-nil (g.written a)) kept; rest = tt; lost = some; failed = failed }

  -- where all went well and none waits, the text was written
  pub Sends-all :
      (a b : O) (text : List ℕ)
      → Sends {E = E} g a [] text (Ok tt) b []
      → Appends (g.written a) (g.written b) text
  Sends-all a b text p =
      let all : text ≡ p.out = p.parts ∙ ap (λ l. p.out ++ l) (sym p.rest) ∙ append-nil p.out in
      subst (Appends (g.written a) (g.written b)) (sym all) p.written

  module _
      {X : Type 0} (text : X → List ℕ) (xs : List X) (i : ℕ) (a b c : O) (waited mid : List ℕ)
      (so_far : Sends {E = E} g a waited (flat_map text (take i xs)) (Ok tt) b mid)
    where
      -- the text of one element more is sent, after room was made for it
      pub Sends-element :
          (x : X)
          → i < length xs
          → x ≡ get_or xs i x
          → (made waits : List ℕ)
          → Sends {E = E} g b mid [] (Ok tt) c made
          → waits ≡ made ++ text x
          → Sends {E = E} g a waited (flat_map text (take (i + 1) xs)) (Ok tt) c waits
      Sends-element x within here made waits room is =
          rw (take_more xs i x within, ← here, ← flat_map_more text [] (take i xs) x)
          (Sends-more a b c waited (flat_map text (take i xs)) mid made (text x) waits so_far room is)

      -- the text of all is sent
      pub Sends-end :
          length xs ≤ i
          → (waits : List ℕ) (r : Result (Unit {0}) E)
          → Sends g b mid [] r c waits
          → Sends g a waited (flat_map text xs) r c waits
      Sends-end all waits r room =
          subst (λ l. Sends g a waited (flat_map text l) r c waits) (take_all i xs all) (Sends-last a b c waited (flat_map text (take i xs)) mid waits r so_far room)

      -- the text of all, where it failed at an element
      pub Sends-stop :
          (waits : List ℕ) (e : E) (r : Result (Unit {0}) E)
          → IsErr r
          → Sends g b mid [] (Err e) c waits
          → Sends g a waited (flat_map text xs) r c waits
      Sends-stop waits e r err room =
          subst (λ l. Sends g a waited l r c waits)
          (sym (flat_map-append text (take i xs) (drop i xs)) ∙ ap (flat_map text) (take-append-drop i xs))
          (Sends-fails a c waited (flat_map text (take i xs)) (flat_map text (drop i xs)) waits e r err (Sends-last a b c waited (flat_map text (take i xs)) mid waits (Err e) so_far room))

-- what two reads took off the bytes
pub Consumes-trans : (a b c : Option (List ℕ)) (x y : List ℕ) → Consumes a b x → Consumes b c y → Consumes a c (x ++ y)
Consumes-trans None b c x y p q = tt
Consumes-trans (Some a) None c x y p q = absurd p
Consumes-trans (Some a) (Some b) None x y p q = absurd q
Consumes-trans (Some a) (Some b) (Some c) x y p q = p ∙ ap (λ l. x ++ l) q ∙ sym (append_assoc x y c)

-- a read that failed takes none
pub Consumes-kept : (a b c : Option (List ℕ)) (x : List ℕ) → Consumes a b x → Keeps b c → Consumes a c x
Consumes-kept None b c x p q = tt
Consumes-kept (Some a) None c x p q = absurd p
Consumes-kept (Some a) (Some b) None x p q = absurd q
Consumes-kept (Some a) (Some b) (Some c) x p q = p ∙ ap (λ l. x ++ l) (sym q)

-- at the end all bytes were taken
pub Consumes-all :
    (bytes : List ℕ) (left : Option (List ℕ)) (seen : List ℕ)
    → Consumes (Some bytes) left seen
    → IsAtEnd left
    → bytes ≡ seen
Consumes-all bytes None seen p q = absurd p
Consumes-all bytes (Some rest) seen p q = p ∙ ap (λ l. seen ++ l) q ∙ append-nil seen

-- what was taken is a beginning of the bytes
pub Consumes-rest :
    (bytes : List ℕ) (left : Option (List ℕ)) (seen : List ℕ)
    → Consumes (Some bytes) left seen
    → (rest : List ℕ) × (bytes ≡ seen ++ rest)
Consumes-rest bytes None seen p = absurd p
Consumes-rest bytes (Some rest) seen p = (rest, p)
