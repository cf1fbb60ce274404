-- Sessions by their keys, and which ends next.
use Rattle.std.specs.Prelude.{◌==◌, ◌||◌, ℕ, Bool}
use Rattle.std.specs.Ordering.{nat_cmp, eq_by_cmp}
use Rattle.uses.specs.declared.sessions.Session.{Session}

-- the session has this id
abbrev pub has_id : ℕ → Session → Bool
has_id id session = id == session.id

-- the session ends at this tick
abbrev pub ends_at : ℕ → Session → Bool
ends_at tick session = eq_by_cmp nat_cmp tick session.ends

-- the sessions share a key
abbrev pub share_key : Session → Session → Bool
share_key x y = x.id == y.id || eq_by_cmp nat_cmp x.ends y.ends

-- the session, but it ends then
abbrev pub ending : ℕ → Session → Session
ending ends session = record session { ends = ends }
