-- Users by their names, and why one isn't signed up or renamed.
use Rattle.std.specs.Prelude.{◌≡◌, ◌+◌, ◌-◌, ◌^◌, ◌==◌, ℕ, Bool, not, List, min}
use Rattle.std.specs.Str.{bytes_eq}
use Rattle.std.specs.String.{string_bytes}
use Rattle.iddqd_maps.specs.Map.{MapState, IsOnly, room}
use Rattle.iddqd_maps.specs.Scan.{HasNoHit}
use Rattle.iddqd_maps.specs.Store.{IsFull, Store, rebound}
use Rattle.uses.specs.Exchanges.{HasHit, HitsBeside}
use Rattle.uses.specs.declared.users.User.{User}
use Rattle.uses.specs.declared.users.RenameError.{RenameError}
use Rattle.uses.specs.declared.users.RenameError.TheVariants.{Missing, Taken as NewNameTaken}
use Rattle.uses.specs.declared.users.SignUpError.{SignUpError}
use Rattle.uses.specs.declared.users.SignUpError.TheVariants.{Taken, Full, Memory}

-- the user has this name
abbrev pub is_named : List ℕ → User → Bool
is_named name user = bytes_eq name (string_bytes user.name)

-- the users have one name
abbrev pub same_name : User → User → Bool
same_name x y = is_named (string_bytes x.name) y

abbrev pub has_logged_in : User → Bool
has_logged_in user = not (user.logins == 0)

-- the one user who passes the test has logged in once more, so often now, and all else stays
pub record LogsIn (test : User → Bool) (count : ℕ) (old new : MapState User) : Type 0 where
  pub ix : ℕ
  pub was : User
  pub found : IsOnly old.store test ix was
  pub counted : count ≡ min (was.logins + 1) (2 ^ 32 - 1)
  pub left : new.store ≡ rebound old.store ix (record was { logins = count })
  pub memory : new.memory ≡ old.memory

-- why nobody was signed up under a name
abbrev pub IsWhyNotSignedUp : List ℕ → MapState User → SignUpError → Type 0
IsWhyNotSignedUp name old Taken = HasHit old.store (is_named name)
IsWhyNotSignedUp name old Full = HasNoHit old.store (is_named name) × IsFull old.store
IsWhyNotSignedUp name old Memory = HasNoHit old.store (is_named name) × (IsFull old.store → ⊥) × (room old ≡ 0)

-- why a user of one name didn't get another
abbrev pub IsWhyNotRenamed : List ℕ → List ℕ → Store User → RenameError → Type 0
IsWhyNotRenamed from to s Missing = HasNoHit s (is_named from)
IsWhyNotRenamed from to s NewNameTaken = HitsBeside s (is_named from) (is_named to)
