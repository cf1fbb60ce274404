-- Accounts by their handles, whatever the case of their letters.
use Rattle.std.specs.Prelude.{◌++◌, ◌∷◌, ℕ, Bool, List, []}
use Rattle.std.specs.Cmp.Lexicographic.{slice_cmp}
use Rattle.std.specs.Hash as fed
use Rattle.std.specs.Ordering.{is_eq, nat_cmp}
use Rattle.std.specs.Str.{str_eq_ignore_ascii_case, str_to_ascii_lowercase}
use Rattle.std.specs.String.{string_bytes}
use Rattle.uses.specs.declared.handles.Account.{Account}

-- the account's handle in small letters
abbrev pub letters : Account → List ℕ
letters account = str_to_ascii_lowercase (string_bytes account.handle)

-- what a text in small letters feeds to a hasher: its bytes, each by itself, and the mark of its end
abbrev pub writes : List ℕ → List (List ℕ)
writes [] = fed.u8 255
writes (byte ∷ rest) = fed.u8 byte ++ writes rest

-- the account has this handle, in any case
abbrev pub has_handle : List ℕ → Account → Bool
has_handle handle account = str_eq_ignore_ascii_case handle (string_bytes account.handle)

-- the account's handle compares as this one, in any case
abbrev pub is_spelled : List ℕ → Account → Bool
is_spelled handle account = is_eq (slice_cmp nat_cmp (str_to_ascii_lowercase handle) (letters account))

-- the accounts have one handle, in any case
abbrev pub same_handle : Account → Account → Bool
same_handle x y = has_handle (string_bytes x.handle) y
