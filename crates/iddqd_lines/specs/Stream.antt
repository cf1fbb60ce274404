-- How a source and a sink fail.
use Rattle.std.specs.Prelude.{◌≡◌, Bool, true, Result, is_ok, if◌then◌else◌}

-- a call that fails leaves the stream failed; any other call doesn't change whether it has failed
abbrev pub FailsOnErr : {A E : Type 0} → Bool → Result A E → Bool → Type 0
FailsOnErr old result new = new ≡ (if is_ok result then old else true)
