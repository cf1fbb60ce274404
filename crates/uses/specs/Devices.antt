-- Devices by their four keys.
use Rattle.std.specs.Prelude.{◌==◌, ◌||◌, ℕ, Bool, List}
use Rattle.std.specs.Str.{bytes_eq}
use Rattle.std.specs.String.{string_bytes}
use Rattle.uses.specs.declared.devices.Device.{Device}

-- the device has this name
abbrev pub is_named : List ℕ → Device → Bool
is_named name device = bytes_eq name (string_bytes device.name)

-- the devices share a key
abbrev pub share_key : Device → Device → Bool
share_key x y =
    (x.serial == y.serial || x.address == y.address) || (x.tag == y.tag || is_named (string_bytes x.name) y)
