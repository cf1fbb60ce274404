-- Artifacts by their names and versions.
use Rattle.std.specs.Prelude.{◌&&◌, ℕ, Bool, List, String}
use Rattle.std.specs.Str.{bytes_eq}
use Rattle.std.specs.String.{string_bytes}
use Rattle.std.specs.declared.alloc.Global.{Global}
use Rattle.iddqd_maps.specs.Store.{Store}
use Rattle.uses.specs.Updates.{UpdatesHit}
use Rattle.uses.specs.declared.artifacts.Artifact.{Artifact}

-- the artifact has this name and this version
abbrev pub is_called : List ℕ → List ℕ → Artifact → Bool
is_called name version artifact =
    bytes_eq name (string_bytes artifact.name) && bytes_eq version (string_bytes artifact.version)

-- the artifacts have one name and one version
abbrev pub same_artifact : Artifact → Artifact → Bool
same_artifact x y = is_called (string_bytes x.name) (string_bytes x.version) y

-- the artifact with this size
abbrev pub with_size : ℕ → Artifact → Artifact
with_size size artifact = record artifact { size = size }

-- the artifact with this version
abbrev pub with_version : String Global → Artifact → Artifact
with_version version artifact = record artifact { version = version }

-- the artifact with this name and version is at the index, and has the new version now
abbrev pub Releases : Store Artifact → List ℕ → List ℕ → String Global → Store Artifact → ℕ → Type 0
Releases old name version next new ix = UpdatesHit old (is_called name version) ix (with_version next) new
