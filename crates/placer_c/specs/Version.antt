-- The version that the library tells at run time: that of include/placer.h, in one number.
use Rattle.std.specs.Prelude.{ℕ, ◌+◌, ◌*◌}

-- a million for each major version, a thousand for each minor one
abbrev pub version_number : ℕ → ℕ → ℕ → ℕ
version_number major minor patch = major * 1000000 + minor * 1000 + patch

-- 1.0.0
abbrev pub version : ℕ
version = version_number 1 0 0
