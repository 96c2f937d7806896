-- Public contracts rest on this module.
-- Access flags (JVMS 4.1, 4.5, 4.6).
use Rattle.std.specs.Prelude.{ℕ, Bool, not, ◌==◌, bit_and}
use Rattle.jvm_model.specs.declared.access.AccessFlag.{AccessFlag}
use Rattle.jvm_model.specs.declared.access.AccessFlag.TheVariants.{Public, Private, Protected, Static, Native, Interface, Abstract}

-- The bit of a flag.
abbrev pub mask_of : AccessFlag → ℕ
mask_of Public = 0x0001
mask_of Private = 0x0002
mask_of Protected = 0x0004
mask_of Static = 0x0008
mask_of Native = 0x0100
mask_of Interface = 0x0200
mask_of Abstract = 0x0400

-- The flag is set.
abbrev pub has_flag : ℕ → AccessFlag → Bool
has_flag flags flag = not (bit_and flags (mask_of flag) == 0)
