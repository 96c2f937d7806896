-- Public contracts rest on this module.
-- How two paths stand in the order.
use Rattle.std.specs.Prelude.{ℕ, List, if◌then◌else◌}
use Rattle.std.specs.Str.{bytes_eq}
use Rattle.std.specs.declared.cmp.Ordering.{Ordering}
use Rattle.std.specs.declared.cmp.Ordering.TheVariants.{Less, Equal, Greater}
use Rattle.access_paths.specs.Paths.{Path, comes_before, path_key}

-- The first list comes before the second, is the same, or comes behind it.
abbrev pub key_order : List ℕ → List ℕ → Ordering
key_order ms ns = if comes_before ms ns then Less else if bytes_eq ms ns then Equal else Greater

-- The order of their keys.
abbrev pub path_order : Path → Path → Ordering
path_order x y = key_order (path_key x) (path_key y)
