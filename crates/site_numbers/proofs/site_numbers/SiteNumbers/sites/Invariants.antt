use Rattle.std.proofs.Common.{◌≡◌, map, take}
use Rattle.site_numbers.specs.Words.{site_of}
use Rattle.site_numbers.proofs.site_numbers.SiteNumbers.sites.Given as goal

abbrev pub invariant-loop-key : goal.invariant-loop-key
invariant-loop-key l = record { copied : l.sites.items ≡ map site_of (take l.key-index l.key-items) }
