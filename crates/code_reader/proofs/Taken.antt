-- Bytes that were taken are no more than there were.
use Rattle.std.proofs.Common.{◌≡◌, ℕ, ◌≤◌, ltb, List, length, take, Ok, ap, arith}
use Rattle.std.proofs.lemmas.List.{length-take}
use Rattle.byte_reader.specs.Reading.{Place, bytes_at, after}
use Rattle.byte_reader.proofs.Fields.{guard_ok}

pub no_more : (n : ℕ) (place stopped : Place) (bytes : List ℕ) → bytes_at n place ≡ Ok (bytes, stopped) → length bytes ≤ length place.rest
no_more n place stopped bytes e =
    let g = guard_ok (ltb (length place.rest) n) _ (take n place.rest, after n place) (bytes, stopped) e in
    omega (arith, ap (λ (x : List ℕ × Place). length x.0) g.1, length-take n place.rest)
