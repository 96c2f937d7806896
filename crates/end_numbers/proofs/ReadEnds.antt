-- What is read of a number.
use Rattle.std.proofs.Common.{◌≡◌, ℕ, List, length, Some, sym, ◌∙◌, ap}
use Rattle.std.specs.List.{slice_get}
use Rattle.std.proofs.lemmas.List.{length-map}
use Rattle.std.proofs.lemmas.Option.{same_Some}
use Rattle.list_laws.proofs.Places.{at_map}
use Rattle.end_numbers.specs.declared.key.EndKey.{EndKey}
use Rattle.end_numbers.specs.Ends.{End}
use Rattle.end_numbers.specs.Keys.{ends_from, key_end}

-- there are as many ends as keys
pub ends_length : (rows : List (List ℕ)) (keys : List EndKey) (ends : List End) → ends_from rows keys ≡ ends → length keys ≡ length ends
unfolding ends_from
ends_length rows keys ends view = sym (length-map keys (key_end rows)) ∙ ap length view

-- the end of the key of a number stands at the number
pub end_at : (rows : List (List ℕ)) (keys : List EndKey) (ends : List End) (number : ℕ) (key : EndKey) → ends_from rows keys ≡ ends
    → slice_get keys number ≡ Some key → slice_get ends number ≡ Some (key_end rows key)
unfolding ends_from
end_at rows keys ends number key view at = ap (λ (es : List End). slice_get es number) (sym view) ∙ at_map (key_end rows) keys number key at

-- and is what is found there
pub end_found : (rows : List (List ℕ)) (keys : List EndKey) (ends : List End) (number : ℕ) (key : EndKey) (e : End) → ends_from rows keys ≡ ends
    → slice_get keys number ≡ Some key → slice_get ends number ≡ Some e → key_end rows key ≡ e
end_found rows keys ends number key e view at found = same_Some _ _ (sym (end_at rows keys ends number key view at) ∙ found)
