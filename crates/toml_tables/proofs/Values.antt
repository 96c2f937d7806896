-- What a value of a TOML document is, and what stands at a key, is one thing.
use Rattle.std.proofs.Common.{◌≡◌, ℕ, List, [], ◌∷◌, Option, Some, None, refl, ap}
use Rattle.toml.specs.Data.{Data, string, integer, float, boolean, datetime, array, table, as_str, Items, Members}
use Rattle.toml_tables.specs.Documents.{texts, tables}

pub array_same : (o : Option Data) (items others : Items) → o ≡ Some (array items) → o ≡ Some (array others) → items ≡ others
array_same o items others e f = cc

pub text_same : (o : Option Data) (text other : List ℕ) → o ≡ Some (string text) → o ≡ Some (string other) → text ≡ other
text_same o text other e f = cc

pub members_same : (ms ns : Members) → table ms ≡ table ns → ms ≡ ns
members_same ms ns e = cc

-- arrays of one kind of values
pub texts-unique : (ts us : List (List ℕ)) → texts ts ≡ texts us → ts ≡ us
texts-unique [] [] e = refl
texts-unique [] (u ∷ us) e = cc
texts-unique (t ∷ ts) [] e = cc
texts-unique (t ∷ ts) (u ∷ us) e =
    let heads : t ≡ u = cc in
    let tails : ts ≡ us = texts-unique ts us cc in
    cc

pub tables-unique : (ts us : List Members) → tables ts ≡ tables us → ts ≡ us
tables-unique [] [] e = refl
tables-unique [] (u ∷ us) e = cc
tables-unique (t ∷ ts) [] e = cc
tables-unique (t ∷ ts) (u ∷ us) e =
    let heads : t ≡ u = cc in
    let tails : ts ≡ us = tables-unique ts us cc in
    cc

-- what `as_str` of a value says of it
pub as_str-none : (d : Data) → as_str d ≡ None → (text : List ℕ) → d ≡ string text → ⊥
as_str-none d none text e = let some : as_str d ≡ Some text = ap as_str e in cc

pub as_str-some : (d : Data) (text : List ℕ) → as_str d ≡ Some text → d ≡ string text
as_str-some (string s) text e = let same : s ≡ text = cc in cc
as_str-some (integer z) text e = cc
as_str-some (float x) text e = cc
as_str-some (boolean b) text e = cc
as_str-some (datetime t) text e = cc
as_str-some (array vs) text e = cc
as_str-some (table ms) text e = cc
