-- The lists of the classes of the sample fit their counts.
use Rattle.std.proofs.Common.{codes, ◌≡◌, ℕ, ◌+◌, ◌*◌, ◌%◌, ◌^◌, ◌<◌, ◌≤◌, ◌==◌, if◌then◌else◌, Bool, true, false, nat_lt, decimal, List, [], ◌∷◌, ◌++◌, length, get_or, map, All, refl, subst, arith}
use Rattle.std.specs.List.{flat_map, list_all}
use Rattle.std.proofs.lemmas.Bool.{and_parts}
use Rattle.std.proofs.lemmas.Fmt.{length-decimal-le}
use Rattle.std.proofs.lemmas.List.{length-append}
use Rattle.std.proofs.lemmas.List.Elements.{All-nil, All-cons, All-append, All-map}
use Rattle.std.proofs.lemmas.List.FromFn.{length-map-range_with_len}
use Rattle.jvm_model.specs.declared.pool.PoolEntry.{PoolEntry}
use Rattle.jvm_model.specs.declared.pool.PoolEntry.TheVariants.{Utf8, Methodref, NameAndType}
use Rattle.class_maker.specs.Counts.{IsCountedEntry, IsCountedAttribute, IsCountedTable, IsCountedMember, IsCountedClass}
use Rattle.class_maker.specs.Sample.{shared_entries, entries_of_sample, entries_of_method, name_of, below, sample_pool, body_with, method, once_code, loop_code, alias_code, code_of, call_of, main_code, main_method, numbered_method, class_sample}
use Rattle.class_maker.proofs.Below.{length_by_threes, all_below}
use borrow.Author.Tests.{ltb-true}

-- ---- entries

-- A text is short, as a test.
abbrev is_short : PoolEntry → Bool
is_short (Utf8 bytes) = nat_lt (length bytes) 65536
is_short _ = true

text_entry : (text : List ℕ) → length text < 2 ^ 16 → IsCountedEntry (Utf8 text)
text_entry text short bytes is =
    let same : text ≡ bytes = cc in
    subst (λ xs. length xs < 2 ^ 16) same short

short_entry : (e : PoolEntry) → is_short e ≡ true → IsCountedEntry e
short_entry e short bytes is =
    let at_text : is_short (Utf8 bytes) ≡ true = subst (λ x. is_short x ≡ true) is short in
    ltb-true (length bytes) 65536 at_text

short_entries : (entries : List PoolEntry) → list_all is_short entries ≡ true → All IsCountedEntry entries
short_entries [] short = All-nil IsCountedEntry
short_entries (e ∷ entries) short =
    let parts = and_parts (is_short e) (list_all is_short entries) short in
    All-cons IsCountedEntry e entries (short_entry e parts.0) (short_entries entries parts.1)

-- so of the entries of a method: its number has at most three digits
method_entries : (number : ℕ) → number < 200 → All IsCountedEntry (entries_of_method number)
method_entries number small =
    let digits : length (decimal number) ≤ 3 = length-decimal-le 3 number (omega arith) (omega arith) (omega arith) in
    let name : length (codes "m" ++ decimal number) < 2 ^ 16 = omega (arith, length-append (codes "m") (decimal number)) in
    let rest : List PoolEntry = NameAndType (name_of number) 2 ∷ Methodref 17 (name_of number + 1) ∷ [] in
    All-cons IsCountedEntry (Utf8 (codes "m" ++ decimal number)) rest (text_entry (codes "m" ++ decimal number) name) (short_entries rest refl)

pool_entries : (count : ℕ) → count ≤ 200 → All IsCountedEntry (sample_pool count)
pool_entries count small =
    All-append IsCountedEntry (shared_entries ++ entries_of_sample) (flat_map entries_of_method (below count))
    (short_entries (shared_entries ++ entries_of_sample) refl)
    (all_below IsCountedEntry entries_of_method count (λ number below_count. method_entries number (omega arith)))

pool_length : (count : ℕ) → length (sample_pool count) ≡ 18 + 3 * count
pool_length count =
    omega (arith, length-append (shared_entries ++ entries_of_sample) (flat_map entries_of_method (below count)), length_by_threes entries_of_method (λ number. refl) count)

-- ---- methods

-- A code of fewer than 2^16 bytes leads to a body whose length fits.
short_method : (flags name : ℕ) (code : List ℕ) → length code < 2 ^ 16 → IsCountedMember (method flags name code)
short_method flags name code short = record {
  count = omega arith;
  each = All-cons IsCountedAttribute (record { name = 1; body = body_with code }) [] body_fits (All-nil IsCountedAttribute);
}
  where
    body_fits : length (body_with code) < 2 ^ 32
    body_fits = simp length-append (omega arith)

short_code : (number : ℕ) → length (code_of number) < 2 ^ 16
short_code number = by (number % 3 == 0) (number % 3 == 1)
  where
    by : (first second : Bool) → length (if first then once_code else (if second then loop_code else alias_code)) < 2 ^ 16
    by true second = omega arith
    by false true = omega arith
    by false false = omega arith

numbered : (number : ℕ) → IsCountedMember (numbered_method number)
numbered number = short_method 9 (name_of number) (code_of number) (short_code number)

-- `main` has three bytes for each call, and one for its return.
pub main_length : (count : ℕ) → count ≤ 200 → length (main_code count) < 2 ^ 16
main_length count small = omega (arith, length-append (flat_map call_of (below count)) (177 ∷ []), length_by_threes call_of (λ number. refl) count)

methods : (count : ℕ) → count ≤ 200 → IsCountedTable IsCountedMember (class_sample count).methods
methods count small = record {
  count = omega (arith, length-map-range_with_len numbered_method 0 count);
  each = All-cons IsCountedMember (main_method count) (map numbered_method (below count)) (short_method 9 18 (main_code count) (main_length count small))
      (All-map IsCountedMember numbered_method (below count) (λ k d within. numbered (get_or (below count) k d)));
}

pub counted_sample : (count : ℕ) → count ≤ 200 → IsCountedClass (class_sample count)
counted_sample count small = record {
  pool_count = omega (arith, pool_length count);
  pool = pool_entries count small;
  interface_count = omega arith;
  fields = record { count = omega arith; each = All-nil IsCountedMember };
  methods = methods count small;
  attributes = record { count = omega arith; each = All-nil IsCountedAttribute };
}
