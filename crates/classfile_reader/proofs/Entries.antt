-- The constant pool: what is read is spelled so, and what is spelled so is read.
use Rattle.std.proofs.Common.{◌≡◌, ℕ, zero, suc, ◌+◌, ◌-◌, ◌^◌, ◌<◌, Bool, true, false, cond, eqb, List, [], ◌∷◌, ◌++◌, length, Option, Some, None, is_some, Result, Ok, Err, refl, sym, ap, subst, ◌∙◌, append_assoc, arith, inl, inr, lit<}
use Rattle.std.specs.List.{flat_map, AllByRecursion}
use Rattle.std.specs.Int.{Width, w16, w32, w64, to_be_bytes}
use Rattle.std.proofs.lemmas.Bool.{eqb-true, eqb-false, ne_eqb}
use Rattle.std.proofs.lemmas.List.Concat.{flat_map-cons}
use Rattle.jvm_model.specs.declared.reason.Reason.TheVariants.{BadTag}
use Rattle.jvm_model.specs.declared.pool.PoolEntry.{PoolEntry}
use Rattle.jvm_model.specs.declared.pool.PoolEntry.TheVariants.{Utf8, Integer, Float, Long, Double, Class, Str, Fieldref, Methodref, InterfaceMethodref, NameAndType, MethodHandle, MethodType, InvokeDynamic, Taken}
use Rattle.jvm_model.specs.Spelling.{u2, u4, u8, entry, pool, EntryFits, is_wide, is_taken, IsPairedAfter}
use Rattle.jvm_model.specs.declared.reason.Fault.{Fault}
use Rattle.byte_reader.specs.Reading.{Place}
use Rattle.classfile_reader.specs.PoolReading.{one_at, pair_at, two_at, utf8_at, handle_at, contents_at, tagged_at, as_field, entry_at, wide_at, index_at, indices_at, pool_at}
use Rattle.byte_reader.proofs.Fields.{IsBytes, bind_ok, ok_is, chosen, unless_ok, goes_on_with, Takes, Takes-then, IsSpelledBy, IsReadBack, IsWide, wide16, wide32, wide64, number_takes, number_again, byte_takes, byte_again, bytes_take, bytes_again}

-- ---- what a tag calls for

-- an entry whose contents were taken, behind its tag
record TakesContents (tag : ℕ) (place : Place) (x : PoolEntry × Place) : Type 0 where
  contents : List ℕ
  spelled : entry x.0 ≡ tag ∷ contents
  taken : Takes place contents x.1
  fits : EntryFits x.0
  plain : is_taken x.0 ≡ false

one_takes : (tag : ℕ) (w : Width) (limit : ℕ) (wide : IsWide w limit) (make : ℕ → PoolEntry) → ((n : ℕ) → entry (make n) ≡ tag ∷ to_be_bytes w n) → ((n : ℕ) → n < limit → EntryFits (make n)) → ((n : ℕ) → is_taken (make n) ≡ false)
    → (place : Place) (x : PoolEntry × Place) → IsBytes place.rest → one_at w make place ≡ Ok x → TakesContents tag place x
unfolding one_at
one_takes tag w limit wide make spelled fit plain place x fits e =
    let a = bind_ok _ _ x e in
    let n = number_takes w limit wide place a.0 fits a.1 in
    subst (λ (y : PoolEntry × Place). TakesContents tag place y) (ok_is (make a.0.0, a.0.1) x a.2)
    (record { contents = to_be_bytes w a.0.0; spelled = spelled a.0.0; taken = n.0; fits = fit a.0.0 n.1; plain = plain a.0.0 })

two_takes : (tag : ℕ) (make : ℕ → ℕ → PoolEntry) → ((m n : ℕ) → entry (make m n) ≡ tag ∷ (u2 m ++ u2 n)) → ((m n : ℕ) → m < 2 ^ 16 → n < 2 ^ 16 → EntryFits (make m n)) → ((m n : ℕ) → is_taken (make m n) ≡ false)
    → (place : Place) (x : PoolEntry × Place) → IsBytes place.rest → two_at make place ≡ Ok x → TakesContents tag place x
unfolding two_at pair_at
two_takes tag make spelled fit plain place x fits e =
    let pair = bind_ok (pair_at place) _ x e in
    let a = bind_ok _ _ pair.0 pair.1 in
    let b = bind_ok _ _ pair.0 a.2 in
    let first = number_takes w16 (2 ^ 16) wide16 place a.0 fits a.1 in
    let second = number_takes w16 (2 ^ 16) wide16 a.0.1 b.0 first.0.rest_fits b.1 in
    let both = Takes-then place (u2 a.0.0) a.0.1 (u2 b.0.0) b.0.1 first.0 second.0 in
    let is : (make a.0.0 b.0.0, b.0.1) ≡ x = ap (λ (p : (ℕ × ℕ) × Place). (make p.0.0 p.0.1, p.1)) (ok_is ((a.0.0, b.0.0), b.0.1) pair.0 b.2) ∙ ok_is _ x pair.2 in
    subst (λ (y : PoolEntry × Place). TakesContents tag place y) is
    (record { contents = u2 a.0.0 ++ u2 b.0.0; spelled = spelled a.0.0 b.0.0; taken = both; fits = fit a.0.0 b.0.0 first.1 second.1; plain = plain a.0.0 b.0.0 })

text_takes : (place : Place) (x : PoolEntry × Place) → IsBytes place.rest → utf8_at place ≡ Ok x → TakesContents 1 place x
unfolding utf8_at
text_takes place x fits e =
    let a = bind_ok _ _ x e in
    let b = bind_ok _ _ x a.2 in
    let len = number_takes w16 (2 ^ 16) wide16 place a.0 fits a.1 in
    let bytes = bytes_take a.0.0 a.0.1 b.0 len.0.rest_fits b.1 in
    let both = Takes-then place (u2 a.0.0) a.0.1 b.0.0 b.0.1 len.0 bytes.0 in
    subst (λ (y : PoolEntry × Place). TakesContents 1 place y) (ok_is (Utf8 b.0.0, b.0.1) x b.2)
    (record { contents = u2 a.0.0 ++ b.0.0; spelled = ap (λ (k : ℕ). 1 ∷ (u2 k ++ b.0.0)) bytes.1; taken = both; fits = (omega (arith, len.1, bytes.1), bytes.2); plain = refl })

handle_takes : (place : Place) (x : PoolEntry × Place) → IsBytes place.rest → handle_at place ≡ Ok x → TakesContents 15 place x
unfolding handle_at
handle_takes place x fits e =
    let a = bind_ok _ _ x e in
    let b = bind_ok _ _ x a.2 in
    let kind = byte_takes place a.0 fits a.1 in
    let reference = number_takes w16 (2 ^ 16) wide16 a.0.1 b.0 kind.0.rest_fits b.1 in
    let both = Takes-then place (a.0.0 ∷ []) a.0.1 (u2 b.0.0) b.0.1 kind.0 reference.0 in
    subst (λ (y : PoolEntry × Place). TakesContents 15 place y) (ok_is (MethodHandle a.0.0 b.0.0, b.0.1) x b.2)
    (record { contents = a.0.0 ∷ u2 b.0.0; spelled = refl; taken = both; fits = (kind.1, reference.1); plain = refl })

-- by what a tag is
by_test : (tag k : ℕ) (place : Place) (x : PoolEntry × Place) (a b : Result (PoolEntry × Place) Fault) → (a ≡ Ok x → TakesContents k place x) → (b ≡ Ok x → TakesContents tag place x)
    → cond (eqb tag k) a b ≡ Ok x → TakesContents tag place x
by_test tag k place x a b here elsewhere e =
    elim (chosen (eqb tag k) a b (Ok x) e) [
      | inl h ↦ subst (λ (t : ℕ). TakesContents t place x) (sym (eqb-true tag k h.0)) (here h.1)
      | inr h ↦ elsewhere h.1
    ]

contents_take : (tag : ℕ) (place : Place) (x : PoolEntry × Place) → IsBytes place.rest → contents_at tag place ≡ Ok x → TakesContents tag place x
unfolding contents_at
contents_take tag place x fits =
    (by_test tag 1 place x _ _ (text_takes place x fits)
    (by_test tag 3 place x _ _ (one_takes 3 w32 (2 ^ 32) wide32 Integer (λ n. refl) (λ n lt. lt) (λ n. refl) place x fits)
    (by_test tag 4 place x _ _ (one_takes 4 w32 (2 ^ 32) wide32 Float (λ n. refl) (λ n lt. lt) (λ n. refl) place x fits)
    (by_test tag 5 place x _ _ (one_takes 5 w64 (2 ^ 64) wide64 Long (λ n. refl) (λ n lt. lt) (λ n. refl) place x fits)
    (by_test tag 6 place x _ _ (one_takes 6 w64 (2 ^ 64) wide64 Double (λ n. refl) (λ n lt. lt) (λ n. refl) place x fits)
    (by_test tag 7 place x _ _ (one_takes 7 w16 (2 ^ 16) wide16 Class (λ n. refl) (λ n lt. lt) (λ n. refl) place x fits)
    (by_test tag 8 place x _ _ (one_takes 8 w16 (2 ^ 16) wide16 Str (λ n. refl) (λ n lt. lt) (λ n. refl) place x fits)
    (by_test tag 9 place x _ _ (two_takes 9 Fieldref (λ m n. refl) (λ m n p q. (p, q)) (λ m n. refl) place x fits)
    (by_test tag 10 place x _ _ (two_takes 10 Methodref (λ m n. refl) (λ m n p q. (p, q)) (λ m n. refl) place x fits)
    (by_test tag 11 place x _ _ (two_takes 11 InterfaceMethodref (λ m n. refl) (λ m n p q. (p, q)) (λ m n. refl) place x fits)
    (by_test tag 12 place x _ _ (two_takes 12 NameAndType (λ m n. refl) (λ m n p q. (p, q)) (λ m n. refl) place x fits)
    (by_test tag 15 place x _ _ (handle_takes place x fits)
    (by_test tag 16 place x _ _ (one_takes 16 w16 (2 ^ 16) wide16 MethodType (λ n. refl) (λ n lt. lt) (λ n. refl) place x fits)
    (by_test tag 18 place x _ _ (two_takes 18 InvokeDynamic (λ m n. refl) (λ m n p q. (p, q)) (λ m n. refl) place x fits)
    (λ (no : Err (record { offset = place.offset; reason = BadTag }) ≡ Ok x). absurd cc)))))))))))))))

-- ---- entries

tagged_takes : (place : Place) (x : PoolEntry × Place) → IsBytes place.rest → tagged_at place ≡ Ok x → Takes place (entry x.0) x.1 × EntryFits x.0 × (is_taken x.0 ≡ false)
unfolding tagged_at
tagged_takes place x fits e =
    let a = bind_ok _ _ x e in
    let tag = byte_takes place a.0 fits a.1 in
    let rest = contents_take a.0.0 a.0.1 x tag.0.rest_fits a.2 in
    let both = Takes-then place (a.0.0 ∷ []) a.0.1 rest.contents x.1 tag.0 rest.taken in
    (subst (λ (t : List ℕ). Takes place t x.1) (sym rest.spelled) both, rest.fits, rest.plain)

field_ok : (place : Place) (r : Result (PoolEntry × Place) Fault) (x : PoolEntry × Place) → as_field place r ≡ Ok x → r ≡ Ok x
field_ok place (Ok y) x e = e
field_ok place (Err f) x e = absurd cc

pub entry_takes : (place : Place) (x : PoolEntry × Place) → IsBytes place.rest → entry_at place ≡ Ok x → Takes place (entry x.0) x.1 × EntryFits x.0 × (is_taken x.0 ≡ false)
unfolding entry_at
entry_takes place x fits e = tagged_takes place x fits (field_ok place (tagged_at place) x e)

-- ---- the indices

is_some_cond : (b : Bool) (n : ℕ) → is_some (cond b (Some n) None) ≡ b
is_some_cond true n = refl
is_some_cond false n = refl

record TakesIndex (wide : Option ℕ) (place : Place) (x : (PoolEntry × Option ℕ) × Place) : Type 0 where
  taken : Takes place (entry x.0.0) x.1
  fits : EntryFits x.0.0
  here : is_taken x.0.0 ≡ is_some wide
  next : is_some x.0.1 ≡ is_wide x.0.0

index_takes : (wide : Option ℕ) (place : Place) (x : (PoolEntry × Option ℕ) × Place) → IsBytes place.rest → index_at wide place ≡ Ok x → TakesIndex wide place x
unfolding index_at
index_takes (Some tag) place x fits e =
    subst (λ (y : (PoolEntry × Option ℕ) × Place). TakesIndex (Some tag) place y) (ok_is ((Taken, None), place) x e)
    (record { taken = record { parts = refl; rest_fits = fits }; fits = tt; here = refl; next = refl })
index_takes None place x fits e =
    let a = bind_ok _ _ x e in
    let t = entry_takes place a.0 fits a.1 in
    subst (λ (y : (PoolEntry × Option ℕ) × Place). TakesIndex None place y) (ok_is ((a.0.0, wide_at place a.0.0), a.0.1) x a.2)
    (record { taken = t.0; fits = t.1; here = t.2; next = is_some_cond (is_wide a.0.0) place.offset })

record TakesIndices (n : ℕ) (wide : Option ℕ) (place : Place) (x : List PoolEntry × Place) : Type 0 where
  taken : Takes place (flat_map entry x.0) x.1
  count : length x.0 ≡ n
  fits : AllByRecursion EntryFits x.0
  pairs : IsPairedAfter (is_some wide) x.0

indices_take : (n : ℕ) (wide : Option ℕ) (place : Place) (x : List PoolEntry × Place) → IsBytes place.rest → indices_at n wide place ≡ Ok x → TakesIndices n wide place x
unfolding indices_at
indices_take zero None place x fits e =
    subst (λ (y : List PoolEntry × Place). TakesIndices 0 None place y) (ok_is ([], place) x e)
    (record { taken = record { parts = refl; rest_fits = fits }; count = refl; fits = tt; pairs = refl })
indices_take zero (Some tag) place x fits e = absurd cc
indices_take (suc n) wide place x fits e =
    let a = bind_ok (index_at wide place) _ x e in
    let b = bind_ok _ _ x a.2 in
    let first = index_takes wide place a.0 fits a.1 in
    let others = indices_take n a.0.0.1 a.0.1 b.0 first.taken.rest_fits b.1 in
    let both = Takes-then place (entry a.0.0.0) a.0.1 (flat_map entry b.0.0) b.0.1 first.taken others.taken in
    subst (λ (y : List PoolEntry × Place). TakesIndices (suc n) wide place y) (ok_is (a.0.0.0 ∷ b.0.0, b.0.1) x b.2)
    (record {
      taken = rw flat_map-cons both;
      count = ap suc others.count;
      fits = (first.fits, others.fits);
      pairs = (first.here, subst (λ (w : Bool). IsPairedAfter w b.0.0) first.next others.pairs);
    })

-- ---- the pool

-- what a pool has to be
pub record PoolFits (es : List PoolEntry) : Type 0 where
  pub count : length es + 1 < 2 ^ 16
  pub entries : AllByRecursion EntryFits es
  pub pairs : IsPairedAfter false es

pub pool_takes : IsSpelledBy pool_at pool PoolFits
unfolding pool_at
pool_takes place x fits e =
    let a = bind_ok _ _ x e in
    let count = number_takes w16 (2 ^ 16) wide16 place a.0 fits a.1 in
    let g = unless_ok _ _ _ _ a.2 in
    let some : a.0.0 ≡ 0 → ⊥ = eqb-false _ _ g.0 in
    let t = indices_take (a.0.0 - 1) None a.0.1 x count.0.rest_fits g.1 in
    let both = Takes-then place (u2 a.0.0) a.0.1 (flat_map entry x.0) x.1 count.0 t.taken in
    let k : a.0.0 ≡ length x.0 + 1 = omega (arith, t.count) in
    (subst (λ (n : ℕ). Takes place (u2 n ++ flat_map entry x.0) x.1) k both, record { count = omega (arith, count.1); entries = t.fits; pairs = t.pairs })

-- ==== what is spelled is read

-- the contents of a tag are read from their spelling
abbrev ReadsContents : ℕ → List ℕ → PoolEntry → Type 0
ReadsContents tag contents e = (o : ℕ) (rest : List ℕ) → (end : ℕ) × (contents_at tag (record { offset = o; rest = contents ++ rest }) ≡ Ok (e, record { offset = end; rest = rest }))

tagged_again : (tag : ℕ) (contents : List ℕ) (e : PoolEntry) → tag < 2 ^ 8 → ReadsContents tag contents e → (o : ℕ) (rest : List ℕ)
    → (end : ℕ) × (tagged_at (record { offset = o; rest = tag ∷ (contents ++ rest) }) ≡ Ok (e, record { offset = end; rest = rest }))
unfolding tagged_at
tagged_again tag contents e lt read o rest =
    let first = byte_again tag o (contents ++ rest) lt in
    let second = read first.0 rest in
    (second.0, goes_on_with _ _ _ _ first.1 second.1)

one_again : (w : Width) (limit : ℕ) (wide : IsWide w limit) (make : ℕ → PoolEntry) (n : ℕ) → n < limit → (o : ℕ) (rest : List ℕ)
    → (end : ℕ) × (one_at w make (record { offset = o; rest = to_be_bytes w n ++ rest }) ≡ Ok (make n, record { offset = end; rest = rest }))
unfolding one_at
one_again w limit wide make n lt o rest =
    let first = number_again w limit wide n o rest lt in
    (first.0, goes_on_with _ _ _ _ first.1 refl)

two_again : (make : ℕ → ℕ → PoolEntry) (m n : ℕ) → m < 2 ^ 16 → n < 2 ^ 16 → (o : ℕ) (rest : List ℕ)
    → (end : ℕ) × (two_at make (record { offset = o; rest = (u2 m ++ u2 n) ++ rest }) ≡ Ok (make m n, record { offset = end; rest = rest }))
unfolding two_at pair_at
two_again make m n p q o rest =
    let first = number_again w16 (2 ^ 16) wide16 m o (u2 n ++ rest) p in
    let second = number_again w16 (2 ^ 16) wide16 n first.0 rest q in
    let pair : pair_at (record { offset = o; rest = (u2 m ++ u2 n) ++ rest }) ≡ Ok ((m, n), record { offset = second.0; rest = rest }) = goes_on_with _ _ _ _ first.1 (goes_on_with _ _ _ _ second.1 refl) in
    (second.0, goes_on_with _ _ _ _ pair refl)

text_again : (bytes : List ℕ) → length bytes < 2 ^ 16 → (o : ℕ) (rest : List ℕ)
    → (end : ℕ) × (utf8_at (record { offset = o; rest = (u2 (length bytes) ++ bytes) ++ rest }) ≡ Ok (Utf8 bytes, record { offset = end; rest = rest }))
unfolding utf8_at
text_again bytes lt o rest =
    let first = number_again w16 (2 ^ 16) wide16 (length bytes) o (bytes ++ rest) lt in
    let second = bytes_again bytes first.0 rest in
    (first.0 + length bytes, goes_on_with _ _ _ _ first.1 (goes_on_with _ _ _ _ second refl))

handle_again : (kind reference : ℕ) → kind < 2 ^ 8 → reference < 2 ^ 16 → (o : ℕ) (rest : List ℕ)
    → (end : ℕ) × (handle_at (record { offset = o; rest = kind ∷ (u2 reference ++ rest) }) ≡ Ok (MethodHandle kind reference, record { offset = end; rest = rest }))
unfolding handle_at
handle_again kind reference p q o rest =
    let first = byte_again kind o (u2 reference ++ rest) p in
    let second = number_again w16 (2 ^ 16) wide16 reference first.0 rest q in
    (second.0, goes_on_with _ _ _ _ first.1 (goes_on_with _ _ _ _ second.1 refl))

plain_again : (e : PoolEntry) (o : ℕ) (rest : List ℕ) → EntryFits e → is_taken e ≡ false
    → (end : ℕ) × (tagged_at (record { offset = o; rest = entry e ++ rest }) ≡ Ok (e, record { offset = end; rest = rest }))
unfolding contents_at
plain_again (Utf8 bytes) o rest fits plain = tagged_again 1 (u2 (length bytes) ++ bytes) (Utf8 bytes) (lit< tt) (text_again bytes fits.0) o rest
plain_again (Integer n) o rest fits plain = tagged_again 3 (u4 n) (Integer n) (lit< tt) (one_again w32 (2 ^ 32) wide32 Integer n fits) o rest
plain_again (Float n) o rest fits plain = tagged_again 4 (u4 n) (Float n) (lit< tt) (one_again w32 (2 ^ 32) wide32 Float n fits) o rest
plain_again (Long n) o rest fits plain = tagged_again 5 (u8 n) (Long n) (lit< tt) (one_again w64 (2 ^ 64) wide64 Long n fits) o rest
plain_again (Double n) o rest fits plain = tagged_again 6 (u8 n) (Double n) (lit< tt) (one_again w64 (2 ^ 64) wide64 Double n fits) o rest
plain_again (Class n) o rest fits plain = tagged_again 7 (u2 n) (Class n) (lit< tt) (one_again w16 (2 ^ 16) wide16 Class n fits) o rest
plain_again (Str n) o rest fits plain = tagged_again 8 (u2 n) (Str n) (lit< tt) (one_again w16 (2 ^ 16) wide16 Str n fits) o rest
plain_again (Fieldref m n) o rest fits plain = tagged_again 9 (u2 m ++ u2 n) (Fieldref m n) (lit< tt) (two_again Fieldref m n fits.0 fits.1) o rest
plain_again (Methodref m n) o rest fits plain = tagged_again 10 (u2 m ++ u2 n) (Methodref m n) (lit< tt) (two_again Methodref m n fits.0 fits.1) o rest
plain_again (InterfaceMethodref m n) o rest fits plain = tagged_again 11 (u2 m ++ u2 n) (InterfaceMethodref m n) (lit< tt) (two_again InterfaceMethodref m n fits.0 fits.1) o rest
plain_again (NameAndType m n) o rest fits plain = tagged_again 12 (u2 m ++ u2 n) (NameAndType m n) (lit< tt) (two_again NameAndType m n fits.0 fits.1) o rest
plain_again (MethodHandle k n) o rest fits plain = tagged_again 15 (k ∷ u2 n) (MethodHandle k n) (lit< tt) (handle_again k n fits.0 fits.1) o rest
plain_again (MethodType n) o rest fits plain = tagged_again 16 (u2 n) (MethodType n) (lit< tt) (one_again w16 (2 ^ 16) wide16 MethodType n fits) o rest
plain_again (InvokeDynamic m n) o rest fits plain = tagged_again 18 (u2 m ++ u2 n) (InvokeDynamic m n) (lit< tt) (two_again InvokeDynamic m n fits.0 fits.1) o rest
plain_again Taken o rest fits plain = absurd cc

entry_again : (e : PoolEntry) (o : ℕ) (rest : List ℕ) → EntryFits e → is_taken e ≡ false
    → (end : ℕ) × (entry_at (record { offset = o; rest = entry e ++ rest }) ≡ Ok (e, record { offset = end; rest = rest }))
unfolding entry_at
entry_again e o rest fits plain =
    let t = plain_again e o rest fits plain in
    let place : Place = record { offset = o; rest = entry e ++ rest } in
    (t.0, ap (λ (r : Result (PoolEntry × Place) Fault). as_field place r) t.1)

-- the only entry that is the second index of another
is_the_second : (e : PoolEntry) → is_taken e ≡ true → e ≡ Taken
is_the_second Taken h = refl
is_the_second _ h = absurd cc

index_again : (wide : Option ℕ) (e : PoolEntry) (o : ℕ) (rest : List ℕ) → EntryFits e → is_taken e ≡ is_some wide
    → (end : ℕ) × (next : Option ℕ) × (index_at wide (record { offset = o; rest = entry e ++ rest }) ≡ Ok ((e, next), record { offset = end; rest = rest })) × (is_some next ≡ is_wide e)
unfolding index_at
index_again (Some tag) e o rest fits here =
    let second = is_the_second e here in
    subst (λ (f : PoolEntry). (end : ℕ) × (next : Option ℕ) × (index_at (Some tag) (record { offset = o; rest = entry f ++ rest }) ≡ Ok ((f, next), record { offset = end; rest = rest })) × (is_some next ≡ is_wide f))
    (sym second) (o, None, refl, refl)
index_again None e o rest fits here =
    let t = entry_again e o rest fits here in
    let place : Place = record { offset = o; rest = entry e ++ rest } in
    (t.0, wide_at place e, goes_on_with _ _ _ _ t.1 refl, is_some_cond (is_wide e) o)

indices_again : (es : List PoolEntry) (wide : Option ℕ) (o : ℕ) (rest : List ℕ) → AllByRecursion EntryFits es → IsPairedAfter (is_some wide) es
    → (end : ℕ) × (indices_at (length es) wide (record { offset = o; rest = flat_map entry es ++ rest }) ≡ Ok (es, record { offset = end; rest = rest }))
unfolding indices_at
indices_again [] None o rest fits pairs = (o, refl)
indices_again [] (Some tag) o rest fits pairs = absurd cc
indices_again (e ∷ es) wide o rest fits pairs =
    let first = index_again wide e o (flat_map entry es ++ rest) fits.0 pairs.0 in
    let second = indices_again es first.1 first.0 rest fits.1 (subst (λ (w : Bool). IsPairedAfter w es) (sym first.3) pairs.1) in
    let regrouped : flat_map entry (e ∷ es) ++ rest ≡ entry e ++ (flat_map entry es ++ rest) = ap (λ (t : List ℕ). t ++ rest) (flat_map-cons entry e es) ∙ append_assoc (entry e) (flat_map entry es) rest in
    (second.0, ap (λ (t : List ℕ). indices_at (suc (length es)) wide (record { offset = o; rest = t })) regrouped ∙ goes_on_with _ _ _ _ first.2 (goes_on_with _ _ _ _ second.1 refl))

not_none : (n : ℕ) → eqb (n + 1) 0 ≡ false
not_none n = ne_eqb (n + 1) 0 (λ h. omega arith)

pub pool_again : IsReadBack pool_at pool PoolFits
unfolding pool_at
pool_again es o rest fits =
    let first = number_again w16 (2 ^ 16) wide16 (length es + 1) o (flat_map entry es ++ rest) fits.count in
    let second = indices_again es None first.0 rest fits.entries fits.pairs in
    let some : eqb (length es + 1) 0 ≡ false = not_none (length es) in
    let less : length es + 1 - 1 ≡ length es = omega arith in
    (second.0, goes_on_with _ _ _ _ first.1 (rw (some, less) second.1))
