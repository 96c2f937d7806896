-- What is read is the spelling of what was read, and what was spelled is read again: the tools, numbers and bytes.
use Rattle.std.proofs.Common.{◌≡◌, ℕ, zero, suc, ◌+◌, ◌^◌, ◌<◌, ◌≤◌, Bool, true, false, cond, ltb, List, [], ◌∷◌, ◌++◌, length, get_or, take, drop, Result, Ok, Err, refl, sym, ap, subst, ◌∙◌, append_assoc, arith, inl, inr, ◌⊎◌}
use Rattle.std.specs.Int.{Width, w16, w32, w64, byte_len, from_be_bytes, to_be_bytes}
use Rattle.std.specs.List.{flat_map, AllByRecursion}
use Rattle.std.proofs.lemmas.Bool.{cases_lt, ltb-false, le-ltb}
use Rattle.std.proofs.lemmas.List.{take_at, drop_at, take-append-drop, length-append, length-take, get_or-drop, get_or-take, get_or_past}
use Rattle.std.proofs.lemmas.List.Concat.{flat_map-cons}
use Rattle.std.proofs.lemmas.Nat.{be_bytes_2, be_bytes_4, be_bytes_8, from_be_bytes-to_be_bytes_2, from_be_bytes-to_be_bytes_4, from_be_bytes-to_be_bytes_8}
use Rattle.jvm_model.specs.Spelling.{table}
use Rattle.jvm_model.specs.declared.reason.Fault.{Fault}
use Rattle.byte_reader.specs.Reading.{Place, ◌>>=◌, number_at, byte_at, bytes_at, items_at, table_at, after}

abbrev pub IsBytes : List ℕ → Type 0
IsBytes bytes = (i : ℕ) → get_or bytes i 0 < 256

IsBytes-drop : (n : ℕ) (bytes : List ℕ) → IsBytes bytes → IsBytes (drop n bytes)
IsBytes-drop n bytes h i = rw get_or-drop (h (n + i))

IsBytes-take : (n : ℕ) (bytes : List ℕ) → IsBytes bytes → IsBytes (take n bytes)
IsBytes-take n bytes h i =
    elim (cases_lt i n) [
      | inl lt ↦ rw (get_or-take n bytes i 0 lt) (h i)
      | inr le ↦ rw (get_or_past (take n bytes) i 0 (omega (arith, length-take n bytes))) (omega arith)
    ]

IsBytes-rest : (b : ℕ) (bytes : List ℕ) → IsBytes (b ∷ bytes) → IsBytes bytes
IsBytes-rest b bytes h i = h (suc i)

pub each_is_byte : (bytes : List ℕ) → IsBytes bytes → AllByRecursion (λ b. b < 2 ^ 8) bytes
each_is_byte [] h = tt
each_is_byte (b ∷ bytes) h = (h 0, each_is_byte bytes (IsBytes-rest b bytes h))

pub bytes_of_each : (bytes : List ℕ) → AllByRecursion (λ b. b < 2 ^ 8) bytes → IsBytes bytes
bytes_of_each [] h i = omega arith
bytes_of_each (b ∷ bytes) h zero = h.0
bytes_of_each (b ∷ bytes) h (suc i) = bytes_of_each bytes h.1 i

-- the value of a step that did not fail
pub bind_ok : {A B : Type 0} (r : Result A Fault) (f : A → Result B Fault) (y : B) → (r >>= f) ≡ Ok y → (x : A) × (r ≡ Ok x) × (f x ≡ Ok y)
bind_ok (Ok x) f y e = (x, refl, e)
bind_ok (Err d) f y e = absurd cc

-- which way a test went
pub chosen : {A : Type 0} (b : Bool) (x y z : A) → cond b x y ≡ z → ((b ≡ true) × (x ≡ z)) ⊎ ((b ≡ false) × (y ≡ z))
chosen true x y z e = inl (refl, e)
chosen false x y z e = inr (refl, e)

-- ---- a result is a value or an error, and one

abbrev done : {A E : Type 0} → A → Result A E
done x = Ok x

abbrev told : {A E : Type 0} → E → Result A E
told d = Err d

pub ok_is : {A E : Type 0} (x y : A) → done {E = E} x ≡ done y → x ≡ y
ok_is x y e = cc

pub one_ok : {A E : Type 0} (r : Result A E) (x y : A) → r ≡ Ok x → r ≡ Ok y → x ≡ y
one_ok {A} {E} r x y a b = ok_is {E = E} x y (sym a ∙ b)

pub one_err : {A E : Type 0} (r : Result A E) (x y : E) → r ≡ Err x → r ≡ Err y → x ≡ y
one_err {A} {E} r x y a b = let e : told {A = A} x ≡ told y = sym a ∙ b in cc

pub not_both : {A E : Type 0} (r : Result A E) (x : A) (d : E) → r ≡ Ok x → r ≡ Err d → ⊥
not_both {A} {E} r x d a b = let e : done x ≡ told d = sym a ∙ b in absurd cc

-- a test that did not fail
pub guard_ok : {A E : Type 0} (b : Bool) (d : E) (x y : A) → cond b (Err d) (Ok x) ≡ Ok y → (b ≡ false) × (x ≡ y)
guard_ok true d x y e = absurd cc
guard_ok false d x y e = (refl, cc)

-- a test that was met
pub if_ok : {A E : Type 0} (b : Bool) (d : E) (r : Result A E) (y : A) → cond b r (Err d) ≡ Ok y → (b ≡ true) × (r ≡ Ok y)
if_ok true d r y e = (refl, e)
if_ok false d r y e = absurd cc

-- a test that did not fail, and what came after it
pub unless_ok : {A E : Type 0} (b : Bool) (d : E) (r : Result A E) (y : A) → cond b (Err d) r ≡ Ok y → (b ≡ false) × (r ≡ Ok y)
unless_ok true d r y e = absurd cc
unless_ok false d r y e = (refl, e)

-- ---- a reader

-- what a reader took from the front
pub record Takes (place : Place) (text : List ℕ) (stopped : Place) : Type 0 where
  pub parts : place.rest ≡ text ++ stopped.rest
  pub rest_fits : IsBytes stopped.rest

pub Takes-then : (a : Place) (x : List ℕ) (b : Place) (y : List ℕ) (c : Place) → Takes a x b → Takes b y c → Takes a (x ++ y) c
Takes-then a x b y c p q = record { parts = p.parts ∙ ap (λ (t : List ℕ). x ++ t) q.parts ∙ sym (append_assoc x y c.rest); rest_fits = q.rest_fits }

-- each thing that is read is spelled so, and fits
abbrev pub IsSpelledBy : {X : Type 0} → (Place → Result (X × Place) Fault) → (X → List ℕ) → (X → Type 0) → Type 0
IsSpelledBy {X} read text Fits = (place : Place) (x : X × Place) → IsBytes place.rest → read place ≡ Ok x → Takes place (text x.0) x.1 × Fits x.0

-- each thing that fits is read from its spelling, wherever it stands and whatever follows
abbrev pub IsReadBack : {X : Type 0} → (Place → Result (X × Place) Fault) → (X → List ℕ) → (X → Type 0) → Type 0
IsReadBack {X} read text Fits = (x : X) (o : ℕ) (rest : List ℕ) → Fits x → (end : ℕ) × (read (record { offset = o; rest = text x ++ rest }) ≡ Ok (x, record { offset = end; rest = rest }))

-- ---- numbers

pub record IsWide (w : Width) (limit : ℕ) : Type 0 where
  pub len : (n : ℕ) → length (to_be_bytes w n) ≡ byte_len w
  pub back : (bytes : List ℕ) → length bytes ≡ byte_len w → IsBytes bytes → to_be_bytes w (from_be_bytes w bytes) ≡ bytes
  pub again : (n : ℕ) → n < limit → from_be_bytes w (to_be_bytes w n) ≡ n
  pub below : (bytes : List ℕ) → IsBytes bytes → from_be_bytes w bytes < limit

pub wide16 : IsWide w16 (2 ^ 16)
wide16 = record {
  len = λ n. refl;
  back = λ bytes len fits. be_bytes_2 bytes _ len fits refl;
  again = λ n lt. from_be_bytes-to_be_bytes_2 n lt;
  below = λ bytes fits. omega (arith, fits 0, fits 1);
}

pub wide32 : IsWide w32 (2 ^ 32)
wide32 = record {
  len = λ n. refl;
  back = λ bytes len fits. be_bytes_4 bytes _ len fits refl;
  again = λ n lt. from_be_bytes-to_be_bytes_4 n lt;
  below = λ bytes fits. omega (arith, fits 0, fits 1, fits 2, fits 3);
}

pub wide64 : IsWide w64 (2 ^ 64)
wide64 = record {
  len = λ n. refl;
  back = λ bytes len fits. be_bytes_8 bytes _ len fits refl;
  again = λ n lt. from_be_bytes-to_be_bytes_8 n lt;
  below = λ bytes fits. omega (arith, fits 0, fits 1, fits 2, fits 3, fits 4, fits 5, fits 6, fits 7);
}

pub number_takes : (w : Width) (limit : ℕ) (wide : IsWide w limit) → IsSpelledBy (number_at w) (to_be_bytes w) (λ n. n < limit)
number_takes w limit wide place x fits e =
    let bytes = place.rest in
    let g = guard_ok (ltb (length bytes) (byte_len w)) _ (from_be_bytes w (take (byte_len w) bytes), after (byte_len w) place) x e in
    let long : byte_len w ≤ length bytes = ltb-false _ _ g.0 in
    let front : to_be_bytes w (from_be_bytes w (take (byte_len w) bytes)) ≡ take (byte_len w) bytes = wide.back (take (byte_len w) bytes) (omega (arith, length-take (byte_len w) bytes)) (IsBytes-take (byte_len w) bytes fits) in
    subst (λ (y : ℕ × Place). Takes place (to_be_bytes w y.0) y.1 × (y.0 < limit)) g.1
    (record { parts = rw front (sym (take-append-drop (byte_len w) bytes)); rest_fits = IsBytes-drop (byte_len w) bytes fits }, wide.below (take (byte_len w) bytes) (IsBytes-take (byte_len w) bytes fits))

pub number_again : (w : Width) (limit : ℕ) (wide : IsWide w limit) → IsReadBack (number_at w) (to_be_bytes w) (λ n. n < limit)
number_again w limit wide n o rest lt =
    let len = wide.len n in
    let long : ltb (length (to_be_bytes w n ++ rest)) (byte_len w) ≡ false = le-ltb _ _ (omega (arith, length-append (to_be_bytes w n) rest)) in
    (o + byte_len w, rw (long, take_at (to_be_bytes w n) rest (byte_len w) len, drop_at (to_be_bytes w n) rest (byte_len w) len, wide.again n lt) refl)

-- the place after a number is as many bytes further on as it takes
pub number_moves : (w : Width) (place : Place) (x : ℕ × Place) → number_at w place ≡ Ok x → x.1.offset ≡ place.offset + byte_len w
number_moves w place x e =
    let g = guard_ok (ltb (length place.rest) (byte_len w)) _ (from_be_bytes w (take (byte_len w) place.rest), after (byte_len w) place) x e in
    ap (λ (y : ℕ × Place). y.1.offset) (sym g.1)

-- ---- bytes

front_of : (bytes : List ℕ) → 1 ≤ length bytes → bytes ≡ get_or bytes 0 0 ∷ drop 1 bytes
front_of [] h = absurd (omega arith)
front_of (b ∷ bytes) h = refl

pub byte_takes : IsSpelledBy byte_at (λ n. n ∷ []) (λ n. n < 2 ^ 8)
byte_takes place x fits e =
    let g = guard_ok (ltb (length place.rest) 1) _ (get_or place.rest 0 0, after 1 place) x e in
    let long : 1 ≤ length place.rest = ltb-false _ _ g.0 in
    subst (λ (y : ℕ × Place). Takes place (y.0 ∷ []) y.1 × (y.0 < 2 ^ 8)) g.1
    (record { parts = front_of place.rest long; rest_fits = IsBytes-drop 1 place.rest fits }, fits 0)

pub byte_again : IsReadBack byte_at (λ n. n ∷ []) (λ n. n < 2 ^ 8)
byte_again n o rest lt = let long : ltb (suc (length rest)) 1 ≡ false = le-ltb _ _ (omega arith) in (o + 1, rw long refl)

pub bytes_take : (n : ℕ) (place : Place) (x : List ℕ × Place) → IsBytes place.rest → bytes_at n place ≡ Ok x → Takes place x.0 x.1 × (length x.0 ≡ n) × AllByRecursion (λ b. b < 2 ^ 8) x.0
bytes_take n place x fits e =
    let g = guard_ok (ltb (length place.rest) n) _ (take n place.rest, after n place) x e in
    let long : n ≤ length place.rest = ltb-false _ _ g.0 in
    subst (λ (y : List ℕ × Place). Takes place y.0 y.1 × (length y.0 ≡ n) × AllByRecursion (λ b. b < 2 ^ 8) y.0) g.1
    (record { parts = sym (take-append-drop n place.rest); rest_fits = IsBytes-drop n place.rest fits }, omega (arith, length-take n place.rest), each_is_byte (take n place.rest) (IsBytes-take n place.rest fits))

pub bytes_again : (bytes : List ℕ) (o : ℕ) (rest : List ℕ) → bytes_at (length bytes) (record { offset = o; rest = bytes ++ rest }) ≡ Ok (bytes, record { offset = o + length bytes; rest = rest })
bytes_again bytes o rest =
    let long : ltb (length (bytes ++ rest)) (length bytes) ≡ false = le-ltb _ _ (omega (arith, length-append bytes rest)) in
    rw (long, take_at bytes rest (length bytes) refl, drop_at bytes rest (length bytes) refl) refl

-- ---- tables

items_take : {X : Type 0} (read : Place → Result (X × Place) Fault) (text : X → List ℕ) (Fits : X → Type 0) → IsSpelledBy read text Fits
    → (n : ℕ) (place : Place) (x : List X × Place) → IsBytes place.rest → items_at read n place ≡ Ok x → Takes place (flat_map text x.0) x.1 × (length x.0 ≡ n) × AllByRecursion Fits x.0
unfolding items_at
items_take {X} read text Fits item zero place x fits e =
    subst (λ (y : List X × Place). Takes place (flat_map text y.0) y.1 × (length y.0 ≡ 0) × AllByRecursion Fits y.0) (ok_is ([], place) x e) (record { parts = refl; rest_fits = fits }, refl, tt)
items_take {X} read text Fits item (suc n) place x fits e =
    let a = bind_ok _ _ x e in
    let b = bind_ok _ _ x a.2 in
    let first = item place a.0 fits a.1 in
    let second = items_take read text Fits item n a.0.1 b.0 first.0.rest_fits b.1 in
    let both = Takes-then place (text a.0.0) a.0.1 (flat_map text b.0.0) b.0.1 first.0 second.0 in
    subst (λ (y : List X × Place). Takes place (flat_map text y.0) y.1 × (length y.0 ≡ suc n) × AllByRecursion Fits y.0) (ok_is (a.0.0 ∷ b.0.0, b.0.1) x b.2) (rw flat_map-cons both, ap suc second.1, (first.1, second.2))

-- a step that does not fail goes on with its value
pub goes_on_with : {A B : Type 0} (r : Result A Fault) (f : A → Result B Fault) (x : A) (y : Result B Fault) → r ≡ Ok x → f x ≡ y → (r >>= f) ≡ y
goes_on_with {A} {B} r f x y e h = rw e h

items_again : {X : Type 0} (read : Place → Result (X × Place) Fault) (text : X → List ℕ) (Fits : X → Type 0) → IsReadBack read text Fits
    → (xs : List X) (o : ℕ) (rest : List ℕ) → AllByRecursion Fits xs → (end : ℕ) × (items_at read (length xs) (record { offset = o; rest = flat_map text xs ++ rest }) ≡ Ok (xs, record { offset = end; rest = rest }))
unfolding items_at
items_again read text Fits item [] o rest fits = (o, refl)
items_again {X} read text Fits item (x ∷ xs) o rest fits =
    let first = item x o (flat_map text xs ++ rest) fits.0 in
    let second = items_again read text Fits item xs first.0 rest fits.1 in
    let regrouped : flat_map text (x ∷ xs) ++ rest ≡ text x ++ (flat_map text xs ++ rest) = ap (λ (t : List ℕ). t ++ rest) (flat_map-cons text x xs) ∙ append_assoc (text x) (flat_map text xs) rest in
    (second.0, ap (λ (t : List ℕ). items_at read (suc (length xs)) (record { offset = o; rest = t })) regrouped ∙ goes_on_with _ _ _ _ first.1 (goes_on_with _ _ _ _ second.1 refl))

-- what a table lists fits, and so does their number
abbrev pub ListFits : {X : Type 0} → (X → Type 0) → List X → Type 0
ListFits Fits xs = (length xs < 2 ^ 16) × AllByRecursion Fits xs

pub table_takes : {X : Type 0} (read : Place → Result (X × Place) Fault) (text : X → List ℕ) (Fits : X → Type 0) → IsSpelledBy read text Fits → IsSpelledBy (table_at read) (table text) (ListFits Fits)
unfolding table_at
table_takes {X} read text Fits item place x fits e =
    let a = bind_ok _ _ x e in
    let first = number_takes w16 (2 ^ 16) wide16 place a.0 fits a.1 in
    let second = items_take read text Fits item a.0.0 a.0.1 x first.0.rest_fits a.2 in
    let both = Takes-then place (to_be_bytes w16 a.0.0) a.0.1 (flat_map text x.0) x.1 first.0 second.0 in
    (subst (λ (k : ℕ). Takes place (to_be_bytes w16 k ++ flat_map text x.0) x.1) (sym second.1) both, (omega (arith, first.1, second.1), second.2))

pub table_again : {X : Type 0} (read : Place → Result (X × Place) Fault) (text : X → List ℕ) (Fits : X → Type 0) → IsReadBack read text Fits → IsReadBack (table_at read) (table text) (ListFits Fits)
unfolding table_at
table_again {X} read text Fits item xs o rest fits =
    let first = number_again w16 (2 ^ 16) wide16 (length xs) o (flat_map text xs ++ rest) fits.0 in
    let second = items_again read text Fits item xs first.0 rest fits.1 in
    let regrouped : table text xs ++ rest ≡ to_be_bytes w16 (length xs) ++ (flat_map text xs ++ rest) = append_assoc (to_be_bytes w16 (length xs)) (flat_map text xs) rest in
    (second.0, ap (λ (t : List ℕ). table_at read (record { offset = o; rest = t })) regrouped ∙ goes_on_with _ _ _ _ first.1 second.1)
