-- Public contracts rest on this module.
-- Reading from left to right: a value and the place after it, or the first fault.
use Rattle.std.specs.Prelude.{◌≡◌, ℕ, zero, suc, ◌+◌, List, [], ◌∷◌, length, take, drop, slice_index, Result, Ok, Err, nat_lt, if◌then◌else◌}
use Rattle.std.specs.Int.{Width, w16, byte_len, from_be_bytes}
use Rattle.jvm_model.specs.declared.reason.Reason.{Reason}
use Rattle.jvm_model.specs.declared.reason.Reason.TheVariants.{Truncated}
use Rattle.failure.specs.declared.Failure.{Failure}
use Rattle.jvm_model.specs.declared.reason.Fault.{Fault}
use Rattle.failure.specs.declared.Failure.TheVariants.{Cause, OutOfMemory}

-- A place in a file: how many bytes are before it, and the bytes from there on.
pub record Place : Type 0 where
  pub offset : ℕ
  pub rest : List ℕ

-- One reading after the other, up to the first fault.
infixl 10 ◌>>=◌
abbrev pub ◌>>=◌ : {A B : Type 0} → Result A Fault → (A → Result B Fault) → Result B Fault
(Ok x) >>= f = f x
(Err e) >>= f = Err e

-- A fault at a place.
abbrev pub fault_at : {A : Type 0} → Place → Reason → Result A Fault
fault_at place reason = Err (record { offset = place.offset; reason = reason })

-- A failure is the fault that reading gives, or out of memory.
abbrev pub Fails : {Y : Type 0} → Failure Fault → Result Y Fault → Type 0
Fails OutOfMemory read = Unit {0}
Fails (Cause fault) read = read ≡ Err fault

-- A failure that takes nothing: it is not out of memory, and the place after it is the one before it.
abbrev pub FailsUnmoved : Place → Place → Failure Fault → Type 0
FailsUnmoved old new OutOfMemory = ⊥
FailsUnmoved old new (Cause _) = new ≡ old

-- What a function returned, seen by view, and where it stopped, is what reading gives.
abbrev pub Gives : {X Y : Type 0} → (X → Y) → Result X (Failure Fault) → Place → Result (Y × Place) Fault → Type 0
Gives view (Ok x) stopped read = read ≡ Ok (view x, stopped)
Gives view (Err e) stopped read = Fails e read

-- The same of a value that is seen as it is.
abbrev pub Reads : {X : Type 0} → Result X (Failure Fault) → Place → Result (X × Place) Fault → Type 0
Reads result stopped read = Gives (λ x. x) result stopped read

-- What a function returned is what all of the bytes give.
abbrev pub Tells : {X : Type 0} → Result X (Failure Fault) → Result X Fault → Type 0
Tells (Ok x) read = read ≡ Ok x
Tells (Err e) read = Fails e read

-- The place some bytes further on.
abbrev pub after : ℕ → Place → Place
after n place = record { offset = place.offset + n; rest = drop n place.rest }

-- A number of some bytes, high byte first. It is cut where the file ends before its last byte.
abbrev pub number_at : Width → Place → Result (ℕ × Place) Fault
number_at w place =
    if nat_lt (length place.rest) (byte_len w)
    then fault_at place Truncated
    else Ok (from_be_bytes w (take (byte_len w) place.rest), after (byte_len w) place)

-- One byte.
abbrev pub byte_at : Place → Result (ℕ × Place) Fault
byte_at place =
    if nat_lt (length place.rest) 1
    then fault_at place Truncated
    else Ok (slice_index place.rest 0, after 1 place)

-- That many bytes.
abbrev pub bytes_at : ℕ → Place → Result (List ℕ × Place) Fault
bytes_at n place =
    if nat_lt (length place.rest) n
    then fault_at place Truncated
    else Ok (take n place.rest, after n place)

-- That many items, one after the other.
unfoldable pub items_at : {X : Type 0} → (Place → Result (X × Place) Fault) → ℕ → Place → Result (List X × Place) Fault
items_at item_at zero place = Ok ([], place)
items_at item_at (suc n) place = do
  first ← item_at place
  others ← items_at item_at n first.1
  Ok (first.0 ∷ others.0, others.1)

-- A table: how many items it has, and then the items.
unfoldable pub table_at : {X : Type 0} → (Place → Result (X × Place) Fault) → Place → Result (List X × Place) Fault
table_at item_at place = do
  count ← number_at w16 place
  items_at item_at count.0 count.1
