-- Each reason stands in the list of all.
use Rattle.std.proofs.Common.{◌≡◌, refl, ℕ, List, [], ◌∷◌, All, Option, None, Some, IfNone, slice_get}
use Rattle.std.proofs.lemmas.List.Elements.{All-contains}
use Rattle.std.proofs.lemmas.Option.{slice_get_within, get_or_from_slice_get}
use Rattle.jvm_model.specs.declared.reason.Reason.{Reason}
use Rattle.jvm_model.specs.declared.reason.Reason.TheVariants.{Truncated, BadMagic, BadVersion, BadTag, BadIndex, BadUtf8, BadDescriptor, TrailingBytes, CodeMissing, CodeUnexpected, ClassTooLarge, BadOpcode, BadTarget, CodeCut, StackUnder, StackOver, StackMerge, FallsOff, BadLocal, BadHandler, Subroutine, InvokeDynamic, MethodConstant, DuplicateClass, MissingClass, Cycle, MissingField, MissingMethod, NoStub, NoImplementation, ClashingDefaults, PackageOverride, KindMismatch, Reflection, Threads, Finalizer, BadToml, BadProperty, BadStub, NoEntry, EntryShape, TooManyFiles, PairLimit, CertificateTooLarge}

-- all reasons, in their order
abbrev pub all_reasons : List Reason
all_reasons = Truncated ∷ BadMagic ∷ BadVersion ∷ BadTag ∷ BadIndex ∷ BadUtf8 ∷ BadDescriptor ∷ TrailingBytes ∷ CodeMissing ∷ CodeUnexpected ∷ ClassTooLarge ∷ BadOpcode ∷ BadTarget ∷ CodeCut ∷ StackUnder ∷ StackOver ∷ StackMerge ∷ FallsOff ∷ BadLocal ∷ BadHandler ∷ Subroutine ∷ InvokeDynamic ∷ MethodConstant ∷ DuplicateClass ∷ MissingClass ∷ Cycle ∷ MissingField ∷ MissingMethod ∷ NoStub ∷ NoImplementation ∷ ClashingDefaults ∷ PackageOverride ∷ KindMismatch ∷ Reflection ∷ Threads ∷ Finalizer ∷ BadToml ∷ BadProperty ∷ BadStub ∷ NoEntry ∷ EntryShape ∷ TooManyFiles ∷ PairLimit ∷ CertificateTooLarge ∷ []

-- where a reason stands in it
abbrev place_of : Reason → ℕ
place_of Truncated = 0
place_of BadMagic = 1
place_of BadVersion = 2
place_of BadTag = 3
place_of BadIndex = 4
place_of BadUtf8 = 5
place_of BadDescriptor = 6
place_of TrailingBytes = 7
place_of CodeMissing = 8
place_of CodeUnexpected = 9
place_of ClassTooLarge = 10
place_of BadOpcode = 11
place_of BadTarget = 12
place_of CodeCut = 13
place_of StackUnder = 14
place_of StackOver = 15
place_of StackMerge = 16
place_of FallsOff = 17
place_of BadLocal = 18
place_of BadHandler = 19
place_of Subroutine = 20
place_of InvokeDynamic = 21
place_of MethodConstant = 22
place_of DuplicateClass = 23
place_of MissingClass = 24
place_of Cycle = 25
place_of MissingField = 26
place_of MissingMethod = 27
place_of NoStub = 28
place_of NoImplementation = 29
place_of ClashingDefaults = 30
place_of PackageOverride = 31
place_of KindMismatch = 32
place_of Reflection = 33
place_of Threads = 34
place_of Finalizer = 35
place_of BadToml = 36
place_of BadProperty = 37
place_of BadStub = 38
place_of NoEntry = 39
place_of EntryShape = 40
place_of TooManyFiles = 41
place_of PairLimit = 42
place_of CertificateTooLarge = 43

is_at : (reason : Reason) → slice_get all_reasons (place_of reason) ≡ Some reason
is_at Truncated = refl
is_at BadMagic = refl
is_at BadVersion = refl
is_at BadTag = refl
is_at BadIndex = refl
is_at BadUtf8 = refl
is_at BadDescriptor = refl
is_at TrailingBytes = refl
is_at CodeMissing = refl
is_at CodeUnexpected = refl
is_at ClassTooLarge = refl
is_at BadOpcode = refl
is_at BadTarget = refl
is_at CodeCut = refl
is_at StackUnder = refl
is_at StackOver = refl
is_at StackMerge = refl
is_at FallsOff = refl
is_at BadLocal = refl
is_at BadHandler = refl
is_at Subroutine = refl
is_at InvokeDynamic = refl
is_at MethodConstant = refl
is_at DuplicateClass = refl
is_at MissingClass = refl
is_at Cycle = refl
is_at MissingField = refl
is_at MissingMethod = refl
is_at NoStub = refl
is_at NoImplementation = refl
is_at ClashingDefaults = refl
is_at PackageOverride = refl
is_at KindMismatch = refl
is_at Reflection = refl
is_at Threads = refl
is_at Finalizer = refl
is_at BadToml = refl
is_at BadProperty = refl
is_at BadStub = refl
is_at NoEntry = refl
is_at EntryShape = refl
is_at TooManyFiles = refl
is_at PairLimit = refl
is_at CertificateTooLarge = refl

-- what holds of all that stand there holds of each
pub of_each : (P : Reason → Type 0) → All P all_reasons → (reason : Reason) → P reason
of_each P all reason = All-contains P all_reasons reason all (place_of reason, slice_get_within all_reasons (place_of reason) reason (is_at reason), get_or_from_slice_get all_reasons (place_of reason) reason reason (is_at reason))

-- and so where it is said of an answer that there is none
pub none_of_each : {X : Type 0} (answer : Option X) (P : Reason → Type 0) → IfNone answer (All P all_reasons) → IfNone answer ((reason : Reason) → P reason)
none_of_each None P all = of_each P all
none_of_each (Some x) P all = all
