-- Each entry of a table of handlers that was read takes each object or names a class, which is in the program or is not.
use Rattle.std.proofs.Common.{◌≡◌, ◌≢◌, ℕ, Bool, true, false, ◌||◌, eqb, List, [], ◌∷◌, length, Some, refl, sym, subst}
use Rattle.std.specs.List.{AllByRecursion}
use Rattle.std.proofs.lemmas.Bool.{eqb-true}
use Rattle.jvm_model.specs.declared.class_file.ClassFile.{ClassFile}
use Rattle.jvm_model.specs.declared.code.Code.{Code}
use Rattle.jvm_model.specs.declared.code.Handler.{Handler}
use Rattle.jvm_model.specs.declared.number.ClassNo.{ClassNo}
use Rattle.jvm_model.specs.declared.pool.EntryKind.TheVariants as kinds
use Rattle.jvm_model.specs.declared.pool.PoolEntry.{PoolEntry}
use Rattle.jvm_model.specs.LinkedPrograms.{IsProgram}
use Rattle.jvm_model.specs.Lookups.{class_name_at}
use Rattle.jvm_model.specs.Programs.{Program}
use Rattle.jvm_model.specs.Soundness.{leads_to, IsSoundClass}
use Rattle.jvm_model.proofs.SoundUses.{class_there}
use Rattle.flow_graph.specs.Graphing.{IsCodeOf}
use Rattle.flow_graph.proofs.ReadHandlers.{all_handlers}
use Rattle.flow_graph.proofs.ReadParts.{parts}
use Rattle.program_model.specs.Numbers.{name_at, IsClassNumber}
use Rattle.hierarchy.proofs.ClassPlaces.{not_named}
use Rattle.lowering_spec.specs.LoweredMethods.{IsCatch, of_class}
use Rattle.lowering_handlers.specs.Catches.{TakesUnknown, NamesClass}
use Rattle.lowering_handlers.proofs.AddedClasses.{numbered}

-- ---- what was read

-- The type of the entry is 0, or leads to a class.
pub record IsTyped (pool : List PoolEntry) (h : Handler) : Type 0 where
  pub typed : (eqb h.catch_type 0 || leads_to pool (kinds.Class ∷ []) h.catch_type) ≡ true

pub all_typed : (c : ClassFile) (code : Code) → IsCodeOf c code → AllByRecursion (IsTyped c.pool) code.handlers
all_typed c code is =
    let h = parts c code is in
    subst (λ (k : Code). AllByRecursion (IsTyped c.pool) k.handlers) (sym h.code_is)
    (all_handlers (IsTyped c.pool) c.pool (length h.head.bytes) h.spots h.after h.handlers (λ x read. record { typed = read.typed }) h.ends)

-- an entry that is typed names a class, in a sound class file
pub names_class : (c : ClassFile) → IsSoundClass c → (h : Handler) → IsTyped c.pool h → NamesClass c.pool h
names_class c sound h is = λ typed. by typed (eqb h.catch_type 0) refl is.typed
  where
    by : h.catch_type ≢ 0 → (b : Bool) → eqb h.catch_type 0 ≡ b → (b || leads_to c.pool (kinds.Class ∷ []) h.catch_type) ≡ true → (name : List ℕ) × (class_name_at c.pool h.catch_type ≡ Some name)
    by typed true zero_is leads = absurd (typed (eqb-true h.catch_type 0 zero_is))
    by typed false other leads = let there = class_there c h.catch_type sound leads in (there.name, there.named)

-- ---- the class of the program

pub takes_class : (p : Program) → IsProgram p → (pool : List PoolEntry) (catch_type : ℕ) (name : List ℕ) (number : ClassNo) → catch_type ≢ 0 → class_name_at pool catch_type ≡ Some name
    → IsClassNumber p number.0 → name_at p number.0 ≡ name → IsCatch p pool catch_type (Some number)
takes_class p program pool catch_type name number typed named within is = of_class typed name number named (numbered p program name number within is) refl

pub takes_unknown : (p : Program) (pool : List PoolEntry) (h : Handler) (name : List ℕ) → h.catch_type ≢ 0 → class_name_at pool h.catch_type ≡ Some name
    → ((n : ℕ) → IsClassNumber p n → name_at p n ≡ name → ⊥) → TakesUnknown p pool h
takes_unknown p pool h name typed named none = record { typed = typed; name = name; named = named; absent = not_named p name none }
