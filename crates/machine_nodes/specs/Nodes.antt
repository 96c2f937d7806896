-- Public contracts rest on this module.
-- Programs of nodes: the nodes of a method, and those of the start of the program, where they stand, and what they may throw.
use Rattle.std.specs.Prelude.{codes, ◌≡◌, ◌⊎◌, ℕ, nat_eq, find, List, [], ◌∷◌, Option, Some, None, Ok, slice_get, Contains, IsTrue}
use Rattle.std.specs.List.{list_any}
use Rattle.jvm_model.specs.declared.class_file.ClassFile.{ClassFile}
use Rattle.jvm_model.specs.declared.class_file.Member.{Member}
use Rattle.jvm_model.specs.declared.number.ClassNo.{ClassNo}
use Rattle.jvm_model.specs.Programs.{Program, Class, Method, in_file}
use Rattle.jvm_model.specs.Soundness.{is_code, plain_descriptor}
use Rattle.jvm_model.specs.Subtypes.{IsSubtype}
use Rattle.jvm_model.specs.Table.{Raise}
use Rattle.op_model.specs.declared.lowered.LoweredMethod.{LoweredMethod}
use Rattle.op_model.specs.declared.node.Node.{Node}
use Rattle.op_model.specs.declared.op.CallKind.TheVariants.{Static}
use Rattle.op_model.specs.declared.op.Op.TheVariants.{Call, Return}
use Rattle.op_model.specs.Supplies.{Given}
use Rattle.machine_bytecode.specs.Machine.{exception_class}
use Rattle.machine_bytecode.specs.Objects.{Subject}
use Rattle.machine_bytecode.specs.States.{Frame}

-- The class of a number has a name.
pub record IsClassNumber (p : Program) (number : ClassNo) (name : List ℕ) : Type 0 where
  pub class : Class
  pub stands : slice_get p.classes number.0 ≡ Some class
  pub named : class.name ≡ name

-- ---- what a node throws

-- The method of a number is an initialiser of the class or of one of its supertypes: <clinit> without parameters, for which the class
-- file has a Code attribute, whether its code can be read or not (JVMS 2.9).
pub record IsCodedInitialiser (p : Program) (class : List ℕ) (number : ℕ) : Type 0 where
  pub method : Method
  pub stands : slice_get p.methods number ≡ Some method
  pub named : method.signature ≡ record { name = codes "<clinit>"; descriptor = plain_descriptor }
  pub file : ClassFile
  pub place : ℕ
  pub member : Member
  pub of_file : method.body ≡ in_file file place member
  pub code : IsTrue (list_any (is_code file.pool) member.attributes)
  pub above : IsSubtype p method.class class

-- The class whose initialisation a node may start has one.
pub record HasInitialiser (p : Program) (class : List ℕ) : Type 0 where
  pub number : ℕ
  pub initialiser : IsCodedInitialiser p class number

-- The errors that initialisation may give (JVMS 5.5).
abbrev pub IsInitialisationError : List ℕ → Type 0
IsInitialisationError name = (name ≡ codes "java/lang/ExceptionInInitializerError") ⊎ (name ≡ codes "java/lang/NoClassDefFoundError")

-- A class of exceptions at an instruction: one that it raises, or an error of the initialisation that it may start.
pub data IsThrownAt (p : Program) (raises : List Raise) (trigger : Option (List ℕ)) (name : List ℕ) : Type 0 where
  raised : (raise : Raise) → Contains raises raise → name ≡ exception_class raise → IsThrownAt p raises trigger name
  initialising : (class : List ℕ) → trigger ≡ Some class → HasInitialiser p class → IsInitialisationError name → IsThrownAt p raises trigger name

-- These are the numbers of all of them, in any order.
pub record AreThrownAt (p : Program) (raises : List Raise) (trigger : Option (List ℕ)) (throws : List ClassNo) : Type 0 where
  pub only : (c : ClassNo) → Contains throws c → (name : List ℕ) × IsClassNumber p c name × IsThrownAt p raises trigger name
  pub all : (c : ClassNo) (name : List ℕ) → IsClassNumber p c name → IsThrownAt p raises trigger name → Contains throws c

-- ---- the start of the program

-- Its first node calls the entry, without slots, and may start the initialisation of the entry's class.
pub record IsStartCall (x : Subject) (n : Node) : Type 0 where
  pub entry : Method
  pub stands : slice_get x.program.methods x.entry ≡ Some entry
  pub offset : n.offset ≡ 0
  pub op : n.op ≡ Call (record { kind = Static; resolved = record { 0 = x.entry }; chosen = Some (record { 0 = x.entry }); name = entry.signature.name; descriptor = entry.signature.descriptor; arguments = []; result = None })
  pub successors : n.successors ≡ 1 ∷ []
  pub handlers : n.handlers ≡ []
  pub class : ClassNo
  pub trigger : n.trigger ≡ Some class
  pub is_class : IsClassNumber x.program class entry.class
  pub throws : AreThrownAt x.program [] (Some entry.class) n.throws

-- Its second node returns.
pub record IsStartReturn (n : Node) : Type 0 where
  pub offset : n.offset ≡ 1
  pub op : n.op ≡ Return None
  pub successors : n.successors ≡ []
  pub handlers : n.handlers ≡ []
  pub trigger : n.trigger ≡ None
  pub throws : n.throws ≡ []

pub record AreStartNodes (x : Subject) (nodes : List Node) : Type 0 where
  pub call : Node
  pub return : Node
  pub is : nodes ≡ call ∷ return ∷ []
  pub is_call : IsStartCall x call
  pub is_return : IsStartReturn return

-- ---- where a frame stands

-- The nodes of a frame's method, and how many of its slots are local variables.
pub data HasNodes (x : Subject) (given : Given) (f : Frame) (locals : ℕ) (nodes : List Node) : Type 0 where
  of_start : f.method ≡ None → AreStartNodes x nodes → locals ≡ 0 → HasNodes x given f locals nodes
  of_method : (number : ℕ) (m : LoweredMethod) → f.method ≡ Some number → given number ≡ Some (Ok m)
      → nodes ≡ m.nodes → locals ≡ m.slots → HasNodes x given f locals nodes

-- The frame stands at a node: the first one of its offset.
pub record StandsAt (x : Subject) (given : Given) (f : Frame) : Type 0 where
  pub locals : ℕ
  pub nodes : List Node
  pub of_method : HasNodes x given f locals nodes
  pub node : Node
  pub is : find (λ (n : Node). nat_eq n.offset f.offset) nodes ≡ Some node
