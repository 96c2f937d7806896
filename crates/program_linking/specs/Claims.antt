-- Public contracts rest on this module.
-- What is reported of claims: that all are met, or the first that is not. And what of a program the claims on names and kinds need.
use Rattle.std.specs.Prelude.{ℕ, Bool, false, List, [], ◌∷◌, ◌++◌, map, None, Result, Ok, Err, Contains, ◌≡◌, if◌then◌else◌}
use Rattle.jvm_model.specs.declared.access.AccessFlag.TheVariants.{Interface}
use Rattle.jvm_model.specs.Access.{has_flag}
use Rattle.jvm_model.specs.declared.program.NamedClass.{NamedClass}
use Rattle.jvm_model.specs.declared.stub.StubClass.{StubClass}
use Rattle.jvm_model.specs.Linking.{Claim, Demand, is_there, of_kind, no_cycle, NamedSuper, there_claim, kind_claim, AreMet, IsFirstUnmet, Meets, program_from, origins, own_classes}
use Rattle.jvm_model.specs.Programs.{Class, Program, name_of}
use Rattle.program_index.specs.FirstPlaces.{StandsNowhere}
use Rattle.program_index.specs.TextNumbers.{with_text}
use Rattle.failure.specs.declared.Failure.{Failure}
use Rattle.program_model.specs.declared.link_failure.LinkFault.{LinkFault}
use Rattle.failure.specs.declared.Failure.TheVariants.{Cause, OutOfMemory}
use Rattle.program_model.specs.declared.link_failure.LinkFault.TheVariants.{Refused, TooMany}
use Rattle.program_linking.specs.declared.supers.SuperRule.{SuperRule}
use Rattle.program_linking.specs.declared.supers.SuperRule.TheVariants.{There, Kind}

-- ---- what is reported

-- The failure names the first demand that is not met; or it says that there is too much to number, and this is so. Out of
-- memory says nothing.
abbrev pub TellsEndOrLarge : Type 0 → Program → List Claim → Failure LinkFault → Type 0
TellsEndOrLarge Large p claims (Cause (Refused refusal)) = IsFirstUnmet p refusal claims
TellsEndOrLarge Large p claims (Cause TooMany) = Large
TellsEndOrLarge Large p claims OutOfMemory = Unit {0}

-- All demands are met, or the failure says why not.
abbrev pub TellsClaimsOrLarge : {X : Type 0} → Type 0 → Program → List Claim → Result X (Failure LinkFault) → Type 0
TellsClaimsOrLarge Large p claims (Ok x) = AreMet p claims
TellsClaimsOrLarge Large p claims (Err end) = TellsEndOrLarge Large p claims end

-- The same where nothing is numbered.
abbrev pub TellsEnd : Program → List Claim → Failure LinkFault → Type 0
TellsEnd p claims end = TellsEndOrLarge ⊥ p claims end

abbrev pub TellsClaims : {X : Type 0} → Program → List Claim → Result X (Failure LinkFault) → Type 0
TellsClaims p claims r = TellsClaimsOrLarge ⊥ p claims r

-- ---- the program, and what is known of it

-- The program of the classes in the order in which they are given.
abbrev pub unsorted : List NamedClass → List StubClass → Program
unsorted files stubs = program_from (origins files stubs)

-- A class of which the name and the kind are known.
abbrev pub known_class : List ℕ → Bool → Class
known_class name is_interface = record { name = name; super_class = None; interfaces = []; is_interface = is_interface; is_folder = false; file = [] }

-- The program with the names and the kinds of its classes alone.
abbrev pub known_part : Program → Program
known_part p = record { classes = map (λ (c : Class). known_class c.name c.is_interface) p.classes; methods = []; fields = [] }

pub record Knows (known p : Program) : Type 0 where
  pub same : known ≡ known_part p

abbrev pub known_classes : List (List ℕ) → List Bool → List Class
known_classes (name ∷ names) (kind ∷ kinds) = known_class name kind ∷ known_classes names kinds
known_classes _ _ = []

abbrev pub known_program : List (List ℕ) → List Bool → Program
known_program names kinds = record { classes = known_classes names kinds; methods = []; fields = [] }

-- A class of the name is there, and each of the name is of this kind.
pub record IsKnownAs (p : Program) (name : List ℕ) (kind : Bool) : Type 0 where
  pub there : Meets p (is_there name)
  pub only : Meets p (of_kind kind name)

-- ---- supertypes

-- What is demanded of a supertype.
abbrev pub super_claim : SuperRule → NamedSuper → Claim
super_claim There s = there_claim s
super_claim Kind s = kind_claim s

-- What is demanded of a stub that is a class of its own; nothing of a patch.
abbrev pub of_own : (StubClass → List Claim) → StubClass → List Claim
of_own claims c = if c.is_patch then [] else claims c

-- The demand does not speak of what is above a class.
abbrev pub IsFlat : Demand → Type 0
IsFlat (no_cycle name) = ⊥
IsFlat _ = Unit {0}

-- ---- names

-- The same texts are in both lists.
pub record HasTextsOf (texts names : List (List ℕ)) : Type 0 where
  pub none : (name : List ℕ) → (Contains texts name → ⊥) → Contains names name → ⊥
  pub some : (name : List ℕ) → Contains texts name → Contains names name

-- Each name is none of the earlier ones.
abbrev pub AreNewNames : List (List ℕ) → List (List ℕ) → Type 0
AreNewNames earlier [] = Unit {0}
AreNewNames earlier (name ∷ names) = StandsNowhere earlier name × AreNewNames (earlier ++ name ∷ []) names

abbrev pub file_name : NamedClass → List ℕ
file_name f = name_of f.class

abbrev pub file_kind : NamedClass → Bool
file_kind f = has_flag f.class.flags Interface

abbrev pub stub_name : StubClass → List ℕ
stub_name c = c.name

abbrev pub stub_kind : StubClass → Bool
stub_kind c = c.is_interface

-- the names of all classes, in the order in which they are given
abbrev pub all_names : List NamedClass → List StubClass → List (List ℕ)
all_names files stubs = map file_name files ++ map stub_name (own_classes stubs)

-- the name of a stub that is a class of its own; and whether it is an interface
abbrev pub own_name : StubClass → List (List ℕ)
own_name c = if c.is_patch then [] else c.name ∷ []

abbrev pub own_kind : StubClass → List Bool
own_kind c = if c.is_patch then [] else c.is_interface ∷ []

-- the texts with the names of stubs that are classes of their own
abbrev pub with_own_names : List (List ℕ) → List StubClass → List (List ℕ)
with_own_names texts [] = texts
with_own_names texts (c ∷ stubs) = with_own_names (if c.is_patch then texts else with_text texts c.name) stubs
