-- Public contracts rest on this module.
-- How a tuple after a step has to be related to the one before it, so that it describes the object still. A relation asks for less than the transfer
-- gives: paths may be left out where the result says that other cells are possible.
use Rattle.std.specs.Prelude.{true, false, ◌≡◌, ◌≢◌, ◌⊎◌, ℕ, Bool, List, [], ◌∷◌, Option, Some, Contains}
use Rattle.std.specs.List.{AllByRecursion}
use Rattle.jvm_model.specs.declared.number.FieldNo.{FieldNo}
use Rattle.jvm_model.specs.declared.number.MethodNo.{MethodNo}
use Rattle.jvm_model.specs.declared.site.Site.{Site}
use Rattle.op_model.specs.declared.lowered.LoweredMethod.{LoweredMethod}
use Rattle.op_model.specs.declared.node.Node.{Node}
use Rattle.op_model.specs.declared.op.Call.{Call as NodeCall}
use Rattle.op_model.specs.declared.op.Op.{Op}
use Rattle.op_model.specs.declared.op.Op.TheVariants.{Load, Store, StoreElement, New}
use Rattle.points_to_rules.specs.Facts.{Fact, may_write}
use Rattle.access_paths.specs.declared.root.Root.{Root}
use Rattle.access_paths.specs.declared.root.Root.TheVariants.{Slot, Static, Returned, Thrown}
use Rattle.access_paths.specs.Paths.{Path, bare}
use Rattle.stage_facts.specs.Facts.{Tuple, SiteFact, none_yet, some_yet, of_object}
use Rattle.stage_transfer.specs.Calls.{Result, a_new_object}
use Rattle.stage_relations.specs.Roots.{AreAlike, Copied, Doubles, Keeps}

abbrev pub path : Root → List FieldNo → Path
path r fields = record { root = r; fields = fields }

abbrev pub HasFields : List FieldNo → Type 0
HasFields [] = ⊥
HasFields (f ∷ fields) = Unit {0}

abbrev pub EndsIn : FieldNo → List FieldNo → Type 0
EndsIn f [] = ⊥
EndsIn f (g ∷ []) = g ≡ f
EndsIn f (g ∷ h ∷ fields) = EndsIn f (h ∷ fields)

-- ---- roots get other values

-- A path that comes from one of a set with the same fields, whose root's value went to its own.
pub record Source (Goes : Root → Root → Type 0) (old : List Path) (y : Path) : Type 0 where
  pub path : Path
  pub listed : Contains old path
  pub goes : Goes path.root y.root
  pub fields : y.fields ≡ path.fields

-- A path that has such a one in a set.
pub record Target (Goes : Root → Root → Type 0) (x : Path) (new : List Path) : Type 0 where
  pub path : Path
  pub listed : Contains new path
  pub goes : Goes x.root path.root
  pub fields : path.fields ≡ x.fields

-- No path beside those that come from others.
abbrev pub NoPath : Path → Type 0
NoPath y = ⊥

-- Paths follow the values of their roots. Where no other cells are possible, each bare root is listed that got the object, and each path of fields has
-- one that ends where it did. `Known` are paths of which it is known besides that they do not refer to the object.
pub record Reroots (Goes Doubled : Root → Root → Type 0) (Known : Path → Type 0) (t u : Tuple) : Type 0 where
  pub unique : u.unique ≡ true → t.unique ≡ true
  pub state : u.state ≡ t.state
  pub must : (y : Path) → Contains u.must y → Source Goes t.must y
  pub must_not : (y : Path) → Contains u.must_not y → Source Goes t.must_not y ⊎ Known y
  pub may : u.may ≡ false → t.may ≡ false
  pub roots : u.may ≡ false → (r q : Root) → Goes r q → Contains t.must (bare r) → Contains u.must (bare q)
  pub fields : u.may ≡ false → (x : Path) → Contains t.must x → HasFields x.fields → Target Doubled x u.must

-- Objects are put where no path leads, from these slots: none of them is known to hold the object, or other cells are possible.
abbrev pub PutsAway : List ℕ → Tuple → Tuple → Type 0
PutsAway values t u = u.may ≡ false → (z : ℕ) → Contains values z → Contains t.must (bare (Slot z)) → ⊥

-- ---- operations that go on

-- No field of the path is stored to.
abbrev pub IsUnstored : Op → List FieldNo → Type 0
IsUnstored op fields = AllByRecursion (λ (f : FieldNo). (object value : ℕ) → op ≢ Store object f value) fields

-- After the operation the second path refers to what the first one did: their roots have one value; or the first went through the field that is loaded;
-- or the second goes through the field that is stored to.
pub data Comes (l : LoweredMethod) (n : Node) (op : Op) : Path → Path → Type 0 where
  rooted : {r q : Root} {fields : List FieldNo} → Doubles l n (Copied op) r q → IsUnstored op fields → Comes l n op (path r fields) (path q fields)
  taken : {object z target : ℕ} {f : FieldNo} {fields : List FieldNo} → op ≡ Load object f target → AreAlike l n z object
      → Comes l n op (path (Slot z) (f ∷ fields)) (path (Slot target) fields)
  put : {object value y z : ℕ} {f : FieldNo} {fields : List FieldNo} → op ≡ Store object f value → AreAlike l n z object → Keeps op z → AreAlike l n y value
      → IsUnstored op fields → Comes l n op (path (Slot y) fields) (path (Slot z) (f ∷ fields))

pub record Origin (l : LoweredMethod) (n : Node) (op : Op) (old : List Path) (y : Path) : Type 0 where
  pub path : Path
  pub listed : Contains old path
  pub comes : Comes l n op path y

-- A path of fields that has one which ends where it did.
pub record Heir (l : LoweredMethod) (n : Node) (op : Op) (x : Path) (new : List Path) : Type 0 where
  pub path : Path
  pub listed : Contains new path
  pub comes : Comes l n op x path
  pub fields : HasFields path.fields

-- Its field is stored to: it is that of the object itself.
pub record IsOverwritten (l : LoweredMethod) (n : Node) (op : Op) (x : Path) : Type 0 where
  pub object : ℕ
  pub field : FieldNo
  pub value : ℕ
  pub slot : ℕ
  pub op_is : op ≡ Store object field value
  pub alike : AreAlike l n slot object
  pub path_is : x ≡ path (Slot slot) (field ∷ [])

-- The field that is stored to is listed, by a slot of the object's variable.
pub record IsPut (l : LoweredMethod) (n : Node) (op : Op) (object : ℕ) (field : FieldNo) (new : List Path) : Type 0 where
  pub slot : ℕ
  pub alike : AreAlike l n slot object
  pub keeps : Keeps op slot
  pub listed : Contains new (path (Slot slot) (field ∷ []))

-- What holds where no other cells are possible.
pub record IsComplete (l : LoweredMethod) (n : Node) (op : Op) (old new : List Path) : Type 0 where
  pub roots : (r q : Root) → Copied op r q → Contains old (bare r) → Contains new (bare q)
  pub fields : (x : Path) → Contains old x → HasFields x.fields → IsOverwritten l n op x ⊎ Heir l n op x new
  pub loads : (object target : ℕ) (field : FieldNo) → op ≡ Load object field target → (x : Path) → Contains old x → EndsIn field x.fields
      → Contains new (bare (Slot target))
  pub stores : (object value : ℕ) (field : FieldNo) → op ≡ Store object field value → Contains old (bare (Slot value)) → IsPut l n op object field new
  pub elements : (array value : ℕ) → op ≡ StoreElement array value → Contains old (bare (Slot value)) → ⊥

-- The slot of a new object.
pub record IsMade (op : Op) (y : Path) : Type 0 where
  pub site : Site
  pub target : ℕ
  pub op_is : op ≡ New site target
  pub path_is : y ≡ bare (Slot target)

-- A tuple after an operation that goes on.
pub record Flows (l : LoweredMethod) (n : Node) (op : Op) (t u : Tuple) : Type 0 where
  pub unique : u.unique ≡ true → t.unique ≡ true
  pub state : u.state ≡ t.state
  pub must : (y : Path) → Contains u.must y → Origin l n op t.must y
  pub must_not : (y : Path) → Contains u.must_not y → Origin l n op t.must_not y ⊎ IsMade op y
  pub may : u.may ≡ false → t.may ≡ false
  pub complete : u.may ≡ false → IsComplete l n op t.must u.must

-- ---- allocation

-- The slot of a result.
pub record IsSlotOf (target : Option ℕ) (y : Path) : Type 0 where
  pub slot : ℕ
  pub target_is : target ≡ Some slot
  pub path_is : y ≡ bare (Slot slot)

-- The slot of a new object that a described method gives.
pub record IsNewResult (c : NodeCall) (result : Result) (y : Path) : Type 0 where
  pub site : Site
  pub result_is : result ≡ a_new_object site
  pub slot : IsSlotOf c.result y

-- The tuple of a new object in a state, which the slot holds, if there is one.
pub record IsBorn (target : Option ℕ) (first : Bool) (initial : ℕ) (t : Tuple) : Type 0 where
  pub unique : t.unique ≡ true → first ≡ true
  pub state : t.state ≡ initial
  pub must : (y : Path) → Contains t.must y → IsSlotOf target y
  pub must_not : (y : Path) → Contains t.must_not y → ⊥
  pub held : t.may ≡ false → (z : ℕ) → target ≡ Some z → Contains t.must (bare (Slot z))

-- ---- events

-- A slot that has the receiver's value.
pub record IsReceiver (l : LoweredMethod) (n : Node) (receiver : ℕ) (y : Path) : Type 0 where
  pub slot : ℕ
  pub alike : AreAlike l n slot receiver
  pub path_is : y ≡ bare (Slot slot)

-- After an event of a receiver, which is the object, or another one.
pub record Notes (l : LoweredMethod) (n : Node) (receiver : ℕ) (is_its : Bool) (after : ℕ) (t u : Tuple) : Type 0 where
  pub unique : u.unique ≡ true → t.unique ≡ true
  pub state : u.state ≡ after
  pub must : (y : Path) → Contains u.must y → Contains t.must y ⊎ ((is_its ≡ true) × IsReceiver l n receiver y)
  pub must_not : (y : Path) → Contains u.must_not y → Contains t.must_not y ⊎ ((is_its ≡ false) × IsReceiver l n receiver y)
  pub may : u.may ≡ false → t.may ≡ false
  pub all : u.may ≡ false → (y : Path) → Contains t.must y → Contains u.must y

-- ---- leaving a method

-- A path of the frame that waited: its slot stayed, and the target writes no field of it.
pub record Joined (S : Fact → Type 0) (target : MethodNo) (Stays : ℕ → Type 0) (old : List Path) (y : Path) : Type 0 where
  pub slot : ℕ
  pub root_is : y.root ≡ Slot slot
  pub stays : Stays slot
  pub listed : Contains old y
  pub fields : AllByRecursion (λ (f : FieldNo). S (may_write target f) → ⊥) y.fields

abbrev pub must_of : SiteFact → List Path
must_of none_yet = []
must_of some_yet = []
must_of (of_object t) = t.must

abbrev pub must_not_of : SiteFact → List Path
must_not_of none_yet = []
must_not_of some_yet = []
must_not_of (of_object t) = t.must_not

-- No other cells are possible by the fact.
abbrev pub IsClear : SiteFact → Type 0
IsClear none_yet = Unit {0}
IsClear some_yet = Unit {0}
IsClear (of_object t) = t.may ≡ false

abbrev pub IsSlotRoot : Root → Type 0
IsSlotRoot (Slot z) = Unit {0}
IsSlotRoot (Static f) = ⊥
IsSlotRoot Returned = ⊥
IsSlotRoot Thrown = ⊥

-- The tuple of an exit, with what joins it from the frame that waited. An exit has no slots; what is not handed on makes other cells possible.
pub record Joins (S : Fact → Type 0) (target : MethodNo) (HandedOn : Root → Root → Type 0) (Stays : ℕ → Type 0) (Dropped : Root → Type 0)
    (sent : SiteFact) (out u : Tuple) : Type 0 where
  pub unique : u.unique ≡ true → out.unique ≡ true
  pub state : u.state ≡ out.state
  pub must : (y : Path) → Contains u.must y → Source HandedOn out.must y ⊎ Joined S target Stays (must_of sent) y
  pub must_not : (y : Path) → Contains u.must_not y → Source HandedOn out.must_not y ⊎ Joined S target Stays (must_not_of sent) y
  pub may : u.may ≡ false → out.may ≡ false
  pub clear : u.may ≡ false → IsClear sent
  pub roots : u.may ≡ false → (r q : Root) → HandedOn r q → Contains out.must (bare r) → Contains u.must (bare q)
  pub fields : u.may ≡ false → (x : Path) → Contains out.must x → HasFields x.fields → (IsSlotRoot x.root → ⊥) → Target HandedOn x u.must
  pub slots : u.may ≡ false → (z : ℕ) → Stays z → Contains (must_of sent) (bare (Slot z)) → Contains u.must (bare (Slot z))
  pub dropped : u.may ≡ false → (x : Path) → Contains out.must x → Dropped x.root → ⊥
