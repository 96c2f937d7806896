-- Public contracts rest on this module.
-- The facts of a site: what is known, at a place of a program, of the objects that are allocated there (Fink et al., sections 4.2 to 4.4, with
-- two facts without an object).
use Rattle.std.specs.Prelude.{◌≡◌, ◌≢◌, ℕ, ◌≤◌, Bool, true, false, List, length, Some, slice_get, Contains}
use Rattle.jvm_model.specs.declared.site.Site.{Site}
use Rattle.machine_bytecode.specs.States.{Object, World, reference_to}
use Rattle.access_paths.specs.Paths.{Path}
use Rattle.stage_facts.specs.Values.{View, Cell, cell_value, last_cell, path_value}

-- Of one object: whether it is the only one of the site; the state of its automaton; paths that refer to it; whether cells may hold it in which
-- none of these ends; and paths that do not refer to it.
pub record Tuple : Type 0 where
  pub unique : Bool
  pub state : ℕ
  pub must : List Path
  pub may : Bool
  pub must_not : List Path

-- No object of the site was allocated, or at least one was; or what is known of one of them.
pub data SiteFact : Type 0 where
  none_yet : SiteFact
  some_yet : SiteFact
  of_object : Tuple → SiteFact

-- ---- what they say in a state, as seen from a frame

-- The object at the place is the only one of the site.
pub record IsOnly (s : Site) (heap : List Object) (place : ℕ) : Type 0 where
  pub only : (other : ℕ) (o : Object) → slice_get heap other ≡ Some o → o.site ≡ s → other ≡ place

-- One of the paths ends in the cell.
pub record EndsIn (must : List Path) (w : World) (view : View) (c : Cell) : Type 0 where
  pub path : Path
  pub listed : Contains must path
  pub ends : last_cell w view path ≡ Some c

-- The tuple describes the object at a place.
pub record Describes (s : Site) (t : Tuple) (place : ℕ) (w : World) (view : View) : Type 0 where
  pub object : Object
  pub stands : slice_get w.heap place ≡ Some object
  pub of_site : object.site ≡ s
  pub in_state : object.automaton ≡ t.state
  pub only : t.unique ≡ true → IsOnly s w.heap place
  pub must : (x : Path) → Contains t.must x → path_value w view x ≡ reference_to place
  pub must_not : (x : Path) → Contains t.must_not x → path_value w view x ≢ reference_to place
  pub cells : t.may ≡ false → (c : Cell) → cell_value w view c ≡ reference_to place → EndsIn t.must w view c

-- There is an object of the site.
pub record HasSome (s : Site) (heap : List Object) : Type 0 where
  pub place : ℕ
  pub object : Object
  pub stands : slice_get heap place ≡ Some object
  pub of_site : object.site ≡ s

-- There is none.
pub record HasNone (s : Site) (heap : List Object) : Type 0 where
  pub none : HasSome s heap → ⊥

-- What a fact says of a place: it describes the object there; or the place has no object yet, and there is none of the site, or some.
abbrev pub Says : Site → SiteFact → ℕ → World → View → Type 0
Says s none_yet place w view = (length w.heap ≤ place) × HasNone s w.heap
Says s some_yet place w view = (length w.heap ≤ place) × HasSome s w.heap
Says s (of_object t) place w view = Describes s t place w view
