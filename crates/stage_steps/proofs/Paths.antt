-- Paths and cells in a heap that changes: parts of objects, values of paths, and the last cells of paths.
use Rattle.std.proofs.Common.{◌≡◌, ◌≢◌, ◌⊎◌, inl, inr, ℕ, zero, suc, List, [], ◌∷◌, ◌++◌, Option, Some, None, Contains, refl, sym, ◌∙◌, ap, Bool, true, false, cond}
use Rattle.std.specs.Prelude.{slice_get, slice_set}
use Rattle.std.specs.List.{AllByRecursion}
use Rattle.std.specs.Option.{option_map_or}
use Rattle.std.proofs.lemmas.Bool.{cases_eq}
use Rattle.std.proofs.lemmas.Option.{same_Some, none-some, slice_get_within}
use Rattle.list_laws.proofs.Members.{contains_first, contains_later}
use Rattle.list_laws.proofs.Places.{set_at, set_other}
use Rattle.jvm_model.specs.declared.number.FieldNo.{FieldNo}
use Rattle.jvm_model.specs.Programs.{Program, Field}
use Rattle.machine_bytecode.specs.States.{Value, primitive_value, null_value, reference_to, Contents, fields, Object, World, default_fields, default_value, is_reference_type}
use Rattle.access_paths.specs.declared.root.Root.{Root}
use Rattle.access_paths.specs.Paths.{Path, bare}
use Rattle.stage_facts.specs.Values.{View, root_value, without_primitive, field_in, part_at, behind, followed, path_value, Cell, in_root, in_field, in_element, in_kept, field_cell, last_field_cell, last_cell}
use Rattle.stage_relations.specs.Relations.{path, HasFields, EndsIn}

-- ---- parts of objects

-- what is found at the place decides
part_found : (part : Contents → Value) (heap : List Object) (place : ℕ) (found : Option Object) → slice_get heap place ≡ found
    → part_at part heap place ≡ option_map_or (λ (o : Object). part o.contents) found null_value
part_found part heap place found e = ap (λ (x : Option Object). option_map_or (λ (o : Object). part o.contents) x null_value) e

-- in a heap that is the same
pub part_in : (part : Contents → Value) (before after : List Object) (place : ℕ) → after ≡ before → part_at part after place ≡ part_at part before place
part_in part before after place e = ap (λ (h : List Object). part_at part h place) e

pub part_is : (part : Contents → Value) (heap : List Object) (place : ℕ) (o : Object) → slice_get heap place ≡ Some o
    → part_at part heap place ≡ part o.contents
part_is part heap place o e = part_found part heap place (Some o) e

-- the object whose part it is
pub record HasPart (part : Contents → Value) (heap : List Object) (place : ℕ) (v : Value) : Type 0 where
  pub object : Object
  pub stands : slice_get heap place ≡ Some object
  pub is : part object.contents ≡ v

pub part_held : (part : Contents → Value) (heap : List Object) (place q : ℕ) → part_at part heap place ≡ reference_to q
    → HasPart part heap place (reference_to q)
part_held part heap place q is = by (slice_get heap place) refl
  where
    by : (x : Option Object) → slice_get heap place ≡ x → HasPart part heap place (reference_to q)
    by None e = absurd (let bad : null_value ≡ reference_to q = sym (part_found part heap place None e) ∙ is in cc bad)
    by (Some o) e = record { object = o; stands = e; is = sym (part_is part heap place o e) ∙ is }

-- more objects, whose parts refer to nothing
pub part_append : (part : Contents → Value) (heap more : List Object) (place : ℕ) → ((o : Object) → Contains more o → part o.contents ≡ null_value)
    → part_at part (heap ++ more) place ≡ part_at part heap place
part_append part [] [] place none = refl
part_append part [] (o ∷ more) zero none = none o (contains_first o more)
part_append part [] (o ∷ more) (suc place) none = part_append part [] more place (λ p there. none p (contains_later o p more there))
part_append part (o ∷ heap) more zero none = refl
part_append part (o ∷ heap) more (suc place) none = part_append part heap more place none

pub part_push : (part : Contents → Value) (heap : List Object) (new : Object) (place : ℕ) → part new.contents ≡ null_value
    → part_at part (heap ++ new ∷ []) place ≡ part_at part heap place
part_push part [] new zero e = e
part_push part [] new (suc place) e = refl
part_push part (o ∷ heap) new zero e = refl
part_push part (o ∷ heap) new (suc place) e = part_push part heap new place e

-- another object in the place of one
pub set_here : (heap : List Object) (place : ℕ) (into written : Object) → slice_get heap place ≡ Some into
    → slice_get (slice_set heap place written) place ≡ Some written
set_here heap place into written held = set_at heap place written (slice_get_within heap place into held)

pub part_set : (part : Contents → Value) (heap : List Object) (place k : ℕ) (into written : Object) → slice_get heap place ≡ Some into
    → (k ≡ place → part written.contents ≡ part into.contents) → part_at part (slice_set heap place written) k ≡ part_at part heap k
part_set part heap place k into written held same = by (cases_eq k place)
  where
    by : (k ≡ place) ⊎ (k ≢ place) → part_at part (slice_set heap place written) k ≡ part_at part heap k
    by (inl e) =
        ap (part_at part (slice_set heap place written)) e ∙ part_is part (slice_set heap place written) place written (set_here heap place into written held)
        ∙ same e ∙ sym (part_is part heap place into held) ∙ ap (part_at part heap) (sym e)
    by (inr ne) = ap (λ (x : Option Object). option_map_or (λ (y : Object). part y.contents) x null_value) (set_other heap place k written ne)

pub part_set_here : (part : Contents → Value) (heap : List Object) (place : ℕ) (into written : Object) → slice_get heap place ≡ Some into
    → part_at part (slice_set heap place written) place ≡ part written.contents
part_set_here part heap place into written held = part_is part (slice_set heap place written) place written (set_here heap place into written held)

-- ---- values that refer to nothing

pub default_refers_not : (descriptor : List ℕ) → without_primitive (default_value descriptor) ≡ null_value
default_refers_not descriptor = by (is_reference_type descriptor)
  where
    by : (b : Bool) → without_primitive (cond b null_value primitive_value) ≡ null_value
    by true = refl
    by false = refl

pub default_field : (p : Program) (f : FieldNo) → field_in f (fields (default_fields p)) ≡ null_value
default_field p f = by (slice_get p.fields f.0)
  where
    by : (x : Option Field) → without_primitive (option_map_or (λ (g : Field). default_value g.signature.descriptor) x primitive_value) ≡ null_value
    by None = refl
    by (Some g) = default_refers_not g.signature.descriptor

-- a value that refers to an object counts as it is
pub with_reference : (v : Value) (place : ℕ) → v ≡ reference_to place → without_primitive v ≡ reference_to place
with_reference v place e = ap without_primitive e

pub reference_in : (v : Value) (place : ℕ) → without_primitive v ≡ reference_to place → v ≡ reference_to place
reference_in primitive_value place e = absurd (cc e)
reference_in null_value place e = e
reference_in (reference_to q) place e = e

pub same_place : (a b : ℕ) → reference_to a ≡ reference_to b → a ≡ b
same_place a b e = cc

-- ---- fields that no object has changed

abbrev pub Unchanged : List Object → List Object → FieldNo → Type 0
Unchanged before after f = (place : ℕ) → part_at (field_in f) after place ≡ part_at (field_in f) before place

pub behind_same : (before after : List Object) (f : FieldNo) (v : Value) → Unchanged before after f → behind after f v ≡ behind before f v
behind_same before after f primitive_value same = refl
behind_same before after f null_value same = refl
behind_same before after f (reference_to place) same = same place

pub follow_same : (before after : List Object) (v : Value) (fs : List FieldNo) → AllByRecursion (Unchanged before after) fs
    → followed after v fs ≡ followed before v fs
follow_same before after v [] same = refl
follow_same before after v (f ∷ fs) same =
    ap (λ (x : Value). followed after x fs) (behind_same before after f v same.0) ∙ follow_same before after (behind before f v) fs same.1

pub last_same : (before after : List Object) (v : Value) (f : FieldNo) (fs : List FieldNo) → AllByRecursion (Unchanged before after) (f ∷ fs)
    → last_field_cell after v f fs ≡ last_field_cell before v f fs
last_same before after v f [] same = refl
last_same before after v f (g ∷ fs) same =
    ap (λ (x : Value). last_field_cell after x g fs) (behind_same before after f v same.0) ∙ last_same before after (behind before f v) g fs same.1

pub each_unchanged : (before after : List Object) → ((f : FieldNo) → Unchanged before after f) → (fs : List FieldNo)
    → AllByRecursion (Unchanged before after) fs
each_unchanged before after same [] = tt
each_unchanged before after same (f ∷ fs) = (same f, each_unchanged before after same fs)

-- a path has the value of another one with its fields, whose root had the value of its own
pub path_same : (w x : World) (old new : View) → ((f : FieldNo) → Unchanged w.heap x.heap f) → (a b : Path) → b.fields ≡ a.fields
    → root_value x new b.root ≡ root_value w old a.root → path_value x new b ≡ path_value w old a
path_same w x old new same a b fields_are root_is =
    ap (followed x.heap (root_value x new b.root)) fields_are ∙ ap (λ (v : Value). followed x.heap v a.fields) root_is
    ∙ follow_same w.heap x.heap (root_value w old a.root) a.fields (each_unchanged w.heap x.heap same a.fields)

-- and its last cell, if it has fields
pub cell_same : (w x : World) (old new : View) → ((f : FieldNo) → Unchanged w.heap x.heap f) → (r q : Root) (fs gs : List FieldNo) → gs ≡ fs → HasFields fs
    → root_value x new q ≡ root_value w old r → last_cell x new (path q gs) ≡ last_cell w old (path r fs)
cell_same w x old new same r q [] gs e has root_is = absurd has
cell_same w x old new same r q (f ∷ fs) gs e has root_is =
    ap (λ (l : List FieldNo). last_cell x new (path q l)) e ∙ ap (λ (v : Value). last_field_cell x.heap v f fs) root_is
    ∙ last_same w.heap x.heap (root_value w old r) f fs (each_unchanged w.heap x.heap same (f ∷ fs))

-- ---- what follows from a value

-- nothing follows from a value that refers to no object
pub follow_null : (heap : List Object) (fs : List FieldNo) → followed heap null_value fs ≡ null_value
follow_null heap [] = refl
follow_null heap (f ∷ fs) = follow_null heap fs

-- a value is a reference
pub record IsReference (v : Value) : Type 0 where
  pub place : ℕ
  pub is : v ≡ reference_to place

pub follows_from : (heap : List Object) (v : Value) (fs : List FieldNo) (o : ℕ) → followed heap v fs ≡ reference_to o → IsReference v
follows_from heap (reference_to place) fs o e = record { place = place; is = refl }
follows_from heap primitive_value [] o e = absurd (cc e)
follows_from heap primitive_value (f ∷ fs) o e = absurd (let bad : null_value ≡ reference_to o = sym (follow_null heap fs) ∙ e in cc bad)
follows_from heap null_value fs o e = absurd (let bad : null_value ≡ reference_to o = sym (follow_null heap fs) ∙ e in cc bad)

-- ---- the last cell of a path

-- that of a field, or none
pub data IsFieldCell : Option Cell → Type 0 where
  no_cell : IsFieldCell None
  field_of : (place : ℕ) (f : FieldNo) → IsFieldCell (Some (in_field place f))

last_kind : (heap : List Object) (v : Value) (f : FieldNo) (fs : List FieldNo) → IsFieldCell (last_field_cell heap v f fs)
last_kind heap primitive_value f [] = no_cell
last_kind heap null_value f [] = no_cell
last_kind heap (reference_to place) f [] = field_of place f
last_kind heap v f (g ∷ fs) = last_kind heap (behind heap f v) g fs

no_other_cell : (x : Option Cell) (c : Cell) → ((place : ℕ) (f : FieldNo) → c ≢ in_field place f) → IsFieldCell x → x ≡ Some c → ⊥
no_other_cell None c ne no_cell e = none-some c e
no_other_cell (Some _) c ne (field_of place f) e = ne place f (sym (same_Some _ _ e))

-- a path that ends in a root is that root
pub root_path : (w : World) (view : View) (x : Path) (r : Root) → last_cell w view x ≡ Some (in_root r) → x ≡ bare r
root_path w view x r e = by x.fields x.root e
  where
    by : (fs : List FieldNo) (q : Root) → last_cell w view (path q fs) ≡ Some (in_root r) → path q fs ≡ bare r
    by [] q e = ap bare (cc e)
    by (f ∷ fs) q e = absurd (no_other_cell _ (in_root r) (λ place g d. cc d) (last_kind w.heap (root_value w view q) f fs) e)

-- one that ends in a field has fields, and ends in that one
pub has_fields : (w : World) (view : View) (x : Path) (place : ℕ) (f : FieldNo) → last_cell w view x ≡ Some (in_field place f) → HasFields x.fields
has_fields w view x place f e = by x.fields x.root e
  where
    by : (fs : List FieldNo) (q : Root) → last_cell w view (path q fs) ≡ Some (in_field place f) → HasFields fs
    by [] q e = absurd (cc e)
    by (g ∷ fs) q e = tt

field_cell_ends : (v : Value) (f : FieldNo) (place : ℕ) (g : FieldNo) → field_cell v f ≡ Some (in_field place g) → f ≡ g
field_cell_ends (reference_to p) f place g e = cc e
field_cell_ends primitive_value f place g e = absurd (none-some _ e)
field_cell_ends null_value f place g e = absurd (none-some _ e)

last_ends : (heap : List Object) (v : Value) (f : FieldNo) (fs : List FieldNo) (place : ℕ) (g : FieldNo) → last_field_cell heap v f fs ≡ Some (in_field place g)
    → EndsIn g (f ∷ fs)
last_ends heap v f [] place g e = field_cell_ends v f place g e
last_ends heap v f (h ∷ fs) place g e = last_ends heap (behind heap f v) h fs place g e

pub ends_in : (w : World) (view : View) (x : Path) (place : ℕ) (g : FieldNo) → last_cell w view x ≡ Some (in_field place g) → EndsIn g x.fields
ends_in w view x place g e = by x.fields x.root e
  where
    by : (fs : List FieldNo) (q : Root) → last_cell w view (path q fs) ≡ Some (in_field place g) → EndsIn g fs
    by [] q e = absurd (cc e)
    by (f ∷ fs) q e = last_ends w.heap (root_value w view q) f fs place g e

no_end : (w : World) (view : View) (x : Path) (c : Cell) → ((r : Root) → c ≢ in_root r) → ((place : ℕ) (f : FieldNo) → c ≢ in_field place f)
    → last_cell w view x ≡ Some c → ⊥
no_end w view x c not_root not_field e = by x.fields x.root e
  where
    by : (fs : List FieldNo) (q : Root) → last_cell w view (path q fs) ≡ Some c → ⊥
    by [] q e = not_root q (sym (same_Some _ _ e))
    by (f ∷ fs) q e = no_other_cell _ c not_field (last_kind w.heap (root_value w view q) f fs) e

-- none ends in an element, or in what is kept
pub no_element : (w : World) (view : View) (x : Path) (place index : ℕ) → last_cell w view x ≡ Some (in_element place index) → ⊥
no_element w view x place index e = no_end w view x (in_element place index) (λ r d. cc d) (λ q f d. cc d) e

pub no_kept : (w : World) (view : View) (x : Path) (number : ℕ) → last_cell w view x ≡ Some (in_kept number) → ⊥
no_kept w view x number e = no_end w view x (in_kept number) (λ r d. cc d) (λ q f d. cc d) e
