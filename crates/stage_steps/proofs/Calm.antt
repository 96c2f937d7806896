-- Steps that change no instance field: a tuple whose paths follow the values of their roots describes the object still.
use Rattle.std.proofs.Common.{◌≡◌, ◌≢◌, ◌⊎◌, inl, inr, ℕ, ◌≤◌, List, ◌∷◌, length, Some, Contains, true, false, refl, sym, ◌∙◌, ap, subst}
use Rattle.std.specs.Prelude.{slice_get}
use Rattle.std.specs.Option.{option_map_or}
use Rattle.list_laws.proofs.Places.{push_cases}
use Rattle.jvm_model.specs.declared.number.FieldNo.{FieldNo}
use Rattle.jvm_model.specs.declared.site.Site.{Site}
use Rattle.op_model.specs.declared.lowered.LoweredMethod.{LoweredMethod}
use Rattle.op_model.specs.declared.node.Node.{Node}
use Rattle.machine_bytecode.specs.States.{Value, null_value, reference_to, Object, World, with_object, with_started, slot_at}
use Rattle.access_paths.specs.declared.root.Root.{Root}
use Rattle.access_paths.specs.declared.root.Root.TheVariants.{Slot, Static, Returned, Thrown}
use Rattle.access_paths.specs.Paths.{Path, bare}
use Rattle.stage_facts.specs.Facts.{Tuple, SiteFact, none_yet, some_yet, of_object, EndsIn, Describes, HasSome, Says}
use Rattle.stage_facts.specs.Values.{View, root_value, field_in, element_in, part_at, path_value, Cell, in_root, in_field, in_element, in_kept, cell_value}
use Rattle.stage_relations.specs.Roots.{Doubles, own, shared}
use Rattle.stage_relations.specs.Relations.{HasFields, Source, Target, NoPath, Reroots}
use Rattle.stage_relations.specs.Laws.{IsIdle, Meets, IsOne}
use Rattle.stage_steps.specs.Said.{AgreeOnPlaces, Results}
use Rattle.stage_steps.proofs.Paths.{part_push, Unchanged, path_same, cell_same, IsReference, follows_from, root_path, has_fields, no_element, no_kept}

-- ---- worlds

-- an object of the site stands at the place
pub record HasAt (s : Site) (heap : List Object) (place : ℕ) : Type 0 where
  pub object : Object
  pub stands : slice_get heap place ≡ Some object
  pub of_site : object.site ≡ s

-- each object of the site was there before
pub record NoneNew (s : Site) (before after : List Object) : Type 0 where
  pub was : (place : ℕ) (object : Object) → slice_get after place ≡ Some object → object.site ≡ s → HasAt s before place

pub none_new : (s : Site) (heap : List Object) → NoneNew s heap heap
none_new s heap = record { was = λ place object stands of_site. record { object = object; stands = stands; of_site = of_site } }

pub some_before : (s : Site) (before after : List Object) → NoneNew s before after → HasSome s after → HasSome s before
some_before s before after none some =
    let k = none.was some.place some.object some.stands some.of_site in
    record { place = some.place; object = k.object; stands = k.stands; of_site = k.of_site }

-- No instance field changes. If the tuple is unique, no object of the site is new; if it is closed, no element and nothing that is kept gets the object.
pub record Calm (s : Site) (o : ℕ) (w x : World) (u : Tuple) : Type 0 where
  pub field : (f : FieldNo) → Unchanged w.heap x.heap f
  pub none : u.unique ≡ true → NoneNew s w.heap x.heap
  pub element : u.may ≡ false → (place index : ℕ) → part_at (element_in index) x.heap place ≡ reference_to o
      → part_at (element_in index) w.heap place ≡ reference_to o
  pub kept : u.may ≡ false → (number : ℕ) → option_map_or reference_to (slice_get x.kept number) null_value ≡ reference_to o
      → option_map_or reference_to (slice_get w.kept number) null_value ≡ reference_to o

pub calm_here : (s : Site) (o : ℕ) (w : World) (u : Tuple) → Calm s o w w u
calm_here s o w u = record { field = λ f place. refl; none = λ unique. none_new s w.heap; element = λ off place index is. is; kept = λ off number is. is }

-- the world with one more object, whose parts refer to nothing
pub calm_push : (s : Site) (o : ℕ) (w : World) (new : Object) (u : Tuple) → ((f : FieldNo) → field_in f new.contents ≡ null_value)
    → ((index : ℕ) → element_in index new.contents ≡ null_value) → (u.unique ≡ true → new.site ≢ s) → Calm s o w (with_object w new) u
calm_push s o w new u no_field no_element_in apart = record {
  field = λ f place. part_push (field_in f) w.heap new place (no_field f);
  none = λ unique. record {
    was = λ place object stands of_site. elim (push_cases w.heap new place object stands) [
      | inl before ↦ record { object = object; stands = before; of_site = of_site }
      | inr late ↦ absurd (apart unique (sym (ap (λ (y : Object). y.site) late.1) ∙ of_site))
    ];
  };
  element = λ off place index is. sym (part_push (element_in index) w.heap new place (no_element_in index)) ∙ is;
  kept = λ off number is. is;
}

-- the object after a step
pub record There (s : Site) (state o : ℕ) (heap : List Object) : Type 0 where
  pub object : Object
  pub stands : slice_get heap o ≡ Some object
  pub of_site : object.site ≡ s
  pub in_state : object.automaton ≡ state

-- ---- tuples

-- Each path comes from one before, or is known; and where no other cells are possible, each root and each path of fields has one.
pub calm_describes : (s : Site) (o : ℕ) (w x : World) (old new : View) (t u : Tuple) (Goes : Root → Root → Type 0) → Calm s o w x u → There s u.state o x.heap
    → ((r q : Root) → Goes r q → root_value x new q ≡ root_value w old r) → (u.unique ≡ true → t.unique ≡ true)
    → ((y : Path) → Contains u.must y → Source Goes t.must y ⊎ (path_value x new y ≡ reference_to o))
    → ((y : Path) → Contains u.must_not y → Source Goes t.must_not y ⊎ (path_value x new y ≢ reference_to o)) → (u.may ≡ false → t.may ≡ false)
    → (u.may ≡ false → (r : Root) → root_value x new r ≡ reference_to o → Contains u.must (bare r))
    → (u.may ≡ false → (y : Path) → Contains t.must y → HasFields y.fields → Target (λ r q. root_value x new q ≡ root_value w old r) y u.must)
    → Describes s t o w old → Describes s u o x new
calm_describes s o w x old new t u Goes calm there same unique must must_not may roots with_fields d = record {
  object = there.object;
  stands = there.stands;
  of_site = there.of_site;
  in_state = there.in_state;
  only = λ is. record {
    only = λ place object stands of_site.
        let k = (calm.none is).was place object stands of_site in
        (d.only (unique is)).only place k.object k.stands k.of_site;
  };
  must = λ y listed. elim (must y listed) [
    | inl from ↦ path_same w x old new calm.field from.path y from.fields (same _ _ from.goes) ∙ d.must from.path from.listed
    | inr is ↦ is
  ];
  must_not = λ y listed is. elim (must_not y listed) [
    | inl from ↦ d.must_not from.path from.listed (sym (path_same w x old new calm.field from.path y from.fields (same _ _ from.goes)) ∙ is)
    | inr apart ↦ apart is
  ];
  cells = λ off c is. cell off c is;
}
  where
    cell : u.may ≡ false → (c : Cell) → cell_value x new c ≡ reference_to o → EndsIn u.must x new c
    cell off (in_root r) is = record { path = bare r; listed = roots off r is; ends = refl }
    cell off (in_field place f) is =
        let e = d.cells (may off) (in_field place f) (sym (calm.field f place) ∙ is) in
        let has = has_fields w old e.path place f e.ends in
        let y = with_fields off e.path e.listed has in
        record {
          path = y.path;
          listed = y.listed;
          ends = cell_same w x old new calm.field e.path.root y.path.root e.path.fields y.path.fields y.fields has y.goes ∙ e.ends;
        }
    cell off (in_element place index) is =
        let e = d.cells (may off) (in_element place index) (calm.element off place index is) in absurd (no_element w old e.path place index e.ends)
    cell off (in_kept number) is = let e = d.cells (may off) (in_kept number) (calm.kept off number is) in absurd (no_kept w old e.path number e.ends)

-- a root that has the object has it from another one
pub record From (Goes : Root → Root → Type 0) (w : World) (view : View) (o : ℕ) (q : Root) : Type 0 where
  pub root : Root
  pub goes : Goes root q
  pub is : root_value w view root ≡ reference_to o

-- where no other cells are possible, each root that has the object is listed
pub listed_root : (s : Site) (o : ℕ) (w : World) (view : View) (t : Tuple) (r : Root) → Describes s t o w view → t.may ≡ false
    → root_value w view r ≡ reference_to o → Contains t.must (bare r)
listed_root s o w view t r d off is =
    let e = d.cells off (in_root r) is in
    subst (λ (x : Path). Contains t.must x) (root_path w view e.path r e.ends) e.listed

-- The roots of two paths of the object, of which one is the double of the other, have one value.
abbrev pub DoublesAgree : ℕ → World → World → View → View → (Root → Root → Type 0) → Type 0
DoublesAgree o w x old new Doubled =
    (a b : Path) → path_value w old a ≡ reference_to o → path_value x new b ≡ reference_to o → HasFields a.fields → b.fields ≡ a.fields
    → Doubled a.root b.root → root_value x new b.root ≡ root_value w old a.root

pub reroots_describes : (s : Site) (o : ℕ) (w x : World) (old new : View) (t u : Tuple) (Goes Doubled : Root → Root → Type 0) (Known : Path → Type 0)
    → Calm s o w x u → ((object : Object) → slice_get w.heap o ≡ Some object → slice_get x.heap o ≡ Some object)
    → ((r q : Root) → Goes r q → root_value x new q ≡ root_value w old r)
    → (u.may ≡ false → (q : Root) → root_value x new q ≡ reference_to o → From Goes w old o q) → ((y : Path) → Known y → path_value x new y ≢ reference_to o)
    → DoublesAgree o w x old new Doubled → Reroots Goes Doubled Known t u → Describes s t o w old → Describes s u o x new
reroots_describes s o w x old new t u Goes Doubled Known calm stays same from known agree rel d =
    calm_describes s o w x old new t u Goes calm
    (record { object = d.object; stands = stays d.object d.stands; of_site = d.of_site; in_state = d.in_state ∙ sym rel.state })
    same rel.unique (λ y listed. inl (rel.must y listed))
    (λ y listed. elim (rel.must_not y listed) [ inl source ↦ inl source | inr is ↦ inr (known y is) ])
    rel.may
    (λ off q is. (let f = from off q is in rel.roots off f.root q f.goes (listed_root s o w old t f.root d (rel.may off) f.is)))
    (λ off y listed has. (let z = rel.fields off y listed has in
    let source = rel.must z.path z.listed in
    let value = path_same w x old new calm.field source.path z.path source.fields (same _ _ source.goes) ∙ d.must source.path source.listed in
    record { path = z.path; listed = z.listed; goes = agree y z.path (d.must y listed) value has z.fields z.goes; fields = z.fields }))
    d

-- roots that go to others agree with them
pub goes_agree : (o : ℕ) (w x : World) (old new : View) (Goes : Root → Root → Type 0) → ((r q : Root) → Goes r q → root_value x new q ≡ root_value w old r)
    → DoublesAgree o w x old new Goes
goes_agree o w x old new Goes same a b is_a is_b has fields_are goes = same _ _ goes

-- and so do those of slots of one variable
pub doubled_value : (o : ℕ) (w x : World) (old new : View) (l : LoweredMethod) (n : Node) (Goes : Root → Root → Type 0)
    → ((r q : Root) → Goes r q → root_value x new q ≡ root_value w old r) → AgreeOnPlaces l n old.slots → DoublesAgree o w x old new (Doubles l n Goes)
doubled_value o w x old new l n Goes same agree a b is_a is_b has fields_are double =
    by double (follows_from w.heap (root_value w old a.root) a.fields o is_a) (follows_from x.heap (root_value x new b.root) b.fields o is_b)
  where
    by : {r q : Root} → Doubles l n Goes r q → IsReference (root_value w old r) → IsReference (root_value x new q) → root_value x new q ≡ root_value w old r
    by (own goes) p q = same _ _ goes
    by (shared {y = y} {z = z} alike goes) p q =
        let first = p.is in
        let second : slot_at old.slots y ≡ reference_to q.place = sym (same _ _ goes) ∙ q.is in
        q.is ∙ ap reference_to (sym (agree z y p.place q.place alike first second)) ∙ sym first

-- ---- facts without an object

pub idle_says : (s : Site) (o : ℕ) (w x : World) (old new : View) (f : SiteFact) → IsIdle f → (length w.heap ≤ o → length x.heap ≤ o) → NoneNew s w.heap x.heap
    → (HasSome s w.heap → HasSome s x.heap) → Says s f o w old → Says s f o x new
idle_says s o w x old new none_yet idle longer none stays says =
    (longer says.0, record { none = λ some. (let before = says.1 in before.none (some_before s w.heap x.heap none some)) })
idle_says s o w x old new some_yet idle longer none stays says = (longer says.0, stays says.1)
idle_says s o w x old new (of_object t) idle longer none stays says = absurd idle

-- in a world with the same heap
pub idle_here : (s : Site) (o : ℕ) (w x : World) (old new : View) (f : SiteFact) → IsIdle f → x.heap ≡ w.heap → Says s f o w old → Says s f o x new
idle_here s o w x old new f idle e says =
    idle_says s o w x old new f idle
    (λ le. subst (λ (h : List Object). length h ≤ o) (sym e) le) (subst (λ (h : List Object). NoneNew s w.heap h) (sym e) (none_new s w.heap))
    (λ some. subst (λ (h : List Object). HasSome s h) (sym e) some) says

-- ---- what facts say where roots alone change

-- the results of a transfer, in a world that stays
pub moved_says : (s : Site) (o : ℕ) (w : World) (old new : View) (Goes Doubled : Root → Root → Type 0) (apply : SiteFact → List SiteFact)
    → ((f : SiteFact) → IsIdle f → Contains (apply f) f) → ((u : Tuple) → Meets (Reroots Goes Doubled NoPath u) (apply (of_object u)))
    → ((r q : Root) → Goes r q → root_value w new q ≡ root_value w old r) → ((q : Root) → root_value w new q ≡ reference_to o → From Goes w old o q)
    → DoublesAgree o w w old new Doubled → (f : SiteFact) → Says s f o w old → Results (apply f) (λ g. Says s g o w new)
moved_says s o w old new Goes Doubled apply idle meets same from agree none_yet says = record { fact = none_yet; listed = idle none_yet tt; says = says }
moved_says s o w old new Goes Doubled apply idle meets same from agree some_yet says = record { fact = some_yet; listed = idle some_yet tt; says = says }
moved_says s o w old new Goes Doubled apply idle meets same from agree (of_object u) says =
    let k = meets u in
    record {
      fact = of_object k.tuple;
      listed = k.listed;
      says =
          reroots_describes s o w w old new u k.tuple Goes Doubled NoPath (calm_here s o w k.tuple) (λ object stands. stands) same (λ off. from)
          (λ y bad. absurd bad) agree k.related says;
    }

-- and of one with a single result
pub entered_says : (s : Site) (o : ℕ) (w : World) (old new : View) (Goes : Root → Root → Type 0) (apply : SiteFact → SiteFact)
    → ((f : SiteFact) → IsIdle f → apply f ≡ f) → ((u : Tuple) → IsOne (Reroots Goes Goes NoPath u) (apply (of_object u)))
    → ((r q : Root) → Goes r q → root_value w new q ≡ root_value w old r) → ((q : Root) → root_value w new q ≡ reference_to o → From Goes w old o q)
    → (f : SiteFact) → Says s f o w old → Says s (apply f) o w new
entered_says s o w old new Goes apply idle one same from none_yet says = subst (λ (f : SiteFact). Says s f o w new) (sym (idle none_yet tt)) says
entered_says s o w old new Goes apply idle one same from some_yet says = subst (λ (f : SiteFact). Says s f o w new) (sym (idle some_yet tt)) says
entered_says s o w old new Goes apply idle one same from (of_object u) says =
    let k = one u in
    subst (λ (f : SiteFact). Says s f o w new) (sym k.is)
    (reroots_describes s o w w old new u k.tuple Goes Goes NoPath (calm_here s o w k.tuple) (λ object stands. stands) same (λ off. from) (λ y bad. absurd bad)
    (goes_agree o w w old new Goes same) k.related says)

-- ---- worlds and views that facts do not tell apart

-- Other static fields, other initialisers that were started, and another view, in which each root has the value that it had.
pub same_says : (s : Site) (o : ℕ) (w : World) (statics : ℕ → Value) (started : List ℕ) (old new : View)
    → ((r : Root) → root_value (record { heap = w.heap; statics = statics; kept = w.kept; started = started }) new r ≡ root_value w old r) → (f : SiteFact)
    → Says s f o w old → Says s f o (record { heap = w.heap; statics = statics; kept = w.kept; started = started }) new
same_says s o w statics started old new same none_yet says = says
same_says s o w statics started old new same some_yet says = says
same_says s o w statics started old new same (of_object u) d =
    calm_describes s o w (record { heap = w.heap; statics = statics; kept = w.kept; started = started }) old new u u (λ r q. r ≡ q)
    (record { field = λ f place. refl; none = λ unique. none_new s w.heap; element = λ off place index is. is; kept = λ off number is. is })
    (record { object = d.object; stands = d.stands; of_site = d.of_site; in_state = d.in_state }) (λ r q e. same q ∙ ap (root_value w old) (sym e)) (λ is. is)
    (λ y listed. inl (record { path = y; listed = listed; goes = refl; fields = refl }))
    (λ y listed. inl (record { path = y; listed = listed; goes = refl; fields = refl }))
    (λ off. off) (λ off r is. listed_root s o w old u r d off (sym (same r) ∙ is))
    (λ off y listed has. record { path = y; listed = listed; goes = same y.root; fields = refl }) d

-- one more initialiser was started
pub started_says : (s : Site) (o : ℕ) (w : World) (number : ℕ) (view : View) (f : SiteFact) → Says s f o w view → Says s f o (with_started w number) view
started_says s o w number view f says = same_says s o w w.statics (number ∷ w.started) view view same f says
  where
    same : (r : Root) → root_value (with_started w number) view r ≡ root_value w view r
    same (Slot z) = refl
    same (Static f) = refl
    same Returned = refl
    same Thrown = refl

pub unstarted_says : (s : Site) (o : ℕ) (w : World) (number : ℕ) (view : View) (f : SiteFact) → Says s f o (with_started w number) view → Says s f o w view
unstarted_says s o w number view f says = same_says s o (with_started w number) w.statics w.started view view same f says
  where
    same : (r : Root) → root_value w view r ≡ root_value (with_started w number) view r
    same (Slot z) = refl
    same (Static f) = refl
    same Returned = refl
    same Thrown = refl
