-- Where roots get the values of others, or new objects, and no instance field changes.
use Rattle.std.proofs.Common.{◌≡◌, ◌≢◌, inl, inr, ℕ, List, Some, Contains, false, sym, ◌∙◌, ap}
use Rattle.std.specs.Prelude.{slice_get}
use Rattle.jvm_model.specs.declared.number.FieldNo.{FieldNo}
use Rattle.jvm_model.specs.declared.site.Site.{Site}
use Rattle.op_model.specs.declared.lowered.LoweredMethod.{LoweredMethod}
use Rattle.op_model.specs.declared.node.Node.{Node}
use Rattle.machine_bytecode.specs.States.{reference_to, Object, World, slot_at}
use Rattle.access_paths.specs.declared.root.Root.{Root}
use Rattle.access_paths.specs.declared.root.Root.TheVariants.{Slot}
use Rattle.access_paths.specs.Paths.{Path}
use Rattle.stage_facts.specs.Facts.{Tuple, Describes}
use Rattle.stage_facts.specs.Values.{View, followed, path_value, root_value}
use Rattle.stage_relations.specs.Roots.{Doubles, own, shared}
use Rattle.stage_relations.specs.Relations.{HasFields, NoPath, Reroots, Target}
use Rattle.stage_steps.specs.Said.{AgreeOnPlaces}
use Rattle.stage_steps.proofs.Paths.{IsReference, follows_from, path_same}
use Rattle.stage_steps.proofs.Calm.{Calm, From, calm_describes, listed_root}

-- A root has the value of another one; or that had no object, and no path leads from what the root has to the object.
pub data Went (o : ℕ) (w x : World) (old new : View) (r q : Root) : Type 0 where
  with_value : root_value x new q ≡ root_value w old r → Went o w x old new r q
  with_new : ((place : ℕ) → root_value w old r ≢ reference_to place) → ((fields : List FieldNo) → followed x.heap (root_value x new q) fields ≢ reference_to o) → Went o w x old new r q

module _ (s : Site) (o : ℕ) (w x : World) (old new : View) (u v : Tuple) (calm : Calm s o w x v) (d : Describes s u o w old) where
  -- a path that comes from one of the object leads to the object
  went_must : (a y : Path) → y.fields ≡ a.fields → path_value w old a ≡ reference_to o → Went o w x old new a.root y.root → path_value x new y ≡ reference_to o
  went_must a y fields is (with_value e) = path_same w x old new calm.field a y fields e ∙ is
  went_must a y fields is (with_new none lost) = let k = follows_from w.heap (root_value w old a.root) a.fields o is in absurd (none k.place k.is)

  went_must_not : (a y : Path) → y.fields ≡ a.fields → path_value w old a ≢ reference_to o → Went o w x old new a.root y.root → path_value x new y ≢ reference_to o
  went_must_not a y fields apart (with_value e) is = apart (sym (path_same w x old new calm.field a y fields e) ∙ is)
  went_must_not a y fields apart (with_new none lost) is = lost y.fields is

  -- the roots of two paths of the object have one value, if one is the double of the other
  went_double : (l : LoweredMethod) (n : Node) (Goes : Root → Root → Type 0) → AgreeOnPlaces l n old.slots → ((r q : Root) → Goes r q → Went o w x old new r q)
      → {r q : Root} → Doubles l n Goes r q → (fields : List FieldNo) → IsReference (root_value w old r) → followed x.heap (root_value x new q) fields ≡ reference_to o
      → root_value x new q ≡ root_value w old r
  went_double l n Goes agree went (own {r = r} {q = q} goes) fields refers leads = by (went r q goes)
    where
      by : Went o w x old new r q → root_value x new q ≡ root_value w old r
      by (with_value e) = e
      by (with_new none lost) = absurd (lost fields leads)
  went_double l n Goes agree went (shared {y = y} {z = z} {q = q} alike goes) fields refers leads = by (went (Slot y) q goes)
    where
      by : Went o w x old new (Slot y) q → root_value x new q ≡ root_value w old (Slot z)
      by (with_value e) =
          let first = refers.is in
          let k = follows_from x.heap (root_value x new q) fields o leads in
          let second : slot_at old.slots y ≡ reference_to k.place = sym e ∙ k.is in
          k.is ∙ ap reference_to (sym (agree z y refers.place k.place alike first second)) ∙ sym first
      by (with_new none lost) = absurd (lost fields leads)

  pub rerooted_describes : (l : LoweredMethod) (n : Node) (Goes : Root → Root → Type 0) → ((object : Object) → slice_get w.heap o ≡ Some object → slice_get x.heap o ≡ Some object)
      → AgreeOnPlaces l n old.slots → ((r q : Root) → Goes r q → Went o w x old new r q) → ((q : Root) → root_value x new q ≡ reference_to o → From Goes w old o q)
      → Reroots Goes (Doubles l n Goes) NoPath u v → Describes s v o x new
  rerooted_describes l n Goes stays agree went from rel =
      calm_describes s o w x old new u v HasValue calm (record { object = d.object; stands = stays d.object d.stands; of_site = d.of_site; in_state = d.in_state ∙ sym rel.state })
      (λ r q e. e) rel.unique (λ y listed. inr (must_is y listed)) (λ y listed. inr (must_not_is y listed)) rel.may
      (λ off q is. (let f = from q is in rel.roots off f.root q f.goes (listed_root s o w old u f.root d (rel.may off) f.is))) fields_are d
    where
      HasValue : Root → Root → Type 0
      HasValue r q = root_value x new q ≡ root_value w old r

      must_is : (y : Path) → Contains v.must y → path_value x new y ≡ reference_to o
      must_is y listed = let a = rel.must y listed in went_must a.path y a.fields (d.must a.path a.listed) (went a.path.root y.root a.goes)

      must_not_is : (y : Path) → Contains v.must_not y → path_value x new y ≢ reference_to o
      must_not_is y listed = elim (rel.must_not y listed) [
        | inl a ↦ went_must_not a.path y a.fields (d.must_not a.path a.listed) (went a.path.root y.root a.goes)
        | inr none ↦ absurd none
      ]

      fields_are : v.may ≡ false → (a : Path) → Contains u.must a → HasFields a.fields → Target (λ r q. root_value x new q ≡ root_value w old r) a v.must
      fields_are off a listed has =
          let y = rel.fields off a listed has in
          record {
            path = y.path;
            listed = y.listed;
            goes = went_double l n Goes agree went y.goes y.path.fields (follows_from w.heap (root_value w old a.root) a.fields o (d.must a listed)) (must_is y.path y.listed);
            fields = y.fields;
          }
