-- On the way to a successor each operation that goes on gives a tuple that flows, and leaves a fact without an object.
use Rattle.std.proofs.Common.{◌≡◌, ℕ, Bool, true, false, cond, List, [], ◌∷◌, map, Some, refl, sym, ◌∙◌, ap, subst}
use Rattle.std.specs.Prelude.{◌≢◌}
use Rattle.std.specs.List.{Contains}
use Rattle.std.proofs.lemmas.Bool.{false≢true}
use Rattle.jvm_model.specs.declared.site.Site.{Site}
use Rattle.op_model.specs.declared.lowered.LoweredMethod.{LoweredMethod}
use Rattle.op_model.specs.declared.node.Node.{Node}
use Rattle.op_model.specs.declared.op.Op.{Op}
use Rattle.op_model.specs.declared.op.Op.TheVariants.{Assign, Load, Store, LoadElement, StoreElement, LoadStatic, StoreStatic, New, NewArray, Constant, Call, Return, Throw, Cast, Probe}
use Rattle.machine_nodes.specs.Slots.{argument_slots}
use Rattle.access_paths.specs.declared.root.Root.{Root}
use Rattle.access_paths.specs.declared.root.Root.TheVariants.{Slot, Static, Returned, Thrown}
use Rattle.access_paths.specs.Paths.{bare}
use Rattle.stage_facts.specs.Facts.{Tuple, SiteFact, none_yet, some_yet, of_object}
use Rattle.stage_transfer.specs.Settings.{Setting, among, same_site}
use Rattle.stage_transfer.specs.Changes.{changed, slots_go, writing}
use Rattle.stage_transfer.specs.Operations.{after_load, after_new, after_operation, after_static_load, after_store, assigning, beside_new, on_tuples, puts_away, receiving, returning, storing_static}
use Rattle.stage_transfer.specs.Stages.{finished}
use Rattle.stage_relations.specs.Laws.{IsIdle, IsPlain, Meets}
use Rattle.stage_relations.specs.Roots.{Copied, Doubles, gone_slots, HasVariables}
use Rattle.stage_relations.specs.Relations.{Flows, IsBorn, IsMade, PutsAway, Reroots}
use Rattle.stage_transfer_laws.proofs.Alike.{Knows}
use Rattle.stage_transfer_laws.proofs.Changed.{changed_reroots}
use Rattle.stage_transfer_laws.proofs.CutRelations.{flows_cut}
use Rattle.stage_transfer_laws.proofs.Finished.{finished_cut}
use Rattle.stage_transfer_laws.proofs.Loads.{load_flows}
use Rattle.stage_transfer_laws.proofs.Flowing.{rerooted_flows, same_reroots}
use Rattle.stage_transfer_laws.proofs.Operations.{assigned_moves, loaded_moves, stored_moves, written_moves}
use Rattle.stage_transfer_laws.proofs.Shapes.{copies_roots, follows_field, makes_object, puts_object, shape, writes_slots}
use Rattle.stage_transfer_laws.proofs.Results.{idle_same, idle_stays, meets_only, new_first, new_further, new_some}
use Rattle.stage_transfer_laws.proofs.Sites.{is_site, site_is}
use Rattle.stage_transfer_laws.proofs.Stores.{store_flows}
use Rattle.stage_transfer_laws.proofs.Tuples.{away_puts, away_reroots, beside_reroots}

-- ---- tuples

module _ (w : Setting) (knows : Knows w) (l : LoweredMethod) (n : Node) (has : HasVariables l n) where
  -- What the law asks for of a result.
  abbrev GoesOn : Op → Tuple → Tuple → Type 0
  GoesOn op u v = Flows l n op u v × ((target : ℕ) → op ≡ New w.site target → v.unique ≡ false)

  goes_on : (op : Op) (u v : Tuple) → Flows l n op u v → ((target : ℕ) → op ≡ New w.site target → v.unique ≡ false)
      → Meets (GoesOn op u) (map (finished w) (of_object v ∷ []))
  goes_on op u v flows unique =
      let cut = finished_cut w.stage v in
      meets_only w (GoesOn op u) v (flows_cut cut flows, λ target is. cut.unique ∙ unique target is)

  -- An operation that copies roots.
  copies_on : (op : Op) (u v : Tuple) → shape op ≡ copies_roots → Reroots (Copied op) (Doubles l n (Copied op)) (IsMade op) u v
      → Meets (GoesOn op u) (map (finished w) (of_object v ∷ []))
  copies_on op u v is reroots =
      goes_on op u v
      (rerooted_flows (λ (e : shape op ≡ follows_field). absurd cc) reroots
      (λ array value e. let other : shape op ≡ puts_object = ap shape e in absurd cc))
      (λ target e. let other : shape op ≡ makes_object = ap shape e in absurd cc)

  -- The slots that it writes are rerooted, if it copies none.
  writes : (op : Op) (t : Tuple) → shape op ≢ copies_roots
      → Reroots (Copied op) (Doubles l n (Copied op)) (IsMade op) t (changed (writing w l n (gone_slots op)) t)
  writes op t quiet = changed_reroots (written_moves w knows l n has op quiet) (IsMade op) t

  -- An operation that writes slots alone.
  writes_on : (op : Op) (u : Tuple) → shape op ≡ writes_slots
      → Meets (GoesOn op u) (map (finished w) (of_object (changed (writing w l n (gone_slots op)) u) ∷ []))
  writes_on op u is =
      goes_on op u (changed (writing w l n (gone_slots op)) u)
      (rerooted_flows (λ (e : shape op ≡ follows_field). absurd cc) (writes op u (λ (e : shape op ≡ copies_roots). absurd cc))
      (λ array value e. let other : shape op ≡ puts_object = ap shape e in absurd cc))
      (λ target e. let other : shape op ≡ makes_object = ap shape e in absurd cc)

  -- What is put into an array.
  put_on : (array value : ℕ) (u : Tuple)
      → Meets (GoesOn (StoreElement array value) u) (map (finished w) (after_operation w l n (StoreElement array value) (of_object u)))
  put_on array value u =
      let op : Op = StoreElement array value in
      let v : Tuple = changed (writing w l n (array ∷ value ∷ [])) (puts_away (value ∷ []) u) in
      let reroots = writes op (puts_away (value ∷ []) u) (λ e. absurd cc) in
      goes_on op u v
      (rerooted_flows (λ e. absurd cc) (away_reroots (value ∷ []) u reroots)
      (λ other written (is : StoreElement array value ≡ StoreElement other written).
      let same : value ≡ written = cc in
      subst (λ (z : ℕ). PutsAway (z ∷ []) u v) same (away_puts (value ∷ []) u reroots)))
      (λ target is. absurd cc)

  -- The slot of a new object is written.
  abbrev made_at : ℕ → Tuple → Tuple
  made_at target t = changed (writing w l n (target ∷ [])) t

  -- A new object of the site, or of another one.
  new_on : (site : Site) (target : ℕ) (u : Tuple)
      → Meets (GoesOn (New site target) u) (map (finished w) (after_operation w l n (New site target) (of_object u)))
  new_on site target u = by (same_site site w.site) refl
    where
      free : shape (New site target) ≢ follows_field
      free e = absurd cc

      made : (z : ℕ) → Some target ≡ Some z → IsMade (New site target) (bare (Slot z))
      made z same =
          let slot : z ≡ target = cc in
          record { site = site; target = target; op_is = refl; path_is = ap (λ (y : ℕ). bare (Slot y)) slot }

      by : (b : Bool) → same_site site w.site ≡ b
          → Meets (GoesOn (New site target) u)
          (map (finished w) (cond b (after_new w (Some target) (made_at target) (of_object u)) (on_tuples (made_at target) (of_object u))))
      by true is =
          goes_on (New site target) u (beside_new (Some target) (made_at target u))
          (rerooted_flows free (beside_reroots (Some target) made (writes (New site target) u (λ e. absurd cc))) (λ array value other. absurd cc))
          (λ other same. refl)
      by false is =
          goes_on (New site target) u (made_at target u) (rerooted_flows free (writes (New site target) u (λ e. absurd cc)) (λ array value other. absurd cc))
          (λ other (same : New site target ≡ New w.site other).
          let one : site ≡ w.site = cc in
          absurd (false≢true (sym is ∙ subst (λ (s : Site). same_site s w.site ≡ true) (sym one) (is_site w.site))))

  -- A cast changes nothing.
  none_go : (r : Root) → slots_go (among []) r ≡ false
  none_go (Slot y) = refl
  none_go (Static f) = refl
  none_go Returned = refl
  none_go Thrown = refl

  cast_on : (op : Op) (u : Tuple) → shape op ≡ writes_slots → gone_slots op ≡ [] → Meets (GoesOn op u) (map (finished w) (of_object u ∷ []))
  cast_on op u is none =
      goes_on op u u
      (rerooted_flows (λ (e : shape op ≡ follows_field). absurd cc)
      (same_reroots l n op u (λ (e : shape op ≡ copies_roots). absurd cc)
      (λ r. subst (λ (zs : List ℕ). slots_go (among zs) r ≡ false) (sym none) (none_go r)))
      (λ array value e. let other : shape op ≡ puts_object = ap shape e in absurd cc))
      (λ target e. let other : shape op ≡ makes_object = ap shape e in absurd cc)

  pub next_meets : (op : Op) (u : Tuple) → IsPlain op
      → Meets (λ v. Flows l n op u v × ((target : ℕ) → op ≡ New w.site target → v.unique ≡ false)) (map (finished w) (after_operation w l n op (of_object u)))
  next_meets (Assign moves) u plain =
      copies_on (Assign moves) u (changed (assigning w l n moves) u) refl (changed_reroots (assigned_moves w knows l n has moves) (IsMade (Assign moves)) u)
  next_meets (Load object field target) u plain =
      goes_on (Load object field target) u (after_load w l n object field target u) (load_flows w knows l n has object field target u) (λ other e. absurd cc)
  next_meets (Store object field value) u plain =
      goes_on (Store object field value) u (after_store w l n object field value u) (store_flows w knows l n has object field value u) (λ other e. absurd cc)
  next_meets (LoadElement array target) u plain = writes_on (LoadElement array target) u refl
  next_meets (StoreElement array value) u plain = put_on array value u
  next_meets (LoadStatic field target) u plain =
      copies_on (LoadStatic field target) u (after_static_load w l n field target u) refl
      (changed_reroots (loaded_moves w knows l n has field target) (IsMade (LoadStatic field target)) u)
  next_meets (StoreStatic field value) u plain =
      copies_on (StoreStatic field value) u (changed (storing_static w l n field value) u) refl
      (changed_reroots (stored_moves w knows l n has field value) (IsMade (StoreStatic field value)) u)
  next_meets (New site target) u plain = new_on site target u
  next_meets (NewArray sites target) u plain = writes_on (NewArray sites target) u refl
  next_meets (Constant site target) u plain = writes_on (Constant site target) u refl
  next_meets (Call call) u plain = absurd plain
  next_meets (Return value) u plain = absurd plain
  next_meets (Throw value) u plain = absurd plain
  next_meets (Cast class z) u plain = cast_on (Cast class z) u refl refl
  next_meets (Probe z) u plain = writes_on (Probe z) u refl

-- ---- facts without an object

pub next_idle : (w : Setting) (l : LoweredMethod) (n : Node) (op : Op) (f : SiteFact) → IsIdle f → ((value : ℕ) → op ≢ Throw value)
    → ((target : ℕ) → op ≢ New w.site target)
    → Contains (map (finished w) (after_operation w l n op f)) f
next_idle w l n (Assign moves) f idle no_throw no_new = idle_stays w (changed (assigning w l n moves)) f idle
next_idle w l n (Load object field target) f idle no_throw no_new = idle_stays w (after_load w l n object field target) f idle
next_idle w l n (Store object field value) f idle no_throw no_new = idle_stays w (after_store w l n object field value) f idle
next_idle w l n (LoadElement array target) f idle no_throw no_new = idle_stays w (changed (writing w l n (array ∷ target ∷ []))) f idle
next_idle w l n (StoreElement array value) f idle no_throw no_new = idle_stays w
    (λ t. changed (writing w l n (array ∷ value ∷ [])) (puts_away (value ∷ []) t)) f idle
next_idle w l n (LoadStatic field target) f idle no_throw no_new = idle_stays w (after_static_load w l n field target) f idle
next_idle w l n (StoreStatic field value) f idle no_throw no_new = idle_stays w (changed (storing_static w l n field value)) f idle
next_idle w l n (New site target) f idle no_throw no_new = by (same_site site w.site) refl
  where
    written : Tuple → Tuple
    written t = changed (writing w l n (target ∷ [])) t

    by : (b : Bool) → same_site site w.site ≡ b → Contains (map (finished w) (cond b (after_new w (Some target) written f) (on_tuples written f))) f
    by true is = absurd (no_new target (ap (λ (s : Site). New s target) (site_is site w.site is)))
    by false is = idle_stays w written f idle
next_idle w l n (NewArray sites target) f idle no_throw no_new = idle_stays w (changed (writing w l n (target ∷ []))) f idle
next_idle w l n (Constant site target) f idle no_throw no_new = idle_stays w (changed (writing w l n (target ∷ []))) f idle
next_idle w l n (Call call) f idle no_throw no_new = idle_stays w (changed (receiving w l n (argument_slots call.arguments) call.result)) f idle
next_idle w l n (Return value) f idle no_throw no_new = idle_stays w (changed (returning value)) f idle
next_idle w l n (Throw value) f idle no_throw no_new = absurd (no_throw value refl)
next_idle w l n (Cast class z) f idle no_throw no_new = idle_same w f idle
next_idle w l n (Probe z) f idle no_throw no_new = idle_stays w (changed (writing w l n (z ∷ []))) f idle

-- A new object of the site.
new_is : (w : Setting) (l : LoweredMethod) (n : Node) (op : Op) (target : ℕ) (f : SiteFact) → op ≡ New w.site target
    → after_operation w l n op f ≡ after_new w (Some target) (changed (writing w l n (target ∷ []))) f
new_is w l n op target f is =
    ap (λ (o : Op). after_operation w l n o f) is
    ∙ ap (λ (b : Bool). cond b (after_new w (Some target) (changed (writing w l n (target ∷ []))) f) (on_tuples (changed (writing w l n (target ∷ []))) f))
    (is_site w.site)

pub next_some : (w : Setting) (l : LoweredMethod) (n : Node) (op : Op) (f : SiteFact) (target : ℕ) → IsIdle f → op ≡ New w.site target
    → Contains (map (finished w) (after_operation w l n op f)) some_yet
next_some w l n op f target idle is =
    subst (λ (fs : List SiteFact). Contains (map (finished w) fs) some_yet) (sym (new_is w l n op target f is))
    (new_some w (Some target) (changed (writing w l n (target ∷ []))) f idle)

pub next_first : (w : Setting) (l : LoweredMethod) (n : Node) (op : Op) (target : ℕ) → op ≡ New w.site target
    → Meets (IsBorn (Some target) true w.property.initial) (map (finished w) (after_operation w l n op none_yet))
next_first w l n op target is =
    subst (λ (fs : List SiteFact). Meets (IsBorn (Some target) true w.property.initial) (map (finished w) fs)) (sym (new_is w l n op target none_yet is))
    (new_first w (Some target) (changed (writing w l n (target ∷ []))))

pub next_further : (w : Setting) (l : LoweredMethod) (n : Node) (op : Op) (target : ℕ) → op ≡ New w.site target
    → Meets (IsBorn (Some target) false w.property.initial) (map (finished w) (after_operation w l n op some_yet))
next_further w l n op target is =
    subst (λ (fs : List SiteFact). Meets (IsBorn (Some target) false w.property.initial) (map (finished w) fs)) (sym (new_is w l n op target some_yet is))
    (new_further w (Some target) (changed (writing w l n (target ∷ []))))
