-- Where methods return, calls have returned, and objects are thrown, the tuple is rerooted.
use Rattle.std.proofs.Common.{◌≡◌, ℕ, List, [], ◌∷◌, map, Option, Some, None, sym, ap, subst}
use Rattle.std.specs.List.{Contains}
use Rattle.list_laws.proofs.Members.{contains_first}
use Rattle.op_model.specs.declared.lowered.LoweredMethod.{LoweredMethod}
use Rattle.op_model.specs.declared.node.Node.{Node}
use Rattle.op_model.specs.declared.op.Call.{Call as NodeCall}
use Rattle.op_model.specs.declared.op.Op.{Op}
use Rattle.op_model.specs.declared.op.Op.TheVariants.{Call, Return}
use Rattle.access_paths.specs.declared.root.Root.{Root}
use Rattle.access_paths.specs.Paths.{Path}
use Rattle.stage_facts.specs.Facts.{Tuple, SiteFact, none_yet, some_yet, of_object}
use Rattle.stage_transfer.specs.Settings.{Setting}
use Rattle.stage_transfer.specs.Calls.{after_exception}
use Rattle.stage_transfer.specs.Changes.{changed}
use Rattle.stage_transfer.specs.Exceptions.{after_raise, catching, thrown_slot, unwinding}
use Rattle.stage_transfer.specs.Operations.{after_operation, puts_away}
use Rattle.stage_transfer.specs.Stages.{finished}
use Rattle.stage_relations.specs.Laws.{IsIdle, Meets}
use Rattle.stage_relations.specs.Roots.{Doubles, Exited, HasVariables, Raised, Received}
use Rattle.stage_relations.specs.Relations.{NoPath, PutsAway, Reroots}
use Rattle.stage_transfer_laws.proofs.Alike.{Knows}
use Rattle.stage_transfer_laws.proofs.Changed.{changed_reroots}
use Rattle.stage_transfer_laws.proofs.CutRelations.{away_cut, reroots_cut}
use Rattle.stage_transfer_laws.proofs.Exits.{catch_moves, receive_moves, return_moves, throw_moves, unwind_moves}
use Rattle.stage_transfer_laws.proofs.Finished.{finished_cut}
use Rattle.stage_transfer_laws.proofs.Results.{idle_stays, meets_only}
use Rattle.stage_transfer_laws.proofs.Tuples.{away_puts, away_reroots}

-- What is rerooted meets a law that asks for it.
pub rerooted : (w : Setting) {Goes Doubled : Root → Root → Type 0} {Known : Path → Type 0} {u v : Tuple} → Reroots Goes Doubled Known u v
    → Meets (Reroots Goes Doubled Known u) (map (finished w) (of_object v ∷ []))
rerooted w {Goes} {Doubled} {Known} {u} {v} r = meets_only w (Reroots Goes Doubled Known u) v (reroots_cut (finished_cut w.stage v) r)

-- ---- returns and results

pub return_meets : (w : Setting) (l : LoweredMethod) (n : Node) (op : Op) (value : Option ℕ) (u : Tuple) → op ≡ Return value
    → Meets (Reroots (Exited value) (Exited value) NoPath u) (map (finished w) (after_operation w l n op (of_object u)))
return_meets w l n op value u is =
    subst (λ (o : Op). Meets (Reroots (Exited value) (Exited value) NoPath u) (map (finished w) (after_operation w l n o (of_object u)))) (sym is)
    (rerooted w (changed_reroots (return_moves value) NoPath u))

pub receive_meets : (w : Setting) → Knows w → (l : LoweredMethod) (n : Node) → HasVariables l n → (op : Op) (c : NodeCall) (u : Tuple) → op ≡ Call c
    → Meets (Reroots (Received c) (Doubles l n (Received c)) NoPath u) (map (finished w) (after_operation w l n op (of_object u)))
receive_meets w knows l n has op c u is =
    subst (λ (o : Op). Meets (Reroots (Received c) (Doubles l n (Received c)) NoPath u) (map (finished w) (after_operation w l n o (of_object u)))) (sym is)
    (rerooted w (changed_reroots (receive_moves w knows l n has c) NoPath u))

-- ---- objects that are thrown

-- What the law asks for where a value is thrown.
abbrev pub RaisedTo : LoweredMethod → Node → (value handler : Option ℕ) → Tuple → Tuple → Type 0
RaisedTo l n value handler u v = Reroots (Raised value handler l.slots) (Doubles l n (Raised value handler l.slots)) NoPath u v

unwind_reroots : (l : LoweredMethod) (n : Node) (value : Option ℕ) (u : Tuple) → RaisedTo l n value None u (changed (unwinding value) u)
unwind_reroots l n None u = changed_reroots (unwind_moves l n) NoPath u
unwind_reroots l n (Some value) u = changed_reroots (throw_moves l n value) NoPath u

module _ (w : Setting) (knows : Knows w) (l : LoweredMethod) (n : Node) (has : HasVariables l n) where
  catch_reroots : (value : Option ℕ) (offset : ℕ) (u : Tuple) → RaisedTo l n value (Some offset) u (changed (catching w l n value) u)
  catch_reroots value offset u = changed_reroots (catch_moves w knows l n has value offset) NoPath u

  pub raise_meets : (handler : Option ℕ) (u : Tuple)
      → Meets (RaisedTo l n (thrown_slot n.op) handler u) (map (finished w) (after_raise w l n handler (of_object u)))
  raise_meets None u = rerooted w (unwind_reroots l n (thrown_slot n.op) u)
  raise_meets (Some offset) u = rerooted w (catch_reroots (thrown_slot n.op) offset u)

  -- ---- exceptions of described methods

  -- What the law asks for where a described method throws.
  abbrev Excepted : List ℕ → Option ℕ → Tuple → Tuple → Type 0
  Excepted kept handler u v = RaisedTo l n None handler u v × PutsAway kept u v

  excepted : (kept : List ℕ) (handler : Option ℕ) (u v : Tuple) → RaisedTo l n None handler (puts_away kept u) v
      → Meets (Excepted kept handler u) (map (finished w) (of_object v ∷ []))
  excepted kept handler u v r =
      let cut = finished_cut w.stage v in
      meets_only w (Excepted kept handler u) v (reroots_cut cut (away_reroots kept u r), away_cut kept u cut (away_puts kept u r))

  -- A call throws what stands in no slot.
  from_call : (c : NodeCall) (handler : Option ℕ) (u v : Tuple) → n.op ≡ Call c → RaisedTo l n (thrown_slot n.op) handler u v → RaisedTo l n None handler u v
  from_call c handler u v is r = subst (λ (o : Option ℕ). RaisedTo l n o handler u v) (ap thrown_slot is) r

  pub exception_meets : (c : NodeCall) (kept : List ℕ) (handler : Option ℕ) (u : Tuple) → n.op ≡ Call c
      → Meets (λ v. Reroots (Raised None handler l.slots) (Doubles l n (Raised None handler l.slots)) NoPath u v × PutsAway kept u v)
      (map (finished w) (after_exception w l n kept handler (of_object u)))
  exception_meets c kept None u is =
      let v = changed (unwinding (thrown_slot n.op)) (puts_away kept u) in
      excepted kept None u v (from_call c None (puts_away kept u) v is (unwind_reroots l n (thrown_slot n.op) (puts_away kept u)))
  exception_meets c kept (Some offset) u is =
      let v = changed (catching w l n (thrown_slot n.op)) (puts_away kept u) in
      excepted kept (Some offset) u v (from_call c (Some offset) (puts_away kept u) v is (catch_reroots (thrown_slot n.op) offset (puts_away kept u)))

-- ---- facts without an object

pub raise_idle : (w : Setting) (l : LoweredMethod) (n : Node) (handler : Option ℕ) (f : SiteFact) → IsIdle f
    → Contains (map (finished w) (after_raise w l n handler f)) f
raise_idle w l n None f idle = idle_stays w (changed (unwinding (thrown_slot n.op))) f idle
raise_idle w l n (Some offset) f idle = idle_stays w (changed (catching w l n (thrown_slot n.op))) f idle

pub exception_idle : (w : Setting) (l : LoweredMethod) (n : Node) (kept : List ℕ) (handler : Option ℕ) (f : SiteFact) → IsIdle f
    → Contains (map (finished w) (after_exception w l n kept handler f)) f
exception_idle w l n kept handler none_yet idle = by handler
  where
    by : (handler : Option ℕ) → Contains (map (finished w) (after_exception w l n kept handler none_yet)) none_yet
    by None = contains_first none_yet []
    by (Some offset) = contains_first none_yet []
exception_idle w l n kept handler some_yet idle = by handler
  where
    by : (handler : Option ℕ) → Contains (map (finished w) (after_exception w l n kept handler some_yet)) some_yet
    by None = contains_first some_yet []
    by (Some offset) = contains_first some_yet []
exception_idle w l n kept handler (of_object t) idle = absurd idle
