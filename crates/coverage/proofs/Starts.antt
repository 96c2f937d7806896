-- Initialisers that begin, and the call of the entry.
use Rattle.std.proofs.Common.{◌≡◌, inl, inr, ℕ, zero, suc, Bool, true, false, cond, List, [], ◌∷◌, length, Option, Some, None, refl, sym, ap, ◌∙◌, subst}
use Rattle.std.specs.List.{slice_get}
use Rattle.std.specs.Str.{bytes_eq}
use Rattle.std.proofs.lemmas.Bool.{false≢true}
use Rattle.std.proofs.lemmas.Option.{same_Some, none-some}
use Rattle.std.proofs.lemmas.Slice.Eq.{bytes_eq-Decides}
use Rattle.jvm_model.specs.declared.number.ClassNo.{ClassNo}
use Rattle.jvm_model.specs.declared.number.MethodNo.{MethodNo}
use Rattle.jvm_model.specs.declared.site.Site.{Site}
use Rattle.jvm_model.specs.Programs.{Method}
use Rattle.jvm_model.specs.Soundness.{plain_descriptor}
use Rattle.least_sets.specs.Rules.{IsClosedSet}
use Rattle.op_model.specs.declared.lowered.LoweredMethod.{LoweredMethod}
use Rattle.op_model.specs.declared.node.Node.{Node}
use Rattle.op_model.specs.declared.node.NodeRef.{NodeRef}
use Rattle.op_model.specs.Supplies.{Given, GivenAs, IsMapOf}
use Rattle.machine_bytecode.specs.Machine.{AtStart}
use Rattle.machine_bytecode.specs.Objects.{Subject}
use Rattle.machine_bytecode.specs.Start.{arguments_of, boot_classes}
use Rattle.machine_bytecode.specs.States.{primitive_value, reference_to, State, slot_at}
use Rattle.machine_nodes.specs.Nodes.{IsClassNumber, IsCodedInitialiser}
use Rattle.machine_nodes.specs.NodeSteps.{AtNode, Starts, EntersEntry}
use Rattle.slot_names.specs.declared.variable.Variable.TheVariants.{Parameter}
use Rattle.points_to_rules.specs.Facts.{variable, Fact, may_hold, may_run, may_call}
use Rattle.points_to_rules.specs.Rules.{StartsAt, before_entry, at_node, start_call, argument_site, Instance, entry_runs, entry_called, entry_argument, initialiser_runs}
use Rattle.points_to_rules.specs.WholeMethods.{AreWholeMethods}
use Rattle.coverage.specs.References.{IsCovered}
use Rattle.coverage.specs.Covering.{MayHold, StandsIn, StandsSomewhere, IsCoveredFrame, node_at, WaitsForInitialiser, AreCoveredBelow, IsCoveredWorld, Covers}
use Rattle.machine_laws.proofs.CodedInitialisers.{coded_initialiser}
use Rattle.coverage.proofs.Values.{covered_as, leads_by}
use Rattle.coverage.proofs.Worlds.{started_later}
use Rattle.coverage.proofs.Frames.{frames_are}
use Rattle.coverage.proofs.Places.{Place, in_method, at_start, place_of, stands_in}
use Rattle.coverage.proofs.Calls.{same_method, one_node, begins_frame}
use Rattle.coverage.proofs.Throws.{class_is}

module _ (x : Subject) (given : Given) (gives : GivenAs) (S : Fact → Type 0) (map : IsMapOf given gives) (closed : IsClosedSet (Instance x.program gives (record { 0 = x.entry })) S)
    (whole : AreWholeMethods x.program gives) where
  -- ---- initialisers

  pub starts_cover : (s t : State) (at : AtNode x given s) → Starts x given s t at → Covers x gives S s → Covers x gives S t
  starts_cover s t at a c =
      subst (λ (u : State). Covers x gives S u) (sym a.after) (record {
        world = (started_later x gives S s.world a.number c.world).covered;
        frames = (
          begins_frame x given gives S map closed whole a.number a.slots s.world.heap (closed _ _ (initialiser_runs waits.premises number waits.may_start) waits.hold)
              (λ z. covered_as (MayHold S (variable (Parameter number z))) s.world.heap primitive_value _ (a.empty z) tt),
          refl,
          (
            record {
              called = number;
              is_called = refl;
              frame = frames.0;
              stands = λ m e. somewhere m e (place_of x given gives map at.frame at.now);
              for_call = λ e. absurd (false≢true (sym frames.1 ∙ e));
              for_initialiser = λ e. waits;
            },
            frames.2,
          ),
        );
        mode = tt;
      })
    where
      frames : IsCoveredFrame gives S s.world.heap at.frame × (at.frame.waits ≡ false) × AreCoveredBelow x gives S s.world.heap at.below at.frame.method
      frames = frames_are x gives S s.world.heap s.frames at.below at.frame at.frames c.frames

      number : MethodNo
      number = record { 0 = a.number }

      here : StartsAt x.program at.now.node number
      here = record { trigger = a.trigger; is_trigger = a.is_trigger; class = a.class; is_class = a.is_class; initialiser = coded_initialiser x.program a.class a.number a.initialiser }

      somewhere : (m : MethodNo) → at.frame.method ≡ Some m.0 → Place x gives at.frame at.now.locals at.now.node → StandsSomewhere gives at.frame m
      somewhere m e (in_method k l stands count) =
          subst (λ (j : MethodNo). StandsSomewhere gives at.frame j) (same_method at.frame.method k m stands.in_method e) (record { lowered = l; node = at.now.node; here = stands })
      somewhere m e (at_start no_method offset start) = absurd (none-some m.0 (sym no_method ∙ e))

      starts : (m : MethodNo) (l : LoweredMethod) (n : Node) → StandsIn gives at.frame m l n → StartsAt x.program n number
      starts m l n there =
          subst (λ (k : Node). StartsAt x.program k number)
          (one_node x given gives S map closed whole at.frame m l at.now.node n (stands_in x given gives map at.frame at.now m l there.in_method there.node.given) there) here

      waits : WaitsForInitialiser x gives S at.frame number
      waits = by (place_of x given gives map at.frame at.now)
        where
          by : Place x gives at.frame at.now.locals at.now.node → WaitsForInitialiser x gives S at.frame number
          by (in_method m l stands count) = record {
            premises = may_run m ∷ [];
            may_start = at_node m l at.now.node stands.node here refl;
            hold = (frames.0.runs m stands.in_method, tt);
            starts = starts;
          }
          by (at_start no_method offset (inl call)) =
              let triggers : call.class ≡ a.trigger = same_Some call.class a.trigger (sym call.trigger ∙ a.is_trigger) in
              let class_same : call.entry.class ≡ a.class = class_is x.program a.trigger call.entry.class a.class (subst (λ (t : ClassNo). IsClassNumber x.program t call.entry.class) triggers call.is_class) a.is_class in
              record {
                premises = [];
                may_start = before_entry call.entry call.stands (subst (λ (class : List ℕ). IsCodedInitialiser x.program class a.number) (sym class_same) here.initialiser) refl;
                hold = tt;
                starts = starts;
              }
          by (at_start no_method offset (inr return)) = absurd (none-some a.trigger (sym return.trigger ∙ a.is_trigger))

  -- ---- the entry

  abbrev entry : MethodNo
  entry = record { 0 = x.entry }

  -- its argument, if there is one
  argument_covered : (s : State) (m : Method) → slice_get x.program.methods x.entry ≡ Some m → IsCoveredWorld x gives S s.world → (unit : ℕ) → (b : Bool) → bytes_eq m.signature.descriptor plain_descriptor ≡ b
      → IsCovered (MayHold S (variable (Parameter entry unit))) s.world.heap (slot_at (cond b [] (reference_to (length (boot_classes x.program)) ∷ [])) unit)
  argument_covered s m stands c unit true e = tt
  argument_covered s m stands c zero false e =
      let some : m.signature.descriptor ≡ plain_descriptor → ⊥ = λ is. false≢true (sym e ∙ (bytes_eq-Decides m.signature.descriptor plain_descriptor).1 is) in
      leads_by (λ site. site ≡ argument_site) (MayHold S (variable (Parameter entry 0))) s.world.heap (length (boot_classes x.program))
      (λ site is. subst (λ (t : Site). S (may_hold (variable (Parameter entry 0)) t)) (sym is) (closed _ _ (entry_argument (record { method = m; stands = stands; some = some })) tt))
      (c.start.arguments m stands some)
  argument_covered s m stands c (suc unit) false e = tt

  pub enters_entry_covers : (s t : State) (at : AtStart s 0) → EntersEntry x given s t at → Covers x gives S s → Covers x gives S t
  enters_entry_covers s t at a c =
      let frames = frames_are x gives S s.world.heap s.frames at.below at.frame at.frames c.frames in
      let is_start : node_at at.frame ≡ start_call =
      ap (λ (o : Option ℕ). node_at (record { method = o; offset = at.frame.offset; slots = []; waits = false })) at.no_method
      ∙ ap (λ (k : ℕ). node_at (record { method = None; offset = k; slots = []; waits = false })) at.stands in
      subst (λ (u : State). Covers x gives S u) (sym a.enters.after) (record {
        world = c.world;
        frames = (
          begins_frame x given gives S map closed whole x.entry a.enters.slots s.world.heap (closed _ _ entry_runs tt)
              (λ z. covered_as (MayHold S (variable (Parameter entry z))) s.world.heap (slot_at (arguments_of x.program a.entry) z) _ (a.enters.arguments z)
              (argument_covered s a.entry a.stands c.world z (bytes_eq a.entry.signature.descriptor plain_descriptor) refl)),
          refl,
          (
            record {
              called = entry;
              is_called = refl;
              frame = record {
                runs = λ m is. absurd (none-some m.0 (sym at.no_method ∙ is));
                slots = λ m l n z v here inside named. absurd (none-some m.0 (sym at.no_method ∙ here.in_method));
              };
              stands = λ m is. absurd (none-some m.0 (sym at.no_method ∙ is));
              for_call = λ e. record {
                target = subst (λ (r : NodeRef). S (may_call r entry)) (sym is_start) (closed _ _ entry_called tt);
                passed = λ m l n here. absurd (none-some m.0 (sym at.no_method ∙ here.in_method));
              };
              for_initialiser = λ e. absurd (false≢true (sym e));
            },
            frames.2,
          ),
        );
        mode = tt;
      })
