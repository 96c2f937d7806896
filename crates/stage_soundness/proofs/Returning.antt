-- Steps of a frame that runs: the call of the entry, the start of an initialiser, and returns.
use Rattle.std.proofs.Common.{◌≡◌, inl, ℕ, zero, suc, Bool, true, false, cond, List, [], ◌∷◌, length, Option, Some, None, Ok, Contains, refl, sym, ap, ◌∙◌, subst}
use Rattle.std.specs.Prelude.{slice_get}
use Rattle.std.specs.Option.{option_map}
use Rattle.std.specs.Str.{bytes_eq}
use Rattle.std.proofs.lemmas.Bool.{false≢true}
use Rattle.std.proofs.lemmas.Option.{none-some}
use Rattle.std.proofs.lemmas.Slice.Eq.{bytes_eq-Decides}
use Rattle.list_laws.proofs.Members.{contains_first, contains_none}
use Rattle.jvm_model.specs.declared.number.MethodNo.{MethodNo}
use Rattle.jvm_model.specs.declared.site.Site.{Site}
use Rattle.jvm_model.specs.Programs.{Method}
use Rattle.jvm_model.specs.Soundness.{plain_descriptor}
use Rattle.op_model.specs.declared.lowered.LoweredMethod.{LoweredMethod}
use Rattle.op_model.specs.declared.node.Node.{Node}
use Rattle.op_model.specs.declared.node.Spot.TheVariants as spots
use Rattle.op_model.specs.declared.op.Call.{Call as NodeCall}
use Rattle.op_model.specs.declared.op.CallKind.TheVariants.{Static}
use Rattle.op_model.specs.declared.op.Op.TheVariants.{Call, Return}
use Rattle.op_model.specs.Supplies.{Given, GivenAs}
use Rattle.machine_bytecode.specs.Machine.{AtStart}
use Rattle.machine_bytecode.specs.Objects.{Subject}
use Rattle.machine_bytecode.specs.Start.{boot_classes, boot_site}
use Rattle.machine_bytecode.specs.States.{primitive_value, reference_to, Frame, State, World, slot_at, with_started}
use Rattle.machine_laws.proofs.CodedInitialisers.{coded_initialiser}
use Rattle.machine_nodes.specs.NodeSteps.{AtNode, Ends, EntersEntry, Resumes, Returns, Starts}
use Rattle.machine_nodes.specs.Slots.{AreLeft, returned_value}
use Rattle.points_to_rules.specs.Facts.{Fact, may_call}
use Rattle.points_to_rules.specs.Rules.{argument_site, entry_called, StartsAt}
use Rattle.coverage.specs.References.{LeadsTo}
use Rattle.coverage.proofs.Calls.{of_file}
use Rattle.stage_facts.specs.Facts.{none_yet, Says, SiteFact}
use Rattle.stage_facts.specs.Values.{of_return, of_slots}
use Rattle.stage_transfer.specs.Calls.{by_call, by_trigger, Entering}
use Rattle.stage_transfer.specs.Stages.{Transfer}
use Rattle.stage_edges.specs.Rules.{called, Edge, edge, Enters, Instance, node_at, triggered}
use Rattle.stage_relations.specs.Roots.{StaysIn}
use Rattle.stage_steps.specs.Said.{BeginsWith, IsTracked}
use Rattle.stage_steps.proofs.Calm.{started_says}
use Rattle.stage_steps.proofs.Entering.{enter_says}
use Rattle.stage_steps.proofs.Events.{equal_at_start, start_event_says}
use Rattle.stage_steps.proofs.Leaving.{left_result_says, left_trigger_says, waiting_agree}
use Rattle.stage_steps.proofs.Paths.{same_place}
use Rattle.stage_steps.proofs.Receiving.{receive_says}
use Rattle.stage_steps.proofs.Returning.{return_says}
use Rattle.stage_soundness.specs.Describing.{AreWaiting, method_of, Waits, waits_so}
use Rattle.stage_soundness.proofs.Alike.{alike_node}
use Rattle.stage_soundness.proofs.Known.{described_as, Described, edge_at, IsKnown, not_tracked, Premises, variables_of}
use Rattle.stage_soundness.proofs.Placed.{number_as}
use Rattle.stage_soundness.proofs.Running.{entered_good, newest}
use Rattle.stage_soundness.proofs.Standing.{Stands, stands_at, stands_at_start}
use Rattle.stage_soundness.proofs.Waiting.{behind_of, exit_edge, no_changes, triggered_by, triggered_of}

module _ (x : Subject) (given : Given) (gives : GivenAs) (S : Fact → Type 0) (s : Site) (t : Transfer) (E : Edge → Type 0) (k : Premises x given gives S s t E) where
  -- ---- initialisers

  pub starts_good : (state after : State) (at : AtNode x given state) → Starts x given state after at → IsKnown x given gives S state → (place : ℕ)
      → Described x given gives S s t E k place state → Described x given gives S s t E k place after
  starts_good state after at a known place d =
      let f = at.frame in
      let n = at.now.node in
      let w = state.world in
      let h = stands_at x given gives S s t E k state at place d in
      let new = newest x given gives S s t E k state f at.below at.frames known in
      let target = number_as a.number in
      let starts : StartsAt x.program n target = record { trigger = a.trigger; is_trigger = a.is_trigger; class = a.class; is_class = a.is_class; initialiser = coded_initialiser x.program a.class a.number a.initialiser } in
      let begins : BeginsWith by_trigger f.slots a.slots place = record {
        given = λ c unit z e there. absurd (let bad : by_trigger ≡ by_call c = e in cc bad);
        others = λ unit is. absurd (let bad : primitive_value ≡ reference_to place = sym (a.empty unit) ∙ is in cc bad);
      } in
      described_as x given gives S s t E k place after _ a.after
      (entered_good x given gives S s t E k state place f at.below n h new by_trigger target h.here.fact (triggered starts) (with_started w a.number) f.waits f.slots new.awake (record {
        slots = f.slots;
        world = w;
        says = h.here.says;
        stays = λ z aside. refl;
        cleared = λ z q is there. contains_none z there;
        bounded = new.slots;
        changes = no_changes S target w.heap w.heap (λ g q. refl);
      }) (h.equal (known.alike at.runs f at.below at.frames)) (λ m. no_changes S m w.heap w.heap (λ g q. refl)) a.slots
      (started_says s place w a.number (of_slots a.slots) (t.enter by_trigger h.here.fact) (enter_says x S s t k.laws place by_trigger h.here.fact w f.slots a.slots begins h.here.says)))

  -- ---- the entry

  -- the entry's argument is there from the start
  no_argument : (state : State) (entry : Method) (place unit : ℕ) → slice_get x.program.methods x.entry ≡ Some entry → IsKnown x given gives S state → IsTracked s place state.world.heap
      → (b : Bool) → bytes_eq entry.signature.descriptor plain_descriptor ≡ b → slot_at (cond b [] (reference_to (length (boot_classes x.program)) ∷ [])) unit ≡ reference_to place → ⊥
  no_argument state entry place unit stands known tracked true e is = absurd (let bad : primitive_value ≡ reference_to place = is in cc bad)
  no_argument state entry place zero stands known tracked false e is =
      let some : entry.signature.descriptor ≡ plain_descriptor → ⊥ = λ same. false≢true (sym e ∙ (bytes_eq-Decides entry.signature.descriptor plain_descriptor).1 same) in
      let leads = known.covers.world.start.arguments entry stands some in
      let there : length (boot_classes x.program) ≡ place = same_place (length (boot_classes x.program)) place is in
      not_tracked x given gives S s t E k state.world.heap place argument_site.class tracked
      (subst (λ (q : ℕ). LeadsTo (λ r. r ≡ boot_site argument_site.class) state.world.heap q) there (record { object = leads.object; held = leads.held; among = leads.among }))
  no_argument state entry place (suc unit) stands known tracked false e is = absurd (let bad : primitive_value ≡ reference_to place = is in cc bad)

  pub enters_entry_good : (state after : State) (at : AtStart state 0) → EntersEntry x given state after at → IsKnown x given gives S state → (place : ℕ) → IsTracked s place state.world.heap
      → Described x given gives S s t E k place state → Described x given gives S s t E k place after
  enters_entry_good state after at a known place tracked d =
      let f = at.frame in
      let w = state.world in
      let are = k.start.1 in
      let n = are.call in
      let h = stands_at_start x given gives S s t E k state 0 at n (subst (λ (ns : List Node). Contains ns n) (sym are.is) (contains_first n (are.return ∷ []))) are.is_call.offset place d in
      let new = newest x given gives S s t E k state f at.below at.frames known in
      let c : NodeCall = start_call_of in
      let r = start_event_says x S s t k.laws place h.lowered n c h.here.fact w f.slots refl refl refl h.here.says in
      let target = number_as x.entry in
      let given_as = (k.map.entries x.entry (Ok a.enters.method)).0 a.enters.is_given in
      let goes : S (may_call (node_at (method_of f) n) target) =
      subst (λ (o : Option MethodNo). S (may_call (record { method = o; offset = n.offset }) target)) (sym (ap (option_map number_as) at.no_method))
      (subst (λ (j : ℕ). S (may_call (record { method = None; offset = j }) target)) (sym are.is_call.offset) (k.points _ _ entry_called tt)) in
      let begins : BeginsWith (by_call c) f.slots a.enters.slots place = record {
        given = λ other unit z e there. absurd (none-some (Some z) (subst (λ (q : NodeCall). slice_get q.arguments unit ≡ Some (Some z)) (sym (same_call c other e)) there));
        others = λ unit is. absurd (no_argument state a.entry place unit a.stands known tracked (bytes_eq a.entry.signature.descriptor plain_descriptor) refl (sym (a.enters.arguments unit) ∙ is));
      } in
      described_as x given gives S s t E k place after _ a.enters.after
      (entered_good x given gives S s t E k state place f at.below n h new (by_call c) target r.fact
      (called c r.fact are.is_call.op goes (of_file x given gives S k.map k.points k.whole target a.enters.method given_as) r.listed) w true a.left refl (record {
        slots = f.slots;
        world = w;
        says = r.says;
        stays = λ z aside. a.are_left z;
        cleared = λ z q is there. contains_none z there;
        bounded = λ z q is. new.slots z q (sym (a.are_left z) ∙ is);
        changes = no_changes S target w.heap w.heap (λ g q. refl);
      }) (equal_at_start h.lowered n f.slots refl refl) (λ m. no_changes S m w.heap w.heap (λ g q. refl)) a.enters.slots
      (enter_says x S s t k.laws place (by_call c) r.fact w f.slots a.enters.slots begins r.says))
    where
      start_call_of : NodeCall
      start_call_of = record { kind = Static; resolved = number_as x.entry; chosen = Some (number_as x.entry); name = k.start.1.is_call.entry.signature.name; descriptor = k.start.1.is_call.entry.signature.descriptor; arguments = []; result = None }

      same_call : (a b : NodeCall) → by_call a ≡ by_call b → a ≡ b
      same_call a b e = cc

  -- ---- returns

  -- a frame that returns: its edge, and what this says
  pub record Exits (w : World) (place : ℕ) (f : Frame) (below : List Frame) (value : Option ℕ) : Type 0 where
    pub entry : SiteFact
    pub fact : SiteFact
    pub held : E (edge (method_of f) entry spots.Returned fact)
    pub says : Says s fact place w (of_return (returned_value value f.slots))
    pub waiting : AreWaiting x gives S s t E w place below (method_of f) entry

  pub exits : (w : World) (place : ℕ) (f : Frame) (below : List Frame) (n : Node) (value : Option ℕ) → n.op ≡ Return value → Stands x given gives S s t E k w place f below n
      → Exits w place f below value
  exits w place f below n value is h =
      let r = return_says x S s t k.laws place h.lowered n value h.here.fact w f.slots is h.here.says in
      record {
        entry = h.here.entry;
        fact = r.fact;
        held = k.edges _ _ (Instance.returns (method_of f) h.lowered n h.here.entry h.here.fact r.fact value h.is_node is r.listed) (h.held, tt);
        says = r.says;
        waiting = h.here.waiting;
      }

  -- the edge at which the program ends
  pub last_edge : (w : World) (place : ℕ) (f : Frame) (below : List Frame) (value : Option ℕ) (e : Exits w place f below value) → f.method ≡ None → E (edge None none_yet spots.Returned e.fact)
  last_edge w place f [] value e none =
      subst (λ (u : SiteFact). E (edge None u spots.Returned e.fact)) e.waiting.1 (subst (λ (o : Option MethodNo). E (edge o e.entry spots.Returned e.fact)) e.waiting.0 e.held)
  last_edge w place f (g ∷ below) value e none = absurd (none-some e.waiting.called (sym (ap (option_map number_as) none) ∙ e.waiting.is_called))

  -- the frame below one that returns: it waited, and has the edge
  record IsLeft (w : World) (place : ℕ) (f caller : Frame) (rest : List Frame) (value : Option ℕ) : Type 0 where
    target : MethodNo
    entry : SiteFact
    waits : Waits x gives S s t E w place caller target entry
    fact : SiteFact
    held : E (edge (Some target) (t.enter waits.by waits.sent) spots.Returned fact)
    says : Says s fact place w (of_return (returned_value value f.slots))
    waiting : AreWaiting x gives S s t E w place rest (method_of caller) waits.own

  left_by : (state : State) (at : AtNode x given state) (place : ℕ) (value : Option ℕ) → at.now.node.op ≡ Return value → (caller : Frame) (rest : List Frame) → at.below ≡ caller ∷ rest
      → Described x given gives S s t E k place state → IsLeft state.world place at.frame caller rest value
  left_by state at place value is caller rest below d =
      let f = at.frame in
      let e = exits state.world place f at.below at.now.node value is (stands_at x given gives S s t E k state at place d) in
      let waiting : AreWaiting x gives S s t E state.world place (caller ∷ rest) (method_of f) e.entry =
      subst (λ (fs : List Frame). AreWaiting x gives S s t E state.world place fs (method_of f) e.entry) below e.waiting in
      let b = waiting.first in
      record {
        target = waiting.called;
        entry = e.entry;
        waits = b;
        fact = e.fact;
        held = exit_edge x given gives S s t E k (method_of f) waiting.called e.entry (t.enter b.by b.sent) e.fact spots.Returned waiting.is_called b.entered e.held;
        says = e.says;
        waiting = waiting.rest;
      }

  -- a frame that waits for a call
  record IsCalled (by : Entering) : Type 0 where
    call : NodeCall
    is : by ≡ by_call call

  called_of : (by : Entering) → true ≡ waits_so by → IsCalled by
  called_of (by_call c) e = record { call = c; is = refl }
  called_of by_trigger e = absurd (false≢true (sym e))

  -- the call at which the frame waits
  op_of : (o : Option MethodNo) (l : LoweredMethod) (n : Node) (target : MethodNo) (f : SiteFact) (by : Entering) (sent : SiteFact) (c : NodeCall) → Enters x S t o l n target f by sent → by ≡ by_call c → n.op ≡ Call c
  op_of o l n target f _ sent c (called d u op goes file listed) e = op ∙ ap Call (same_call d c e)
    where
      same_call : (a b : NodeCall) → by_call a ≡ by_call b → a ≡ b
      same_call a b e = cc
  op_of o l n target f _ sent c (triggered starts) e = absurd (let bad : by_trigger ≡ by_call c = e in cc bad)

  pub returns_good : (state after : State) (at : AtNode x given state) → Returns x given state after at → (place : ℕ)
      → Described x given gives S s t E k place state → Described x given gives S s t E k place after
  returns_good state after at a place d =
      let w = state.world in
      let i = left_by state at place a.value a.is_return a.caller a.rest a.below d in
      let b = i.waits in
      let l = b.lowered in
      let m = b.node in
      let value = returned_value a.value at.frame.slots in
      let call = called_of b.by (sym a.called ∙ b.waits) in
      let is_call : m.op ≡ Call call.call = op_of (method_of a.caller) l m i.target b.fact b.by b.sent call.call b.enters call.is in
      let alike = alike_node x given gives S s t E k a.caller a.caller_at l m b.is_node b.at in
      let same : a.call ≡ call.call = one_call a.call call.call (sym a.is_call ∙ alike.0.op ∙ is_call) in
      let behind = behind_of x given gives S s t E k w place a.caller i.target i.entry b in
      let variables = variables_of x gives k.whole (method_of a.caller) l m b.is_node in
      let left = left_result_says x S s t k.laws place l m b.by i.target b.sent w a.caller.slots behind call.call call.is value i.fact i.says in
      let out = t.leave l m b.by i.target b.sent i.fact in
      let got = receive_says x S s t k.laws place l m call.call value out w a.caller.slots a.left variables (waiting_agree S s place w b.by i.target b.sent a.caller.slots l m behind b.alike) is_call
      (subst (λ (c : NodeCall). AreLeft [] c.result value a.caller.slots a.left) same a.are_left)
      (λ z q is. subst (λ (by : Entering). StaysIn by z) call.is (b.cleared z q is)) left in
      let goes : Contains m.successors a.next = subst (λ (ns : List ℕ). Contains ns a.next) alike.0.successors a.goes in
      let sent : Enters x S t (method_of a.caller) l m i.target b.fact (by_call call.call) b.sent =
      subst (λ (by : Entering). Enters x S t (method_of a.caller) l m i.target b.fact by b.sent) call.is b.enters in
      let results = subst (λ (by : Entering). Contains (t.next l m (t.leave l m by i.target b.sent i.fact)) got.fact) call.is got.listed in
      let held = subst (λ (by : Entering). E (edge (Some i.target) (t.enter by b.sent) spots.Returned i.fact)) call.is i.held in
      described_as x given gives S s t E k place after _ a.after (record {
        entry = b.own;
        fact = got.fact;
        held = k.edges _ _ (Instance.call_returns (method_of a.caller) l m b.own b.fact b.sent i.fact got.fact i.target call.call a.next b.is_node sent goes results) (b.held, (held, tt));
        says = got.says;
        waiting = i.waiting;
      })
    where
      one_call : (c d : NodeCall) → Call c ≡ Call d → c ≡ d
      one_call c d e = cc

  pub resumes_good : (state after : State) (at : AtNode x given state) → Resumes x given state after at → (place : ℕ)
      → Described x given gives S s t E k place state → Described x given gives S s t E k place after
  resumes_good state after at a place d =
      let i = left_by state at place a.value a.is_return a.caller a.rest a.below d in
      let b = i.waits in
      let by_is = triggered_of b.by (sym a.triggered ∙ b.waits) in
      let is = triggered_by x given gives S s t E k (method_of a.caller) b.lowered b.node i.target b.fact b.by b.sent b.enters by_is in
      let left = left_trigger_says x S s t k.laws place b.lowered b.node b.by i.target b.sent state.world a.caller.slots (behind_of x given gives S s t E k state.world place a.caller i.target i.entry b) by_is (returned_value a.value at.frame.slots) i.fact i.says in
      let out = t.leave b.lowered b.node by_trigger i.target b.fact i.fact in
      let held = subst (λ (u : SiteFact). E (edge (Some i.target) u spots.Returned i.fact)) is.entered i.held in
      described_as x given gives S s t E k place after _ a.after (record {
        entry = b.own;
        fact = out;
        held = edge_at x given gives S s t E k (method_of a.caller) b.own out b.node a.caller.offset b.at
            (k.edges _ _ (Instance.resumes (method_of a.caller) b.lowered b.node b.own b.fact i.fact i.target spots.Returned b.is_node is.starts tt) (b.held, (held, tt)));
        says = subst (λ (u : SiteFact). Says s u place state.world (of_slots a.caller.slots)) (is.left i.fact) left;
        waiting = i.waiting;
      })

  -- ---- the end

  pub ends_good : (state after : State) (at : AtNode x given state) → Ends x given state after at → (place : ℕ)
      → Described x given gives S s t E k place state → Described x given gives S s t E k place after
  ends_good state after at a place d =
      let f = at.frame in
      let e = exits state.world place f at.below at.now.node a.value a.is_return (stands_at x given gives S s t E k state at place d) in
      described_as x given gives S s t E k place after _ a.after (record {
        spot = spots.Returned;
        exit = tt;
        fact = e.fact;
        held = last_edge state.world place f at.below a.value e a.no_method;
        says = inl (returned_value a.value f.slots, e.says);
      })
