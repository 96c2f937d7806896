-- At a node of a method without slots a transfer does not ask for variables: so it does the same whatever is answered.
use Rattle.std.proofs.Common.{◌≡◌, ℕ, nat_le, nat_lt, ◌+◌, Bool, false, not, ◌||◌, ◌&&◌, List, [], ◌∷◌, ◌++◌, map, filter, Option, None, Some, refl, sym, ap, ◌∙◌, subst, if◌then◌else◌, arith}
use Rattle.std.proofs.lemmas.Bool.Decides.{nat_tests}
use Rattle.std.specs.List.{flat_map, list_any, range_with_len}
use Rattle.std.specs.Option.{option_flatten, option_to_list}
use Rattle.std.specs.List.{slice_get}
use Rattle.jvm_model.specs.declared.automaton.Event.{Event}
use Rattle.jvm_model.specs.declared.number.MethodNo.{MethodNo}
use Rattle.op_model.specs.declared.lowered.LoweredMethod.{LoweredMethod}
use Rattle.op_model.specs.declared.node.Node.{Node}
use Rattle.op_model.specs.declared.op.Call.{Call as NodeCall}
use Rattle.op_model.specs.declared.op.CallKind.{CallKind}
use Rattle.op_model.specs.declared.op.CallKind.TheVariants.{Static}
use Rattle.op_model.specs.declared.op.Op.{Op}
use Rattle.op_model.specs.declared.op.Op.TheVariants.{Call, Return}
use Rattle.machine_bytecode.specs.Events.{event_for}
use Rattle.machine_nodes.specs.NodeSteps.{is_selecting_kind}
use Rattle.machine_nodes.specs.Slots.{argument_slots}
use Rattle.slot_names.specs.declared.variable.Variable.TheVariants.{Parameter}
use Rattle.access_paths.specs.declared.root.Root.{Root}
use Rattle.access_paths.specs.declared.root.Root.TheVariants.{Slot, Static as StaticRoot, Returned, Thrown}
use Rattle.access_paths.specs.Paths.{Path, same_root}
use Rattle.stage_facts.specs.Facts.{Tuple, SiteFact, none_yet, some_yet, of_object}
use Rattle.stage_transfer.specs.Calls.{Entering, Result, an_argument, a_new_object, another, after_answer, call_facts, event_at, event_of_call, giving, is_left_out, is_dropped, is_slot, joins, left_fact, left_set, written_by, written_on}
use Rattle.stage_transfer.specs.Changes.{Change, changed, copied, has_fields, is_doubled, moved_to, slots_go, unwritten, writing}
use Rattle.stage_transfer.specs.Exceptions.{after_raise, catching, caught_from, thrown_root, thrown_slot, unwinding}
use Rattle.stage_transfer.specs.Operations.{after_new, after_operation, on_tuples, puts_away, receiving}
use Rattle.stage_transfer.specs.Settings.{Setting, alike, among, same_site, same_variable}
use Rattle.stage_transfer.specs.Stages.{finished, transfer_of}
use Rattle.edge_steps.specs.Steps.{DoTheSame}

-- The setting in which nothing is known of slots.
abbrev pub unknown_slots : Setting → Setting
unknown_slots w = record {
  property = w.property;
  site = w.site;
  stage = w.stage;
  depth = w.depth;
  answers = record {
    variable_at = λ l n z. Parameter (record { 0 = 0 }) 0;
    may_hold_site = λ h s. false;
    holds_no_other = λ h s. false;
    may_write_field = w.answers.may_write_field;
  };
}

no_slot : (l : LoweredMethod) (z : ℕ) → l.slots ≡ 0 → l.stack ≡ 0 → nat_lt z (l.slots + l.stack) ≡ false
no_slot l z slots stack =
    let none : l.slots + l.stack ≡ 0 = omega (arith, slots, stack) in
    subst (λ (m : ℕ). nat_lt z m ≡ false) (sym none) (below z)
  where
    below : (y : ℕ) → nat_lt y 0 ≡ false
    below y = grind (arith, nat_tests)

alone : (w : Setting) (l : LoweredMethod) (n : Node) → l.slots ≡ 0 → l.stack ≡ 0 → (z : ℕ) → alike w l n z ≡ z ∷ []
alone w l n slots stack z =
    ap (λ (b : Bool). if b then filter (λ (y : ℕ). same_variable (w.answers.variable_at l n y) (w.answers.variable_at l n z)) (range_with_len 0 (l.slots + l.stack)) else z ∷ [])
    (no_slot l z slots stack)

module _ (w : Setting) (k l : LoweredMethod) (n o : Node) (k_slots : k.slots ≡ 0) (k_stack : k.stack ≡ 0) (l_slots : l.slots ≡ 0) (l_stack : l.stack ≡ 0) where
  abbrev v : Setting
  v = unknown_slots w

  slots : k.slots ≡ l.slots
  slots = k_slots ∙ sym l_slots

  same_alike : (z : ℕ) → alike v k n z ≡ alike w l o z
  same_alike z = alone v k n k_slots k_stack z ∙ sym (alone w l o l_slots l_stack z)

  unwritten_at : (written : ℕ → Bool) (r : Root) → unwritten v k n written r ≡ unwritten w l o written r
  unwritten_at written (Slot z) = ap (λ (ys : List ℕ). map Slot (filter (λ (y : ℕ). not (written y)) ys)) (same_alike z)
  unwritten_at written (StaticRoot f) = refl
  unwritten_at written Returned = refl
  unwritten_at written Thrown = refl

  moved_at : (from : ℕ) (to r : Root) → moved_to v k n from to r ≡ moved_to w l o from to r
  moved_at from to (Slot z) = ap (λ (ys : List ℕ). filter (λ (r : Root). among ys from) (to ∷ [])) (same_alike z)
  moved_at from to (StaticRoot f) = refl
  moved_at from to Returned = refl
  moved_at from to Thrown = refl

  caught_at : (value : Option ℕ) (r : Root) → caught_from v k n value r ≡ caught_from w l o value r
  caught_at None r = ap (λ (s : ℕ). if same_root Thrown r then Slot s ∷ [] else []) slots
  caught_at (Some value) r = moved_at value (Slot k.slots) r ∙ ap (λ (s : ℕ). moved_to w l o value (Slot s) r) slots

  writes : (written : List ℕ) → writing v k n written ≡ writing w l o written
  writes written = λ i. record { adds = λ set. []; goes = slots_go (among written); doubles = λ r. unwritten_at (among written) r i }

  receives : (arguments : List ℕ) (result : Option ℕ) → receiving v k n arguments result ≡ receiving w l o arguments result
  receives arguments result = λ i. record {
    adds = copied (map (λ (z : ℕ). record { from = Returned; to = Slot z }) (option_to_list result));
    goes = λ r. slots_go (among (option_to_list result ++ arguments)) r || same_root Returned r;
    doubles = λ r. unwritten_at (among (option_to_list result ++ arguments)) r i ++ (if same_root Returned r then map Slot (option_to_list result) else []);
  }

  moves : (c : NodeCall) (z : ℕ) (r : Root) (ys : List ℕ)
      → flat_map (λ (y : ℕ). moved_to v k n z (Slot y) r) ys ≡ flat_map (λ (y : ℕ). moved_to w l o z (Slot y) r) ys
  moves c z r ys = λ i. flat_map (λ (y : ℕ). moved_at z (Slot y) r i) ys

  gives_ : (c : NodeCall) (z : ℕ) → giving v k n c z ≡ giving w l o c z
  gives_ c z = λ i. record {
    adds = copied (map (λ (r : ℕ). record { from = Slot z; to = Slot r }) (option_to_list c.result));
    goes = slots_go (among (written_by c));
    doubles = λ r. unwritten_at (among (written_by c)) r i ++ moves c z r (option_to_list c.result) i;
  }

  catches : (value : Option ℕ) → catching v k n value ≡ catching w l o value
  catches value = λ i. record {
    adds = copied (record { from = thrown_root value; to = Slot (slots i) } ∷ []);
    goes = λ r. slots_go (nat_le (slots i)) r || same_root Thrown r;
    doubles = λ r. below i r ++ caught_at value r i;
  }
    where
      below : unwritten v k n (nat_le k.slots) ≡ unwritten w l o (nat_le l.slots)
      below = (λ i r. unwritten_at (nat_le k.slots) r i) ∙ ap (λ (s : ℕ). unwritten w l o (nat_le s)) slots

  finishes : finished v ≡ finished w
  finishes = λ i f. at f i
    where
      at : (f : SiteFact) → finished v f ≡ finished w f
      at none_yet = refl
      at some_yet = refl
      at (of_object t) = refl

  -- ---- the transfer

  module _ (op : n.op ≡ o.op) where
    thrown : thrown_slot n.op ≡ thrown_slot o.op
    thrown = ap thrown_slot op

    raised : (handler : Option ℕ) (f : SiteFact) → after_raise v k n handler f ≡ after_raise w l o handler f
    raised None f = ap (λ (value : Option ℕ). on_tuples (changed (unwinding value)) f) thrown
    raised (Some handler) f = ap (λ (c : Change). on_tuples (changed c) f) (catches (thrown_slot n.op) ∙ ap (catching w l o) thrown)

    pub raise_same : (handler : Option ℕ) (f : SiteFact) → (transfer_of v).raise k n handler f ≡ (transfer_of w).raise l o handler f
    raise_same handler f = λ i. map (finishes i) (raised handler f i)

    pub exception_same : (kept : List ℕ) (handler : Option ℕ) (f : SiteFact) → (transfer_of v).exception k n kept handler f ≡ (transfer_of w).exception l o kept handler f
    exception_same kept handler f = λ i. map (finishes i) (flat_map (λ (g : SiteFact). raised handler g i) (on_tuples (puts_away kept) f))

  abbrev made : NodeCall → List ℕ → Setting → Change → SiteFact → List SiteFact
  made c kept u g fact = after_new u c.result (λ (t : Tuple). changed g (puts_away kept t)) fact

  answered : (c : NodeCall) (kept : List ℕ) (r : Result) (f : SiteFact) → after_answer v k n c kept r f ≡ after_answer w l o c kept r f
  answered c kept (an_argument z) f = ap (λ (g : Change). on_tuples (λ (t : Tuple). changed g (puts_away kept t)) f) (gives_ c z)
  answered c kept (a_new_object site) f = λ i. if same_site site w.site then new f i else on_tuples (λ (t : Tuple). changed (writes (written_by c) i) (puts_away kept t)) f
    where
      new : (fact : SiteFact) → made c kept v (writing v k n (written_by c)) fact ≡ made c kept w (writing w l o (written_by c)) fact
      new none_yet = refl
      new some_yet = refl
      new (of_object t) = ap (λ (g : Change). made c kept w g (of_object t)) (writes (written_by c))
  answered c kept another f = ap (λ (g : Change). on_tuples (λ (t : Tuple). changed g (puts_away kept t)) f) (writes (written_by c))

  pub answer_same : (c : NodeCall) (kept : List ℕ) (r : Result) (f : SiteFact) → (transfer_of v).answer k n c kept r f ≡ (transfer_of w).answer l o c kept r f
  answer_same c kept r f = λ i. map (finishes i) (answered c kept r f i)

  abbrev is_left_by : (by : Entering) (target : MethodNo) (after : List Path) (x : Path) → (Root → List Root) → Bool
  is_left_by by target after x doubles = has_fields x.fields && (is_slot x.root && (not (joins w by target x) && not (is_doubled doubles after x)))

  left_same : (by : Entering) (target : MethodNo) (caller exit : SiteFact) → left_fact v k n by target caller exit ≡ left_fact w l o by target caller exit
  left_same by target caller none_yet = refl
  left_same by target caller some_yet = refl
  left_same by target none_yet (of_object e) = refl
  left_same by target some_yet (of_object e) = refl
  left_same by target (of_object t) (of_object e) = λ i. of_object (record {
    unique = e.unique;
    state = e.state;
    must = left_set w by target t.must e.must;
    may = e.may || (t.may || (list_any (is_dropped by) e.must || list_any (λ (x : Path). out x i) t.must));
    must_not = left_set w by target t.must_not e.must_not;
  })
    where
      out : (x : Path) → is_left_out v k n by target (left_set w by target t.must e.must) x ≡ is_left_out w l o by target (left_set w by target t.must e.must) x
      out x = λ i. is_left_by by target (left_set w by target t.must e.must) x (λ r. unwritten_at (among (written_on by)) r i)

  pub leave_same : (by : Entering) (target : MethodNo) (caller exit : SiteFact) → (transfer_of v).leave k n by target caller exit ≡ (transfer_of w).leave l o by target caller exit
  leave_same by target caller exit = λ i. finishes i (left_same by target caller exit i)

  -- ---- a call that chooses no event, and a return

  next_call : (c : NodeCall) (f : SiteFact) → after_operation v k n (Call c) f ≡ after_operation w l o (Call c) f
  next_call c f = ap (λ (g : Change). on_tuples (changed g) f) (receives (argument_slots c.arguments) c.result)

  next_at : (op : Op) → n.op ≡ op → o.op ≡ op → ((f : SiteFact) → after_operation v k n op f ≡ after_operation w l o op f) → (f : SiteFact)
      → (transfer_of v).next k n f ≡ (transfer_of w).next l o f
  next_at op is also same f = (λ i. map (finishes i) (after_operation v k n (is i) f)) ∙ ap (map (finished w)) (same f) ∙ ap (λ (p : Op). map (finished w) (after_operation w l o p f)) (sym also)

  pub next_of_call : (c : NodeCall) → n.op ≡ Call c → o.op ≡ Call c → (f : SiteFact) → (transfer_of v).next k n f ≡ (transfer_of w).next l o f
  next_of_call c is also f = next_at (Call c) is also (next_call c) f

  pub next_of_return : (value : Option ℕ) → n.op ≡ Return value → o.op ≡ Return value → (f : SiteFact) → (transfer_of v).next k n f ≡ (transfer_of w).next l o f
  next_of_return value is also f = next_at (Return value) is also (λ g. refl) f

  event_at_none : (e : Option Event) (receiver : Option ℕ) (t : Tuple) → e ≡ None → event_at v k n e receiver t ≡ event_at w l o e receiver t
  event_at_none e receiver t none = ap (λ (d : Option Event). event_at v k n d receiver t) none ∙ ap (λ (d : Option Event). event_at w l o d receiver t) (sym none)

  no_event : (c : NodeCall) → c.kind ≡ Static → event_of_call w.property c ≡ None
  no_event c is = ap (λ (kind : CallKind). if is_selecting_kind kind then event_for w.property (record { name = c.name; descriptor = c.descriptor }) else None) is

  happened : (c : NodeCall) → c.kind ≡ Static → (f : SiteFact) → call_facts v k n c f ≡ call_facts w l o c f
  happened c is none_yet = refl
  happened c is some_yet = refl
  happened c is (of_object t) = ap (map of_object) (event_at_none (event_of_call w.property c) (option_flatten (slice_get c.arguments 0)) t (no_event c is))

  pub event_same : (c : NodeCall) → c.kind ≡ Static → (f : SiteFact) → (transfer_of v).event k n c f ≡ (transfer_of w).event l o c f
  event_same c is f = λ i. map (finishes i) (happened c is f i)

  -- ---- all together

  pub do_the_same : (op : n.op ≡ o.op) → ((c : NodeCall) → n.op ≡ Call c → c.kind ≡ Static) → ((f : SiteFact) → (transfer_of v).next k n f ≡ (transfer_of w).next l o f)
      → DoTheSame (transfer_of v) k n (transfer_of w) l o
  do_the_same op statics next = record {
    next = next;
    raise = λ handler f. raise_same op handler f;
    event = λ c f is. event_same c (statics c is) f;
    answer = λ c kept r f is. answer_same c kept r f;
    exception = λ kept handler f. exception_same op kept handler f;
    leave = λ by target caller exit. leave_same by target caller exit;
  }
