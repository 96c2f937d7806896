-- Operations that go on: what a fact said of an object, a result of the transfer says after the operation.
use Rattle.std.proofs.Common.{◌≡◌, ◌≢◌, ◌⊎◌, inl, inr, ℕ, ◌≤◌, List, [], ◌∷◌, length, Some, Contains, true, false, refl, sym, ◌∙◌, ap, subst}
use Rattle.std.proofs.lemmas.List.{length-set}
use Rattle.list_laws.proofs.Members.{contains_only}
use Rattle.jvm_model.specs.declared.site.Site.{Site}
use Rattle.op_model.specs.declared.lowered.LoweredMethod.{LoweredMethod}
use Rattle.op_model.specs.declared.node.Node.{Node}
use Rattle.op_model.specs.declared.op.Op.{Op}
use Rattle.op_model.specs.declared.op.Op.TheVariants.{Assign, Load, Store, LoadElement, StoreElement, LoadStatic, StoreStatic, New, NewArray, Constant, Call, Return, Throw, Cast, Probe}
use Rattle.machine_bytecode.specs.Objects.{Subject}
use Rattle.machine_bytecode.specs.States.{Value, reference_to, Object, World, new_object}
use Rattle.machine_nodes.specs.NodeSteps.{Leads}
use Rattle.machine_nodes.specs.Slots.{AreLeft}
use Rattle.access_paths.specs.declared.root.Root.TheVariants.{Slot, Static, Returned, Thrown}
use Rattle.access_paths.specs.Paths.{Path, bare}
use Rattle.points_to_rules.specs.Facts.{Fact}
use Rattle.stage_facts.specs.Facts.{Tuple, SiteFact, none_yet, some_yet, of_object, EndsIn, Describes, HasSome, Says}
use Rattle.stage_facts.specs.Values.{of_slots, path_value, Cell, in_root, in_field, in_element, in_kept, cell_value}
use Rattle.stage_transfer.specs.Stages.{Transfer}
use Rattle.stage_relations.specs.Roots.{HasVariables}
use Rattle.stage_relations.specs.Relations.{Flows}
use Rattle.stage_relations.specs.Laws.{IsIdle, IsPlain, IsStage}
use Rattle.stage_steps.specs.Said.{IsTracked, AreEqual, IsBounded, Results}
use Rattle.stage_steps.proofs.Paths.{reference_in, same_place, with_reference}
use Rattle.stage_steps.proofs.Calm.{NoneNew, idle_says}
use Rattle.stage_steps.proofs.Sites.{site_or_not}
use Rattle.stage_steps.proofs.Shapes.{Shape, stayed, pushed, arrayed, wrote, filled, shape, Remains, remains, Makes, an_object, an_array, was}
use Rattle.stage_steps.proofs.Slots.{op_leads, comes_value}
use Rattle.stage_steps.proofs.Roots.{IsNoConstant, at_end, slot_end, static_end}
use Rattle.stage_steps.proofs.Fields.{any_field_end}
use Rattle.stage_steps.proofs.Elements.{element_end, kept_end}
use Rattle.stage_steps.proofs.Born.{longer, made_says}

-- ---- choices

plain_of : (op : Op) (x : Subject) (w after : World) (old new : List Value) → Leads op x w old new after → IsPlain op
plain_of (Assign moves) x w after old new l = tt
plain_of (Load object field target) x w after old new l = tt
plain_of (Store object field value) x w after old new l = tt
plain_of (LoadElement array target) x w after old new l = tt
plain_of (StoreElement array value) x w after old new l = tt
plain_of (LoadStatic field target) x w after old new l = tt
plain_of (StoreStatic field value) x w after old new l = tt
plain_of (New site target) x w after old new l = tt
plain_of (NewArray sites target) x w after old new l = tt
plain_of (Constant site target) x w after old new l = tt
plain_of (Call call) x w after old new l = l
plain_of (Return value) x w after old new l = l
plain_of (Throw value) x w after old new l = l
plain_of (Cast class slot) x w after old new l = tt
plain_of (Probe slot) x w after old new l = tt

plain_throws_not : (op : Op) (value : ℕ) → IsPlain op → op ≢ Throw value
plain_throws_not op value plain e = subst IsPlain e plain

-- an object of the site is made
record IsNew (op : Op) (s : Site) : Type 0 where
  target : ℕ
  is : op ≡ New s target

new_or_not : (op : Op) (s : Site) → IsNew op s ⊎ ((target : ℕ) → op ≢ New s target)
new_or_not (New site target) s = elim (site_or_not site s) [
  | inl e ↦ inl (record { target = target; is = ap (λ (y : Site). New y target) e })
  | inr ne ↦ inr (λ z e. ne (of_site z e))
]
  where
    of_site : (z : ℕ) → New site target ≡ New s z → site ≡ s
    of_site z e = cc e
new_or_not op s = inr (λ z e. cc e)

-- ---- an object that is there

-- a tuple that flows from one that described the object describes it; if the operation makes another object of the site, no more as the only one
pub flows_describes : (x : Subject) (l : LoweredMethod) (n : Node) (op : Op) (w after : World) (old new : List Value) (s : Site) (o : ℕ) (t u : Tuple)
    → Leads op x w old new after → AreEqual l n old → IsNoConstant o → Flows l n op t u → (u.unique ≡ true → Makes op s → ⊥) → Describes s t o w (of_slots old)
    → Describes s u o after (of_slots new)
flows_describes x l n op w after old new s o t u leads equal apart flow others d = record {
  object = r.object;
  stands = r.stands;
  of_site = r.of_site ∙ d.of_site;
  in_state = r.in_state ∙ d.in_state ∙ sym flow.state;
  only = λ unique. record {
    only = λ place object stands of_site. elim (was how place object stands) [
      | inl k ↦ (d.only (flow.unique unique)).only place k.object k.stands (k.of_site ∙ of_site)
      | inr made ↦ absurd (others unique (subst (λ (y : Site). Makes op y) of_site made))
    ];
  };
  must = λ y listed.
      let from = flow.must y listed in
      reference_in _ o (comes_value op x w after old new l n leads equal from.comes ∙ with_reference _ o (d.must from.path from.listed));
  must_not = λ y listed is. elim (flow.must_not y listed) [
    | inl from ↦ d.must_not from.path from.listed (reference_in _ o (sym (comes_value op x w after old new l n leads equal from.comes) ∙ with_reference _ o is))
    | inr made ↦ new_value made.site made.target made.op_is y made.path_is is
  ];
  cells = λ off c is. cell off c is;
}
  where
    how : Shape x op old w.heap after.heap
    how = shape op x w after old new leads

    r : Remains after.heap o d.object
    r = remains how o d.object d.stands

    new_value : (site : Site) (target : ℕ) → op ≡ New site target → (y : Path) → y ≡ bare (Slot target) → path_value after (of_slots new) y ≡ reference_to o → ⊥
    new_value site target e y y_is is =
        let k = op_leads op (New site target) x w after old new e leads in
        at_end w.heap o d.object d.stands
        (same_place _ _ (sym k.is_made.made_is ∙ sym (k.are_left.given target refl) ∙ sym (ap (path_value after (of_slots new)) y_is) ∙ is))

    cell : u.may ≡ false → (c : Cell) → cell_value after (of_slots new) c ≡ reference_to o → EndsIn u.must after (of_slots new) c
    cell off (in_root (Slot z)) is = slot_end x l n w after old new s o t u d (flow.may off) apart op z leads (flow.complete off) is
    cell off (in_root (Static f)) is = static_end x l n w after old new s o t u d (flow.may off) apart op f leads (flow.complete off) is
    cell off (in_root Returned) is = absurd (cc is)
    cell off (in_root Thrown) is = absurd (cc is)
    cell off (in_field place f) is = any_field_end x l n w after old new s o t u equal d (flow.may off) op place f leads (flow.complete off) is
    cell off (in_element place index) is = element_end x l n w after old new s o t u d (flow.may off) op place index leads (flow.complete off) is
    cell off (in_kept number) is = kept_end x l n w after old new s o t u d (flow.may off) op number leads is

-- ---- no object of the site is made

others_stay : {x : Subject} {op : Op} {old : List Value} {before after : List Object} (s : Site) (o : ℕ) → Shape x op old before after → (Makes op s → ⊥)
    → IsTracked s o after → length before ≤ o → length after ≤ o
others_stay s o (stayed e) others tracked le = subst (λ (h : List Object). length h ≤ o) (sym e) le
others_stay {x = x} {op = op} {before = before} s o (pushed {site = site} {target = target} is e) others tracked le =
    subst (λ (h : List Object). length h ≤ o) (sym e)
    (longer s o before (new_object x.program site x.property.initial ∷ [])
    (λ object there of_site.
    (let same : site ≡ s = ap (λ (y : Object). y.site) (contains_only _ object there) ∙ of_site in
    others (an_object {target = target} (is ∙ ap (λ (y : Site). New y target) same))))
    (subst (λ (h : List Object). IsTracked s o h) e tracked) le)
others_stay {op = op} {before = before} s o (arrayed {sites = sites} {target = target} more is new e) others tracked le =
    subst (λ (h : List Object). length h ≤ o) (sym e)
    (longer s o before more
    (λ object there of_site. (let a = new object there in others (an_array is (subst (λ (y : Site). Contains sites y) of_site a.among))))
    (subst (λ (h : List Object). IsTracked s o h) e tracked) le)
others_stay {before = before} s o (wrote at into values is ref held holds e) others tracked le =
    subst (λ (h : List Object). length h ≤ o) (sym e) (subst (λ (k : ℕ). k ≤ o) (sym (length-set before at _)) le)
others_stay {before = before} s o (filled at into values index is held holds inside e) others tracked le =
    subst (λ (h : List Object). length h ≤ o) (sym e) (subst (λ (k : ℕ). k ≤ o) (sym (length-set before at _)) le)

none_made : {x : Subject} {op : Op} {old : List Value} {before after : List Object} (s : Site) → Shape x op old before after → (Makes op s → ⊥)
    → NoneNew s before after
none_made {op = op} s how others = record {
  was = λ place object stands of_site. elim (was how place object stands) [
    | inl k ↦ record { object = k.object; stands = k.stands; of_site = k.of_site ∙ of_site }
    | inr made ↦ absurd (others (subst (λ (y : Site). Makes op y) of_site made))
  ];
}

some_stays : {x : Subject} {op : Op} {old : List Value} {before after : List Object} (s : Site) → Shape x op old before after → HasSome s before
    → HasSome s after
some_stays s how some =
    let k = remains how some.place some.object some.stands in
    record { place = some.place; object = k.object; stands = k.stands; of_site = k.of_site ∙ some.of_site }

-- ---- any operation

module _ (x : Subject) (S : Fact → Type 0) (s : Site) (t : Transfer) (laws : IsStage x S s t) (o : ℕ) where
  unmade_says : (l : LoweredMethod) (n : Node) (f : SiteFact) (w after : World) (old new : List Value) → IsIdle f → Leads n.op x w old new after
      → ((sites : List Site) (target : ℕ) → n.op ≡ NewArray sites target → Contains sites s → ⊥) → ((target : ℕ) → n.op ≢ New s target)
      → IsTracked s o after.heap → Says s f o w (of_slots old) → Results (t.next l n f) (λ g. Says s g o after (of_slots new))
  unmade_says l n f w after old new idle leads no_array no_object tracked says =
      let how = shape n.op x w after old new leads in
      record {
        fact = f;
        listed = laws.next_idle l n f idle (λ value. plain_throws_not n.op value (plain_of n.op x w after old new leads)) no_object;
        says = idle_says s o w after (of_slots old) (of_slots new) f idle (others_stay s o how others tracked) (none_made s how others) (some_stays s how) says;
      }
    where
      others : Makes n.op s → ⊥
      others (an_object {target = target} is) = no_object target is
      others (an_array {sites = sites} {target = target} is there) = no_array sites target is there

  pub next_says : (l : LoweredMethod) (n : Node) (f : SiteFact) (w after : World) (old new : List Value) → HasVariables l n → AreEqual l n old
      → Leads n.op x w old new after → IsBounded w old → IsNoConstant o
      → ((sites : List Site) (target : ℕ) → n.op ≡ NewArray sites target → Contains sites s → ⊥) → IsTracked s o after.heap → Says s f o w (of_slots old)
      → Results (t.next l n f) (λ g. Says s g o after (of_slots new))
  next_says l n (of_object u) w after old new variables equal leads bounded apart no_array tracked d =
      let k = laws.next l n u variables (plain_of n.op x w after old new leads) in
      record {
        fact = of_object k.tuple;
        listed = k.listed;
        says = flows_describes x l n n.op w after old new s o u k.tuple leads equal apart k.related.0 (others k.tuple k.related.1) d;
      }
    where
      others : (v : Tuple) → ((target : ℕ) → n.op ≡ New s target → v.unique ≡ false) → v.unique ≡ true → Makes n.op s → ⊥
      others v off unique (an_object {target = target} is) = let shared = off target is in cc (unique, shared)
      others v off unique (an_array {sites = sites} {target = target} is there) = no_array sites target is there
  next_says l n none_yet w after old new variables equal leads bounded apart no_array tracked says = by (new_or_not n.op s)
    where
      by : IsNew n.op s ⊎ ((target : ℕ) → n.op ≢ New s target) → Results (t.next l n none_yet) (λ g. Says s g o after (of_slots new))
      by (inl k) =
          let made = op_leads n.op (New s k.target) x w after old new k.is leads in
          let left = subst (λ (v : Value). AreLeft [] (Some k.target) v old new) made.is_made.made_is made.are_left in
          subst (λ (y : World). Results (t.next l n none_yet) (λ g. Says s g o y (of_slots new))) (sym made.is_made.after_is)
          (made_says x s o (Some k.target) [] true w old new left bounded (λ _. says.1) (t.next l n none_yet) says.0
          (laws.next_some l n none_yet k.target tt k.is) (laws.next_first l n k.target k.is))
      by (inr none) = unmade_says l n none_yet w after old new tt leads no_array none tracked says
  next_says l n some_yet w after old new variables equal leads bounded apart no_array tracked says = by (new_or_not n.op s)
    where
      by : IsNew n.op s ⊎ ((target : ℕ) → n.op ≢ New s target) → Results (t.next l n some_yet) (λ g. Says s g o after (of_slots new))
      by (inl k) =
          let made = op_leads n.op (New s k.target) x w after old new k.is leads in
          let left = subst (λ (v : Value). AreLeft [] (Some k.target) v old new) made.is_made.made_is made.are_left in
          subst (λ (y : World). Results (t.next l n some_yet) (λ g. Says s g o y (of_slots new))) (sym made.is_made.after_is)
          (made_says x s o (Some k.target) [] false w old new left bounded (λ bad. absurd (cc bad)) (t.next l n some_yet) says.0
          (laws.next_some l n some_yet k.target tt k.is) (laws.next_further l n k.target k.is))
      by (inr none) = unmade_says l n some_yet w after old new tt leads no_array none tracked says
