-- The events that are marked at a site are those that may occur at its objects, so that the search answers the first stage.
use Rattle.std.proofs.Common.{◌≡◌, ◌↔◌, ℕ, suc, ◌<◌, ◌≤◌, Bool, true, false, List, [], ◌∷◌, ◌++◌, length, take, drop, Option, Some, None, refl, sym, ◌∙◌, ap, subst, inl, inr, arith}
use Rattle.std.specs.Prelude.{IsTrue, if◌then◌else◌}
use Rattle.std.specs.List.{slice_get, AllZip, Contains}
use Rattle.std.specs.Option.{option_flatten}
use Rattle.std.proofs.lemmas.List.{take-append-le, take_all}
use Rattle.std.proofs.lemmas.List.Elements.{All-weaker}
use Rattle.std.proofs.lemmas.Option.{none-some, same_Some, slice_get_within}
use Rattle.jvm_model.specs.declared.automaton.Automaton.{Automaton}
use Rattle.jvm_model.specs.declared.automaton.Event.{Event}
use Rattle.jvm_model.specs.declared.number.MethodNo.{MethodNo}
use Rattle.jvm_model.specs.declared.number.SiteNo.{SiteNo}
use Rattle.jvm_model.specs.declared.site.Site.{Site}
use Rattle.jvm_model.specs.Lookups.{Signature}
use Rattle.machine_bytecode.specs.Events.{event_for}
use Rattle.machine_nodes.specs.NodeSteps.{is_selecting_kind}
use Rattle.op_model.specs.declared.lowered.LoweredMethod.{LoweredMethod}
use Rattle.op_model.specs.declared.op.Call.{Call as NodeCall}
use Rattle.least_sets.specs.Rules.{IsWithoutDoubles}
use Rattle.least_sets.proofs.Places.{place_of, contains_at, in_front, to_front}
use Rattle.points_to_rules.specs.Facts.{Holder, may_hold, may_run}
use Rattle.prune_stage.specs.StageOne.{IsSafe, picked}
use Rattle.prune_stage.proofs.Reach.{picked_at, place_picked}
use Rattle.slot_names.proofs.ListPlaces.{place_in}
use Rattle.ground.specs.CallEvents.{call_event, event_number, is_event_of}
use Rattle.ground.specs.Findings.{Findings, gives_listed}
use Rattle.ground.proofs.EventNumbers.{found_at_number, number_of_found, number_within}
use Rattle.site_report.specs.declared.tracked_site.TrackedSite.{TrackedSite}
use Rattle.site_report.specs.Sites.{site_in}
use Rattle.prune_stage.specs.declared.event_set.EventSet.{EventSet}
use Rattle.prune_stage.specs.Marks.{AreMarked, IsMarked, MethodMarks, OfOneBelow, Standing}
use Rattle.prune_stage.specs.Places.{ArePlaces, StandsAlone, StandsInTable}
use Rattle.prune_stage.specs.Pruning.{IsPruned, IsPruningOf, MayOccur}

-- ---- the event of a call

abbrev signature_of : NodeCall → Signature
signature_of c = record { name = c.name; descriptor = c.descriptor }

selected : (b : Bool) (o : Option ℕ) (event : ℕ) → (if b then o else None) ≡ Some event → IsTrue b × (o ≡ Some event)
selected true o event e = (refl, e)
selected false o event e = absurd (none-some event e)

event_is : (a : Automaton) (c : NodeCall) (event : ℕ) (x : Event) → call_event a c ≡ Some event → slice_get a.events event ≡ Some x
    → IsTrue (is_selecting_kind c.kind) × (event_for a (signature_of c) ≡ Some x)
event_is a c event x e at =
    let (selecting, number) = selected (is_selecting_kind c.kind) (event_number a.events (signature_of c)) event e in
    (selecting, found_at_number (is_event_of (signature_of c)) a.events event x number at)

event_has : (a : Automaton) (c : NodeCall) (x : Event) → IsTrue (is_selecting_kind c.kind) → event_for a (signature_of c) ≡ Some x
    → (event : ℕ) × (call_event a c ≡ Some event) × (slice_get a.events event ≡ Some x)
event_has a c x selecting e =
    let (event, number, at) = number_of_found (is_event_of (signature_of c)) a.events x e in
    (event, ap (λ (b : Bool). if b then event_number a.events (signature_of c) else None) selecting ∙ number, at)

-- it is below the count of events
pub event_below : (a : Automaton) (c : NodeCall) (event : ℕ) → call_event a c ≡ Some event → event < length a.events
event_below a c event e =
    let (selecting, number) = selected (is_selecting_kind c.kind) (event_number a.events (signature_of c)) event e in
    let past : Event = record { name = []; descriptor = []; next = [] } in
    number_within (is_event_of (signature_of c)) a.events event past number

-- the slot of the first argument
flattened : (o : Option (Option ℕ)) (z : ℕ) → option_flatten o ≡ Some z → o ≡ Some (Some z)
flattened None z e = absurd (none-some z e)
flattened (Some slot) z e = ap (λ (s : Option ℕ). Some s) e

-- ---- the events at one site

module _ (g : Findings) (a : Automaton) (stands : Standing) (empty sets : List EventSet) (none : (place event : ℕ) → IsMarked empty place event → ⊥)
    (marked : AreMarked (OfOneBelow (MethodMarks a g stands) (length g.methods)) empty sets)
    (numbered : (h : Holder) (s : Site) → Contains g.facts (may_hold h s) → (number : ℕ) × (slice_get g.sites number ≡ Some s)) where
  abbrev Occurs : Site → Event → Type 0
  Occurs s x = MayOccur (gives_listed g.methods) (Contains g.facts) a s x

  -- the site, and no other, has its events at the place
  module _ (place : ℕ) (s : Site) (set : EventSet) (set_at : slice_get sets place ≡ Some set)
      (is_here : (number : ℕ) (x : Site) → slice_get g.sites number ≡ Some x → stands number place → x ≡ s)
      (all_here : (number : ℕ) → slice_get g.sites number ≡ Some s → stands number place) where
    -- ---- what is marked may occur

    occurs_by : (event : ℕ) (x : Event) → slice_get a.events event ≡ Some x → (method : ℕ) → MethodMarks a g stands method place event → Occurs s x
    occurs_by event x at method m =
        let l = m.marks.l in
        let call = m.marks.marks in
        let (selecting, is_event) = event_is a m.marks.call event x call.is_event at in
        let this : call.site ≡ s = is_here call.number call.site call.numbered call.at in
        record {
          m = l.method;
          l = l;
          n = m.marks.n;
          c = m.marks.call;
          runs = m.runs;
          node = record {
            given = (l, contains_at g.methods method l m.marks.listed, refl, refl);
            stands = contains_at l.nodes m.node m.marks.n m.marks.there;
          };
          is_call = m.marks.is_call;
          selecting = selecting;
          event = is_event;
          z = call.slot;
          receiver = flattened _ call.slot call.receiver;
          from = call.from;
          slot = call.of_slot;
          holds = subst (λ (site : Site). Contains g.facts (may_hold call.from site)) this call.holds;
        }

    picked_occurs : (x : Event) → Contains (picked (take (length a.events) set.occurs) a.events) x → Occurs s x
    picked_occurs x among =
        let (j, there) = place_of (picked (take (length a.events) set.occurs) a.events) x among in
        let (event, at, is_true) = place_picked (take (length a.events) set.occurs) a.events x j there in
        let (below, occurs) = in_front set.occurs (length a.events) event true is_true in
        elim ((marked.each place event).0 (record { set = set; stands = set_at; occurs = occurs })) [
          | inl before ↦ absurd (none place event before)
          | inr (method, within, m) ↦ occurs_by event x at method m
        ]

    -- ---- what may occur is marked

    marks_of : (x : Event) (o : Occurs s x) (event : ℕ) → call_event a o.c ≡ Some event → (method : ℕ) → slice_get g.methods method ≡ Some o.l
        → o.l.method ≡ o.m → MethodMarks a g stands method place event
    marks_of x o event is_event method listed number =
        let (node, there) = place_in o.l.nodes o.n o.node.stands in
        let (site_number, site_at) = numbered o.from s o.holds in
        record {
          node = node;
          marks = record {
            l = o.l;
            listed = listed;
            n = o.n;
            there = there;
            call = o.c;
            is_call = o.is_call;
            marks = record {
              is_event = is_event;
              slot = o.z;
              receiver = ap option_flatten o.receiver;
              from = o.from;
              of_slot = o.slot;
              site = s;
              holds = o.holds;
              number = site_number;
              numbered = site_at;
              at = all_here site_number site_at;
            };
          };
          runs = subst (λ (m : MethodNo). Contains g.facts (may_run m)) (sym number) o.runs;
        }

    marked_here : (event : ℕ) → IsMarked sets place event → slice_get set.occurs event ≡ Some true
    marked_here event mark = subst (λ (x : EventSet). slice_get x.occurs event ≡ Some true) (same_Some mark.set set (sym mark.stands ∙ set_at)) mark.occurs

    occurs_picked : (x : Event) → Occurs s x → Contains (picked (take (length a.events) set.occurs) a.events) x
    occurs_picked x o =
        let (event, is_event, at) = event_has a o.c x o.selecting o.event in
        let (l, among, number, answer) = o.node.given in
        let same : o.l ≡ l = cc in
        let (method, there) = place_of g.methods l among in
        let listed : slice_get g.methods method ≡ Some o.l = there ∙ ap Some (sym same) in
        let number_is : l.method ≡ o.m = (λ i. record { 0 = number i }) in
        let own : o.l.method ≡ o.m = subst (λ (y : LoweredMethod). y.method ≡ o.m) (sym same) number_is in
        let below = slice_get_within g.methods method l there in
        let occurs = marked_here event ((marked.each place event).1 (inr (method, below, marks_of x o event is_event method listed own))) in
        let within = slice_get_within a.events event x at in
        picked_at (take (length a.events) set.occurs) a.events x event at (to_front set.occurs (length a.events) event true within occurs)

    -- ---- the answer

    pub pruning_is : (answer : Bool) → IsTrue answer ↔ IsSafe a (picked (take (length a.events) set.occurs) a.events)
        → IsTrue answer ↔ IsPruned (gives_listed g.methods) (Contains g.facts) a s
    pruning_is answer safe = (
      λ safe_is. record {
        no_word = λ word all leads.
            (safe.0 safe_is).no_word word
            (record {
              occur = All-weaker (Occurs s) (Contains (picked (take (length a.events) set.occurs) a.events)) occurs_picked word
                  all;
              leads = leads;
            });
      },
      λ pruned. safe.1 (record {
        no_word = λ word leads.
            pruned.no_word word (All-weaker (Contains (picked (take (length a.events) set.occurs) a.events)) (Occurs s) picked_occurs
            word leads.occur) leads.leads;
      }),
    )

-- ---- all sites

-- what is written back through a vector that is as long
pub written_back : {X : Type 0} (new items all : List X) (count : ℕ) → all ≡ take count (new ++ drop (length new) items) → length new ≡ length items
    → length items ≡ count → all ≡ new
written_back new items all count is long whole =
    let within : count ≤ length new = omega (arith, long, whole) in
    is ∙ take-append-le count new (drop (length new) items) within ∙ take_all count new (omega (arith, long, whole))

-- through a list between
zip_through : {A B C : Type 0} (R : A → C → Type 0) (Q : B → C → Type 0) (xs : List A) (ys : List B) (zs : List C) → length ys ≡ length xs
    → ((i : ℕ) (x : A) (y : B) (z : C) → slice_get xs i ≡ Some x → slice_get ys i ≡ Some y → Q y z → R x z) → AllZip Q ys zs → AllZip R xs zs
zip_through R Q [] [] [] long give all = tt
zip_through R Q [] [] (z ∷ zs) long give all = absurd all
zip_through R Q [] (y ∷ ys) zs long give all = absurd (omega (arith, long))
zip_through R Q (x ∷ xs) [] zs long give all = absurd (omega (arith, long))
zip_through R Q (x ∷ xs) (y ∷ ys) [] long give all = absurd all
zip_through R Q (x ∷ xs) (y ∷ ys) (z ∷ zs) long give all =
    (give 0 x y z refl refl all.0, zip_through R Q xs ys zs (omega (arith, long)) (λ i u v w at there q. give (suc i) u v w at there q) all.1)

module _ (g : Findings) (a : Automaton) (sites : List TrackedSite) (places : List (Option ℕ)) (are : ArePlaces g.program g.sites sites places) where
  -- a place is that of its tracked site
  is_tracked : (place : ℕ) (t : TrackedSite) → slice_get sites place ≡ Some t → (number : ℕ) (x : Site) → slice_get g.sites number ≡ Some x
      → StandsInTable places number place → x ≡ site_in g.program t
  is_tracked place t site_at number x x_at stands =
      let (s, s_at, (u, u_at, is)) = are.found number place stands in
      sym (same_Some s x (sym s_at ∙ x_at)) ∙ sym is ∙ ap (λ (v : TrackedSite). site_in g.program v) (same_Some u t (sym u_at ∙ site_at))

  pub all_pruned : (empty sets : List EventSet) → ((place event : ℕ) → IsMarked empty place event → ⊥)
      → AreMarked (OfOneBelow (MethodMarks a g (StandsInTable places)) (length g.methods)) empty sets
      → ((h : Holder) (s : Site) → Contains g.facts (may_hold h s) → (number : ℕ) × (slice_get g.sites number ≡ Some s))
      → length sets ≡ length sites → (answers : List Bool)
      → AllZip (λ set answer. IsTrue answer ↔ IsSafe a (picked (take (length a.events) set.occurs) a.events)) sets answers
      → AllZip (IsPruningOf g.program (gives_listed g.methods) (Contains g.facts) a) sites answers
  all_pruned empty sets none marked numbered long answers all =
      zip_through (IsPruningOf g.program (gives_listed g.methods) (Contains g.facts) a)
      (λ (set : EventSet) (answer : Bool). IsTrue answer ↔ IsSafe a (picked (take (length a.events) set.occurs) a.events)) sites sets answers long
      (λ place t set answer site_at set_at safe.
      pruning_is g a (StandsInTable places) empty sets none marked numbered place (site_in g.program t) set set_at (is_tracked place t site_at)
      (λ number at. are.all number place (site_in g.program t) at (t, site_at, refl)) answer safe)
      all

-- ---- one site

pub one_pruned : (g : Findings) (a : Automaton) (site : SiteNo) (s : Site) → slice_get g.sites site.0 ≡ Some s → IsWithoutDoubles g.sites
    → ((h : Holder) (s : Site) → Contains g.facts (may_hold h s) → (number : ℕ) × (slice_get g.sites number ≡ Some s))
    → (empty sets : List EventSet) → ((place event : ℕ) → IsMarked empty place event → ⊥)
    → AreMarked (OfOneBelow (MethodMarks a g (StandsAlone site)) (length g.methods)) empty sets → (set : EventSet) → slice_get sets 0 ≡ Some set
    → (answer : Bool) → IsTrue answer ↔ IsSafe a (picked (take (length a.events) set.occurs) a.events)
    → IsTrue answer ↔ IsPruned (gives_listed g.methods) (Contains g.facts) a s
one_pruned g a site s at apart numbered empty sets none marked set set_at answer safe =
    pruning_is g a (StandsAlone site) empty sets none marked numbered 0 s set set_at
    (λ number x x_at (same, first). same_Some x s (sym x_at ∙ ap (λ (k : ℕ). slice_get g.sites k) same ∙ at))
    (λ number there. (apart s number site.0 there at, refl)) answer safe
