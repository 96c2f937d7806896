-- The refusals among the items that are done, when those of a turn are.
use Rattle.std.proofs.Common.{◌≡◌, ◌↔◌, ◌⊎◌, inl, inr, ◌++◌, Option, Err, refl, sym, ap, subst}
use Rattle.jvm_model.specs.declared.number.MethodNo.{MethodNo}
use Rattle.jvm_model.specs.Programs.{Program}
use Rattle.op_model.specs.Supplies.{GivenAs}
use Rattle.points_to_rules.specs.Facts.{may_hold, may_run}
use Rattle.points_to_constraints.specs.Items.{dispatch, Item as RuleItem, known, constrained}
use Rattle.points_to_numbers.specs.declared.item.Item.{Item}
use Rattle.points_to_numbers.specs.declared.item.Item.TheVariants.{Holds, Runs, Calls, Constrains}
use Rattle.points_to_numbers.specs.Numbered.{Numbered}
use Rattle.points_to_numbers.specs.Steps.{IsItemAt}
use Rattle.points_to.specs.declared.refusals.RefusedCall.{RefusedCall}
use Rattle.points_to.specs.declared.refusals.RefusedMethod.{RefusedMethod}
use Rattle.points_to.specs.Closing.{IsLackIn, IsRefusedAmong, HasFirstCall, HasFirstMethod}
use Rattle.points_to.specs.Concluding.{ConstraintsBy, LacksBy, RefusedBy, IsRefusedAs}
use Rattle.points_to.specs.Queues.{IsDone, State}
use Rattle.points_to.specs.Passing.{NotesCalls, NotesMethods}
use Rattle.points_to.proofs.Following.{IsTurnAt, constraint_there, site_there, constraint_of_place, site_of_place}
use Rattle.points_to.proofs.Meanings.{Meant}
use Rattle.points_to.proofs.ItemPlaces.{holding, using, running}
use Rattle.points_to.proofs.Noting.{those_both, those_same}

-- ---- the first of more

first_call_more : (R L S : RefusedCall → Type 0) (old new : Option RefusedCall) → ((c : RefusedCall) → (R c ⊎ L c) ↔ S c) → HasFirstCall R old → NotesCalls L old new → HasFirstCall S new
first_call_more R L S old new same h notes = record {
  noted = h.noted ++ notes.noted;
  those = those_same (λ c. R c ⊎ L c) S (h.noted ++ notes.noted) same (those_both R L h.noted notes.noted h.those notes.those);
  is_first = notes.first h.noted h.is_first;
}

first_method_more : (R L S : RefusedMethod → Type 0) (old new : Option RefusedMethod) → ((m : RefusedMethod) → (R m ⊎ L m) ↔ S m) → HasFirstMethod R old → NotesMethods L old new → HasFirstMethod S new
first_method_more R L S old new same h notes = record {
  noted = h.noted ++ notes.noted;
  those = those_same (λ m. R m ⊎ L m) S (h.noted ++ notes.noted) same (those_both R L h.noted notes.noted h.those notes.those);
  is_first = notes.first h.noted h.is_first;
}

-- ---- the same among other items

pub lack_as : (p : Program) (T U : RuleItem → Type 0) → ((x : RuleItem) → T x → U x) → (c : RefusedCall) → IsLackIn p T c → IsLackIn p U c
lack_as p T U more c l = record {
  from = l.from;
  call = l.call;
  s = l.s;
  constrains = more (constrained l.from (dispatch l.call)) l.constrains;
  holds = more (known (may_hold l.from l.s)) l.holds;
  at = l.at;
  lacks = l.lacks;
}

pub first_call_as : (p : Program) (T U : RuleItem → Type 0) → ((x : RuleItem) → T x → U x) → ((x : RuleItem) → U x → T x) → (first : Option RefusedCall) → HasFirstCall (IsLackIn p T) first → HasFirstCall (IsLackIn p U) first
first_call_as p T U more back first h = record {
  noted = h.noted;
  those = those_same (IsLackIn p T) (IsLackIn p U) h.noted (λ c. (lack_as p T U more c, lack_as p U T back c)) h.those;
  is_first = h.is_first;
}

pub refused_as : (gives : GivenAs) (T U : RuleItem → Type 0) → ((x : RuleItem) → T x → U x) → (r : RefusedMethod) → IsRefusedAmong gives T r → IsRefusedAmong gives U r
refused_as gives T U more r l = record { runs = more (known (may_run r.method)) l.runs; refused = l.refused }

pub first_method_as : (gives : GivenAs) (T U : RuleItem → Type 0) → ((x : RuleItem) → T x → U x) → ((x : RuleItem) → U x → T x) → (first : Option RefusedMethod) → HasFirstMethod (IsRefusedAmong gives T) first
    → HasFirstMethod (IsRefusedAmong gives U) first
first_method_as gives T U more back first h = record {
  noted = h.noted;
  those = those_same (IsRefusedAmong gives T) (IsRefusedAmong gives U) h.noted (λ r. (refused_as gives T U more r, refused_as gives U T back r)) h.those;
  is_first = h.is_first;
}

-- ---- by a turn

module _ {p : Program} {gives : GivenAs} {n : Numbered} {constraints : ConstraintsBy} {q : State} (Before Turn : Item → Type 0) (h : IsTurnAt p gives n constraints q (Meant n Before)) (entry : MethodNo)
    (still : (i : Item) → Before i → IsDone q i) (split : (i : Item) → IsDone q i → Before i ⊎ Turn i) (now : (i : Item) → Turn i → IsDone q i) (stands : (i : Item) → IsDone q i → (y : RuleItem) × IsItemAt n i y) where
  abbrev Was : RuleItem → Type 0
  Was = Meant n Before

  abbrev Now : RuleItem → Type 0
  Now = Meant n (IsDone q)

  abbrev Lacks : RefusedCall → Type 0
  Lacks c = (i : Item) × Turn i × LacksBy p n q.rows constraints i c

  later : (x : RuleItem) → Was x → Now x
  later x (i, before, at) = (i, still i before, at)

  -- ---- calls

  lack_by : (i : Item) (y : RuleItem) → IsItemAt n i y → IsDone q i → (c : RefusedCall) → LacksBy p n q.rows constraints i c → IsLackIn p Now c
  lack_by (Holds place site) y (from, s, holder, at, e) done c (constraint, there, lack) = record {
    from = from;
    call = lack.call;
    s = lack.s;
    constrains = constraint_there h entry place constraint from (dispatch lack.call) there holder lack.selects.selects;
    holds = (Holds place site, done, (from, lack.s, holder, lack.is_site, refl));
    at = lack.selects.at;
    lacks = lack.lacks;
  }
  lack_by (Runs m) y at done c none = absurd none
  lack_by (Calls number target) y at done c none = absurd none
  lack_by (Constrains place constraint) y (from, u, holder, at, e) done c (site, there, lack) = record {
    from = from;
    call = lack.call;
    s = lack.s;
    constrains = (Constrains place constraint, done, (from, dispatch lack.call, holder, lack.selects.selects, refl));
    holds = site_there h entry place site from lack.s there holder lack.is_site;
    at = lack.selects.at;
    lacks = lack.lacks;
  }

  -- by the constraint
  lack_by_constraint : (i : Item) (c : RefusedCall) (l : IsLackIn p Now c) → IsItemAt n i (constrained l.from (dispatch l.call)) → LacksBy p n q.rows constraints i c
  lack_by_constraint i c l at =
      let is = using n i l.from (dispatch l.call) at in
      let (site, there, of_site) = site_of_place h entry is.place l.from l.s is.holder l.holds in
      subst (λ (j : Item). LacksBy p n q.rows constraints j c) (sym is.is)
      (site, there, record { call = l.call; selects = record { selects = is.of_constraint; at = l.at }; s = l.s; is_site = of_site; lacks = l.lacks })

  -- by the object
  lack_by_pair : (i : Item) (c : RefusedCall) (l : IsLackIn p Now c) → IsItemAt n i (known (may_hold l.from l.s)) → LacksBy p n q.rows constraints i c
  lack_by_pair i c l at =
      let is = holding n i l.from l.s at in
      let (constraint, there, selects) = constraint_of_place h entry is.place l.from (dispatch l.call) is.holder l.constrains in
      subst (λ (j : Item). LacksBy p n q.rows constraints j c) (sym is.is)
      (constraint, there, record { call = l.call; selects = record { selects = selects; at = l.at }; s = l.s; is_site = is.of_site; lacks = l.lacks })

  lack_split : (c : RefusedCall) → IsLackIn p Now c → IsLackIn p Was c ⊎ Lacks c
  lack_split c l = elim (split l.constrains.0 l.constrains.1) [
    | inr turn ↦ inr (l.constrains.0, turn, lack_by_constraint l.constrains.0 c l l.constrains.2)
    | inl constraint ↦ elim (split l.holds.0 l.holds.1) [
      | inr turn ↦ inr (l.holds.0, turn, lack_by_pair l.holds.0 c l l.holds.2)
      | inl pair ↦ inl (record {
        from = l.from;
        call = l.call;
        s = l.s;
        constrains = (l.constrains.0, constraint, l.constrains.2);
        holds = (l.holds.0, pair, l.holds.2);
        at = l.at;
        lacks = l.lacks;
      })
    ]
  ]

  pub lacks_more : (old new : Option RefusedCall) → HasFirstCall (IsLackIn p Was) old → NotesCalls Lacks old new → HasFirstCall (IsLackIn p Now) new
  lacks_more old new = first_call_more (IsLackIn p Was) Lacks (IsLackIn p Now) old new (λ c. (
    (λ e. elim e [
      | inl before ↦ lack_as p Was Now later c before
      | inr (i, turn, lack) ↦ (let done = now i turn in let (y, at) = stands i done in lack_by i y at done c lack)
    ]),
    (λ l. lack_split c l),
  ))

  -- ---- methods

  module _ (kind : Item) (runs_now : (m : MethodNo) → kind ≡ Runs m → IsDone q (Runs m)) (kind_is : (m : MethodNo) → Turn (Runs m) → kind ≡ Runs m) where
    refused_by : (r : RefusedMethod) → RefusedBy gives kind r → IsRefusedAmong gives Now r
    refused_by r l = by kind refl l
      where
        by : (i : Item) → kind ≡ i → RefusedBy gives i r → IsRefusedAmong gives Now r
        by (Holds place site) is g = absurd g
        by (Runs m) is g = record {
          runs = (Runs m, runs_now m is, ap (λ (k : MethodNo). known (may_run k)) g.is);
          refused = subst (λ (k : MethodNo). gives k.0 (Err r.refusal)) (sym g.is) g.refused;
        }
        by (Calls number target) is g = absurd g
        by (Constrains place constraint) is g = absurd g

    refused_split : (r : RefusedMethod) → IsRefusedAmong gives Now r → IsRefusedAmong gives Was r ⊎ RefusedBy gives kind r
    refused_split r l = elim (split l.runs.0 l.runs.1) [
      | inl before ↦ inl (record { runs = (l.runs.0, before, l.runs.2); refused = l.refused })
      | inr turn ↦
          let is = kind_is r.method (subst Turn (running n l.runs.0 r.method l.runs.2) turn) in
          let own : IsRefusedAs gives r.method r = record { is = refl; refused = l.refused } in
          inr (subst (λ (i : Item). RefusedBy gives i r) (sym is) own)
    ]

    pub refused_more : (old new : Option RefusedMethod) → HasFirstMethod (IsRefusedAmong gives Was) old → NotesMethods (RefusedBy gives kind) old new → HasFirstMethod (IsRefusedAmong gives Now) new
    refused_more old new = first_method_more (IsRefusedAmong gives Was) (RefusedBy gives kind) (IsRefusedAmong gives Now) old new (λ r. (
      (λ e. elim e [ inl before ↦ refused_as gives Was Now later r before | inr l ↦ refused_by r l ]),
      (λ l. refused_split r l),
    ))
