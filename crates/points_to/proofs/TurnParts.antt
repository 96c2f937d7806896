-- What follows from a turn, by its parts: from sites that were fresh, or from one other item.
use Rattle.std.proofs.Common.{◌≡◌, ◌↔◌, ℕ, List, [], Option, Result, refl, sym, subst}
use Rattle.std.specs.Result.{OnOk}
use Rattle.std.proofs.lemmas.Result.{on_ok_weaker}
use Rattle.jvm_model.specs.declared.number.SiteNo.{SiteNo}
use Rattle.jvm_model.specs.Programs.{Program}
use Rattle.op_model.specs.Supplies.{GivenAs}
use Rattle.bit_rows.specs.declared.set.NumberSet.{NumberSet}
use Rattle.bit_rows.specs.declared.set.NumberSet.TheVariants.{Empty}
use Rattle.bit_rows.proofs.Numbers.{none_in_empty}
use Rattle.points_to_constraints.specs.Items.{Item as RuleItem}
use Rattle.points_to_numbers.specs.declared.item.Item.{Item}
use Rattle.points_to_numbers.specs.declared.item.Item.TheVariants.{Holds, Runs, Calls, Constrains}
use Rattle.points_to_numbers.specs.declared.keys.ConstraintNo.{ConstraintNo}
use Rattle.points_to_numbers.specs.Numbered.{Numbered}
use Rattle.points_to_rules.specs.declared.place.PlaceNo.{PlaceNo}
use Rattle.site_rows.specs.declared.row.SiteRow.{SiteRow}
use Rattle.site_rows.specs.declared.rows.FreshSites.{FreshSites}
use Rattle.site_rows.specs.Rows.{fresh_at, held_at}
use Rattle.points_to.specs.declared.queue.Turn.{Turn}
use Rattle.points_to.specs.declared.queue.Turn.TheVariants.{Sites, One}
use Rattle.points_to.specs.declared.refusals.RefusedCall.{RefusedCall}
use Rattle.points_to.specs.Concluding.{ConstraintsBy, FollowsFrom, FollowsInTurn, LacksBy, LacksFresh, LacksInTurn, LacksSomeAt, PassesFresh, PassesSomeAt}
use Rattle.points_to.specs.Passing.{LacksAny, LacksForSome, LacksSome, NotesCalls, PassesAny, PassesSome, PassesToSome}
use Rattle.points_to.specs.Sites.{AreListed}
use Rattle.points_to_numbers.specs.Steps.{Adds}
use Rattle.points_to_numbers.proofs.Adding.{adds_same}
use Rattle.points_to.proofs.Noting.{calls_same}

-- ---- sites as a list

module _ (p : Program) (n : Numbered) where
  pub any_fresh : (constraints : List ConstraintNo) (set : NumberSet) (sites : List SiteNo) → AreListed set Empty sites → (x : RuleItem) → PassesAny p n constraints sites x ↔ PassesFresh p n constraints set x
  any_fresh constraints set sites listed x = (
    (λ (constraint, c, (site, there, is)). (site, ((listed.each site).0 there).held, (constraint, c, is))),
    (λ (site, held, (constraint, c, is)). (constraint, c, (site, (listed.each site).1 (record { held = held; passed = none_in_empty site.0 }), is))),
  )

  pub any_fresh_lack : (constraints : List ConstraintNo) (set : NumberSet) (sites : List SiteNo) → AreListed set Empty sites → (r : RefusedCall) → LacksAny p n constraints sites r ↔ LacksFresh p n constraints set r
  any_fresh_lack constraints set sites listed r = (
    (λ (constraint, c, (site, there, is)). (site, ((listed.each site).0 there).held, (constraint, c, is))),
    (λ (site, held, (constraint, c, is)). (constraint, c, (site, (listed.each site).1 (record { held = held; passed = none_in_empty site.0 }), is))),
  )

  pub some_passed : (constraint : ConstraintNo) (rows : List SiteRow) (place : PlaceNo) (sites : List SiteNo) → AreListed (held_at rows place.0) (fresh_at rows place.0) sites → (x : RuleItem)
      → PassesSome p n constraint sites x ↔ PassesSomeAt p n constraint rows place x
  some_passed constraint rows place sites listed x = (
    (λ (site, there, is). (let l = (listed.each site).0 there in (site, record { held = l.held; passed = l.passed }, is))),
    (λ (site, h, is). (site, (listed.each site).1 (record { held = h.held; passed = h.passed }), is)),
  )

  pub some_passed_lack : (constraint : ConstraintNo) (rows : List SiteRow) (place : PlaceNo) (sites : List SiteNo) → AreListed (held_at rows place.0) (fresh_at rows place.0) sites → (r : RefusedCall)
      → LacksSome p n constraint sites r ↔ LacksSomeAt p n constraint rows place r
  some_passed_lack constraint rows place sites listed r = (
    (λ (site, there, is). (let l = (listed.each site).0 there in (site, record { held = l.held; passed = l.passed }, is))),
    (λ (site, h, is). (site, (listed.each site).1 (record { held = h.held; passed = h.passed }), is)),
  )

-- ---- the items of a turn

module _ (p : Program) (gives : GivenAs) (n : Numbered) (rows : List SiteRow) (constraints : ConstraintsBy) where
  from_turn : (fresh : FreshSites) (x : RuleItem) → FollowsInTurn p gives n rows constraints (Sites fresh) x → PassesFresh p n (constraints fresh.place) fresh.sites x
  from_turn fresh x (Holds place site, (e, is), f) = (site, is, subst (λ (k : ℕ). PassesToSome p n (constraints k) site x) e f)
  from_turn fresh x (Runs m, none, f) = absurd none
  from_turn fresh x (Calls call target, none, f) = absurd none
  from_turn fresh x (Constrains place constraint, none, f) = absurd none

  pub fresh_follows : (fresh : FreshSites) (x : RuleItem) → PassesFresh p n (constraints fresh.place) fresh.sites x ↔ FollowsInTurn p gives n rows constraints (Sites fresh) x
  fresh_follows fresh x = ((λ (site, is, f). (Holds (record { 0 = fresh.place }) site, (refl, is), f)), from_turn fresh x)

  lacks_turn : (fresh : FreshSites) (r : RefusedCall) → LacksInTurn p n rows constraints (Sites fresh) r → LacksFresh p n (constraints fresh.place) fresh.sites r
  lacks_turn fresh r (Holds place site, (e, is), f) = (site, is, subst (λ (k : ℕ). LacksForSome p n (constraints k) site r) e f)
  lacks_turn fresh r (Runs m, none, f) = absurd none
  lacks_turn fresh r (Calls call target, none, f) = absurd none
  lacks_turn fresh r (Constrains place constraint, none, f) = absurd none

  pub fresh_lacks : (fresh : FreshSites) (r : RefusedCall) → LacksFresh p n (constraints fresh.place) fresh.sites r ↔ LacksInTurn p n rows constraints (Sites fresh) r
  fresh_lacks fresh r = ((λ (site, is, f). (Holds (record { 0 = fresh.place }) site, (refl, is), f)), lacks_turn fresh r)

  pub one_follows : (item : Item) (x : RuleItem) → FollowsFrom p gives n rows constraints item x ↔ FollowsInTurn p gives n rows constraints (One item) x
  one_follows item x = ((λ f. (item, refl, f)), (λ (i, e, f). subst (λ (j : Item). FollowsFrom p gives n rows constraints j x) e f))

  pub one_lacks : (item : Item) (r : RefusedCall) → LacksBy p n rows constraints item r ↔ LacksInTurn p n rows constraints (One item) r
  one_lacks item r = ((λ f. (item, refl, f)), (λ (i, e, f). subst (λ (j : Item). LacksBy p n rows constraints j r) e f))

-- ---- where it went well

module _ {T E : Type 0} (r : Result T E) (p : Program) (n m : Numbered) (a b : List Item) (first last : Option RefusedCall) where
  pub fresh_adds : (cs all : List ConstraintNo) → cs ≡ all → (set : NumberSet) (sites others : List SiteNo) → others ≡ sites → AreListed set Empty sites → OnOk r (Adds m (PassesAny p n cs others) a b)
      → OnOk r (Adds m (PassesFresh p n all set) a b)
  fresh_adds cs all e set sites others f listed h =
      let known : AreListed set Empty others = subst (AreListed set Empty) (sym f) listed in
      subst (λ (ks : List ConstraintNo). OnOk r (Adds m (PassesFresh p n ks set) a b)) e
      (on_ok_weaker {P = Adds m (PassesAny p n cs others) a b} r (λ adds. adds_same m (PassesAny p n cs others) (PassesFresh p n cs set) a b (any_fresh p n cs set others known) adds) h)

  pub fresh_notes : (cs all : List ConstraintNo) → cs ≡ all → (set : NumberSet) (sites others : List SiteNo) → others ≡ sites → AreListed set Empty sites → OnOk r (NotesCalls (LacksAny p n cs others) first last)
      → OnOk r (NotesCalls (LacksFresh p n all set) first last)
  fresh_notes cs all e set sites others f listed h =
      let known : AreListed set Empty others = subst (AreListed set Empty) (sym f) listed in
      subst (λ (ks : List ConstraintNo). OnOk r (NotesCalls (LacksFresh p n ks set) first last)) e
      (on_ok_weaker {P = NotesCalls (LacksAny p n cs others) first last} r (λ notes. calls_same (LacksAny p n cs others) (LacksFresh p n cs set) first last (any_fresh_lack p n cs set others known) notes) h)

  module _ (constraint : ConstraintNo) (rows : List SiteRow) (place : PlaceNo) (sites others : List SiteNo) (same : others ≡ sites) (listed : AreListed (held_at rows place.0) (fresh_at rows place.0) sites) where
    known_others : AreListed (held_at rows place.0) (fresh_at rows place.0) others
    known_others = subst (AreListed (held_at rows place.0) (fresh_at rows place.0)) (sym same) listed

    pub passed_adds : OnOk r (Adds m (PassesSome p n constraint others) a b) → OnOk r (Adds m (PassesSomeAt p n constraint rows place) a b)
    passed_adds h = on_ok_weaker {P = Adds m (PassesSome p n constraint others) a b} r
        (λ adds. adds_same m (PassesSome p n constraint others) (PassesSomeAt p n constraint rows place) a b (some_passed p n constraint rows place others known_others) adds) h

    pub passed_notes : OnOk r (NotesCalls (LacksSome p n constraint others) first last) → OnOk r (NotesCalls (LacksSomeAt p n constraint rows place) first last)
    passed_notes h = on_ok_weaker {P = NotesCalls (LacksSome p n constraint others) first last} r
        (λ notes. calls_same (LacksSome p n constraint others) (LacksSomeAt p n constraint rows place) first last (some_passed_lack p n constraint rows place others known_others) notes) h

  module _ (gives : GivenAs) (rows : List SiteRow) (constraints : ConstraintsBy) (turn : Turn) where
    pub sites_add : (fresh : FreshSites) → turn ≡ Sites fresh → (start : List Item) → start ≡ [] → OnOk r (Adds m (PassesFresh p n (constraints fresh.place) fresh.sites) start b) → OnOk r (Adds m (FollowsInTurn p gives n rows constraints turn) [] b)
    sites_add fresh is start none h =
        subst (λ (t : Turn). OnOk r (Adds m (FollowsInTurn p gives n rows constraints t) [] b)) (sym is)
        (subst (λ (xs : List Item). OnOk r (Adds m (FollowsInTurn p gives n rows constraints (Sites fresh)) xs b)) none
        (on_ok_weaker {P = Adds m (PassesFresh p n (constraints fresh.place) fresh.sites) start b} r
        (λ adds. adds_same m (PassesFresh p n (constraints fresh.place) fresh.sites) (FollowsInTurn p gives n rows constraints (Sites fresh)) start b (fresh_follows p gives n rows constraints fresh) adds) h))

    pub sites_note : (fresh : FreshSites) → turn ≡ Sites fresh → OnOk r (NotesCalls (LacksFresh p n (constraints fresh.place) fresh.sites) first last) → OnOk r (NotesCalls (LacksInTurn p n rows constraints turn) first last)
    sites_note fresh is h =
        subst (λ (t : Turn). OnOk r (NotesCalls (LacksInTurn p n rows constraints t) first last)) (sym is)
        (on_ok_weaker {P = NotesCalls (LacksFresh p n (constraints fresh.place) fresh.sites) first last} r
        (λ notes. calls_same (LacksFresh p n (constraints fresh.place) fresh.sites) (LacksInTurn p n rows constraints (Sites fresh)) first last (fresh_lacks p gives n rows constraints fresh) notes) h)

    pub one_adds : (item : Item) → turn ≡ One item → OnOk r (Adds m (FollowsFrom p gives n rows constraints item) [] b) → OnOk r (Adds m (FollowsInTurn p gives n rows constraints turn) [] b)
    one_adds item is h =
        subst (λ (t : Turn). OnOk r (Adds m (FollowsInTurn p gives n rows constraints t) [] b)) (sym is)
        (on_ok_weaker {P = Adds m (FollowsFrom p gives n rows constraints item) [] b} r
        (λ adds. adds_same m (FollowsFrom p gives n rows constraints item) (FollowsInTurn p gives n rows constraints (One item)) [] b (one_follows p gives n rows constraints item) adds) h)

    pub one_notes : (item : Item) → turn ≡ One item → OnOk r (NotesCalls (LacksBy p n rows constraints item) first last) → OnOk r (NotesCalls (LacksInTurn p n rows constraints turn) first last)
    one_notes item is h =
        subst (λ (t : Turn). OnOk r (NotesCalls (LacksInTurn p n rows constraints t) first last)) (sym is)
        (on_ok_weaker {P = NotesCalls (LacksBy p n rows constraints item) first last} r
        (λ notes. calls_same (LacksBy p n rows constraints item) (LacksInTurn p n rows constraints (One item)) first last (one_lacks p gives n rows constraints item) notes) h)
