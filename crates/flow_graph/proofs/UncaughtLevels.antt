-- The handlers that are not caught yet, level by level: how they are listed, found and taken out.
use Rattle.std.proofs.Common.{◌≡◌, ◌⊎◌, inl, inr, ℕ, zero, suc, ◌+◌, ◌/◌, ◌%◌, ◌<◌, ◌≤◌, Bool, true, cond, leb, ltb, List, [], ◌∷◌, ◌++◌, length, length-set, set, get_or, map, take, drop, Contains, All, refl, sym, ap, ◌∙◌, subst, append_assoc, arith}
use Rattle.std.specs.Global.{Vec}
use Rattle.std.specs.List.{filter, slice_get}
use Rattle.std.specs.Option.{option_map, unwrap_or}
use Rattle.std.proofs.lemmas.Bool.{cases_eq, cases_lt, and_parts, and_from}
use Rattle.std.proofs.lemmas.Bool.Decides.{nat_tests}
use Rattle.std.proofs.lemmas.List.{length-map, length-take-le, drop_more, get_or_at, set_at, map_more}
use Rattle.std.proofs.lemmas.List.Elements.{All-map, All-weaker, Contains-append_left, Contains-append_right, Contains-append_cases, Contains-push, Contains-push_cases}
use Rattle.std.proofs.lemmas.Option.{slice_get_read, slice_get_past}
use Rattle.jvm_model.specs.declared.code.Handler.{Handler}
use Rattle.flow_graph.specs.declared.uncaught.Level.{Level}
use Rattle.flow_graph.specs.declared.uncaught.Range.{Range}
use Rattle.flow_graph.specs.Flows.{covers, caught_at}
use Rattle.flow_graph.specs.Uncaught.{IsInRange, listed_at, held, Holds, TakesOut, range_of, halved, IsFirstAlone, IsLastAlone, IsAlone, ListsMore, HoldsRanges, AddsLevels, TakesListed}

-- ---- lists

first : {X : Type 0} (y : X) (xs : List X) → Contains (y ∷ xs) y
first y xs = (0, omega arith, refl)

later : {X : Type 0} (y : X) (xs : List X) (x : X) → Contains xs x → Contains (y ∷ xs) x
later y xs x (k, lt, e) = (suc k, omega arith, e)

cases : {X : Type 0} (y : X) (xs : List X) (x : X) → Contains (y ∷ xs) x → (y ≡ x) ⊎ Contains xs x
cases y xs x (zero, lt, e) = inl e
cases y xs x (suc k, lt, e) = inr (k, omega arith, e)

none : {X : Type 0} (x : X) → Contains [] x → ⊥
none x (k, lt, e) = absurd (omega arith)

among_map : {X Y : Type 0} (f : X → Y) (xs : List X) (x : X) → Contains xs x → Contains (map f xs) (f x)
among_map f [] x has = absurd (none x has)
among_map {X} {Y} f (y ∷ xs) x has = elim (cases y xs x has) [
  | inl e ↦ subst (λ (z : X). Contains (f y ∷ map f xs) (f z)) e (first (f y) (map f xs))
  | inr h ↦ later (f y) (map f xs) (f x) (among_map f xs x h)
]

from_map : {X Y : Type 0} (f : X → Y) (xs : List X) (y : Y) → Contains (map f xs) y → (x : X) × Contains xs x × (f x ≡ y)
from_map f [] y has = absurd (none y has)
from_map {X} f (x ∷ xs) y has = elim (cases (f x) (map f xs) y has) [
  | inl e ↦ (x, first x xs, e)
  | inr h ↦ let p : (z : X) × Contains xs z × (f z ≡ y) = from_map f xs y h in (p.0, later x xs p.0 p.1, p.2)
]

among_kept : {X : Type 0} (p : X → Bool) (xs : List X) (x : X) → Contains xs x → p x ≡ true → Contains (filter p xs) x
among_kept p [] x has e = absurd (none x has)
among_kept {X} p (y ∷ xs) x has e = elim (cases y xs x has) [
  | inl same ↦
      let kept : p y ≡ true = ap p same ∙ e in
      subst (λ (b : Bool). Contains (cond b (y ∷ filter p xs) (filter p xs)) x) (sym kept) (subst (λ (z : X). Contains (y ∷ filter p xs) z) same (first y (filter p xs)))
  | inr h ↦ by (p y) (among_kept p xs x h e)
]
  where
    by : (b : Bool) → Contains (filter p xs) x → Contains (cond b (y ∷ filter p xs) (filter p xs)) x
    by true h = later y (filter p xs) x h
    by _ h = h

-- ---- one list of a level

abbrev at : List (Vec ℕ) → ℕ → List ℕ
at lists offset = unwrap_or (option_map (λ (list : Vec ℕ). list.items) (slice_get lists offset)) []

at_here : (lists : List (Vec ℕ)) (o : ℕ) (list : Vec ℕ) → o < length lists → at (set lists o list) o ≡ list.items
at_here [] o list lt = absurd (omega arith)
at_here (x ∷ lists) zero list lt = refl
at_here (x ∷ lists) (suc o) list lt = at_here lists o list (omega arith)

at_other : (lists : List (Vec ℕ)) (o p : ℕ) (list : Vec ℕ) → (p ≡ o → ⊥) → at (set lists o list) p ≡ at lists p
at_other [] o p list ne = refl
at_other (x ∷ lists) zero zero list ne = absurd (ne refl)
at_other (x ∷ lists) zero (suc p) list ne = refl
at_other (x ∷ lists) (suc o) zero list ne = refl
at_other (x ∷ lists) (suc o) (suc p) list ne = at_other lists o p list (λ e. ne (ap suc e))

at_is : (lists : List (Vec ℕ)) (o : ℕ) (list : Vec ℕ) → o < length lists → list ≡ get_or lists o list → at lists o ≡ list.items
at_is lists o list lt e = ap (λ x. unwrap_or (option_map (λ (l : Vec ℕ). l.items) x) []) (slice_get_read lists (length lists) o list refl lt e)

pub nothing_past : (level : Level) (o : ℕ) → length level.lists.items ≤ o → listed_at level o ≡ []
nothing_past level o le = ap (λ x. unwrap_or (option_map (λ (l : Vec ℕ). l.items) x) []) (slice_get_past level.lists.items o le)

-- ---- what is put into a level

module _ (IsNew : ℕ → ℕ → Type 0) (old new : Level) (place target : ℕ) (list more : Vec ℕ) (lt : place < length old.lists.items) (list_is : list ≡ get_or old.lists.items place list)
    (more_is : more.items ≡ list.items ++ target ∷ []) (is : new.lists.items ≡ set old.lists.items place more) where
  here : listed_at new place ≡ listed_at old place ++ target ∷ []
  here =
      ap (λ (xs : List (Vec ℕ)). at xs place) is ∙ at_here old.lists.items place more lt ∙ more_is ∙ ap (λ (ts : List ℕ). ts ++ target ∷ []) (sym (at_is old.lists.items place list lt list_is))

  elsewhere : (o : ℕ) → (o ≡ place → ⊥) → listed_at new o ≡ listed_at old o
  elsewhere o ne = ap (λ (xs : List (Vec ℕ)). at xs o) is ∙ at_other old.lists.items place o more ne

  cases_put : (o : ℕ) → ((o ≡ place) × (listed_at new o ≡ listed_at old o ++ target ∷ [])) ⊎ (listed_at new o ≡ listed_at old o)
  cases_put o = elim (cases_eq o place) [ inl e ↦ inl (e, subst (λ (p : ℕ). listed_at new p ≡ listed_at old p ++ target ∷ []) (sym e) here) | inr ne ↦ inr (elsewhere o ne) ]

  put : ((o t : ℕ) → IsNew o t → (o ≡ place) × (t ≡ target)) → IsNew place target → ListsMore IsNew old new
  put there is_new = record {
    count = ap (λ (xs : List (Vec ℕ)). length xs) is ∙ length-set old.lists.items place more;
    kept = λ o t has. elim (cases_put o) [
      | inl e ↦ subst (λ (ts : List ℕ). Contains ts t) (sym e.1) (Contains-append_left (listed_at old o) (target ∷ []) t has)
      | inr e ↦ subst (λ (ts : List ℕ). Contains ts t) (sym e) has
    ];
    more = λ o t new_there.
        let e = there o t new_there in
        let last : Contains (listed_at new place) target = subst (λ (ts : List ℕ). Contains ts target) (sym here) (Contains-push (listed_at old place) target) in
        subst (λ (x : ℕ). Contains (listed_at new o) x) (sym e.1) (subst (λ (p : ℕ). Contains (listed_at new p) target) (sym e.0) last);
    only = λ o t has. elim (cases_put o) [
      | inl e ↦ elim (Contains-push_cases (listed_at old o) target t (subst (λ (ts : List ℕ). Contains ts t) e.1 has)) [
        | inl was ↦ inl was
        | inr same ↦ inr (subst (λ (x : ℕ). IsNew o x) same (subst (λ (p : ℕ). IsNew p target) (sym e.0) is_new))
      ]
      | inr e ↦ inl (subst (λ (ts : List ℕ). Contains ts t) e has)
    ];
  }

pub put_first : (range : Range) (old new : Level) (list more : Vec ℕ) → range.to ≤ length old.lists.items → range.from < range.to → range.from % 2 ≡ 1 → list ≡ get_or old.lists.items range.from list
    → more.items ≡ list.items ++ range.target ∷ [] → new.lists.items ≡ set old.lists.items range.from more → ListsMore (IsFirstAlone range) old new
put_first range old new list more le some odd list_is more_is is =
    put (IsFirstAlone range) old new range.from range.target list more (omega arith) list_is more_is is (λ o t alone. (alone.first, sym alone.begins))
    (record { some = some; odd = odd; first = refl; begins = refl })

pub put_last : (range : Range) (old new : Level) (list more : Vec ℕ) → range.to ≤ length old.lists.items → range.from < range.to → range.to % 2 ≡ 1 → (place : ℕ) → place + 1 ≡ range.to
    → list ≡ get_or old.lists.items place list → more.items ≡ list.items ++ range.target ∷ [] → new.lists.items ≡ set old.lists.items place more → ListsMore (IsLastAlone range) old new
put_last range old new list more le some odd place last list_is more_is is =
    put (IsLastAlone range) old new place range.target list more (omega arith) list_is more_is is (λ o t alone. let e = alone.last in (omega arith, sym alone.begins))
    (record { some = some; odd = odd; last = last; begins = refl })

alone_cases : (front : List Range) (range : Range) (o t : ℕ) → IsAlone (front ++ range ∷ []) o t → IsAlone front o t ⊎ (IsFirstAlone range o t ⊎ IsLastAlone range o t)
alone_cases front range o t is = elim (Contains-push_cases front range is.range is.among) [
  | inl among ↦ inl (record { range = is.range; among = among; alone = is.alone })
  | inr same ↦ inr (subst (λ (r : Range). IsFirstAlone r o t ⊎ IsLastAlone r o t) (sym same) is.alone)
]

alone_before : (front : List Range) (range : Range) (o t : ℕ) → IsAlone front o t → IsAlone (front ++ range ∷ []) o t
alone_before front range o t is = record { range = is.range; among = Contains-append_left front (range ∷ []) is.range is.among; alone = is.alone }

alone_here : (front : List Range) (range : Range) (o t : ℕ) → IsFirstAlone range o t ⊎ IsLastAlone range o t → IsAlone (front ++ range ∷ []) o t
alone_here front range o t alone = record { range = range; among = Contains-push front range; alone = alone }

-- the ends of one range more
pub listed_more : (front : List Range) (range : Range) (old mid next new : Level) → ListsMore (IsAlone front) old mid → ListsMore (IsFirstAlone range) mid next → ListsMore (IsLastAlone range) next new
    → ListsMore (IsAlone (front ++ range ∷ [])) old new
listed_more front range old mid next new before at_first at_last = record {
  count = at_last.count ∙ at_first.count ∙ before.count;
  kept = λ o t has. at_last.kept o t (at_first.kept o t (before.kept o t has));
  more = λ o t is. elim (alone_cases front range o t is) [
    | inl was ↦ at_last.kept o t (at_first.kept o t (before.more o t was))
    | inr here ↦ elim here [ inl a ↦ at_last.kept o t (at_first.more o t a) | inr b ↦ at_last.more o t b ]
  ];
  only = λ o t has. elim (at_last.only o t has) [
    | inl has ↦ elim (at_first.only o t has) [
      | inl has ↦ elim (before.only o t has) [ inl was ↦ inl was | inr a ↦ inr (alone_before front range o t a) ]
      | inr a ↦ inr (alone_here front range o t (inl a))
    ]
    | inr b ↦ inr (alone_here front range o t (inr b))
  ];
}

-- ---- a level and those after it

split : (from to o : ℕ) → from ≤ o → o < to → ((from % 2 ≡ 1) × (o ≡ from)) ⊎ (((to % 2 ≡ 1) × (o + 1 ≡ to)) ⊎ ((from / 2 + from % 2 ≤ o / 2) × (o / 2 < to / 2)))
split from to o ge lt = elim (cases_lt (o / 2) (from / 2 + from % 2)) [
  | inl below ↦ inl (omega arith, omega arith)
  | inr past ↦ elim (cases_lt (o / 2) (to / 2)) [ inl within ↦ inr (inr (past, within)) | inr after ↦ inr (inl (omega arith, omega arith)) ]
]

pub level_holds : (ranges : List Range) (bare level : Level) (levels : List Level) → ((o : ℕ) → listed_at bare o ≡ []) → ListsMore (IsAlone ranges) bare level → HoldsRanges (map halved ranges) levels
    → HoldsRanges ranges (level ∷ levels)
level_holds ranges bare level levels empty lists holds = record { all = down; only = up }
  where
    down : (o t : ℕ) → IsInRange ranges o t → Contains (listed_at level o ++ held levels (o / 2)) t
    down o t is = elim (split is.range.from is.range.to o is.from is.to) [
      | inl a ↦
          Contains-append_left (listed_at level o) (held levels (o / 2)) t
          (lists.more o t (record { range = is.range; among = is.among; alone = inl (record { some = let l = is.from in let u = is.to in omega arith; odd = a.0; first = a.1; begins = is.begins }) }))
      | inr rest ↦ elim rest [
        | inl b ↦
            Contains-append_left (listed_at level o) (held levels (o / 2)) t
            (lists.more o t (record { range = is.range; among = is.among; alone = inr (record { some = let l = is.from in let u = is.to in omega arith; odd = b.0; last = b.1; begins = is.begins }) }))
        | inr h ↦
            Contains-append_right (listed_at level o) (held levels (o / 2)) t
            (holds.all (o / 2) t (record { range = halved is.range; among = among_map halved ranges is.range is.among; from = h.0; to = h.1; begins = is.begins }))
      ]
    ]

    alone_in : (o t : ℕ) → IsAlone ranges o t → IsInRange ranges o t
    alone_in o t is = elim is.alone [
      | inl a ↦ record { range = is.range; among = is.among; from = let e = a.first in omega arith; to = let e = a.first in let some = a.some in omega arith; begins = a.begins }
      | inr b ↦ record { range = is.range; among = is.among; from = let e = b.last in let some = b.some in omega arith; to = let e = b.last in omega arith; begins = b.begins }
    ]

    half_in : (o t : ℕ) → IsInRange (map halved ranges) (o / 2) t → IsInRange ranges o t
    half_in o t is =
        let p = from_map halved ranges is.range is.among in
        let from : (halved p.0).from ≤ o / 2 = subst (λ (r : Range). r.from ≤ o / 2) (sym p.2) is.from in
        let to : o / 2 < (halved p.0).to = subst (λ (r : Range). o / 2 < r.to) (sym p.2) is.to in
        record { range = p.0; among = p.1; from = omega arith; to = omega arith; begins = ap (λ (r : Range). r.target) p.2 ∙ is.begins }

    up : (o t : ℕ) → Contains (listed_at level o ++ held levels (o / 2)) t → IsInRange ranges o t
    up o t has = elim (Contains-append_cases (listed_at level o) (held levels (o / 2)) t has) [
      | inl here ↦ elim (lists.only o t here) [
        | inl was ↦ absurd (none t (subst (λ (ts : List ℕ). Contains ts t) (empty o) was))
        | inr alone ↦ alone_in o t alone
      ]
      | inr there ↦ half_in o t (holds.only (o / 2) t there)
    ]

pub halves_within : (ranges : List Range) (width : ℕ) → All (λ (r : Range). r.to ≤ width) ranges → All (λ (r : Range). r.to ≤ width / 2) (map halved ranges)
halves_within ranges width all =
    All-map (λ (r : Range). r.to ≤ width / 2) halved ranges (All-weaker (λ (r : Range). r.to ≤ width) (λ (r : Range). r.to / 2 ≤ width / 2) (λ r le. omega arith) ranges all)

-- ---- the handlers

covers_parts : (o : ℕ) (h : Handler) → covers o h ≡ true → (h.start ≤ o) × (o < h.finish)
covers_parts o h e = let p = and_parts (leb h.start o) (ltb o h.finish) e in (grind (arith, nat_tests, p.0), grind (arith, nat_tests, p.1))

covers_from : (o : ℕ) (h : Handler) → h.start ≤ o → o < h.finish → covers o h ≡ true
covers_from o h le lt = and_from (leb h.start o) (ltb o h.finish) (grind (arith, nat_tests)) (grind (arith, nat_tests))

pub handlers_held : (handlers : List Handler) (levels : List Level) → HoldsRanges (map range_of handlers) levels → Holds handlers levels
handlers_held handlers levels holds = record {
  all = λ h o among is.
      let p = covers_parts o h is in
      holds.all o h.target (record { range = range_of h; among = among_map range_of handlers h among; from = p.0; to = p.1; begins = refl });
  only = λ o t has.
      let is = holds.only o t has in
      let p = from_map range_of handlers is.range is.among in
      let from : (range_of p.0).from ≤ o = subst (λ (r : Range). r.from ≤ o) (sym p.2) is.from in
      let to : o < (range_of p.0).to = subst (λ (r : Range). o < r.to) (sym p.2) is.to in
      let begins : p.0.target ≡ t = ap (λ (r : Range). r.target) p.2 ∙ is.begins in
      subst (λ (x : ℕ). Contains (caught_at handlers o) x) begins
      (among_map (λ (h : Handler). h.target) (filter (covers o) handlers) p.0 (among_kept (covers o) handlers p.0 p.1 (covers_from o p.0 from to)));
}

-- ---- what is taken

pub takes_listed : (old new : Level) (offset : ℕ) (list empty : Vec ℕ) → offset < length old.lists.items → list ≡ get_or old.lists.items offset list → empty.items ≡ []
    → new.lists.items ≡ set old.lists.items offset empty → TakesListed offset old new
takes_listed old new offset list empty lt list_is empty_is is = record {
  gone = here;
  kept = λ o t has. elim (cases_eq o offset) [
    | inl e ↦ inr (subst (λ (p : ℕ). Contains (listed_at old p) t) e has)
    | inr ne ↦ inl (subst (λ (ts : List ℕ). Contains ts t) (sym (other o ne)) has)
  ];
  fewer = λ o t has. elim (cases_eq o offset) [
    | inl e ↦ absurd (none t (subst (λ (ts : List ℕ). Contains ts t) here (subst (λ (p : ℕ). Contains (listed_at new p) t) e has)))
    | inr ne ↦ subst (λ (ts : List ℕ). Contains ts t) (other o ne) has
  ];
}
  where
    other : (o : ℕ) → (o ≡ offset → ⊥) → listed_at new o ≡ listed_at old o
    other o ne = ap (λ (xs : List (Vec ℕ)). at xs o) is ∙ at_other old.lists.items offset o empty ne

    here : listed_at new offset ≡ []
    here = ap (λ (xs : List (Vec ℕ)). at xs offset) is ∙ at_here old.lists.items offset empty lt ∙ empty_is

pub takes_none : (offset : ℕ) (level : Level) → listed_at level offset ≡ [] → TakesListed offset level level
takes_none offset level nothing = record { gone = nothing; kept = λ o t has. inl has; fewer = λ o t has. has }

-- of what is taken from a level and from those after it, nothing is left
pub gone_from : (offset : ℕ) (level : Level) (levels : List Level) → listed_at level offset ≡ [] → held levels (offset / 2) ≡ [] → held (level ∷ levels) offset ≡ []
gone_from offset level levels here there = ap (λ (ts : List ℕ). ts ++ held levels (offset / 2)) here ∙ there

pub takes_out : (offset : ℕ) (old new : Level) (olds news : List Level) → TakesListed offset old new → TakesOut (offset / 2) olds news → TakesOut offset (old ∷ olds) (new ∷ news)
takes_out offset old new olds news here there = record {
  kept = λ o t has. elim (Contains-append_cases (listed_at old o) (held olds (o / 2)) t has) [
    | inl h ↦ elim (here.kept o t h) [
      | inl k ↦ inl (Contains-append_left (listed_at new o) (held news (o / 2)) t k)
      | inr k ↦ inr (Contains-append_left (listed_at old offset) (held olds (offset / 2)) t k)
    ]
    | inr h ↦ elim (there.kept (o / 2) t h) [
      | inl k ↦ inl (Contains-append_right (listed_at new o) (held news (o / 2)) t k)
      | inr k ↦ inr (Contains-append_right (listed_at old offset) (held olds (offset / 2)) t k)
    ]
  ];
  fewer = λ o t has. elim (Contains-append_cases (listed_at new o) (held news (o / 2)) t has) [
    | inl h ↦ Contains-append_left (listed_at old o) (held olds (o / 2)) t (here.fewer o t h)
    | inr h ↦ Contains-append_right (listed_at old o) (held olds (o / 2)) t (there.fewer (o / 2) t h)
  ];
}

-- ---- levels that are added

pub adds_more : (ranges : List Range) (old mid new : List Level) (bare level : Level) → ((o : ℕ) → listed_at bare o ≡ []) → ListsMore (IsAlone ranges) bare level → mid ≡ old ++ level ∷ []
    → AddsLevels (map halved ranges) mid new → AddsLevels ranges old new
adds_more ranges old mid new bare level empty lists mid_is adds = record {
  added = level ∷ adds.added;
  new_is = adds.new_is ∙ ap (λ (ls : List Level). ls ++ adds.added) mid_is ∙ append_assoc old (level ∷ []) adds.added;
  holds = level_holds ranges bare level adds.added empty lists adds.holds;
}

-- ---- ranges of which the first are halved

module _ (ranges now : List Range) (i : ℕ) (d : Range) (lt : i < length ranges) (is : now ≡ map halved (take i ranges) ++ drop i ranges) where
  front_long : length (map halved (take i ranges)) ≡ i
  front_long = length-map (take i ranges) halved ∙ length-take-le i ranges (omega arith)

  in_parts : now ≡ map halved (take i ranges) ++ get_or ranges i d ∷ drop (i + 1) ranges
  in_parts = is ∙ ap (λ (rest : List Range). map halved (take i ranges) ++ rest) (drop_more ranges i d lt)

  pub next_whole : get_or now i d ≡ get_or ranges i d
  next_whole = ap (λ (rs : List Range). get_or rs i d) in_parts ∙ get_or_at (map halved (take i ranges)) (get_or ranges i d) (drop (i + 1) ranges) d i front_long

  pub next_halved : (half : Range) → half ≡ halved (get_or now i d) → set now i half ≡ map halved (take (i + 1) ranges) ++ drop (i + 1) ranges
  next_halved half half_is =
      let front : List Range = map halved (take i ranges) in
      let rest : List Range = drop (i + 1) ranges in
      let h : Range = halved (get_or ranges i d) in
      ap (set now i) (half_is ∙ ap halved next_whole) ∙ ap (λ (rs : List Range). set rs i h) in_parts ∙ set_at front (get_or ranges i d) rest h i front_long
      ∙ sym (append_assoc front (h ∷ []) rest) ∙ ap (λ (rs : List Range). rs ++ rest) (sym (map_more halved ranges i d lt))
