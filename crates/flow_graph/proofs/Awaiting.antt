-- Which instructions wait after a walk of one, and which of those that wait is the first.
use Rattle.std.proofs.Common.{◌≡◌, ℕ, zero, suc, ◌<◌, ◌≤◌, Bool, true, false, cond, not, ◌||◌, ◌&&◌, eqb, ltb, List, [], ◌∷◌, length, set, get_or, Option, Some, None, refl, sym, ap, ◌∙◌, arith}
use Rattle.std.specs.BTreeSet.{BTreeSet, contains}
use Rattle.std.specs.BTreeMap.{is_at}
use Rattle.std.specs.List.{slice_get, position, position_or_len, list_any}
use Rattle.std.specs.Option.{option_map_or, is_some}
use Rattle.std.specs.Ordering.{nat_cmp}
use Rattle.std.proofs.lemmas.Bool.{lt-ltb, le-ltb, eq-eqb}
use Rattle.std.proofs.lemmas.List.Sums.{position_or_len_is}
use Rattle.std.proofs.lemmas.Option.{slice_get-get_or, slice_get_within}
use Rattle.jvm_model.specs.declared.code.PlacedInstruction.{PlacedInstruction}
use Rattle.flow_graph.specs.declared.mark.Mark.{Mark}
use Rattle.flow_graph.specs.Flows.{number_of}
use Rattle.flow_graph.specs.Walks.{unreached, reached, caught, at_number, at_offset, at_each, is_waiting}
use Rattle.flow_graph.specs.Walking.{onward_each, waits_at, AreAwaited, is_number_at, stands_at, AwaitsBoth}

-- ---- the first one that waits

waits_or : (marks : List Mark) (k : ℕ) (d : Mark) → k < length marks → waits_at marks k ≡ is_waiting (get_or marks k d)
waits_or marks k d lt = ap (λ (o : Option Mark). option_map_or is_waiting o false) (slice_get-get_or marks k d lt)

within : (marks : List Mark) (number : ℕ) → waits_at marks number ≡ true → number < length marks
within marks number is = by (slice_get marks number) refl is
  where
    by : (o : Option Mark) → slice_get marks number ≡ o → option_map_or is_waiting o false ≡ true → number < length marks
    by None at e = absurd cc
    by (Some m) at e = slice_get_within marks number m at

pub first_is : (marks : List Mark) (number : ℕ) → waits_at marks number ≡ true → ((k : ℕ) → k < number → waits_at marks k ≡ false) → position is_waiting marks ≡ Some number
first_is marks number is none =
    let lt = within marks number is in
    let at : position_or_len is_waiting marks ≡ number =
    position_or_len_is is_waiting marks number unreached (omega arith) (λ k below. sym (waits_or marks k unreached (omega arith)) ∙ none k below)
    (λ less. sym (waits_or marks number unreached less) ∙ is) in
    ap (λ (n : ℕ). cond (ltb n (length marks)) (Some n) None) at ∙ ap (λ (b : Bool). cond b (Some number) None) (lt-ltb number (length marks) lt)

pub none_waits : (marks : List Mark) → ((k : ℕ) → waits_at marks k ≡ false) → position is_waiting marks ≡ None
none_waits marks none =
    let n = length marks in
    let at : position_or_len is_waiting marks ≡ n =
    position_or_len_is is_waiting marks n unreached (omega arith) (λ k below. sym (waits_or marks k unreached below) ∙ none k)
    (λ less. absurd (omega (arith, less))) in
    ap (λ (p : ℕ). cond (ltb p n) (Some p) None) at ∙ ap (λ (b : Bool). cond b (Some n) None) (le-ltb n n (omega arith))

-- ---- what waits after a change

or_left : (a b : Bool) → a ≡ true → (a || b) ≡ true
or_left a b e = ap (λ (x : Bool). x || b) e

or_right : (a b : Bool) → b ≡ true → (a || b) ≡ true
or_right true b e = refl
or_right false b e = e

either : (a b : Bool) (P : Type 0) → (a || b) ≡ true → (a ≡ true → P) → (b ≡ true → P) → P
either true b P e f g = f refl
either false b P e f g = g e

set_waits_apart : (marks : List Mark) (k number : ℕ) (x : Mark) → (k ≡ number → ⊥) → waits_at (set marks k x) number ≡ true → waits_at marks number ≡ true
set_waits_apart [] k number x apart is = is
set_waits_apart (m ∷ marks) zero zero x apart is = absurd (apart refl)
set_waits_apart (m ∷ marks) zero (suc number) x apart is = is
set_waits_apart (m ∷ marks) (suc k) zero x apart is = is
set_waits_apart (m ∷ marks) (suc k) (suc number) x apart is = set_waits_apart marks k number x (λ e. apart (ap (λ (n : ℕ). suc n) e)) is

set_waits : (marks : List Mark) (k number : ℕ) (x : Mark) → waits_at (set marks k x) number ≡ true → (waits_at marks number || eqb k number) ≡ true
set_waits marks k number x is = by (eqb k number) refl
  where
    by : (b : Bool) → eqb k number ≡ b → (waits_at marks number || b) ≡ true
    by true e = or_right (waits_at marks number) true refl
    by false e = or_left (waits_at marks number) false (set_waits_apart marks k number x (λ same. absurd (cc (e, eq-eqb k number same))) is)

set_waits_not : (marks : List Mark) (k number : ℕ) (x : Mark) → is_waiting x ≡ false → waits_at (set marks k x) number ≡ true → waits_at marks number ≡ true
set_waits_not [] k number x still is = is
set_waits_not (m ∷ marks) zero zero x still is = absurd (cc (still, is))
set_waits_not (m ∷ marks) zero (suc number) x still is = is
set_waits_not (m ∷ marks) (suc k) zero x still is = is
set_waits_not (m ∷ marks) (suc k) (suc number) x still is = set_waits_not marks k number x still is

number_waits : (change : Mark → Mark) (marks : List Mark) (k number : ℕ) → waits_at (at_number change marks k) number ≡ true → (waits_at marks number || eqb k number) ≡ true
number_waits change marks k number is = by (slice_get marks k) is
  where
    by : (o : Option Mark) → waits_at (option_map_or (λ (m : Mark). set marks k (change m)) o marks) number ≡ true → (waits_at marks number || eqb k number) ≡ true
    by None e = or_left (waits_at marks number) (eqb k number) e
    by (Some m) e = set_waits marks k number (change m) e

offset_waits : (change : Mark → Mark) (instructions : List PlacedInstruction) (marks : List Mark) (offset number : ℕ)
    → waits_at (at_offset change instructions marks offset) number ≡ true → (waits_at marks number || is_number_at instructions number offset) ≡ true
offset_waits change instructions marks offset number is = by (number_of instructions offset) is
  where
    by : (o : Option ℕ) → waits_at (option_map_or (at_number change marks) o marks) number ≡ true → (waits_at marks number || option_map_or (λ (n : ℕ). eqb n number) o false) ≡ true
    by None e = or_left (waits_at marks number) false e
    by (Some k) e = number_waits change marks k number e

each_waits : (change : Mark → Mark) (instructions : List PlacedInstruction) (marks : List Mark) (offsets : List ℕ) (number : ℕ)
    → waits_at (at_each change instructions marks offsets) number ≡ true → (waits_at marks number || stands_at instructions offsets number) ≡ true
each_waits change instructions marks [] number is = or_left (waits_at marks number) false is
each_waits change instructions marks (offset ∷ offsets) number is =
    let a = waits_at marks number in
    let b = is_number_at instructions number offset in
    let c = stands_at instructions offsets number in
    either (waits_at (at_offset change instructions marks offset) number) c ((a || (b || c)) ≡ true) (each_waits change instructions (at_offset change instructions marks offset) offsets number is)
    (λ x. either a b ((a || (b || c)) ≡ true) (offset_waits change instructions marks offset number x) (λ y. or_left a (b || c) y) (λ y. or_right a (b || c) (or_left b c y)))
    (λ x. or_right a (b || c) (or_right b c x))

not_waiting : (m : Mark) → m.walked ≡ true → is_waiting m ≡ false
not_waiting m is = by m.height m.walked is
  where
    by : (o : Option ℕ) (w : Bool) → w ≡ true → (is_some o && not w) ≡ false
    by None w e = refl
    by (Some h) true e = refl
    by (Some h) false e = absurd cc

-- what waits after an instruction was walked, and goes on at these offsets, and after the handlers begin that were met
module _ (limit : ℕ) (instructions : List PlacedInstruction) (marks mid end : List Mark) (number : ℕ) (x : Mark) (onward : Option ℕ) (next taken : List ℕ) (done : x.walked ≡ true)
    (mid_is : mid ≡ onward_each onward instructions (set marks number x) next) (end_is : end ≡ at_each (caught limit) instructions mid taken) where
  onward_waits : (o : Option ℕ) (k : ℕ) → waits_at (onward_each o instructions (set marks number x) next) k ≡ true → (waits_at marks k || stands_at instructions next k) ≡ true
  onward_waits None k is = or_left (waits_at marks k) (stands_at instructions next k) (set_waits_not marks number k x (not_waiting x done) is)
  onward_waits (Some height) k is =
      either (waits_at (set marks number x) k) (stands_at instructions next k) ((waits_at marks k || stands_at instructions next k) ≡ true)
      (each_waits (reached height) instructions (set marks number x) next k is)
      (λ z. or_left (waits_at marks k) (stands_at instructions next k) (set_waits_not marks number k x (not_waiting x done) z))
      (λ z. or_right (waits_at marks k) (stands_at instructions next k) z)

  walk_waits : (k : ℕ) → waits_at end k ≡ true → ((waits_at marks k || stands_at instructions next k) || stands_at instructions taken k) ≡ true
  walk_waits k is =
      let a = waits_at marks k || stands_at instructions next k in
      let c = stands_at instructions taken k in
      either (waits_at mid k) c ((a || c) ≡ true) (each_waits (caught limit) instructions mid taken k (ap (λ (ms : List Mark). waits_at ms k) (sym end_is) ∙ is))
      (λ y. or_left a c (onward_waits onward k (ap (λ (ms : List Mark). waits_at ms k) (sym mid_is) ∙ y)))
      (λ y. or_right a c y)

  -- so those that wait are awaited
  pub awaited_after : (old new : BTreeSet ℕ) → AreAwaited old marks → AwaitsBoth old new instructions next taken → AreAwaited new end
  awaited_after old new before both = record {
    among = λ k is.
        let a = waits_at marks k in
        let b = stands_at instructions next k in
        let c = stands_at instructions taken k in
        either (a || b) c (contains nat_cmp new k ≡ true) (walk_waits k is)
        (λ x. both.handlers.each k ∙ or_left (contains nat_cmp both.between k) c
        (either a b (contains nat_cmp both.between k ≡ true) x (λ y. both.onward.each k ∙ or_left (contains nat_cmp old k) b (before.among k y)) (λ y. both.onward.each k ∙ or_right (contains nat_cmp old k) b y)))
        (λ x. both.handlers.each k ∙ or_right (contains nat_cmp both.between k) c x);
  }

-- below the first one that is awaited none waits
pub not_below : (awaited : BTreeSet ℕ) (marks : List Mark) (number : ℕ) → AreAwaited awaited marks → ((k : ℕ) → contains nat_cmp awaited k ≡ true → number ≤ k)
    → (k : ℕ) → k < number → waits_at marks k ≡ false
not_below awaited marks number are least k lt = by (waits_at marks k) refl
  where
    by : (b : Bool) → waits_at marks k ≡ b → b ≡ false
    by true e = absurd (omega (arith, least k (are.among k e), lt))
    by false e = refl

-- where none is awaited none waits
pub not_any : (awaited : BTreeSet ℕ) (marks : List Mark) → AreAwaited awaited marks → length awaited.keys ≡ 0 → (k : ℕ) → waits_at marks k ≡ false
not_any awaited marks are none k = by (waits_at marks k) refl
  where
    nothing : (keys : List ℕ) → length keys ≡ 0 → list_any (λ (x : ℕ). is_at (nat_cmp k) x) keys ≡ false
    nothing [] e = refl
    nothing (x ∷ keys) e = absurd (omega (arith, e))

    by : (b : Bool) → waits_at marks k ≡ b → b ≡ false
    by true e = absurd (cc (nothing awaited.keys none, are.among k e))
    by false e = refl
