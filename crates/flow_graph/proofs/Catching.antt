-- A handler that is caught again changes nothing, so that it need not be met again; and in which order they are caught does not matter.
use Rattle.std.proofs.Common.{◌≡◌, ◌⊎◌, inl, inr, ℕ, zero, suc, ◌<◌, Bool, true, false, cond, not, ◌||◌, eqb, List, [], ◌∷◌, length, set, get_or, map, Contains, Option, Some, None, refl, sym, ap, ◌∙◌, subst, arith}
use Rattle.std.specs.List.{slice_get, filter, AllByRecursion}
use Rattle.std.specs.Option.{option_map_or}
use Rattle.std.proofs.lemmas.Option.{slice_get-get_or, slice_get_within, same_Some, none-some}
use Rattle.jvm_model.specs.declared.code.Code.{Code}
use Rattle.jvm_model.specs.declared.code.Handler.{Handler}
use Rattle.jvm_model.specs.declared.code.PlacedInstruction.{PlacedInstruction}
use Rattle.flow_graph.specs.declared.mark.Mark.{Mark}
use Rattle.flow_graph.specs.declared.uncaught.Level.{Level}
use Rattle.flow_graph.specs.Draining.{IsCaught, AreUncaught}
use Rattle.flow_graph.specs.Flows.{number_of, covers, caught_at}
use Rattle.flow_graph.specs.Uncaught.{held, TakesOut, Holds}
use Rattle.flow_graph.specs.Walks.{reached_after, caught, at_number, at_offset, at_each}
use Rattle.flow_graph.proofs.Growth.{Grown, Grows, caught-grown, at_each-grows, grows_more, each_changed, Changed}
use Rattle.flow_graph.proofs.Walked.{caught-keeps, at_each-kept}

-- ---- one mark

with_same : (x : Mark) (merged over : Bool) → merged ≡ x.merged → over ≡ x.over → record x { merged = merged; over = over } ≡ x
with_same x merged over e f = (λ i. record x { merged = e i; over = f i })

kept_or : (a b c : Bool) → (a || b) ≡ a → (a ≡ true → c ≡ true) → (c || b) ≡ c
kept_or a true c e more = let t : c ≡ true = more (sym e ∙ right a) in ap (λ (x : Bool). x || true) t ∙ sym t
  where
    right : (x : Bool) → (x || true) ≡ true
    right true = refl
    right false = refl
kept_or a false true e more = refl
kept_or a false false e more = refl

twice_or : (a b : Bool) → ((a || b) || b) ≡ (a || b)
twice_or true b = refl
twice_or false true = refl
twice_or false false = refl

-- what catching makes of a mark of a height
abbrev caught_after : ℕ → Option ℕ → Mark → Mark
caught_after limit o m = let r = reached_after o 1 m in record r { over = r.over || eqb limit 0 }

caught_by : (limit : ℕ) (m : Mark) (o : Option ℕ) → m.height ≡ o → caught limit m ≡ caught_after limit o m
caught_by limit m o is = ap (λ (x : Option ℕ). caught_after limit x m) is

-- a mark that catching leaves as it is
record IsFixed (limit : ℕ) (m : Mark) : Type 0 where
  first : ℕ
  height : m.height ≡ Some first
  merged : (m.merged || not (eqb first 1)) ≡ m.merged
  over : (m.over || eqb limit 0) ≡ m.over

fixed_parts : (limit : ℕ) (m : Mark) → caught limit m ≡ m → IsFixed limit m
fixed_parts limit m is = by m.height refl
  where
    by : (o : Option ℕ) → m.height ≡ o → IsFixed limit m
    by None e = absurd (none-some 1 (sym e ∙ sym (ap (λ (x : Mark). x.height) (sym (caught_by limit m None e) ∙ is))))
    by (Some first) e =
        let same : caught_after limit (Some first) m ≡ m = sym (caught_by limit m (Some first) e) ∙ is in
        record { first = first; height = e; merged = ap (λ (x : Mark). x.merged) same; over = ap (λ (x : Mark). x.over) same }

fixed_whole : (limit : ℕ) (m : Mark) → IsFixed limit m → caught limit m ≡ m
fixed_whole limit m f = caught_by limit m (Some f.first) f.height ∙ with_same m _ _ f.merged f.over

caught_twice : (limit : ℕ) (m : Mark) → caught limit (caught limit m) ≡ caught limit m
caught_twice limit m = by m.height refl
  where
    by : (o : Option ℕ) → m.height ≡ o → caught limit (caught limit m) ≡ caught limit m
    by None e =
        let x : Mark = caught_after limit None m in
        let fixed : caught limit x ≡ x = fixed_whole limit x (record { first = 1; height = refl; merged = none m.merged; over = twice_or m.over (eqb limit 0) }) in
        subst (λ (y : Mark). caught limit y ≡ y) (sym (caught_by limit m None e)) fixed
      where
        none : (b : Bool) → (b || false) ≡ b
        none true = refl
        none false = refl
    by (Some first) e =
        let x : Mark = caught_after limit (Some first) m in
        let fixed : caught limit x ≡ x = fixed_whole limit x (record { first = first; height = e; merged = twice_or m.merged (not (eqb first 1)); over = twice_or m.over (eqb limit 0) }) in
        subst (λ (y : Mark). caught limit y ≡ y) (sym (caught_by limit m (Some first) e)) fixed

-- and so it is left when more is known
fixed_grown : (limit : ℕ) (m x : Mark) → caught limit m ≡ m → Grown m x → caught limit x ≡ x
fixed_grown limit m x is grown =
    let f = fixed_parts limit m is in
    fixed_whole limit x (record {
      first = f.first;
      height = grown.height f.first f.height;
      merged = kept_or m.merged (not (eqb f.first 1)) x.merged f.merged grown.merged;
      over = kept_or m.over (eqb limit 0) x.over f.over grown.over;
    })

-- ---- marks of a number

set_same : (marks : List Mark) (k : ℕ) (m : Mark) → slice_get marks k ≡ Some m → set marks k m ≡ marks
set_same [] k m is = absurd (none-some m is)
set_same (x ∷ marks) zero m is = ap (λ (y : Mark). y ∷ marks) (sym (same_Some x m is))
set_same (x ∷ marks) (suc k) m is = ap (λ (ms : List Mark). x ∷ ms) (set_same marks k m is)

number_later : (f : Mark → Mark) (x : Mark) (marks : List Mark) (k : ℕ) → at_number f (x ∷ marks) (suc k) ≡ x ∷ at_number f marks k
number_later f x marks k = by (slice_get marks k)
  where
    by : (o : Option Mark) → option_map_or (λ (m : Mark). x ∷ set marks k (f m)) o (x ∷ marks) ≡ x ∷ option_map_or (λ (m : Mark). set marks k (f m)) o marks
    by None = refl
    by (Some m) = refl

number_swap : (f : Mark → Mark) (marks : List Mark) (j k : ℕ) → at_number f (at_number f marks j) k ≡ at_number f (at_number f marks k) j
number_swap f [] j k = refl
number_swap f (x ∷ marks) zero zero = refl
number_swap f (x ∷ marks) zero (suc k) = number_later f (f x) marks k ∙ sym (ap (λ (ms : List Mark). at_number f ms 0) (number_later f x marks k))
number_swap f (x ∷ marks) (suc j) zero = ap (λ (ms : List Mark). at_number f ms 0) (number_later f x marks j) ∙ sym (number_later f (f x) marks j)
number_swap f (x ∷ marks) (suc j) (suc k) =
    ap (λ (ms : List Mark). at_number f ms (suc k)) (number_later f x marks j) ∙ number_later f x (at_number f marks j) k
    ∙ ap (λ (ms : List Mark). x ∷ ms) (number_swap f marks j k)
    ∙ sym (number_later f x (at_number f marks k) j) ∙ sym (ap (λ (ms : List Mark). at_number f ms (suc j)) (number_later f x marks k))

-- ---- marks at offsets

module _ (f : Mark → Mark) (instructions : List PlacedInstruction) where
  offset_swap : (marks : List Mark) (a b : ℕ) → at_offset f instructions (at_offset f instructions marks a) b ≡ at_offset f instructions (at_offset f instructions marks b) a
  offset_swap marks a b = by (number_of instructions a) (number_of instructions b)
    where
      by : (o p : Option ℕ) → option_map_or (at_number f (option_map_or (at_number f marks) o marks)) p (option_map_or (at_number f marks) o marks)
          ≡ option_map_or (at_number f (option_map_or (at_number f marks) p marks)) o (option_map_or (at_number f marks) p marks)
      by None None = refl
      by None (Some k) = refl
      by (Some j) None = refl
      by (Some j) (Some k) = number_swap f marks j k

  each_one : (marks : List Mark) (b : ℕ) (offsets : List ℕ) → at_each f instructions (at_offset f instructions marks b) offsets ≡ at_offset f instructions (at_each f instructions marks offsets) b
  each_one marks b [] = refl
  each_one marks b (a ∷ offsets) =
      ap (λ (ms : List Mark). at_each f instructions ms offsets) (offset_swap marks b a) ∙ each_one (at_offset f instructions marks a) b offsets

  each_swap : (marks : List Mark) (xs ys : List ℕ) → at_each f instructions (at_each f instructions marks xs) ys ≡ at_each f instructions (at_each f instructions marks ys) xs
  each_swap marks [] ys = refl
  each_swap marks (x ∷ xs) ys =
      each_swap (at_offset f instructions marks x) xs ys ∙ ap (λ (ms : List Mark). at_each f instructions ms xs) (each_one marks x ys)

-- ---- what is caught

module _ (limit : ℕ) (instructions : List PlacedInstruction) where
  offset_fixed : (marks : List Mark) (target : ℕ) → IsCaught limit instructions marks target → at_offset (caught limit) instructions marks target ≡ marks
  offset_fixed marks target is = by (number_of instructions target) refl
    where
      by : (o : Option ℕ) → number_of instructions target ≡ o → option_map_or (at_number (caught limit) marks) o marks ≡ marks
      by None e = refl
      by (Some k) e = at (slice_get marks k) refl
        where
          at : (o : Option Mark) → slice_get marks k ≡ o → option_map_or (λ (m : Mark). set marks k (caught limit m)) o marks ≡ marks
          at None g = refl
          at (Some m) g = ap (set marks k) (is.fixed k m e g) ∙ set_same marks k m g

  each_fixed : (marks : List Mark) (targets : List ℕ) → ((t : ℕ) → Contains targets t → IsCaught limit instructions marks t) → at_each (caught limit) instructions marks targets ≡ marks
  each_fixed marks [] all = refl
  each_fixed marks (t ∷ targets) all =
      ap (λ (ms : List Mark). at_each (caught limit) instructions ms targets) (offset_fixed marks t (all t (0, omega arith, refl)))
      ∙ each_fixed marks targets (λ u has. all u (suc has.0, (let lt = has.1 in omega (arith, lt)), has.2))

  pub caught_kept : (marks new : List Mark) (target : ℕ) → length new ≡ length marks → Grows marks new → IsCaught limit instructions marks target → IsCaught limit instructions new target
  caught_kept marks new target long grows is = record {
    fixed = λ k x e at_x.
        let within : k < length marks = let w = slice_get_within new k x at_x in omega (arith, w, long) in
        let known = slice_get-get_or marks k x within in
        let g = grows k (get_or marks k x) known in
        let fixed = fixed_grown limit (get_or marks k x) g.mark (is.fixed k (get_or marks k x) e known) g.grown in
        subst (λ (y : Mark). caught limit y ≡ y) (same_Some g.mark x (sym g.known ∙ at_x)) fixed;
  }

  changed_caught : (marks : List Mark) (target : ℕ) → Changed (caught limit) instructions marks target → IsCaught limit instructions marks target
  changed_caught marks target changed = record {
    fixed = λ k x e at_x.
        let c = changed k e in
        let fixed = fixed_grown limit (caught limit c.before) c.at.mark (caught_twice limit c.before) c.at.grown in
        subst (λ (y : Mark). caught limit y ≡ y) (same_Some c.at.mark x (sym c.at.known ∙ at_x)) fixed;
  }

  of_all : (P : ℕ → Type 0) (xs : List ℕ) (x : ℕ) → Contains xs x → AllByRecursion P xs → P x
  of_all P [] x (k, lt, is) all = absurd (omega (arith, lt))
  of_all P (y ∷ xs) x (zero, lt, is) all = subst P is all.0
  of_all P (y ∷ xs) x (suc k, lt, is) all = of_all P xs x (k, omega (arith, lt), is) all.1

  pub each_caught : (marks : List Mark) (targets : List ℕ) (t : ℕ) → length marks ≡ length instructions → Contains targets t → IsCaught limit instructions (at_each (caught limit) instructions marks targets) t
  each_caught marks targets t long has =
      let end = at_each (caught limit) instructions marks targets in
      changed_caught end t (of_all (Changed (caught limit) instructions end) targets t has (each_changed (caught limit) instructions marks targets (caught-grown limit) (caught-keeps limit) long))

  -- handlers that are caught already, and those that come twice, make no difference
  pub same_marks : (marks : List Mark) (whole some : List ℕ) → length marks ≡ length instructions
      → ((t : ℕ) → Contains whole t → IsCaught limit instructions marks t ⊎ Contains some t) → ((t : ℕ) → Contains some t → Contains whole t)
      → at_each (caught limit) instructions marks some ≡ at_each (caught limit) instructions marks whole
  same_marks marks whole some long more less =
      let x = at_each (caught limit) instructions marks some in
      let y = at_each (caught limit) instructions marks whole in
      sym (each_fixed x whole (λ t has. elim (more t has) [
        | inl was ↦ caught_kept marks x t (at_each-kept (caught limit) instructions marks some (caught-keeps limit)).count (at_each-grows (caught limit) instructions marks some (caught-grown limit)) was
        | inr there ↦ each_caught marks some t long there
      ]))
      ∙ each_swap (caught limit) instructions marks some whole
      ∙ each_fixed y some (λ t has. each_caught marks whole t long (less t has))

-- ---- the handlers that cover an offset

pub from_covering : (handlers : List Handler) (offset target : ℕ) → Contains (caught_at handlers offset) target → (h : Handler) × Contains handlers h × (covers offset h ≡ true) × (h.target ≡ target)
from_covering [] offset target (k, lt, is) = absurd (omega (arith, lt))
from_covering (h ∷ handlers) offset target has = by (covers offset h) refl (λ c. from_covering handlers offset target c) has
  where
    later : (g : Handler) × Contains handlers g × (covers offset g ≡ true) × (g.target ≡ target) → (g : Handler) × Contains (h ∷ handlers) g × (covers offset g ≡ true) × (g.target ≡ target)
    later (g, (k, lt, is), c, t) = (g, (suc k, omega (arith, lt), is), c, t)

    by : (b : Bool) → covers offset h ≡ b
        → (Contains (caught_at handlers offset) target → (g : Handler) × Contains handlers g × (covers offset g ≡ true) × (g.target ≡ target))
        → Contains (map (λ (g : Handler). g.target) (cond b (h ∷ filter (covers offset) handlers) (filter (covers offset) handlers))) target
        → (g : Handler) × Contains (h ∷ handlers) g × (covers offset g ≡ true) × (g.target ≡ target)
    by false e rest c = later (rest c)
    by true e rest (zero, lt, is) = (h, (0, omega arith, refl), e, is)
    by true e rest (suc k, lt, is) = later (rest (k, omega (arith, lt), is))

-- ---- at the start, and after a walk of one

pub uncaught_first : (code : Code) (levels : List Level) (marks : List Mark) → Holds code.handlers levels → AreUncaught code levels marks
uncaught_first code levels marks holds = record { all = λ h offset has c. inr (holds.all h offset has c); only = holds.only }

module _ (code : Code) (old new : List Level) (marks mid end : List Mark) (offset : ℕ) (taken : List ℕ)
    (before : AreUncaught code old marks) (grows : Grows marks mid) (count : length mid ≡ length marks) (long : length marks ≡ length code.instructions)
    (taken_is : taken ≡ held old offset) (out : TakesOut offset old new) (end_is : end ≡ at_each (caught code.max_stack) code.instructions mid taken) where
  long_mid : length mid ≡ length code.instructions
  long_mid = count ∙ long

  pub caught_whole : end ≡ at_each (caught code.max_stack) code.instructions mid (caught_at code.handlers offset)
  caught_whole = end_is ∙ same_marks code.max_stack code.instructions mid (caught_at code.handlers offset) taken long_mid
      (λ t has.
      let from = from_covering code.handlers offset t has in
      elim (before.all from.0 offset from.1 from.2) [
        | inl was ↦ inl (caught_kept code.max_stack code.instructions marks mid t count grows (subst (IsCaught code.max_stack code.instructions marks) from.3 was))
        | inr listed ↦ inr (subst (λ (ts : List ℕ). Contains ts t) (sym taken_is) (subst (Contains (held old offset)) from.3 listed))
      ])
      (λ t has. before.only offset t (subst (λ (ts : List ℕ). Contains ts t) taken_is has))

  end_grows : Grows marks end
  end_grows = subst (Grows marks) (sym end_is) (grows_more marks mid _ grows (at_each-grows (caught code.max_stack) code.instructions mid taken (caught-grown code.max_stack)))

  end_count : length end ≡ length marks
  end_count = ap (λ (ms : List Mark). length ms) end_is ∙ (at_each-kept (caught code.max_stack) code.instructions mid taken (caught-keeps code.max_stack)).count ∙ count

  pub uncaught_after : AreUncaught code new end
  uncaught_after = record {
    all = λ h o has c. elim (before.all h o has c) [
      | inl was ↦ inl (caught_kept code.max_stack code.instructions marks end h.target end_count end_grows was)
      | inr listed ↦ elim (out.kept o h.target listed) [
        | inl still ↦ inr still
        | inr went ↦
            inl (subst (λ (ms : List Mark). IsCaught code.max_stack code.instructions ms h.target) (sym end_is)
            (each_caught code.max_stack code.instructions mid taken h.target long_mid (subst (λ (ts : List ℕ). Contains ts h.target) (sym taken_is) went)))
      ]
    ];
    only = λ o t has. before.only o t (out.fewer o t has);
  }
