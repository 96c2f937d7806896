-- What is known of instructions only grows along the walk.
use Rattle.std.proofs.Common.{◌≡◌, ◌⊎◌, inl, inr, ℕ, zero, suc, ◌<◌, Bool, true, false, cond, ◌||◌, eqb, List, [], ◌∷◌, length, set, get_or, Contains, Option, Some, None, refl, sym, ap, ◌∙◌, subst, arith}
use Rattle.std.specs.List.{slice_get, AllByRecursion}
use Rattle.std.specs.Option.{option_map_or}
use Rattle.std.proofs.lemmas.List.Quantifiers.{position-Some}
use Rattle.std.proofs.lemmas.Option.{slice_get-get_or}
use Rattle.jvm_model.specs.declared.code.PlacedInstruction.{PlacedInstruction}
use Rattle.flow_graph.specs.declared.effect.Effect.{Effect}
use Rattle.flow_graph.specs.declared.mark.Mark.{Mark}
use Rattle.flow_graph.specs.Flows.{number_of}
use Rattle.flow_graph.specs.Walks.{reached_after, reached, caught, at_number, at_offset, at_each, takes_too_much, goes_over, walked}
use Rattle.flow_graph.specs.Walking.{onward_each}
use Rattle.flow_graph.proofs.Walked.{Keeps, at_each-kept}

-- ---- of one instruction

pub record Grown (m x : Mark) : Type 0 where
  pub height : (h : ℕ) → m.height ≡ Some h → x.height ≡ Some h
  pub under : m.under ≡ true → x.under ≡ true
  pub over : m.over ≡ true → x.over ≡ true
  pub merged : m.merged ≡ true → x.merged ≡ true
  pub falls : m.falls ≡ true → x.falls ≡ true

pub grown_same : (m : Mark) → Grown m m
grown_same m = record { height = λ h e. e; under = λ e. e; over = λ e. e; merged = λ e. e; falls = λ e. e }

pub grown_more : (a b c : Mark) → Grown a b → Grown b c → Grown a c
grown_more a b c p q = record {
  height = λ h e. q.height h (p.height h e);
  under = λ e. q.under (p.under e);
  over = λ e. q.over (p.over e);
  merged = λ e. q.merged (p.merged e);
  falls = λ e. q.falls (p.falls e);
}

or_kept : (a b : Bool) → a ≡ true → (a || b) ≡ true
or_kept true b e = refl
or_kept false b e = absurd cc

none_some : (o : Option ℕ) (h : ℕ) → o ≡ None → o ≡ Some h → ⊥
none_some None h e f = absurd cc
none_some (Some g) h e f = absurd cc

reached_after-grown : (o : Option ℕ) (height : ℕ) (m : Mark) → m.height ≡ o → Grown m (reached_after o height m)
reached_after-grown None height m is = record { height = λ h e. absurd (none_some m.height h is e); under = λ e. e; over = λ e. e; merged = λ e. e; falls = λ e. e }
reached_after-grown (Some first) height m is = record { height = λ h e. e; under = λ e. e; over = λ e. e; merged = λ e. or_kept m.merged _ e; falls = λ e. e }

pub reached-grown : (height : ℕ) (m : Mark) → Grown m (reached height m)
reached-grown height m = reached_after-grown m.height height m refl

pub caught-grown : (limit : ℕ) (m : Mark) → Grown m (caught limit m)
caught-grown limit m =
    let r = reached 1 m in
    grown_more m r (caught limit m) (reached-grown 1 m) (record { height = λ h e. e; under = λ e. e; over = λ e. or_kept r.over _ e; merged = λ e. e; falls = λ e. e })

pub walked-grown : (limit : ℕ) (e : Effect) (height : ℕ) (falls : Bool) (m : Mark) → Grown m (walked limit e height falls m)
walked-grown limit e height falls m = by (takes_too_much e height) (goes_over limit e height m)
  where
    by : (a b : Bool) → Grown m (cond a (record m { walked = true; under = true }) (cond b (record m { walked = true; over = true }) (record m { walked = true; falls = m.falls || falls })))
    by true b = record { height = λ h e. e; under = λ e. refl; over = λ e. e; merged = λ e. e; falls = λ e. e }
    by false true = record { height = λ h e. e; under = λ e. e; over = λ e. refl; merged = λ e. e; falls = λ e. e }
    by false false = record { height = λ h e. e; under = λ e. e; over = λ e. e; merged = λ e. e; falls = λ e. or_kept m.falls falls e }

-- ---- of all of them

-- the mark of a number grew from another one
pub record GrownAt (marks : List Mark) (k : ℕ) (m : Mark) : Type 0 where
  pub mark : Mark
  pub known : slice_get marks k ≡ Some mark
  pub grown : Grown m mark

abbrev pub Grows : List Mark → List Mark → Type 0
Grows old new = (k : ℕ) (m : Mark) → slice_get old k ≡ Some m → GrownAt new k m

pub grows_same : (marks : List Mark) → Grows marks marks
grows_same marks k m is = record { mark = m; known = is; grown = grown_same m }

pub grown_at_more : (marks end : List Mark) (k : ℕ) (m : Mark) → GrownAt marks k m → Grows marks end → GrownAt end k m
grown_at_more marks end k m g more =
    let h = more k g.mark g.known in
    record { mark = h.mark; known = h.known; grown = grown_more m g.mark h.mark g.grown h.grown }

pub grows_more : (a b c : List Mark) → Grows a b → Grows b c → Grows a c
grows_more a b c p q k m is = grown_at_more b c k m (p k m is) q

pub set_grows : (marks : List Mark) (n : ℕ) (m x : Mark) → slice_get marks n ≡ Some m → Grown m x → Grows marks (set marks n x)
set_grows [] n m x is g k z at = absurd cc
set_grows (y ∷ marks) zero m x is g zero z at =
    let same : m ≡ z = cc (is, at) in
    record { mark = x; known = refl; grown = subst (λ (w : Mark). Grown w x) same g }
set_grows (y ∷ marks) zero m x is g (suc k) z at = record { mark = z; known = at; grown = grown_same z }
set_grows (y ∷ marks) (suc n) m x is g zero z at = record { mark = z; known = at; grown = grown_same z }
set_grows (y ∷ marks) (suc n) m x is g (suc k) z at =
    let h = set_grows marks n m x is g k z at in
    record { mark = h.mark; known = h.known; grown = h.grown }

pub set_there : (marks : List Mark) (n : ℕ) (m x : Mark) → slice_get marks n ≡ Some m → slice_get (set marks n x) n ≡ Some x
set_there [] n m x is = absurd cc
set_there (y ∷ marks) zero m x is = refl
set_there (y ∷ marks) (suc n) m x is = set_there marks n m x is

abbrev Growing : (Mark → Mark) → Type 0
Growing change = (m : Mark) → Grown m (change m)

at_number-grows : (change : Mark → Mark) (marks : List Mark) (n : ℕ) → Growing change → Grows marks (at_number change marks n)
at_number-grows change marks n grows = by (slice_get marks n) refl
  where
    by : (o : Option Mark) → slice_get marks n ≡ o → Grows marks (option_map_or (λ (m : Mark). set marks n (change m)) o marks)
    by None is = grows_same marks
    by (Some m) is = set_grows marks n m (change m) is (grows m)

at_offset-grows : (change : Mark → Mark) (instructions : List PlacedInstruction) (marks : List Mark) (offset : ℕ) → Growing change → Grows marks (at_offset change instructions marks offset)
at_offset-grows change instructions marks offset grows = by (number_of instructions offset)
  where
    by : (o : Option ℕ) → Grows marks (option_map_or (at_number change marks) o marks)
    by None = grows_same marks
    by (Some n) = at_number-grows change marks n grows

pub at_each-grows : (change : Mark → Mark) (instructions : List PlacedInstruction) (marks : List Mark) (offsets : List ℕ) → Growing change → Grows marks (at_each change instructions marks offsets)
at_each-grows change instructions marks [] grows = grows_same marks
at_each-grows change instructions marks (offset ∷ offsets) grows =
    grows_more marks (at_offset change instructions marks offset) _ (at_offset-grows change instructions marks offset grows)
    (at_each-grows change instructions (at_offset change instructions marks offset) offsets grows)

pub onward_each-grows : (height : Option ℕ) (instructions : List PlacedInstruction) (marks : List Mark) (offsets : List ℕ) → Grows marks (onward_each height instructions marks offsets)
onward_each-grows None instructions marks offsets = grows_same marks
onward_each-grows (Some height) instructions marks offsets = at_each-grows (reached height) instructions marks offsets (reached-grown height)

-- ---- what a change leaves

-- the mark of a number grew from one that was changed
pub record ChangedAt (change : Mark → Mark) (marks : List Mark) (k : ℕ) : Type 0 where
  pub before : Mark
  pub at : GrownAt marks k (change before)

abbrev pub Changed : (Mark → Mark) → List PlacedInstruction → List Mark → ℕ → Type 0
Changed change instructions marks offset = (k : ℕ) → number_of instructions offset ≡ Some k → ChangedAt change marks k

pub changed_more : (change : Mark → Mark) (instructions : List PlacedInstruction) (marks end : List Mark) (offsets : List ℕ) → Grows marks end → AllByRecursion (Changed change instructions marks) offsets
    → AllByRecursion (Changed change instructions end) offsets
changed_more change instructions marks end [] grows all = tt
changed_more change instructions marks end (o ∷ offsets) grows all = (
  (λ k is. let c = all.0 k is in record { before = c.before; at = grown_at_more marks end k (change c.before) c.at grows }),
  changed_more change instructions marks end offsets grows all.1,
)

number_below : (instructions : List PlacedInstruction) (offset k : ℕ) → number_of instructions offset ≡ Some k → k < length instructions
number_below instructions offset k is = (position-Some (λ (p : PlacedInstruction). eqb p.offset offset) instructions k (any instructions k is) is).0
  where
    any : (ps : List PlacedInstruction) (j : ℕ) → number_of ps offset ≡ Some j → PlacedInstruction
    any [] j e = absurd cc
    any (p ∷ ps) j e = p

changed_here : (change : Mark → Mark) (instructions : List PlacedInstruction) (marks : List Mark) (offset : ℕ) → length marks ≡ length instructions → Changed change instructions (at_offset change instructions marks offset) offset
changed_here change instructions marks offset long k is =
    let d : Mark = record { height = None; walked = false; under = false; over = false; merged = false; falls = false } in
    let known = slice_get-get_or marks k d (omega (arith, number_below instructions offset k is, long)) in
    let m = get_or marks k d in
    let at : at_offset change instructions marks offset ≡ set marks k (change m) =
    ap (λ (o : Option ℕ). option_map_or (at_number change marks) o marks) is ∙ ap (λ (o : Option Mark). option_map_or (λ (y : Mark). set marks k (change y)) o marks) known in
    let there = set_there marks k m (change m) known in
    record { before = m; at = record { mark = change m; known = ap (λ (ms : List Mark). slice_get ms k) at ∙ there; grown = grown_same (change m) } }

pub each_changed : (change : Mark → Mark) (instructions : List PlacedInstruction) (marks : List Mark) (offsets : List ℕ) → Growing change → Keeps change → length marks ≡ length instructions
    → AllByRecursion (Changed change instructions (at_each change instructions marks offsets)) offsets
each_changed change instructions marks [] grows keeps long = tt
each_changed change instructions marks (o ∷ offsets) grows keeps long =
    let next = at_offset change instructions marks o in
    let kept = at_each-kept change instructions marks (o ∷ []) keeps in
    let rest = at_each-grows change instructions next offsets grows in (
      (λ k is. let c = changed_here change instructions marks o long k is in record { before = c.before; at = grown_at_more next (at_each change instructions next offsets) k (change c.before) c.at rest }),
      each_changed change instructions next offsets grows keeps (kept.count ∙ long),
    )

-- ---- what stood there before

-- the mark of a number before some instructions were reached: it has no other height, or is that of one of them
pub record Before (instructions : List PlacedInstruction) (marks : List Mark) (offsets : List ℕ) (k : ℕ) (x : Mark) : Type 0 where
  pub mark : Mark
  pub known : slice_get marks k ≡ Some mark
  pub walked_same : x.walked ≡ mark.walked
  pub cause : (x.height ≡ mark.height) ⊎ ((o : ℕ) × Contains offsets o × (number_of instructions o ≡ Some k))

pub record Under (marks : List Mark) (n k : ℕ) (y x : Mark) : Type 0 where
  pub mark : Mark
  pub known : slice_get marks k ≡ Some mark
  pub cause : (x ≡ mark) ⊎ ((k ≡ n) × (x ≡ y))

pub set_before : (marks : List Mark) (n k : ℕ) (y x : Mark) → slice_get (set marks n y) k ≡ Some x → Under marks n k y x
set_before [] n k y x is = absurd cc
set_before (z ∷ marks) zero zero y x is =
    let same : y ≡ x = cc is in
    record { mark = z; known = refl; cause = inr (refl, sym same) }
set_before (z ∷ marks) zero (suc k) y x is = record { mark = x; known = is; cause = inl refl }
set_before (z ∷ marks) (suc n) zero y x is = record { mark = x; known = is; cause = inl refl }
set_before (z ∷ marks) (suc n) (suc k) y x is =
    let u = set_before marks n k y x is in
    record { mark = u.mark; known = u.known; cause = more u.mark u.cause }
  where
    more : (m : Mark) → (x ≡ m) ⊎ ((k ≡ n) × (x ≡ y)) → (x ≡ m) ⊎ ((suc k ≡ suc n) × (x ≡ y))
    more m (inl e) = inl e
    more m (inr (e, f)) = inr (ap suc e, f)

number_before : (change : Mark → Mark) (instructions : List PlacedInstruction) (marks : List Mark) (n o k : ℕ) (x : Mark) → Keeps change → number_of instructions o ≡ Some n → slice_get (at_number change marks n) k ≡ Some x
    → Before instructions marks (o ∷ []) k x
number_before change instructions marks n o k x keeps there = by (slice_get marks n) refl
  where
    by : (found : Option Mark) → slice_get marks n ≡ found → slice_get (option_map_or (λ (m : Mark). set marks n (change m)) found marks) k ≡ Some x → Before instructions marks (o ∷ []) k x
    by None at is = record { mark = x; known = is; walked_same = refl; cause = inl refl }
    by (Some m) at is =
        let u = set_before marks n k (change m) x is in
        cases u.mark u.known u.cause
      where
        cases : (z : Mark) → slice_get marks k ≡ Some z → (x ≡ z) ⊎ ((k ≡ n) × (x ≡ change m)) → Before instructions marks (o ∷ []) k x
        cases z known (inl e) = record { mark = z; known = known; walked_same = ap (λ (w : Mark). w.walked) e; cause = inl (ap (λ (w : Mark). w.height) e) }
        cases z known (inr (e, f)) =
            let same : m ≡ z = cc (at, known, e) in
            record {
              mark = z;
              known = known;
              walked_same = ap (λ (w : Mark). w.walked) f ∙ keeps m ∙ ap (λ (w : Mark). w.walked) same;
              cause = inr (o, (0, omega arith, refl), there ∙ ap Some (sym e));
            }

offset_before : (change : Mark → Mark) (instructions : List PlacedInstruction) (marks : List Mark) (o k : ℕ) (x : Mark) → Keeps change → slice_get (at_offset change instructions marks o) k ≡ Some x
    → Before instructions marks (o ∷ []) k x
offset_before change instructions marks o k x keeps = by (number_of instructions o) refl
  where
    by : (found : Option ℕ) → number_of instructions o ≡ found → slice_get (option_map_or (at_number change marks) found marks) k ≡ Some x → Before instructions marks (o ∷ []) k x
    by None at is = record { mark = x; known = is; walked_same = refl; cause = inl refl }
    by (Some n) at is = number_before change instructions marks n o k x keeps at is

further : (o : ℕ) (offsets : List ℕ) (p : ℕ) → Contains offsets p → Contains (o ∷ offsets) p
further o offsets p (j, lt, is) = (suc j, omega (arith, lt), is)

at_front : (o : ℕ) (offsets : List ℕ) (p : ℕ) → Contains (o ∷ []) p → Contains (o ∷ offsets) p
at_front o offsets p (zero, lt, is) = (0, omega arith, is)
at_front o offsets p (suc j, lt, is) = absurd (omega (arith, lt))

pub each_before : (change : Mark → Mark) (instructions : List PlacedInstruction) (marks : List Mark) (offsets : List ℕ) (k : ℕ) (x : Mark) → Keeps change → slice_get (at_each change instructions marks offsets) k ≡ Some x
    → Before instructions marks offsets k x
each_before change instructions marks [] k x keeps is = record { mark = x; known = is; walked_same = refl; cause = inl refl }
each_before change instructions marks (o ∷ offsets) k x keeps is =
    let later = each_before change instructions (at_offset change instructions marks o) offsets k x keeps is in
    let first = offset_before change instructions marks o k later.mark keeps later.known in
    record { mark = first.mark; known = first.known; walked_same = later.walked_same ∙ first.walked_same; cause = cases later.mark first.mark later.cause first.cause }
  where
    cases : (m z : Mark) → (x.height ≡ m.height) ⊎ ((p : ℕ) × Contains offsets p × (number_of instructions p ≡ Some k)) → (m.height ≡ z.height) ⊎ ((p : ℕ) × Contains (o ∷ []) p × (number_of instructions p ≡ Some k))
        → (x.height ≡ z.height) ⊎ ((p : ℕ) × Contains (o ∷ offsets) p × (number_of instructions p ≡ Some k))
    cases m z (inr (p, there, at)) f = inr (p, further o offsets p there, at)
    cases m z (inl e) (inl f) = inl (e ∙ f)
    cases m z (inl e) (inr (p, there, at)) = inr (p, at_front o offsets p there, at)
