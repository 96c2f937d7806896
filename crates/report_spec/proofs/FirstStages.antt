-- A site has one verdict, whatever stages may find: the first stage that has something is one, and stays the first where more stages are asked for; and
-- there is a first one or none, where it is known of each stage.
use Rattle.std.proofs.Common.{◌≡◌, ◌⊎◌, ◌≤◌, ◌<◌, ℕ, zero, suc, Bool, true, false, IsTrue, inl, inr, refl, sym, ◌∙◌, ap, arith}
use Rattle.std.proofs.lemmas.Bool.{cases_Bool, cases_lt, false≢true}
use Rattle.site_report.specs.declared.verdict.Verdict.{Verdict}
use Rattle.site_report.specs.declared.verdict.Verdict.TheVariants.{Safe, Unproved, Limit}
use Rattle.report_spec.specs.Verdicts.{HoldsOfNoStage, IsFirstStage, IsVerdictBy}

-- ---- one thing that stages may have

module _ (P : ℕ → Type 0) (stages : ℕ) where
  -- none is earlier than the first one
  not_earlier : (m n : ℕ) → IsFirstStage P stages m → IsFirstStage P stages n → m < n → ⊥
  not_earlier m n x y lt = y.none_earlier m x.from_one lt x.has

  pub first_is_one : (m n : ℕ) → IsFirstStage P stages m → IsFirstStage P stages n → m ≡ n
  first_is_one m n x y =
      elim (cases_lt m n) [
        | inl lt ↦ absurd (not_earlier m n x y lt)
        | inr le ↦ elim (cases_lt n m) [ inl lt ↦ absurd (not_earlier n m y x lt) | inr ge ↦ omega (arith, le, ge) ]
      ]

  pub none_or_first : (stage : ℕ) → HoldsOfNoStage P stages → IsFirstStage P stages stage → ⊥
  none_or_first stage none x = none.none stage x.from_one x.within x.has

  pub first_of_more : (more stage : ℕ) → stages ≤ more → IsFirstStage P stages stage → IsFirstStage P more stage
  first_of_more more stage le x = record { from_one = x.from_one; within = let here = x.within in omega arith; has = x.has; none_earlier = x.none_earlier }

-- ---- what stages have by other words

module _ (P Q : ℕ → Type 0) (stages : ℕ) (to : (stage : ℕ) → stage ≤ stages → P stage → Q stage) (back : (stage : ℕ) → stage ≤ stages → Q stage → P stage) where
  first_over : (stage : ℕ) → IsFirstStage P stages stage → IsFirstStage Q stages stage
  first_over stage x = record {
    from_one = x.from_one;
    within = x.within;
    has = to stage x.within x.has;
    none_earlier = λ earlier one lt has. let here = x.within in x.none_earlier earlier one lt (back earlier (omega arith) has);
  }

  none_over : HoldsOfNoStage P stages → HoldsOfNoStage Q stages
  none_over x = record { none = λ stage one within has. x.none stage one within (back stage within has) }

-- the verdict is the same by both, where the stages that are asked for have the same
pub verdict_over : (P Q L M : ℕ → Type 0) (stages : ℕ) → ((stage : ℕ) → stage ≤ stages → P stage → Q stage) → ((stage : ℕ) → stage ≤ stages → Q stage → P stage)
    → ((stage : ℕ) → stage ≤ stages → L stage → M stage) → ((stage : ℕ) → stage ≤ stages → M stage → L stage)
    → (v : Verdict) → IsVerdictBy P L stages v → IsVerdictBy Q M stages v
verdict_over P Q L M stages to back limit_to limit_back (Safe stage) is = first_over P Q stages to back stage is
verdict_over P Q L M stages to back limit_to limit_back (Limit stage) is = (none_over P Q stages to back is.0, first_over L M stages limit_to limit_back stage is.1)
verdict_over P Q L M stages to back limit_to limit_back Unproved is = (none_over P Q stages to back is.0, none_over L M stages limit_to limit_back is.1)

-- ---- the verdict

module _ (safe at_limit : ℕ → Type 0) where
  pub verdict_is_one : (stages : ℕ) (v w : Verdict) → IsVerdictBy safe at_limit stages v → IsVerdictBy safe at_limit stages w → v ≡ w
  verdict_is_one stages (Safe m) (Safe n) x y = ap Safe (first_is_one safe stages m n x y)
  verdict_is_one stages (Safe m) Unproved x y = absurd (none_or_first safe stages m y.0 x)
  verdict_is_one stages (Safe m) (Limit n) x y = absurd (none_or_first safe stages m y.0 x)
  verdict_is_one stages Unproved (Safe n) x y = absurd (none_or_first safe stages n x.0 y)
  verdict_is_one stages Unproved Unproved x y = refl
  verdict_is_one stages Unproved (Limit n) x y = absurd (none_or_first at_limit stages n x.1 y.1)
  verdict_is_one stages (Limit m) (Safe n) x y = absurd (none_or_first safe stages n x.0 y)
  verdict_is_one stages (Limit m) Unproved x y = absurd (none_or_first at_limit stages m y.1 x.1)
  verdict_is_one stages (Limit m) (Limit n) x y = ap Limit (first_is_one at_limit stages m n x.1 y.1)

  -- what is safe stays so by more stages, by the same one
  pub safe_stays : (stages more stage : ℕ) → stages ≤ more → (v : Verdict) → IsVerdictBy safe at_limit stages (Safe stage) → IsVerdictBy safe at_limit more v
      → v ≡ Safe stage
  safe_stays stages more stage le v x y = verdict_is_one more v (Safe stage) y (first_of_more safe stages more stage le x)

-- ---- tests

abbrev Holds : (ℕ → Bool) → ℕ → Type 0
Holds test stage = IsTrue (test stage)

module _ (test : ℕ → Bool) where
  -- the last of some stages is the first that passes, where no earlier one does
  last_is_first : (stages : ℕ) → HoldsOfNoStage (Holds test) stages → test (suc stages) ≡ true → IsFirstStage (Holds test) (suc stages) (suc stages)
  last_is_first stages none passes = record {
    from_one = omega arith;
    within = omega arith;
    has = passes;
    none_earlier = λ earlier one lt has. none.none earlier one (omega arith) has;
  }

  none_of_more : (stages : ℕ) → HoldsOfNoStage (Holds test) stages → test (suc stages) ≡ false → HoldsOfNoStage (Holds test) (suc stages)
  none_of_more stages none fails = record {
    none = λ stage one within has. elim (cases_lt stage (suc stages)) [
      | inl lt ↦ none.none stage one (omega arith) has
      | inr le ↦ let last : stage ≡ suc stages = omega arith in false≢true (sym fails ∙ (sym (ap test last) ∙ has))
    ];
  }

  first_or_none : (stages : ℕ) → ((stage : ℕ) × IsFirstStage (Holds test) stages stage) ⊎ HoldsOfNoStage (Holds test) stages
  first_or_none zero = inr (record { none = λ stage one within has. absurd (omega arith) })
  first_or_none (suc stages) = by (first_or_none stages) (cases_Bool (test (suc stages)))
    where
      by : ((stage : ℕ) × IsFirstStage (Holds test) stages stage) ⊎ HoldsOfNoStage (Holds test) stages → (test (suc stages) ≡ true) ⊎ (test (suc stages) ≡ false)
          → ((stage : ℕ) × IsFirstStage (Holds test) (suc stages) stage) ⊎ HoldsOfNoStage (Holds test) (suc stages)
      by (inl (stage, x)) answer = let le : stages ≤ suc stages = omega arith in inl (stage, first_of_more (Holds test) stages (suc stages) stage le x)
      by (inr none) (inl passes) = inl (suc stages, last_is_first stages none passes)
      by (inr none) (inr fails) = inr (none_of_more stages none fails)

-- there is a verdict
pub some_verdict : (safe at_limit : ℕ → Bool) (stages : ℕ) → (v : Verdict) × IsVerdictBy (Holds safe) (Holds at_limit) stages v
some_verdict safe at_limit stages = by (first_or_none safe stages) (first_or_none at_limit stages)
  where
    by : ((stage : ℕ) × IsFirstStage (Holds safe) stages stage) ⊎ HoldsOfNoStage (Holds safe) stages
        → ((stage : ℕ) × IsFirstStage (Holds at_limit) stages stage) ⊎ HoldsOfNoStage (Holds at_limit) stages
        → (v : Verdict) × IsVerdictBy (Holds safe) (Holds at_limit) stages v
    by (inl (stage, x)) limits = (Safe stage, x)
    by (inr none) (inl (stage, x)) = (Limit stage, (none, x))
    by (inr none) (inr neither) = (Unproved, (none, neither))
