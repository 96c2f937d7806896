-- The verdict by the stages that were tried so far.
use Rattle.std.proofs.Common.{◌≡◌, ◌≤◌, ◌+◌, ◌⊎◌, inl, inr, ℕ, sym, subst, arith}
use Rattle.std.proofs.lemmas.Bool.{cases_lt}
use Rattle.site_report.specs.declared.verdict.Verdict.{Verdict}
use Rattle.site_report.specs.declared.verdict.Verdict.TheVariants.{Safe, Unproved, Limit}
use Rattle.report_spec.specs.Verdicts.{HoldsOfNoStage, IsFirstStage, IsVerdictBy}
use Rattle.stage_verdicts.specs.LaterVerdicts.{IsLimited}

-- a stage up to the next one is the next one, or one up to this
last_or_before : (n stage : ℕ) → stage ≤ n + 1 → (stage ≡ n + 1) ⊎ (stage ≤ n)
last_or_before n stage within = elim (cases_lt n stage) [ inl more ↦ inl (omega (arith, more, within)) | inr less ↦ inr less ]

module _ (safe limit : ℕ → Type 0) where
  -- The verdict by the stages up to this one, none of which proves the site safe.
  abbrev pub IsSoFar : ℕ → Verdict → Type 0
  IsSoFar n (Safe stage) = ⊥
  IsSoFar n (Limit stage) = HoldsOfNoStage safe n × IsFirstStage limit n stage
  IsSoFar n Unproved = HoldsOfNoStage safe n × HoldsOfNoStage limit n

  only_one : (P : ℕ → Type 0) → (P 1 → ⊥) → HoldsOfNoStage P 1
  only_one P never = record { none = λ stage from within has. never (subst P (omega (arith, from, within)) has) }

  pub first_so_far : (safe 1 → ⊥) → (limit 1 → ⊥) → IsSoFar 1 Unproved
  first_so_far one other = (only_one safe one, only_one limit other)

  none_more : (P : ℕ → Type 0) (n : ℕ) → HoldsOfNoStage P n → (P (n + 1) → ⊥) → HoldsOfNoStage P (n + 1)
  none_more P n before never = record {
    none = λ stage from within has.
        elim (last_or_before n stage within) [ inl last ↦ never (subst P last has) | inr less ↦ before.none stage from less has ];
  }

  first_more : (n stage : ℕ) → IsFirstStage limit n stage → IsFirstStage limit (n + 1) stage
  first_more n stage is =
      let within = is.within in
      record { from_one = is.from_one; within = omega (arith, within); has = is.has; none_earlier = is.none_earlier }

  first_now : (n : ℕ) → HoldsOfNoStage limit n → limit (n + 1) → IsFirstStage limit (n + 1) (n + 1)
  first_now n before now = record {
    from_one = omega arith;
    within = omega arith;
    has = now;
    none_earlier = λ earlier from less has. before.none earlier from (omega (arith, less)) has;
  }

  pub limit_so_far : (n : ℕ) (v w : Verdict) → IsSoFar n v → (safe (n + 1) → ⊥) → limit (n + 1) → IsLimited v (n + 1) w → IsSoFar (n + 1) w
  limit_so_far n (Safe k) w is never now next = absurd is
  limit_so_far n (Limit k) w is never now next = subst (IsSoFar (n + 1)) (sym next) (none_more safe n is.0 never, first_more n k is.1)
  limit_so_far n Unproved w is never now next = subst (IsSoFar (n + 1)) (sym next) (none_more safe n is.0 never, first_now n is.1 now)

  pub neither_so_far : (n : ℕ) (v : Verdict) → IsSoFar n v → (safe (n + 1) → ⊥) → (limit (n + 1) → ⊥) → IsSoFar (n + 1) v
  neither_so_far n (Safe k) is never none = absurd is
  neither_so_far n (Limit k) is never none = (none_more safe n is.0 never, first_more n k is.1)
  neither_so_far n Unproved is never none = (none_more safe n is.0 never, none_more limit n is.1 none)

  none_before : (n : ℕ) (v : Verdict) → IsSoFar n v → HoldsOfNoStage safe n
  none_before n (Safe k) is = absurd is
  none_before n (Limit k) is = is.0
  none_before n Unproved is = is.0

  pub safe_at_last : (n stages : ℕ) (v : Verdict) → IsSoFar n v → safe (n + 1) → n + 1 ≤ stages → IsVerdictBy safe limit stages (Safe (n + 1))
  safe_at_last n stages v is now within = record {
    from_one = omega arith;
    within = within;
    has = now;
    none_earlier = λ earlier from less has. (none_before n v is).none earlier from (omega (arith, less)) has;
  }

  pub last_so_far : (n : ℕ) (v : Verdict) → IsSoFar n v → IsVerdictBy safe limit n v
  last_so_far n (Safe k) is = absurd is
  last_so_far n (Limit k) is = is
  last_so_far n Unproved is = is
