-- The first entry of a table of handlers that covers an instruction which is reached and takes a class that is not in the program,
-- or that there is none.
use Rattle.std.proofs.Common.{◌≡◌, ◌⊎◌, inl, inr, ℕ, ◌<◌, ◌≤◌, List, length, None, arith}
use Rattle.std.specs.List.{Contains, slice_get}
use Rattle.std.proofs.lemmas.Option.{slice_get_within}
use Rattle.jvm_model.specs.declared.code.Handler.{Handler}
use Rattle.jvm_model.specs.declared.pool.PoolEntry.{PoolEntry}
use Rattle.jvm_model.specs.Lookups.{class_name_at}
use Rattle.jvm_model.specs.Programs.{Program}
use Rattle.jvm_model.specs.Subtypes.{class_named}
use Rattle.flow_graph.specs.declared.steps.GraphStep.{GraphStep}
use Rattle.machine_laws.proofs.ProgressDecided.{contains_or_not}
use Rattle.program_laws.proofs.Choices.{OrNot, carried_over, both_or_not, held_or_not, some_or_not}
use Rattle.lowering_laws.proofs.Stubs.{absent_or_not}
use Rattle.program_laws.proofs.Bounded.{Least, equal_or_not, least_or_none, not_or_not}
use Rattle.lowering_handlers.specs.Catches.{IsUnknownEntry, TakesUnknown}
use Rattle.lowering_handlers.specs.Entries.{AreKnown, IsFirstUnknown, IsUsed}

used_or_not : (steps : List GraphStep) (place : ℕ) → OrNot (IsUsed steps place)
used_or_not steps place =
    carried_over (λ h. record { step = h.0; there = h.1; covers = h.2 }) (λ u. (u.step, u.there, u.covers))
    (some_or_not (λ (s : GraphStep). Contains s.handlers place) (λ s. contains_or_not s.handlers place) steps)

module _ (p : Program) (pool : List PoolEntry) where
  takes_or_not : (h : Handler) → OrNot (TakesUnknown p pool h)
  takes_or_not h =
      carried_over (λ t. record { typed = t.0; name = t.1.0; named = t.1.1; absent = t.1.2 }) (λ t. (t.typed, (t.name, t.named, t.absent)))
      (both_or_not (not_or_not (equal_or_not h.catch_type 0)) (λ typed. held_or_not (λ (name : List ℕ). class_named p name ≡ None) (absent_or_not p) (class_name_at pool h.catch_type)))

  module _ (handlers : List Handler) (steps : List GraphStep) where
    unknown_or_not : (place : ℕ) → OrNot (IsUnknownEntry p pool handlers place)
    unknown_or_not place =
        carried_over (λ u. record { handler = u.0; stands = u.1; takes = u.2 }) (λ u. (u.handler, u.stands, u.takes))
        (held_or_not (TakesUnknown p pool) takes_or_not (slice_get handlers place))

    abbrev Both : ℕ → Type 0
    Both place = IsUsed steps place × IsUnknownEntry p pool handlers place

    pub unknown_or_known : ((place : ℕ) × IsFirstUnknown p pool handlers steps place) ⊎ AreKnown p pool handlers steps
    unknown_or_known = by (least_or_none Both (λ place. both_or_not (used_or_not steps place) (λ used. unknown_or_not place)) (length handlers) (λ place h. slice_get_within handlers place h.1.handler h.1.stands))
      where
        past : (place earlier : ℕ) → earlier < place → place ≤ earlier → ⊥
        past place earlier less more = absurd (omega (arith, less, more))

        by : Least Both ⊎ ((place : ℕ) → Both place → ⊥) → ((place : ℕ) × IsFirstUnknown p pool handlers steps place) ⊎ AreKnown p pool handlers steps
        by (inl h) = inl (h.0, record { used = h.1.0; unknown = h.1.1; first = λ earlier less used unknown. past h.0 earlier less (h.2 earlier (used, unknown)) })
        by (inr none) = inr (λ place used unknown. none place (used, unknown))
