-- Public contracts rest on this module.
-- The handlers of a method in the order of their starts, and how those that cover an offset are found by halves
-- (JVMS 2.10, 4.7.3).
use Rattle.std.specs.Prelude.{◌≡◌, ℕ, ◌+◌, ◌/◌, ◌<◌, ◌≤◌, Bool, ◌&&◌, nat_le, nat_lt, List, [], ◌∷◌, ◌++◌, length, map, filter, take, drop, All, Some, slice_get}
use Rattle.std.specs.List.Sorted.{IsPermutation, IsNonDecreasingBy}
use Rattle.jvm_model.specs.declared.code.Handler.{Handler}
use Rattle.flow_graph.specs.declared.handlers.Span.{Span}

-- What a handler of a place covers.
abbrev pub span_of : ℕ → Handler → Span
span_of place h = record { start = h.start; finish = h.finish; place = place }

-- What the handlers cover, the first of which has this place.
abbrev pub spans_from : ℕ → List Handler → List Span
spans_from place [] = []
spans_from place (h ∷ handlers) = span_of place h ∷ spans_from (place + 1) handlers

-- A span covers an offset from its start to before its end.
abbrev pub span_covers : ℕ → Span → Bool
span_covers offset s = nat_le s.start offset && nat_lt offset s.finish

-- The places of the handlers whose spans cover an offset.
abbrev pub places_over : ℕ → List Span → List ℕ
places_over offset spans = map (λ (s : Span). s.place) (filter (span_covers offset) spans)

-- The place in the middle of a stretch of spans.
abbrev pub middle_of : List Span → ℕ
middle_of spans = length spans / 2

-- In the middle of a stretch of spans stands an offset past which none of them goes; so it does in the stretch before the
-- middle, and in the one after it.
pub data IsTree : List Span → List ℕ → Type 0 where
  empty : (spans : List Span) (latest : List ℕ) → length spans ≡ 0 → IsTree spans latest
  halves : (spans : List Span) (latest : List ℕ) (most : ℕ) → middle_of spans < length spans → slice_get latest (middle_of spans) ≡ Some most
      → All (λ (s : Span). s.finish ≤ most) spans → IsTree (take (middle_of spans) spans) (take (middle_of spans) latest)
      → IsTree (drop (middle_of spans + 1) spans) (drop (middle_of spans + 1) latest) → IsTree spans latest

-- Such offsets, one for each span, were added to a list.
pub record AddsTree (spans : List Span) (old new : List ℕ) : Type 0 where
  pub added : List ℕ
  pub all : length added ≡ length spans
  pub tree : IsTree spans added
  pub new_is : new ≡ old ++ added

-- The spans are those of all handlers in the order of their starts, with such offsets.
pub record IsIndexed (handlers : List Handler) (spans : List Span) (latest : List ℕ) : Type 0 where
  pub all : IsPermutation (spans_from 0 handlers) spans
  pub ordered : IsNonDecreasingBy (λ (s : Span). s.start) spans
  pub tree : IsTree spans latest
