-- The places of the handlers that cover an offset, in the order of their spans and in that of their table.
use Rattle.std.proofs.Common.{◌≡◌, ℕ, ◌+◌, cond, eqb, Bool, true, false, ◌&&◌, List, [], ◌∷◌, map, sum_by, refl, sym, ap, ◌∙◌, arith}
use Rattle.std.specs.List.{filter}
use Rattle.std.specs.List.Sorted.{IsPermutation, IsNonDecreasing}
use Rattle.std.proofs.lemmas.List.Sorted.{sum_by-IsPermutation}
use Rattle.std.proofs.lemmas.List.Sums.{sum_by-cons}
use Rattle.jvm_model.specs.declared.code.Handler.{Handler}
use Rattle.flow_graph.specs.declared.handlers.Span.{Span}
use Rattle.flow_graph.specs.Flows.{covers, covering_from, covering}
use Rattle.flow_graph.specs.HandlerSpans.{span_of, spans_from, span_covers, places_over}
use Rattle.flow_graph.proofs.InOrder.{one_if, count_of, Ascends, from_less, sorted_is}

-- the spans in the order of the table have the places of the table
places_from : (place offset : ℕ) (handlers : List Handler) → places_over offset (spans_from place handlers) ≡ covering_from place offset handlers
places_from place offset [] = refl
places_from place offset (h ∷ handlers) = by (covers offset h) (places_from (place + 1) offset handlers)
  where
    by : (b : Bool) → places_over offset (spans_from (place + 1) handlers) ≡ covering_from (place + 1) offset handlers
        → map (λ (s : Span). s.place) (cond b (span_of place h ∷ filter (span_covers offset) (spans_from (place + 1) handlers)) (filter (span_covers offset) (spans_from (place + 1) handlers)))
        ≡ cond b (place ∷ covering_from (place + 1) offset handlers) (covering_from (place + 1) offset handlers)
    by true next = ap (λ (ps : List ℕ). place ∷ ps) next
    by false next = next

rises_from : (place offset : ℕ) (handlers : List Handler) → Ascends place (covering_from place offset handlers)
rises_from place offset [] = tt
rises_from place offset (h ∷ handlers) = by (covers offset h) (from_less place (place + 1) (covering_from (place + 1) offset handlers) (omega arith) (rises_from (place + 1) offset handlers))
  where
    by : (b : Bool) → Ascends place (covering_from (place + 1) offset handlers)
        → Ascends place (cond b (place ∷ covering_from (place + 1) offset handlers) (covering_from (place + 1) offset handlers))
    by true next = (omega arith, next)
    by false next = next

-- how often a place is found, as a sum over the spans
abbrev found_at : ℕ → ℕ → Span → ℕ
found_at offset q s = one_if (span_covers offset s && eqb s.place q)

counted : (offset q : ℕ) (spans : List Span) → count_of q (places_over offset spans) ≡ sum_by (found_at offset q) spans
counted offset q [] = refl
counted offset q (s ∷ spans) = by (span_covers offset s) (counted offset q spans) ∙ sym (sum_by-cons (found_at offset q) s spans)
  where
    by : (b : Bool) → count_of q (places_over offset spans) ≡ sum_by (found_at offset q) spans
        → count_of q (map (λ (t : Span). t.place) (cond b (s ∷ filter (span_covers offset) spans) (filter (span_covers offset) spans))) ≡ one_if (b && eqb s.place q) + sum_by (found_at offset q) spans
    by true next = sum_by-cons (λ (m : ℕ). one_if (eqb m q)) s.place (places_over offset spans) ∙ ap (λ (n : ℕ). one_if (eqb s.place q) + n) next
    by false next = omega (arith, next)

-- the places of the spans in any order, sorted, are those of the table
pub sorted_places : (handlers : List Handler) (spans : List Span) (offset : ℕ) (sorted : List ℕ) → IsPermutation (spans_from 0 handlers) spans
    → IsPermutation (places_over offset spans) sorted → IsNonDecreasing sorted → sorted ≡ covering handlers offset
sorted_places handlers spans offset sorted moved moved2 up =
    sorted_is (places_over offset spans) sorted (covering handlers offset) moved2 up (rises_from 0 offset handlers)
    (λ q. counted offset q spans ∙ sum_by-IsPermutation (found_at offset q) (spans_from 0 handlers) spans moved ∙ sym (counted offset q (spans_from 0 handlers))
    ∙ ap (count_of q) (places_from 0 offset handlers))
