-- What was handed to a sink of some lines, call by call.
use Rattle.std.proofs.Common.{◌≡◌, ◌∙◌, ℕ, ◌<◌, Bool, true, false, List, [], ◌∷◌, ◌++◌, length, drop, Option, Some, None, option_map, nat_le, if◌then◌else◌, refl, sym, ap, subst, append_assoc, arith}
use Rattle.std.proofs.lemmas.Bool.{leb-true, leb-false}
use Rattle.std.proofs.lemmas.List.{append-nil, drop_all, length-drop}
use Rattle.typestate_core.proofs.Options.{at_some}
use Rattle.ts_outside.specs.Handed.{Handed, and_then}
use Rattle.typestate_core.specs.Output.{left, HandsOut, Hands, HandsInVain}

-- ---- calls that hand out lines

-- lines that come after the others are left whole
left-append : (line : List ℕ) (lines later : List (List ℕ)) (count : ℕ) → left (line ∷ lines) count ++ later ≡ left (line ∷ (lines ++ later)) count
left-append line lines later count = by (nat_le (length line) count)
  where
    by : (whole : Bool) → (if whole then lines else drop count line ∷ lines) ++ later ≡ (if whole then lines ++ later else drop count line ∷ (lines ++ later))
    by true = refl
    by false = refl

HandsOut-before : (lines : List (List ℕ)) (calls : List Handed) (rest later : List (List ℕ)) → HandsOut lines calls rest → HandsOut (lines ++ later) calls (rest ++ later)
HandsOut-before lines [] rest later h = ap (λ ls. ls ++ later) h
HandsOut-before [] (call ∷ calls) rest later h = absurd h
HandsOut-before (line ∷ lines) (call ∷ calls) rest later h = (
  h.0,
  h.1,
  subst (λ ls. HandsOut ls calls (rest ++ later)) (left-append line lines later call.count)
      (HandsOut-before (left (line ∷ lines) call.count) calls rest later h.2),
)

HandsOut-append : (lines mid rest : List (List ℕ)) (calls more : List Handed) → HandsOut lines calls mid → HandsOut mid more rest → HandsOut lines (calls ++ more) rest
HandsOut-append lines mid rest [] more h k = subst (λ ls. HandsOut ls more rest) h k
HandsOut-append [] mid rest (call ∷ calls) more h k = absurd h
HandsOut-append (line ∷ lines) mid rest (call ∷ calls) more h k =
    (h.0, h.1, HandsOut-append (left (line ∷ lines) call.count) mid rest calls more h.2 k)

-- ---- the same, where the sink tells its calls

pub Hands-none : (old : Option (List Handed)) (lines : List (List ℕ)) → Hands old old lines lines
Hands-none None lines = tt
Hands-none (Some before) lines = ([], ap Some (sym (append-nil before)), refl)

Hands-before : (old new : Option (List Handed)) (lines rest later : List (List ℕ)) → Hands old new lines rest → Hands old new (lines ++ later) (rest ++ later)
Hands-before None new lines rest later h = tt
Hands-before (Some before) new lines rest later h = (h.0, h.1, HandsOut-before lines h.0 rest later h.2)

Hands-append : (old mid new : Option (List Handed)) (lines between rest : List (List ℕ)) → Hands old mid lines between → Hands mid new between rest → Hands old new lines rest
Hands-append None mid new lines between rest h k = tt
Hands-append (Some before) mid new lines between rest h k =
    let after = at_some mid (λ (told : List Handed). (calls : List Handed) × (new ≡ Some (told ++ calls)) × HandsOut between calls rest) (before ++ h.0) h.1 k in
    (h.0 ++ after.0, after.1 ∙ ap Some (append_assoc before h.0 after.0), HandsOut-append lines between rest h.0 after.0 h.2 after.2)

one_call : (old new : Option (List Handed)) (piece : List ℕ) (count : ℕ) → 0 < count → new ≡ option_map (and_then piece count) old
    → Hands old new (piece ∷ []) (left (piece ∷ []) count)
one_call None new piece count some e = tt
one_call (Some before) new piece count some e = (record { piece = piece; count = count } ∷ [], e, (refl, some, refl))

-- ---- up to a call that fails

vain_call : (old mid new : Option (List Handed)) (lines : List (List ℕ)) (piece : List ℕ) (rest : List (List ℕ)) → Hands old mid lines (piece ∷ rest)
    → new ≡ option_map (and_then piece 0) mid → HandsInVain old new lines
vain_call None mid new lines piece rest h e = tt
vain_call (Some before) mid new lines piece rest h e = (h.0, piece, rest, e ∙ ap (option_map (and_then piece 0)) h.1, h.2)

vain-before : (old new : Option (List Handed)) (lines later : List (List ℕ)) → HandsInVain old new lines → HandsInVain old new (lines ++ later)
vain-before None new lines later h = tt
vain-before (Some before) new lines later h = (h.0, h.1, h.2 ++ later, h.3, HandsOut-before lines h.0 (h.1 ∷ h.2) later h.4)

vain-append : (old mid new : Option (List Handed)) (lines between : List (List ℕ)) → Hands old mid lines between → HandsInVain mid new between
    → HandsInVain old new lines
vain-append None mid new lines between h k = tt
vain-append (Some before) mid new lines between h k =
    let after = at_some mid (λ (told : List Handed). (calls : List Handed) × (piece : List ℕ) × (rest : List (List ℕ))
    × (new ≡ Some (and_then piece 0 (told ++ calls))) × HandsOut between calls (piece ∷ rest)) (before ++ h.0) h.1 k in (
      h.0 ++ after.0,
      after.1,
      after.2,
      after.3 ∙ ap (λ (calls : List Handed). Some (and_then after.1 0 calls)) (append_assoc before h.0 after.0),
      HandsOut-append lines between (after.1 ∷ after.2) h.0 after.0 h.2 after.4,
    )

-- ---- one line

-- What is left of one line, as lines: none, or that one.
abbrev pub pending : List ℕ → List (List ℕ)
pending [] = []
pending (b ∷ bs) = (b ∷ bs) ∷ []

pending_is : (line : List ℕ) → 0 < length line → pending line ≡ line ∷ []
pending_is [] some = absurd (omega arith)
pending_is (b ∷ bs) some = refl

left-pending : (line : List ℕ) (count : ℕ) → left (line ∷ []) count ≡ pending (drop count line)
left-pending line count = by (nat_le (length line) count) refl
  where
    by : (whole : Bool) → nat_le (length line) count ≡ whole → (if whole then [] else drop count line ∷ []) ≡ pending (drop count line)
    by true e = ap pending (sym (drop_all count line (leb-true (length line) count e)))
    by false e =
        let more : count < length line = leb-false (length line) count e in
        sym (pending_is (drop count line) (omega (arith, length-drop count line)))

-- The calls handed out a line, up to what is left of it.
pub record HandedUpTo (old new : Option (List Handed)) (line rest : List ℕ) : Type 0 where
  pub hands : Hands old new (pending line) (pending rest)

pub handed_none : (old : Option (List Handed)) (line : List ℕ) → HandedUpTo old old line line
handed_none old line = record { hands = Hands-none old (pending line) }

pub handed_more : (old mid new : Option (List Handed)) (line rest : List ℕ) (count : ℕ) → 0 < length rest → 0 < count → HandedUpTo old mid line rest
    → new ≡ option_map (and_then rest count) mid → HandedUpTo old new line (drop count rest)
handed_more old mid new line rest count some taken so_far e =
    let call = one_call mid new rest count taken e in
    let next : Hands mid new (pending rest) (pending (drop count rest)) =
    subst (λ ls. Hands mid new ls (pending (drop count rest))) (sym (pending_is rest some))
    (subst (λ ls. Hands mid new (rest ∷ []) ls) (left-pending rest count) call) in
    record { hands = Hands-append old mid new (pending line) (pending rest) (pending (drop count rest)) so_far.hands next }

pub handed_in_vain : (old mid new : Option (List Handed)) (line rest : List ℕ) → 0 < length line → 0 < length rest → HandedUpTo old mid line rest
    → new ≡ option_map (and_then rest 0) mid → HandsInVain old new (line ∷ [])
handed_in_vain old mid new line rest full some so_far e =
    subst (HandsInVain old new) (pending_is line full)
    (vain_call old mid new (pending line) rest [] (subst (Hands old mid (pending line)) (pending_is rest some) so_far.hands) e)

pub handed_all : (old new : Option (List Handed)) (line rest : List ℕ) → HandedUpTo old new line rest → length rest ≡ 0 → 0 < length line → Hands old new (line ∷ []) []
handed_all old new line [] so_far none some = subst (λ ls. Hands old new ls []) (pending_is line some) so_far.hands
handed_all old new line (b ∷ bs) so_far none some = absurd (omega arith)

-- ---- many lines

-- The lines before one were handed out, and then that one whole.
pub handed_line : (old mid new : Option (List Handed)) (lines : List (List ℕ)) (line : List ℕ) (rest later : List (List ℕ)) → rest ≡ line ∷ later
    → Hands old mid lines rest → Hands mid new (line ∷ []) [] → Hands old new lines later
handed_line old mid new lines line rest later is before one =
    Hands-append old mid new lines (line ∷ later) later (subst (Hands old mid lines) is before) (Hands-before mid new (line ∷ []) [] later one)

-- The lines before one were handed out, and then a call failed that handed what was left of that one.
pub line_in_vain : (old mid new : Option (List Handed)) (lines : List (List ℕ)) (line : List ℕ) (rest later : List (List ℕ)) → rest ≡ line ∷ later
    → Hands old mid lines rest → HandsInVain mid new (line ∷ []) → HandsInVain old new lines
line_in_vain old mid new lines line rest later is before vain =
    vain-append old mid new lines (line ∷ later) (subst (Hands old mid lines) is before) (vain-before mid new (line ∷ []) later vain)
