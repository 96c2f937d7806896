use Rattle.std.proofs.Common.{◌≡◌, ℕ, ◌+◌, ◌<◌, List, [], ◌∷◌, get_or, sym, ap, ◌∙◌, arith}
use Rattle.std.proofs.lemmas.Result.{IfOk-weaker}
use Rattle.bit_rows.specs.Words.{word_at}
use Rattle.bit_rows.specs.SetWords.{new_word}
use Rattle.bit_rows.proofs.Gathered.{gathered}
use Rattle.bit_rows.proofs.new_numbers.new_numbers.Goals as goal

pub returns-then-end-low : goal.returns-then-end-low
returns-then-end-low c =
    let held = c.args.held.now in
    let offered = c.args.offered.now in
    let mask = c.args.mask.now in
    let low = c.first_new-low.result in
    let end = c.end_of_new-end.result in
    let one : low + 1 ≡ end = sym c.if-end-low.true in
    let each : (k : ℕ) → low + k < end → get_or (c.new_word.result ∷ []) k 0 ≡ new_word held offered mask (low + k) =
    λ k l. let first : k ≡ 0 = omega arith in
    let e : low ≡ low + k = omega arith in
    ap (λ (i : ℕ). get_or (c.new_word.result ∷ []) i 0) first ∙ (c.new_word.ensures ∙ ap (λ (p : ℕ). new_word held offered mask p) e) in
    IfOk-weaker c.one_word.result _ _
    (λ set words place. words place ∙ gathered held offered mask c.span-first.result.0 c.span-first.result.1 c.span-first.ensures.before c.span-first.ensures.behind
    low end (c.new_word.result ∷ []) c.first_new-low.ensures.none c.end_of_new-end.ensures.none one each place)
    c.one_word.ensures

pub returns : goal.returns
returns c place =
    let held = c.args.held.now in
    let offered = c.args.offered.now in
    let mask = c.args.mask.now in
    let low = c.first_new-low.result in
    let end = c.end_of_new-end.result in
    let words = c.in_ok-words.words.items in
    ap (λ (f : ℕ). word_at f c.new.result.words.items place) c.new.ensures.first
    ∙ (ap (λ (ws : List ℕ). word_at low ws place) c.new.ensures.words
    ∙ gathered held offered mask c.span-first.result.0 c.span-first.result.1 c.span-first.ensures.before c.span-first.ensures.behind
    low end words c.first_new-low.ensures.none c.end_of_new-end.ensures.none c.in_ok-words.ensures.count c.in_ok-words.ensures.words place)
