-- A guess is right where the bytes begin with what is guessed: edges, holders and lines.
use Rattle.std.proofs.Common.{codes, ◌≡◌, ℕ, zero, suc, ◌≤◌, true, nat_le, List, [], ◌∷◌, ◌++◌, length, length-append, decimal, refl, ap, sym, ◌∙◌, append_assoc, arith}
use Rattle.std.specs.List.{flat_map}
use Rattle.jvm_model.specs.declared.automaton.Event.{Event}
use Rattle.jvm_model.specs.declared.site.Site.{Site}
use Rattle.slot_names.specs.declared.variable.Variable.TheVariants as variables
use Rattle.site_report.specs.Printed.{printed}
use Rattle.stage_facts.specs.Plain.{fact_of}
use Rattle.edge_lines.specs.EdgeLines.{fact_words, method_word, site_words, spot_word}
use Rattle.certificate_lines.specs.declared.line.Holder.{Holder}
use Rattle.certificate_lines.specs.declared.line.Holder.TheVariants as holders
use Rattle.certificate_lines.specs.declared.line.ListedEdge.{ListedEdge}
use Rattle.certificate_lines.specs.declared.line.Line.{Line}
use Rattle.certificate_lines.specs.declared.line.Line.TheVariants as lines
use Rattle.certificate_lines.specs.LineTexts.{holder_of, holder_words, line_text, next_word}
use Rattle.line_guesses.specs.Guess.{by_second, claim_or_class, content_at, digit_count, edge_at, entry_or_end, event_at, fact_at, first_byte, holder_at, line_at, method_at, modifies_at, name_at, number_at, parameter_at, plain_at, plain_holder_at, points_to_at, site_at, site_field_at, slot_at, small_at, spot_at, states_on}
use Rattle.line_guesses.specs.Fits.{AreBytes, Fits, FitsEdge, FitsEvent, FitsHolder}
use Rattle.line_guesses.proofs.Again.{method_again, name_again, no_digit, number_again, site_again, small_again}
use Rattle.line_guesses.proofs.FactsAgain.{fact_again, newline, space, spot_again}

-- ---- edges

edge_from : (b0 b1 b2 b3 b4 b5 rest : List ℕ) (e : ListedEdge) → small_at b0 ≡ (e.stage, 32 ∷ b1) → site_at b1 ≡ (e.site, 32 ∷ b2) → method_at b2 ≡ (e.method, 32 ∷ b3)
    → fact_at b3 ≡ (e.entry, 32 ∷ b4) → spot_at b4 ≡ (e.spot, 32 ∷ b5) → fact_at b5 ≡ (e.fact, rest) → edge_at b0 ≡ (e, rest)
unfolding edge_at
edge_from b0 b1 b2 b3 b4 b5 rest e r0 r1 r2 r3 r4 r5 = rw (r0, r1, r2, r3, r4, r5) refl

edge_line_from : (b rest : List ℕ) (e : ListedEdge) → edge_at b ≡ (e, 10 ∷ rest) → line_at (codes "edge " ++ b) ≡ (lines.PathEdge e, rest)
unfolding line_at content_at by_second
edge_line_from b rest e r = rw r refl

edge_parts : (word sp stage site method entry spot fact nl rest : List ℕ)
    → (word ++ stage ++ sp ++ site ++ sp ++ (method ++ sp ++ entry ++ sp ++ spot ++ sp ++ fact) ++ nl) ++ rest
    ≡ word ++ (stage ++ (sp ++ (site ++ (sp ++ (method ++ (sp ++ (entry ++ (sp ++ (spot ++ (sp ++ (fact ++ (nl ++ rest))))))))))))
edge_parts word sp stage site method entry spot fact nl rest = simp append_assoc

edge_again : (e : ListedEdge) (rest : List ℕ) → FitsEdge e → line_at (line_text (lines.PathEdge e) ++ rest) ≡ (lines.PathEdge e, rest)
edge_again e rest is =
    let b5 = fact_words (fact_of e.fact) ++ (10 ∷ rest) in
    let b4 = spot_word e.spot ++ (32 ∷ b5) in
    let b3 = fact_words (fact_of e.entry) ++ (32 ∷ b4) in
    let b2 = method_word e.method ++ (32 ∷ b3) in
    let b1 = site_words e.site ++ (32 ∷ b2) in
    let b0 = decimal e.stage ++ (32 ∷ b1) in
    ap line_at (edge_parts (codes "edge ") (codes " ") (decimal e.stage) (site_words e.site) (method_word e.method) (fact_words (fact_of e.entry)) (spot_word e.spot)
    (fact_words (fact_of e.fact)) (10 ∷ []) rest)
    ∙ edge_line_from b0 rest e (edge_from b0 b1 b2 b3 b4 b5 (10 ∷ rest) e (small_again e.stage (32 ∷ b1) is.stage (no_digit 32 b1 refl)) (site_again e.site (32 ∷ b2) is.site refl)
    (method_again e.method (32 ∷ b3) is.method (no_digit 32 b3 refl)) (fact_again e.entry 32 b4 is.entry space) (spot_again e.spot 32 b5 is.spot space)
    (fact_again e.fact 10 rest is.fact newline))

-- ---- holders, before a space

slot_from : (b0 b1 b2 rest : List ℕ) (m offset slot : ℕ) → number_at b0 ≡ (m, 32 ∷ b1) → number_at b1 ≡ (offset, 32 ∷ b2) → number_at b2 ≡ (slot, rest)
    → holder_at (codes "v " ++ b0) ≡ (holders.Variable (variables.At (record { 0 = m }) offset slot), rest)
unfolding holder_at slot_at
slot_from b0 b1 b2 rest m offset slot r0 r1 r2 = rw (r0, r1, r2) refl

parameter_from : (b0 b1 rest : List ℕ) (m slot : ℕ) → number_at b0 ≡ (m, 32 ∷ b1) → number_at b1 ≡ (slot, rest)
    → holder_at (codes "p " ++ b0) ≡ (holders.Variable (variables.Parameter (record { 0 = m }) slot), rest)
unfolding holder_at parameter_at
parameter_from b0 b1 rest m slot r0 r1 = rw (r0, r1) refl

field_from : (b0 b1 rest : List ℕ) (s : Site) (f : ℕ) → site_at b0 ≡ (s, 32 ∷ b1) → number_at b1 ≡ (f, rest) → holder_at (codes "f " ++ b0) ≡ (holders.Field s (record { 0 = f }), rest)
unfolding holder_at site_field_at
field_from b0 b1 rest s f r0 r1 = rw (r0, r1) refl

elements_from : (b0 rest : List ℕ) (s : Site) → site_at b0 ≡ (s, rest) → holder_at (codes "a " ++ b0) ≡ (holders.Elements s, rest)
unfolding holder_at
elements_from b0 rest s r0 = rw r0 refl

three_words : (word a b c rest : List ℕ) → (word ++ a ++ codes " " ++ b ++ codes " " ++ c) ++ rest ≡ word ++ (a ++ (32 ∷ (b ++ (32 ∷ (c ++ rest)))))
three_words word a b c rest = simp append_assoc

two_words : (word a b rest : List ℕ) → (word ++ a ++ codes " " ++ b) ++ rest ≡ word ++ (a ++ (32 ∷ (b ++ rest)))
two_words word a b rest = simp append_assoc

holder_again : (h : Holder) (more : List ℕ) → FitsHolder h → holder_at (holder_words (holder_of h) ++ (32 ∷ more)) ≡ (h, 32 ∷ more)
unfolding holder_at plain_holder_at
holder_again (holders.Variable (variables.At m offset slot)) more is =
    let rest = 32 ∷ more in
    let b2 = decimal slot ++ rest in
    let b1 = decimal offset ++ (32 ∷ b2) in
    ap holder_at (three_words (codes "v ") (decimal m.0) (decimal offset) (decimal slot) rest)
    ∙ slot_from (decimal m.0 ++ (32 ∷ b1)) b1 b2 rest m.0 offset slot (number_again m.0 (32 ∷ b1) is.0 (no_digit 32 b1 refl)) (number_again offset (32 ∷ b2) is.1.0 (no_digit 32 b2 refl))
    (number_again slot rest is.1.1 (no_digit 32 more refl))
holder_again (holders.Variable (variables.Parameter m slot)) more is =
    let rest = 32 ∷ more in
    let b1 = decimal slot ++ rest in
    ap holder_at (two_words (codes "p ") (decimal m.0) (decimal slot) rest)
    ∙ parameter_from (decimal m.0 ++ (32 ∷ b1)) b1 rest m.0 slot (number_again m.0 (32 ∷ b1) is.0 (no_digit 32 b1 refl)) (number_again slot rest is.1 (no_digit 32 more refl))
holder_again (holders.Field s f) more is =
    let rest = 32 ∷ more in
    let b1 = decimal f.0 ++ rest in
    ap holder_at (two_words (codes "f ") (site_words s) (decimal f.0) rest)
    ∙ field_from (site_words s ++ (32 ∷ b1)) b1 rest s f.0 (site_again s (32 ∷ b1) is.0 refl) (number_again f.0 rest is.1 (no_digit 32 more refl))
holder_again (holders.Elements s) more is =
    ap holder_at (append_assoc (codes "a ") (site_words s) (32 ∷ more)) ∙ elements_from (site_words s ++ (32 ∷ more)) (32 ∷ more) s (site_again s (32 ∷ more) is refl)
holder_again (holders.Static f) more is = rw (number_again f.0 (32 ∷ more) is (no_digit 32 more refl)) refl
holder_again holders.Kept more is = refl
holder_again (holders.Returned m) more is = rw (number_again m.0 (32 ∷ more) is (no_digit 32 more refl)) refl
holder_again (holders.Thrown m) more is = rw (number_again m.0 (32 ∷ more) is (no_digit 32 more refl)) refl

-- ---- events

append_none : (xs : List ℕ) → xs ++ [] ≡ xs
append_none [] = refl
append_none (x ∷ xs) = ap (λ (ys : List ℕ). x ∷ ys) (append_none xs)

one_state : (k q : ℕ) (states bytes rest : List ℕ) → small_at bytes ≡ (q, rest) → states_on (suc k) states (32 ∷ bytes) ≡ states_on k (states ++ q ∷ []) rest
unfolding states_on
one_state k q states bytes rest r = rw r refl

states_end : (k : ℕ) (states rest : List ℕ) → states_on k states (10 ∷ rest) ≡ (states, 10 ∷ rest)
unfolding states_on
states_end zero states rest = refl
states_end (suc k) states rest = refl

next_digit : (qs rest : List ℕ) → digit_count (flat_map next_word qs ++ (10 ∷ rest)) ≡ 0
next_digit [] rest = no_digit 10 rest refl
next_digit (q ∷ qs) rest = no_digit 32 _ refl

next_break : (qs rest : List ℕ) → nat_le (first_byte (flat_map next_word qs ++ (10 ∷ rest))) 32 ≡ true
next_break [] rest = refl
next_break (q ∷ qs) rest = refl

states_again : (k : ℕ) (states more rest : List ℕ) → length more ≤ k → AreBytes more → states_on k states (flat_map next_word more ++ (10 ∷ rest)) ≡ (states ++ more, 10 ∷ rest)
states_again k states [] rest l is = states_end k states rest ∙ ap (λ (x : List ℕ). (x, 10 ∷ rest)) (sym (append_none states))
states_again zero states (q ∷ qs) rest l is = absurd (omega (arith, l))
states_again (suc k) states (q ∷ qs) rest l is =
    let after = flat_map next_word qs ++ (10 ∷ rest) in
    let whole : flat_map next_word (q ∷ qs) ++ (10 ∷ rest) ≡ 32 ∷ (decimal q ++ after) = ap (λ (x : List ℕ). 32 ∷ x) (append_assoc (decimal q) (flat_map next_word qs) (10 ∷ rest)) in
    ap (λ (x : List ℕ). states_on (suc k) states x) whole
    ∙ one_state k q states (decimal q ++ after) after (small_again q after is.0 (next_digit qs rest))
    ∙ states_again k (states ++ q ∷ []) qs rest (omega (arith, l)) is.1 ∙ ap (λ (x : List ℕ). (x, 10 ∷ rest)) (append_assoc states (q ∷ []) qs)

next_within : (qs : List ℕ) → length qs ≤ length (flat_map next_word qs)
next_within [] = omega arith
next_within (q ∷ qs) =
    let rest = next_within qs in
    let sum = length-append (decimal q) (flat_map next_word qs) in
    omega (arith, rest, sum)

event_from : (b0 b1 b2 rest : List ℕ) (e : Event) → name_at b0 ≡ (e.name, 32 ∷ b1) → name_at b1 ≡ (e.descriptor, b2) → states_on (length b2) [] b2 ≡ (e.next, rest)
    → event_at b0 ≡ (e, rest)
unfolding event_at
event_from b0 b1 b2 rest e r0 r1 r2 = rw (r0, r1, r2) refl

event_line_from : (b rest : List ℕ) (e : Event) → event_at b ≡ (e, 10 ∷ rest) → line_at (codes "event " ++ b) ≡ (lines.Event e, rest)
unfolding line_at content_at by_second
event_line_from b rest e r = rw r refl

event_parts : (name descriptor next rest : List ℕ) → (codes "event " ++ (name ++ codes " " ++ descriptor ++ next) ++ 10 ∷ []) ++ rest
    ≡ codes "event " ++ (name ++ (32 ∷ (descriptor ++ (next ++ (10 ∷ rest)))))
event_parts name descriptor next rest = simp append_assoc

event_again : (e : Event) (rest : List ℕ) → FitsEvent e → line_at (line_text (lines.Event e) ++ rest) ≡ (lines.Event e, rest)
event_again e rest is =
    let b2 = flat_map next_word e.next ++ (10 ∷ rest) in
    let b1 = printed e.descriptor ++ b2 in
    let b0 = printed e.name ++ (32 ∷ b1) in
    let within = next_within e.next in
    let sum = length-append (flat_map next_word e.next) (10 ∷ rest) in
    ap line_at (event_parts (printed e.name) (printed e.descriptor) (flat_map next_word e.next) rest)
    ∙ event_line_from b0 rest e (event_from b0 b1 b2 (10 ∷ rest) e (name_again e.name (32 ∷ b1) is.name refl) (name_again e.descriptor b2 is.descriptor (next_break e.next rest))
    (states_again (length b2) [] e.next rest (omega (arith, within, sum)) is.next))

-- ---- other lines

class_from : (b rest name : List ℕ) → name_at b ≡ (name, 10 ∷ rest) → line_at (codes "class " ++ b) ≡ (lines.Class name, rest)
unfolding line_at content_at claim_or_class
class_from b rest name r = rw r refl

state_from : (b rest name : List ℕ) → name_at b ≡ (name, 10 ∷ rest) → line_at (codes "state " ++ b) ≡ (lines.State name, rest)
unfolding line_at content_at
state_from b rest name r = rw r refl

initial_from : (b rest : List ℕ) (q : ℕ) → small_at b ≡ (q, 10 ∷ rest) → line_at (codes "initial " ++ b) ≡ (lines.Initial q, rest)
unfolding line_at content_at plain_at
initial_from b rest q r = rw r refl

error_from : (b rest : List ℕ) (q : ℕ) → small_at b ≡ (q, 10 ∷ rest) → line_at (codes "error " ++ b) ≡ (lines.Error q, rest)
unfolding line_at content_at by_second
error_from b rest q r = rw r refl

entry_from : (b rest : List ℕ) (m : ℕ) → number_at b ≡ (m, 10 ∷ rest) → line_at (codes "entry " ++ b) ≡ (lines.Entry (record { 0 = m }), rest)
unfolding line_at content_at by_second entry_or_end
entry_from b rest m r = rw r refl

depth_from : (b rest : List ℕ) (k : ℕ) → small_at b ≡ (k, 10 ∷ rest) → line_at (codes "depth " ++ b) ≡ (lines.Depth k, rest)
unfolding line_at content_at plain_at
depth_from b rest k r = rw r refl

reached_from : (b rest : List ℕ) (m : ℕ) → number_at b ≡ (m, 10 ∷ rest) → line_at (codes "reached " ++ b) ≡ (lines.Reached (record { 0 = m }), rest)
unfolding line_at content_at plain_at
reached_from b rest m r = rw r refl

points_to_from : (b0 b1 rest : List ℕ) (h : Holder) (s : Site) → holder_at b0 ≡ (h, 32 ∷ b1) → site_at b1 ≡ (s, 10 ∷ rest) → line_at (codes "pts " ++ b0) ≡ (lines.PointsTo h s, rest)
unfolding line_at content_at points_to_at
points_to_from b0 b1 rest h s r0 r1 = rw (r0, r1) refl

modifies_from : (b0 b1 rest : List ℕ) (m f : ℕ) → number_at b0 ≡ (m, 32 ∷ b1) → number_at b1 ≡ (f, 10 ∷ rest)
    → line_at (codes "mods " ++ b0) ≡ (lines.Modifies (record { 0 = m }) (record { 0 = f }), rest)
unfolding line_at content_at plain_at modifies_at
modifies_from b0 b1 rest m f r0 r1 = rw (r0, r1) refl

claim_from : (b0 b1 rest : List ℕ) (stage : ℕ) (s : Site) → small_at b0 ≡ (stage, 32 ∷ b1) → site_at b1 ≡ (s, 10 ∷ rest) → line_at (codes "claim " ++ b0) ≡ (lines.Claim stage s, rest)
unfolding line_at content_at claim_or_class
claim_from b0 b1 rest stage s r0 r1 = rw (r0, r1) refl

one_word : (word a rest : List ℕ) → (word ++ a ++ 10 ∷ []) ++ rest ≡ word ++ (a ++ (10 ∷ rest))
one_word word a rest = simp append_assoc

word_pair : (word a b rest : List ℕ) → (word ++ a ++ codes " " ++ b ++ 10 ∷ []) ++ rest ≡ word ++ (a ++ (32 ∷ (b ++ (10 ∷ rest))))
word_pair word a b rest = simp append_assoc

pub line_again : (x : Line) (rest : List ℕ) → Fits x → line_at (line_text x ++ rest) ≡ (x, rest)
unfolding line_at content_at by_second entry_or_end plain_at
line_again lines.Version rest is = refl
line_again (lines.Class name) rest is =
    ap line_at (one_word (codes "class ") (printed name) rest) ∙ class_from (printed name ++ (10 ∷ rest)) rest name (name_again name (10 ∷ rest) is refl)
line_again (lines.State name) rest is =
    ap line_at (one_word (codes "state ") (printed name) rest) ∙ state_from (printed name ++ (10 ∷ rest)) rest name (name_again name (10 ∷ rest) is refl)
line_again (lines.Initial q) rest is =
    ap line_at (one_word (codes "initial ") (decimal q) rest) ∙ initial_from (decimal q ++ (10 ∷ rest)) rest q (small_again q (10 ∷ rest) is (no_digit 10 rest refl))
line_again (lines.Error q) rest is =
    ap line_at (one_word (codes "error ") (decimal q) rest) ∙ error_from (decimal q ++ (10 ∷ rest)) rest q (small_again q (10 ∷ rest) is (no_digit 10 rest refl))
line_again (lines.Event e) rest is = event_again e rest is
line_again (lines.Entry m) rest is =
    ap line_at (one_word (codes "entry ") (decimal m.0) rest) ∙ entry_from (decimal m.0 ++ (10 ∷ rest)) rest m.0 (number_again m.0 (10 ∷ rest) is (no_digit 10 rest refl))
line_again (lines.Depth k) rest is =
    ap line_at (one_word (codes "depth ") (decimal k) rest) ∙ depth_from (decimal k ++ (10 ∷ rest)) rest k (small_again k (10 ∷ rest) is (no_digit 10 rest refl))
line_again (lines.Reached m) rest is =
    ap line_at (one_word (codes "reached ") (decimal m.0) rest) ∙ reached_from (decimal m.0 ++ (10 ∷ rest)) rest m.0 (number_again m.0 (10 ∷ rest) is (no_digit 10 rest refl))
line_again (lines.PointsTo h s) rest is =
    let b1 = site_words s ++ (10 ∷ rest) in
    ap line_at (word_pair (codes "pts ") (holder_words (holder_of h)) (site_words s) rest)
    ∙ points_to_from (holder_words (holder_of h) ++ (32 ∷ b1)) b1 rest h s (holder_again h b1 is.0) (site_again s (10 ∷ rest) is.1 refl)
line_again (lines.Modifies m f) rest is =
    let b1 = decimal f.0 ++ (10 ∷ rest) in
    ap line_at (word_pair (codes "mods ") (decimal m.0) (decimal f.0) rest)
    ∙ modifies_from (decimal m.0 ++ (32 ∷ b1)) b1 rest m.0 f.0 (number_again m.0 (32 ∷ b1) is.0 (no_digit 32 b1 refl)) (number_again f.0 (10 ∷ rest) is.1 (no_digit 10 rest refl))
line_again (lines.Claim stage s) rest is =
    let b1 = site_words s ++ (10 ∷ rest) in
    ap line_at (word_pair (codes "claim ") (decimal stage) (site_words s) rest)
    ∙ claim_from (decimal stage ++ (32 ∷ b1)) b1 rest stage s (small_again stage (32 ∷ b1) is.0 (no_digit 32 b1 refl)) (site_again s (10 ∷ rest) is.1 refl)
line_again (lines.PathEdge e) rest is = edge_again e rest is
line_again lines.End rest is = refl

-- no line begins another
pub one_line : (x y : Line) (r s : List ℕ) → Fits x → Fits y → line_text x ++ r ≡ line_text y ++ s → (x ≡ y) × (r ≡ s)
one_line x y r s is also e =
    let same : (x, r) ≡ (y, s) = sym (line_again x r is) ∙ ap line_at e ∙ line_again y s also in
    (ap (λ (p : Line × List ℕ). p.0) same, ap (λ (p : Line × List ℕ). p.1) same)
