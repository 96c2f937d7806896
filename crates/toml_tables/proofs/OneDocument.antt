-- Bytes are one document, or none.
use Rattle.std.proofs.Common.{◌≡◌, ℕ, ◌≤◌, List, length, Option, Some, None, ◌⊎◌, inl, inr, arith, refl, sym, ◌∙◌}
use Rattle.std.specs.Str.{IsUtf8, is_utf8}
use Rattle.std.proofs.lemmas.Bool.{cases_Bool, cases_lt, false≢true}
use Rattle.std.proofs.lemmas.Option.{same_Some, none-some}
use Rattle.std.proofs.lemmas.Str.{IsUtf8-from_is_utf8, is_utf8-from_IsUtf8}
use Rattle.toml.specs.Data.{Members}
use Rattle.toml.specs.Parse.{parse_document}
use Rattle.toml_tables.specs.Documents.{document_limit, IsDocument, IsNoDocument, too_large, no_text, no_toml}

pub IsDocument-same : (bytes : List ℕ) (ms ns : Members) → IsDocument bytes ms → IsDocument bytes ns → ms ≡ ns
IsDocument-same bytes ms ns d e = same_Some ms ns (sym d.document ∙ e.document)

-- bytes that are a document are not none
pub never_both : (bytes : List ℕ) (ms : Members) → IsDocument bytes ms → IsNoDocument bytes → ⊥
never_both bytes ms d (too_large past) = absurd (let h = d.limit in omega arith)
never_both bytes ms d (no_text bad) = bad d.text
never_both bytes ms d (no_toml e) = none-some ms (sym e ∙ d.document)

-- bytes that are UTF-8 only where they are no document
pub no_document : (bytes : List ℕ) → (IsUtf8 bytes → parse_document bytes ≡ None) → IsNoDocument bytes
no_document bytes h =
    elim (cases_Bool (is_utf8 bytes)) [
      | inl text ↦ no_toml (h (IsUtf8-from_is_utf8 bytes text))
      | inr not_text ↦ no_text (λ u. false≢true (sym not_text ∙ is_utf8-from_IsUtf8 bytes u))
    ]

-- bytes are the one or the other
abbrev Either : List ℕ → Type 0
Either bytes = ((members : Members) × IsDocument bytes members) ⊎ IsNoDocument bytes

by_grammar : (bytes : List ℕ) (o : Option Members) → length bytes ≤ document_limit → IsUtf8 bytes → parse_document bytes ≡ o → Either bytes
by_grammar bytes None limit text e = inr (no_toml e)
by_grammar bytes (Some ms) limit text e = inl (ms, record { limit = limit; text = text; document = e })

by_text : (bytes : List ℕ) → length bytes ≤ document_limit → Either bytes
by_text bytes limit =
    elim (cases_Bool (is_utf8 bytes)) [
      | inl text ↦ by_grammar bytes (parse_document bytes) limit (IsUtf8-from_is_utf8 bytes text) refl
      | inr not_text ↦ inr (no_text (λ u. false≢true (sym not_text ∙ is_utf8-from_IsUtf8 bytes u)))
    ]

pub document_or_none : (bytes : List ℕ) → ((members : Members) × IsDocument bytes members) ⊎ IsNoDocument bytes
document_or_none bytes =
    elim (cases_lt document_limit (length bytes)) [
      | inl past ↦ inr (too_large past)
      | inr limit ↦ by_text bytes limit
    ]
