-- Public contracts rest on this module.
-- The bytes of a TOML document and its table, the bytes that are no document, and arrays of one kind of values.
use Rattle.std.specs.Prelude.{◌≡◌, ℕ, ◌<◌, ◌≤◌, List, [], ◌∷◌, length, Some, None}
use Rattle.std.specs.Str.{IsUtf8}
use Rattle.toml.specs.Data.{string, table, Items, no_items, item, Members}
use Rattle.toml.specs.Parse.{parse_document}
use Rattle.toml_tables.specs.declared.table_failure.NoDocument.{NoDocument}

-- The most bytes of a document.
abbrev pub document_limit : ℕ
document_limit = 1048576

-- The bytes are a TOML document, no larger than the limit, and this is its table.
pub record IsDocument (bytes : List ℕ) (members : Members) : Type 0 where
  pub limit : length bytes ≤ document_limit
  pub text : IsUtf8 bytes
  pub document : parse_document bytes ≡ Some members

-- The bytes are no document: they are too many, or not UTF-8, or not in the grammar of TOML.
pub data IsNoDocument (bytes : List ℕ) : Type 0 where
  too_large : document_limit < length bytes → IsNoDocument bytes
  no_text : (IsUtf8 bytes → ⊥) → IsNoDocument bytes
  no_toml : parse_document bytes ≡ None → IsNoDocument bytes

-- The cause that names this.
abbrev pub no_document : NoDocument
no_document = record {}

-- The values of an array: texts, or tables.
abbrev pub texts : List (List ℕ) → Items
texts [] = no_items
texts (text ∷ others) = item (string text) (texts others)

abbrev pub tables : List Members → Items
tables [] = no_items
tables (members ∷ others) = item (table members) (tables others)
