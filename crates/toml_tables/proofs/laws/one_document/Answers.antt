use Rattle.toml_tables.proofs.OneDocument.{document_or_none, never_both, IsDocument-same}
use Rattle.toml_tables.proofs.laws.one_document.Goals as goal

pub returns : goal.returns
returns c = record { document = IsDocument-same; not_both = never_both; either = document_or_none }
