-- This crate's own proofs alone rest on this module.
-- What the keys stand for by which the code compares.
use Rattle.std.specs.Prelude.{option_map}
use Rattle.certificate_lines.specs.LineTexts.{edge_of, holder_of}
use Rattle.certificate_lines.specs.LineOrder.{HolderKey, LineKey}
use Rattle.certificate_lines.specs.declared.holder_key.HolderWords.{HolderWords}
use Rattle.certificate_lines.specs.declared.line_key.LineWords.{LineWords}

abbrev pub told_holder : HolderWords → HolderKey
told_holder h = record { kind = h.kind; site = option_map (λ s. s.now) h.site; first = h.first; second = h.second; third = h.third }

abbrev pub told_line : LineWords → LineKey
told_line x = record {
  kind = x.kind;
  first = x.first;
  second = x.second;
  holder = option_map (λ h. holder_of h.now) x.holder;
  site = option_map (λ s. s.now) x.site;
  edge = option_map (λ e. edge_of e.now) x.edge;
  name = x.name.now;
  descriptor = x.descriptor.now;
  next = x.next.now;
}
