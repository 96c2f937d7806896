-- `==` on the keys of sets tells each two apart.
use Rattle.std.proofs.Common.{Bool, eqb}
use Rattle.std.proofs.lemmas.Bool.{and_parts}
use Rattle.std.proofs.lemmas.Map.Views.{exact_unsigned_eq}
use Rattle.jvm_model.specs.declared.number.MethodNo.{MethodNo}
use Rattle.jvm_model.specs.contracts.number.MethodNoPartialEq.TheImpl as method_block
use Rattle.jvm_model.specs.contracts.number.MethodNoEq.TheImpl.Laws as method_laws
use Rattle.jvm_model.specs.declared.number.SiteNo.{SiteNo}
use Rattle.jvm_model.specs.contracts.number.SiteNoPartialEq.TheImpl as site_block
use Rattle.jvm_model.specs.contracts.number.SiteNoEq.TheImpl.Laws as site_laws
use Rattle.op_model.specs.declared.node.NodeRef.{NodeRef}
use Rattle.ground.specs.declared.lists.FieldWrite.{FieldWrite}
use Rattle.op_model.specs.contracts.node.NodeRefPartialEq.TheImpl as call_block
use Rattle.op_model.specs.contracts.node.NodeRefEq.TheImpl.Laws as call_laws
use Rattle.ground.specs.contracts.lists.FieldWritePartialEq.TheImpl as write_block
use Rattle.ground.specs.contracts.lists.FieldWriteEq.TheImpl.Laws as write_laws
use Rattle.points_to_rules.proofs.ExactParts.{same_maybe, exact_maybe}
use Rattle.ground.proofs.KeySets.{Tells}

abbrev pub same_methods : MethodNo → MethodNo → Bool
same_methods = (method_block.ghosts).eq

pub tells_methods : Tells same_methods
tells_methods = record {
  itself = (method_laws.laws-law).refl;
  exact = λ a b h. let numbers = exact_unsigned_eq a.0 b.0 h in (λ i. record { 0 = numbers i });
}

abbrev pub same_sites : SiteNo → SiteNo → Bool
same_sites = (site_block.ghosts).eq

pub tells_sites : Tells same_sites
tells_sites = record {
  itself = (site_laws.laws-law).refl;
  exact = λ a b h. let numbers = exact_unsigned_eq a.0 b.0 h in (λ i. record { 0 = numbers i });
}

abbrev pub same_writes : FieldWrite → FieldWrite → Bool
same_writes = (write_block.ghosts).eq

pub tells_writes : Tells same_writes
tells_writes = record {
  itself = (write_laws.laws-law).refl;
  exact = λ a b h.
      let parts = and_parts (eqb a.method.0 b.method.0) (eqb a.field.0 b.field.0) h in
      let methods = exact_unsigned_eq a.method.0 b.method.0 parts.0 in
      let fields = exact_unsigned_eq a.field.0 b.field.0 parts.1 in
      (λ i. record { method = record { 0 = methods i }; field = record { 0 = fields i } });
}

abbrev pub same_calls : NodeRef → NodeRef → Bool
same_calls = (call_block.ghosts).eq

pub tells_calls : Tells same_calls
tells_calls = record {
  itself = (call_laws.laws-law).refl;
  exact = λ a b h.
      let parts = and_parts (same_maybe a.method b.method) (eqb a.offset b.offset) h in
      let methods = exact_maybe a.method b.method parts.0 in
      let offsets = exact_unsigned_eq a.offset b.offset parts.1 in
      (λ i. record { method = methods i; offset = offsets i });
}
