-- Public contracts rest on this module.
-- The body of a Code attribute (JVMS 4.7.3).
use Rattle.std.specs.Prelude.{◌≡◌, ℕ, ◌<◌, ◌^◌, List, [], ◌∷◌, ◌++◌, length, filter, All}
use Rattle.jvm_model.specs.declared.class_file.ClassFile.{ClassFile}
use Rattle.jvm_model.specs.declared.class_file.Member.{Member}
use Rattle.jvm_model.specs.declared.class_file.Attribute.{Attribute}
use Rattle.jvm_model.specs.declared.code.Handler.{Handler}
use Rattle.jvm_model.specs.Spelling.{u2, u4, table, attribute, AttributeFits}
use Rattle.jvm_model.specs.Soundness.{is_code}

-- What stands in the body: two limits, the code, the handlers in their order, and attributes.
pub record CodeBody : Type 0 where
  pub max_stack : ℕ
  pub max_locals : ℕ
  pub bytes : List ℕ
  pub handlers : List Handler
  pub attributes : List Attribute

abbrev pub handler : Handler → List ℕ
handler h = u2 h.start ++ u2 h.finish ++ u2 h.target ++ u2 h.catch_type

abbrev pub spell_code : CodeBody → List ℕ
spell_code c = u2 c.max_stack ++ u2 c.max_locals ++ u4 (length c.bytes) ++ c.bytes ++ table handler c.handlers ++ table attribute c.attributes

pub record HandlerFits (h : Handler) : Type 0 where
  pub start : h.start < 2 ^ 16
  pub finish : h.finish < 2 ^ 16
  pub target : h.target < 2 ^ 16
  pub catch_type : h.catch_type < 2 ^ 16

-- The bytes are this body: each number fits its field, and each list its count.
pub record IsCode (bytes : List ℕ) (c : CodeBody) : Type 0 where
  pub max_stack : c.max_stack < 2 ^ 16
  pub max_locals : c.max_locals < 2 ^ 16
  pub code_length : length c.bytes < 2 ^ 32
  pub handler_count : length c.handlers < 2 ^ 16
  pub handlers : All HandlerFits c.handlers
  pub attribute_count : length c.attributes < 2 ^ 16
  pub attributes : All AttributeFits c.attributes
  pub spelled : bytes ≡ spell_code c

-- The method's only attribute named Code has this body.
pub record HasCode (c : ClassFile) (m : Member) (contents : CodeBody) : Type 0 where
  pub code : Attribute
  pub only : filter (is_code c.pool) m.attributes ≡ code ∷ []
  pub body : IsCode code.body contents
