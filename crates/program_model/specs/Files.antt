-- Public contracts rest on this module.
-- From which class files the methods of a program are.
use Rattle.std.specs.Prelude.{◌≡◌, ℕ, Some, slice_get}
use Rattle.jvm_model.specs.declared.class_file.ClassFile.{ClassFile}
use Rattle.jvm_model.specs.declared.class_file.Member.{Member}
use Rattle.jvm_model.specs.Programs.{Method, Program, in_file}

-- The methods of one class that are members of a class file are members of one class file.
pub record HaveOneFile (p : Program) : Type 0 where
  pub same : (i j : ℕ) (m n : Method) → slice_get p.methods i ≡ Some m → slice_get p.methods j ≡ Some n → m.class ≡ n.class
      → (f g : ClassFile) (k l : ℕ) (a b : Member) → m.body ≡ in_file f k a → n.body ≡ in_file g l b → f ≡ g
