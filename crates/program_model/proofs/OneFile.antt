-- The methods of one class that are members of a class file are members of one class file.
use Rattle.std.proofs.Common.{◌≡◌, ◌≢◌, ℕ, List, find, AllPairs, Option, Some, None, sym, ap, ◌∙◌}
use Rattle.std.specs.List.{enumerate_from, slice_get}
use Rattle.std.specs.Option.{option_map_or}
use Rattle.jvm_model.specs.declared.class_file.ClassFile.{ClassFile}
use Rattle.jvm_model.specs.declared.class_file.Member.{Member}
use Rattle.jvm_model.specs.declared.program.Origin.{Origin}
use Rattle.jvm_model.specs.declared.program.Origin.TheVariants.{Folder, Stub}
use Rattle.jvm_model.specs.declared.stub.StubMethod.{StubMethod}
use Rattle.jvm_model.specs.LinkedPrograms.{class_names}
use Rattle.jvm_model.specs.Linking.{describes, folder_method, methods_from, program_from}
use Rattle.jvm_model.specs.Programs.{Method, in_file, described}
use Rattle.jvm_model.specs.Stubs.{method_of_stub}
use Rattle.program_index.proofs.ListPlaces.{map_at}
use Rattle.program_model.specs.DeclaredClasses.{method_classes}
use Rattle.program_model.specs.Files.{HaveOneFile}
use Rattle.program_model.proofs.SoundMembers.{one_origin}

-- the class file from which a class comes
abbrev IsFileOf : Origin → ClassFile → Type 0
IsFileOf (Folder f natives) g = g ≡ f.class
IsFileOf (Stub c) g = ⊥

body_file : (found : Option StubMethod) (c g : ClassFile) (k l : ℕ) (a b : Member) → option_map_or described found (in_file c k a) ≡ in_file g l b → g ≡ c
body_file None c g k l a b e = cc
body_file (Some d) c g k l a b e = absurd cc

file_of : (o : Origin) (place : ℕ) (m : Method) → slice_get (methods_from o) place ≡ Some m → (g : ClassFile) (l : ℕ) (b : Member) → m.body ≡ in_file g l b → IsFileOf o g
file_of (Folder f natives) place m stands g l b e =
    let c = f.class in
    let x = map_at (folder_method natives c) (enumerate_from 0 c.methods) place m stands in
    body_file (find (λ (d : StubMethod). describes c.pool d x.0.1) natives) c g x.0.0 l x.0.1 b (ap (λ (n : Method). n.body) x.2 ∙ e)
file_of (Stub c) place m stands g l b e =
    let x = map_at (method_of_stub c.name) c.methods place m stands in
    let never : described x.0 ≡ in_file g l b = ap (λ (n : Method). n.body) x.2 ∙ e in
    absurd cc

same_file : (o : Origin) (f g : ClassFile) → IsFileOf o f → IsFileOf o g → f ≡ g
same_file (Folder file natives) f g is_f is_g = is_f ∙ sym is_g
same_file (Stub c) f g is_f is_g = absurd is_f

pub one_file : (order : List Origin) → AllPairs (λ x y. x ≢ y) (class_names (program_from order)) → HaveOneFile (program_from order)
one_file order differ = record {
  same = λ i j m n at_i at_j class f g k l a b is_f is_g.
      let both = one_origin methods_from (λ (m : Method). m.class) method_classes order differ i j m n at_i at_j class in
      same_file both.of f g (file_of both.of both.first m both.stands_first f k a is_f) (file_of both.of both.second n both.stands_second g l b is_g);
}
