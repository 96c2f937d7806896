-- The methods before one end in the file.
use Rattle.std.proofs.Common.{◌≡◌, ℕ, ◌+◌, ◌<◌, ◌≤◌, List, ◌++◌, length, take, drop, get_or, sym, ap, ◌∙◌, arith, length-append}
use Rattle.std.specs.List.{flat_map}
use Rattle.std.proofs.lemmas.List.{take-append-drop}
use Rattle.std.proofs.lemmas.Grind.{flat_map-append}
use Rattle.jvm_model.specs.declared.class_file.ClassFile.{ClassFile}
use Rattle.jvm_model.specs.declared.class_file.Member.{Member}
use Rattle.jvm_model.specs.Soundness.{methods_offset}
use Rattle.jvm_model.specs.Spelling.{member, spell}
use Rattle.jvm_model.proofs.Lengths.{one_more, spell_length}
use Rattle.code_reader.specs.Places.{method_offset}

pub front_fits : (c : ClassFile) (n : ℕ) → methods_offset c + length (flat_map member (take n c.methods)) ≤ length (spell c)
front_fits c n =
    let whole : flat_map member c.methods ≡ flat_map member (take n c.methods) ++ flat_map member (drop n c.methods) =
    ap (λ (ms : List Member). flat_map member ms) (sym (take-append-drop n c.methods)) ∙ flat_map-append member (take n c.methods) (drop n c.methods) in
    omega (arith, spell_length c, ap length whole, length-append (flat_map member (take n c.methods)) (flat_map member (drop n c.methods)))

-- the next method stands right after one
pub next_offset : (c : ClassFile) (k : ℕ) (m : Member) → k < length c.methods → m ≡ get_or c.methods k m → method_offset c k + length (member m) ≡ method_offset c (k + 1)
next_offset c k m lt is = omega (arith, one_more member c.methods k m lt is)

-- and ends in the file
pub method_fits : (c : ClassFile) (k : ℕ) (m : Member) → k < length c.methods → m ≡ get_or c.methods k m → method_offset c k + length (member m) ≤ length (spell c)
method_fits c k m lt is = omega (arith, next_offset c k m lt is, front_fits c (k + 1))
