-- Attributes, fields and methods: what is read is spelled so, and what is spelled so is read.
use Rattle.std.proofs.Common.{ℕ, ◌+◌, ◌^◌, ◌++◌, length, refl, sym, subst, arith}
use Rattle.std.specs.Int.{w16, w32}
use Rattle.jvm_model.specs.declared.class_file.Member.{Member}
use Rattle.jvm_model.specs.declared.class_file.Attribute.{Attribute}
use Rattle.jvm_model.specs.Spelling.{u2, u4, attribute, member, table, AttributeFits, MemberFits}
use Rattle.byte_reader.specs.Reading.{Place}
use Rattle.byte_reader.specs.Structures.{attribute_at, member_at}
use Rattle.byte_reader.proofs.Fields.{bind_ok, ok_is, goes_on_with, Takes, Takes-then, IsSpelledBy, IsReadBack, wide16, wide32, number_takes, number_again, bytes_take, bytes_again, table_takes, table_again}

pub attribute_takes : IsSpelledBy attribute_at attribute AttributeFits
unfolding attribute_at
attribute_takes place x fits e =
    let a = bind_ok _ _ x e in
    let b = bind_ok _ _ x a.2 in
    let c = bind_ok _ _ x b.2 in
    let name = number_takes w16 (2 ^ 16) wide16 place a.0 fits a.1 in
    let len = number_takes w32 (2 ^ 32) wide32 a.0.1 b.0 name.0.rest_fits b.1 in
    let body = bytes_take b.0.0 b.0.1 c.0 len.0.rest_fits c.1 in
    let two = Takes-then place (u2 a.0.0) a.0.1 (u4 b.0.0) b.0.1 name.0 len.0 in
    let three = Takes-then place (u2 a.0.0 ++ u4 b.0.0) b.0.1 c.0.0 c.0.1 two body.0 in
    let whole = subst (λ (k : ℕ). Takes place (u2 a.0.0 ++ u4 k ++ c.0.0) c.0.1) (sym body.1) three in
    let made : Attribute × Place = (record { name = a.0.0; body = c.0.0 }, c.0.1) in
    subst (λ (y : Attribute × Place). Takes place (attribute y.0) y.1 × AttributeFits y.0) (ok_is made x c.2)
    (whole, record { name = name.1; body = omega (arith, len.1, body.1); bytes = body.2 })

pub attribute_again : IsReadBack attribute_at attribute AttributeFits
unfolding attribute_at
attribute_again a o rest fits =
    let name = number_again w16 (2 ^ 16) wide16 a.name o (u4 (length a.body) ++ (a.body ++ rest)) fits.name in
    let len = number_again w32 (2 ^ 32) wide32 (length a.body) name.0 (a.body ++ rest) fits.body in
    let body = bytes_again a.body len.0 rest in
    (len.0 + length a.body, goes_on_with _ _ _ _ name.1 (goes_on_with _ _ _ _ len.1 (goes_on_with _ _ _ _ body refl)))

pub member_takes : IsSpelledBy member_at member MemberFits
unfolding member_at
member_takes place x fits e =
    let a = bind_ok _ _ x e in
    let b = bind_ok _ _ x a.2 in
    let c = bind_ok _ _ x b.2 in
    let d = bind_ok _ _ x c.2 in
    let flags = number_takes w16 (2 ^ 16) wide16 place a.0 fits a.1 in
    let name = number_takes w16 (2 ^ 16) wide16 a.0.1 b.0 flags.0.rest_fits b.1 in
    let descriptor = number_takes w16 (2 ^ 16) wide16 b.0.1 c.0 name.0.rest_fits c.1 in
    let attributes = table_takes attribute_at attribute AttributeFits attribute_takes c.0.1 d.0 descriptor.0.rest_fits d.1 in
    let two = Takes-then place (u2 a.0.0) a.0.1 (u2 b.0.0) b.0.1 flags.0 name.0 in
    let three = Takes-then place (u2 a.0.0 ++ u2 b.0.0) b.0.1 (u2 c.0.0) c.0.1 two descriptor.0 in
    let four = Takes-then place (u2 a.0.0 ++ u2 b.0.0 ++ u2 c.0.0) c.0.1 (table attribute d.0.0) d.0.1 three attributes.0 in
    let made : Member × Place = (record { flags = a.0.0; name = b.0.0; descriptor = c.0.0; attributes = d.0.0 }, d.0.1) in
    subst (λ (y : Member × Place). Takes place (member y.0) y.1 × MemberFits y.0) (ok_is made x d.2)
    (four, record { flags = flags.1; name = name.1; descriptor = descriptor.1; count = attributes.1.0; attributes = attributes.1.1 })

pub member_again : IsReadBack member_at member MemberFits
unfolding member_at
member_again m o rest fits =
    let flags = number_again w16 (2 ^ 16) wide16 m.flags o (u2 m.name ++ (u2 m.descriptor ++ (table attribute m.attributes ++ rest))) fits.flags in
    let name = number_again w16 (2 ^ 16) wide16 m.name flags.0 (u2 m.descriptor ++ (table attribute m.attributes ++ rest)) fits.name in
    let descriptor = number_again w16 (2 ^ 16) wide16 m.descriptor name.0 (table attribute m.attributes ++ rest) fits.descriptor in
    let attributes = table_again attribute_at attribute AttributeFits attribute_again m.attributes descriptor.0 rest (fits.count, fits.attributes) in
    (attributes.0, goes_on_with _ _ _ _ flags.1 (goes_on_with _ _ _ _ name.1 (goes_on_with _ _ _ _ descriptor.1 (goes_on_with _ _ _ _ attributes.1 refl))))
