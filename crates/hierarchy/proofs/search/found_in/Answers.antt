use Rattle.std.proofs.Common.{◌∙◌, sym}
use Rattle.jvm_model.specs.Lookups.{lent_signature}
use Rattle.hierarchy.specs.Searches.{IsSuch}
use Rattle.hierarchy.proofs.FoundIn.{found_class, found_interface}
use Rattle.hierarchy.proofs.search.found_in.Goals as goal

pub returns-then-not-is_interface : goal.returns-then-not-is_interface
returns-then-not-is_interface g c = λ class stands.
    let p = c.args.program.now in
    let s = lent_signature c.args.signature in
    let kind = sym (c.is_interface.ensures class stands) ∙ c.if-not-is_interface.true in
    found_class p (IsSuch s (g.S.Sought.takes c.args.sought.now p)) s c.args.class.0 class c.found_upward.result stands kind c.found_upward.ensures

pub returns : goal.returns
returns g c = λ class stands.
    let p = c.args.program.now in
    let s = lent_signature c.args.signature in
    let kind = sym (c.is_interface.ensures class stands) ∙ c.if-not-is_interface.false in
    found_interface p (IsSuch s (g.S.Sought.takes c.args.sought.now p)) s c.args.class.0 class c.of_object.result stands kind c.in_default.ensures c.of_object.ensures
