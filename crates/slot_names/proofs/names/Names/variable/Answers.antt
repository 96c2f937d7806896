use Rattle.std.proofs.Common.{Option, Some, sym, ap, ◌∙◌, arith}
use Rattle.slot_names.specs.declared.entry.Entry.{Entry}
use Rattle.slot_names.specs.KeptNames.{kept_variable, name_table}
use Rattle.slot_names.proofs.NamedTables.{kept_read}
use Rattle.slot_names.proofs.names.Names.variable.Goals as goal

pub index-requires : goal.index-requires
unfolding name_table
index-requires c = omega (arith, c.requires)

pub returns-in-Some : goal.returns-in-Some
returns-in-Some c =
    let names = c.args.self.now in
    kept_read names c.args.node c.args.slot c.index.result.now c.variable_at.result c.requires c.index.ensures
    (c.variable_at.ensures ∙ sym (ap (λ (o : Option Entry). kept_variable names.rows names.method (Some o) c.args.slot) c.in-Some.is))

pub returns-in-None : goal.returns-in-None
returns-in-None c =
    let names = c.args.self.now in
    kept_read names c.args.node c.args.slot c.index.result.now _ c.requires c.index.ensures
    (sym (ap (λ (o : Option Entry). kept_variable names.rows names.method (Some o) c.args.slot) c.in-None.is))
