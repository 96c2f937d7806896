use Rattle.toml.specs.View.{table_view}
use Rattle.property_file.specs.Rules.{GivesNext}
use Rattle.toml_tables.proofs.Finding.{Finds-none, Finds-some}
use Rattle.property_file.proofs.event_list.event_in.Goals as goal

pub returns-in_default-method_descriptor_at : goal.returns-in_default-method_descriptor_at
returns-in_default-method_descriptor_at c = λ event g. c.in_default-method_descriptor_at.ensures event.descriptor (g.descriptor, g.is_method_descriptor)

pub returns-in_default-2 : goal.returns-in_default-2
returns-in_default-2 c = λ event g.
    let states = c.args.states.now in
    let members = table_view c.args.table.now in
    Finds-none (GivesNext states c.args.error members) c.in_ok-next.field-0 c.in_default-2.is c.in_ok-next.ensures event.next g.next

pub returns : goal.returns
returns c =
    let states = c.args.states.now in
    let members = table_view c.args.table.now in
    let next = Finds-some (GivesNext states c.args.error members) c.in_ok-next.field-0 c.in-Some-2.next c.in-Some-2.is c.in_ok-next.ensures in
    rw (c.in_ok-name.ensures, c.in_ok-descriptor.ensures)
    record {
      name = c.in-Some.ensures.0;
      is_method_name = c.in-Some.ensures.1;
      descriptor = c.in-Some-method_descriptor_at.ensures.0;
      is_method_descriptor = c.in-Some-method_descriptor_at.ensures.1;
      next = next;
      no_other = c.has_event_keys.ensures.0 c.if-not-has_event_keys.false;
    }
