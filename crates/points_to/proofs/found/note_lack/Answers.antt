use Rattle.std.proofs.Common.{refl, sym, ◌∙◌, ap}
use Rattle.std.proofs.lemmas.Option.{none-some}
use Rattle.op_model.specs.declared.node.NodeRef.{NodeRef}
use Rattle.points_to_constraints.specs.Items.{dispatch}
use Rattle.points_to.specs.Passing.{NotesReason}
use Rattle.points_to.proofs.Lacking.{selecting, selected_call, one_noted, kept_call, noted_now}
use Rattle.points_to.proofs.Noting.{calls_none, calls_one}
use Rattle.points_to.proofs.found.note_lack.Goals as goal

pub returns-in_default-clause-call : goal.returns-in_default-clause-call
returns-in_default-clause-call c =
    calls_none (NotesReason c.args.tables.now c.args.constraint c.args.lacks) c.args.refusals.now.call (λ call r. none-some call.reason (sym c.in_default.is ∙ r.reason))

pub returns-in_default-constraint_of : goal.returns-in_default-constraint_of
returns-in_default-constraint_of c = record {
  call = calls_none (NotesReason c.args.tables.now c.args.constraint c.args.lacks) c.args.refusals.now.call (λ call r.
      let s = selecting c.args.tables.now c.constraint_of.result r.call (c.constraint_of.ensures (dispatch r.call) r.selects.selects) in c.in_default-constraint_of.not-Dispatch s.0 s.1);
  method = refl;
}

pub call_of-requires : goal.call_of-requires
call_of-requires c = kept_call c.args.tables.now c.args.constraint c.constraint_of.result c.in-Dispatch.call c.requires c.constraint_of.ensures c.in-Dispatch.is

pub returns-in_default-method-clause-call : goal.returns-in_default-method-clause-call
returns-in_default-method-clause-call c =
    let n = c.args.tables.now in
    calls_none (NotesReason n c.args.constraint c.args.lacks) c.args.refusals.now.call (λ call r.
    let at = selected_call n c.args.constraint c.constraint_of.result c.in-Dispatch.call call r.call r.selects c.constraint_of.ensures c.in-Dispatch.is in
    let entry = c.call_of.ensures r.call at in
    none-some call.method (sym c.in_default-method.is ∙ ap (λ (a : NodeRef). a.method) (sym entry.at ∙ r.selects.at)))

pub returns-clause-call : goal.returns-clause-call
returns-clause-call c =
    let n = c.args.tables.now in
    let constraint = c.args.constraint in
    let r = noted_now n constraint c.constraint_of.result c.in-Dispatch.call c.requires c.constraint_of.ensures c.in-Dispatch.is c.args.lacks c.in-Some.reason c.call_of.result.now c.in-Some-method.method c.in-Some.is c.call_of.ensures c.in-Some-method.is in
    calls_one (NotesReason n constraint c.args.lacks) c.args.refusals.now.call c.note_call.new.self.call _ r (λ other h. one_noted n constraint c.args.lacks _ other r h) c.note_call.ensures.call
