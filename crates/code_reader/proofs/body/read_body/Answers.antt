use Rattle.std.proofs.Common.{◌≡◌, sym, ◌∙◌, ap, subst, List, Result, Ok, refl, arith}
use Rattle.jvm_model.specs.declared.code.Code.{Code}
use Rattle.jvm_model.specs.declared.code.PlacedInstruction.{PlacedInstruction}
use Rattle.jvm_model.specs.declared.reason.Fault.{Fault}
use Rattle.byte_reader.specs.Reading.{Place, Fails}
use Rattle.code_reader.specs.Bodies.{head_view}
use Rattle.code_reader.specs.CodeReading.{head_at, wrong_code, reads}
use Rattle.code_reader.specs.Division.{fault_of}
use Rattle.code_reader.proofs.Divided.{told_inside}
use Rattle.code_reader.proofs.ToldBodies.{refused_before, refused_after}
use Rattle.code_reader.proofs.body.read_body.Goals as goal

pub returns-in-Err : goal.returns-in-Err
returns-in-Err c = refused_before c.args.pool.now c.args.parameters (record { offset = c.args.place; rest = c.args.body.now }) c.in-Err.refusal c.in_code.result c.in_code.ensures
    (subst (λ (p : Place). Fails c.in-Err.refusal (head_at p)) c.at-input.ensures c.in-Err.ensures.exact)

pub overflow_add-result : goal.overflow_add-result
overflow_add-result c =
    let head = head_view c.in-Ok.head in
    let d = c.in_ok-division.ensures in
    let test = fault_of c.args.pool.now (record { limit = head.max_locals; parameters = c.args.parameters }) c.in_ok-division.division.spots.items c.in_ok-division.division.stop in
    let lt = told_inside c.args.pool.now head.bytes c.in_ok-division.division.stop test 0 c.in_ok-division.division.spots.items d.divided c.in-Some.offset c.in-Some.reason (sym c.first_fault.ensures ∙ c.in-Some.is) in
    omega (arith, lt, c.in-Ok.ensures.inside)

pub returns-in-Some : goal.returns-in-Some
returns-in-Some c =
    let head = head_view c.in-Ok.head in
    let begins = subst (λ (p : Place). head_at p ≡ Ok (head, c.read_head.new.input)) c.at-input.ensures c.in-Ok.ensures.exact in
    wrong_code head c.read_head.new.input c.in_ok-division.division.spots.items c.in_ok-division.division.stop c.in-Some.offset c.in-Some.reason
    (record { begins = begins; divided = c.in_ok-division.ensures.divided }) (sym c.first_fault.ensures ∙ c.in-Some.is) refl

pub returns-in-Err-tail : goal.returns-in-Err-tail
returns-in-Err-tail c =
    let head = head_view c.in-Ok.head in
    let begins = subst (λ (p : Place). head_at p ≡ Ok (head, c.read_head.new.input)) c.at-input.ensures c.in-Ok.ensures.exact in
    refused_after c.args.pool.now c.args.parameters (record { offset = c.args.place; rest = c.args.body.now }) head c.read_head.new.input c.in_ok-division.division.spots.items
    c.in_ok-division.division.stop c.in-Err-tail.refusal c.in_code-in-Err-tail.result c.in_code-in-Err-tail.ensures
    (record { begins = begins; divided = c.in_ok-division.ensures.divided }) (sym c.first_fault.ensures ∙ c.in-None.is) c.in-Err-tail.ensures

pub returns : goal.returns
returns c =
    let whole : List PlacedInstruction → Result Code Fault =
    λ given. Ok (record { at = c.in-Ok.head.at; instructions = given; handlers = c.in-Ok-tail.handlers; max_stack = c.in-Ok.head.max_stack; max_locals = c.in-Ok.head.max_locals }) in
    let head = head_view c.in-Ok.head in
    let begins = subst (λ (p : Place). head_at p ≡ Ok (head, c.read_head.new.input)) c.at-input.ensures c.in-Ok.ensures.exact in
    reads head c.read_head.new.input c.in_ok-division.division.spots.items c.in_ok-division.division.stop c.in-Ok-tail.handlers
    (record { begins = begins; divided = c.in_ok-division.ensures.divided }) (sym c.first_fault.ensures ∙ c.in-None.is) c.in-Ok-tail.ensures
    (ap (λ (given : List PlacedInstruction). whole given) c.in_ok-all_placed.ensures)
