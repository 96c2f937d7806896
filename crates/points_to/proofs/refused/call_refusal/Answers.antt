use Rattle.std.proofs.Common.{◌≡◌, ◌+◌, refl, ◌∙◌, arith}
use Rattle.std.proofs.lemmas.Option.{slice_get_within}
use Rattle.hierarchy.proofs.ClassPlaces.{place_there}
use Rattle.entry_points.proofs.CodedMethods.{shown_parts, shown_description, class_at}
use Rattle.points_to.proofs.refused.call_refusal.Goals as goal

pub method_body-requires : goal.method_body-requires
method_body-requires c = slice_get_within c.args.program.now.methods c.args.call.method.0 c.requires.method c.requires.stands

pub unreachable-requires : goal.unreachable-requires
unreachable-requires c =
    shown_description c.args.program.now c.well_formed-2.ensures.program c.args.call.method.0 (slice_get_within c.args.program.now.methods c.args.call.method.0 c.requires.method c.requires.stands)
    c.in_default.field-0 c.in_default.ensures c.requires

pub code_place-requires-clause-size : goal.code_place-requires-clause-size
code_place-requires-clause-size c =
    (shown_parts c.args.program.now c.well_formed-2.ensures.program c.args.call.method.0 c.requires c.in-InFile.file c.in-InFile.number c.in-InFile.ensures).checked.size

pub code_place-requires-clause-code : goal.code_place-requires-clause-code
code_place-requires-clause-code c =
    (shown_parts c.args.program.now c.well_formed-2.ensures.program c.args.call.method.0 c.requires c.in-InFile.file c.in-InFile.number c.in-InFile.ensures).code

pub method-requires : goal.method-requires
method-requires c = slice_get_within c.args.program.now.methods c.args.call.method.0 c.requires.method c.requires.stands

pub returns : goal.returns
returns c =
    let p = c.args.program.now in
    let program = c.well_formed-2.ensures.program in
    let parts = shown_parts p program c.args.call.method.0 c.requires c.in-InFile.file c.in-InFile.number c.in-InFile.ensures in
    let view = c.method.ensures c.requires.method c.requires.stands in
    let (class, at) = place_there p.classes c.method.result.class.0 view.below in
    let name = c.from_string.ensures ∙ c.in_ok-name.ensures.ok ∙ c.as_str.ensures ∙ c.file_name.ensures class at in
    let place = c.code_place.result in
    let offset : c.from.result + 8 + c.from-2.result ≡ (place + 8) + c.args.call.offset = omega (arith, c.from.ensures, c.from-2.ensures) in
    record {
      start = place + 8;
      name = c.from_string.result;
      begins = record {
        method = c.requires.method;
        stands = c.requires.stands;
        class = class;
        of_class = class_at p program c.requires.method c.method.result.class.0 class at view.class;
        in_class_file = name;
        file = c.in-InFile.file.now;
        number = c.in-InFile.number;
        member = parts.member;
        of_file = parts.of_file;
        place = place;
        is_place = c.code_place.ensures;
        is = refl;
      };
      is = (λ i. record { file = c.from_string.result; offset = offset i; reason = c.args.call.reason });
    }
