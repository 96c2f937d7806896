use Rattle.std.proofs.Common.{◌≤◌, length, string_bytes, arith}
use Rattle.class_folder.specs.ClassFiles.{most_bytes, most_bytes_together}
use Rattle.class_folder.proofs.OneFile.{bad_fault, refused_file}
use Rattle.class_folder.proofs.read.class_file.Goals.{else-bytes-via-then-bytes+else-size-gt-MOST_BYTES, else-bytes-via-else-bytes}
use Rattle.class_folder.proofs.read.class_file.Goals as goal

pub returns-in-Err-Cause-clause-failure : goal.returns-in-Err-Cause-clause-failure
returns-in-Err-Cause-clause-failure c =
    let r = c.in-Err-Cause in
    let bytes = c.args.bytes.now in
    let fits : length bytes ≤ most_bytes → c.args.size ≤ most_bytes_together =
    elim c.else-bytes.branch [
      | else-bytes-via-then-bytes+else-size-gt-MOST_BYTES w ↦ λ _. omega arith
      | else-bytes-via-else-bytes w ↦ λ h. absurd (omega arith)
    ] in
    refused_file (string_bytes c.args.name) bytes c.args.size r.field-0-0.offset r.field-0-0.reason c.refused-in-Err-Cause.result c.refused-in-Err-Cause.ensures
    (bad_fault bytes c.args.size r.field-0 r.field-0-0.offset r.field-0-0.reason fits r.field-0-is r.ensures.refused)
