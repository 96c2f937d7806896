-- What certificates list is in the ranges of the program.
use Rattle.std.proofs.Common.{◌<◌, List}
use Rattle.std.specs.List.{Contains}
use Rattle.std.proofs.lemmas.Bool.{ltb-true}
use Rattle.list_laws.proofs.Places.{place_of}
use Rattle.jvm_model.specs.declared.number.MethodNo.{MethodNo}
use Rattle.certificate_lines.specs.declared.line.Line.{Line}
use Rattle.certificate_lines.specs.declared.line.Line.TheVariants.{Reached}
use Rattle.certificates.specs.declared.ranges.Ranges.{Ranges}
use Rattle.certificates.specs.Format.{IsCertificate}

pub reached_within : (r : Ranges) (all : List Line) → IsCertificate r all → (m : MethodNo) → Contains all (Reached m) → m.0 < r.methods
reached_within r all is m there =
    let (k, at) = place_of all (Reached m) there in
    ltb-true m.0 r.methods (is.good k (Reached m) at).line
