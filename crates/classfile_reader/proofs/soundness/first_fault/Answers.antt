use Rattle.std.proofs.Common.{List, [], ◌++◌, length, None, Some, ap, subst, arith}
use Rattle.std.specs.List.{flat_map}
use Rattle.jvm_model.specs.declared.pool.PoolEntry.{PoolEntry}
use Rattle.jvm_model.specs.Soundness.{each_place, entry_places, header_places, body_places}
use Rattle.jvm_model.specs.Spelling as spelling
use Rattle.jvm_model.proofs.Lengths.{spell_length}
use Rattle.classfile_reader.specs.FirstPlace.{IsFirstBreach}
use Rattle.classfile_reader.proofs.FirstPlaces.{goes_on, goes_on_ok, stops}
use Rattle.classfile_reader.proofs.soundness.first_fault.Goals as goal

pub pool_fault-requires-clause-size : goal.pool_fault-requires-clause-size
pool_fault-requires-clause-size c = omega (arith, c.requires, spell_length c.args.class.now, ap (λ (es : List PoolEntry). length (flat_map spelling.entry es)) c.as_slice-pool.ensures)

pub returns-in-Some : goal.returns-in-Some
returns-in-Some c =
    let class = c.args.class.now in
    let size = λ (e : PoolEntry). length (spelling.entry e) in
    let pool = c.as_slice-pool.result.now in
    let found = subst (IsFirstBreach pool (each_place (entry_places class.major) size 10 [] pool)) c.in-Some.is c.in_ok-fault.ensures.exact in
    let first = subst (λ (es : List PoolEntry). IsFirstBreach es (each_place (entry_places class.major) size 10 [] es) (Some c.in-Some.fault)) c.as_slice-pool.ensures found in
    stops class.pool (each_place (entry_places class.major) size 10 [] class.pool) (header_places class ++ body_places class) c.in-Some.fault first

pub returns-in-Some-header_fault : goal.returns-in-Some-header_fault
returns-in-Some-header_fault c =
    let class = c.args.class.now in
    let size = λ (e : PoolEntry). length (spelling.entry e) in
    let pool = c.as_slice-pool.result.now in
    let no_entry = subst (IsFirstBreach pool (each_place (entry_places class.major) size 10 [] pool)) c.in_default.is c.in_ok-fault.ensures.exact in
    let none = subst (λ (es : List PoolEntry). IsFirstBreach es (each_place (entry_places class.major) size 10 [] es) None) c.as_slice-pool.ensures no_entry in
    let first = subst (IsFirstBreach class.pool (header_places class)) c.in-Some-header_fault.is c.header_fault.ensures in
    goes_on class.pool (each_place (entry_places class.major) size 10 [] class.pool) (header_places class ++ body_places class) (Some c.in-Some-header_fault.fault) none
    (stops class.pool (header_places class) (body_places class) c.in-Some-header_fault.fault first)

pub returns : goal.returns
returns c =
    let class = c.args.class.now in
    let size = λ (e : PoolEntry). length (spelling.entry e) in
    let pool = c.as_slice-pool.result.now in
    let no_entry = subst (IsFirstBreach pool (each_place (entry_places class.major) size 10 [] pool)) c.in_default.is c.in_ok-fault.ensures.exact in
    let none = subst (λ (es : List PoolEntry). IsFirstBreach es (each_place (entry_places class.major) size 10 [] es) None) c.as_slice-pool.ensures no_entry in
    let no_header = subst (IsFirstBreach class.pool (header_places class)) c.in_default-header_fault.is c.header_fault.ensures in
    goes_on_ok class.pool (each_place (entry_places class.major) size 10 [] class.pool) (header_places class ++ body_places class) c.body_fault.result none
    (goes_on_ok class.pool (header_places class) (body_places class) c.body_fault.result no_header c.body_fault.ensures)
