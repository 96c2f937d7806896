-- What the analysis does not follow, in parts.
use Rattle.std.proofs.Common.{◌≡◌, ◌⊎◌, inl, inr, codes, Some, refl}
use Rattle.std.specs.Prelude.{IsTrue, Contains}
use Rattle.std.proofs.lemmas.Bool.{false≢true}
use Rattle.jvm_model.specs.declared.pool.PoolEntry.{PoolEntry}
use Rattle.jvm_model.specs.declared.pool.PoolEntry.TheVariants.{Utf8, Integer, Float, Long, Double, Class, Str, Fieldref, Methodref, InterfaceMethodref, NameAndType, MethodHandle, MethodType, InvokeDynamic, Taken}
use Rattle.jvm_model.specs.Lookups.{MemberReference, entry_at}
use Rattle.jvm_model.specs.Table.{load_constant}
use Rattle.lowering_reasons.specs.Reasons.{Judged, Calls, Names, IsUnder, UsesMethodConstant, loads_handle, loads_type, calls_handle, IsReflective, names_class as names_reflective, calls_class, UsesThreads, names_class as names_threads, calls_waiting, IsOfThreads, waiting_methods}
use Rattle.lowering_reasons.specs.Looked.{HasSuch, is_method_constant, IsReflectiveMember, LoadsMethodConstant}
use Rattle.lowering_reasons.proofs.Only.{IsEither}

-- ---- method constants

loads_entry : (j : Judged) (entry : PoolEntry) → j.action ≡ load_constant → entry_at j.pool j.operand ≡ Some entry → IsTrue (is_method_constant entry) → UsesMethodConstant j
loads_entry j (Utf8 bytes) load at never = absurd (false≢true never)
loads_entry j (Integer bits) load at never = absurd (false≢true never)
loads_entry j (Float bits) load at never = absurd (false≢true never)
loads_entry j (Long bits) load at never = absurd (false≢true never)
loads_entry j (Double bits) load at never = absurd (false≢true never)
loads_entry j (Class name) load at never = absurd (false≢true never)
loads_entry j (Str text) load at never = absurd (false≢true never)
loads_entry j (Fieldref class member) load at never = absurd (false≢true never)
loads_entry j (Methodref class member) load at never = absurd (false≢true never)
loads_entry j (InterfaceMethodref class member) load at never = absurd (false≢true never)
loads_entry j (NameAndType name descriptor) load at never = absurd (false≢true never)
loads_entry j (MethodHandle kind member) load at passed = loads_handle kind member load at
loads_entry j (MethodType descriptor) load at passed = loads_type descriptor load at
loads_entry j (InvokeDynamic bootstrap member) load at never = absurd (false≢true never)
loads_entry j Taken load at never = absurd (false≢true never)

abbrev CallsHandle : Judged → Type 0
CallsHandle j = HasSuch (Calls j) (λ (m : MemberReference). m.class ≡ codes "java/lang/invoke/MethodHandle")

constant_cases : (j : Judged) → UsesMethodConstant j → LoadsMethodConstant j ⊎ CallsHandle j
constant_cases j (loads_handle kind member load at) = inl (load, (MethodHandle kind member, at, refl))
constant_cases j (loads_type descriptor load at) = inl (load, (MethodType descriptor, at, refl))
constant_cases j (calls_handle m calls named) = inr (record { one = m; first = calls; second = named })

pub method_constant : (j : Judged) → IsEither (LoadsMethodConstant j) (CallsHandle j) (UsesMethodConstant j)
method_constant j = record {
  left = λ h. loads_entry j h.1.0 h.0 h.1.1 h.1.2;
  right = λ such. calls_handle such.one such.first such.second;
  cases = constant_cases j;
}

-- ---- reflection

reflective_cases : (j : Judged) → IsReflective j → HasSuch (Names j) (IsUnder (codes "java/lang/reflect/")) ⊎ HasSuch (Calls j) IsReflectiveMember
reflective_cases j (names_reflective class names under) = inl (record { one = class; first = names; second = under })
reflective_cases j (calls_class m calls named status name) = inr (record { one = m; first = calls; second = record { of_class = named; no_status = status; no_name = name } })

pub reflective : (j : Judged) → IsEither (HasSuch (Names j) (IsUnder (codes "java/lang/reflect/"))) (HasSuch (Calls j) IsReflectiveMember) (IsReflective j)
reflective j = record {
  left = λ such. names_reflective such.one such.first such.second;
  right = λ such. calls_class such.one such.first such.second.of_class such.second.no_status such.second.no_name;
  cases = reflective_cases j;
}

-- ---- threads

abbrev CallsWaiting : Judged → Type 0
CallsWaiting j = HasSuch (Calls j) (λ (m : MemberReference). Contains waiting_methods m.signature)

threads_cases : (j : Judged) → UsesThreads j → HasSuch (Names j) (IsOfThreads j.program) ⊎ CallsWaiting j
threads_cases j (names_threads class names of_threads) = inl (record { one = class; first = names; second = of_threads })
threads_cases j (calls_waiting m calls waiting) = inr (record { one = m; first = calls; second = waiting })

pub threads : (j : Judged) → IsEither (HasSuch (Names j) (IsOfThreads j.program)) (CallsWaiting j) (UsesThreads j)
threads j = record {
  left = λ such. names_threads such.one such.first such.second;
  right = λ such. calls_waiting such.one such.first such.second;
  cases = threads_cases j;
}
