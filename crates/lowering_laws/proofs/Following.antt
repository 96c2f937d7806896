-- Whether the analysis does not follow an instruction is decided: its names, the classes of threads, and method constants.
use Rattle.std.proofs.Common.{codes, ◌≡◌, ◌≢◌, ◌⊎◌, inl, inr, ℕ, List, [], ◌∷◌, ◌++◌, refl}
use Rattle.std.specs.Prelude.{IsTrue, Contains}
use Rattle.jvm_model.specs.declared.pool.PoolEntry.{PoolEntry}
use Rattle.jvm_model.specs.Lookups.{MemberReference, entry_at}
use Rattle.jvm_model.specs.Programs.{Program}
use Rattle.jvm_model.specs.Subtypes.{IsSubtype}
use Rattle.jvm_model.specs.Table.{load_constant, refused}
use Rattle.lowering_reasons.specs.Looked.{is_method_constant, IsReflectiveMember, LoadsMethodConstant}
use Rattle.lowering_reasons.specs.Reasons.{Judged, Calls, Names, IsUnder, IsDynamic, UsesMethodConstant, IsReflective, IsOfThreads, a_thread, a_group, concurrent, waiting_methods, UsesThreads}
use Rattle.lowering_reasons.proofs.Unfollowed.{method_constant, reflective, threads}
use Rattle.program_laws.proofs.Choices.{OrNot, carried_over, either_or_not, both_or_not, same_or_not, true_or_not, held_or_not}
use Rattle.program_laws.proofs.Decided.{subtype_or_not}
use Rattle.program_laws.proofs.Bounded.{equal_or_not, not_or_not}
use Rattle.lowering_laws.proofs.Equality.{action_or_not, listed_or_not}
use Rattle.lowering_laws.proofs.Looking.{named_class, called}
use Rattle.lowering_laws.proofs.Only.{such_or_not, either_part}

-- ---- how a name begins

pub under_or_not : (prefix name : List ℕ) → OrNot (IsUnder prefix name)
under_or_not [] name = inl (record { rest = name; is = refl })
under_or_not (b ∷ prefix) [] = inr (λ u. let e : [] ≡ b ∷ (prefix ++ u.rest) = u.is in absurd cc)
under_or_not (b ∷ prefix) (c ∷ name) = by (equal_or_not c b) (under_or_not prefix name)
  where
    head : (x y : ℕ) (xs ys : List ℕ) → x ∷ xs ≡ y ∷ ys → x ≡ y
    head x y xs ys e = cc

    tail : (x y : ℕ) (xs ys : List ℕ) → x ∷ xs ≡ y ∷ ys → xs ≡ ys
    tail x y xs ys e = cc

    both : (x y : ℕ) (xs ys : List ℕ) → x ≡ y → xs ≡ ys → x ∷ xs ≡ y ∷ ys
    both x y xs ys e f = cc

    by : OrNot (c ≡ b) → OrNot (IsUnder prefix name) → OrNot (IsUnder (b ∷ prefix) (c ∷ name))
    by (inr differs) rest = inr (λ u. differs (head c b name (prefix ++ u.rest) u.is))
    by (inl e) (inr not_so) = inr (λ u. not_so (record { rest = u.rest; is = tail c b name (prefix ++ u.rest) u.is }))
    by (inl e) (inl u) = inl (record { rest = u.rest; is = both c b name (prefix ++ u.rest) e u.is })

-- ---- threads

abbrev OfThreads : Program → List ℕ → Type 0
OfThreads p class = IsSubtype p (codes "java/lang/Thread") class ⊎ ((class ≡ codes "java/lang/ThreadGroup") ⊎ IsUnder (codes "java/util/concurrent/") class)

pub of_threads_or_not : (p : Program) (class : List ℕ) → OrNot (IsOfThreads p class)
of_threads_or_not p class =
    carried_over to back
    (either_or_not (subtype_or_not p (codes "java/lang/Thread") class)
    (either_or_not (same_or_not class (codes "java/lang/ThreadGroup")) (under_or_not (codes "java/util/concurrent/") class)))
  where
    to : OfThreads p class → IsOfThreads p class
    to (inl h) = a_thread h
    to (inr (inl h)) = a_group h
    to (inr (inr h)) = concurrent h

    back : IsOfThreads p class → OfThreads p class
    back (a_thread h) = inl h
    back (a_group h) = inr (inl h)
    back (concurrent h) = inr (inr h)

-- ---- the four reasons

pub dynamic_or_not : (j : Judged) → OrNot (IsDynamic j)
dynamic_or_not j = action_or_not j.action refused

loads_or_not : (j : Judged) → OrNot (LoadsMethodConstant j)
loads_or_not j =
    both_or_not (action_or_not j.action load_constant)
    (λ e. held_or_not (λ (entry : PoolEntry). IsTrue (is_method_constant entry)) (λ entry. true_or_not (is_method_constant entry)) (entry_at j.pool j.operand))

pub constant_or_not : (j : Judged) → OrNot (UsesMethodConstant j)
constant_or_not j =
    either_part (method_constant j) (loads_or_not j)
    (such_or_not (Calls j) (λ (m : MemberReference). m.class ≡ codes "java/lang/invoke/MethodHandle") (called j) (λ m. same_or_not m.class (codes "java/lang/invoke/MethodHandle")))

abbrev ReflectiveMember : MemberReference → Type 0
ReflectiveMember m = (m.class ≡ codes "java/lang/Class") × ((m.signature.name ≢ codes "desiredAssertionStatus") × (m.signature.name ≢ codes "getName"))

reflective_member_or_not : (m : MemberReference) → OrNot (IsReflectiveMember m)
reflective_member_or_not m =
    carried_over to back
    (both_or_not (same_or_not m.class (codes "java/lang/Class"))
    (λ a. both_or_not (not_or_not (same_or_not m.signature.name (codes "desiredAssertionStatus"))) (λ b. not_or_not (same_or_not m.signature.name (codes "getName")))))
  where
    to : ReflectiveMember m → IsReflectiveMember m
    to h = record { of_class = h.0; no_status = h.1.0; no_name = h.1.1 }

    back : IsReflectiveMember m → ReflectiveMember m
    back r = (r.of_class, (r.no_status, r.no_name))

pub reflective_or_not : (j : Judged) → OrNot (IsReflective j)
reflective_or_not j =
    either_part (reflective j)
    (such_or_not (Names j) (IsUnder (codes "java/lang/reflect/")) (named_class j) (under_or_not (codes "java/lang/reflect/")))
    (such_or_not (Calls j) IsReflectiveMember (called j) reflective_member_or_not)

pub threads_or_not : (j : Judged) → OrNot (UsesThreads j)
threads_or_not j =
    either_part (threads j) (such_or_not (Names j) (IsOfThreads j.program) (named_class j) (of_threads_or_not j.program))
    (such_or_not (Calls j) (λ (m : MemberReference). Contains waiting_methods m.signature) (called j) (λ m. listed_or_not waiting_methods m.signature))
