-- The method that a call goes to has the name and the descriptor that are called; and one that is called on an object is an instance method.
use Rattle.std.proofs.Common.{◌≡◌, ◌⊎◌, inl, inr, ℕ, Bool, true, false, List, [], ◌∷◌, Some, refl, sym, ap, ◌∙◌, subst}
use Rattle.std.specs.Bool.{MatchBool}
use Rattle.std.specs.List.{slice_get}
use Rattle.std.proofs.lemmas.Option.{same_Some}
use Rattle.jvm_model.specs.declared.pool.PoolEntry.{PoolEntry}
use Rattle.jvm_model.specs.Lookups.{MemberReference, Signature}
use Rattle.jvm_model.specs.Programs.{Class, Method, Program, is_static}
use Rattle.jvm_model.specs.Resolution.{IsFirst, IsFound, IsFoundIn, IsFoundInInterface, IsInstanceWith, IsOnlyDefault, declared_there, of_object}
use Rattle.jvm_model.specs.Selection.{IsSelectable, Overrides, Selects, SelectsFrom, SelectsSpecial, by_default, is_direct, upward}
use Rattle.jvm_model.specs.Table.{Action, plain, load_constant, load_element, store_element, probe_element, probe_array, probe_object, get_static, put_static, get_field, put_field, invoke_virtual, invoke_special, invoke_static, invoke_interface, make_object, make_array, throw_object, cast, leave_method, refused}
use Rattle.machine_bytecode.specs.Machine.{IsTarget, NamesMethod, SelectsByObject}
use Rattle.machine_bytecode.specs.States.{Value, World}
use Rattle.program_laws.proofs.Signed.{resolved_signed}

-- the action calls on an object
abbrev pub has_receiver : Action → Bool
has_receiver invoke_virtual = true
has_receiver invoke_special = true
has_receiver invoke_interface = true
has_receiver _ = false

pub record IsCalled (p : Program) (s : Signature) (receiver : Bool) (target : ℕ) : Type 0 where
  pub method : Method
  pub stands : slice_get p.methods target ≡ Some method
  pub same_call : method.signature ≡ s
  pub instance : receiver ≡ true → is_static method ≡ false

-- the first of a chain
first_of : (p : Program) (s : Signature) (Is : ℕ → Method → Type 0) → ((n : ℕ) (m : Method) → Is n m → slice_get p.methods n ≡ Some m → IsCalled p s true n) → (chain : List Class) (target : ℕ)
    → IsFirst p Is chain target → IsCalled p s true target
first_of p s Is each [] target first = absurd first
first_of p s Is each (c ∷ chain) target (inl d) = each target d.method d.is d.stands
first_of p s Is each (c ∷ chain) target (inr later) = first_of p s Is each chain target later.1

by_instance : (p : Program) (s : Signature) (n : ℕ) (m : Method) → IsInstanceWith s n m → slice_get p.methods n ≡ Some m → IsCalled p s true n
by_instance p s n m is stands = record { method = m; stands = stands; same_call = is.0; instance = λ e. is.1 }

default_called : (p : Program) (class : List ℕ) (s : Signature) (target : ℕ) → IsOnlyDefault p class s target → IsCalled p s true target
default_called p class s target only =
    let i = only.default.specific.inherited in
    record { method = i.method; stands = i.stands; same_call = i.same_call; instance = λ e. i.instance }

-- ---- by the object's class

selectable_called : (p : Program) (by_interface : Bool) (resolved : ℕ) (method : Method) → slice_get p.methods resolved ≡ Some method → (n : ℕ) (m : Method) → IsSelectable p by_interface resolved method n m
    → slice_get p.methods n ≡ Some m → IsCalled p method.signature true n
selectable_called p true resolved method at n m is stands = by_instance p method.signature n m is stands
selectable_called p false resolved method at n m is stands = by is.1
  where
    by : (n ≡ resolved) ⊎ Overrides p m method → IsCalled p method.signature true n
    by (inl e) =
        let same : m ≡ method = same_Some m method (sym stands ∙ ap (slice_get p.methods) e ∙ at) in
        record { method = m; stands = stands; same_call = ap (λ (k : Method). k.signature) same; instance = λ t. is.0 }
    by (inr overrides) = record { method = m; stands = stands; same_call = overrides.same_call; instance = λ t. is.0 }

selected_called : (p : Program) (by_interface : Bool) (class : List ℕ) (resolved : ℕ) (m : Method) → slice_get p.methods resolved ≡ Some m → is_static m ≡ false → (target : ℕ)
    → Selects p by_interface class resolved target → IsCalled p m.signature true target
selected_called p by_interface class resolved m at instance target selects = subst (λ (k : Method). IsCalled p k.signature true target) same (by (is_direct by_interface selects.method) selects.chosen)
  where
    same : selects.method ≡ m
    same = same_Some selects.method m (sym selects.stands ∙ at)

    by_search : SelectsFrom p class selects.method.signature (IsFound p class (IsSelectable p by_interface resolved selects.method)) target → IsCalled p selects.method.signature true target
    by_search (upward own) =
        first_of p selects.method.signature (IsSelectable p by_interface resolved selects.method) (selectable_called p by_interface resolved selects.method selects.stands) own.chain target own.first
    by_search (by_default none only) = default_called p class selects.method.signature target only

    by : (b : Bool) → MatchBool b (target ≡ resolved) (SelectsFrom p class selects.method.signature (IsFound p class (IsSelectable p by_interface resolved selects.method)) target) → IsCalled p selects.method.signature true target
    by true e =
        record {
          method = selects.method;
          stands = ap (slice_get p.methods) e ∙ selects.stands;
          same_call = refl;
          instance = λ t. ap is_static same ∙ instance;
        }
    by false search = by_search search

-- ---- by a special call

special_called : (p : Program) (current : List ℕ) (m : MemberReference) (target : ℕ) → SelectsSpecial p current m target → IsCalled p m.signature true target
special_called p current m target s = by s.chosen
  where
    each : (n : ℕ) (k : Method) → IsInstanceWith m.signature n k → slice_get p.methods n ≡ Some k → IsCalled p m.signature true n
    each n k is stands = by_instance p m.signature n k is stands

    in_interface : IsFoundInInterface p (IsInstanceWith m.signature) m.signature s.class.name target → IsCalled p m.signature true target
    in_interface (declared_there d) = each target d.method d.is d.stands
    in_interface (of_object none d) = record { method = d.method; stands = d.stands; same_call = d.is.0; instance = λ t. d.is.2 }

    own_by : (b : Bool) → MatchBool b (IsFoundInInterface p (IsInstanceWith m.signature) m.signature s.class.name target) (IsFound p s.class.name (IsInstanceWith m.signature) target) → IsCalled p m.signature true target
    own_by true h = in_interface h
    own_by false h = first_of p m.signature (IsInstanceWith m.signature) each h.chain target h.first

    by : SelectsFrom p s.start m.signature (IsFoundIn p (IsInstanceWith m.signature) m.signature s.class) target → IsCalled p m.signature true target
    by (upward own) = own_by s.class.is_interface own
    by (by_default none only) = default_called p s.start m.signature target only

-- ---- by the action

module _ (p : Program) (current : List ℕ) (pool : List PoolEntry) (operand : ℕ) (n : NamesMethod p pool operand) (w : World) (units : List Value) (target : ℕ) where
  resolved_is : n.method.signature ≡ n.called.signature
  resolved_is =
      let signed = resolved_signed p n.called.class n.called.signature n.resolves.class n.resolved n.resolves.search in
      ap (λ (m : Method). m.signature) (same_Some n.method signed.method (sym n.stands ∙ signed.stands)) ∙ signed.is

  by_object : (by_interface : Bool) → SelectsByObject p by_interface n.method n.resolved w units target → IsCalled p n.called.signature true target
  by_object by_interface s =
      subst (λ (k : Signature). IsCalled p k true target) resolved_is (selected_called p by_interface _ n.resolved n.method n.stands s.instance target s.selects)

  pub is_called : (a : Action) → IsTarget a p current pool operand n w units target → IsCalled p n.called.signature (has_receiver a) target
  is_called invoke_virtual t = by_object false t
  is_called invoke_special t = special_called p current n.called target t.1
  is_called invoke_static t = record { method = n.method; stands = ap (slice_get p.methods) t.1 ∙ n.stands; same_call = resolved_is; instance = λ e. absurd cc }
  is_called invoke_interface t = by_object true t
  is_called plain t = absurd t
  is_called load_constant t = absurd t
  is_called load_element t = absurd t
  is_called store_element t = absurd t
  is_called probe_element t = absurd t
  is_called probe_array t = absurd t
  is_called probe_object t = absurd t
  is_called get_static t = absurd t
  is_called put_static t = absurd t
  is_called get_field t = absurd t
  is_called put_field t = absurd t
  is_called make_object t = absurd t
  is_called make_array t = absurd t
  is_called throw_object t = absurd t
  is_called cast t = absurd t
  is_called leave_method t = absurd t
  is_called refused t = absurd t
