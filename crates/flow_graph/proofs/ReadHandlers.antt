-- Each handler of a table that was read has passed the reader's test of handlers (JVMS 4.7.3).
use Rattle.std.proofs.Common.{◌≡◌, ℕ, zero, suc, Bool, true, false, cond, ◌&&◌, ◌||◌, eqb, ltb, List, [], ◌∷◌, length, Result, Ok, Err, refl, subst}
use Rattle.std.specs.Int.{w16}
use Rattle.std.specs.List.{AllByRecursion}
use Rattle.jvm_model.specs.declared.code.Handler.{Handler}
use Rattle.jvm_model.specs.declared.pool.EntryKind.TheVariants as kinds
use Rattle.jvm_model.specs.declared.pool.PoolEntry.{PoolEntry}
use Rattle.jvm_model.specs.declared.reason.Fault.{Fault}
use Rattle.jvm_model.specs.declared.reason.Reason.TheVariants.{BadHandler}
use Rattle.jvm_model.specs.Soundness.{leads_to}
use Rattle.byte_reader.specs.Reading.{Place, ◌>>=◌, number_at, items_at, table_at}
use Rattle.byte_reader.specs.Structures.{attribute_at}
use Rattle.code_reader.specs.CodeReading.{tail_at, handler_at, judged}
use Rattle.code_reader.specs.Division.{Spot, starts, is_handler}
use Rattle.flow_graph.proofs.ReadParts.{read_as, bind_ok, ok_is}

-- It leads to an instruction, and takes each object or leads to a class.
pub record IsReadHandler (pool : List PoolEntry) (spots : List Spot) (h : Handler) : Type 0 where
  pub target : starts spots h.target ≡ true
  pub typed : (eqb h.catch_type 0 || leads_to pool (kinds.Class ∷ []) h.catch_type) ≡ true

items_all : {X : Type 0} (P : X → Type 0) (read : Place → Result (X × Place) Fault) → ((p : Place) (x : X × Place) → read p ≡ read_as x → P x.0) → (n : ℕ) (p : Place) (xs : List X × Place) → items_at read n p ≡ read_as xs → AllByRecursion P xs.0
unfolding items_at
items_all P read each zero p xs e = subst (λ (y : List _ × Place). AllByRecursion P y.0) (ok_is _ _ e) tt
items_all {X} P read each (suc n) p xs e =
    let a = bind_ok (read p) (λ (y : X × Place). items_at read n y.1 >>= (λ others. Ok (y.0 ∷ others.0, others.1))) xs e in
    let b = bind_ok (items_at read n a.0.1) (λ (others : List X × Place). Ok (a.0.0 ∷ others.0, others.1)) xs a.2 in
    subst (λ (y : List X × Place). AllByRecursion P y.0) (ok_is _ _ b.2) (each p a.0 a.1, items_all P read each n a.0.1 b.0 b.1)

table_all : {X : Type 0} (P : X → Type 0) (read : Place → Result (X × Place) Fault) → ((p : Place) (x : X × Place) → read p ≡ read_as x → P x.0) → (p : Place) (xs : List X × Place) → table_at read p ≡ read_as xs → AllByRecursion P xs.0
unfolding table_at
table_all P read each p xs e =
    let count = bind_ok {A = ℕ × Place} (number_at w16 p) (λ (n : ℕ × Place). items_at read n.0 n.1) xs e in
    items_all P read each count.0.0 count.0.1 xs count.2

taken : {A : Type 0} (t : Bool) (r : Result A Fault) (f : Fault) (x : A) → cond t r (Err f) ≡ read_as x → (t ≡ true) × (r ≡ read_as x)
taken true r f x e = (refl, e)
taken false r f x e = absurd cc

module _ (pool : List PoolEntry) (long : ℕ) (spots : List Spot) (p : Place) where
  abbrev Read : Type 0
  Read = ℕ × Place

  abbrev handler_of : Read → Read → Read → Read → Handler
  handler_of start finish target kind = record { start = start.0; finish = finish.0; target = target.0; catch_type = kind.0 }

  abbrev on_kind : Read → Read → Read → Read → Result (Handler × Place) Fault
  on_kind start finish target kind = judged pool long spots p (handler_of start finish target kind, kind.1)

  abbrev on_target : Read → Read → Read → Result (Handler × Place) Fault
  on_target start finish target = number_at w16 target.1 >>= on_kind start finish target

  abbrev on_finish : Read → Read → Result (Handler × Place) Fault
  on_finish start finish = number_at w16 finish.1 >>= on_target start finish

  abbrev on_start : Read → Result (Handler × Place) Fault
  on_start start = number_at w16 start.1 >>= on_finish start

  handler_judged : (x : Handler × Place) → handler_at pool long spots p ≡ read_as x → is_handler pool long spots x.0 ≡ true
  unfolding handler_at
  handler_judged x e =
      let start = bind_ok (number_at w16 p) on_start x e in
      let finish = bind_ok (number_at w16 start.0.1) (on_finish start.0) x start.2 in
      let target = bind_ok (number_at w16 finish.0.1) (on_target start.0 finish.0) x finish.2 in
      let kind = bind_ok (number_at w16 target.0.1) (on_kind start.0 finish.0 target.0) x target.2 in
      let h = handler_of start.0 finish.0 target.0 kind.0 in
      by h kind.0.1 (is_handler pool long spots h) (refl {a = is_handler pool long spots h}) kind.2
    where
      by : (h : Handler) (after : Place) (b : Bool) → is_handler pool long spots h ≡ b → cond b (read_as (h, after)) (Err (record { offset = p.offset; reason = BadHandler })) ≡ read_as x → is_handler pool long spots x.0 ≡ true
      by h after true is r = subst (λ (y : Handler × Place). is_handler pool long spots y.0 ≡ true) (ok_is (h, after) x r) is
      by h after false is r = absurd cc

read_handler : (pool : List PoolEntry) (long : ℕ) (spots : List Spot) (h : Handler) → is_handler pool long spots h ≡ true → IsReadHandler pool spots h
read_handler pool long spots h is =
    let l = last (ltb h.start h.finish) (starts spots h.start) (starts spots h.finish || eqb h.finish long) (starts spots h.target) _ is in
    record { target = l.0; typed = l.1 }
  where
    last : (a b d f g : Bool) → (a && b && d && f && g) ≡ true → (f ≡ true) × (g ≡ true)
    last true true true true true h = (refl, refl)
    last true true true true false h = absurd cc
    last true true true false g h = absurd cc
    last true true false f g h = absurd cc
    last true false d f g h = absurd cc
    last false b d f g h = absurd cc

-- so what holds of each such handler holds of all that were read
pub all_handlers : (P : Handler → Type 0) (pool : List PoolEntry) (long : ℕ) (spots : List Spot) (p : Place) (handlers : List Handler) → ((h : Handler) → IsReadHandler pool spots h → P h)
    → tail_at pool long spots p ≡ Ok handlers → AllByRecursion P handlers
unfolding tail_at
all_handlers P pool long spots p handlers each e =
    let a = bind_ok {A = List Handler × Place} _ _ handlers e in
    let b = bind_ok (table_at attribute_at a.0.1) _ handlers a.2 in
    let same : a.0.0 ≡ handlers = ok_is _ _ (taken (eqb (length b.0.1.rest) 0) (read_as a.0.0) _ handlers b.2).1 in
    subst (λ (hs : List Handler). AllByRecursion P hs) same
    (table_all P (handler_at pool long spots) (λ q x r. each x.0 (read_handler pool long spots x.0 (handler_judged pool long spots q x r))) p a.0 a.1)
