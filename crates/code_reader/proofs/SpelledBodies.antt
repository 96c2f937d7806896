-- The body of a Code attribute: what is read of it is spelled so, and what is spelled so is read.
use Rattle.std.proofs.Common.{◌≡◌, ◌⊎◌, inl, inr, ℕ, zero, suc, ◌+◌, ◌^◌, ◌<◌, ◌≤◌, Bool, false, ◌||◌, ◌==◌, cond, ltb, List, [], ◌∷◌, ◌++◌, length, Result, Ok, Err, refl, sym, ap, ◌∙◌, subst, append_assoc, arith}
use Rattle.std.specs.Int.{w16, w32}
use Rattle.std.specs.List.{AllByRecursion}
use Rattle.std.proofs.lemmas.Bool.{eqb-true}
use Rattle.std.proofs.lemmas.List.{append-nil, nil_from_length}
use Rattle.std.proofs.lemmas.List.Elements.{recursion_from_All, All-from_recursion}
use Rattle.jvm_model.specs.declared.class_file.Attribute.{Attribute}
use Rattle.jvm_model.specs.declared.code.Handler.{Handler}
use Rattle.jvm_model.specs.declared.pool.PoolEntry.{PoolEntry}
use Rattle.jvm_model.specs.declared.reason.Reason.TheVariants.{CodeCut}
use Rattle.jvm_model.specs.Code.{CodeBody as Body, handler, HandlerFits, IsCode}
use Rattle.jvm_model.specs.Spelling.{u2, u4, table, attribute, AttributeFits}
use Rattle.jvm_model.specs.declared.reason.Fault.{Fault}
use Rattle.byte_reader.specs.Reading.{Place, ◌>>=◌, fault_at, number_at, bytes_at, table_at}
use Rattle.byte_reader.specs.Structures.{attribute_at}
use Rattle.byte_reader.proofs.Fields.{IsBytes, bytes_of_each, bind_ok, ok_is, one_ok, not_both, if_ok, unless_ok, goes_on_with, Takes, Takes-then, IsSpelledBy, IsReadBack, ListFits, wide16, wide32, number_takes, number_again, number_moves, bytes_take, bytes_again, table_takes, table_again}
use Rattle.byte_reader.proofs.Members.{attribute_takes, attribute_again}
use Rattle.code_reader.specs.CodeReading.{Head, code_length_at, head_at, handler_at, tail_at}
use Rattle.code_reader.specs.Division.{Spot, is_handler}

-- ---- what is read

-- a handler, whatever it covers
plain_handler_at : Place → Result (Handler × Place) Fault
plain_handler_at place = do
  start ← number_at w16 place
  finish ← number_at w16 start.1
  target ← number_at w16 finish.1
  catch_type ← number_at w16 target.1
  Ok (record { start = start.0; finish = finish.0; target = target.0; catch_type = catch_type.0 }, catch_type.1)

plain_handler_takes : IsSpelledBy plain_handler_at handler HandlerFits
unfolding plain_handler_at
plain_handler_takes place x fits e =
    let a = bind_ok _ _ x e in
    let b = bind_ok _ _ x a.2 in
    let c = bind_ok _ _ x b.2 in
    let d = bind_ok _ _ x c.2 in
    let start = number_takes w16 (2 ^ 16) wide16 place a.0 fits a.1 in
    let finish = number_takes w16 (2 ^ 16) wide16 a.0.1 b.0 start.0.rest_fits b.1 in
    let target = number_takes w16 (2 ^ 16) wide16 b.0.1 c.0 finish.0.rest_fits c.1 in
    let catch_type = number_takes w16 (2 ^ 16) wide16 c.0.1 d.0 target.0.rest_fits d.1 in
    let two = Takes-then place (u2 a.0.0) a.0.1 (u2 b.0.0) b.0.1 start.0 finish.0 in
    let three = Takes-then place (u2 a.0.0 ++ u2 b.0.0) b.0.1 (u2 c.0.0) c.0.1 two target.0 in
    let four = Takes-then place (u2 a.0.0 ++ u2 b.0.0 ++ u2 c.0.0) c.0.1 (u2 d.0.0) d.0.1 three catch_type.0 in
    let h : Handler = record { start = a.0.0; finish = b.0.0; target = c.0.0; catch_type = d.0.0 } in
    let made : Handler × Place = (h, d.0.1) in
    subst (λ (y : Handler × Place). Takes place (handler y.0) y.1 × HandlerFits y.0) (ok_is made x d.2)
    (four, record { start = start.1; finish = finish.1; target = target.1; catch_type = catch_type.1 })

-- one of a code is one
plainly_read : (pool : List PoolEntry) (long : ℕ) (spots : List Spot) (place : Place) (x : Handler × Place) → handler_at pool long spots place ≡ Ok x → plain_handler_at place ≡ Ok x
unfolding handler_at plain_handler_at
plainly_read pool long spots place x e =
    let a = bind_ok (number_at w16 place) _ x e in
    let b = bind_ok (number_at w16 a.0.1) _ x a.2 in
    let c = bind_ok (number_at w16 b.0.1) _ x b.2 in
    let d = bind_ok (number_at w16 c.0.1) _ x c.2 in
    let h : Handler = record { start = a.0.0; finish = b.0.0; target = c.0.0; catch_type = d.0.0 } in
    let made : Handler × Place = (h, d.0.1) in
    let g = if_ok (is_handler pool long spots h) _ (Ok made) x d.2 in
    goes_on_with _ _ _ _ a.1 (goes_on_with _ _ _ _ b.1 (goes_on_with _ _ _ _ c.1 (goes_on_with _ _ _ _ d.1 g.1)))

handler_takes : (pool : List PoolEntry) (long : ℕ) (spots : List Spot) → IsSpelledBy (handler_at pool long spots) handler HandlerFits
handler_takes pool long spots place x fits e = plain_handler_takes place x fits (plainly_read pool long spots place x e)

-- what stands before the handlers
pub record TakesHead (place : Place) (head : Head) (after : Place) : Type 0 where
  pub taken : Takes place (u2 head.max_stack ++ u2 head.max_locals ++ u4 (length head.bytes) ++ head.bytes) after
  pub max_stack : head.max_stack < 2 ^ 16
  pub max_locals : head.max_locals < 2 ^ 16
  pub long : length head.bytes < 2 ^ 32
  pub some : 1 ≤ length head.bytes

not_zero : (n : ℕ) (b : Bool) → (n == 0 || b) ≡ false → 1 ≤ n
not_zero zero b e = absurd cc
not_zero (suc n) b e = omega arith

-- the length of the code is a number that is not 0
length_read : (place : Place) (x : ℕ × Place) → code_length_at place ≡ Ok x → (number_at w32 place ≡ Ok x) × (1 ≤ x.0)
unfolding code_length_at
length_read place x e =
    let count = bind_ok (number_at w32 place) (λ long. cond (long.0 == 0 || ltb 65535 long.0) (fault_at place CodeCut) (Ok long)) x e in
    let g = unless_ok (count.0.0 == 0 || ltb 65535 count.0.0) _ _ _ count.2 in
    let same : count.0 ≡ x = ok_is count.0 x g.1 in
    (count.1 ∙ ap (λ (y : ℕ × Place). Ok y) same, subst (λ (y : ℕ × Place). 1 ≤ y.0) same (not_zero count.0.0 _ g.0))

pub head_takes : (place : Place) (head : Head) (after : Place) → IsBytes place.rest → head_at place ≡ Ok (head, after) → TakesHead place head after
unfolding head_at
head_takes place head after fits e =
    let stack = bind_ok _ _ (head, after) e in
    let locals = bind_ok _ _ (head, after) stack.2 in
    let long = bind_ok _ _ (head, after) locals.2 in
    let s = number_takes w16 (2 ^ 16) wide16 place stack.0 fits stack.1 in
    let l = number_takes w16 (2 ^ 16) wide16 stack.0.1 locals.0 s.0.rest_fits locals.1 in
    let read = length_read locals.0.1 long.0 long.1 in
    let n = number_takes w32 (2 ^ 32) wide32 locals.0.1 long.0 l.0.rest_fits read.0 in
    let body = bind_ok (bytes_at long.0.0 long.0.1) _ (head, after) long.2 in
    let b = bytes_take long.0.0 long.0.1 body.0 n.0.rest_fits body.1 in
    let two = Takes-then place (u2 stack.0.0) stack.0.1 (u2 locals.0.0) locals.0.1 s.0 l.0 in
    let three = Takes-then place (u2 stack.0.0 ++ u2 locals.0.0) locals.0.1 (u4 long.0.0) long.0.1 two n.0 in
    let four = Takes-then place (u2 stack.0.0 ++ u2 locals.0.0 ++ u4 long.0.0) long.0.1 body.0.0 body.0.1 three b.0 in
    let whole = subst (λ (k : ℕ). Takes place (u2 stack.0.0 ++ u2 locals.0.0 ++ u4 k ++ body.0.0) body.0.1) (sym b.1) four in
    let made : Head × Place = (record { max_stack = stack.0.0; max_locals = locals.0.0; at = long.0.1.offset; bytes = body.0.0 }, body.0.1) in
    subst (λ (y : Head × Place). TakesHead place y.0 y.1) (ok_is made (head, after) body.2)
    (record { taken = whole; max_stack = s.1; max_locals = l.1; long = omega (arith, n.1, b.1); some = omega (arith, read.1, b.1) })

-- the code stands after two limits and its length
pub head_stands : (place : Place) (head : Head) (after : Place) → head_at place ≡ Ok (head, after) → head.at ≡ place.offset + 8
unfolding head_at
head_stands place head after e =
    let stack = bind_ok _ _ (head, after) e in
    let locals = bind_ok _ _ (head, after) stack.2 in
    let long = bind_ok _ _ (head, after) locals.2 in
    let one = number_moves w16 place stack.0 stack.1 in
    let two = number_moves w16 stack.0.1 locals.0 locals.1 in
    let three = number_moves w32 locals.0.1 long.0 (length_read locals.0.1 long.0 long.1).0 in
    let body = bind_ok (bytes_at long.0.0 long.0.1) _ (head, after) long.2 in
    let made : Head × Place = (record { max_stack = stack.0.0; max_locals = locals.0.0; at = long.0.1.offset; bytes = body.0.0 }, body.0.1) in
    let at : long.0.1.offset ≡ head.at = ap (λ (y : Head × Place). y.0.at) (ok_is made (head, after) body.2) in
    omega arith

-- what follows the code
pub record TakesTail (place : Place) (handlers : List Handler) : Type 0 where
  pub attributes : List Attribute
  pub spelled : place.rest ≡ table handler handlers ++ table attribute attributes
  pub handlers_fit : ListFits HandlerFits handlers
  pub attributes_fit : ListFits AttributeFits attributes

pub tail_takes : (pool : List PoolEntry) (long : ℕ) (spots : List Spot) (place : Place) (handlers : List Handler) → IsBytes place.rest → tail_at pool long spots place ≡ Ok handlers → TakesTail place handlers
unfolding tail_at
tail_takes pool long spots place handlers fits e =
    let a = bind_ok {A = List Handler × Place} _ _ handlers e in
    let b = bind_ok {A = List Attribute × Place} (table_at attribute_at a.0.1) _ handlers a.2 in
    let g = if_ok (length b.0.1.rest == 0) _ (Ok a.0.0) handlers b.2 in
    let same : a.0.0 ≡ handlers = ok_is _ _ g.1 in
    let first = table_takes (handler_at pool long spots) handler HandlerFits (handler_takes pool long spots) place a.0 fits a.1 in
    let second = table_takes attribute_at attribute AttributeFits attribute_takes a.0.1 b.0 first.0.rest_fits b.1 in
    let nothing : b.0.1.rest ≡ [] = nil_from_length b.0.1.rest (eqb-true _ _ g.0) in
    let behind : a.0.1.rest ≡ table attribute b.0.0 = second.0.parts ∙ ap (λ (t : List ℕ). table attribute b.0.0 ++ t) nothing ∙ append-nil (table attribute b.0.0) in
    subst (TakesTail place) same (record {
      attributes = b.0.0;
      spelled = first.0.parts ∙ ap (λ (t : List ℕ). table handler a.0.0 ++ t) behind;
      handlers_fit = first.1;
      attributes_fit = second.1;
    })

-- ---- what is spelled is read back

handler_again : IsReadBack plain_handler_at handler HandlerFits
unfolding plain_handler_at
handler_again h o rest fits =
    let start = number_again w16 (2 ^ 16) wide16 h.start o (u2 h.finish ++ (u2 h.target ++ (u2 h.catch_type ++ rest))) fits.start in
    let finish = number_again w16 (2 ^ 16) wide16 h.finish start.0 (u2 h.target ++ (u2 h.catch_type ++ rest)) fits.finish in
    let target = number_again w16 (2 ^ 16) wide16 h.target finish.0 (u2 h.catch_type ++ rest) fits.target in
    let catch_type = number_again w16 (2 ^ 16) wide16 h.catch_type target.0 rest fits.catch_type in
    (catch_type.0, goes_on_with _ _ _ _ start.1 (goes_on_with _ _ _ _ finish.1 (goes_on_with _ _ _ _ target.1 (goes_on_with _ _ _ _ catch_type.1 refl))))

-- a body, whatever its code is
body_at : Place → Result (Body × Place) Fault
body_at place = do
  max_stack ← number_at w16 place
  max_locals ← number_at w16 max_stack.1
  long ← number_at w32 max_locals.1
  bytes ← bytes_at long.0 long.1
  handlers ← table_at plain_handler_at bytes.1
  attributes ← table_at attribute_at handlers.1
  Ok (record { max_stack = max_stack.0; max_locals = max_locals.0; bytes = bytes.0; handlers = handlers.0; attributes = attributes.0 }, attributes.1)

regroup : (a b c d e f rest : List ℕ) → (((((a ++ b) ++ c) ++ d) ++ e) ++ f) ++ rest ≡ a ++ (b ++ (c ++ (d ++ (e ++ (f ++ rest)))))
regroup a b c d e f rest = simp append_assoc

body_again : (bytes : List ℕ) (b : Body) → IsCode bytes b → (end : ℕ) × (body_at (record { offset = 0; rest = bytes ++ [] }) ≡ Ok (b, record { offset = end; rest = [] }))
unfolding body_at
body_again bytes b is =
    let r5 = table attribute b.attributes ++ [] in
    let r4 = table handler b.handlers ++ r5 in
    let r3 = b.bytes ++ r4 in
    let r2 = u4 (length b.bytes) ++ r3 in
    let r1 = u2 b.max_locals ++ r2 in
    let max_stack = number_again w16 (2 ^ 16) wide16 b.max_stack 0 r1 is.max_stack in
    let max_locals = number_again w16 (2 ^ 16) wide16 b.max_locals max_stack.0 r2 is.max_locals in
    let long = number_again w32 (2 ^ 32) wide32 (length b.bytes) max_locals.0 r3 is.code_length in
    let code = bytes_again b.bytes long.0 r4 in
    let handlers = table_again plain_handler_at handler HandlerFits handler_again b.handlers (long.0 + length b.bytes) r5 (is.handler_count, recursion_from_All HandlerFits b.handlers is.handlers) in
    let attributes = table_again attribute_at attribute AttributeFits attribute_again b.attributes handlers.0 [] (is.attribute_count, recursion_from_All AttributeFits b.attributes is.attributes) in
    let parts : bytes ++ [] ≡ u2 b.max_stack ++ r1 =
    ap (λ (t : List ℕ). t ++ []) is.spelled ∙ regroup (u2 b.max_stack) (u2 b.max_locals) (u4 (length b.bytes)) b.bytes (table handler b.handlers) (table attribute b.attributes) [] in (
      attributes.0,
      ap (λ (t : List ℕ). body_at (record { offset = 0; rest = t })) parts
          ∙ goes_on_with _ _ _ _ max_stack.1 (goes_on_with _ _ _ _ max_locals.1 (goes_on_with _ _ _ _ long.1 (goes_on_with _ _ _ _ code (goes_on_with _ _ _ _ handlers.1 (goes_on_with _ _ _ _ attributes.1 refl))))),
    )

-- bytes are one body
pub one_spelled : (bytes : List ℕ) (a b : Body) → IsCode bytes a → IsCode bytes b → a ≡ b
one_spelled bytes a b is_a is_b =
    let x = body_again bytes a is_a in
    let y = body_again bytes b is_b in
    ap (λ (z : Body × Place). z.0) (one_ok _ (a, record { offset = x.0; rest = [] }) (b, record { offset = y.0; rest = [] }) x.1 y.1)

-- ---- whether bytes are a body

all_of_it : (bytes text rest : List ℕ) → bytes ≡ text ++ rest → rest ≡ [] → bytes ≡ text
all_of_it bytes text rest parts nothing = parts ∙ ap (λ (r : List ℕ). text ++ r) nothing ∙ append-nil text

body_takes : (place : Place) (x : Body × Place) → IsBytes place.rest → body_at place ≡ Ok x → x.1.rest ≡ [] → IsCode place.rest x.0
unfolding body_at
body_takes place x fits e ends =
    let stack = bind_ok _ _ x e in
    let locals = bind_ok _ _ x stack.2 in
    let long = bind_ok _ _ x locals.2 in
    let code = bind_ok (bytes_at long.0.0 long.0.1) _ x long.2 in
    let handlers = bind_ok {A = List Handler × Place} _ _ x code.2 in
    let attributes = bind_ok {A = List Attribute × Place} (table_at attribute_at handlers.0.1) _ x handlers.2 in
    let s = number_takes w16 (2 ^ 16) wide16 place stack.0 fits stack.1 in
    let l = number_takes w16 (2 ^ 16) wide16 stack.0.1 locals.0 s.0.rest_fits locals.1 in
    let n = number_takes w32 (2 ^ 32) wide32 locals.0.1 long.0 l.0.rest_fits long.1 in
    let c = bytes_take long.0.0 long.0.1 code.0 n.0.rest_fits code.1 in
    let h = table_takes plain_handler_at handler HandlerFits plain_handler_takes code.0.1 handlers.0 c.0.rest_fits handlers.1 in
    let t = table_takes attribute_at attribute AttributeFits attribute_takes handlers.0.1 attributes.0 h.0.rest_fits attributes.1 in
    let two = Takes-then place (u2 stack.0.0) stack.0.1 (u2 locals.0.0) locals.0.1 s.0 l.0 in
    let three = Takes-then place (u2 stack.0.0 ++ u2 locals.0.0) locals.0.1 (u4 long.0.0) long.0.1 two n.0 in
    let four = Takes-then place (u2 stack.0.0 ++ u2 locals.0.0 ++ u4 long.0.0) long.0.1 code.0.0 code.0.1 three c.0 in
    let five = Takes-then place (u2 stack.0.0 ++ u2 locals.0.0 ++ u4 long.0.0 ++ code.0.0) code.0.1 (table handler handlers.0.0) handlers.0.1 four h.0 in
    let six = Takes-then place (u2 stack.0.0 ++ u2 locals.0.0 ++ u4 long.0.0 ++ code.0.0 ++ table handler handlers.0.0) handlers.0.1 (table attribute attributes.0.0) attributes.0.1 five t.0 in
    let b : Body = record { max_stack = stack.0.0; max_locals = locals.0.0; bytes = code.0.0; handlers = handlers.0.0; attributes = attributes.0.0 } in
    let made : Body × Place = (b, attributes.0.1) in
    let same : made ≡ x = ok_is made x attributes.2 in
    let text : List ℕ = u2 stack.0.0 ++ u2 locals.0.0 ++ u4 long.0.0 ++ code.0.0 ++ table handler handlers.0.0 ++ table attribute attributes.0.0 in
    let nothing : attributes.0.1.rest ≡ [] = ap (λ (y : Body × Place). y.1.rest) same ∙ ends in
    let whole : place.rest ≡ text = all_of_it place.rest text attributes.0.1.rest six.parts nothing in
    subst (λ (y : Body × Place). IsCode place.rest y.0) same (record {
      max_stack = s.1;
      max_locals = l.1;
      code_length = omega (arith, n.1, c.1);
      handler_count = h.1.0;
      handlers = All-from_recursion HandlerFits handlers.0.0 h.1.1;
      attribute_count = t.1.0;
      attributes = All-from_recursion AttributeFits attributes.0.0 t.1.1;
      spelled = subst (λ (k : ℕ). place.rest ≡ u2 stack.0.0 ++ u2 locals.0.0 ++ u4 k ++ code.0.0 ++ table handler handlers.0.0 ++ table attribute attributes.0.0) (sym c.1) whole;
    })

-- bytes are a body, or they are none
pub body_or_not : (bytes : List ℕ) → AllByRecursion (λ b. b < 2 ^ 8) bytes → ((b : Body) × IsCode bytes b) ⊎ ((b : Body) → IsCode bytes b → ⊥)
body_or_not bytes fits = by (body_at (record { offset = 0; rest = bytes })) refl
  where
    again : (b : Body) → IsCode bytes b → (end : ℕ) × (body_at (record { offset = 0; rest = bytes }) ≡ Ok (b, record { offset = end; rest = [] }))
    again b is =
        let a = body_again bytes b is in
        (a.0, subst (λ (t : List ℕ). body_at (record { offset = 0; rest = t }) ≡ Ok (b, record { offset = a.0; rest = [] })) (append-nil bytes) a.1)

    with_rest : (x : Body × Place) → body_at (record { offset = 0; rest = bytes }) ≡ Ok x → (rest : List ℕ) → x.1.rest ≡ rest → ((b : Body) × IsCode bytes b) ⊎ ((b : Body) → IsCode bytes b → ⊥)
    with_rest x e [] ends = inl (x.0, body_takes (record { offset = 0; rest = bytes }) x (bytes_of_each bytes fits) e ends)
    with_rest x e (r ∷ rest) more = inr missing
      where
        missing : (b : Body) → IsCode bytes b → ⊥
        missing b is =
            let a = again b is in
            let same = ap (λ (y : Body × Place). y.1.rest) (one_ok _ (b, record { offset = a.0; rest = [] }) x a.1 e) in
            let both : [] ≡ r ∷ rest = same ∙ more in
            absurd cc

    by : (read : Result (Body × Place) Fault) → body_at (record { offset = 0; rest = bytes }) ≡ read → ((b : Body) × IsCode bytes b) ⊎ ((b : Body) → IsCode bytes b → ⊥)
    by (Err f) e = inr (λ b is. let a = again b is in not_both _ (b, record { offset = a.0; rest = [] }) f a.1 e)
    by (Ok x) e = with_rest x e x.1.rest refl
