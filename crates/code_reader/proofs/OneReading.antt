-- The code of a method reads as one value, or has one first fault.
use Rattle.std.proofs.Common.{◌≡◌, ℕ, ◌+◌, List, ◌∷◌, ◌++◌, length, map, Option, Some, None, Result, Ok, Err, sym, ap, ◌∙◌, subst, sum_by, arith}
use Rattle.std.specs.List.{flat_map}
use Rattle.std.proofs.lemmas.Option.{same_Some}
use Rattle.jvm_model.specs.declared.class_file.Attribute.{Attribute}
use Rattle.jvm_model.specs.declared.class_file.ClassFile.{ClassFile}
use Rattle.jvm_model.specs.declared.class_file.Member.{Member}
use Rattle.jvm_model.specs.declared.code.Code.{Code}
use Rattle.jvm_model.specs.declared.code.Handler.{Handler}
use Rattle.jvm_model.specs.declared.descriptor.Descriptor.TheVariants.{Method}
use Rattle.jvm_model.specs.declared.descriptor.Kind.{Kind}
use Rattle.jvm_model.specs.declared.pool.PoolEntry.{PoolEntry}
use Rattle.jvm_model.specs.declared.reason.Reason.{Reason}
use Rattle.jvm_model.specs.DescriptorValues.{IsMethodOf}
use Rattle.jvm_model.specs.Instructions.{DecodedInstruction}
use Rattle.jvm_model.specs.Layout.{IsCodePlace, HasFirstCode}
use Rattle.jvm_model.specs.Soundness.{is_code}
use Rattle.jvm_model.specs.Spelling.{attribute}
use Rattle.jvm_model.proofs.MethodKinds.{one_value}
use Rattle.jvm_model.specs.declared.reason.Fault.{Fault}
use Rattle.byte_reader.specs.Reading.{Place}
use Rattle.byte_reader.proofs.Fields.{one_ok, one_err, not_both}
use Rattle.code_reader.specs.CodeReading.{in_code, placed, TakesUnits, by_kinds, no_method, receiver_units, TakesLocals, Head, head_at, tail_at, code_fault, ReadsBody, cut_before, wrong_code, wrong_after, reads, ReadsCode}
use Rattle.jvm_model.specs.DescriptorValues.{kind_units}
use Rattle.code_reader.specs.Division.{Spot, instruction_in, Divides, at_end, stops, goes_on}
use Rattle.code_reader.proofs.ToldCodes.{one_front, one_first}

-- ---- the division

-- a division gives instructions, and where and why it stops
abbrev Divided : Type 0
Divided = List Spot × Option (ℕ × Reason)

abbrev divided : List Spot → Option (ℕ × Reason) → Divided
divided spots stop = (spots, stop)

abbrev spot_at : ℕ → DecodedInstruction → Spot
spot_at offset i = record { offset = offset; instruction = i }

join : (xs ys others others2 : List Spot) (offset : ℕ) (i j : DecodedInstruction) (s t : Option (ℕ × Reason)) → xs ≡ spot_at offset i ∷ others → ys ≡ spot_at offset j ∷ others2 → j ≡ i
    → divided others s ≡ divided others2 t → divided xs s ≡ divided ys t
join xs ys others others2 offset i j s t is is2 same more =
    ap (λ (zs : List Spot). divided zs s) is ∙ ap (λ (d : Divided). divided (spot_at offset i ∷ d.0) d.1) more
    ∙ sym (ap (λ (k : DecodedInstruction). divided (spot_at offset k ∷ others2) t) same) ∙ sym (ap (λ (zs : List Spot). divided zs t) is2)

one_division : (pool : List PoolEntry) (code : List ℕ) (s t : Option (ℕ × Reason)) (offset : ℕ) (xs ys : List Spot) → Divides pool code s offset xs → Divides pool code t offset ys → divided xs s ≡ divided ys t
one_division pool code s t offset xs ys (at_end o zs end none is) (at_end o2 zs2 end2 none2 is2) = cc (is, is2, none, none2)
one_division pool code s t offset xs ys (at_end o zs end none is) (stops o2 zs2 why lt2 refused2 early2 is2) = absurd (omega (arith, end, lt2))
one_division pool code s t offset xs ys (at_end o zs end none is) (goes_on o2 zs2 j others2 lt2 read2 is2 rest2) = absurd (omega (arith, end, lt2))
one_division pool code s t offset xs ys (stops o zs why lt wrong early is) (at_end o2 zs2 end2 none2 is2) = absurd (omega (arith, end2, lt))
one_division pool code s t offset xs ys (stops o zs why lt wrong early is) (stops o2 zs2 why2 lt2 wrong2 early2 is2) =
    let same = one_err (instruction_in pool code offset) why why2 wrong wrong2 in
    cc (is, is2, early, early2, same)
one_division pool code s t offset xs ys (stops o zs why lt wrong early is) (goes_on o2 zs2 j others2 lt2 read2 is2 rest2) = absurd (not_both (instruction_in pool code offset) j why read2 wrong)
one_division pool code s t offset xs ys (goes_on o zs i others lt read is rest) (at_end o2 zs2 end2 none2 is2) = absurd (omega (arith, end2, lt))
one_division pool code s t offset xs ys (goes_on o zs i others lt read is rest) (stops o2 zs2 why2 lt2 wrong2 early2 is2) = absurd (not_both (instruction_in pool code offset) i why2 read wrong2)
one_division pool code s t offset xs ys (goes_on o zs i others lt read is rest) (goes_on o2 zs2 j others2 lt2 read2 is2 rest2) =
    let same : j ≡ i = one_ok (instruction_in pool code offset) j i read2 read in
    let rest_of : Divides pool code t (offset + i.size) others2 = subst (λ (k : DecodedInstruction). Divides pool code t (offset + k.size) others2) same rest2 in
    let more = one_division pool code s t (offset + i.size) others others2 rest rest_of in
    join xs ys others others2 offset i j s t is is2 same more

-- ---- the body

abbrev refused_as : Fault → Result Code Fault
refused_as f = Err f

-- what a body gives whose head is read and whose code is divided
abbrev by_parts : Option (ℕ × Reason) → Result (List Handler) Fault → Head → List Spot → Result Code Fault
by_parts (Some f) tail head spots = Err (record { offset = head.at + f.0; reason = f.1 })
by_parts None (Err f) head spots = Err (in_code f)
by_parts None (Ok handlers) head spots =
    Ok (record { at = head.at; instructions = map placed spots; handlers = handlers; max_stack = head.max_stack; max_locals = head.max_locals })

abbrev given_by : List PoolEntry → ℕ → Head × Place → Divided → Result Code Fault
given_by pool parameters begun d = by_parts (code_fault pool parameters begun.0 d.0 d.1) (tail_at pool (length begun.0.bytes) d.0 begun.1) begun.0 d.0

-- a body is cut before its code's end, or gives what its parts give
data GivesByParts (pool : List PoolEntry) (parameters : ℕ) (place : Place) (outcome : Result Code Fault) : Type 0 where
  cut : (f : Fault) → head_at place ≡ Err f → outcome ≡ Err (in_code f) → GivesByParts pool parameters place outcome
  begun : (h : Head × Place) (d : Divided) → head_at place ≡ Ok h → Divides pool h.0.bytes d.1 0 d.0 → outcome ≡ given_by pool parameters h d → GivesByParts pool parameters place outcome

gives : (pool : List PoolEntry) (parameters : ℕ) (place : Place) (outcome : Result Code Fault) → ReadsBody pool parameters place outcome → GivesByParts pool parameters place outcome
gives pool parameters place outcome (cut_before f e is) = cut f e is
gives pool parameters place outcome (wrong_code head after spots stop offset reason b told is) =
    begun (head, after) (spots, stop) b.begins b.divided (is ∙ sym (ap (λ (f : Option (ℕ × Reason)). by_parts f (tail_at pool (length head.bytes) spots after) head spots) told))
gives pool parameters place outcome (wrong_after head after spots stop f b none told is) =
    begun (head, after) (spots, stop) b.begins b.divided
    (is ∙ sym (ap (λ (g : Option (ℕ × Reason)). by_parts g (tail_at pool (length head.bytes) spots after) head spots) none ∙ ap (λ (r : Result (List Handler) Fault). by_parts None r head spots) told))
gives pool parameters place outcome (reads head after spots stop handlers b none told is) =
    begun (head, after) (spots, stop) b.begins b.divided
    (is ∙ sym (ap (λ (g : Option (ℕ × Reason)). by_parts g (tail_at pool (length head.bytes) spots after) head spots) none ∙ ap (λ (r : Result (List Handler) Fault). by_parts None r head spots) told))

same_given : (pool : List PoolEntry) (parameters : ℕ) (place : Place) (a b : Result Code Fault) → GivesByParts pool parameters place a → GivesByParts pool parameters place b → a ≡ b
same_given pool parameters place a b (cut f e is) (cut g e2 is2) = is ∙ ap (λ (h : Fault). refused_as (in_code h)) (one_err (head_at place) f g e e2) ∙ sym is2
same_given pool parameters place a b (cut f e is) (begun h d e2 divides is2) = absurd (not_both (head_at place) h f e2 e)
same_given pool parameters place a b (begun h d e divides is) (cut g e2 is2) = absurd (not_both (head_at place) h g e e2)
same_given pool parameters place a b (begun h d e divides is) (begun h2 d2 e2 divides2 is2) =
    let same : h2 ≡ h = one_ok (head_at place) h2 h e2 e in
    let other : Divides pool h.0.bytes d2.1 0 d2.0 = subst (λ (x : Head × Place). Divides pool x.0.bytes d2.1 0 d2.0) same divides2 in
    let parts : d ≡ d2 = one_division pool h.0.bytes d.1 d2.1 0 d.0 d2.0 divides other in
    is ∙ ap (λ (x : Divided). given_by pool parameters h x) parts ∙ sym (ap (λ (x : Head × Place). given_by pool parameters x d2) same) ∙ sym is2

-- ---- the parameters

one_sum : (text : List ℕ) (ks ls : List Kind) (k l : Option Kind) → IsMethodOf text ks k → IsMethodOf text ls l → sum_by kind_units ks ≡ sum_by kind_units ls
one_sum text ks ls k l x y = let same = one_value text (Method ks k) (Method ls l) x y in
    let kinds : ks ≡ ls = cc same in
    ap (λ (all : List Kind). sum_by kind_units all) kinds

one_count : (text : List ℕ) (m n : ℕ) → TakesUnits text m → TakesUnits text n → m ≡ n
one_count text m n (by_kinds ks k x is) (by_kinds ls l y is2) = is ∙ one_sum text ks ls k l x y ∙ sym is2
one_count text m n (by_kinds ks k x is) (no_method none is2) = absurd (none ks k x)
one_count text m n (no_method none is) (by_kinds ls l y is2) = absurd (none ls l y)
one_count text m n (no_method none is) (no_method none2 is2) = is ∙ sym is2

one_locals : (pool : List PoolEntry) (m : Member) (a b : ℕ) → TakesLocals pool m a → TakesLocals pool m b → a ≡ b
one_locals pool m a b x y =
    let name : x.name ≡ y.name = same_Some _ _ (sym x.named ∙ y.named) in
    let descriptor : x.descriptor ≡ y.descriptor = same_Some _ _ (sym x.described ∙ y.described) in
    let count : x.parameters ≡ y.parameters = one_count y.descriptor x.parameters y.parameters (subst (λ (t : List ℕ). TakesUnits t x.parameters) descriptor x.taken) y.taken in
    let receiver : receiver_units m (record { name = x.name; descriptor = x.descriptor }) ≡ receiver_units m (record { name = y.name; descriptor = y.descriptor }) =
    ap (λ (t : List ℕ). receiver_units m (record { name = t; descriptor = x.descriptor })) name ∙ ap (λ (t : List ℕ). receiver_units m (record { name = y.name; descriptor = t })) descriptor in
    omega (arith, x.units_are, y.units_are, count, receiver)

-- ---- the method

pub one_place : (c : ClassFile) (method m n : ℕ) → IsCodePlace c method m → IsCodePlace c method n → m ≡ n
one_place c method m n x y =
    let owners : x.owner ≡ y.owner = same_Some _ _ (sym x.there ∙ y.there) in
    let whole : x.before ++ x.code ∷ x.after ≡ y.before ++ y.code ∷ y.after = sym x.first.parts ∙ ap (λ (o : Member). o.attributes) owners ∙ y.first.parts in
    let fronts : x.before ≡ y.before =
    (one_front (is_code c.pool) x.before y.before x.code y.code x.after y.after whole x.first.none_before y.first.none_before x.first.named_code y.first.named_code).0 in
    omega (arith, x.offset, y.offset, ap (λ (all : List Attribute). length (flat_map attribute all)) fronts)

pub one_reading : (c : ClassFile) (method : ℕ) (a b : Result Code Fault) → ReadsCode c method a → ReadsCode c method b → a ≡ b
one_reading c method a b x y =
    let owners : x.owner ≡ y.owner = same_Some _ _ (sym x.there ∙ y.there) in
    let first : HasFirstCode c.pool y.owner.attributes x.code = subst (λ (o : Member). HasFirstCode c.pool o.attributes x.code) owners x.first in
    let codes_are : x.code ≡ y.code = one_first c.pool y.owner.attributes x.code y.code first y.first in
    let places : x.place ≡ y.place = one_place c method x.place y.place x.is_place y.is_place in
    let taken : TakesLocals c.pool y.owner x.parameters = subst (λ (o : Member). TakesLocals c.pool o x.parameters) owners x.taken in
    let counts : x.parameters ≡ y.parameters = one_locals c.pool y.owner x.parameters y.parameters taken y.taken in
    let there : ReadsBody c.pool x.parameters (record { offset = y.place; rest = x.code.body }) a = subst (λ (n : ℕ). ReadsBody c.pool x.parameters (record { offset = n; rest = x.code.body }) a) places x.body in
    let of_code : ReadsBody c.pool x.parameters (record { offset = y.place; rest = y.code.body }) a =
    subst (λ (d : Attribute). ReadsBody c.pool x.parameters (record { offset = y.place; rest = d.body }) a) codes_are there in
    let of_count : ReadsBody c.pool y.parameters (record { offset = y.place; rest = y.code.body }) a =
    subst (λ (n : ℕ). ReadsBody c.pool n (record { offset = y.place; rest = y.code.body }) a) counts of_code in
    let place : Place = record { offset = y.place; rest = y.code.body } in
    same_given c.pool y.parameters place a b (gives c.pool y.parameters place a of_count) (gives c.pool y.parameters place b y.body)
