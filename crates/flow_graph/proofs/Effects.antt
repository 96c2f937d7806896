-- The effects of the instructions of a code, one by one.
use Rattle.std.proofs.Common.{◌≡◌, ℕ, ◌+◌, ◌<◌, List, [], ◌∷◌, ◌++◌, length, take, get_or, refl, sym, subst, arith}
use Rattle.std.specs.List.{AllZip, AllByRecursion}
use Rattle.std.proofs.lemmas.List.{take_more}
use Rattle.std.proofs.lemmas.Slice.Zip.{all_zipped_more}
use Rattle.jvm_model.specs.declared.class_file.ClassFile.{ClassFile}
use Rattle.jvm_model.specs.declared.code.PlacedInstruction.{PlacedInstruction}
use Rattle.flow_graph.specs.declared.effect.Effect.{Effect}
use Rattle.flow_graph.specs.Effects.{HasEffect, HaveEffects}
use Rattle.flow_graph.specs.Reading.{IsSoundInstruction, HasEffectIfSound}

pub one_known : (c : ClassFile) (instructions : List PlacedInstruction) (effects : List Effect) (i : ℕ) (p : PlacedInstruction) (e : Effect) → i < length instructions → p ≡ get_or instructions i p
    → AllZip (HasEffectIfSound c) (take i instructions) effects → (IsSoundInstruction c p.instruction → HasEffect c.pool p.instruction e) → AllZip (HasEffectIfSound c) (take (i + 1) instructions) (effects ++ e ∷ [])
one_known c instructions effects i p e lt is known one =
    let longer : take (i + 1) instructions ≡ take i instructions ++ p ∷ [] =
    subst (λ (q : PlacedInstruction). take (i + 1) instructions ≡ take i instructions ++ q ∷ []) (sym is) (take_more instructions i p lt) in
    subst (λ (ps : List PlacedInstruction). AllZip (HasEffectIfSound c) ps (effects ++ e ∷ [])) (sym longer)
    (all_zipped_more (HasEffectIfSound c) (take i instructions) effects p e known (record { if_sound = one }))

pub zip_length : {A B : Type 0} (R : A → B → Type 0) (xs : List A) (ys : List B) → AllZip R xs ys → length ys ≡ length xs
zip_length R [] [] h = refl
zip_length R [] (y ∷ ys) h = absurd h
zip_length R (x ∷ xs) [] h = absurd h
zip_length R (x ∷ xs) (y ∷ ys) h = grind (arith, zip_length R xs ys h.1)

-- where each instruction is sound, all effects are known
pub have_effects : (c : ClassFile) (instructions : List PlacedInstruction) (effects : List Effect) → AllByRecursion (λ (p : PlacedInstruction). IsSoundInstruction c p.instruction) instructions
    → AllZip (HasEffectIfSound c) instructions effects → HaveEffects c.pool instructions effects
have_effects c [] [] sound known = tt
have_effects c [] (e ∷ effects) sound known = absurd known
have_effects c (p ∷ instructions) [] sound known = absurd known
have_effects c (p ∷ instructions) (e ∷ effects) sound known = (known.0.if_sound sound.0, have_effects c instructions effects sound.1 known.1)
