use Rattle.std.proofs.Common.{◌≡◌, ◌<◌, ℕ, List, Vec, Result, length, All, IfOk, IfErr, refl, sym, ap, ◌∙◌, subst, arith}
use Rattle.std.specs.List.{AllZip}
use Rattle.std.specs.declared.alloc.Global.{Global}
use Rattle.std.proofs.lemmas.List.{length-map}
use Rattle.std.proofs.lemmas.Option.{slice_get_read}
use Rattle.failure.proofs.HandedOn.{handed_ok}
use Rattle.jvm_model.specs.declared.program.Origin.{Origin}
use Rattle.jvm_model.specs.Linking.{class_from, names}
use Rattle.program_index.specs.declared.parents.Parents.{Parents}
use Rattle.program_index.specs.AboveLists.{AreAboveLists, IsSortedCopy}
use Rattle.program_model.specs.ByteOrder.{IsAscending}
use Rattle.program_model.specs.Declarations.{field_declarations, method_declarations}
use Rattle.program_model.specs.MemberLists.{IsTable}
use Rattle.program_model.specs.Numbering.{AreParents, HasNames}
use Rattle.program_index.specs.Supertypes.{AreInRange}
use Rattle.program_index.specs.UpwardOrder.{IsLeastOnCycle, IsUpward}
use Rattle.program_model.proofs.Assembled.{all_met, ascending, cycle_told, in_range, is_program, size_of_names, sound_at, supers_all}
use Rattle.program_index.proofs.Reaching.{sorted_above}
use Rattle.program_index.proofs.UpwardSteps.{above_from, none_above_itself}
use Rattle.program_model.proofs.program.Program.assemble.Goals as goal

pub parents_of_all-requires-clause-ascending : goal.parents_of_all-requires-clause-ascending
parents_of_all-requires-clause-ascending c =
    let named : c.in_ok-names.names.items ≡ names c.args.order.items = c.in_ok-names.ensures ∙ ap names c.deref.ensures.value in
    subst IsAscending (sym (c.deref-2.ensures.value ∙ named)) (ascending c.args.order.items c.requires.linkable)

pub parents_of_all-requires-clause-there : goal.parents_of_all-requires-clause-there
parents_of_all-requires-clause-there c =
    let named : c.in_ok-names.names.items ≡ names c.args.order.items = c.in_ok-names.ensures ∙ ap names c.deref.ensures.value in
    subst (λ (ns : List (List ℕ)). All (λ (o : Origin). HasNames ns (class_from o)) c.deref-3.result.now) (sym (c.deref-2.ensures.value ∙ named))
    (subst (λ (os : List Origin). All (λ (o : Origin). HasNames (names c.args.order.items) (class_from o)) os) (sym c.deref-3.ensures.value) (supers_all c.args.order.items c.requires.linkable))

pub upward_order-requires-clause-in_range : goal.upward_order-requires-clause-in_range
upward_order-requires-clause-in_range c =
    let are : AreParents c.args.order.items c.in_ok-parents.parents.items = subst (λ (os : List Origin). AreParents os c.in_ok-parents.parents.items) c.deref-3.ensures.value c.in_ok-parents.ensures in
    subst AreInRange (sym c.deref-4.ensures.value) (in_range c.args.order.items c.in_ok-parents.parents.items are)

pub upward_order-requires-clause-small : goal.upward_order-requires-clause-small
upward_order-requires-clause-small c =
    let named : c.in_ok-names.names.items ≡ names c.args.order.items = c.in_ok-names.ensures ∙ ap names c.deref.ensures.value in
    let are : AreParents c.args.order.items c.in_ok-parents.parents.items = subst (λ (os : List Origin). AreParents os c.in_ok-parents.parents.items) c.deref-3.ensures.value c.in_ok-parents.ensures in
    let size = size_of_names c.args.order.items c.in_ok-parents.parents.items are in
    let long = ap length named in
    let here = ap length c.deref-4.ensures.value in
    let counted = c.len.ensures in
    let kept = c.in_ok-names.names.ok in
    let test = c.if-len.false in
    omega (arith, size, long, here, counted, kept, test)

pub index-requires : goal.index-requires
index-requires c =
    let are : AreParents c.args.order.items c.in_ok-parents.parents.items = subst (λ (os : List Origin). AreParents os c.in_ok-parents.parents.items) c.deref-3.ensures.value c.in_ok-parents.ensures in
    let least = subst (λ (ps : List Parents). IsLeastOnCycle ps c.in-Err.class) c.deref-4.ensures.value
    (subst (λ (r : Result (Vec ℕ Global) ℕ). IfErr r (λ (k : ℕ). IsLeastOnCycle c.deref-4.result.now k)) c.in-Err.is c.in_ok-upward.ensures.cycle) in
    let within = above_from c.in_ok-parents.parents.items c.in-Err.class c.in-Err.class least.cyclic in
    let size = size_of_names c.args.order.items c.in_ok-parents.parents.items are in
    let long = length-map c.args.order.items (λ (o : Origin). (class_from o).name) in
    let kept = c.args.order.ok in
    omega (arith, within, size, long, kept)

pub cycle_at-requires : goal.cycle_at-requires
cycle_at-requires c =
    let below = index-requires c.before in
    let kept = c.args.order.ok in
    sound_at c.args.order.items c.in-Err.class c.index.result.now c.requires.sound (omega (arith, below, kept)) c.index.ensures

pub returns-in-Err : goal.returns-in-Err
returns-in-Err c =
    let are : AreParents c.args.order.items c.in_ok-parents.parents.items = subst (λ (os : List Origin). AreParents os c.in_ok-parents.parents.items) c.deref-3.ensures.value c.in_ok-parents.ensures in
    let least = subst (λ (ps : List Parents). IsLeastOnCycle ps c.in-Err.class) c.deref-4.ensures.value
    (subst (λ (r : Result (Vec ℕ Global) ℕ). IfErr r (λ (k : ℕ). IsLeastOnCycle c.deref-4.result.now k)) c.in-Err.is c.in_ok-upward.ensures.cycle) in
    let within = above_from c.in_ok-parents.parents.items c.in-Err.class c.in-Err.class least.cyclic in
    let size = size_of_names c.args.order.items c.in_ok-parents.parents.items are in
    let long = length-map c.args.order.items (λ (o : Origin). (class_from o).name) in
    let below : c.in-Err.class < length c.args.order.items = omega (arith, within, size, long) in
    let stands_there = slice_get_read c.args.order.items (length c.args.order.items) c.in-Err.class c.index.result.now refl below c.index.ensures in
    cycle_told c.args.order.items c.in_ok-parents.parents.items c.requires.linkable.differ are c.in-Err.class c.index.result.now stands_there least c.cycle_at.result c.cycle_at.ensures

pub above_lists-requires-clause-in_range : goal.above_lists-requires-clause-in_range
above_lists-requires-clause-in_range c =
    let are : AreParents c.args.order.items c.in_ok-parents.parents.items = subst (λ (os : List Origin). AreParents os c.in_ok-parents.parents.items) c.deref-3.ensures.value c.in_ok-parents.ensures in
    subst AreInRange (sym c.deref-5.ensures.value) (in_range c.args.order.items c.in_ok-parents.parents.items are)

pub invariant_of-result : goal.invariant_of-result
invariant_of-result c =
    let order = c.args.order.items in
    let parents = c.in_ok-parents.parents.items in
    let named : c.in_ok-names.names.items ≡ names c.args.order.items = c.in_ok-names.ensures ∙ ap names c.deref.ensures.value in
    let are : AreParents c.args.order.items c.in_ok-parents.parents.items = subst (λ (os : List Origin). AreParents os c.in_ok-parents.parents.items) c.deref-3.ensures.value c.in_ok-parents.ensures in
    let size = size_of_names order parents are in
    let long = ap length named in
    let counted = c.len.ensures in
    let kept = c.in_ok-names.names.ok in
    let test = c.if-len.false in
    let upward : IsUpward parents c.in-Ok.upward.items = subst (λ (ps : List Parents). IsUpward ps c.in-Ok.upward.items) c.deref-4.ensures.value
    (subst (λ (r : Result (Vec ℕ Global) ℕ). IfOk r (λ (v : Vec ℕ Global). IsUpward c.deref-4.result.now v.items)) c.in-Ok.is c.in_ok-upward.ensures.order) in
    let lists : AreAboveLists parents c.in_ok-above.above.items = subst (λ (ps : List Parents). AreAboveLists ps c.in_ok-above.above.items) c.deref-5.ensures.value c.in_ok-above.ensures in
    let copies : AllZip IsSortedCopy c.in_ok-above.above.items c.in_ok-sorted.sorted.items = subst (λ (ls : List (Vec ℕ Global)). AllZip IsSortedCopy ls c.in_ok-sorted.sorted.items) c.deref-7.ensures.value c.in_ok-sorted.ensures in
    record {
      sound = c.requires.sound;
      program = is_program order parents c.requires.linkable.differ are c.requires.sound c.requires.linkable (none_above_itself parents c.in-Ok.upward.items upward);
      few = omega (arith, counted, kept, test);
      ascending = subst IsAscending (sym named) (ascending order c.requires.linkable);
      names_are = named;
      parents_are = are;
      in_range = in_range order parents are;
      ordered = (c.in-Ok.upward.items, upward);
      lists_are = lists;
      sorted_are = sorted_above parents c.in_ok-above.above.items c.in_ok-sorted.sorted.items lists copies;
      methods_are = subst (λ (os : List Origin). IsTable method_declarations os c.in_ok-methods.methods) c.deref-8.ensures.value
          (handed_ok _ c.of.result c.in_ok-methods.methods (IsTable method_declarations c.deref-8.result.now) c.in_ok-methods.ensures.cases c.of.ensures.table);
      fields_are = subst (λ (os : List Origin). IsTable field_declarations os c.in_ok-fields.fields) c.deref-9.ensures.value
          (handed_ok _ c.of-2.result c.in_ok-fields.fields (IsTable field_declarations c.deref-9.result.now) c.in_ok-fields.ensures.cases c.of-2.ensures.table);
    }

pub returns : goal.returns
returns c =
    let are : AreParents c.args.order.items c.in_ok-parents.parents.items = subst (λ (os : List Origin). AreParents os c.in_ok-parents.parents.items) c.deref-3.ensures.value c.in_ok-parents.ensures in
    let upward : IsUpward c.in_ok-parents.parents.items c.in-Ok.upward.items = subst (λ (ps : List Parents). IsUpward ps c.in-Ok.upward.items) c.deref-4.ensures.value
    (subst (λ (r : Result (Vec ℕ Global) ℕ). IfOk r (λ (v : Vec ℕ Global). IsUpward c.deref-4.result.now v.items)) c.in-Ok.is c.in_ok-upward.ensures.order) in
    (refl, all_met c.args.order.items c.in_ok-parents.parents.items c.requires.linkable.differ are (none_above_itself c.in_ok-parents.parents.items c.in-Ok.upward.items upward))
