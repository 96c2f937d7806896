use Rattle.std.proofs.Common.{◌≡◌, List, map, sym, ◌∙◌, ap, subst}
use Rattle.std.specs.List.{Contains}
use Rattle.std.specs.declared.alloc.Global.{Global}
use Rattle.std.specs.declared.vec.Vec.{Vec}
use Rattle.jvm_model.specs.declared.site.Site.{Site}
use Rattle.points_to_rules.specs.declared.running_method.RunningMethod.{RunningMethod}
use Rattle.ground.specs.declared.lists.FieldWrite.{FieldWrite}
use Rattle.ground.specs.Lists.{nodes_of, number_of}
use Rattle.points_to.specs.Queues.{items_of}
use Rattle.call_graph.specs.declared.sets.Sets.{Sets}
use Rattle.call_graph.specs.Sets.{AreSetsOf}
use Rattle.call_graph.specs.Written.{AreWrites}
use Rattle.call_graph.proofs.FoundFacts.{sets_in}
use Rattle.call_graph.proofs.GroundFacts.{is_ground}
use Rattle.call_graph.proofs.SolutionLists.{are_sound, numbered_as, sets_same}
use Rattle.call_graph.proofs.building.ground_of.Goals as goal

pub of-requires : goal.of-requires
of-requires c =
    let s = c.args.solution in
    let f = c.in_ok-found.found in
    let l = c.joined.result in
    let j = c.joined.ensures in
    let (found, facts, targets) = c.requires.facts in
    let are = numbered_as s.tables l (ap (λ (ss : Vec Site Global). ss.items) j.sites ∙ c.in_ok-found.ensures.sites) j.holders in
    let same = sets_same l f.sets j.held j.running j.calls j.targets in
    let sets = subst (λ (x : Sets). AreSetsOf s.tables (items_of s.items) x) (sym same) c.in_ok-found.ensures.sets in
    let numbered : l.numbers.keys ≡ map number_of l.methods.items =
    (λ i. (j.numbers i).keys) ∙ c.in_ok-found.ensures.numbers ∙ ap (λ (ms : Vec RunningMethod Global). map number_of ms.items) (sym j.methods) in
    let listed = λ (m : RunningMethod) (there : Contains l.methods.items m). subst (λ (ms : Vec RunningMethod Global). Contains ms.items m) j.methods there in
    are_sound c.args.program.now s.tables l are (items_of s.items) found facts sets (λ m there. c.requires.methods m (listed m there))
    (λ m there. c.requires.names m (listed m there)) numbered c.apart.ensures j.stand targets j.apart j.few

pub returns-clause-methods : goal.returns-clause-methods
returns-clause-methods c = c.of.ensures.methods ∙ ap (λ (ms : Vec RunningMethod Global). map nodes_of ms.items) c.joined.ensures.methods

pub returns-clause-facts : goal.returns-clause-facts
returns-clause-facts c = λ found facts.
    let p = c.args.program.now in
    let s = c.args.solution in
    let f = c.in_ok-found.found in
    let l = c.joined.result in
    let j = c.joined.ensures in
    let are = numbered_as s.tables l (ap (λ (ss : Vec Site Global). ss.items) j.sites ∙ c.in_ok-found.ensures.sites) j.holders in
    let same = sets_same l f.sets j.held j.running j.calls j.targets in
    let sets = subst (λ (x : Sets). AreSetsOf s.tables (items_of s.items) x) (sym same) c.in_ok-found.ensures.sets in
    let by_methods = subst (λ (ms : Vec RunningMethod Global). AreWrites p (map nodes_of ms.items) f.sets f.writes.keys) (sym j.methods) c.in_ok-found.ensures.writes in
    let by_sets = subst (λ (x : Sets). AreWrites p (map nodes_of l.methods.items) x f.writes.keys) (sym same) by_methods in
    let w = subst (λ (ws : List FieldWrite). AreWrites p (map nodes_of l.methods.items) (sets_in l) ws) (sym (λ i. (j.writes i).keys)) by_sets in
    is_ground s.tables l are (items_of s.items) found facts sets p w.own w.edges w.stores w.leads w.closed c.of.result c.of.ensures.program c.of.ensures.methods
    c.of.ensures.holders c.of.ensures.facts
