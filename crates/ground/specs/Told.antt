-- This crate's own proofs alone rest on this module.
-- The facts of lists, in an order.
use Rattle.std.specs.Prelude.{List, [], ◌∷◌, ◌++◌, map, Option, Some, None, slice_get}
use Rattle.std.specs.declared.alloc.Global.{Global}
use Rattle.std.specs.declared.vec.Vec.{Vec}
use Rattle.jvm_model.specs.declared.number.MethodNo.{MethodNo}
use Rattle.jvm_model.specs.declared.number.SiteNo.{SiteNo}
use Rattle.jvm_model.specs.declared.site.Site.{Site}
use Rattle.jvm_model.specs.Programs.{Program}
use Rattle.op_model.specs.declared.node.NodeRef.{NodeRef}
use Rattle.points_to_rules.specs.Facts.{Fact, Holder, may_hold, may_run, may_call, may_write}
use Rattle.ground.specs.declared.lists.FieldWrite.{FieldWrite}
use Rattle.ground.specs.declared.lists.Lists.{Lists}
use Rattle.ground.specs.Findings.{Findings}
use Rattle.ground.specs.Lists.{holders_of, nodes_of}

-- What a key and each of the values tell.
abbrev pub told_by : {K V : Type 0} → (K → V → List Fact) → K → List V → List Fact
told_by tells k [] = []
told_by tells k (v ∷ vs) = tells k v ++ told_by tells k vs

-- What the keys and the values of their numbers tell.
abbrev pub told : {K V : Type 0} → (K → V → List Fact) → List K → List (Vec V Global) → List Fact
told tells [] groups = []
told tells (k ∷ ks) [] = []
told tells (k ∷ ks) (group ∷ groups) = told_by tells k group.items ++ told tells ks groups

-- The holder may hold the site, if there is one.
abbrev pub held_fact : Holder → Option Site → List Fact
held_fact h None = []
held_fact h (Some s) = may_hold h s ∷ []

abbrev pub site_facts : List Site → Holder → SiteNo → List Fact
site_facts sites h number = held_fact h (slice_get sites number.0)

abbrev pub call_facts : NodeRef → MethodNo → List Fact
call_facts call target = may_call call target ∷ []

abbrev pub write_fact : FieldWrite → Fact
write_fact w = may_write w.method w.field

-- What may be held, what may run, which calls may go where, and what may be written.
abbrev pub facts_of : Lists → List Fact
facts_of l =
    told (site_facts l.sites.items) (holders_of l) l.held.groups.items
    ++ (map may_run l.running.keys ++ (told call_facts l.calls.keys l.targets.groups.items ++ map write_fact l.writes.keys))

-- What lists tell of a program.
unfoldable pub findings_of : Program → Lists → Findings
findings_of p l = record { program = p; methods = map nodes_of l.methods.items; sites = l.sites.items; holders = holders_of l; facts = facts_of l }
