-- The order of lines is total, and lines that it does not tell apart are one. What is ordered by a key is made again from the key.
use Rattle.std.proofs.Common.{◌≡◌, ℕ, nat_eq, nat_lt, eqb, cond, Bool, true, false, ◌&&◌, ◌||◌, List, [], ◌∷◌, Option, Some, None, refl, sym, ap, subst, ◌∙◌, arith}
use Rattle.std.specs.declared.cmp.Ordering.{Ordering}
use Rattle.std.specs.declared.cmp.Ordering.TheVariants.{Less, Equal, Greater}
use Rattle.std.specs.Cmp.{IsTotalOrder}
use Rattle.std.specs.Cmp.Lexicographic.{slice_cmp}
use Rattle.std.specs.Option.{option_cmp}
use Rattle.std.specs.Ordering.{bool_cmp, is_eq, nat_cmp, ordering_then}
use Rattle.std.specs.Str.{bytes_eq}
use Rattle.std.specs.Cmp.{bool_cmp_total}
use Rattle.std.specs.Cmp.Lexicographic.{options_total}
use Rattle.std.proofs.lemmas.Cmp.{nat_cmp_total, on_total, then_total, lists_total}
use Rattle.std.proofs.lemmas.Map.Lookups.{exact_bytes, exact_unsigned}
use Rattle.jvm_model.specs.declared.number.MethodNo.{MethodNo}
use Rattle.jvm_model.specs.declared.site.Site.{Site}
use Rattle.jvm_model.specs.declared.site.SiteKind.{SiteKind}
use Rattle.jvm_model.specs.declared.site.SiteKind.TheVariants as kinds
use Rattle.op_model.specs.declared.node.Spot.{Spot}
use Rattle.op_model.specs.declared.node.Spot.TheVariants as spots
use Rattle.slot_names.specs.declared.variable.Variable.TheVariants as variables
use Rattle.points_to_rules.specs.Facts as facts
use Rattle.site_report.specs.Sites.{kind_rank, method_rank}
use Rattle.access_paths.specs.Orders.{key_order, path_order}
use Rattle.access_paths.specs.Paths.{comes_before, path_key}
use Rattle.access_paths.proofs.KeyOrders.{is_eq-key_order, same_is_one}
use Rattle.stage_facts.specs.declared.plain.PlainFact.{PlainFact}
use Rattle.stage_facts.specs.declared.plain.PlainFact.TheVariants as plain
use Rattle.stage_facts.specs.Plain.{fact_of}
use Rattle.stage_facts.specs.Facts.{SiteFact, Tuple, none_yet, some_yet, of_object}
use Rattle.stage_edges.specs.Rules.{Edge}
use Rattle.certificate_lines.specs.declared.line.Holder.{Holder}
use Rattle.certificate_lines.specs.declared.line.Holder.TheVariants as holders
use Rattle.certificate_lines.specs.declared.line.ListedEdge.{ListedEdge}
use Rattle.certificate_lines.specs.declared.line.Line.{Line}
use Rattle.certificate_lines.specs.declared.line.Line.TheVariants as lines
use Rattle.certificate_lines.specs.LineTexts.{edge_of, holder_of}
use Rattle.certificate_lines.specs.LineOrder.{HolderKey, LineKey, bytes_cmp, edge_cmp, fact_cmp, fact_rank, holder_cmp, holder_key, holder_key_cmp, line_cmp, line_key, line_key_cmp, paths_cmp, site_cmp, spot_cmp, spot_offset, spot_rank, tuple_cmp, tuple_in}

-- ---- total

-- paths are ordered as the lists of their numbers
keys_agree : (ms ns : List ℕ) → slice_cmp nat_cmp ms ns ≡ key_order ms ns
keys_agree [] [] = refl
keys_agree [] (n ∷ ns) = refl
keys_agree (m ∷ ms) [] = refl
keys_agree (m ∷ ms) (n ∷ ns) = by (nat_lt m n) (nat_eq m n) (keys_agree ms ns)
  where
    by : (a b : Bool) → slice_cmp nat_cmp ms ns ≡ key_order ms ns
        → ordering_then (cond a Less (cond b Equal Greater)) (slice_cmp nat_cmp ms ns) ≡ cond (a || (b && comes_before ms ns)) Less (cond (b && bytes_eq ms ns) Equal Greater)
    by true b rest = refl
    by false true rest = rest
    by false false rest = refl

path_total : IsTotalOrder path_order
path_total = subst IsTotalOrder (λ i p q. keys_agree (path_key p) (path_key q) i) (on_total path_key (lists_total nat_cmp_total))

bytes_total : IsTotalOrder bytes_cmp
bytes_total = lists_total nat_cmp_total

pub site_total : IsTotalOrder site_cmp
site_total = then_total (on_total (λ (s : Site). kind_rank s.kind) nat_cmp_total) (then_total (on_total (λ (s : Site). method_rank s.method) nat_cmp_total)
    (then_total (on_total (λ (s : Site). s.offset) nat_cmp_total) (on_total (λ (s : Site). s.class) bytes_total)))

tuple_total : IsTotalOrder tuple_cmp
tuple_total = then_total (on_total (λ (t : Tuple). t.unique) bool_cmp_total) (then_total (on_total (λ (t : Tuple). t.state) nat_cmp_total)
    (then_total (on_total (λ (t : Tuple). t.may) bool_cmp_total)
    (then_total (on_total (λ (t : Tuple). t.must) (lists_total path_total)) (on_total (λ (t : Tuple). t.must_not) (lists_total path_total)))))

pub fact_total : IsTotalOrder fact_cmp
fact_total = then_total (on_total fact_rank nat_cmp_total) (on_total tuple_in (options_total tuple_total))

spot_total : IsTotalOrder spot_cmp
spot_total = then_total (on_total spot_rank nat_cmp_total) (on_total spot_offset nat_cmp_total)

pub edge_total : IsTotalOrder edge_cmp
edge_total = then_total (on_total (λ (e : Edge). method_rank e.method) nat_cmp_total) (then_total (on_total (λ (e : Edge). e.entry) fact_total)
    (then_total (on_total (λ (e : Edge). e.spot) spot_total) (on_total (λ (e : Edge). e.fact) fact_total)))

holder_key_total : IsTotalOrder holder_key_cmp
holder_key_total = then_total (on_total (λ (h : HolderKey). h.kind) nat_cmp_total) (then_total (on_total (λ (h : HolderKey). h.site) (options_total site_total))
    (then_total (on_total (λ (h : HolderKey). h.first) nat_cmp_total)
    (then_total (on_total (λ (h : HolderKey). h.second) nat_cmp_total) (on_total (λ (h : HolderKey). h.third) nat_cmp_total))))

holder_total : IsTotalOrder holder_cmp
holder_total = on_total holder_key holder_key_total

line_key_total : IsTotalOrder line_key_cmp
line_key_total = then_total (on_total (λ (x : LineKey). x.kind) nat_cmp_total) (then_total (on_total (λ (x : LineKey). x.first) nat_cmp_total)
    (then_total (on_total (λ (x : LineKey). x.second) nat_cmp_total) (then_total (on_total (λ (x : LineKey). x.holder) (options_total holder_total))
    (then_total (on_total (λ (x : LineKey). x.site) (options_total site_total)) (then_total (on_total (λ (x : LineKey). x.edge) (options_total edge_total))
    (then_total (on_total (λ (x : LineKey). x.name) bytes_total)
    (then_total (on_total (λ (x : LineKey). x.descriptor) bytes_total) (on_total (λ (x : LineKey). x.next) bytes_total))))))))

pub line_total : IsTotalOrder line_cmp
line_total = on_total line_key line_key_total

-- ---- exact

-- an order that is Equal only of one and the same
abbrev pub IsExact : {X : Type 0} → (X → X → Ordering) → Type 0
IsExact {X} R = (x y : X) → R x y ≡ Equal → x ≡ y

pub both : (o r : Ordering) → ordering_then o r ≡ Equal → (o ≡ Equal) × (r ≡ Equal)
both Less r e = absurd (cc e)
both Equal r e = (refl, e)
both Greater r e = absurd (cc e)

lists_exact : {X : Type 0} (R : X → X → Ordering) → IsExact R → (xs ys : List X) → slice_cmp R xs ys ≡ Equal → xs ≡ ys
lists_exact R exact [] [] e = refl
lists_exact R exact [] (y ∷ ys) e = absurd (cc e)
lists_exact R exact (x ∷ xs) [] e = absurd (cc e)
lists_exact R exact (x ∷ xs) (y ∷ ys) e =
    let parts = both (R x y) (slice_cmp R xs ys) e in
    let first = exact x y parts.0 in
    let rest = lists_exact R exact xs ys parts.1 in
    λ i. first i ∷ rest i

options_exact : {X : Type 0} (R : X → X → Ordering) → IsExact R → (x y : Option X) → option_cmp R x y ≡ Equal → x ≡ y
options_exact R exact None None e = refl
options_exact R exact None (Some y) e = absurd (cc e)
options_exact R exact (Some x) None e = absurd (cc e)
options_exact R exact (Some x) (Some y) e = ap Some (exact x y e)

-- what is made again from what an order looks at
again_exact : {X Y : Type 0} (key : X → Y) (back : Y → X) → ((x : X) → back (key x) ≡ x) → (x y : X) → key x ≡ key y → x ≡ y
again_exact key back again x y e = sym (again x) ∙ ap back e ∙ again y

bool_exact : IsExact bool_cmp
bool_exact false false e = refl
bool_exact false true e = absurd (cc e)
bool_exact true false e = absurd (cc e)
bool_exact true true e = refl

path_exact : IsExact path_order
path_exact x y e = same_is_one x y (sym (is_eq-key_order (path_key x) (path_key y)) ∙ ap is_eq e)

abbrev kind_from : ℕ → SiteKind
kind_from r = cond (eqb r 0) kinds.Boot (cond (eqb r 1) kinds.New (cond (eqb r 2) kinds.Result kinds.Thrown))

kind_again : (k : SiteKind) → kind_from (kind_rank k) ≡ k
kind_again kinds.Boot = refl
kind_again kinds.New = refl
kind_again kinds.Result = refl
kind_again kinds.Thrown = refl

pub method_exact : (m n : Option MethodNo) → method_rank m ≡ method_rank n → m ≡ n
method_exact None None e = refl
method_exact None (Some n) e = absurd (omega (arith, e))
method_exact (Some m) None e = absurd (omega (arith, e))
method_exact (Some m) (Some n) e = let same : m.0 ≡ n.0 = omega (arith, e) in λ i. Some (record { 0 = same i })

pub site_exact : IsExact site_cmp
site_exact s t e =
    let p = both (nat_cmp (kind_rank s.kind) (kind_rank t.kind)) _ e in
    let q = both (nat_cmp (method_rank s.method) (method_rank t.method)) _ p.1 in
    let r = both (nat_cmp s.offset t.offset) (bytes_cmp s.class t.class) q.1 in
    let kind = again_exact kind_rank kind_from kind_again s.kind t.kind (exact_unsigned _ _ p.0) in
    let method = method_exact s.method t.method (exact_unsigned _ _ q.0) in
    let offset = exact_unsigned s.offset t.offset r.0 in
    let class = exact_bytes s.class t.class r.1 in
    λ i. record { kind = kind i; method = method i; offset = offset i; class = class i }

tuple_exact : IsExact tuple_cmp
tuple_exact t u e =
    let p = both (bool_cmp t.unique u.unique) _ e in
    let q = both (nat_cmp t.state u.state) _ p.1 in
    let r = both (bool_cmp t.may u.may) _ q.1 in
    let s = both (paths_cmp t.must u.must) (paths_cmp t.must_not u.must_not) r.1 in
    let unique = bool_exact t.unique u.unique p.0 in
    let state = exact_unsigned t.state u.state q.0 in
    let may = bool_exact t.may u.may r.0 in
    let must = lists_exact path_order path_exact t.must u.must s.0 in
    let must_not = lists_exact path_order path_exact t.must_not u.must_not s.1 in
    λ i. record { unique = unique i; state = state i; must = must i; may = may i; must_not = must_not i }

abbrev fact_from : ℕ → Option Tuple → SiteFact
fact_from r None = cond (eqb r 0) none_yet some_yet
fact_from r (Some t) = of_object t

fact_again : (f : SiteFact) → fact_from (fact_rank f) (tuple_in f) ≡ f
fact_again none_yet = refl
fact_again some_yet = refl
fact_again (of_object t) = refl

pub fact_exact : IsExact fact_cmp
fact_exact f g e =
    let p = both (nat_cmp (fact_rank f) (fact_rank g)) (option_cmp tuple_cmp (tuple_in f) (tuple_in g)) e in
    let rank = exact_unsigned (fact_rank f) (fact_rank g) p.0 in
    let tuple = options_exact tuple_cmp tuple_exact (tuple_in f) (tuple_in g) p.1 in
    sym (fact_again f) ∙ (λ i. fact_from (rank i) (tuple i)) ∙ fact_again g

abbrev spot_from : ℕ → ℕ → Spot
spot_from r offset = cond (eqb r 0) (spots.Node offset) (cond (eqb r 1) spots.Returned spots.Thrown)

spot_again : (s : Spot) → spot_from (spot_rank s) (spot_offset s) ≡ s
spot_again (spots.Node offset) = refl
spot_again spots.Returned = refl
spot_again spots.Thrown = refl

spot_exact : IsExact spot_cmp
spot_exact s t e =
    let p = both (nat_cmp (spot_rank s) (spot_rank t)) (nat_cmp (spot_offset s) (spot_offset t)) e in
    let rank = exact_unsigned (spot_rank s) (spot_rank t) p.0 in
    let offset = exact_unsigned (spot_offset s) (spot_offset t) p.1 in
    sym (spot_again s) ∙ (λ i. spot_from (rank i) (offset i)) ∙ spot_again t

pub edge_exact : IsExact edge_cmp
edge_exact e f h =
    let p = both (nat_cmp (method_rank e.method) (method_rank f.method)) _ h in
    let q = both (fact_cmp e.entry f.entry) _ p.1 in
    let r = both (spot_cmp e.spot f.spot) (fact_cmp e.fact f.fact) q.1 in
    let method = method_exact e.method f.method (exact_unsigned _ _ p.0) in
    let entry = fact_exact e.entry f.entry q.0 in
    let spot = spot_exact e.spot f.spot r.0 in
    let fact = fact_exact e.fact f.fact r.1 in
    λ i. record { method = method i; entry = entry i; spot = spot i; fact = fact i }

-- ---- holders

abbrev holder_at : (site : Option Site) → (kind first second third : ℕ) → facts.Holder
holder_at None kind first second third =
    cond (eqb kind 0) (facts.variable (variables.At (record { 0 = first }) second third))
    (cond (eqb kind 1) (facts.variable (variables.Parameter (record { 0 = first }) second))
    (cond (eqb kind 4) (facts.static_field (record { 0 = first }))
    (cond (eqb kind 5) facts.kept_objects (cond (eqb kind 6) (facts.returned_by (record { 0 = first })) (facts.thrown_by (record { 0 = first }))))))
holder_at (Some s) kind first second third = cond (eqb kind 2) (facts.field_of s (record { 0 = first })) (facts.elements_of s)

abbrev holder_from : HolderKey → facts.Holder
holder_from h = holder_at h.site h.kind h.first h.second h.third

holder_again : (h : facts.Holder) → holder_from (holder_key h) ≡ h
holder_again (facts.variable (variables.At m offset slot)) = refl
holder_again (facts.variable (variables.Parameter m slot)) = refl
holder_again (facts.field_of s f) = refl
holder_again (facts.elements_of s) = refl
holder_again (facts.static_field f) = refl
holder_again facts.kept_objects = refl
holder_again (facts.returned_by m) = refl
holder_again (facts.thrown_by m) = refl

holder_key_exact : IsExact holder_key_cmp
holder_key_exact h k e =
    let p = both (nat_cmp h.kind k.kind) _ e in
    let q = both (option_cmp site_cmp h.site k.site) _ p.1 in
    let r = both (nat_cmp h.first k.first) _ q.1 in
    let s = both (nat_cmp h.second k.second) (nat_cmp h.third k.third) r.1 in
    let kind = exact_unsigned h.kind k.kind p.0 in
    let site = options_exact site_cmp site_exact h.site k.site q.0 in
    let first = exact_unsigned h.first k.first r.0 in
    let second = exact_unsigned h.second k.second s.0 in
    let third = exact_unsigned h.third k.third s.1 in
    λ i. record { kind = kind i; site = site i; first = first i; second = second i; third = third i }

holder_exact : IsExact holder_cmp
holder_exact h k e = again_exact holder_key holder_from holder_again h k (holder_key_exact (holder_key h) (holder_key k) e)

-- ---- lines

abbrev holder_back : facts.Holder → Holder
holder_back (facts.variable v) = holders.Variable v
holder_back (facts.field_of s f) = holders.Field s f
holder_back (facts.elements_of s) = holders.Elements s
holder_back (facts.static_field f) = holders.Static f
holder_back facts.kept_objects = holders.Kept
holder_back (facts.returned_by m) = holders.Returned m
holder_back (facts.thrown_by m) = holders.Thrown m

held_again : (h : Holder) → holder_back (holder_of h) ≡ h
held_again (holders.Variable v) = refl
held_again (holders.Field s f) = refl
held_again (holders.Elements s) = refl
held_again (holders.Static f) = refl
held_again holders.Kept = refl
held_again (holders.Returned m) = refl
held_again (holders.Thrown m) = refl

abbrev plain_back : SiteFact → PlainFact
plain_back none_yet = plain.NoneYet
plain_back some_yet = plain.SomeYet
plain_back (of_object t) = plain.OfObject t

plain_again : (f : PlainFact) → plain_back (fact_of f) ≡ f
plain_again plain.NoneYet = refl
plain_again plain.SomeYet = refl
plain_again (plain.OfObject t) = refl

abbrev edge_back : ℕ → Site → Edge → ListedEdge
edge_back stage s e = record { stage = stage; site = s; method = e.method; entry = plain_back e.entry; spot = e.spot; fact = plain_back e.fact }

edge_again : (e : ListedEdge) → edge_back e.stage e.site (edge_of e) ≡ e
edge_again e =
    let entry = plain_again e.entry in
    let fact = plain_again e.fact in
    λ i. record { stage = e.stage; site = e.site; method = e.method; entry = entry i; spot = e.spot; fact = fact i }

abbrev line_at : (holder : Option facts.Holder) → (site : Option Site) → (edge : Option Edge) → LineKey → Line
line_at holder None edge x =
    cond (eqb x.kind 0) lines.Version (cond (eqb x.kind 1) (lines.Class x.name) (cond (eqb x.kind 2) (lines.State x.name)
    (cond (eqb x.kind 3) (lines.Initial x.first) (cond (eqb x.kind 4) (lines.Error x.first)
    (cond (eqb x.kind 5) (lines.Event (record { name = x.name; descriptor = x.descriptor; next = x.next }))
    (cond (eqb x.kind 6) (lines.Entry (record { 0 = x.first })) (cond (eqb x.kind 7) (lines.Depth x.first) (cond (eqb x.kind 8) (lines.Reached (record { 0 = x.first }))
    (cond (eqb x.kind 10) (lines.Modifies (record { 0 = x.first }) (record { 0 = x.second })) lines.End)))))))))
line_at None (Some s) None x = lines.Claim x.first s
line_at None (Some s) (Some e) x = lines.PathEdge (edge_back x.first s e)
line_at (Some h) (Some s) edge x = lines.PointsTo (holder_back h) s

abbrev line_from : LineKey → Line
line_from x = line_at x.holder x.site x.edge x

line_again : (x : Line) → line_from (line_key x) ≡ x
line_again lines.Version = refl
line_again (lines.Class name) = refl
line_again (lines.State name) = refl
line_again (lines.Initial q) = refl
line_again (lines.Error q) = refl
line_again (lines.Event e) = refl
line_again (lines.Entry m) = refl
line_again (lines.Depth k) = refl
line_again (lines.Reached m) = refl
line_again (lines.PointsTo h s) = ap (λ (k : Holder). lines.PointsTo k s) (held_again h)
line_again (lines.Modifies m f) = refl
line_again (lines.Claim stage s) = refl
line_again (lines.PathEdge e) = ap lines.PathEdge (edge_again e)
line_again lines.End = refl

line_key_exact : IsExact line_key_cmp
line_key_exact x y h =
    let a = both (nat_cmp x.kind y.kind) _ h in
    let b = both (nat_cmp x.first y.first) _ a.1 in
    let c = both (nat_cmp x.second y.second) _ b.1 in
    let d = both (option_cmp holder_cmp x.holder y.holder) _ c.1 in
    let e = both (option_cmp site_cmp x.site y.site) _ d.1 in
    let f = both (option_cmp edge_cmp x.edge y.edge) _ e.1 in
    let g = both (bytes_cmp x.name y.name) _ f.1 in
    let l = both (bytes_cmp x.descriptor y.descriptor) (bytes_cmp x.next y.next) g.1 in
    let kind = exact_unsigned x.kind y.kind a.0 in
    let first = exact_unsigned x.first y.first b.0 in
    let second = exact_unsigned x.second y.second c.0 in
    let holder = options_exact holder_cmp holder_exact x.holder y.holder d.0 in
    let site = options_exact site_cmp site_exact x.site y.site e.0 in
    let edge = options_exact edge_cmp edge_exact x.edge y.edge f.0 in
    let name = exact_bytes x.name y.name g.0 in
    let descriptor = exact_bytes x.descriptor y.descriptor l.0 in
    let next = exact_bytes x.next y.next l.1 in
    λ i. record {
      kind = kind i;
      first = first i;
      second = second i;
      holder = holder i;
      site = site i;
      edge = edge i;
      name = name i;
      descriptor = descriptor i;
      next = next i;
    }

pub line_exact : (x y : Line) → line_cmp x y ≡ Equal → x ≡ y
line_exact x y e = again_exact line_key line_from line_again x y (line_key_exact (line_key x) (line_key y) e)
