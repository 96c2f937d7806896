-- What the rules of options say of the arguments that have them, and of a command to which these are added.
use Rattle.std.proofs.Common.{codes, ◌≡◌, ◌∙◌, ℕ, zero, suc, ◌<◌, Bool, true, false, not, ◌&&◌, ◌||◌, List, [], ◌∷◌, length, map, fold, Option, Some, None, slice_get, is_some, true≢false, refl, sym, ap, inl, inr, arith}
use Rattle.std.specs.List.{All, list_all, list_any, slice_index_or}
use Rattle.std.specs.Str.{bytes_eq}
use Rattle.std.proofs.lemmas.Option.{none-some, same_Some}
use Rattle.std.proofs.lemmas.Slice.Eq.{bytes_eq-Decides}
use Rattle.clap.specs.Built.{AddsArg, AddsInTurn, FitsChain, HasDistinctIds, IsPlainArg, TakesValue}
use Rattle.clap.specs.Facts.{least_values, unwrap_or_range}
use Rattle.clap.specs.Simple.{App, app_of, with_rule}
use Rattle.clap.specs.Walk.{Rule, Text, is_empty, is_simple_arg, rule_of}
use Rattle.clap.specs.declared.builder.arg.Arg.{Arg}
use Rattle.clap.specs.declared.builder.command.Command.{Command}
use Rattle.clap.proofs.SimpleLemmas.{is_false, is_nil}
use Rattle.clap.proofs.WalkLemmas.{both}
use Rattle.command_words.specs.Command.{required_option}

-- ---- an argument by itself

no_value : {X : Type 0} (o : Option X) → not (is_some o) ≡ true → o ≡ None
no_value None e = refl
no_value (Some x) e = absurd (true≢false (sym e))

-- what a simple argument leaves out
record IsBare (a : Arg) : Type 0 where
  overrides : a.overrides.items ≡ []
  groups : a.groups.items ≡ []
  delimiter : a.val_delim ≡ None
  global : a.global ≡ false

simple_is_bare : (a : Arg) → is_simple_arg a ≡ true → IsBare a
simple_is_bare a e =
    let p = both (is_empty a.overrides.items) _ e in
    let q = both (is_empty a.default_vals_ifs.items) _ p.1 in
    let r = both (is_empty a.groups.items) _ q.1 in
    let s = both (not (is_some a.val_delim)) _ r.1 in
    let t = both (not (is_some a.terminator)) _ s.1 in
    let u = both (not a.allow_hyphen_values) _ t.1 in
    let v = both (not a.allow_negative_numbers) _ u.1 in
    let w = both (not a.require_equals) _ v.1 in
    let x = both (not a.last) _ w.1 in
    record { overrides = is_nil _ p.0; groups = is_nil _ r.0; delimiter = no_value _ s.0; global = is_false _ x.1 }

-- the rule is that of an argument that is simple and has no rule on others, of an id of its own
abbrev pub is_own_rule : Rule → Bool
is_own_rule r = r.is_simple && (r.is_free && (not (is_empty r.id) && (not (bytes_eq r.id (codes "help")) && not (bytes_eq r.id (codes "version")))))

other_text : (text other : Text) → not (bytes_eq text other) ≡ true → text ≡ other → ⊥
other_text text other e same = true≢false (sym ((bytes_eq-Decides text other).1 same) ∙ is_false _ e)

named : (text : Text) → not (is_empty text) ≡ true → text ≡ [] → ⊥
named [] e none = true≢false (sym e)
named (x ∷ xs) e none = absurd (omega (arith, ap length none))

own_fits : (a : Arg) → is_own_rule (rule_of a) ≡ true → FitsChain a
own_fits a e =
    let simple = both _ _ e in
    let free = both _ _ simple.1 in
    let id = both _ _ free.1 in
    let auto = both _ _ id.1 in
    let bare = simple_is_bare a simple.0 in
    let alone = both (not a.exclusive) _ free.0 in
    let conflicts = both (is_empty a.conflicts.items) _ alone.1 in
    let plain : IsPlainArg a = (is_false _ alone.0, is_nil _ conflicts.0, bare.overrides, bare.groups) in (
      plain,
      bare.global,
      named a.id.now id.0,
      λ is. elim is [
        | inl help ↦ other_text a.id.now (codes "help") auto.0 help
        | inr version ↦ other_text a.id.now (codes "version") auto.1 version
      ],
    )

-- an option that has to be there takes a value
pub takes_value : (a : Arg) (name : Text) → rule_of a ≡ required_option name → TakesValue a
takes_value a name is =
    let bare = simple_is_bare a (ap (λ (r : Rule). r.is_simple) is) in
    let least : least_values a ≡ 1 = ap (λ (r : Rule). (unwrap_or_range r.range).start_inclusive) is in
    (ap (λ (r : Rule). r.required) is, ap (λ (r : Rule). r.action) is, bare.delimiter, omega arith)

-- ---- arguments in a list

pub own_fit : (xs : List Arg) → list_all is_own_rule (map rule_of xs) ≡ true → All FitsChain xs
own_fit [] e k d lt = absurd (omega arith)
own_fit (x ∷ xs) e zero d lt = own_fits x (both _ _ e).0
own_fit (x ∷ xs) e (suc k) d lt = own_fit xs (both _ _ e).1 k d (omega arith)

-- no two rules have one id
abbrev pub are_apart : List Rule → Bool
are_apart [] = true
are_apart (r ∷ rs) = not (list_any (λ q. bytes_eq q.id r.id) rs) && are_apart rs

neither : (a b : Bool) → (a || b) ≡ false → (a ≡ false) × (b ≡ false)
neither true b e = absurd (true≢false e)
neither false b e = (refl, e)

not_again : (id : Text) (xs : List Arg) → list_any (λ (q : Rule). bytes_eq q.id id) (map rule_of xs) ≡ false
    → (k : ℕ) (d : Arg) → k < length xs → (slice_index_or xs k d).id.now ≡ id → ⊥
not_again id [] e k d lt same = absurd (omega arith)
not_again id (x ∷ xs) e zero d lt same = true≢false (sym ((bytes_eq-Decides x.id.now id).1 same) ∙ (neither _ _ e).0)
not_again id (x ∷ xs) e (suc k) d lt same = not_again id xs (neither _ _ e).1 k d (omega arith) same

pub apart_distinct : (xs : List Arg) → are_apart (map rule_of xs) ≡ true → HasDistinctIds xs
apart_distinct [] e j k d f l m same = absurd (omega arith)
apart_distinct (x ∷ xs) e zero zero d f l m same = refl
apart_distinct (x ∷ xs) e zero (suc k) d f l m same =
    absurd (not_again x.id.now xs (is_false _ (both _ _ e).0) k d (omega arith) (sym ((bytes_eq-Decides _ _).0 same)))
apart_distinct (x ∷ xs) e (suc j) zero d f l m same =
    absurd (not_again x.id.now xs (is_false _ (both _ _ e).0) j f (omega arith) ((bytes_eq-Decides _ _).0 same))
apart_distinct (x ∷ xs) e (suc j) (suc k) d f l m same = ap suc (apart_distinct xs (both _ _ e).1 j k d f (omega arith) (omega arith) same)

-- the argument at the place of a rule
pub rule_at : (xs : List Arg) (k : ℕ) (d : Arg) (r : Rule) → slice_get (map rule_of xs) k ≡ Some r → (k < length xs) × (rule_of (slice_index_or xs k d) ≡ r)
rule_at [] k d r e = absurd (none-some r e)
rule_at (x ∷ xs) zero d r e = (omega arith, same_Some _ _ e)
rule_at (x ∷ xs) (suc k) d r e =
    let rest = rule_at xs k d r e in
    (omega (arith, rest.0), rest.1)

-- ---- a command to which they are added

abbrev all_simple : List Rule → Bool
all_simple = list_all (λ r. r.is_simple)

pub added_rules : (c d : Command) (xs : List Arg) → AddsInTurn AddsArg c xs d → all_simple (map rule_of xs) ≡ true
    → app_of d ≡ fold with_rule (app_of c) (map rule_of xs)
added_rules c d [] h e = ap app_of (sym h)
added_rules c d (x ∷ xs) h e =
    let here = both _ _ e in
    added_rules h.0 d xs h.2 here.1 ∙ ap (λ (a : App). fold with_rule a (map rule_of xs)) (h.1.shape (simple_is_bare x here.0).global)
