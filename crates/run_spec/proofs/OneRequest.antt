-- Words ask for one thing and are not wrong then; or one thing is wrong with them.
use Rattle.std.proofs.Common.{◌≡◌, ◌∙◌, ℕ, Bool, true, false, not, is_some, true≢false, ◌&&◌, ◌||◌, ◌==◌, List, [], ◌∷◌, ◌++◌, Option, Some, None, IsTrue, refl, sym, ap, subst}
use Rattle.std.specs.List.{list_all}
use Rattle.std.proofs.lemmas.Bool.{and_parts, false≢true}
use Rattle.std.proofs.lemmas.Option.{none-some, same_Some}
use Rattle.command_words.specs.declared.fault.NumberOption.{NumberOption}
use Rattle.command_words.specs.declared.fault.NumberOption.TheVariants.{Stages, Depth, FactLimit, PairLimit, Sample}
use Rattle.command_words.specs.declared.fault.UsageFault.{UsageFault}
use Rattle.command_words.specs.declared.fault.UsageFault.TheVariants.{Words, Modes, Range}
use Rattle.command_words.specs.declared.request.Mode.{Mode}
use Rattle.command_words.specs.declared.request.Mode.TheVariants as modes
use Rattle.command_words.specs.Command.{option_in}
use Rattle.command_words.specs.Requests.{Wanted, NamesMethod, AsksFor, ModeOptions, NumberRule, IsFirstLacking, IsModeBy, IsNumberBy, IsNumberIn, HasNumber, LacksNumber, IsUsageFault, are_two_modes, mode_options, stages_rule, depth_rule, fact_limit_rule, pair_limit_rule, sample_rule}

-- ---- the entry

abbrev no_stop : ℕ → Bool
no_stop b = not (b == 46)

stop_among : (xs m : List ℕ) → list_all no_stop (xs ++ 46 ∷ m) ≡ true → ⊥
stop_among [] m e = absurd (false≢true e)
stop_among (x ∷ xs) m e = stop_among xs m (and_parts (no_stop x) (list_all no_stop (xs ++ 46 ∷ m)) e).1

tail_same : (x y : ℕ) (xs ys : List ℕ) → x ∷ xs ≡ y ∷ ys → (x ≡ y) × (xs ≡ ys)
tail_same x y xs ys e = (cc, cc)

-- a word has one last full stop
split_same : (c d m n : List ℕ) → c ++ 46 ∷ m ≡ d ++ 46 ∷ n → IsTrue (list_all no_stop m) → IsTrue (list_all no_stop n) → (c ≡ d) × (m ≡ n)
split_same [] [] m n e p q = (refl, (tail_same 46 46 m n e).1)
split_same [] (y ∷ d) m n e p q =
    let rest : m ≡ d ++ 46 ∷ n = (tail_same 46 y m (d ++ 46 ∷ n) e).1 in
    absurd (stop_among d n (ap (list_all no_stop) (sym rest) ∙ p))
split_same (x ∷ c) [] m n e p q =
    let rest : c ++ 46 ∷ m ≡ n = (tail_same x 46 (c ++ 46 ∷ m) n e).1 in
    absurd (stop_among c m (ap (list_all no_stop) rest ∙ q))
split_same (x ∷ c) (y ∷ d) m n e p q =
    let both = tail_same x y (c ++ 46 ∷ m) (d ++ 46 ∷ n) e in
    let more = split_same c d m n both.1 p q in
    (λ i. both.0 i ∷ more.0 i, more.1)

NamesMethod-same : (word c d m n : List ℕ) → NamesMethod word c m → NamesMethod word d n → (c ≡ d) × (m ≡ n)
NamesMethod-same word c d m n a b = split_same c d m n (sym a.parts ∙ b.parts) a.last b.last

-- ---- numbers

number_same : (r : NumberRule) (value : Option (List ℕ)) (n m : ℕ) → IsNumberBy r value n → IsNumberBy r value m → n ≡ m
number_same r None n m x y = x ∙ sym y
number_same r (Some text) n m x y = x.value ∙ sym y.value

-- ---- modes

-- whether two of a flag, another flag and an option stand
abbrev two_stand : (trace certificate sample : Bool) → Bool
two_stand t c s = (t && (c || s)) || (c && s)

module _ (o : ModeOptions) where
  -- a flag is set or not, and an option is given or not
  set_or_not : {b : Bool} → b ≡ true → b ≡ false → ⊥
  set_or_not is not = true≢false (sym is ∙ not)

  mode_same : (v w : Mode) → IsModeBy o v → IsModeBy o w → v ≡ w
  mode_same modes.Report modes.Report x y = refl
  mode_same modes.Report modes.Trace x y = absurd (set_or_not y.0 x.0)
  mode_same modes.Report modes.Certificate x y = absurd (set_or_not y.1 x.1)
  mode_same modes.Report (modes.Sample n) x y = absurd (none-some y.2 (sym x.2 ∙ y.3))
  mode_same modes.Trace modes.Report x y = absurd (set_or_not x.0 y.0)
  mode_same modes.Trace modes.Trace x y = refl
  mode_same modes.Trace modes.Certificate x y = absurd (set_or_not x.0 y.0)
  mode_same modes.Trace (modes.Sample n) x y = absurd (set_or_not x.0 y.0)
  mode_same modes.Certificate modes.Report x y = absurd (set_or_not x.1 y.1)
  mode_same modes.Certificate modes.Trace x y = absurd (set_or_not y.0 x.0)
  mode_same modes.Certificate modes.Certificate x y = refl
  mode_same modes.Certificate (modes.Sample n) x y = absurd (set_or_not x.1 y.1)
  mode_same (modes.Sample n) modes.Report x y = absurd (none-some x.2 (sym y.2 ∙ x.3))
  mode_same (modes.Sample n) modes.Trace x y = absurd (set_or_not y.0 x.0)
  mode_same (modes.Sample n) modes.Certificate x y = absurd (set_or_not y.1 x.1)
  mode_same (modes.Sample n) (modes.Sample m) x y =
      let text = same_Some x.2 y.2 (sym x.3 ∙ y.3) in
      ap modes.Sample (number_same sample_rule (Some y.2) n m (subst (λ (t : List ℕ). IsNumberBy sample_rule (Some t) n) text x.4) y.4)

  -- a mode is one
  one_mode : (mode : Mode) → IsModeBy o mode → are_two_modes o ≡ true → ⊥
  one_mode modes.Report is two = set_or_not two (λ i. two_stand (is.0 i) (is.1 i) (is_some (is.2 i)))
  one_mode modes.Trace is two = set_or_not two (λ i. two_stand (is.0 i) (is.1 i) (is_some (is.2 i)))
  one_mode modes.Certificate is two = set_or_not two (λ i. two_stand (is.0 i) (is.1 i) (is_some (is.2 i)))
  one_mode (modes.Sample n) is two = set_or_not two (λ i. two_stand (is.0 i) (is.1 i) (is_some (is.3 i)))

module _ (words : List (List ℕ)) where
  in_words : (r : NumberRule) (n m : ℕ) → IsNumberIn words r n → IsNumberIn words r m → n ≡ m
  in_words r n m x y = number_same r (option_in words r.name) n m x y

  not_both : (r : NumberRule) → HasNumber words r → LacksNumber words r → ⊥
  not_both r has lacks = lacks has.0 has.1

  -- ---- the whole

  pub AsksFor-same : (v w : Wanted) → AsksFor words v → AsksFor words w → v ≡ w
  AsksFor-same v w x y =
      let property : v.property ≡ w.property = same_Some v.property w.property (sym x.property ∙ y.property) in
      let stubs : v.stubs ≡ w.stubs = sym x.stubs ∙ y.stubs in
      let entry : x.command.entry ≡ y.command.entry = same_Some x.command.entry y.command.entry (sym x.command.given ∙ y.command.given) in
      let here = subst (λ (word : List ℕ). NamesMethod word v.class v.method) entry x.command.names in
      let names = NamesMethod-same y.command.entry v.class w.class v.method w.method here y.command.names in
      let stages = in_words stages_rule v.stages w.stages x.stages y.stages in
      let depth = in_words depth_rule v.depth w.depth x.depth y.depth in
      let facts = in_words fact_limit_rule v.fact_limit w.fact_limit x.fact_limit y.fact_limit in
      let pairs = in_words pair_limit_rule v.pair_limit w.pair_limit x.pair_limit y.pair_limit in
      let told = mode_same (mode_options words) v.mode w.mode x.mode y.mode in
      (λ i. record {
        property = property i;
        stubs = stubs i;
        class = names.0 i;
        method = names.1 i;
        stages = stages i;
        depth = depth i;
        fact_limit = facts i;
        pair_limit = pairs i;
        mode = told i;
      })

  -- words that ask for something are not wrong
  pub asked_or_wrong : (w : Wanted) (fault : UsageFault) → AsksFor words w → IsUsageFault words fault → ⊥
  asked_or_wrong w Words asks wrong = wrong (w.class, w.method, asks.command)
  asked_or_wrong w Modes asks wrong = one_mode (mode_options words) w.mode asks.mode wrong.1
  asked_or_wrong w (Range Stages) asks wrong = wrong.2 w.stages asks.stages
  asked_or_wrong w (Range Depth) asks wrong = wrong.2.1 w.depth asks.depth
  asked_or_wrong w (Range FactLimit) asks wrong = wrong.2.2 w.fact_limit asks.fact_limit
  asked_or_wrong w (Range PairLimit) asks wrong = wrong.2.3 w.pair_limit asks.pair_limit
  asked_or_wrong w (Range Sample) asks wrong = not_lacking w.mode asks.mode
    where
      not_lacking : (mode : Mode) → IsModeBy (mode_options words) mode → ⊥
      not_lacking modes.Report is = wrong.2.4 0 (subst (λ (v : Option (List ℕ)). IsNumberBy sample_rule v 0) (sym is.2) refl)
      not_lacking modes.Trace is = wrong.2.4 0 (subst (λ (v : Option (List ℕ)). IsNumberBy sample_rule v 0) (sym is.2) refl)
      not_lacking modes.Certificate is = wrong.2.4 0 (subst (λ (v : Option (List ℕ)). IsNumberBy sample_rule v 0) (sym is.2) refl)
      not_lacking (modes.Sample n) is = wrong.2.4 n (subst (λ (v : Option (List ℕ)). IsNumberBy sample_rule v n) (sym is.3) is.4)

  -- one option is the first that has no number
  first_same : (o q : NumberOption) → IsFirstLacking words o → IsFirstLacking words q → o ≡ q
  first_same Stages Stages x y = refl
  first_same Stages Depth x y = absurd (not_both stages_rule y.0 x)
  first_same Stages FactLimit x y = absurd (not_both stages_rule y.0 x)
  first_same Stages PairLimit x y = absurd (not_both stages_rule y.0 x)
  first_same Stages Sample x y = absurd (not_both stages_rule y.0 x)
  first_same Depth Stages x y = absurd (not_both stages_rule x.0 y)
  first_same Depth Depth x y = refl
  first_same Depth FactLimit x y = absurd (not_both depth_rule y.1 x.1)
  first_same Depth PairLimit x y = absurd (not_both depth_rule y.1 x.1)
  first_same Depth Sample x y = absurd (not_both depth_rule y.1 x.1)
  first_same FactLimit Stages x y = absurd (not_both stages_rule x.0 y)
  first_same FactLimit Depth x y = absurd (not_both depth_rule x.1 y.1)
  first_same FactLimit FactLimit x y = refl
  first_same FactLimit PairLimit x y = absurd (not_both fact_limit_rule y.2 x.2)
  first_same FactLimit Sample x y = absurd (not_both fact_limit_rule y.2 x.2)
  first_same PairLimit Stages x y = absurd (not_both stages_rule x.0 y)
  first_same PairLimit Depth x y = absurd (not_both depth_rule x.1 y.1)
  first_same PairLimit FactLimit x y = absurd (not_both fact_limit_rule x.2 y.2)
  first_same PairLimit PairLimit x y = refl
  first_same PairLimit Sample x y = absurd (not_both pair_limit_rule y.3 x.3)
  first_same Sample Stages x y = absurd (not_both stages_rule x.0 y)
  first_same Sample Depth x y = absurd (not_both depth_rule x.1 y.1)
  first_same Sample FactLimit x y = absurd (not_both fact_limit_rule x.2 y.2)
  first_same Sample PairLimit x y = absurd (not_both pair_limit_rule x.3 y.3)
  first_same Sample Sample x y = refl

  -- two modes and one mode
  two_or_one : (two : Bool) → two ≡ true → two ≡ false → ⊥
  two_or_one two is not = true≢false (sym is ∙ not)

  -- one thing is wrong
  pub UsageFault-same : (f g : UsageFault) → IsUsageFault words f → IsUsageFault words g → f ≡ g
  UsageFault-same Words Words x y = refl
  UsageFault-same Words Modes x y = absurd (x y.0)
  UsageFault-same Words (Range q) x y = absurd (x y.0)
  UsageFault-same Modes Words x y = absurd (y x.0)
  UsageFault-same Modes Modes x y = refl
  UsageFault-same Modes (Range q) x y = absurd (two_or_one _ x.1 y.1)
  UsageFault-same (Range o) Words x y = absurd (y x.0)
  UsageFault-same (Range o) Modes x y = absurd (two_or_one _ y.1 x.1)
  UsageFault-same (Range o) (Range q) x y = ap Range (first_same o q x.2 y.2)
