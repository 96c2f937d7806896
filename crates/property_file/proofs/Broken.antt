-- A table breaks the rule of one key at most, and of none where it gives an automaton.
use Rattle.std.proofs.Common.{codes, ◌≡◌, ◌≢◌, ℕ, List, [], Contains, Result, Ok, Err, IfOk, IfErr, ◌⊎◌, inl, inr, sym, ap, ◌∙◌, subst, refl, arith}
use Rattle.toml.specs.Data.{Members}
use Rattle.jvm_model.specs.declared.automaton.Automaton.{Automaton}
use Rattle.jvm_model.specs.declared.automaton.Event.{Event}
use Rattle.jvm_model.specs.Automata.{IsAutomaton}
use Rattle.toml_tables.specs.Documents.{IsDocument, IsNoDocument}
use Rattle.toml_tables.specs.Tables.{other_keys, HasOnly, IsLeast}
use Rattle.toml_tables.proofs.Keys.{IsLeast-same}
use Rattle.toml_tables.proofs.OneDocument.{never_both, IsDocument-same}
use Rattle.toml_tables.proofs.Values.{text_same}
use Rattle.failure.specs.declared.Failure.{Failure}
use Rattle.property_file.specs.declared.property_failure.PropertyFault.{PropertyFault}
use Rattle.failure.specs.declared.Failure.TheVariants.{Cause, OutOfMemory}
use Rattle.property_file.specs.declared.property_failure.PropertyFault.TheVariants.{BadToml, BadProperty}
use Rattle.property_file.specs.Rules.{GivesVersion, GivesClass, GivesStates, GivesInitial, GivesError, GivesEvents}
use Rattle.property_file.specs.PropertyFile.{file_keys, GivesAutomaton, IsPropertyFile}
use Rattle.property_file.specs.Refusals.{IsBroken, version, class, states, initial, error, event, other, IsBrokenFile, IsPropertyRefusal}
use Rattle.property_file.specs.Reading.{NamesKey, IsTableRefusal}
use Rattle.property_file.proofs.Parts.{NamesState-unique, GivesStates-unique, GivesEvents-unique}
use Rattle.property_file.proofs.Whole.{GivesParts-unique, GivesParts-sound}

-- one key after another: its rule is broken; or it gives a value, and what follows is told of that value
data Told {X : Type 0} (Gives : X → Type 0) (key : List ℕ) (After : X → List ℕ → Type 0) (found : List ℕ) : Type 0 where
  here : ((x : X) → Gives x → ⊥) → found ≡ key → Told Gives key After found
  later : (x : X) → Gives x → After x found → Told Gives key After found

module _ {X : Type 0} (Gives : X → Type 0) (key : List ℕ) (After : X → List ℕ → Type 0) (one : (x y : X) → Gives x → Gives y → x ≡ y) where
  Told-same : ((x : X) (k l : List ℕ) → Gives x → After x k → After x l → k ≡ l) → (k l : List ℕ) → Told Gives key After k → Told Gives key After l → k ≡ l
  Told-same same k l (here none at) (here none2 at2) = at ∙ sym at2
  Told-same same k l (here none at) (later x g a) = absurd (none x g)
  Told-same same k l (later x g a) (here none at) = absurd (none x g)
  Told-same same k l (later x g a) (later y h b) = same y k l h (subst (λ z. After z k) (one x y g h) a) b

  Told-not : (x : X) (k : List ℕ) → Gives x → (After x k → ⊥) → Told Gives key After k → ⊥
  Told-not x k g not (here none at) = none x g
  Told-not x k g not (later y h b) = not (subst (λ z. After z k) (one y x h g) b)

module _ (ms : Members) where
  abbrev AfterEvents : List Event → List ℕ → Type 0
  AfterEvents events key = IsLeast (other_keys file_keys ms) key

  abbrev AfterError : List (List ℕ) → ℕ → List ℕ → Type 0
  AfterError ss e key = Told (GivesEvents ss e ms) (codes "event") AfterEvents key

  abbrev AfterInitial : List (List ℕ) → ℕ → List ℕ → Type 0
  AfterInitial ss i key = Told (GivesError ss i ms) (codes "error") (AfterError ss) key

  abbrev AfterStates : List (List ℕ) → List ℕ → Type 0
  AfterStates ss key = Told (GivesInitial ss ms) (codes "initial") (AfterInitial ss) key

  abbrev AfterClass : List ℕ → List ℕ → Type 0
  AfterClass name key = Told (GivesStates ms) (codes "states") AfterStates key

  abbrev AfterVersion : Unit {0} → List ℕ → Type 0
  AfterVersion u key = Told (GivesClass ms) (codes "class") AfterClass key

  abbrev HasVersion : Unit {0} → Type 0
  HasVersion u = GivesVersion ms

  abbrev AllTold : List ℕ → Type 0
  AllTold key = Told HasVersion (codes "version") AfterVersion key

  told : (key : List ℕ) → IsBroken ms key → AllTold key
  told key (version none at) = here (λ u. none) at
  told key (class v none at) = later tt v (here none at)
  told key (states n v c none at) = later tt v (later n c (here none at))
  told key (initial n ss v c s none at) = later tt v (later n c (later ss s (here none at)))
  told key (error n ss i v c s g none at) = later tt v (later n c (later ss s (later i g (here none at))))
  told key (event n ss i e v c s g h none at) = later tt v (later n c (later ss s (later i g (later e h (here none at)))))
  told key (other a p l) =
      later tt p.version (later a.class_name p.class_name (later a.states p.states (later a.initial p.initial (later a.error p.error (later a.events p.events l)))))

  one_version : (x y : Unit {0}) → HasVersion x → HasVersion y → x ≡ y
  one_version x y g h = refl

  one_class : (x y : List ℕ) → GivesClass ms x → GivesClass ms y → x ≡ y
  one_class x y g h = text_same _ x y g.value h.value

  one_error : (ss : List (List ℕ)) (i : ℕ) → GivesStates ms ss → (x y : ℕ) → GivesError ss i ms x → GivesError ss i ms y → x ≡ y
  one_error ss i s x y g h = NamesState-unique ss (codes "error") ms x y s.states_differ g.names h.names

  one_initial : (ss : List (List ℕ)) → GivesStates ms ss → (x y : ℕ) → GivesInitial ss ms x → GivesInitial ss ms y → x ≡ y
  one_initial ss s x y g h = NamesState-unique ss (codes "initial") ms x y s.states_differ g h

  one_events : (ss : List (List ℕ)) (e : ℕ) → GivesStates ms ss → (x y : List Event) → GivesEvents ss e ms x → GivesEvents ss e ms y → x ≡ y
  one_events ss e s x y g h = GivesEvents-unique ss e ms x y s.states_differ g h

  same_error : (ss : List (List ℕ)) (e : ℕ) → GivesStates ms ss → (k l : List ℕ) → AfterError ss e k → AfterError ss e l → k ≡ l
  same_error ss e s k l = Told-same (GivesEvents ss e ms) (codes "event") AfterEvents (one_events ss e s) (λ x m n g. IsLeast-same (other_keys file_keys ms) m n) k l

  same_initial : (ss : List (List ℕ)) (i : ℕ) → GivesStates ms ss → (k l : List ℕ) → AfterInitial ss i k → AfterInitial ss i l → k ≡ l
  same_initial ss i s k l = Told-same (GivesError ss i ms) (codes "error") (AfterError ss) (one_error ss i s) (λ e m n g. same_error ss e s m n) k l

  same_states : (ss : List (List ℕ)) → GivesStates ms ss → (k l : List ℕ) → AfterStates ss k → AfterStates ss l → k ≡ l
  same_states ss s k l = Told-same (GivesInitial ss ms) (codes "initial") (AfterInitial ss) (one_initial ss s) (λ i m n g. same_initial ss i s m n) k l

  same_class : (k l : List ℕ) → AfterClass [] k → AfterClass [] l → k ≡ l
  same_class k l = Told-same (GivesStates ms) (codes "states") AfterStates (GivesStates-unique ms) (λ ss m n s. same_states ss s m n) k l

  same_version : (k l : List ℕ) → AfterVersion tt k → AfterVersion tt l → k ≡ l
  same_version k l = Told-same (GivesClass ms) (codes "class") AfterClass one_class (λ x m n g. same_class m n) k l

  -- one key is named
  pub IsBroken-same : (k l : List ℕ) → IsBroken ms k → IsBroken ms l → k ≡ l
  IsBroken-same k l a b =
      Told-same HasVersion (codes "version") AfterVersion one_version (λ u m n g. same_version m n) k l (told k a) (told l b)

  nothing_least : (key : List ℕ) → HasOnly file_keys ms → IsLeast (other_keys file_keys ms) key → ⊥
  nothing_least key none l = let among : Contains [] key = subst (λ (ks : List (List ℕ)). Contains ks key) none l.among in absurd (let h = among.1 in omega arith)

  -- none is named where an automaton is given
  pub IsBroken-not : (a : Automaton) (key : List ℕ) → GivesAutomaton ms a → IsBroken ms key → ⊥
  IsBroken-not a key g b =
      let p = g.parts in
      Told-not HasVersion (codes "version") AfterVersion one_version tt key p.version
      (Told-not (GivesClass ms) (codes "class") AfterClass one_class a.class_name key p.class_name
      (Told-not (GivesStates ms) (codes "states") AfterStates (GivesStates-unique ms) a.states key p.states
      (Told-not (GivesInitial a.states ms) (codes "initial") (AfterInitial a.states) (one_initial a.states p.states) a.initial key p.initial
      (Told-not (GivesError a.states a.initial ms) (codes "error") (AfterError a.states) (one_error a.states a.initial p.states) a.error key p.error
      (Told-not (GivesEvents a.states a.error ms) (codes "event") AfterEvents (one_events a.states a.error p.states) a.events key p.events
      (nothing_least key g.no_other)))))) (told key b)

pub IsNoDocument-not_broken : (bytes key : List ℕ) → IsNoDocument bytes → IsBrokenFile bytes key → ⊥
IsNoDocument-not_broken bytes key a b = never_both bytes b.members b.document a

pub IsNoDocument-not : (bytes : List ℕ) (a : Automaton) → IsNoDocument bytes → IsPropertyFile bytes a → ⊥
IsNoDocument-not bytes a bad p = never_both bytes p.members p.document bad

pub IsBrokenFile-not : (bytes key : List ℕ) (a : Automaton) → IsBrokenFile bytes key → IsPropertyFile bytes a → ⊥
IsBrokenFile-not bytes key a b p =
    let members = IsDocument-same bytes b.members p.members b.document p.document in
    IsBroken-not p.members a key p.gives (subst (λ (ms : Members). IsBroken ms key) members b.broken)

-- at most one refusal, and none beside an automaton
pub IsRefusal-same : (bytes : List ℕ) (r s : Failure PropertyFault) → r ≢ OutOfMemory → s ≢ OutOfMemory → IsPropertyRefusal bytes r → IsPropertyRefusal bytes s → r ≡ s
IsRefusal-same bytes (Cause BadToml) (Cause BadToml) m n a b = refl
IsRefusal-same bytes (Cause BadToml) (Cause (BadProperty l)) m n a b = absurd (IsNoDocument-not_broken bytes l a b)
IsRefusal-same bytes (Cause (BadProperty k)) (Cause BadToml) m n a b = absurd (IsNoDocument-not_broken bytes k b a)
IsRefusal-same bytes (Cause (BadProperty k)) (Cause (BadProperty l)) m n a b =
    let members = IsDocument-same bytes a.members b.members a.document b.document in
    ap (λ (name : List ℕ). Cause (BadProperty name)) (IsBroken-same b.members k l (subst (λ (ms : Members). IsBroken ms k) members a.broken) b.broken)
IsRefusal-same bytes OutOfMemory s m n a b = absurd (m refl)
IsRefusal-same bytes r OutOfMemory m n a b = absurd (n refl)

pub IsRefusal-not : (bytes : List ℕ) (a : Automaton) (r : Failure PropertyFault) → r ≢ OutOfMemory → IsPropertyFile bytes a → IsPropertyRefusal bytes r → ⊥
IsRefusal-not bytes a (Cause BadToml) m p bad = IsNoDocument-not bytes a bad p
IsRefusal-not bytes a (Cause (BadProperty key)) m p b = IsBrokenFile-not bytes key a b p
IsRefusal-not bytes a OutOfMemory m p u = absurd (m refl)

-- what a reader answers where the table gives an automaton
only_that : (ms : Members) (a : Automaton) (r : Result Automaton (Failure PropertyFault)) → IfOk r (GivesAutomaton ms) → IfErr r (IsTableRefusal ms) → GivesAutomaton ms a → (r ≡ Ok a) ⊎ (r ≡ Err OutOfMemory)
only_that ms a (Ok b) found refused g = inl (ap Ok (GivesParts-unique ms b a found.parts g.parts))
only_that ms a (Err (Cause BadToml)) found refused g = absurd refused
only_that ms a (Err (Cause (BadProperty key))) found refused g = absurd (IsBroken-not ms a key g refused)
only_that ms a (Err OutOfMemory) found refused g = inr refl

-- a refusal that names the broken key
pub named : (ms : Members) (key : List ℕ) (r : Failure PropertyFault) → NamesKey key r → IsBroken ms key → IsTableRefusal ms r
named ms key (Cause BadToml) n b = absurd n
named ms key (Cause (BadProperty name)) n b = subst (IsBroken ms) (sym n) b
named ms key OutOfMemory n b = tt

pub only_read : (bytes : List ℕ) (ms : Members) (r : Result Automaton (Failure PropertyFault)) → IsDocument bytes ms → IfOk r (GivesAutomaton ms) → IfErr r (IsTableRefusal ms)
    → (a : Automaton) → IsPropertyFile bytes a → (r ≡ Ok a) ⊎ (r ≡ Err OutOfMemory)
only_read bytes ms r document found refused a p =
    let members : p.members ≡ ms = IsDocument-same bytes p.members ms p.document document in
    only_that ms a r found refused (subst (λ (ns : Members). GivesAutomaton ns a) members p.gives)

pub sound_read : (ms : Members) (r : Result Automaton (Failure PropertyFault)) → IfOk r (GivesAutomaton ms) → IfOk r IsAutomaton
sound_read ms (Ok a) g = GivesParts-sound ms a g.parts
sound_read ms (Err e) g = tt
