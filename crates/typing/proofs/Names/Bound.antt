-- Parts of a text that have no fault of names, or a first one, and how far the text is after them.
use Rattle.typing.proofs.Prelude.{◌≡◌, ◌⊎◌, ℕ, Bool, true, false, List, [], ◌∷◌, ◌++◌, Option, None, Some, Ok, append_assoc, inl, inr, refl, sym, ap, subst, ◌∙◌, Contains, not, Contains-append_left, Contains-append_right, option_or, Identifier, Binding, Here, binding_of, Event, Use, Declaration, Seen, nothing, in_turn, moves, see_all, uses_at, declares, fault_of, first_fault, UnknownName, DeclaredTwice, Fault, Checked, ◌>>=◌, require, found, Known, bound, place_of, as_refusal}
use Rattle.names.specs.declared.fault.Fault as name_fault
use Rattle.names.specs.declared.fault.Fault.TheVariants as name_faults
use Rattle.typing.proofs.Names.Meeting.{Meets, Joins, Never, meets_ok, meets_then, meets_more, meets_as, after_other, before_other}

-- events without a fault
abbrev pub NoFault : List Event → Type 0
NoFault [] = Unit {0}
NoFault (event ∷ others) = (fault_of event ≡ None) × NoFault others

-- an event has the fault for which a typing is refused, and it is the first of events that has one
pub record Blamed (event : Event) (refusal : Fault) : Type 0 where
  pub fault : name_fault.Fault
  pub is : fault_of event ≡ Some fault
  pub same : as_refusal fault ≡ refusal

abbrev pub AreBlamed : List Event → Fault → Type 0
AreBlamed [] refusal = ⊥
AreBlamed (event ∷ others) refusal =
    Blamed event refusal ⊎ ((fault_of event ≡ None) × AreBlamed others refusal)

-- or it is a fault that the name of a member may have
abbrev pub IsWrong : List Event → List Fault → Fault → Type 0
IsWrong events members refusal = AreBlamed events refusal ⊎ Contains members refusal

pub no_first : (events : List Event) → NoFault events → first_fault events ≡ None
no_first [] none = refl
no_first (event ∷ others) (here, later) =
    ap (λ (found : Option name_fault.Fault). option_or found (first_fault others)) here
    ∙ no_first others later

-- the first fault of events that have one
pub record FirstIs (events : List Event) (refusal : Fault) : Type 0 where
  pub fault : name_fault.Fault
  pub first : first_fault events ≡ Some fault
  pub same : as_refusal fault ≡ refusal

pub first_blamed : (events : List Event) (refusal : Fault) → AreBlamed events refusal → FirstIs events refusal
first_blamed [] refusal never = absurd never
first_blamed (event ∷ others) refusal (inl blamed) = record {
  fault = blamed.fault;
  first = ap (λ (found : Option name_fault.Fault). option_or found (first_fault others)) blamed.is;
  same = blamed.same;
}
first_blamed (event ∷ others) refusal (inr (none, later)) =
    let rest = first_blamed others refusal later in
    record {
      fault = rest.fault;
      first = ap (λ (found : Option name_fault.Fault). option_or found (first_fault others)) none
          ∙ rest.first;
      same = rest.same;
    }

-- events after others
no_fault_append : (events others : List Event) → NoFault events → NoFault others → NoFault (events ++ others)
no_fault_append [] others none later = later
no_fault_append (event ∷ events) others (here, rest) later = (here, no_fault_append events others rest later)

blamed_first : (events others : List Event) (refusal : Fault) → AreBlamed events refusal
    → AreBlamed (events ++ others) refusal
blamed_first [] others refusal never = absurd never
blamed_first (event ∷ events) others refusal (inl blamed) = inl blamed
blamed_first (event ∷ events) others refusal (inr (none, later)) =
    inr (none, blamed_first events others refusal later)

blamed_later : (events others : List Event) (refusal : Fault) → NoFault events → AreBlamed others refusal
    → AreBlamed (events ++ others) refusal
blamed_later [] others refusal none later = later
blamed_later (event ∷ events) others refusal (here, rest) later =
    inr (here, blamed_later events others refusal rest later)

pub events_join : (events others : List Event) (members more : List Fault)
    → Joins (NoFault events) (NoFault others) (NoFault (events ++ others))
    (IsWrong events members) (IsWrong others more) (IsWrong (events ++ others) (members ++ more))
events_join events others members more = record {
  both = λ one other. no_fault_append events others one other;
  first = λ refusal wrong. by_first refusal wrong;
  second = λ one refusal wrong. by_second one refusal wrong;
}
  where
    by_first : (refusal : Fault) → IsWrong events members refusal
        → IsWrong (events ++ others) (members ++ more) refusal
    by_first refusal (inl blamed) = inl (blamed_first events others refusal blamed)
    by_first refusal (inr member) = inr (Contains-append_left members more refusal member)

    by_second : NoFault events → (refusal : Fault) → IsWrong others more refusal
        → IsWrong (events ++ others) (members ++ more) refusal
    by_second one refusal (inl blamed) = inl (blamed_later events others refusal one blamed)
    by_second one refusal (inr member) = inr (Contains-append_right members more refusal member)

-- Names that are used at a place: all are known, or the first unknown one is to blame.
abbrev pub AreKnown : Here → List Identifier → Type 0
AreKnown here names = NoFault (uses_at here names)

abbrev pub IsUnknown : Here → (names : List Identifier) (members : List Fault) → Fault → Type 0
IsUnknown here names members refusal = IsWrong (uses_at here names) members refusal

-- a check by which names are used
abbrev pub Finds : {A : Type 0} → Here → (names : List Identifier) (members : List Fault) → Checked A → Type 0
Finds {A} here names members result =
    Meets (AreKnown here names) (IsUnknown here names members) (λ (a : A). Unit {0}) result

known_append : (here : Here) (names others : List Identifier)
    → AreKnown here names → AreKnown here others → AreKnown here (names ++ others)
known_append here [] others known later = later
known_append here (name ∷ names) others (first, rest) later =
    (first, known_append here names others rest later)

unknown_first : (here : Here) (names others : List Identifier) (refusal : Fault)
    → AreBlamed (uses_at here names) refusal → AreBlamed (uses_at here (names ++ others)) refusal
unknown_first here [] others refusal never = absurd never
unknown_first here (name ∷ names) others refusal (inl blamed) = inl blamed
unknown_first here (name ∷ names) others refusal (inr (none, later)) =
    inr (none, unknown_first here names others refusal later)

unknown_later : (here : Here) (names others : List Identifier) (refusal : Fault)
    → AreKnown here names → AreBlamed (uses_at here others) refusal
    → AreBlamed (uses_at here (names ++ others)) refusal
unknown_later here [] others refusal known later = later
unknown_later here (name ∷ names) others refusal (first, rest) later =
    inr (first, unknown_later here names others refusal rest later)

pub names_join : (here : Here) (names others : List Identifier) (members more : List Fault)
    → Joins (AreKnown here names) (AreKnown here others) (AreKnown here (names ++ others))
    (IsUnknown here names members) (IsUnknown here others more)
    (IsUnknown here (names ++ others) (members ++ more))
names_join here names others members more = record {
  both = λ one other. known_append here names others one other;
  first = λ refusal wrong. by_first refusal wrong;
  second = λ one refusal wrong. by_second one refusal wrong;
}
  where
    by_first : (refusal : Fault) → IsUnknown here names members refusal
        → IsUnknown here (names ++ others) (members ++ more) refusal
    by_first refusal (inl blamed) = inl (unknown_first here names others refusal blamed)
    by_first refusal (inr member) = inr (Contains-append_left members more refusal member)

    by_second : AreKnown here names → (refusal : Fault) → IsUnknown here others more refusal
        → IsUnknown here (names ++ others) (members ++ more) refusal
    by_second one refusal (inl blamed) = inl (unknown_later here names others refusal one blamed)
    by_second one refusal (inr member) = inr (Contains-append_right members more refusal member)

-- one name that is looked up: what it is bound to, or it is unknown
pub bound-finds : (known : Known) (name : Identifier)
    → Finds known.here (name ∷ []) [] (bound known name)
bound-finds known name = by (binding_of known.here name.name) refl
  where
    by : (option : Option Binding) → binding_of known.here name.name ≡ option
        → Finds known.here (name ∷ []) [] (found option UnknownName (place_of name))
    by (Some binding) is =
        meets_ok (subst (λ (option : Option Binding). fault_of (Use name option) ≡ None) (sym is) refl, tt) tt
    by None is = record {
      given = λ a e. absurd cc;
      refused = λ refusal e names.
          let same : record { cause = UnknownName; place = place_of name } ≡ refusal = cc in
          inl (inl (record {
            fault = name_faults.Unknown (place_of name);
            is = subst
                (λ (option : Option Binding). fault_of (Use name option)
                ≡ Some (name_faults.Unknown (place_of name)))
                (sym is) refl;
            same = same;
          }));
    }

-- A part of a text from one place on, which a check goes through: it comes to another place.
pub record Walks {A : Type 0} (see : Here → Seen) (before : Here) (members : List Fault) (here_of : A → Here)
    (result : Checked A) : Type 0 where
  pub meets : Meets (NoFault (see before).events) (IsWrong (see before).events members)
      (λ (a : A). here_of a ≡ (see before).here) result

pub walks_nothing : {A : Type 0} {here_of : A → Here} {a : A} (here : Here) → here_of a ≡ here
    → Walks nothing here [] here_of (Ok a)
unfolding nothing
walks_nothing here is = record { meets = meets_ok tt is }

pub walks_then : {A B : Type 0} {first second : Here → Seen} {before : Here} {members more : List Fault}
    {here_of : A → Here} {there_of : B → Here} {result : Checked A} {next : A → Checked B}
    → Walks first before members here_of result
    → ((a : A) → Walks second (here_of a) more there_of (next a))
    → Walks (in_turn first second) before (members ++ more) there_of (result >>= next)
unfolding in_turn
walks_then {A} {B} {first} {second} {before} {members} {more} {here_of} {there_of} {result} {next} one other =
    record {
      meets = meets_then
          (events_join (first before).events (second (first before).here).events members more)
          one.meets
          (λ a is. (subst (λ (here : Here). Walks second here more there_of (next a)) is (other a)).meets);
    }

-- what is given goes on at the same place
pub walks_on : {A B : Type 0} {see : Here → Seen} {before : Here} {members : List Fault}
    {here_of : A → Here} {there_of : B → Here} {result : Checked A} {next : A → Checked B}
    → Walks see before members here_of result
    → ((a : A) → Meets (Unit {0}) Never (λ (b : B). there_of b ≡ here_of a) (next a))
    → Walks see before members there_of (result >>= next)
walks_on walks rest = record {
  meets = before_other walks.meets λ a is. meets_more (rest a) λ b same. same ∙ is;
}

pub walks_ok : {A B : Type 0} {see : Here → Seen} {before : Here} {members : List Fault}
    {here_of : A → Here} {there_of : B → Here} {result : Checked A} (f : A → B)
    → ((a : A) → there_of (f a) ≡ here_of a)
    → Walks see before members here_of result
    → Walks see before members there_of (result >>= (λ a. Ok (f a)))
walks_ok f same walks = walks_on walks λ a. meets_ok tt (same a)

-- after a check that no name is found by
pub after_walks : {A B : Type 0} {see : Here → Seen} {before : Here} {members : List Fault}
    {there_of : B → Here}
    {P : A → Type 0} {result : Checked A} {next : A → Checked B}
    → Meets (Unit {0}) Never P result
    → ((a : A) → P a → Walks see before members there_of (next a))
    → Walks see before members there_of (result >>= next)
after_walks other then_is = record { meets = after_other other λ a is. (then_is a is).meets }

-- into a part of a text, and out of it
pub walks_in : {A : Type 0} {second : Here → Seen} {members : List Fault} {there_of : A → Here}
    {result : Checked A}
    (move : Here → Here) (before : Here)
    → Walks second (move before) members there_of result
    → Walks (in_turn (moves move) second) before members there_of result
unfolding in_turn moves
walks_in move before walks = record { meets = walks.meets }

pub walks_out : {A B : Type 0} {see : Here → Seen} {before : Here} {members : List Fault}
    {here_of : A → Here} {there_of : B → Here} {result : Checked A} (move : Here → Here) (f : A → B)
    → ((a : A) → there_of (f a) ≡ move (here_of a))
    → Walks see before members here_of result
    → Walks (in_turn see (moves move)) before members there_of (result >>= (λ a. Ok (f a)))
unfolding in_turn moves
walks_out {A} {B} {see} {before} {members} {here_of} {there_of} {result} move f same walks = record {
  meets = meets_as
      (λ none. no_fault_append (see before).events [] none tt)
      (λ refusal wrong. by refusal wrong)
      (before_other walks.meets λ a is. meets_ok tt (same a ∙ ap move is));
}
  where
    by : (refusal : Fault) → IsWrong (see before).events members refusal
        → IsWrong ((see before).events ++ []) members refusal
    by refusal (inl blamed) = inl (blamed_first (see before).events [] refusal blamed)
    by refusal (inr member) = inr member

-- the same part of a text
pub walks_as : {A : Type 0} {see : Here → Seen} (other : Here → Seen) {before : Here} {members : List Fault}
    {here_of : A → Here} {result : Checked A}
    → (see before).events ≡ (other before).events → (see before).here ≡ (other before).here
    → Walks see before members here_of result
    → Walks other before members here_of result
walks_as {A} {see} other {before} {members} {here_of} {result} events here walks = record {
  meets = subst
      (λ (there : Here). Meets (NoFault (other before).events) (IsWrong (other before).events members)
      (λ (a : A). here_of a ≡ there) result) here
      (subst
      (λ (all : List Event). Meets (NoFault all) (IsWrong all members)
      (λ (a : A). here_of a ≡ (see before).here) result)
      events walks.meets);
}

-- two parts have the same events from a place on, and come to the same
pub record Alike (see other : Here → Seen) (before : Here) : Type 0 where
  pub events : (see before).events ≡ (other before).events
  pub comes : (see before).here ≡ (other before).here

three_alike : (first second third : Here → Seen) (before : Here)
    → Alike (in_turn first (in_turn second third)) (in_turn (in_turn first second) third) before
unfolding in_turn
three_alike first second third before = record {
  events = sym (append_assoc (first before).events (second (first before).here).events
      (third (second (first before).here).here).events);
  comes = refl;
}

pub walks_assoc : {A : Type 0} (first second third : Here → Seen) {before : Here} {members : List Fault}
    {here_of : A → Here} {result : Checked A}
    → Walks (in_turn first (in_turn second third)) before members here_of result
    → Walks (in_turn (in_turn first second) third) before members here_of result
walks_assoc first second third {before = before} walks =
    let alike = three_alike first second third before in
    walks_as (in_turn (in_turn first second) third) alike.events alike.comes walks

-- the parts of one list after those of another
pub see_all_append : {T : Type 0} (see : T → Here → Seen) (some others : List T) (here : Here)
    → ((in_turn (see_all see some) (see_all see others) here).events
    ≡ (see_all see (some ++ others) here).events)
    × ((in_turn (see_all see some) (see_all see others) here).here ≡ (see_all see (some ++ others) here).here)
unfolding in_turn nothing
see_all_append see [] others here = (refl, refl)
see_all_append see (first ∷ some) others here =
    let after : Here = (see first here).here in
    let rest = see_all_append see some others after in (
      append_assoc (see first here).events (see_all see some after).events
          (see_all see others (see_all see some after).here).events
          ∙ ap (λ (events : List Event). (see first here).events ++ events) rest.0,
      rest.1,
    )

-- a name that is declared: not again, or it is to blame
pub declared-once : (name : Identifier) (again : Bool)
    → Meets (NoFault (Declaration name again ∷ [])) (IsWrong (Declaration name again ∷ []) [])
    (λ (a : Unit {0}). Unit {0})
    (require (not again) DeclaredTwice (place_of name))
declared-once name false = meets_ok (refl, tt) tt
declared-once name true = record {
  given = λ a e. absurd cc;
  refused = λ refusal e names.
      let same : record { cause = DeclaredTwice; place = place_of name } ≡ refusal = cc in
      inl (inl (record { fault = name_faults.DeclaredTwice (place_of name); is = refl; same = same }));
}

pub declared-walks : {A B : Type 0} (is_again : Here → List ℕ → Bool)
    (with_it : List ℕ → Here → Here) (name : Identifier)
    (here : Here) {result : Checked A} {next : A → Checked B} {second : Here → Seen} {members : List Fault}
    {there_of : B → Here}
    → Meets (NoFault (Declaration name (is_again here name.name) ∷ []))
    (IsWrong (Declaration name (is_again here name.name) ∷ []) []) (λ (a : A). Unit {0}) result
    → ((a : A) → Walks second (with_it name.name here) members there_of (next a))
    → Walks (in_turn (declares is_again with_it name) second) here members there_of (result >>= next)
unfolding in_turn declares
declared-walks is_again with_it name here {second = second} {members = members} once walks = record {
  meets = meets_then
      (events_join (Declaration name (is_again here name.name) ∷ [])
      (second (with_it name.name here)).events [] members)
      once λ a _. (walks a).meets;
}

pub declared-alone : {A B : Type 0} (is_again : Here → List ℕ → Bool)
    (with_it : List ℕ → Here → Here) (name : Identifier)
    (here : Here) {result : Checked A} {next : A → Checked B} {there_of : B → Here}
    → Meets (NoFault (Declaration name (is_again here name.name) ∷ []))
    (IsWrong (Declaration name (is_again here name.name) ∷ []) []) (λ (a : A). Unit {0}) result
    → ((a : A) → Meets (Unit {0}) Never (λ (b : B). there_of b ≡ with_it name.name here) (next a))
    → Walks (declares is_again with_it name) here [] there_of (result >>= next)
unfolding declares
declared-alone is_again with_it name here once rest = record { meets = before_other once λ a _. rest a }
