-- Parts of a text one after another.
use Rattle.names.proofs.Prelude.{◌≡◌, ℕ, List, [], ◌∷◌, ◌++◌, Option, None, Some, Result, Ok, Err, Bool, true, false, refl, ap, sym, subst, ◌∙◌, append_assoc, append-nil, option_or, IfFault, Failure, Identifier, Binding, Fault, Here, with_object, Event, Use, Declaration, Seen, nothing, in_turn, moves, see_all, uses_at, uses_of, jumps_to, declares, declares_object, see_item, Walk, FailsBy, Does, fault_in, unless, gives, bound_name, bind_more, bound_at}
use Rattle.failure.specs.declared.Failure.TheVariants as failures
use Rattle.names.specs.declared.fault.Fault.TheVariants.{Unknown, DeclaredTwice}
use Rattle.names.specs.BuiltIns.{binding_of, jump_of}
use Rattle.names.specs.internal.Binding.{bindings_of, fault_of, first_fault}

bind_more_twice : {A B C : Type 0} (first : Result A Fault) (second : A → Result B Fault)
    (third : B → Result C Fault) (both : A → Result C Fault)
    → ((a : A) → both a ≡ bind_more (second a) third)
    → bind_more first both ≡ bind_more (bind_more first second) third
bind_more_twice (Ok a) second third both is = is a
bind_more_twice (Err fault) second third both is = refl

-- uses of names after others
pub bind_more_append : (here : Here) (names others : List Identifier) (bindings : List Binding)
    → bound_at here (names ++ others) bindings
    ≡ bind_more (bound_at here names bindings) (bound_at here others)
unfolding bound_at
bind_more_append here [] others bindings = refl
bind_more_append here (name ∷ names) others bindings =
    bind_more_twice (bound_name name (binding_of here name.name) bindings) (bound_at here names)
    (bound_at here others) (bound_at here (names ++ others))
    (λ now. bind_more_append here names others now)

pub bound_append_ok : (here : Here) (names others : List Identifier) (bindings now : List Binding)
    → bound_at here names bindings ≡ Ok now
    → bound_at here (names ++ others) bindings ≡ bound_at here others now
bound_append_ok here names others bindings now is =
    bind_more_append here names others bindings ∙ ap (λ first. bind_more first (bound_at here others)) is

pub fails_more : {A B : Type 0} (fault : Option Fault) (first : Result A Fault) (next : A → Result B Fault)
    → FailsBy fault first → FailsBy fault (bind_more first next)
fails_more None first next fails = tt
fails_more (Some fault) first next fails = ap (λ result. bind_more result next) fails

pub fails_append : (fault : Option Fault) (here : Here) (names others : List Identifier)
    (bindings : List Binding) → FailsBy fault (bound_at here names bindings)
    → FailsBy fault (bound_at here (names ++ others) bindings)
fails_append fault here names others bindings fails =
    subst (FailsBy fault) (sym (bind_more_append here names others bindings))
    (fails_more fault (bound_at here names bindings) (bound_at here others) fails)

pub bound_cons_ok : (here : Here) (name : Identifier) (others : List Identifier) (bindings now : List Binding)
    → bound_at here (name ∷ []) bindings ≡ Ok now
    → bound_at here (name ∷ others) bindings ≡ bound_at here others now
bound_cons_ok here name others bindings now is = bound_append_ok here (name ∷ []) others bindings now is

pub fails_cons : (fault : Option Fault) (here : Here) (name : Identifier) (others : List Identifier)
    (bindings : List Binding) → FailsBy fault (bound_at here (name ∷ []) bindings)
    → FailsBy fault (bound_at here (name ∷ others) bindings)
fails_cons fault here name others bindings fails = fails_append fault here (name ∷ []) others bindings fails

pub bound_none : (here : Here) (bindings : List Binding) → bound_at here [] bindings ≡ Ok bindings
unfolding bound_at
bound_none here bindings = refl

pub bound_known : (here : Here) (name : Identifier) (binding : Binding) (bindings : List Binding)
    → binding_of here name.name ≡ Some binding
    → bound_at here (name ∷ []) bindings ≡ Ok (bindings ++ binding ∷ [])
unfolding bound_at
bound_known here name binding bindings is =
    ap (λ found. bind_more (bound_name name found bindings) (bound_at here [])) is

pub bound_unknown : (here : Here) (name : Identifier) (bindings : List Binding)
    → binding_of here name.name ≡ None → bound_at here (name ∷ []) bindings ≡ Err (Unknown name.place)
unfolding bound_at
bound_unknown here name bindings is =
    ap (λ found. bind_more (bound_name name found bindings) (bound_at here [])) is

-- the bindings and faults of events after others
first_fault_append : (events others : List Event)
    → first_fault (events ++ others) ≡ option_or (first_fault events) (first_fault others)
first_fault_append [] others = refl
first_fault_append (event ∷ events) others = by (fault_of event) (first_fault_append events others)
  where
    by : (fault : Option Fault) → first_fault (events ++ others)
        ≡ option_or (first_fault events) (first_fault others)
        → option_or fault (first_fault (events ++ others))
        ≡ option_or (option_or fault (first_fault events)) (first_fault others)
    by None is = is
    by (Some fault) is = refl

bindings_of_append : (events others : List Event)
    → bindings_of (events ++ others) ≡ bindings_of events ++ bindings_of others
bindings_of_append [] others = refl
bindings_of_append (Use name (Some binding) ∷ events) others =
    ap (λ bindings. binding ∷ bindings) (bindings_of_append events others)
bindings_of_append (Use name None ∷ events) others = bindings_of_append events others
bindings_of_append (Declaration name again ∷ events) others = bindings_of_append events others

abbrev pub walk_at : Here → List Binding → Walk
walk_at here bindings = record { here = here; bindings = bindings }

joined : (first second : Option Fault) (here now : Here) (bindings some more : List Binding)
    (rest : Walk → Result Walk Fault)
    → rest (walk_at here (bindings ++ some)) ≡ unless second (walk_at now ((bindings ++ some) ++ more))
    → unless (option_or first second) (walk_at now (bindings ++ (some ++ more)))
    ≡ bind_more (unless first (walk_at here (bindings ++ some))) rest
joined None second here now bindings some more rest is =
    ap (λ all. unless second (walk_at now all)) (sym (append_assoc bindings some more)) ∙ sym is
joined (Some fault) second here now bindings some more rest is = refl

-- a part of a text after another
pub gives_turn : (first second : Here → Seen) (walk : Walk)
    → gives (in_turn first second) walk ≡ bind_more (gives first walk) (gives second)
unfolding gives in_turn
gives_turn first second walk =
    let one : Seen = first walk.here in
    let other : Seen = second one.here in
    ap (λ fault. unless fault (walk_at other.here
    (walk.bindings ++ bindings_of (one.events ++ other.events))))
    (first_fault_append one.events other.events)
    ∙ ap (λ found. unless (option_or (first_fault one.events) (first_fault other.events))
    (walk_at other.here (walk.bindings ++ found))) (bindings_of_append one.events other.events)
    ∙ joined (first_fault one.events) (first_fault other.events) one.here other.here walk.bindings
    (bindings_of one.events) (bindings_of other.events) (gives second) refl

pub gives_then : (first second : Here → Seen) (walk now : Walk) → gives first walk ≡ Ok now
    → gives (in_turn first second) walk ≡ gives second now
gives_then first second walk now is =
    gives_turn first second walk ∙ ap (λ result. bind_more result (gives second)) is

pub fails_then : (fault : Option Fault) (first second : Here → Seen) (walk : Walk)
    → FailsBy fault (gives first walk) → FailsBy fault (gives (in_turn first second) walk)
fails_then fault first second walk fails =
    subst (FailsBy fault) (sym (gives_turn first second walk))
    (fails_more fault (gives first walk) (gives second) fails)

pub gives_three : (first second third : Here → Seen) (walk between now : Walk) → gives first walk ≡ Ok between
    → gives second between ≡ Ok now → gives (in_turn first (in_turn second third)) walk ≡ gives third now
gives_three first second third walk between now one two =
    gives_then first (in_turn second third) walk between one ∙ gives_then second third between now two

pub fails_second : (fault : Option Fault) (first second : Here → Seen) (walk now : Walk)
    → gives first walk ≡ Ok now → FailsBy fault (gives second now)
    → FailsBy fault (gives (in_turn first second) walk)
fails_second fault first second walk now is fails =
    subst (FailsBy fault) (sym (gives_then first second walk now is)) fails

pub fails_middle : (fault : Option Fault) (first second third : Here → Seen) (walk now : Walk)
    → gives first walk ≡ Ok now → FailsBy fault (gives second now)
    → FailsBy fault (gives (in_turn first (in_turn second third)) walk)
fails_middle fault first second third walk now is fails =
    fails_second fault first (in_turn second third) walk now is (fails_then fault second third now fails)

pub gives_nothing : (walk : Walk) → gives nothing walk ≡ Ok walk
unfolding gives nothing
gives_nothing walk = ap (λ all. Ok (walk_at walk.here all)) (append-nil walk.bindings)

pub gives_move : (move : Here → Here) (walk : Walk)
    → gives (moves move) walk ≡ Ok (walk_at (move walk.here) walk.bindings)
unfolding gives moves
gives_move move walk = ap (λ all. Ok (walk_at (move walk.here) all)) (append-nil walk.bindings)

-- a GOTO, a declaration
pub gives_jump : (label : Identifier) (walk : Walk)
    → gives (jumps_to label) walk
    ≡ Ok (walk_at walk.here (walk.bindings ++ jump_of walk.here label.name ∷ []))
unfolding gives jumps_to
gives_jump label walk = refl

pub gives_declared : (is_again : Here → List ℕ → Bool) (after : List ℕ → Here → Here) (name : Identifier)
    (walk : Walk) → is_again walk.here name.name ≡ false
    → gives (declares is_again after name) walk ≡ Ok (walk_at (after name.name walk.here) walk.bindings)
unfolding gives declares
gives_declared is_again after name walk is =
    rw is (ap (λ all. Ok (walk_at (after name.name walk.here) all)) (append-nil walk.bindings))

pub gives_again : (is_again : Here → List ℕ → Bool) (after : List ℕ → Here → Here) (name : Identifier)
    (walk : Walk) → is_again walk.here name.name ≡ true
    → gives (declares is_again after name) walk ≡ Err (DeclaredTwice name.place)
unfolding gives declares
gives_again is_again after name walk is = rw is refl

-- uses, where they are bound
abbrev pub with_bindings : Here → List Binding → Result Walk Fault
with_bindings here bindings = Ok (walk_at here bindings)

use_more : (here : Here) (name : Identifier) (found : Option Binding) (bindings : List Binding)
    (events : List Event) (others : List Binding → Result (List Binding) Fault)
    → ((now : List Binding) → unless (first_fault events) (walk_at here (now ++ bindings_of events))
    ≡ bind_more (others now) (with_bindings here))
    → unless (first_fault (Use name found ∷ events))
    (walk_at here (bindings ++ bindings_of (Use name found ∷ events)))
    ≡ bind_more (bind_more (bound_name name found bindings) others) (with_bindings here)
use_more here name (Some binding) bindings events others is =
    ap (λ all. unless (first_fault events) (walk_at here all))
    (sym (append_assoc bindings (binding ∷ []) (bindings_of events))) ∙ is (bindings ++ binding ∷ [])
use_more here name None bindings events others is = refl

used_names : (before here : Here) (names : List Identifier) (bindings : List Binding)
    → unless (first_fault (uses_at before names))
    (walk_at here (bindings ++ bindings_of (uses_at before names)))
    ≡ bind_more (bound_at before names bindings) (with_bindings here)
unfolding bound_at
used_names before here [] bindings = ap (λ all. Ok (walk_at here all)) (append-nil bindings)
used_names before here (name ∷ others) bindings =
    use_more here name (binding_of before name.name) bindings (uses_at before others) (bound_at before others)
    (λ now. used_names before here others now)

gives_used : (names : List Identifier) (walk : Walk)
    → gives (uses_of names) walk ≡ bind_more (bound_at walk.here names walk.bindings)
    (with_bindings walk.here)
unfolding gives uses_of
gives_used names walk = used_names walk.here walk.here names walk.bindings

pub gives_uses : (names : List Identifier) (walk : Walk) (now : List Binding)
    → bound_at walk.here names walk.bindings ≡ Ok now
    → gives (uses_of names) walk ≡ Ok (walk_at walk.here now)
gives_uses names walk now is =
    gives_used names walk ∙ ap (λ found. bind_more found (with_bindings walk.here)) is

pub fails_uses : (fault : Option Fault) (names : List Identifier) (walk : Walk)
    → FailsBy fault (bound_at walk.here names walk.bindings) → FailsBy fault (gives (uses_of names) walk)
fails_uses fault names walk fails =
    subst (FailsBy fault) (sym (gives_used names walk))
    (fails_more fault (bound_at walk.here names walk.bindings) (with_bindings walk.here) fails)

pub uses_done : {A : Type 0} (result : Result A (Failure Fault)) (names : List Identifier) (walk : Walk)
    (now : List Binding) → Does result now (bound_at walk.here names walk.bindings)
    → Does result (walk_at walk.here now) (gives (uses_of names) walk)
uses_done (Ok done) names walk now does = gives_uses names walk now does
uses_done (Err failure) names walk now does = fails_uses (fault_in failure) names walk does

-- an item, whose declarations bind nothing
objects_bind_nothing : (names : List Identifier) (here : Here)
    → bindings_of (see_all declares_object names here).events ≡ []
unfolding in_turn nothing declares
objects_bind_nothing [] here = refl
objects_bind_nothing (name ∷ others) here = objects_bind_nothing others (with_object name.name here)

-- declarations that bind nothing, and then uses
module _ (declared : List Event) (used : List Event)
    (nothing_bound : bindings_of declared ≡ []) (now : Here) where
  item_joined : (bindings : List Binding)
      → unless (first_fault (declared ++ used)) (walk_at now (bindings ++ bindings_of (declared ++ used)))
      ≡ unless (option_or (first_fault declared) (first_fault used))
      (walk_at now (bindings ++ bindings_of used))
  item_joined bindings =
      ap (λ fault. unless fault (walk_at now (bindings ++ bindings_of (declared ++ used))))
      (first_fault_append declared used)
      ∙ ap (λ found. unless (option_or (first_fault declared) (first_fault used))
      (walk_at now (bindings ++ found)))
      (bindings_of_append declared used ∙ ap (λ found. found ++ bindings_of used) nothing_bound)

refused_first : {A B : Type 0} (fault : Option Fault) (first second : Option Fault) (a : A) (b : B)
    → FailsBy fault (unless first a) → FailsBy fault (unless (option_or first second) b)
refused_first None first second a b fails = tt
refused_first (Some fault) None second a b fails = absurd (cc)
refused_first (Some fault) (Some other) second a b fails =
    let same : other ≡ fault = cc in ap (λ f. Err f) same

declared_first : (first second : Option Fault) (now : Here) (other found : List Binding) (after all : Walk)
    → found ≡ [] → unless first (walk_at now (other ++ found)) ≡ Ok after
    → unless second all ≡ Ok (walk_at now other) → unless (option_or first second) all ≡ Ok after
declared_first None second now other found after all none declared used =
    used ∙ ap (λ bindings. Ok (walk_at now bindings))
    (sym (append-nil other) ∙ ap (λ more. other ++ more) (sym none)) ∙ declared
declared_first (Some fault) second now other found after all none declared used = absurd (cc)

used_after : {A B : Type 0} (fault : Option Fault) (first second : Option Fault) (a after : A) (b : B)
    → unless first a ≡ Ok after → FailsBy fault (unless second b)
    → FailsBy fault (unless (option_or first second) b)
used_after fault None second a after b declared fails = fails
used_after fault (Some other) second a after b declared fails = absurd (cc)

-- The uses of an item are bound first, and leave these bindings. Its names are then declared from the same
-- place on.
module _ (declared used : List Identifier) (walk other : Walk) (same : other.here ≡ walk.here) where
  objects_from : (given : Result Walk Fault → Type 0) → given (gives (see_all declares_object declared) other)
      → given (gives (see_all declares_object declared) (walk_at walk.here other.bindings))
  objects_from given from =
      subst (λ here. given (gives (see_all declares_object declared) (walk_at here other.bindings))) same from

  events_of_objects : List Event
  events_of_objects = (see_all declares_object declared walk.here).events

  pub item_refused : (fault : Option Fault) → FailsBy fault (gives (see_all declares_object declared) other)
      → FailsBy fault (gives (see_item declared used) walk)
  unfolding gives see_item events_of_objects
  item_refused fault fails =
      subst (FailsBy fault)
      (sym (item_joined events_of_objects (uses_at walk.here used)
      (objects_bind_nothing declared walk.here)
      (see_all declares_object declared walk.here).here walk.bindings))
      (refused_first fault (first_fault events_of_objects) (first_fault (uses_at walk.here used)) _ _
      (objects_from (FailsBy fault) fails))

  pub item_used : (fault : Option Fault) (now : Walk)
      → gives (see_all declares_object declared) other ≡ Ok now
      → FailsBy fault (bound_at walk.here used walk.bindings)
      → FailsBy fault (gives (see_item declared used) walk)
  unfolding gives see_item events_of_objects
  item_used fault now is fails =
      let after : Here = (see_all declares_object declared walk.here).here in
      subst (FailsBy fault)
      (sym (item_joined events_of_objects (uses_at walk.here used)
      (objects_bind_nothing declared walk.here) after walk.bindings))
      (used_after fault (first_fault events_of_objects) (first_fault (uses_at walk.here used)) _ now _
      (objects_from (λ result. result ≡ Ok now) is)
      (subst (FailsBy fault) (sym (used_names walk.here after used walk.bindings))
      (fails_more fault (bound_at walk.here used walk.bindings) (with_bindings after) fails)))

  pub item_declared : (now : Walk) → gives (see_all declares_object declared) other ≡ Ok now
      → bound_at walk.here used walk.bindings ≡ Ok other.bindings
      → gives (see_item declared used) walk ≡ Ok now
  unfolding gives see_item events_of_objects
  item_declared now is bound =
      let after : Here = (see_all declares_object declared walk.here).here in
      item_joined events_of_objects (uses_at walk.here used)
      (objects_bind_nothing declared walk.here) after walk.bindings
      ∙ declared_first (first_fault events_of_objects) (first_fault (uses_at walk.here used)) after
      other.bindings (bindings_of events_of_objects) now
      (walk_at after (walk.bindings ++ bindings_of (uses_at walk.here used)))
      (objects_bind_nothing declared walk.here) (objects_from (λ result. result ≡ Ok now) is)
      (used_names walk.here after used walk.bindings
      ∙ ap (λ found. bind_more found (with_bindings after)) bound)

  pub item_done : {A : Type 0} (result : Result A (Failure Fault)) (now : Walk)
      → gives (see_all declares_object declared) other ≡ Ok now
      → Does result other.bindings (bound_at walk.here used walk.bindings)
      → Does result now (gives (see_item declared used) walk)
  item_done (Ok done) now is does = item_declared now is does
  item_done (Err failure) now is does = item_used (fault_in failure) now is does

-- a whole text
module _ (part : Here → Seen) (here : Here) (now : Walk) where
  given_whole : (fault : Option Fault) (found : List Binding) (after : Here)
      → unless fault (walk_at after ([] ++ found)) ≡ Ok now → (fault ≡ None) × (now.bindings ≡ found)
  given_whole None found after is = (refl, cc)
  given_whole (Some fault) found after is = absurd (cc)

  pub whole_given : gives part (walk_at here []) ≡ Ok now
      → (first_fault (part here).events ≡ None) × (now.bindings ≡ bindings_of (part here).events)
  unfolding gives
  whole_given is =
      given_whole (first_fault (part here).events) (bindings_of (part here).events) (part here).here is

refused_whole : {A : Type 0} (fault : Option Fault) (a : A) (other : Fault) → unless fault a ≡ Err other
    → fault ≡ Some other
refused_whole None a other is = absurd (cc)
refused_whole (Some fault) a other is = let same : fault ≡ other = cc in ap (λ f. Some f) same

pub whole_refused : (part : Here → Seen) (here : Here) (other : Fault)
    → gives part (walk_at here []) ≡ Err other → first_fault (part here).events ≡ Some other
unfolding gives
whole_refused part here other is = refused_whole (first_fault (part here).events) _ other is

pub refuses_whole : {A : Type 0} (part : Here → Seen) (here : Here) (result : Result A (Failure Fault))
    (failure : Failure Fault) → result ≡ Err failure
    → FailsBy (fault_in failure) (gives part (walk_at here []))
    → IfFault result (λ fault. first_fault (part here).events ≡ Some fault)
refuses_whole part here result (failures.Fault fault) is fails = rw is (whole_refused part here fault fails)
refuses_whole part here result failures.Memory is fails = rw is tt
