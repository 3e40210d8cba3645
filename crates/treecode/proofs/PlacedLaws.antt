-- Objects are placed where those of the module are, and the procedures have its headings and frames.
use Rattle.treecode.proofs.Prelude.{◌≡◌, ◌⊎◌, ℕ, zero, suc, ◌+◌, Bool, true, false, List, [], ◌∷◌, ◌++◌, length, map, take, filter, Option, Some, None, option_map, slice_get, slice_set, nat_lt, min, ◌==◌, ◌≢◌, ◌≤◌, cond, is_some, inl, inr, refl, sym, ap, ap₂, subst, ◌∙◌, add-one, arith, enumerate_from, option_map_or, append_assoc, append-nil, length-append, le-ltb, lt-ltb, eqb_tells, filter-append, none-some, slice_get_within, take-append_seam, TypedHome, InData, InConstants, Placed, BasedOn, Elsewhere, Nowhere, InFrame, TypedObject, TypedProcedure, TypedModule, AtNumber, AtObject, Storage, Home, FrameVariable, external_place, frame_number, frame_variable, home_of_object, homes_from, homes_of, kind_with, lives_in_frame, numbered_in_frame, Gathered, all_gathered, none_gathered, number_in, Heading, HeadingsAre, PlacedSoFar, all_placed, heading_at, heading_in, headings_after, headings_in, home_in, variable_number, variable_of, with_all_parameters, with_placed, with_variable, with_variable_in}
use Rattle.treecode.specs.declared.place.Home.TheVariants as homes
use Rattle.treecode.proofs.AddedExpressions.{one_more}
use Rattle.treecode.proofs.PlacedTables.{objects_known, parameters_known, procedures_known}

-- more variables in a frame
abbrev with_frame : List FrameVariable → Heading → Heading
with_frame more heading = record heading { frame = heading.frame ++ more }

abbrev if_in_frame : (procedure : ℕ) → TypedHome → FrameVariable → List FrameVariable
if_in_frame procedure home variable = cond (lives_in_frame procedure home) (variable ∷ []) []

nothing_more : (found : Option Heading) → option_map (with_frame []) found ≡ found
nothing_more None = refl
nothing_more (Some heading) =
    ap (λ (frame : List FrameVariable). Some (record heading { frame = frame })) (append-nil heading.frame)

more_in_frame : (first second : List FrameVariable) (found : Option Heading)
    → option_map (with_frame second) (option_map (with_frame first) found)
    ≡ option_map (with_frame (first ++ second)) found
more_in_frame first second None = refl
more_in_frame first second (Some heading) =
    ap (λ (frame : List FrameVariable). Some (record heading { frame = frame }))
    (append_assoc heading.frame first second)

-- a variable in the frame of one procedure
later_variable : (first : Heading) (others : List Heading) (other : ℕ)
    (variable : FrameVariable) (procedure : ℕ)
    → slice_get (with_variable_in (first ∷ others) (suc other) variable) (suc procedure)
    ≡ slice_get (with_variable_in others other variable) procedure
later_variable first others other variable procedure = by (slice_get others other)
  where
    by : (found : Option Heading)
        → slice_get
        (option_map_or (λ (heading : Heading). first
        ∷ slice_set others other (with_variable variable heading))
        found (first ∷ others)) (suc procedure)
        ≡ slice_get
        (option_map_or (λ (heading : Heading). slice_set others other (with_variable variable heading))
        found others) procedure
    by None = refl
    by (Some heading) = refl

own_variable : (headings : List Heading) (variable : FrameVariable) (procedure : ℕ)
    → slice_get (with_variable_in headings procedure variable) procedure
    ≡ option_map (with_frame (variable ∷ [])) (slice_get headings procedure)
own_variable [] variable procedure = refl
own_variable (first ∷ others) variable zero = refl
own_variable (first ∷ others) variable (suc procedure) =
    later_variable first others procedure variable procedure ∙ own_variable others variable procedure

no_variable : (headings : List Heading) (other : ℕ) (variable : FrameVariable) (procedure : ℕ)
    → procedure ≢ other
    → slice_get (with_variable_in headings other variable) procedure ≡ slice_get headings procedure
no_variable [] other variable procedure differs = refl
no_variable (first ∷ others) zero variable zero differs = absurd (differs refl)
no_variable (first ∷ others) zero variable (suc procedure) differs = refl
no_variable (first ∷ others) (suc other) variable zero differs = by (slice_get others other)
  where
    by : (found : Option Heading)
        → slice_get
        (option_map_or (λ (heading : Heading). first
        ∷ slice_set others other (with_variable variable heading))
        found (first ∷ others)) zero
        ≡ Some first
    by None = refl
    by (Some heading) = refl
no_variable (first ∷ others) (suc other) variable (suc procedure) differs =
    later_variable first others other variable procedure
    ∙ no_variable others other variable procedure (λ same. differs (ap suc same))

variable_at : (headings : List Heading) (other : ℕ) (variable : FrameVariable) (procedure : ℕ)
    → slice_get (with_variable_in headings other variable) procedure
    ≡ option_map (with_frame (cond (procedure == other) (variable ∷ []) [])) (slice_get headings procedure)
variable_at headings other variable procedure = by (eqb_tells procedure other)
  where
    by : ((procedure == other) ≡ true) × (procedure ≡ other) ⊎ ((procedure == other) ≡ false)
        × (procedure ≢ other)
        → slice_get (with_variable_in headings other variable) procedure
        ≡ option_map (with_frame (cond (procedure == other) (variable ∷ []) []))
        (slice_get headings procedure)
    by (inl same) =
        ap (λ (one : ℕ). slice_get (with_variable_in headings one variable) procedure) (sym same.1)
        ∙ own_variable headings variable procedure
        ∙ ap (λ (test : Bool). option_map (with_frame (cond test (variable ∷ []) []))
        (slice_get headings procedure))
        (sym same.0)
    by (inr differs) =
        no_variable headings other variable procedure differs.1
        ∙ sym (nothing_more (slice_get headings procedure))
        ∙ ap (λ (test : Bool). option_map (with_frame (cond test (variable ∷ []) []))
        (slice_get headings procedure))
        (sym differs.0)

after_object : (before : List Heading) (variable : FrameVariable) (home : TypedHome) (procedure : ℕ)
    → slice_get (headings_after before variable home) procedure
    ≡ option_map (with_frame (if_in_frame procedure home variable)) (slice_get before procedure)
after_object before variable (InFrame other) procedure = variable_at before other variable procedure
after_object before variable (InData values) procedure = sym (nothing_more (slice_get before procedure))
after_object before variable (InConstants values) procedure = sym (nothing_more (slice_get before procedure))
after_object before variable (Placed at) procedure = sym (nothing_more (slice_get before procedure))
after_object before variable (BasedOn base) procedure = sym (nothing_more (slice_get before procedure))
after_object before variable Elsewhere procedure = sym (nothing_more (slice_get before procedure))
after_object before variable Nowhere procedure = sym (nothing_more (slice_get before procedure))

abbrev numbered_variable : (parameters : List (Option ℕ)) → ℕ × TypedObject → FrameVariable
numbered_variable parameters numbered = variable_of numbered.1 (number_in parameters numbered.0)

module _ (externals parameters : List (Option ℕ)) (storage : Storage) where
  -- the variables that objects add to the frame of a procedure, from the number of the first object
  abbrev added_in : (procedure first : ℕ) → List TypedObject → List FrameVariable
  added_in procedure first objects =
      map (numbered_variable parameters) (filter (numbered_in_frame procedure) (enumerate_from first objects))

  added_first : (procedure first : ℕ) (object : TypedObject) (others : List TypedObject)
      → if_in_frame procedure object.home (variable_of object (number_in parameters first))
      ++ added_in procedure (suc first) others
      ≡ added_in procedure first (object ∷ others)
  added_first procedure first object others = by (lives_in_frame procedure object.home)
    where
      rest : ℕ → List (ℕ × TypedObject)
      rest number = filter (numbered_in_frame procedure) (enumerate_from number others)

      by : (lives : Bool)
          → cond lives (variable_of object (number_in parameters first) ∷ []) []
          ++ map (numbered_variable parameters) (rest (suc first))
          ≡ map (numbered_variable parameters)
          (cond lives ((first, object) ∷ rest (first + 1)) (rest (first + 1)))
      by true =
          ap (λ (number : ℕ). variable_of object (number_in parameters first)
          ∷ map (numbered_variable parameters) (rest number))
          (sym (add-one first))
      by false = ap (λ (number : ℕ). map (numbered_variable parameters) (rest number)) (sym (add-one first))

  placed_headings : (before : PlacedSoFar) (number : ℕ) (objects : List TypedObject) (procedure : ℕ)
      → slice_get (all_placed externals parameters storage before number objects).headings procedure
      ≡ option_map (with_frame (added_in procedure number objects)) (slice_get before.headings procedure)
  placed_headings before number [] procedure = sym (nothing_more (slice_get before.headings procedure))
  placed_headings before number (object ∷ others) procedure =
      placed_headings (with_placed externals parameters storage before number object)
      (suc number) others procedure
      ∙ ap (option_map (with_frame (added_in procedure (suc number) others)))
      (after_object before.headings (variable_of object (number_in parameters number)) object.home procedure)
      ∙ more_in_frame (if_in_frame procedure object.home (variable_of object (number_in parameters number)))
      (added_in procedure (suc number) others) (slice_get before.headings procedure)
      ∙ ap (λ (more : List FrameVariable). option_map (with_frame more) (slice_get before.headings procedure))
      (added_first procedure number object others)

headings_found : (externals : List (Option ℕ)) (first number : ℕ) (procedures : List TypedProcedure)
    → slice_get (headings_in externals first procedures) number
    ≡ option_map (heading_in externals (first + number)) (slice_get procedures number)
headings_found externals first number [] = refl
headings_found externals first zero (procedure ∷ others) =
    let same : first ≡ first + 0 = omega arith in
    ap (λ (one : ℕ). Some (heading_in externals one procedure)) same
headings_found externals first (suc number) (procedure ∷ others) =
    let same : suc first + number ≡ first + suc number = omega arith in
    headings_found externals (suc first) number others
    ∙ ap (λ (one : ℕ). option_map (heading_in externals one) (slice_get others number)) same

-- the frame of a procedure, from the parameters of the module
same_variables : (typed : TypedModule) (numbered : List (ℕ × TypedObject))
    → map (numbered_variable (with_all_parameters [] typed.procedures)) numbered
    ≡ map (frame_variable typed) numbered
same_variables typed [] = refl
same_variables typed (first ∷ others) =
    ap₂ (λ (one : FrameVariable) (more : List FrameVariable). one ∷ more)
    (ap (variable_of first.1) (parameters_known typed.procedures first.0)) (same_variables typed others)

abbrev objects_table : TypedModule → List (Option ℕ)
objects_table typed = (all_gathered typed none_gathered typed.globals).objects

abbrev procedures_table : TypedModule → List (Option ℕ)
procedures_table typed = (all_gathered typed none_gathered typed.globals).procedures

-- the start, before any object is placed
abbrev nothing_placed : TypedModule → PlacedSoFar
nothing_placed typed =
    record { homes = []; headings = headings_in (procedures_table typed) 0 typed.procedures }

abbrev placed_in_module : TypedModule → Storage → PlacedSoFar
placed_in_module typed storage =
    all_placed (objects_table typed) (with_all_parameters [] typed.procedures) storage
    (nothing_placed typed) 0
    typed.objects

-- procedures have the headings and the frames of the module
pub headings_placed : (typed : TypedModule) (storage : Storage)
    → HeadingsAre typed (placed_in_module typed storage).headings
headings_placed typed storage number =
    placed_headings (objects_table typed) (with_all_parameters [] typed.procedures) storage
    (nothing_placed typed) 0
    typed.objects number
    ∙ ap (option_map (with_frame added)) (headings_found (procedures_table typed) 0 number typed.procedures)
    ∙ by (slice_get typed.procedures number)
  where
    added : List FrameVariable
    added = added_in (objects_table typed) (with_all_parameters [] typed.procedures) storage
        number 0 typed.objects

    same : 0 + number ≡ number
    same = omega arith

    by : (found : Option TypedProcedure)
        → option_map (with_frame added) (option_map (heading_in (procedures_table typed) (0 + number)) found)
        ≡ option_map (heading_at typed number) found
    by None = refl
    by (Some procedure) =
        ap₂ (λ (external : Option ℕ) (frame : List FrameVariable). Some (record {
          kind = kind_with external procedure.visibility procedure.is_reentrant;
          result = procedure.result;
          frame = frame;
          frame_bytes = procedure.frame_bytes;
        }))
        (ap (number_in (procedures_table typed)) same ∙ procedures_known typed number)
        (same_variables typed (filter (numbered_in_frame number) (enumerate_from 0 typed.objects)))

-- the objects of a list that are in the frame of a procedure
abbrev in_frame : (procedure : ℕ) → List TypedObject → List TypedObject
in_frame procedure objects = filter (λ (object : TypedObject). lives_in_frame procedure object.home) objects

abbrev frame_length : Heading → ℕ
frame_length heading = length heading.frame

-- the invariant after the objects of `front`
record StandsSoFar (typed : TypedModule) (front : List TypedObject) (before : PlacedSoFar) : Type 0 where
  counted : length before.homes ≡ length front
  framed : (procedure : ℕ)
      → option_map frame_length (slice_get before.headings procedure)
      ≡ option_map (λ (heading : TypedProcedure). length (in_frame procedure front))
      (slice_get typed.procedures procedure)

longer_frame : (more : List FrameVariable) (found : Option Heading)
    → option_map frame_length (option_map (with_frame more) found)
    ≡ option_map (λ (count : ℕ). count + length more) (option_map frame_length found)
longer_frame more None = refl
longer_frame more (Some heading) = ap (λ (count : ℕ). Some count) (length-append heading.frame more)

one_in_frame : (procedure : ℕ) (front : List TypedObject) (object : TypedObject) (variable : FrameVariable)
    → length (in_frame procedure front) + length (if_in_frame procedure object.home variable)
    ≡ length (in_frame procedure (front ++ object ∷ []))
one_in_frame procedure front object variable =
    ap (λ (count : ℕ). length (in_frame procedure front) + count) (by (lives_in_frame procedure object.home))
    ∙ sym (length-append (in_frame procedure front) (in_frame procedure (object ∷ [])))
    ∙ sym (ap length (filter-append (λ (one : TypedObject). lives_in_frame procedure one.home)
    front (object ∷ [])))
  where
    by : (lives : Bool) → length (cond lives (variable ∷ []) []) ≡ length (cond lives (object ∷ []) [])
    by true = refl
    by false = refl

next_stands : (typed : TypedModule) (externals parameters : List (Option ℕ)) (storage : Storage)
    (front : List TypedObject) (before : PlacedSoFar) (number : ℕ) (object : TypedObject)
    → StandsSoFar typed front before
    → StandsSoFar typed (front ++ object ∷ []) (with_placed externals parameters storage before number object)
next_stands typed externals parameters storage front before number object stands = record {
  counted =
      one_more before.homes (home_in externals storage before number object.home) ∙ ap suc stands.counted
      ∙ sym (one_more front object);
  framed = λ procedure.
      ap (option_map frame_length) (after_object before.headings variable object.home procedure)
      ∙ longer_frame (if_in_frame procedure object.home variable) (slice_get before.headings procedure)
      ∙ ap (option_map (λ (count : ℕ). count + length (if_in_frame procedure object.home variable)))
      (stands.framed procedure)
      ∙ by procedure (slice_get typed.procedures procedure);
}
  where
    variable : FrameVariable
    variable = variable_of object (number_in parameters number)

    by : (procedure : ℕ) (found : Option TypedProcedure)
        → option_map (λ (count : ℕ). count + length (if_in_frame procedure object.home variable))
        (option_map (λ (heading : TypedProcedure). length (in_frame procedure front)) found)
        ≡ option_map (λ (heading : TypedProcedure). length (in_frame procedure (front ++ object ∷ []))) found
    by procedure None = refl
    by procedure (Some heading) =
        ap (λ (count : ℕ). Some count) (one_in_frame procedure front object variable)

first_stands : (typed : TypedModule) → StandsSoFar typed [] (nothing_placed typed)
first_stands typed = record {
  counted = refl;
  framed = λ procedure.
      ap (option_map frame_length) (headings_found (procedures_table typed) 0 procedure typed.procedures)
      ∙ by procedure (slice_get typed.procedures procedure);
}
  where
    by : (procedure : ℕ) (found : Option TypedProcedure)
        → option_map frame_length (option_map (heading_in (procedures_table typed) (0 + procedure)) found)
        ≡ option_map (λ (heading : TypedProcedure). length (in_frame procedure [])) found
    by procedure None = refl
    by procedure (Some heading) = refl

past_end : {A : Type 0} (xs : List A) (number : ℕ) → slice_get xs number ≡ None → length xs ≤ number
past_end [] number none = omega arith
past_end (x ∷ xs) zero none = absurd (none-some x (sym none))
past_end (x ∷ xs) (suc number) none = let past : _ = past_end xs number none in omega arith

is_there : {A : Type 0} (xs : List A) (number : ℕ) → is_some (slice_get xs number) ≡ nat_lt number (length xs)
is_there {A} xs number = by (slice_get xs number) refl
  where
    by : (found : Option A) → slice_get xs number ≡ found → is_some found ≡ nat_lt number (length xs)
    by None e = sym (le-ltb number (length xs) (past_end xs number e))
    by (Some x) e = sym (lt-ltb number (length xs) (slice_get_within xs number x e))

variable_is : (typed : TypedModule) (front others : List TypedObject) (before : PlacedSoFar) (procedure : ℕ)
    → typed.objects ≡ front ++ others
    → StandsSoFar typed front before
    → variable_number before.headings procedure ≡ frame_number typed procedure (length before.homes)
variable_is typed front others before procedure split stands =
    by_length (slice_get before.headings procedure)
    ∙ ap (λ (found : Option ℕ). option_map_or (λ (count : ℕ). min count 65535) found 0)
    (stands.framed procedure)
    ∙ by_heading (slice_get typed.procedures procedure)
    ∙ ap (λ (there : Bool). cond there (min (length (in_frame procedure front)) 65535) 0)
    (is_there typed.procedures procedure)
    ∙ ap (λ (objects : List TypedObject). cond (nat_lt procedure (length typed.procedures))
    (min (length (in_frame procedure objects)) 65535) 0) (sym taken)
  where
    by_length : (found : Option Heading)
        → option_map_or (λ (heading : Heading). min (length heading.frame) 65535) found 0
        ≡ option_map_or (λ (count : ℕ). min count 65535) (option_map frame_length found) 0
    by_length None = refl
    by_length (Some heading) = refl

    by_heading : (found : Option TypedProcedure)
        → option_map_or (λ (count : ℕ). min count 65535)
        (option_map (λ (heading : TypedProcedure). length (in_frame procedure front)) found) 0
        ≡ cond (is_some found) (min (length (in_frame procedure front)) 65535) 0
    by_heading None = refl
    by_heading (Some heading) = refl

    taken : take (length before.homes) typed.objects ≡ front
    taken =
        ap (λ (count : ℕ). take count typed.objects) stands.counted
        ∙ ap (take (length front)) split
        ∙ take-append_seam front others

home_is : (typed : TypedModule) (storage : Storage) (before : PlacedSoFar) (number : ℕ)
    → number ≡ length before.homes
    → ((procedure : ℕ)
    → variable_number before.headings procedure ≡ frame_number typed procedure (length before.homes))
    → (home : TypedHome)
    → home_in (objects_table typed) storage before number home
    ≡ home_of_object typed storage before.homes (length before.homes) home
home_is typed storage before number same variables home =
    ap (λ (one : ℕ). home_in (objects_table typed) storage before one home) same ∙ by home
  where
    by : (one : TypedHome)
        → home_in (objects_table typed) storage before (length before.homes) one
        ≡ home_of_object typed storage before.homes (length before.homes) one
    by (InData values) = refl
    by (InConstants values) = refl
    by (Placed (AtNumber address)) = refl
    by (Placed (AtObject object offset)) = refl
    by (BasedOn base) = refl
    by Elsewhere =
        ap (λ (name : Option ℕ). homes.Static (external_place name))
        (objects_known typed (length before.homes))
    by Nowhere = refl
    by (InFrame procedure) = ap (λ (variable : ℕ). homes.Frame variable) (variables procedure)

homes_after : (typed : TypedModule) (storage : Storage) (front objects : List TypedObject)
    (before : PlacedSoFar)
    (number : ℕ)
    → typed.objects ≡ front ++ objects → number ≡ length front → StandsSoFar typed front before
    → (all_placed (objects_table typed) (with_all_parameters [] typed.procedures) storage before
    number objects).homes
    ≡ homes_from typed storage before.homes objects
homes_after typed storage front [] before number split same stands = refl
homes_after typed storage front (object ∷ others) before number split same stands =
    homes_after typed storage (front ++ object ∷ []) others
    (with_placed (objects_table typed) (with_all_parameters [] typed.procedures) storage before number object)
    (suc number) (split ∙ sym (append_assoc front (object ∷ []) others))
    (ap suc same ∙ sym (one_more front object))
    (next_stands typed (objects_table typed) (with_all_parameters [] typed.procedures)
    storage front before number
    object stands)
    ∙ ap (λ (home : Home). homes_from typed storage (before.homes ++ home ∷ []) others)
    (home_is typed storage before number (same ∙ sym stands.counted)
    (λ procedure. variable_is typed front (object ∷ others) before procedure split stands) object.home)

-- objects begin where those of the module do
pub homes_placed : (typed : TypedModule) (storage : Storage)
    → (placed_in_module typed storage).homes ≡ homes_of typed storage
unfolding homes_of
homes_placed typed storage =
    homes_after typed storage [] typed.objects (nothing_placed typed) 0 refl refl (first_stands typed)

-- the objects placed from the start, with the EXTERNAL names that were gathered
module _ (typed : TypedModule) (storage : Storage) (gathered : Gathered) (before after : PlacedSoFar)
    (named : gathered ≡ all_gathered typed none_gathered typed.globals)
    (none : before.homes ≡ [])
    (headed : before.headings ≡ headings_in gathered.procedures 0 typed.procedures)
    (placed : after
    ≡ all_placed gathered.objects (with_all_parameters [] typed.procedures) storage before 0
    typed.objects) where
  in_module : after ≡ placed_in_module typed storage
  in_module =
      placed
      ∙ ap (λ (first : PlacedSoFar).
      all_placed gathered.objects (with_all_parameters [] typed.procedures) storage first 0 typed.objects)
      (ap₂ (λ (starts : List Home) (headings : List Heading). record { homes = starts; headings = headings })
      none
      (headed ∙ ap (λ (one : Gathered). headings_in one.procedures 0 typed.procedures) named))
      ∙ ap (λ (one : Gathered).
      all_placed one.objects (with_all_parameters [] typed.procedures) storage
      (nothing_placed typed) 0 typed.objects)
      named

  pub homes_of_module : after.homes ≡ homes_of typed storage
  homes_of_module = ap (λ (one : PlacedSoFar). one.homes) in_module ∙ homes_placed typed storage

  pub headings_of_module : HeadingsAre typed after.headings
  headings_of_module =
      subst (HeadingsAre typed) (sym (ap (λ (one : PlacedSoFar). one.headings) in_module))
      (headings_placed typed storage)
