-- What was printed of programs, step by step.
use Rattle.commands.proofs.{Prelude.{◌≡◌, ℕ, ◌≤◌, Bool, true, false, List, [], ◌++◌, length, map, Bor, Option, None, Some, inl, inr, refl, sym, ap, subst, ◌∙◌, append-nil, Appends, Keeps, Appends-trans, AppendsBeginning, beginning_after, texts, Event, Directory, HasFiles, Plan, Joined, CodePlacement, placement_view, ProgramWanted, Values, Action, ToRun, Interpret, MOST_SOURCES, IsProgramOf, program_modules, Construction, IsConstruction, source_of, map_if, map_of, BeginsImage, PrintsBuilt, PrintsFiles, PrintsImage, PrintsTexts, StopsBuilt, machine_word, run_report, source_word, KeepsFiles, StopsImage, HasInput, PrintsRead, module_names, no_names, Absolute, source_run}, InputFiles.{input_there, files_of_order}, PlacesTold.{any_names, any_stops}}

-- a writer that nothing was sent to
pub stays_written : (known : Option (List ℕ)) → Keeps known known
stays_written None = tt
stays_written (Some bytes) = refl

pub nothing_begun : (known : Option (List ℕ)) (bytes : List ℕ) → AppendsBeginning known known bytes
nothing_begun None bytes = ([], (bytes, refl), tt)
nothing_begun (Some sent) bytes = ([], (bytes, refl), sym (append-nil sent))

-- all of what is printed begins it
pub whole_begins : (old new : Option (List ℕ)) (bytes : List ℕ) → Appends old new bytes → AppendsBeginning old new bytes
whole_begins old new bytes printed = (bytes, ([], sym (append-nil bytes)), printed)

pub nothing_stops : (action : Action) (before : List ℕ) (values : Values) (built : Construction) (known : Option (List ℕ)) → StopsBuilt action before values built known known
unfolding StopsBuilt
nothing_stops action before values built known = inl (nothing_begun known before)

kept_begun : (old new : Option (List ℕ)) → Keeps old new → AppendsBeginning old new []
kept_begun None new kept = ([], ([], refl), tt)
kept_begun (Some one) None kept = absurd kept
kept_begun (Some one) (Some other) kept = ([], ([], refl), kept ∙ sym (append-nil one))

-- the image of a program is the one that was run
module _ (values : Values) (built : Construction) (image : Absolute) (old new : Option (List ℕ)) (same : image ≡ built.image) where
  with_lines : (names : List (List ℕ)) → names ≡ module_names built.program → (status : ℕ) (outputs : List (List ℕ)) → PrintsImage names [] values image status outputs old new → PrintsBuilt ToRun [] values built status outputs old new
  with_lines names are status outputs printed =
      subst (λ (one : Absolute). PrintsImage (module_names built.program) [] values one status outputs old new) same
      (subst (λ (l : List (List ℕ)). PrintsImage l [] values image status outputs old new) are printed)

  stopped_with_lines : (names : List (List ℕ)) → names ≡ module_names built.program → StopsImage names values image old new → StopsBuilt ToRun [] values built old new
  unfolding StopsBuilt
  stopped_with_lines names are (inl kept) = inl (kept_begun old new kept)
  stopped_with_lines names are (inr begun) = inr
      (subst (λ (one : Absolute). BeginsImage (module_names built.program) [] values one old new) same
      (subst (λ (l : List (List ℕ)). BeginsImage l [] values image old new) are begun))

  -- with the lines of its modules
  module _ (program : Joined) (is : program ≡ built.program) where
    pub runs_with_lines : (status : ℕ) (outputs : List (List ℕ)) → PrintsImage (module_names program) [] values image status outputs old new → PrintsBuilt ToRun [] values built status outputs old new
    runs_with_lines status outputs printed = with_lines (module_names program) (ap (λ (p : Joined). module_names p) is) status outputs printed

    pub lines_stopped : StopsImage (module_names program) values image old new → StopsBuilt ToRun [] values built old new
    lines_stopped stops = stopped_with_lines (module_names program) (ap (λ (p : Joined). module_names p) is) stops

  -- with addresses alone
  pub runs_image : (status : ℕ) (outputs : List (List ℕ)) → PrintsImage no_names [] values image status outputs old new → PrintsBuilt ToRun [] values built status outputs old new
  runs_image status outputs printed = with_lines (module_names built.program) refl status outputs (any_names (module_names built.program) [] values image old new status outputs printed)

  pub image_stopped : StopsImage no_names values image old new → StopsBuilt ToRun [] values built old new
  image_stopped stops = stopped_with_lines (module_names built.program) refl (any_stops (module_names built.program) values image old new stops)

-- after a text that was printed before
module _ (before : List ℕ) (values : Values) (built : Construction) (outputs : List (List ℕ)) (a b c : Option (List ℕ)) (status : ℕ) (first : Appends a b before) where
  action_after : (action : Action) → PrintsBuilt action [] values built status outputs b c → PrintsBuilt action before values built status outputs a c
  action_after ToRun printed = record {
    end = printed.end;
    events = printed.events;
    steps = printed.steps;
    place = printed.place;
    text = printed.text;
    does = printed.does;
    named = printed.named;
    ended = printed.ended;
    gathered = printed.gathered;
    printed = Appends-trans a b c before _ first printed.printed;
  }
  action_after Interpret printed = record {
    end = printed.end;
    events = printed.events;
    steps = printed.steps;
    text = printed.text;
    does = printed.does;
    named = printed.named;
    ended = printed.ended;
    gathered = printed.gathered;
    printed = Appends-trans a b c before _ first printed.printed;
  }

-- what stops after a text that was printed before
module _ (before : List ℕ) (values : Values) (built : Construction) (a b c : Option (List ℕ)) where
  begun_after : (next : List ℕ) → Appends a b before → AppendsBeginning b c next → AppendsBeginning a c (before ++ next)
  begun_after next first begun = beginning_after a b c before next (before ++ next) [] (ap (λ (l : List ℕ). before ++ l) (sym (append-nil next))) first begun

  stops_after : (action : Action) → Appends a b before → StopsBuilt action [] values built b c → StopsBuilt action before values built a c
  unfolding StopsBuilt
  stops_after action first (inl begun) = inl (subst (λ (l : List ℕ). AppendsBeginning a c l) (append-nil before) (begun_after [] first begun))
  stops_after ToRun first (inr begun) = inr (record {
    end = begun.end;
    events = begun.events;
    steps = begun.steps;
    place = begun.place;
    text = begun.text;
    does = begun.does;
    named = begun.named;
    printed = begun_after (run_report values begun.events begun.steps (machine_word begun.end) begun.text) first begun.printed;
  })
  stops_after Interpret first (inr begun) = inr (record {
    end = begun.end;
    events = begun.events;
    steps = begun.steps;
    text = begun.text;
    does = begun.does;
    named = begun.named;
    printed = begun_after (run_report values begun.events begun.steps (source_word begun.end) begun.text) first begun.printed;
  })

-- after the map, where it is wanted
module _ (action : Action) (wanted : Bool) (values : Values) (built : Construction) (outputs : List (List ℕ)) (a b c : Option (List ℕ)) (status : ℕ) where
  pub with_map : wanted ≡ true → Appends a b (map_of built) → PrintsBuilt action [] values built status outputs b c → PrintsBuilt action (map_if wanted built) values built status outputs a c
  with_map is_on first printed = rw is_on (action_after (map_of built) values built outputs a b c status first action printed)

  pub prints_without_map : wanted ≡ false → PrintsBuilt action [] values built status outputs a c → PrintsBuilt action (map_if wanted built) values built status outputs a c
  prints_without_map is_off printed = rw is_off printed

-- the same of what was not printed whole
module _ (action : Action) (wanted : Bool) (values : Values) (built : Construction) (a b c : Option (List ℕ)) where
  pub map_stops : wanted ≡ true → AppendsBeginning a b (map_of built) → StopsBuilt action (map_if wanted built) values built a b
  unfolding StopsBuilt
  map_stops is_on begun = rw is_on (inl begun)

  pub stops_with_map : wanted ≡ true → Appends a b (map_of built) → StopsBuilt action [] values built b c → StopsBuilt action (map_if wanted built) values built a c
  stops_with_map is_on first stops = rw is_on (stops_after (map_of built) values built a b c action first stops)

  pub stops_alone : wanted ≡ false → StopsBuilt action [] values built a c → StopsBuilt action (map_if wanted built) values built a c
  stops_alone is_off stops = rw is_off stops

-- what a program of the interpreter does is what was built
pub same_source : (built : Construction) (joined : Joined) (placement : CodePlacement) (plan : Plan) (memory : List ℕ) (script : List (List ℕ)) (events : List Event)
    → joined ≡ built.program → placement_view placement ≡ built.placement → plan ≡ built.plan
    → source_run (program_modules joined) (placement_view placement) plan.stack_size memory script events ≡ source_of built memory script events
same_source built joined placement plan memory script events same at planned =
    ap (λ (program : Joined). source_run (program_modules program) (placement_view placement) plan.stack_size memory script events) same
    ∙ ap (λ place. source_run (program_modules built.program) place plan.stack_size memory script events) at
    ∙ ap (λ (by : Plan). source_run (program_modules built.program) built.placement by.stack_size memory script events) planned

-- what was printed of a program that was built of texts
module _ (with_map : Bool) (values : Values) (texts : List (List ℕ)) (built : Construction) (status : ℕ) (outputs : List (List ℕ)) (old new : Option (List ℕ)) (few : length texts ≤ MOST_SOURCES)
    (program : IsProgramOf texts (program_modules built.program)) (plan : built.plan ≡ values.plan) (construction : IsConstruction built) where
  pub printed_of_texts : (action : Action) → PrintsBuilt action (map_if with_map built) values built status outputs old new
      → PrintsTexts action with_map values texts status outputs old new
  printed_of_texts action printed = record {
    built = built;
    few = few;
    program = program;
    plan = plan;
    construction = construction;
    printed = printed;
  }

-- the texts are those of files with these names
pub prints_files : (files : Option Directory) (wanted : ProgramWanted) (values : Values) (names order : List (Bor (List ℕ))) (read used : List (List ℕ)) (status : ℕ) (outputs : List (List ℕ)) (old new : Option (List ℕ))
    → names ≡ order → wanted.files ≡ texts order → HasFiles files (map (λ n. n.now) names) read → used ≡ read
    → (mid : Option Directory) → KeepsFiles files mid → PrintsRead wanted values mid used status outputs old new → PrintsFiles wanted values files status outputs old new
prints_files files wanted values names order read used status outputs old new same wants has are mid kept printed = record {
  texts = read;
  read = subst (λ (l : List (List ℕ)). HasFiles files l read) (sym wants) (files_of_order names order files read same has);
  printed = record {
    full = printed.full;
    input = input_there files mid values printed.full kept printed.input;
    printed = subst (λ (l : List (List ℕ)). PrintsTexts wanted.action wanted.map printed.full l status outputs old new) are printed.printed;
  };
}

-- the files of the input were read, and the action was carried out
pub prints_read : (files : Option Directory) (wanted : ProgramWanted) (values full : Values) (read : List (List ℕ)) (status : ℕ) (outputs : List (List ℕ)) (old new : Option (List ℕ)) → HasInput files values full
    → PrintsTexts wanted.action wanted.map full read status outputs old new → PrintsRead wanted values files read status outputs old new
prints_read files wanted values full read status outputs old new input printed = record { full = full; input = input; printed = printed }

-- the texts are those of these sources
pub prints_texts : (action : Action) (with_map : Bool) (values : Values) (used read : List (List ℕ)) (status : ℕ) (outputs : List (List ℕ)) (old new : Option (List ℕ)) → used ≡ read
    → PrintsTexts action with_map values used status outputs old new → PrintsTexts action with_map values read status outputs old new
prints_texts action with_map values used read status outputs old new are printed = subst (λ (l : List (List ℕ)). PrintsTexts action with_map values l status outputs old new) are printed
