-- What is shown of files that are listed, and of the symbols of sources.
use Rattle.commands.proofs.{Prelude.{◌≡◌, ℕ, ◌≤◌, Bool, true, false, List, Bor, Option, inl, inr, length, map, sym, subst, ◌∙◌, texts, Appends, AppendsBeginning, Directory, HasFiles, Tells, TellsOther, memory_line, Ending, Done, Refused, Plan, MOST_SOURCES, IsProgramOf, program_modules, Construction, IsConstruction, IsInOrder, ToolFault, TooManySources, fault_line, PlaceAction, PrintsListing, StopsListing, TellsUnwritten, HasShown, PrintsShown, PrintsTextsBy, RefusesShown, RefusesTextsBy, ShowsProgram, takes_object}, InputFiles.{files_of_order}, Printed.{stays_written}}
use Rattle.sources.specs.Programs.{text_of}
use Rattle.tool.specs.Sources.{HasCause}
use Rattle.commands.specs.Showing.{PrintsBuilt, StopsShowing}

pub refused_not_done : (ending : Ending) → ending ≡ Refused → ending ≡ Done → ⊥
refused_not_done ending refused done = let bad : Done ≡ Refused = sym done ∙ refused in cc

-- memory ran out before the text of a program was made
pub no_text : (action : PlaceAction) (sources : List (List ℕ)) (built : Construction) (out old new : Option (List ℕ)) → Tells memory_line old new
    → StopsShowing action sources built old new out out
no_text action sources built out old new told = inl (stays_written out, told)

-- the text of a program that was built was written, or a beginning of it
module _ (action : PlaceAction) (sources : List (List ℕ)) (built : Construction) (out now : Option (List ℕ)) where
  pub text_printed : (text lines : List ℕ) → ShowsProgram action sources built text → lines ≡ text → Appends out now lines
      → PrintsBuilt action sources built out now
  text_printed text lines shown are printed = record { text = text; shown = shown; printed = subst (λ (l : List ℕ). Appends out now l) are printed }

  pub text_begun : (text lines : List ℕ) (old new : Option (List ℕ)) → ShowsProgram action sources built text → lines ≡ text → TellsUnwritten old new
      → AppendsBeginning out now lines
      → StopsShowing action sources built old new out now
  text_begun text lines old new shown are told printed =
      inr (told, record { text = text; shown = shown; printed = subst (λ (l : List ℕ). AppendsBeginning out now l) are printed })

  -- it is the program of the sources
  module _ (plan : Plan) (few : length sources ≤ MOST_SOURCES) (program : IsProgramOf sources (program_modules built.program)) (planned : built.plan ≡ plan)
      (construction : IsConstruction built) where
    is_shown : (text : List ℕ) → ShowsProgram action sources built text → HasShown action plan sources text
    is_shown text shown = record { built = built; few = few; program = program; planned = planned; construction = construction; shown = shown }

    pub program_printed : PrintsBuilt action sources built out now → PrintsTextsBy false action plan sources out now
    program_printed made = record { text = made.text; shown = is_shown made.text made.shown; printed = made.printed }

    pub program_stopped : (names : List (List ℕ)) (old new : Option (List ℕ)) → StopsShowing action sources built old new out now
        → RefusesTextsBy false action plan names sources old new out now
    program_stopped names old new (inl (nothing, told)) = inl (nothing, inr told)
    program_stopped names old new (inr (told, begun)) = inr
        (told, record { text = begun.text; shown = is_shown begun.text begun.shown; printed = begun.printed })

module _ (action : PlaceAction) (plan : Plan) (sources : List (List ℕ)) where
  -- a fault of the sources, told with the names of their files, and memory that ran out
  pub fault_shown : (names order : List (Bor (List ℕ))) (fault was : ToolFault) (old new out : Option (List ℕ)) → names ≡ order → was ≡ fault
      → HasCause fault sources plan → ((fault ≡ TooManySources → ⊥) → length sources ≤ MOST_SOURCES) → IsInOrder fault sources
      → Tells (fault_line (map (λ n. n.now) names) was) old new → RefusesTextsBy false action plan (texts order) sources old new out out
  fault_shown names order fault was old new out same is cause few first told =
      let of_fault : Tells (fault_line (map (λ n. n.now) names) fault) old new = subst
      (λ (f : ToolFault). Tells (fault_line (map (λ n. n.now) names) f) old new) is told in
      let of_order : Tells (fault_line (texts order) fault) old new = subst
      (λ (l : List (Bor (List ℕ))). Tells (fault_line (map (λ n. n.now) l) fault) old new) same of_fault in
      inl (stays_written out, inl (record { fault = fault; cause = cause; few = few; order = first; told = of_order }))

  pub memory_shown : (names : List (List ℕ)) (old new out : Option (List ℕ)) → Tells memory_line old new
      → RefusesTextsBy false action plan names sources old new out out
  memory_shown names old new out told = inl (stays_written out, inr told)

  -- the bytes that are listed are the first text
  pub listing_printed : (bytes : List ℕ) (out now : Option (List ℕ)) → bytes ≡ text_of sources 0 → PrintsListing bytes plan out now
      → PrintsTextsBy true action plan sources out now
  listing_printed bytes out now are printed = subst (λ (b : List ℕ). PrintsListing b plan out now) are printed

  pub listing_stopped : (bytes : List ℕ) (names : List (List ℕ)) (old new out now : Option (List ℕ)) → bytes ≡ text_of sources 0 → TellsOther old new
      → StopsListing bytes plan out now
      → RefusesTextsBy true action plan names sources old new out now
  listing_stopped bytes names old new out now are told stopped = (told, subst (λ (b : List ℕ). StopsListing b plan out now) are stopped)

-- what is said of other texts that are the same, and by what they are taken for
module _ (action : PlaceAction) (plan : Plan) (read : List (List ℕ)) (object is : Bool) (same : object ≡ is) (used : List (List ℕ)) (are : used ≡ read) where
  pub printed_by : (out now : Option (List ℕ)) → PrintsTextsBy is action plan used out now → PrintsTextsBy object action plan read out now
  printed_by out now printed =
      subst (λ (l : List (List ℕ)). PrintsTextsBy object action plan l out now) are
      (subst (λ (b : Bool). PrintsTextsBy b action plan used out now) (sym same) printed)

  pub refused_by : (names : List (List ℕ)) (old new out now : Option (List ℕ)) → RefusesTextsBy is action plan names used old new out now
      → RefusesTextsBy object action plan names read old new out now
  refused_by names old new out now refused =
      subst (λ (l : List (List ℕ)). RefusesTextsBy object action plan names l old new out now) are
      (subst (λ (b : Bool). RefusesTextsBy b action plan names used old new out now) (sym same) refused)

-- the texts are those of files with these names
module _ (action : PlaceAction) (plan : Plan) (files : Option Directory) (names order : List (Bor (List ℕ))) (read used : List (List ℕ))
    (same : names ≡ order)
    (has : HasFiles files (map (λ n. n.now) names) read) (are : used ≡ read) where
  pub files_shown : (out now : Option (List ℕ)) → PrintsTextsBy (takes_object action used) action plan used out now
      → PrintsShown action files (texts order) plan out now
  files_shown out now printed =
      let of_read : PrintsTextsBy (takes_object action read) action plan read out now =
      subst (λ (l : List (List ℕ)). PrintsTextsBy (takes_object action l) action plan l out now) are printed in
      record { texts = read; read = files_of_order names order files read same has; printed = of_read }

  pub files_refused : (old new out now : Option (List ℕ)) → RefusesTextsBy (takes_object action used) action plan (texts order) used old new out now
      → RefusesShown action files (texts order) plan old new out now
  files_refused old new out now refused = record {
    texts = read;
    read = files_of_order names order files read same has;
    refused = subst (λ (l : List (List ℕ)). RefusesTextsBy (takes_object action l) action plan (texts order) l old new out now) are refused;
  }
