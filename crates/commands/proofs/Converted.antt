-- Sources that were converted, or not.
use Rattle.commands.proofs.{Prelude.{◌≡◌, ◌<◌, ◌≤◌, ◌++◌, ◌∷◌, ℕ, List, [], length, length-append, codes, decimal, map, Option, None, Some, inl, inr, refl, sym, ap, subst, ◌∙◌, ◌⊎◌, arith, Ending, Done, Refused, status_of, AppendsBeginning, Appends, ChangesFiles, Directory, HasFile, KeepsFiles, stays_on, Tells, memory_line, file_line, CountsFailure, TellsUnwritten, ConvertWanted, LONGEST_SOURCE, Lexeme, lexemes_of, one_reading, Expands, not_both, TypedModule, HasReadCause, IsSourceOf, ReadFault, Expansion, Storage, Syntax, TooLong, Typing, Words, advice_view, usual_advice, Parts, as_it_is, assembled, IsRefused, no_expansion, no_words, plain, line_table, prepared, prepared_notes, rule_view, table_of_rules, note_lines, Advice, PlacedNote, Entry, Rule, IsIncluded, Converts, ConvertsByTables, HasNoConversion, IsMistyped, IsModule, IsNoModule, IsPutTogether, StopsSource, changed, medium_of, rewritten, BeginsTable, WritesTable, ComesOf, IsConvertedTo, IsMadeOf, IsOfForm, IsRefusedAs, RefusesParts, UnlessFault, form_of_fault, told_line, ConvertsFile, ConvertsText, RefusesText, ConvertsHeld, PrintsTold, PrintsTabled, unchanged, with_file, StopsWriting, Conversion, Refusal, Result, Ok, Err, IfOk, IfFault, Failure, Fault, Memory}, Printed.{stays_written}, Included.{was_included, was_stopped_for_next}, Tables.{table_begun, table_stopped, table_written, was_begun, was_stopped_writing, was_written}}
use Rattle.mem80.proofs.Results.{if_ok_then}
use Rattle.convert.specs.Includes.{name_of_file}
use Rattle.convert.specs.Sources.{note_line, number_text}
use Rattle.commands.specs.Converting.{stays}
use Rattle.literally.specs.declared.fault.Fault as expansion_fault

module _ (text : List ℕ) where
  pub source_is_module : (typed : TypedModule) → IsSourceOf text typed → IsModule text
  source_is_module typed source = (typed, source.typing)

  pub of_form : (fault : ReadFault) → length text ≤ LONGEST_SOURCE → HasReadCause fault text → IsOfForm text (form_of_fault fault)
  of_form TooLong short cause = absurd (omega (arith, short, cause))
  of_form (Words fault) short cause = record { fault = Words fault; kind = tt; cause = cause }
  of_form (Expansion fault) short cause = record { fault = Expansion fault; kind = tt; cause = cause }
  of_form (Syntax fault) short cause = record { fault = Syntax fault; kind = tt; cause = cause }
  of_form (Typing fault) short cause = (fault, cause)
  of_form (Storage fault) short cause = (cause.typed, cause.typing)

  not_refused : (fault : expansion_fault.Fault) → IsMistyped text → IsRefused text fault → ⊥
  not_refused fault (wrong, mistyped) (no_words {fault = of_words} first) =
      (one_reading text).not_both mistyped.read.expansion.words of_words mistyped.read.expansion.spelling.spelled first
  not_refused fault (wrong, mistyped) (no_expansion words spelled found) =
      let same : lexemes_of words ≡ mistyped.read.expansion.words = (one_reading text).one_spelling (lexemes_of words) mistyped.read.expansion.words spelled mistyped.read.expansion.spelling.spelled in
      not_both found (subst (λ (w : List Lexeme). Expands w mistyped.read.output) (sym same) mistyped.read.expansion.expanded)

  -- a text that derives a tree is a list of words that has an expansion
  mistyped_is_converted : (fault : ReadFault) → length text ≤ LONGEST_SOURCE → IsMistyped text → HasNoConversion text fault → ⊥
  mistyped_is_converted TooLong short mistyped cause = omega (arith, short, cause)
  mistyped_is_converted (Words fault) short mistyped cause = cause
  mistyped_is_converted (Expansion fault) short mistyped cause = not_refused fault mistyped cause
  mistyped_is_converted (Syntax fault) short mistyped cause = cause
  mistyped_is_converted (Typing fault) short mistyped cause = cause
  mistyped_is_converted (Storage fault) short mistyped cause = cause

-- what a failure keeps
if_fault_then : {A F : Type 0} (result : Result A (Failure F)) (P Q : F → Type 0) → ((fault : F) → P fault → Q fault) → IfFault result P → IfFault result Q
if_fault_then (Ok value) P Q more is = is
if_fault_then (Err (Fault fault)) P Q more is = more fault is
if_fault_then (Err Memory) P Q more is = is

pub unless_fault : {A F : Type 0} (result : Result A (Failure F)) (P : Type 0) → P → UnlessFault result P
unless_fault (Ok value) P holds = holds
unless_fault (Err (Fault fault)) P holds = tt
unless_fault (Err Memory) P holds = holds

-- the text of a conversion was printed, or a beginning of it
module _ (made : Conversion) (old new out now : Option (List ℕ)) where
  pub told_unwritten : (status : ℕ) → status ≡ 1 → TellsUnwritten old new → AppendsBeginning out now made.text.items → PrintsTold made status old new out now
  unfolding PrintsTold
  told_unwritten status one told begun = inr (inr (one, told, begun))

  pub told_written : (ending : Ending) → (ending ≡ Done) ⊎ (ending ≡ Refused) → (ending ≡ Done → made.told.items ≡ []) → (ending ≡ Refused → 0 < length made.told.items)
      → (ending ≡ Refused → AppendsBeginning old new made.told.items) → Appends out now made.text.items → PrintsTold made (status_of ending) old new out now
  unfolding PrintsTold
  told_written ending (inl done) none some tells appended = inl (ap status_of done, none done, appended)
  told_written ending (inr refused) none some tells appended = inr (inl (ap status_of refused, some refused, appended, tells refused))

-- it was printed after its table was written that is wanted, or not
module _ (wanted : ConvertWanted) (made : Conversion) (files later : Option Directory) (before after : ℕ) (old new out now : Option (List ℕ)) where
  pub tabled_without : (status : ℕ) → wanted.lines ≡ None → PrintsTold made status old new out now → PrintsTabled wanted made files files status before before old new out now
  unfolding PrintsTabled
  tabled_without status none printed = inl (refl, rw none (unchanged files), printed)

  pub tabled_written : (status : ℕ) (name : List ℕ) → wanted.lines ≡ Some name → after ≡ before → ChangesFiles files later (with_file name made.table.items)
      → PrintsTold made status old new out now → PrintsTabled wanted made files later status before after old new out now
  unfolding PrintsTabled
  tabled_written status name is same written printed =
      inl (same, subst (λ (o : Option (List ℕ)). WritesTable o files later made.table.items) (sym is) written, printed)

  pub tabled_stopped : (status : ℕ) (name : List ℕ) → wanted.lines ≡ Some name → status ≡ 1 → CountsFailure before after → StopsWriting files later name made.table.items
      → Tells (file_line name) old new → PrintsTabled wanted made files later status before after old new out out
  unfolding PrintsTabled
  tabled_stopped status name is one counted stopped told =
      inr (inl (one, stays_written out, record { counted = counted; name = name; stopped = (is, stopped); told = told }))

  pub tabled_unwritten : (status : ℕ) (name : List ℕ) → wanted.lines ≡ Some name → status ≡ 1 → after ≡ before → StopsWriting files later name made.table.items
      → Tells memory_line old new → PrintsTabled wanted made files later status before after old new out out
  unfolding PrintsTabled
  tabled_unwritten status name is one same stopped told = inr (inr (
    one,
    same,
    subst (λ (o : Option (List ℕ)). BeginsTable o files later made.table.items) (sym is) stopped,
    told,
    stays_written out,
  ))

-- what is printed with files is printed with them as they were
pub was_tabled : (was files later : Option Directory) → KeepsFiles was files → (wanted : ConvertWanted) (made : Conversion) (before middle after : ℕ) → middle ≡ before → (status : ℕ) (old new out now : Option (List ℕ))
    → PrintsTabled wanted made files later status middle after old new out now → PrintsTabled wanted made was later status before after old new out now
unfolding PrintsTabled
was_tabled was files later kept wanted made before middle after uncounted status old new out now (inl (same, written, printed)) =
    inl (same ∙ uncounted, was_written wanted.lines was files later made.table.items kept written, printed)
was_tabled was files later kept wanted made before middle after uncounted status old new out now (inr (inl (one, nothing, told))) = inr (inl (
  one,
  nothing,
  record {
    counted = subst (λ (n : ℕ). CountsFailure n after) uncounted told.counted;
    name = told.name;
    stopped = (told.stopped.0, was_stopped_writing was files later told.name made.table.items kept told.stopped.1);
    told = told.told;
  },
))
was_tabled was files later kept wanted made before middle after uncounted status old new out now (inr (inr (one, same, begun, told, nothing))) =
    inr (inr (one, same ∙ uncounted, was_begun wanted.lines was files later made.table.items kept begun, told, nothing))

-- each note has a line
module _ (name : List ℕ) (entries : List Entry) where
  some_line : (note : PlacedNote) → 0 < length (note_line name entries note)
  some_line note = omega (arith, length-append (name_of_file name entries note.place.file) (32 ∷ (decimal note.place.line ++ (codes ": " ++ (note.text.now ++ (number_text note.number ++ 10 ∷ []))))))

  no_notes : (notes : List PlacedNote) → note_lines name entries notes ≡ [] → notes ≡ []
  no_notes [] none = refl
  no_notes (note ∷ others) none = absurd (omega (arith, some_line note, ap (λ (l : List ℕ). length l) none, length-append (note_line name entries note) (note_lines name entries others)))

  some_notes : (notes : List PlacedNote) → 0 < length (note_lines name entries notes) → 0 < length notes
  some_notes [] some = some
  some_notes (note ∷ others) some = omega arith

-- what a source is converted to, by what it is
module _ (rules : List Rule) (advice : Advice) (wanted : ConvertWanted) (files : Option Directory) (before : List PlacedNote) (text : List ℕ) (made : Conversion) where
  pub module_converted : IsModule text → IsMadeOf wanted [] (as_it_is before text) [] text before made → IsConvertedTo rules advice wanted files before text made
  module_converted is made_of = record {
    entries = [];
    notes = before;
    table = line_table wanted.file [] (as_it_is before text) [] text;
    converts = subst (λ (t : List ℕ). Converts rules advice wanted files before text [] t before (line_table wanted.file [] (as_it_is before text) [] text)) (sym made_of.text_is) (stays is);
    told_is = made_of.told_is;
    table_is = made_of.table_is;
  }

  pub mistyped_converted : IsMistyped text → ComesOf wanted [] (as_it_is before text) rules made → IsConvertedTo rules advice wanted files before text made
  mistyped_converted is comes = record {
    entries = [];
    notes = comes.notes;
    table = line_table wanted.file [] (as_it_is before text) comes.changes comes.text;
    converts = subst (λ (t : List ℕ). Converts rules advice wanted files before text [] t comes.notes (line_table wanted.file [] (as_it_is before text) comes.changes comes.text)) (sym comes.made_of.text_is)
        (rewritten is comes.converted);
    told_is = comes.made_of.told_is;
    table_is = comes.made_of.table_is;
  }

  pub old_converted : (entries : List Entry) (parts : Parts) → IsPutTogether advice wanted files before text entries parts → ComesOf wanted entries parts rules made
      → IsConvertedTo rules advice wanted files before text made
  old_converted entries parts put comes = record {
    entries = entries;
    notes = comes.notes;
    table = line_table wanted.file entries parts comes.changes comes.text;
    converts = subst (λ (t : List ℕ). Converts rules advice wanted files before text entries t comes.notes (line_table wanted.file entries parts comes.changes comes.text)) (sym comes.made_of.text_is)
        (changed put comes.converted);
    told_is = comes.made_of.told_is;
    table_is = comes.made_of.table_is;
  }

-- the same of answers that may be failures
module _ (rules : List Rule) (advice : Advice) (wanted : ConvertWanted) (files : Option Directory) (notes : List PlacedNote) (text : List ℕ) (result : Result Conversion (Failure Refusal)) where
  pub if_mistyped_converted : IsMistyped text → IfOk result (ComesOf wanted [] (as_it_is notes text) rules) → IfOk result (IsConvertedTo rules advice wanted files notes text)
  if_mistyped_converted is = if_ok_then _ _ result (λ made. mistyped_converted rules advice wanted files notes text made is)

  pub if_old_converted : (entries : List Entry) (parts : Parts) → IsPutTogether advice wanted files notes text entries parts → IfOk result (ComesOf wanted entries parts rules)
      → IfOk result (IsConvertedTo rules advice wanted files notes text)
  if_old_converted entries parts put = if_ok_then _ _ result (λ made. old_converted rules advice wanted files notes text made entries parts put)

-- the words of a module with a fault of names or of types are not refused
pub if_mistyped_refused : (wanted : ConvertWanted) (notes : List PlacedNote) (text : List ℕ) (result : Result Conversion (Failure Refusal)) (Q : Refusal → Type 0) → length text ≤ LONGEST_SOURCE → IsMistyped text
    → IfFault result (RefusesParts wanted [] (as_it_is notes text)) → IfFault result Q
if_mistyped_refused wanted notes text result Q short is =
    if_fault_then result _ Q (λ refusal refuses. absurd (mistyped_is_converted text refuses.fault short is refuses.cause))

pub if_old_refused : (advice : Advice) (wanted : ConvertWanted) (files : Option Directory) (notes : List PlacedNote) (text : List ℕ) (result : Result Conversion (Failure Refusal)) (entries : List Entry) (parts : Parts) (before after : ℕ)
    → IsPutTogether advice wanted files notes text entries parts → after ≡ before → IfFault result (RefusesParts wanted entries parts)
    → IfFault result (IsRefusedAs advice wanted files notes text before after)
if_old_refused advice wanted files notes text result entries parts before after put same =
    if_fault_then result _ _ (λ refusal refuses. inr (same, inr (record { entries = entries; parts = parts; together = put; refuses = refuses })))

-- what converting a text prints, tells and writes, or a file that it includes or that of its table stops it
module _ (rules : List Rule) (advice : Advice) (wanted : ConvertWanted) (files later : Option Directory) (notes : List PlacedNote) (text : List ℕ) (before after : ℕ) (old new out now : Option (List ℕ)) where
  text_printed : (status : ℕ) (made : Conversion) (is : IsConvertedTo rules advice wanted files notes text made) → WritesTable wanted.lines files later is.table
      → PrintsTold made status old new out now → ConvertsText rules advice wanted files notes text later status old new out now
  unfolding ConvertsText RefusesText PrintsTold
  text_printed status made is written (inl (zero, none, appended)) = inl (
    zero,
    record {
      entries = is.entries;
      printed = made.text.items;
      table = is.table;
      converts = subst (λ (l : List PlacedNote). Converts rules advice wanted files notes text is.entries made.text.items l is.table)
          (no_notes wanted.file is.entries is.notes (sym is.told_is ∙ none)) is.converts;
      appended = appended;
      tabled = written;
    },
  )
  text_printed status made is written (inr (inl (one, some, appended, telling))) = inr (
    one,
    inr (inl (record {
      entries = is.entries;
      printed = made.text.items;
      notes = is.notes;
      table = is.table;
      some = some_notes wanted.file is.entries is.notes (subst (λ (l : List ℕ). 0 < length l) is.told_is some);
      converts = is.converts;
      appended = appended;
      tabled = written;
      told = subst (λ (l : List ℕ). AppendsBeginning old new l) is.told_is telling;
    })),
  )
  text_printed status made is written (inr (inr (one, telling, begun))) = inr (
    one,
    inr (inr (inl (record {
      entries = is.entries;
      printed = made.text.items;
      notes = is.notes;
      table = is.table;
      converts = is.converts;
      tabled = written;
      told = telling;
      begun = begun;
    }))),
  )

  pub held_printed : (status : ℕ) (made : Conversion) → IsConvertedTo rules advice wanted files notes text made → PrintsTabled wanted made files later status before after old new out now
      → ConvertsHeld rules advice wanted files notes text later status before after old new out now
  unfolding ConvertsHeld ConvertsText RefusesText PrintsTabled
  held_printed status made is (inl (same, written, printed)) =
      inr (same, text_printed status made is (table_written wanted.lines files later is.table made.table.items is.table_is written) printed)
  held_printed status made is (inr (inl (one, nothing, telling))) = inl (
    one,
    nothing,
    record {
      counted = telling.counted;
      name = telling.name;
      stopped = inr (record {
        entries = is.entries;
        printed = made.text.items;
        notes = is.notes;
        table = is.table;
        converts = is.converts;
        wanted_is = telling.stopped.0;
        begun = table_stopped wanted.lines telling.name files later is.table made.table.items is.table_is telling.stopped.0 telling.stopped.1;
      });
      told = telling.told;
    },
  )
  held_printed status made is (inr (inr (one, same, begun, telling, nothing))) = inr (
    same,
    inr (
      one,
      inr (inr (inr (record {
        entries = is.entries;
        printed = made.text.items;
        notes = is.notes;
        table = is.table;
        converts = is.converts;
        tabled = table_begun wanted.lines files later is.table made.table.items is.table_is begun;
        told = telling;
        nothing = nothing;
      }))),
    ),
  )

  pub held_unheld : (status : ℕ) → status ≡ 1 → after ≡ before → KeepsFiles files later → Tells memory_line old new
      → ConvertsHeld rules advice wanted files notes text later status before after old new out out
  unfolding ConvertsHeld ConvertsText RefusesText
  held_unheld status one same stay told = inr (same, inr (one, inl (stay, stays_written out, inl told)))

  pub held_refused : (status : ℕ) (refusal : Refusal) → status ≡ 1 → KeepsFiles files later → Tells (told_line refusal) old new
      → IsRefusedAs advice wanted files notes text before after refusal → ConvertsHeld rules advice wanted files notes text later status before after old new out out
  unfolding ConvertsHeld ConvertsText RefusesText
  held_refused status refusal one stay told (inl unread) = inl (
    one,
    stays_written out,
    record {
      counted = unread.counted;
      name = refusal.file.items;
      stopped = inl (stay, unread.stops);
      told = subst (λ (l : List ℕ). Tells l old new) unread.line_is told;
    },
  )
  held_refused status refusal one stay told (inr (same, inl long)) = inr (
    same,
    inr (
      one,
      inl (stay, stays_written out, inr (inl (record { long = long.long; told = subst (λ (l : List ℕ). Tells l old new) long.line_is told }))),
    ),
  )
  held_refused status refusal one stay told (inr (same, inr source)) = inr (
    same,
    inr (
      one,
      inl (
        stay,
        stays_written out,
        inr (inr (record {
          entries = source.entries;
          parts = source.parts;
          together = source.together;
          fault = source.refuses.fault;
          cause = source.refuses.cause;
          told = subst (λ (l : List ℕ). Tells l old new) source.refuses.line_is told;
        })),
      ),
    ),
  )

-- what a text that is no module is put together of
module _ (advice : Advice) (wanted : ConvertWanted) (files : Option Directory) (before : List PlacedNote) (text : List ℕ) where
  pub are_put : (entries : List Entry) (parts : Parts) (source : List ℕ) (sets : List (List ℕ)) → source ≡ plain text → sets ≡ wanted.sets → IsNoModule text
      → IsIncluded advice wanted files before source entries → parts ≡ assembled advice entries before sets source → IsPutTogether advice wanted files before text entries parts
  are_put entries parts source sets source_is sets_are none included parts_are = record {
    none = none;
    included = subst (λ (s : List ℕ). IsIncluded advice wanted files before s entries) source_is included;
    parts_are =
        parts_are
        ∙ ap (λ (s : List ℕ). assembled advice entries before sets s) source_is
        ∙ ap (λ (l : List (List ℕ)). assembled advice entries before l (plain text)) sets_are;
  }

-- what is put together of files is put together of them as they were
module _ (was files later : Option Directory) (kept : KeepsFiles was files) (rules : List Rule) (advice : Advice) (wanted : ConvertWanted) (before : List PlacedNote) (text : List ℕ) where
  was_put : (entries : List Entry) (parts : Parts) → IsPutTogether advice wanted files before text entries parts → IsPutTogether advice wanted was before text entries parts
  was_put entries parts put = record {
    none = put.none;
    included = was_included was files kept advice wanted before (plain text) entries put.included;
    parts_are = put.parts_are;
  }

  was_changed : {entries : List Entry} {printed : List ℕ} {notes : List PlacedNote} {table : List ℕ} → Converts rules advice wanted files before text entries printed notes table
      → Converts rules advice wanted was before text entries printed notes table
  was_changed (stays is) = stays is
  was_changed (rewritten mistyped converted) = rewritten mistyped converted
  was_changed (changed {entries = entries} {parts = parts} put converted) = changed (was_put entries parts put) converted

  was_stopped : (stop : List ℕ) → StopsSource rules advice wanted files before text later stop → StopsSource rules advice wanted was before text later stop
  was_stopped stop (inl (stay, stopped)) = inl (
    stays_on was files later kept stay,
    record { none = stopped.none; next = was_stopped_for_next was files kept advice wanted before (plain text) stop stopped.next },
  )
  was_stopped stop (inr tabled) = inr (record {
    entries = tabled.entries;
    printed = tabled.printed;
    notes = tabled.notes;
    table = tabled.table;
    converts = was_changed tabled.converts;
    wanted_is = tabled.wanted_is;
    begun = was_stopped_writing was files later stop tabled.table kept tabled.begun;
  })

  was_converted : (status : ℕ) (old new out now : Option (List ℕ)) → ConvertsText rules advice wanted files before text later status old new out now
      → ConvertsText rules advice wanted was before text later status old new out now
  unfolding ConvertsText RefusesText
  was_converted status old new out now (inl (zero, done)) = inl (
    zero,
    record {
      entries = done.entries;
      printed = done.printed;
      table = done.table;
      converts = was_changed done.converts;
      appended = done.appended;
      tabled = was_written wanted.lines was files later done.table kept done.tabled;
    },
  )
  was_converted status old new out now (inr (one, inl (stay, same, inl told))) = inr (one, inl (stays_on was files later kept stay, same, inl told))
  was_converted status old new out now (inr (one, inl (stay, same, inr (inl told)))) =
      inr (one, inl (stays_on was files later kept stay, same, inr (inl (record { long = told.long; told = told.told }))))
  was_converted status old new out now (inr (one, inl (stay, same, inr (inr told)))) = inr (
    one,
    inl (
      stays_on was files later kept stay,
      same,
      inr (inr (record {
        entries = told.entries;
        parts = told.parts;
        together = was_put told.entries told.parts told.together;
        fault = told.fault;
        cause = told.cause;
        told = told.told;
      })),
    ),
  )
  was_converted status old new out now (inr (one, inr (inl told))) = inr (
    one,
    inr (inl (record {
      entries = told.entries;
      printed = told.printed;
      notes = told.notes;
      table = told.table;
      some = told.some;
      converts = was_changed told.converts;
      appended = told.appended;
      tabled = was_written wanted.lines was files later told.table kept told.tabled;
      told = told.told;
    })),
  )
  was_converted status old new out now (inr (one, inr (inr (inl told)))) = inr (
    one,
    inr (inr (inl (record {
      entries = told.entries;
      printed = told.printed;
      notes = told.notes;
      table = told.table;
      converts = was_changed told.converts;
      tabled = was_written wanted.lines was files later told.table kept told.tabled;
      told = told.told;
      begun = told.begun;
    }))),
  )
  was_converted status old new out now (inr (one, inr (inr (inr told)))) = inr (
    one,
    inr (inr (inr (record {
      entries = told.entries;
      printed = told.printed;
      notes = told.notes;
      table = told.table;
      converts = was_changed told.converts;
      tabled = was_begun wanted.lines was files later told.table kept told.tabled;
      told = told.told;
      nothing = told.nothing;
    }))),
  )

-- what converting a file does
module _ (rules : List Rule) (advice : Advice) (wanted : ConvertWanted) (files later : Option Directory) (before after : ℕ) (old new out now : Option (List ℕ)) where
  pub file_unread : (status : ℕ) → status ≡ 1 → CountsFailure before after → KeepsFiles files later → Tells (file_line wanted.file) old new
      → ConvertsFile rules advice wanted files later status before after old new out out
  unfolding ConvertsFile
  file_unread status one counted stay told =
      inl (one, stays_written out, record { counted = counted; name = wanted.file; stopped = inl (stay, refl); told = told })

  pub file_unheld : (status : ℕ) → status ≡ 1 → after ≡ before → KeepsFiles files later → Tells memory_line old new
      → ConvertsFile rules advice wanted files later status before after old new out out
  unfolding ConvertsFile
  file_unheld status one same stay told = inr (inl (one, stay, record { count = same; told = told; nothing = stays_written out }))

  -- with the source of the file, and what was told of its lines
  pub source_converted : (status middle : ℕ) (text : List ℕ) (held : Option Directory) → KeepsFiles files held → middle ≡ before → HasFile files wanted.file text
      → ConvertsHeld rules advice wanted held (prepared_notes advice (medium_of wanted) text) (prepared (medium_of wanted) text) later status middle after old new out now
      → ConvertsFile rules advice wanted files later status before after old new out now
  unfolding ConvertsFile ConvertsHeld
  source_converted status middle text held kept same read (inl (one, nothing, stopped)) = inl (
    one,
    nothing,
    record {
      counted = subst (λ (n : ℕ). CountsFailure n after) same stopped.counted;
      name = stopped.name;
      stopped = inr (record {
        text = text;
        read = read;
        stops = was_stopped files held later kept rules advice wanted (prepared_notes advice (medium_of wanted) text) (prepared (medium_of wanted) text) stopped.name stopped.stopped;
      });
      told = stopped.told;
    },
  )
  source_converted status middle text held kept same read (inr (unfailed, converts)) = inr (inr (
    unfailed ∙ same,
    record {
      text = text;
      read = read;
      converted = was_converted files held later kept rules advice wanted (prepared_notes advice (medium_of wanted) text) (prepared (medium_of wanted) text) status old new out now converts;
    },
  ))

-- the rules and what is told are those of the tables
pub by_tables : (rules : List Rule) (advice : Advice) (wanted : ConvertWanted) (files later : Option Directory) (status before after : ℕ) (old new out now : Option (List ℕ))
    → map rule_view rules ≡ table_of_rules → advice_view advice ≡ usual_advice → ConvertsFile rules advice wanted files later status before after old new out now
    → ConvertsByTables wanted files later status before after old new out now
by_tables rules advice wanted files later status before after old new out now first second converts =
    record { rules = rules; advice = advice; rules_are = first; advice_is = second; converts = converts }
