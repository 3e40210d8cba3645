-- The text of a source with its files put in, and what is told of its lines with controls.
use Rattle.std.specs.Prelude.{ℕ, zero, suc, ◌+◌, ◌-◌, Bool, true, false, ◌==◌, ◌&&◌, if◌then◌else◌, Option, None}
use Rattle.std.specs.Prelude.{List, [], ◌∷◌, ◌++◌, length, map, drop}
use Rattle.std.specs.List.{list_all}
use Rattle.convert.specs.declared.advice.Advice.{Advice}
use Rattle.convert.specs.declared.assembly.Assembly.{Assembly}
use Rattle.convert.specs.declared.assembly.Place.{Place}
use Rattle.convert.specs.declared.assembly.PlacedNote.{PlacedNote}
use Rattle.convert.specs.declared.assembly.TheConstants.{DEEPEST_FILE}
use Rattle.convert.specs.declared.blocks.Block.{Block}
use Rattle.convert.specs.declared.blocks.Concern.{Concern}
use Rattle.convert.specs.declared.blocks.Concern.TheVariants.{Fine, NoCondition, NoIf}
use Rattle.convert.specs.declared.controls.ControlKind.{ControlKind}
use Rattle.convert.specs.declared.controls.ControlKind.TheVariants.{Include, If, ElseIf, Else, EndIf, Set, Reset, Other}
use Rattle.convert.specs.declared.includes.Entry.{Entry}
use Rattle.convert.specs.Blocks.{applies, blocks_after, concern_at}
use Rattle.convert.specs.Comments.{comment_notes}
use Rattle.convert.specs.Controls.{argument_of, is_last, kind_at, last_control, step_at, word_length}
use Rattle.convert.specs.Includes.{Answer, absent, answer_of, file_name, no_name, present, unknown}
use Rattle.convert.specs.Lines.{is_control, is_unbroken, lines_of, lines_of_file, return_of}
use Rattle.convert.specs.Switches.{SwitchView, are_names, condition_value, is_name, items_of, switch_view, switches_of}

-- What was put together so far: the text; where each of its lines stands; what is told; the switches that were set and reset;
-- and the names of files that were not looked for.
pub record Parts : Type 0 where
  pub text : List ℕ
  pub places : List Place
  pub notes : List PlacedNote
  pub switches : List SwitchView
  pub wanted : List (List ℕ)

abbrev pub parts_of : Assembly → Parts
parts_of assembly = record {
  text = assembly.text.items;
  places = assembly.places.items;
  notes = assembly.notes.items;
  switches = map switch_view assembly.switches.items;
  wanted = map (λ name. name.items) assembly.wanted.items;
}

-- a text with one more line, after a line feed (10) if it is not the first
abbrev pub with_text : List Place → List ℕ → List ℕ → List ℕ
with_text places text line = if length places == 0 then text ++ line else text ++ 10 ∷ line

abbrev pub with_line : Place → List ℕ → Parts → Parts
with_line place line parts = record parts {
  text = with_text parts.places parts.text line;
  places = parts.places ++ place ∷ [];
}

abbrev pub with_note : PlacedNote → Parts → Parts
with_note note parts = record parts { notes = parts.notes ++ note ∷ [] }

abbrev pub with_wanted : List ℕ → Parts → Parts
with_wanted name parts = record parts { wanted = parts.wanted ++ name ∷ [] }

-- what is told of a control of an IF
abbrev pub told_on : Advice → Place → Concern → Parts → Parts
told_on advice place Fine parts = parts
told_on advice place NoCondition parts =
    with_note (record { place = place; text = advice.no_condition; number = None }) parts
told_on advice place NoIf parts =
    with_note (record { place = place; text = advice.no_if; number = None }) parts

-- what is told of an IF that is open at the end of its file
abbrev pub note_open : Advice → ℕ → Block → PlacedNote
note_open advice file block =
    record { place = record { file = file; line = block.line }; text = advice.no_end; number = None }

abbrev pub told_open : Advice → ℕ → List Block → Parts → Parts
told_open advice file [] parts = parts
told_open advice file (block ∷ blocks) parts =
    told_open advice file blocks (with_note (note_open advice file block) parts)

-- the switches of a group are set or reset, if it has names alone
abbrev pub with_names : Advice → Place → Bool → List (List ℕ) → Parts → Parts
with_names advice place on items parts =
    if are_names items then record parts { switches = parts.switches ++ switches_of on items }
    else with_note (record { place = place; text = advice.no_names; number = None }) parts

-- a line at which a control begins that sets or resets switches, or another
abbrev pub switched_by : Advice → Place → List ℕ → ControlKind → Parts → Parts
switched_by advice place line Set parts = with_names advice place true (items_of (argument_of line)) parts
switched_by advice place line Reset parts = with_names advice place false (items_of (argument_of line)) parts
switched_by advice place line Include parts = parts
switched_by advice place line If parts = parts
switched_by advice place line ElseIf parts = parts
switched_by advice place line Else parts = parts
switched_by advice place line EndIf parts = parts
switched_by advice place line Other parts = parts

-- the switches of a line are set and reset, up to a control that ends it, where this many bytes at the front are passed over
abbrev pub switched : Advice → Place → ℕ → List ℕ → Parts → Parts
switched advice place passed [] parts = parts
switched advice place (suc passed) (c ∷ line) parts = switched advice place passed line parts
switched advice place zero (c ∷ line) parts =
    if is_last (kind_at (c ∷ line)) then parts
    else switched advice place (step_at (c ∷ line) - 1) line
    (switched_by advice place (c ∷ line) (kind_at (c ∷ line)) parts)

-- the same if the line applies
abbrev pub switched_if : Bool → Advice → Place → List ℕ → Parts → Parts
switched_if applying advice place line parts = if applying then switched advice place 0 line parts else parts

-- what is told of a line, which comes out empty
abbrev pub with_told : List ℕ → PlacedNote → Parts → Parts
with_told line note parts = with_line note.place (return_of line) (with_note note parts)

-- how the file of a number is put in, by its text
abbrev pub Puts : Type 0
Puts = Place → List ℕ → ℕ → List ℕ → Parts → Parts

-- a line with an INCLUDE of this name, by what is known of its file
abbrev pub included_by : Advice → Puts → Place → List ℕ → List ℕ → Answer → Parts → Parts
included_by advice puts place line name no_name parts =
    with_told line (record { place = place; text = advice.no_name; number = None }) parts
included_by advice puts place line name unknown parts =
    with_told line (record { place = place; text = advice.not_looked_for; number = None }) (with_wanted name parts)
included_by advice puts place line name absent parts =
    with_told line (record { place = place; text = advice.no_file; number = None }) parts
included_by advice puts place line name (present file text) parts = puts place line file text parts

-- the same, by what was looked for
abbrev pub included : Advice → List Entry → Puts → Place → List ℕ → List ℕ → Parts → Parts
included advice entries puts place line argument parts =
    included_by advice puts place line (file_name argument) (answer_of entries (file_name argument)) parts

-- what a condition says after the word of its control
abbrev pub value_at : List SwitchView → List ℕ → Option Bool
value_at switches control = condition_value switches (drop (word_length control) control)

-- a line with a control of an IF, or without one that ends it
abbrev pub conditioned : Advice → Place → List ℕ → List ℕ → ControlKind → List Block → Parts → Parts
conditioned advice place line control kind blocks parts =
    with_line place (return_of line)
    (told_on advice place (concern_at (value_at parts.switches control) kind blocks) parts)

-- a line with controls whose switches were set and reset already; `control` is the last of its controls
abbrev pub controlled : Advice → List Entry → Puts → Place → List ℕ → List ℕ → ControlKind → List Block → Parts → Parts
controlled advice entries puts place line control Include blocks parts =
    if applies blocks then included advice entries puts place line (argument_of control) parts
    else with_line place (return_of line) parts
controlled advice entries puts place line control If blocks parts = conditioned advice place line control If blocks parts
controlled advice entries puts place line control ElseIf blocks parts =
    conditioned advice place line control ElseIf blocks parts
controlled advice entries puts place line control Else blocks parts =
    conditioned advice place line control Else blocks parts
controlled advice entries puts place line control EndIf blocks parts =
    conditioned advice place line control EndIf blocks parts
controlled advice entries puts place line control Set blocks parts =
    conditioned advice place line control Set blocks parts
controlled advice entries puts place line control Reset blocks parts =
    conditioned advice place line control Reset blocks parts
controlled advice entries puts place line control Other blocks parts =
    conditioned advice place line control Other blocks parts

-- a line of a source that applies or not, if it is not a line with controls
abbrev pub plain_line : Bool → List ℕ → List ℕ
plain_line applying line = if applying then line else return_of line

-- what a line with controls does
abbrev pub line_controlled : Advice → List Entry → Puts → Place → List ℕ → List Block → Parts → Parts
line_controlled advice entries puts place line blocks parts =
    controlled advice entries puts place line (last_control 0 line) (kind_at (last_control 0 line)) blocks
    (switched_if (applies blocks) advice place line parts)

-- a line of a file
abbrev pub line_put : Advice → List Entry → Puts → Place → List ℕ → List Block → Parts → Parts
line_put advice entries puts place line blocks parts =
    if is_control line then line_controlled advice entries puts place line blocks parts
    else with_line place (plain_line (applies blocks) line) parts

-- the open IFs after a line with controls
abbrev pub blocks_controlled : Advice → Place → List ℕ → List Block → Parts → List Block
blocks_controlled advice place line blocks parts =
    blocks_after
    (value_at (switched_if (applies blocks) advice place line parts).switches (last_control 0 line))
    (kind_at (last_control 0 line)) place.line blocks

-- the open IFs after a line of a file
abbrev pub blocks_put : Advice → Place → List ℕ → List Block → Parts → List Block
blocks_put advice place line blocks parts =
    if is_control line then blocks_controlled advice place line blocks parts else blocks

-- the lines of a file, numbered from `number`, where these IFs are open
abbrev pub lines_put : Advice → List Entry → Puts → ℕ → ℕ → List (List ℕ) → List Block → Parts → Parts
lines_put advice entries puts file number [] blocks parts = told_open advice file blocks parts
lines_put advice entries puts file number (line ∷ lines) blocks parts =
    let place : Place = record { file = file; line = number } in
    lines_put advice entries puts file (number + 1) lines (blocks_put advice place line blocks parts)
    (line_put advice entries puts place line blocks parts)

-- what is told of a file that is included, if a line with controls is all of it
abbrev pub with_ends : Advice → ℕ → List ℕ → Parts → Parts
with_ends advice file text parts =
    if is_unbroken text && is_control text
    then with_note (record { place = record { file = file; line = 1 }; text = advice.no_feed; number = None }) parts
    else parts

-- what is told of comments in a file that is included
abbrev pub with_comments : Advice → ℕ → List ℕ → Parts → Parts
with_comments advice file text parts =
    record parts { notes = parts.notes ++ comment_notes advice file text }

-- what is told of a file that is included, before its lines
abbrev pub begun : Advice → ℕ → List ℕ → Parts → Parts
begun advice file text parts = with_comments advice file text (with_ends advice file text parts)

-- the lines of a file that is included, and of those that it includes, where files may be so deep
abbrev pub file_put : Advice → List Entry → (depth : ℕ) → Place → List ℕ → ℕ → List ℕ → Parts → Parts
file_put advice entries zero place line file text parts =
    with_told line (record { place = place; text = advice.too_deep; number = None }) parts
file_put advice entries (suc depth) place line file text parts =
    lines_put advice entries (file_put advice entries depth) file 1 (lines_of_file text) [] (begun advice file text parts)

-- the line of a number of the source
abbrev pub line_of_source : ℕ → Place
line_of_source number = record { file = 0; line = number }

-- what is told of switches that are set from the beginning, if one has no name
abbrev pub notes_of_sets : Advice → List (List ℕ) → List PlacedNote
notes_of_sets advice sets =
    if list_all is_name sets then [] else record { place = line_of_source 0; text = advice.no_switch; number = None } ∷ []

-- nothing but what was told before, and switches that are set
abbrev pub parts_with : Advice → List PlacedNote → List (List ℕ) → Parts
parts_with advice before sets = record {
  text = [];
  places = [];
  notes = before ++ notes_of_sets advice sets;
  switches = switches_of true sets;
  wanted = [];
}

-- a source with its files put in, with these files and with these switches set, after what was told before
abbrev pub assembled : Advice → List Entry → List PlacedNote → List (List ℕ) → List ℕ → Parts
assembled advice entries before sets source =
    lines_put advice entries (file_put advice entries DEEPEST_FILE) 0 1 (lines_of source) []
    (parts_with advice before sets)

-- the places of lines of the source, numbered from `number`
abbrev pub places_from : ℕ → List (List ℕ) → List Place
places_from number [] = []
places_from number (line ∷ lines) = line_of_source number ∷ places_from (number + 1) lines

-- a source as it is, after what was told before
abbrev pub as_it_is : List PlacedNote → List ℕ → Parts
as_it_is before source =
    record { text = source; places = places_from 1 (lines_of source); notes = before; switches = []; wanted = [] }
