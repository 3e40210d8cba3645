-- What is printed of the number of a fault, and of a word with which a run ends, which is meant by a number too.
use Rattle.std.specs.Prelude.{◌==◌, ◌&&◌, Bool, List, Option, Some, None, find, length, slice_index, take}
use Rattle.std.specs.List.{slice_split}
use Rattle.std.specs.Str.{str_eq_ignore_ascii_case}
use Rattle.clap.specs.Words.{Text}
use Rattle.command_line.specs.declared.explained.sources.TheConstants.{SOURCES}
use Rattle.command_line.specs.declared.explained.programs.TheConstants.{PROGRAMS}
use Rattle.command_line.specs.declared.explained.files.TheConstants.{FILES}

-- a page begins with this number and a line feed (10), where the case of letters does not count
abbrev pub is_page_of : Text → Text → Bool
is_page_of number page =
    slice_index page (length number) == 10 && str_eq_ignore_ascii_case (take (length number) page) number

-- the pages of a text, between which form feeds (12) stand
abbrev pub pages_in : Text → List Text
pages_in text = slice_split (λ c. c == 12) text

-- the page of a number in a text
unfoldable pub page_in : (text number : Text) → Option Text
page_in text number = find (is_page_of number) (pages_in text)

-- the one that was found, or else another
abbrev pub or_page : Option Text → Option Text → Option Text
or_page None other = other
or_page (Some page) other = Some page

-- the page of a number
unfoldable pub page_of : (number : Text) → Option Text
page_of number = or_page (page_in SOURCES number) (or_page (page_in PROGRAMS number) (page_in FILES number))
