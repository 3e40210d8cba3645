-- The pages of several texts.
use Rattle.std.specs.Prelude.{List, [], ◌∷◌, Option, None}
use Rattle.clap.specs.Words.{Text}
use Rattle.command_line.specs.Explained.{or_page, page_in}

-- the page of a number in the first of these texts that has one
abbrev pub page_among : List Text → (number : Text) → Option Text
page_among [] number = None
page_among (text ∷ more) number = or_page (page_in text number) (page_among more number)
