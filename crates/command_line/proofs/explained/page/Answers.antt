use Rattle.command_line.proofs.Prelude.{◌≡◌, ◌∷◌, [], ◌∙◌, Option, Some, None, IfOk, ap, option_map, refl, subst, Text, page_among}
use Rattle.command_line.specs.Explained.{or_page, page_in, page_of}
use Rattle.command_line.specs.declared.explained.{sources.TheConstants.{SOURCES}, programs.TheConstants.{PROGRAMS}, files.TheConstants.{FILES}}
use Rattle.command_line.proofs.explained.page.Goals as goal

-- after the last text there is no page
last_page : (found : Option Text) → or_page found None ≡ found
last_page None = refl
last_page (Some page) = refl

in_three : (number : Text) → page_among (SOURCES ∷ PROGRAMS ∷ FILES ∷ []) number ≡ page_of number
unfolding page_of
in_three number =
    ap (or_page (page_in SOURCES number))
    (ap (or_page (page_in PROGRAMS number)) (last_page (page_in FILES number)))

pub returns : goal.returns
returns c =
    subst (λ (page : Option Text). IfOk c.page_among.result (λ found. option_map (λ p. p.now) found ≡ page))
    (ap (page_among (SOURCES ∷ PROGRAMS ∷ FILES ∷ [])) c.as_bytes.ensures.value ∙ in_three c.args.number.now)
    c.page_among.ensures
