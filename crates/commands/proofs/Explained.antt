-- Numbers that were explained, or not.
use Rattle.commands.proofs.{Prelude.{◌≡◌, ℕ, List, Err, Ok, Option, codes, inl, inr, refl, Appends, AppendsBeginning, Directory, Tells, memory_line, refusal_line, wants_explain, RefusesAsWanted, TellsText, ExplainWanted, page_read, PrintsPage, RefusesPage, TellsUnwritten}, Printed.{stays_written}}

module _ (wanted : ExplainWanted) (old new : Option (List ℕ)) where
  pub prints_page : (page : List ℕ) → page_read wanted ≡ Ok page → Appends old new page → PrintsPage wanted old new
  prints_page page read printed = record { page = page; read = read; printed = printed }

  pub tells_number : (text : List ℕ) → page_read wanted ≡ Err text → Tells (refusal_line (codes "U4") text 0) old new → TellsText (wants_explain wanted) old new
  tells_number text refused told = record { text = text; refused = refused; told = told }

  -- memory ran out before the page was known
  pub page_unknown : (out : Option (List ℕ)) → Tells memory_line old new → RefusesPage wanted old new out out
  unfolding RefusesPage
  page_unknown out told = inl (told, stays_written out)

  -- not all of it was written
  pub page_unwritten : (page : List ℕ) (out now : Option (List ℕ)) → page_read wanted ≡ Ok page → TellsUnwritten old new → AppendsBeginning out now page → RefusesPage wanted old new out now
  unfolding RefusesPage
  page_unwritten page out now read told printed = inr (record { page = page; read = read; told = told; printed = printed })

-- no failure was counted
pub refuses_explain : (wanted : ExplainWanted) (files after : Option Directory) (count : ℕ) (old new out now : Option (List ℕ)) → RefusesPage wanted old new out now
    → RefusesAsWanted (wants_explain wanted) files after count count old new out now
refuses_explain wanted files after count old new out now refused = (refl, refused)
