-- Tables of lines that were written, or not.
use Rattle.commands.proofs.Prelude.{◌≡◌, ℕ, List, Bor, Option, None, Some, inl, inr, refl, ap, subst, ◌∙◌, ChangesFiles, Directory, KeepsFiles, with_file, stays_on, StopsWriting, kept_others, kept_then_written, files_stay, convert_in, ConvertOrder, BeginsTable, WritesTable, table_if}
use Rattle.commands.specs.Tables.{KeepsAllBut}

pub kept_all_but : (name : Option (List ℕ)) (old new : Option Directory) → KeepsFiles old new → KeepsAllBut name old new
kept_all_but None old new kept = kept
kept_all_but (Some name) old new kept = kept_others old new name kept

pub kept_same : (name : Option (List ℕ)) (files : Option Directory) → KeepsAllBut name files files
kept_same name files = kept_all_but name files files (files_stay files)

-- what was made of files was made of them as they were
pub was_stopped_writing : (was files later : Option Directory) (name table : List ℕ) → KeepsFiles was files → StopsWriting files later name table → StopsWriting was later name table
was_stopped_writing was files later name table kept (inl same) = inl (stays_on was files later kept same)
was_stopped_writing was files later name table kept (inr (sent, is, written)) = inr (sent, is, kept_then_written was files later name sent kept written)

pub was_written : (name : Option (List ℕ)) (was files later : Option Directory) (table : List ℕ) → KeepsFiles was files → WritesTable name files later table → WritesTable name was later table
was_written None was files later table kept written = stays_on was files later kept written
was_written (Some name) was files later table kept written = kept_then_written was files later name table kept written

pub was_begun : (name : Option (List ℕ)) (was files later : Option Directory) (table : List ℕ) → KeepsFiles was files → BeginsTable name files later table → BeginsTable name was later table
was_begun None was files later table kept begun = stays_on was files later kept begun
was_begun (Some name) was files later table kept begun = was_stopped_writing was files later name table kept begun

-- where no table is wanted, any will do
pub table_written : (name : Option (List ℕ)) (files later : Option Directory) (full table : List ℕ) → table ≡ table_if name full → WritesTable name files later table
    → WritesTable name files later full
table_written None files later full table is written = written
table_written (Some name) files later full table is written = subst (λ (t : List ℕ). ChangesFiles files later (with_file name t)) is written

pub table_begun : (name : Option (List ℕ)) (files later : Option Directory) (full table : List ℕ) → table ≡ table_if name full → BeginsTable name files later table
    → BeginsTable name files later full
table_begun None files later full table is begun = begun
table_begun (Some name) files later full table is begun = subst (λ (t : List ℕ). StopsWriting files later name t) is begun

pub table_stopped : (wanted : Option (List ℕ)) (name : List ℕ) (files later : Option Directory) (full table : List ℕ) → table ≡ table_if wanted full → wanted ≡ Some name
    → StopsWriting files later name table → StopsWriting files later name full
table_stopped wanted name files later full table is wanted_is stopped =
    subst (λ (t : List ℕ). StopsWriting files later name t) (is ∙ ap (λ (o : Option (List ℕ)). table_if o full) wanted_is) stopped

-- the file that an order names
pub none_wanted : (order : ConvertOrder) → order.lines ≡ None → (convert_in order).lines ≡ None
none_wanted order none = rw none refl

pub one_wanted : (order : ConvertOrder) (name : Bor (List ℕ)) → order.lines ≡ Some name → (convert_in order).lines ≡ Some name.now
one_wanted order name one = rw one refl
