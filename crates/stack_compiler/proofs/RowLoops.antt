-- The loops that fill the tables.
use Rattle.stack_compiler.proofs.Prelude.{◌≡◌, ℕ, zero, suc, ◌+◌, ◌<◌, ◌≤◌, List, [], ◌∷◌, ◌++◌, length, map, drop, set, get_or, Some, option_map, ap, refl, sym, ◌∙◌, arith, slice_get, option_map_or, append_assoc, append-nil, map-append, slice_get-map, Typed, CodeProcedure, module_view, procedure_view, Instruction, Entry, ModuleTable, Row, row_view, empty_row, started_entry, started_row, first_of, padded, updated, noted, noted_all, drop_item, at_drop_all}

pub first_is_none : (first second : ℕ) → first ≡ 0 → second ≡ first_of first second
first_is_none first second is = ap (λ one. first_of one second) (sym is)

pub first_stands : (first second : ℕ) → 0 < first → first ≡ first_of first second
first_stands zero second some = absurd (omega arith)
first_stands (suc first) second some = refl

-- lists that are filled up
padded_push : {A : Type 0} (fill : A) (items : List A) (count : ℕ) → length items < count
    → padded fill (items ++ (fill ∷ [])) count ≡ padded fill items count
padded_push fill items zero short = absurd (omega arith)
padded_push fill [] (suc count) short = refl
padded_push fill (item ∷ items) (suc count) short =
    ap (λ list. item ∷ list) (padded_push fill items count (omega arith))

padded_enough : {A : Type 0} (fill : A) (items : List A) (count : ℕ) → count ≤ length items
    → items ≡ padded fill items count
padded_enough fill items zero enough = refl
padded_enough fill [] (suc count) enough = absurd (omega arith)
padded_enough fill (item ∷ items) (suc count) enough =
    ap (λ list. item ∷ list) (padded_enough fill items count (omega arith))

module _ (places total : List ℕ) (count : ℕ) (rest : padded 0 places count ≡ total) where
  pub zero_pushed : (now : List ℕ) → length places < count → now ≡ places ++ (0 ∷ [])
      → padded 0 now count ≡ total
  zero_pushed now short given =
      ap (λ list. padded 0 list count) given ∙ padded_push 0 places count short ∙ rest

  pub zeros_pushed : count ≤ length places → places ≡ total
  zeros_pushed enough = padded_enough 0 places count enough ∙ rest

row_length : (tables : List ModuleTable) → length (map row_view tables) ≡ length tables
row_length [] = refl
row_length (table ∷ tables) = ap suc (row_length tables)

module _ (tables : List ModuleTable) (total : List Row) (number : ℕ)
    (rest : padded empty_row (map row_view tables) (suc number) ≡ total) where
  pub empty_pushed : (table : ModuleTable) (now : List ModuleTable) → length tables ≤ number
      → row_view table ≡ empty_row → now ≡ tables ++ (table ∷ [])
      → padded empty_row (map row_view now) (suc number) ≡ total
  empty_pushed table now short is given =
      ap (λ list. padded empty_row (map row_view list) (suc number)) given
      ∙ ap (λ rows. padded empty_row rows (suc number))
      (map-append row_view tables (table ∷ []) ∙ ap (λ row. map row_view tables ++ (row ∷ [])) is)
      ∙ padded_push empty_row (map row_view tables) (suc number) (omega (arith, row_length tables))
      ∙ rest

  pub empties_pushed : number < length tables → map row_view tables ≡ total
  empties_pushed enough = padded_enough empty_row (map row_view tables) (suc number) (omega (arith, row_length tables)) ∙ rest

module _ (made total : List Entry) (procedures : List CodeProcedure) (i : ℕ)
    (rest : made ++ map started_entry (map procedure_view (drop i procedures)) ≡ total) where
  pub entry_started : (procedure : CodeProcedure) (entry : Entry) → i < length procedures
      → procedure ≡ get_or procedures i procedure
      → entry ≡ started_entry (procedure_view procedure)
      → (made ++ (entry ∷ [])) ++ map started_entry (map procedure_view (drop (i + 1) procedures)) ≡ total
  entry_started procedure entry within is given =
      ap (λ one. (made ++ (one ∷ [])) ++ map started_entry (map procedure_view (drop (i + 1) procedures)))
      given
      ∙ append_assoc made (started_entry (procedure_view procedure) ∷ [])
      (map started_entry (map procedure_view (drop (i + 1) procedures)))
      ∙ sym (drop_item (λ left. made ++ map started_entry (map procedure_view left)) procedures i
      procedure within is)
      ∙ rest

  pub entries_started : length procedures ≤ i → made ≡ total
  entries_started past =
      sym (append-nil made)
      ∙ sym (at_drop_all (λ left. made ++ map started_entry (map procedure_view left)) procedures i past)
      ∙ rest

module _ (made : List ModuleTable) (total : List Row) (modules : List Typed) (i : ℕ)
    (rest : map row_view made ++ map started_row (map module_view (drop i modules)) ≡ total) where
  pub table_started : (typed : Typed) (table : ModuleTable) → i < length modules
      → typed ≡ get_or modules i typed
      → row_view table ≡ started_row (module_view typed)
      → map row_view (made ++ (table ∷ [])) ++ map started_row (map module_view (drop (i + 1) modules))
      ≡ total
  table_started typed table within is given =
      ap (λ rows. rows ++ map started_row (map module_view (drop (i + 1) modules)))
      (map-append row_view made (table ∷ []) ∙ ap (λ row. map row_view made ++ (row ∷ [])) given)
      ∙ append_assoc (map row_view made) (started_row (module_view typed) ∷ [])
      (map started_row (map module_view (drop (i + 1) modules)))
      ∙ sym (drop_item (λ left. map row_view made ++ map started_row (map module_view left))
      modules i typed within is)
      ∙ rest

  pub tables_started : length modules ≤ i → map row_view made ≡ total
  tables_started past =
      sym (append-nil (map row_view made))
      ∙ sym (at_drop_all (λ left. map row_view made ++ map started_row (map module_view left))
      modules i past) ∙ rest

module _ (rows total : List Row) (code : List Instruction) (i : ℕ)
    (rest : noted_all rows i (drop i code) ≡ total) where
  pub instruction_noted : (instruction : Instruction) (now : List Row) → i < length code
      → instruction ≡ get_or code i instruction → now ≡ noted rows (i + 1) instruction
      → noted_all now (i + 1) (drop (i + 1) code) ≡ total
  instruction_noted instruction now within is given =
      ap (λ one. noted_all one (i + 1) (drop (i + 1) code)) given
      ∙ sym (drop_item (noted_all rows i) code i instruction within is) ∙ rest

  pub code_noted : length code ≤ i → rows ≡ total
  code_noted past = sym (at_drop_all (noted_all rows i) code i past) ∙ rest

-- a table in the place of one
row_set : (tables : List ModuleTable) (number : ℕ) (now : ModuleTable)
    → map row_view (set tables number now) ≡ set (map row_view tables) number (row_view now)
row_set [] number now = refl
row_set (table ∷ tables) zero now = refl
row_set (table ∷ tables) (suc number) now = ap (λ rows. row_view table ∷ rows) (row_set tables number now)

pub row_changed : (change : Row → Row) (tables : List ModuleTable) (number : ℕ) (table now : ModuleTable)
    → slice_get tables number ≡ Some table → row_view now ≡ change (row_view table)
    → map row_view (set tables number now) ≡ updated change (map row_view tables) number
row_changed change tables number table now is given =
    row_set tables number now
    ∙ ap (set (map row_view tables) number) given
    ∙ ap (λ found. option_map_or (λ row. set (map row_view tables) number (change row)) found
    (map row_view tables))
    (sym (slice_get-map row_view tables number ∙ ap (option_map row_view) is))
