-- DO CASE: the jumps that are filled in later are those of the definition.
use Rattle.stack_compiler.proofs.Prelude.{◌≡◌, ℕ, zero, suc, ◌+◌, ◌-◌, ◌<◌, ◌≤◌, List, [], ◌∷◌, ◌++◌, length, set, drop, get_or, ap, sym, refl, ◌∙◌, arith, append_assoc, append-nil, length-append, CodeStatement, TypedStatements, NoStatements, MoreStatements, statement_view, statements_view, Instruction, Case, Jump, Site, cases_code, count_of_statements, entries_code, statement_code, Opening, opening, holes, passing, with_case, opened, closed, drop_item, at_drop_all}
use Rattle.stack_compiler.proofs.JumpsFilled.{filled}
use Rattle.stack_compiler.proofs.StatementLoops.{statements_count}

-- the statements with jumps that are not filled in, and where each ends with its jump
abbrev open_code : Site → TypedStatements → List Instruction
open_code site NoStatements = []
open_code site (MoreStatements first others) = statement_code site first ++ (Jump 0 ∷ open_code site others)

abbrev ends_from : Site → (at : ℕ) → TypedStatements → List ℕ
ends_from site at NoStatements = []
ends_from site at (MoreStatements first others) =
    (at + length (statement_code site first) + 1)
    ∷ ends_from site (at + length (statement_code site first) + 1) others

holes_length : (count : ℕ) → length (holes count) ≡ count
holes_length zero = refl
holes_length (suc count) = ap suc (holes_length count)

one_hole_more : (count : ℕ) → holes count ++ (Jump 0 ∷ []) ≡ holes (suc count)
one_hole_more zero = refl
one_hole_more (suc count) = ap (λ code. Jump 0 ∷ code) (one_hole_more count)

pub holes_made : (count : ℕ) (code : List Instruction) → code ≡ holes count
    → code ++ (Jump 0 ∷ []) ≡ holes (suc count)
holes_made count code is = ap (λ one. one ++ (Jump 0 ∷ [])) is ∙ one_hole_more count

-- one statement
module _ (front made body : List Instruction) (k entry : ℕ) (is : entry ≡ length front) where
  abbrev entered : List Instruction
  entered = front ++ (Jump (suc k + length made) ∷ [])

  abbrev made_more : List Instruction
  made_more = made ++ (body ++ (Jump 0 ∷ []))

  left_length : length (holes (suc k) ++ made) ≡ suc k + length made
  left_length = length-append (holes (suc k)) made ∙ ap (λ n. n + length made) (holes_length (suc k))

  passed : passing (front ++ (Jump 0 ∷ (holes (suc k) ++ made))) entry ≡ entered ++ (holes (suc k) ++ made)
  passed =
      filled Jump front (holes (suc k) ++ made) (front ++ (Jump 0 ∷ (holes (suc k) ++ made)))
      (passing (front ++ (Jump 0 ∷ (holes (suc k) ++ made))) entry) (Jump 0) entry is refl refl
      ∙ ap (λ n. front ++ (Jump n ∷ (holes (suc k) ++ made))) left_length
      ∙ sym (append_assoc front (Jump (suc k + length made) ∷ []) (holes (suc k) ++ made))

  moved : (held : List Instruction) → ((entered ++ (held ++ made)) ++ body) ++ (Jump 0 ∷ [])
      ≡ entered ++ (held ++ made_more)
  moved held =
      append_assoc (entered ++ (held ++ made)) body (Jump 0 ∷ [])
      ∙ append_assoc entered (held ++ made) (body ++ (Jump 0 ∷ []))
      ∙ ap (λ code. entered ++ code) (append_assoc held made (body ++ (Jump 0 ∷ [])))

  one_opened : (passing (front ++ (Jump 0 ∷ (holes (suc k) ++ made))) entry ++ body) ++ (Jump 0 ∷ [])
      ≡ entered ++ (holes (suc k) ++ made_more)
  one_opened = ap (λ code. (code ++ body) ++ (Jump 0 ∷ [])) passed ∙ moved (holes (suc k))

  entered_length : entry + 1 ≡ length entered
  entered_length = ap (λ n. n + 1) is ∙ sym (length-append front (Jump (suc k + length made) ∷ []))

  made_length : length made_more ≡ length made + length body + 1
  made_length = omega (arith, length-append made (body ++ (Jump 0 ∷ [])), length-append body (Jump 0 ∷ []))

  module _ (at : ℕ) (stands : at ≡ length front + (suc (suc k) + length made)) where
    at_length : at + length body + 1 ≡ length entered + (suc k + length made_more)
    at_length = omega (arith, made_length, length-append front (Jump (suc k + length made) ∷ []))

    code_length : length (entered ++ (holes (suc k) ++ made_more)) ≡ at + length body + 1
    code_length =
        length-append entered (holes (suc k) ++ made_more)
        ∙ ap (λ n. length entered + n)
        (length-append (holes (suc k)) made_more ∙ ap (λ n. n + length made_more) (holes_length (suc k)))
        ∙ sym at_length

  entries_after : (entries others : List Instruction) → (entered ++ entries) ++ (made_more ++ others)
      ≡ (front ++ (Jump (suc k + length made) ∷ entries)) ++ (made ++ (body ++ (Jump 0 ∷ others)))
  entries_after entries others =
      ap (λ code. code ++ (made_more ++ others))
      (append_assoc front (Jump (suc k + length made) ∷ []) entries)
      ∙ ap (λ code. (front ++ (Jump (suc k + length made) ∷ entries)) ++ code)
      (append_assoc made (body ++ (Jump 0 ∷ [])) others
      ∙ ap (λ code. made ++ code) (append_assoc body (Jump 0 ∷ []) others))

pred_suc : (k : ℕ) → k ≡ suc k - 1
pred_suc k = omega arith

opened_is : (site : Site) (statements : TypedStatements) (front made : List Instruction) (ends : List ℕ)
    (entry at : ℕ) → entry ≡ length front
    → at ≡ length front + (suc (count_of_statements statements) + length made)
    → opened site entry (opening (front ++ (holes (suc (count_of_statements statements)) ++ made)) ends)
    statements
    ≡ opening
    ((front ++ entries_code site (count_of_statements statements) (length made) statements)
    ++ (made ++ open_code site statements)) (ends ++ ends_from site at statements)
opened_is site NoStatements front made ends entry at is stands =
    λ i. opening
    ((filled Jump front made (front ++ (Jump 0 ∷ made)) (passing (front ++ (Jump 0 ∷ made)) entry)
    (Jump 0) entry is refl refl
    ∙ sym (append_assoc front (Jump (length made) ∷ []) made)
    ∙ ap (λ code. (front ++ (Jump (length made) ∷ [])) ++ code) (sym (append-nil made))) i)
    (sym (append-nil ends) i)
opened_is site (MoreStatements first others) front made ends entry at is stands =
    ap (λ code. opened site (entry + 1) (opening code (ends ++ length code ∷ [])) others)
    (one_opened front made (statement_code site first) (count_of_statements others) entry is)
    ∙ opened_is site others
    (entered front made (statement_code site first) (count_of_statements others) entry is)
    (made_more front made (statement_code site first) (count_of_statements others) entry is)
    (ends ++ length (entered front made (statement_code site first) (count_of_statements others) entry is
    ++ (holes (suc (count_of_statements others))
    ++ made_more front made (statement_code site first) (count_of_statements others) entry is)) ∷ [])
    (entry + 1) (at + length (statement_code site first) + 1)
    (entered_length front made (statement_code site first) (count_of_statements others) entry is)
    (at_length front made (statement_code site first) (count_of_statements others) entry is at stands)
    ∙ (λ i. opening
    ((entries_after front made (statement_code site first) (count_of_statements others) entry is
    (entries_code site (count_of_statements others)
    (length (made_more front made (statement_code site first) (count_of_statements others) entry is))
    others) (open_code site others)
    ∙ ap (λ entries. (front ++ (Jump (suc (count_of_statements others) + length made) ∷ entries))
    ++ (made ++ (statement_code site first ++ (Jump 0 ∷ open_code site others))))
    (ap (λ after. entries_code site after
    (length (made_more front made (statement_code site first) (count_of_statements others) entry is))
    others) (pred_suc (count_of_statements others))
    ∙ ap (λ before. entries_code site (suc (count_of_statements others) - 1) before others)
    (made_length front made (statement_code site first) (count_of_statements others) entry is))) i)
    ((append_assoc ends (length (entered front made (statement_code site first) (count_of_statements others)
    entry is
    ++ (holes (suc (count_of_statements others))
    ++ made_more front made (statement_code site first) (count_of_statements others) entry is))
    ∷ []) (ends_from site (at + length (statement_code site first) + 1) others)
    ∙ ap (λ end. ends ++ (end ∷ ends_from site (at + length (statement_code site first) + 1) others))
    (code_length front made (statement_code site first) (count_of_statements others) entry is at stands))
    i))

-- the jumps after the statements
open_length : (site : Site) (statements : TypedStatements)
    → length (open_code site statements) ≡ length (cases_code site statements)
open_length site NoStatements = refl
open_length site (MoreStatements first others) =
    length-append (statement_code site first) (Jump 0 ∷ open_code site others)
    ∙ ap (λ n. length (statement_code site first) + suc n) (open_length site others)
    ∙ sym (length-append (statement_code site first)
    (Jump (length (cases_code site others)) ∷ cases_code site others))

module _ (front body others : List Instruction) (at end : ℕ) (is : at ≡ length front)
    (ends : end ≡ at + length body + 1) where
  before_end : end - 1 ≡ length (front ++ body)
  before_end = omega (arith, length-append front body)

  end_is : length (front ++ (body ++ (Jump 0 ∷ others))) - end
      ≡ length (front ++ (body ++ (Jump 0 ∷ others))) - (end - 1 + 1)
  end_is = omega arith

  case_closed : set (front ++ (body ++ (Jump 0 ∷ others))) (end - 1)
      (Jump (length (front ++ (body ++ (Jump 0 ∷ others))) - end))
      ≡ (front ++ body) ++ (Jump (length others) ∷ others)
  case_closed =
      filled Jump (front ++ body) others (front ++ (body ++ (Jump 0 ∷ others)))
      (set (front ++ (body ++ (Jump 0 ∷ others))) (end - 1)
      (Jump (length (front ++ (body ++ (Jump 0 ∷ others))) - end))) (Jump 0) (end - 1) before_end
      (sym (append_assoc front body (Jump 0 ∷ others)))
      (ap (λ n. set (front ++ (body ++ (Jump 0 ∷ others))) (end - 1) (Jump n)) end_is)

closed_is : (site : Site) (statements : TypedStatements) (front : List Instruction) (at : ℕ)
    → at ≡ length front
    → closed (ends_from site at statements) (front ++ open_code site statements)
    ≡ front ++ cases_code site statements
closed_is site NoStatements front at is = refl
closed_is site (MoreStatements first others) front at is =
    ap (closed (ends_from site (at + length (statement_code site first) + 1) others))
    (case_closed front (statement_code site first) (open_code site others) at
    (at + length (statement_code site first) + 1) is refl
    ∙ sym (append_assoc (front ++ statement_code site first) (Jump (length (open_code site others)) ∷ [])
    (open_code site others)))
    ∙ closed_is site others
    ((front ++ statement_code site first) ++ (Jump (length (open_code site others)) ∷ []))
    (at + length (statement_code site first) + 1) length_is
    ∙ append_assoc (front ++ statement_code site first) (Jump (length (open_code site others)) ∷ [])
    (cases_code site others)
    ∙ append_assoc front (statement_code site first)
    (Jump (length (open_code site others)) ∷ cases_code site others)
    ∙ ap (λ n. front ++ (statement_code site first ++ (Jump n ∷ cases_code site others)))
    (open_length site others)
  where
    length_is : at + length (statement_code site first) + 1
        ≡ length ((front ++ statement_code site first) ++ (Jump (length (open_code site others)) ∷ []))
    length_is =
        ap (λ n. n + length (statement_code site first) + 1) is
        ∙ ap (λ n. n + 1) (sym (length-append front (statement_code site first)))
        ∙ sym (length-append (front ++ statement_code site first)
        (Jump (length (open_code site others)) ∷ []))

entries_length : (site : Site) (after before : ℕ) (statements : TypedStatements)
    → length (entries_code site after before statements) ≡ suc (count_of_statements statements)
entries_length site after before NoStatements = refl
entries_length site after before (MoreStatements first others) =
    ap suc (entries_length site (after - 1) (before + length (statement_code site first) + 1) others)

-- all of it
pub cases_are : (site : Site) (statements : TypedStatements) (opens : Opening)
    → opens ≡ opened site 0 (opening (holes (suc (count_of_statements statements))) []) statements
    → closed opens.ends opens.code ≡ entries_code site (count_of_statements statements) 0 statements
    ++ cases_code site statements
cases_are site statements opens given =
    ap (λ (one : Opening). closed one.ends one.code)
    (given
    ∙ ap (λ code. opened site 0 (opening code []) statements)
    (sym (append-nil (holes (suc (count_of_statements statements)))))
    ∙ opened_is site statements [] [] [] 0 (suc (count_of_statements statements)) refl (omega arith))
    ∙ closed_is site statements (entries_code site (count_of_statements statements) 0 statements)
    (suc (count_of_statements statements))
    (sym (entries_length site (count_of_statements statements) 0 statements))

pub cases_made : (site : Site) (statements : List CodeStatement)
    (before after code : List Instruction) (ends : List ℕ)
    → before ≡ holes (suc (length statements))
    → opening after ends ≡ opened site 0 (opening before []) (statements_view statements)
    → code ≡ closed ends after
    → code ≡ entries_code site (count_of_statements (statements_view statements)) 0
    (statements_view statements) ++ cases_code site (statements_view statements)
cases_made site statements before after code ends one two three =
    three
    ∙ cases_are site (statements_view statements) (opening after ends)
    (two ∙ ap (λ code. opened site 0 (opening code []) (statements_view statements))
    (one ∙ ap (λ n. holes (suc n)) (sym (statements_count statements))))

pub case_made : (old a b cases new choice : List Instruction) (n : ℕ) → a ≡ old ++ choice
    → b ≡ a ++ (Case n ∷ []) → new ≡ b ++ cases → new ≡ old ++ (choice ++ (Case n ∷ cases))
case_made old a b cases new choice n one two three =
    three
    ∙ ap (λ code. code ++ cases) two
    ∙ append_assoc a (Case n ∷ []) cases
    ∙ ap (λ code. code ++ (Case n ∷ cases)) one
    ∙ append_assoc old choice (Case n ∷ cases)

same : (m n : ℕ) → m ≤ n → n ≤ m → m ≡ n
same m n less more = omega arith

-- the loop over the statements
module _ (site : Site) (code : List Instruction) (ends : List ℕ) (total : Opening)
    (statements : List CodeStatement) (i : ℕ)
    (rest : opened site i (opening code ends) (statements_view (drop i statements)) ≡ total) where
  pub case_opened : (statement : CodeStatement) (a b c : List Instruction) (ends_now : List ℕ)
      → i < length statements → statement ≡ get_or statements i statement
      → a ≡ passing code i → b ≡ a ++ statement_code site (statement_view statement) → c ≡ b ++ (Jump 0 ∷ [])
      → ends_now ≡ ends ++ (length c ∷ [])
      → opened site (i + 1) (opening c ends_now) (statements_view (drop (i + 1) statements)) ≡ total
  case_opened statement a b c ends_now within is one two three four =
      (λ j. opened site (i + 1) (opening (c_is j) ((four ∙ ap (λ one. ends ++ (length one ∷ [])) c_is) j))
      (statements_view (drop (i + 1) statements)))
      ∙ sym (drop_item (λ left. opened site i (opening code ends) (statements_view left)) statements i
      statement within is)
      ∙ rest
    where
      c_is : c ≡ with_case site (passing code i) (statement_view statement)
      c_is = three ∙ ap (λ one. one ++ (Jump 0 ∷ []))
          (two ∙ ap (λ one. one ++ statement_code site (statement_view statement)) one)

  pub cases_opened : (last : List Instruction) → length statements ≤ i → i ≤ length statements
      → last ≡ passing code (length statements) → opening last ends ≡ total
  cases_opened last past within is =
      (λ j. opening ((is ∙ ap (passing code) (same (length statements) i past within)) j) ends)
      ∙ sym (at_drop_all (λ left. opened site i (opening code ends) (statements_view left)) statements i past)
      ∙ rest

module _ (code total : List Instruction) (ends : List ℕ) (i : ℕ)
    (rest : closed (drop i ends) code ≡ total) where
  pub end_closed : (end : ℕ) (now : List Instruction) → i < length ends → end ≡ get_or ends i end
      → now ≡ set code (end - 1) (Jump (length code - end)) → closed (drop (i + 1) ends) now ≡ total
  end_closed end now within is given =
      ap (closed (drop (i + 1) ends)) given
      ∙ sym (drop_item (λ left. closed left code) ends i end within is) ∙ rest

  pub ends_closed : length ends ≤ i → code ≡ total
  ends_closed past = sym (at_drop_all (λ left. closed left code) ends i past) ∙ rest
