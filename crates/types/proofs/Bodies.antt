-- A procedure from its heading and its inside.
use Rattle.types.proofs.Prelude.{◌≡◌, ℕ, true, List, length, Option, Ok, Err, ap, sym, refl, ◌∙◌, subst, HeadingTree, DeclarationTrees, StatementTrees, TypedList, Fault, Checked, ◌>>=◌, Block, Progress, FailsBy, fails_more, open_procedure, close_procedure, parameter_objects, list_of, declarations, statements, heading_tree}
use Rattle.trees.specs.{internal.Views.{block_declarations, block_statements}, declared.statement.Procedure.{Procedure, out-Procedure}}
use Rattle.names.specs.internal.TreesOfParts.{procedure_parts}
use Rattle.typing.specs.{Blocks.{OfProcedure}, internal.ProcedureChecks.{check_body}, internal.Typing.{declaration}}
use Rattle.types.specs.internal.Walking.{procedure_closed, procedure_inside}

-- three checks, and what is made of the first and the last
in_four : {P L S Q : Type 0} (a : Checked P) (b : Checked (Unit {0})) (c : Checked (L × S))
    (next : P → L → S → Checked Q)
    → (a >>= (λ p. b >>= (λ _. c >>= (λ t. next p t.0 t.1))))
    ≡ ((a >>= (λ p. b >>= (λ _. c >>= (λ t. Ok ((p, t.0), t.1)))))
    >>= (λ (inside : (P × L) × S). next inside.0.0 inside.0.1 inside.1))
in_four (Err x) b c next = refl
in_four (Ok p) (Err x) c next = refl
in_four (Ok p) (Ok _) (Err x) next = refl
in_four (Ok p) (Ok _) (Ok t) next = refl

module _ (block : Block) (procedure : Procedure) (declared : DeclarationTrees)
    (same : declared ≡ block_declarations (out-Procedure procedure).body)
    (progress opened : Progress) (number : ℕ) (numbered : number ≡ length progress.known.procedures)
    (is : open_procedure block (heading_tree (out-Procedure procedure).heading) declared progress
    ≡ Ok opened) where
  abbrev heading : HeadingTree
  heading = heading_tree (out-Procedure procedure).heading

  abbrev within_it : DeclarationTrees
  within_it = block_declarations (out-Procedure procedure).body

  abbrev body : StatementTrees
  body = block_statements (out-Procedure procedure).body

  abbrev own : ℕ → Block
  own n = record { owner = OfProcedure n heading; is_own = true }

  -- what follows the declarations, and what follows the heading
  abbrev after_declarations : ℕ → Progress → Checked Progress
  after_declarations n within =
      parameter_objects within.known.here heading.parameters
      >>= (λ parameters. check_body heading body
      >>= (λ _. list_of body (λ label. statements (own n) body label) within
      >>= (λ typed. procedure_closed heading within_it n parameters typed.0 typed.1)))

  abbrev after_heading : ℕ → Progress → Checked Progress
  after_heading n state = declarations (own n) within_it state >>= after_declarations n

  abbrev then_closed : (List ℕ × TypedList) × Progress → Checked Progress
  then_closed inside = procedure_closed heading within_it number inside.0.0 inside.0.1 inside.1

  inside_joined : (first : Checked Progress)
      → (first >>= after_declarations number)
      ≡ ((first >>= (λ within. parameter_objects within.known.here heading.parameters
      >>= (λ parameters. check_body heading body
      >>= (λ _. list_of body (λ label. statements (own number) body label) within
      >>= (λ typed. Ok ((parameters, typed.0), typed.1)))))) >>= then_closed)
  inside_joined (Ok within) =
      in_four (parameter_objects within.known.here heading.parameters) (check_body heading body)
      (list_of body (λ label. statements (own number) body label) within)
      (procedure_closed heading within_it number)
  inside_joined (Err fault) = refl

  procedure_in_turn : declaration block (procedure_parts procedure) progress
      ≡ (procedure_inside number procedure opened >>= then_closed)
  procedure_in_turn =
      ap (λ trees. open_procedure block heading trees progress
      >>= after_heading (length progress.known.procedures)) (sym same)
      ∙ ap (λ given. given >>= after_heading (length progress.known.procedures)) is
      ∙ ap (λ n. after_heading n opened) (sym numbered)
      ∙ inside_joined (declarations (own number) within_it opened)

  pub procedure_fails : (fault : Option Fault) → FailsBy fault (procedure_inside number procedure opened)
      → FailsBy fault (declaration block (procedure_parts procedure) progress)
  procedure_fails fault fails =
      subst (FailsBy fault) (sym procedure_in_turn)
      (fails_more fault (procedure_inside number procedure opened) then_closed fails)

  pub procedure_whole : (inside : List ℕ × TypedList) (after : Progress)
      → procedure_inside number procedure opened ≡ Ok (inside, after)
      → procedure_closed heading declared number inside.0 inside.1 after
      ≡ declaration block (procedure_parts procedure) progress
  procedure_whole inside after given =
      ap (λ trees. procedure_closed heading trees number inside.0 inside.1 after) same
      ∙ sym (procedure_in_turn ∙ ap (λ result. result >>= then_closed) given)
