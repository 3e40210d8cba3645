-- Texts of the command line that are refused.
use Rattle.commands.proofs.Prelude.{◌≡◌, ◌⊎◌, ℕ, List, Err, Ok, Option, Some, codes, inl, inr, refl, subst, arith, Kinds, kind_of, DisplayHelp, DisplayVersion, status_of, Tells, refusal_line, Ending, Done, Refused, WrongLine, Limit, Stopped, Outside, IsFaultOf, PlaceWanted, Wanted, wants_place, Read, ◌>>=◌, jump_read, only_file, plan_read, LineFault, Help, Version, Wrong, Plan, AsksHelpAtMost, RefusesNoText, TellsText, TellsTextByWords, IsWrong, PlaceAction, Hex, Listing, Symbols, RefusesPlaceText, TellsObjectText}
use Rattle.command_line.specs.declared.orders.PlaceAction.TheVariants.{Locate}
use Rattle.commands.specs.Orders.{AsksNoHelp}

pub text_by_words : (found : Option Wanted) (wanted : Wanted) (old new : Option (List ℕ)) → found ≡ Some wanted → TellsText wanted old new → TellsTextByWords found old new
text_by_words found wanted old new e told = rw e told

-- words of which no text is refused tell none
pub none_told : (found : Option Wanted) (wanted : Wanted) (old new : Option (List ℕ)) → found ≡ Some wanted → RefusesNoText found → TellsText wanted old new → ⊥
none_told found wanted old new e none told =
    let none_here : RefusesNoText (Some wanted) = subst RefusesNoText e none in
    none_here told.text told.refused

-- words that ask for help or the version at most have no other fault
pub help_at_most : (kinds : Kinds) (fault : LineFault) → AsksHelpAtMost kinds → IsFaultOf kinds fault → IsWrong fault → ⊥
help_at_most kinds (Help error) help is wrong = wrong
help_at_most kinds (Version error) help is wrong = wrong
help_at_most kinds (Wrong error) help is wrong = neither (help (kind_of error) is.2)
  where
    neither : (kind_of error ≡ DisplayHelp) ⊎ (kind_of error ≡ DisplayVersion) → ⊥
    neither (inl asked) = is.0 asked
    neither (inr asked) = is.1 asked

-- words that do not ask for help or the version have another fault
pub none_asked : (kinds : Kinds) (fault : LineFault) → AsksNoHelp kinds → IsFaultOf kinds fault → IsWrong fault
none_asked kinds (Help error) none is = none.0 is.1
none_asked kinds (Version error) none is = none.1 is.1
none_asked kinds (Wrong error) none is = tt

pub wrong_not_done : (ending : Ending) → ending ≡ WrongLine → ending ≡ Done → ⊥
wrong_not_done ending wrong done = cc

pub wrong_not_refused : (ending : Ending) → ending ≡ WrongLine → ending ≡ Refused → ⊥
wrong_not_refused ending wrong refused = cc

pub done_or_refused : (ending : Ending) → (ending ≡ Done) ⊎ (ending ≡ Refused) → ending ≡ WrongLine → ⊥
done_or_refused ending (inl done) wrong = cc
done_or_refused ending (inr refused) wrong = cc

-- a text of the plan
plan_first : (place : PlaceWanted) (text : List ℕ) (read : Read Plan) → read ≡ Err text → (read >>= (λ plan. jump_read place.jump >>= (λ jump. only_file place.files))) ≡ Err text
plan_first place text read e = rw e refl

plan_refused : (action : PlaceAction) (place : PlaceWanted) (text : List ℕ) → plan_read place.plan ≡ Err text → RefusesPlaceText action place text
plan_refused Locate place text refused = plan_first place text (plan_read place.plan) refused
plan_refused Hex place text refused = plan_first place text (plan_read place.plan) refused
plan_refused Listing place text refused = refused
plan_refused Symbols place text refused = refused

pub tells_plan : (place : PlaceWanted) (text : List ℕ) (old new : Option (List ℕ)) → plan_read place.plan ≡ Err text → Tells (refusal_line (codes "U4") text 0) old new
    → TellsText (wants_place place) old new
tells_plan place text old new refused told = record { text = text; refused = plan_refused place.action place text refused; told = told }

-- of an order on one object, that of a jump once the plan was read, and a second file after both
pub tells_jump : (place : PlaceWanted) (plan : Plan) (text : List ℕ) (old new : Option (List ℕ)) → plan_read place.plan ≡ Ok plan → jump_read place.jump ≡ Err text
    → Tells (refusal_line (codes "U4") text 0) old new → TellsObjectText place old new
tells_jump place plan text old new planned refused told = record { text = text; refused = jump_next (plan_read place.plan) (jump_read place.jump) planned refused; told = told }
  where
    jump_next : (read : Read Plan) (jumping : Read (Option ℕ)) → read ≡ Ok plan → jumping ≡ Err text → (read >>= (λ plan. jumping >>= (λ jump. only_file place.files))) ≡ Err text
    jump_next read jumping e f = rw (e, f) refl

pub tells_second : (place : PlaceWanted) (plan : Plan) (jump : Option ℕ) (text : List ℕ) (old new : Option (List ℕ)) → plan_read place.plan ≡ Ok plan → jump_read place.jump ≡ Ok jump
    → only_file place.files ≡ Err text → Tells (refusal_line (codes "U4") text 0) old new → TellsObjectText place old new
tells_second place plan jump text old new planned jumping second told =
    record { text = text; refused = file_next (plan_read place.plan) (jump_read place.jump) (only_file place.files) planned jumping second; told = told }
  where
    file_next : (read : Read Plan) (jumps : Read (Option ℕ)) (only : Read (List ℕ)) → read ≡ Ok plan → jumps ≡ Ok jump → only ≡ Err text
        → (read >>= (λ plan. jumps >>= (λ jump. only))) ≡ Err text
    file_next read jumps only e f g = rw (e, f, g) refl

pub wrong_is : (ending : Ending) → status_of ending ≡ 2 → ending ≡ WrongLine
wrong_is Done e = absurd (omega arith)
wrong_is Refused e = absurd (omega arith)
wrong_is WrongLine e = refl
wrong_is Limit e = absurd (omega arith)
wrong_is Stopped e = absurd (omega arith)
wrong_is Outside e = absurd (omega arith)
