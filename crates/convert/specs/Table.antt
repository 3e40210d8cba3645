-- The table of rules.
use Rattle.std.specs.Prelude.{ℕ, List, [], ◌∷◌, codes, map}
use Rattle.words.specs.declared.vocabulary.Mark.TheVariants as marks
use Rattle.words.specs.declared.vocabulary.ReservedWord.TheVariants as words
use Rattle.convert.specs.declared.class.Class.TheVariants as classes
use Rattle.convert.specs.declared.rule.Action.{Action}
use Rattle.convert.specs.declared.rule.Action.TheVariants as actions
use Rattle.convert.specs.declared.rule.Part.{Part}
use Rattle.convert.specs.declared.rule.Part.TheVariants as parts
use Rattle.convert.specs.declared.rule.Put.{Put}
use Rattle.convert.specs.declared.rule.Put.TheVariants as puts
use Rattle.convert.specs.declared.rule.Rule.{Rule}
use Rattle.convert.specs.declared.rule.Value.{Value}
use Rattle.convert.specs.declared.rule.Value.TheVariants as values

-- what a rule writes or tells, without where its bytes lie in memory
pub data PutView : Type 0 where
  PutsCopy : ℕ → PutView
  PutsAfter : (part last : ℕ) → PutView
  PutsText : List ℕ → PutView
  PutsInner : ℕ → PutView
  PutsWrapped : ℕ → PutView
  PutsEach : (first last : ℕ) → Value → PutView

pub data ActionView : Type 0 where
  Writes : List PutView → ActionView
  Tells : List ℕ → ActionView
  DeletesNumber : ℕ → List ℕ → ActionView

pub record RuleView : Type 0 where
  pub parts : List Part
  pub action : ActionView

abbrev pub put_view : Put → PutView
put_view (puts.Copy number) = PutsCopy number
put_view (puts.After part last) = PutsAfter part last
put_view (puts.Text bytes) = PutsText bytes.now
put_view (puts.Inner number) = PutsInner number
put_view (puts.Wrapped number) = PutsWrapped number
put_view (puts.Each first last value) = PutsEach first last value

abbrev pub action_view : Action → ActionView
action_view (actions.Write written) = Writes (map put_view written.now)
action_view (actions.Tell text) = Tells text.now
action_view (actions.DeleteNumber usual text) = DeletesNumber usual text.now

abbrev pub rule_view : Rule → RuleView
rule_view rule = record { parts = rule.parts.now; action = action_view rule.action }

-- the rules, in their order
abbrev pub table_of_rules : List RuleView
table_of_rules =
    record { parts = (parts.Is (classes.Reserved words.Go)) ∷ (parts.Is (classes.Reserved words.To)) ∷ (parts.Is classes.Number) ∷ []; action = Tells (codes "GOTO an address: in MON1 and MON2 delete it and write EXTERNAL in the heading; for 0 write CALL MON1(0, 0); else JUMP of examples/mixed") }
    ∷ record { parts = (parts.Is (classes.Reserved words.Go)) ∷ (parts.Is (classes.Reserved words.To)) ∷ (parts.Is classes.Constant) ∷ []; action = Tells (codes "GOTO an address: in MON1 and MON2 delete it and write EXTERNAL in the heading; for 0 write CALL MON1(0, 0); else JUMP of examples/mixed") }
    ∷ record { parts = (parts.Is (classes.Reserved words.Goto)) ∷ (parts.Is classes.Number) ∷ []; action = Tells (codes "GOTO an address: in MON1 and MON2 delete it and write EXTERNAL in the heading; for 0 write CALL MON1(0, 0); else JUMP of examples/mixed") }
    ∷ record { parts = (parts.Is (classes.Reserved words.Goto)) ∷ (parts.Is classes.Constant) ∷ []; action = Tells (codes "GOTO an address: in MON1 and MON2 delete it and write EXTERNAL in the heading; for 0 write CALL MON1(0, 0); else JUMP of examples/mixed") }
    ∷ record { parts = (parts.Is (classes.Reserved words.Go)) ∷ (parts.Is (classes.Reserved words.To)) ∷ []; action = Writes ((PutsText (codes "GOTO")) ∷ []) }
    ∷ record { parts = (parts.Is classes.FirstNumber) ∷ (parts.Is (classes.Mark marks.Colon)) ∷ []; action = DeletesNumber 256 (codes "a load address other than 100H, which is deleted: where the program is built or run, give --code") }
    ∷ record { parts = parts.EndOfText ∷ []; action = Writes [] }
    ∷ record { parts = (parts.Is (classes.Reserved words.Eof)) ∷ []; action = Tells (codes "EOF: delete it, and what follows if that is no part of the program, or write another name") }
    ∷ record { parts = (parts.Is (classes.Mark marks.Colon)) ∷ (parts.Is classes.EndOfOther) ∷ (parts.Is classes.Name) ∷ []; action = Tells (codes "END NAME: no label NAME at the DO that it ends: an END may be missing before it, or delete NAME") }
    ∷ record { parts = (parts.Is (classes.Mark marks.Colon)) ∷ (parts.Is classes.EndOfDo) ∷ (parts.Is classes.Name) ∷ []; action = Writes ((PutsCopy 0) ∷ (PutsText (codes " ;")) ∷ (PutsAfter 0 1) ∷ []) }
    ∷ record { parts = (parts.Is (classes.Mark marks.Colon)) ∷ (parts.Is classes.EndOfDo) ∷ []; action = Writes ((PutsCopy 0) ∷ (PutsText (codes " ;")) ∷ (PutsAfter 0 1) ∷ []) }
    ∷ record { parts = (parts.Is (classes.Mark marks.Colon)) ∷ (parts.Is (classes.Reserved words.End)) ∷ []; action = Writes ((PutsCopy 0) ∷ (PutsText (codes " ;")) ∷ (PutsAfter 0 1) ∷ []) }
    ∷ record { parts = (parts.Is classes.EndOfOther) ∷ (parts.Is classes.Name) ∷ []; action = Tells (codes "END NAME: no label NAME at the DO that it ends: an END may be missing before it, or delete NAME") }
    ∷ record { parts = (parts.Is classes.EndOfDo) ∷ (parts.Is classes.Name) ∷ []; action = Writes ((PutsCopy 0) ∷ []) }
    ∷ record { parts = (parts.Is (classes.Mark marks.Period)) ∷ (parts.Is classes.String) ∷ []; action = Writes ((PutsText (codes ".(")) ∷ (PutsCopy 1) ∷ (PutsText (codes ")")) ∷ []) }
    ∷ record { parts = (parts.Is (classes.Mark marks.Period)) ∷ (parts.Is classes.Number) ∷ []; action = Writes ((PutsText (codes ".(")) ∷ (PutsCopy 1) ∷ (PutsText (codes ")")) ∷ []) }
    ∷ record { parts = (parts.Is (classes.Mark marks.Period)) ∷ (parts.Is classes.Constant) ∷ []; action = Tells (codes "a dot before a name for a number: write .(N), or another name") }
    ∷ record { parts = parts.Clash ∷ []; action = Tells (codes "a variable that one side of = assigns and the other uses: write the assignment as a statement, before or after") }
    ∷ record { parts = (parts.Is classes.Name) ∷ parts.Assigning ∷ []; action = Writes ((PutsCopy 0) ∷ (PutsWrapped 1) ∷ []) }
    ∷ record { parts = (parts.Is (classes.Reserved words.Declare)) ∷ parts.Names ∷ (parts.Is (classes.Reserved words.Label)) ∷ parts.Scope ∷ []; action = Tells (codes "a label of several modules: write a procedure, PUBLIC and EXTERNAL") }
    ∷ record { parts = (parts.Is (classes.Mark marks.Comma)) ∷ parts.Names ∷ (parts.Is (classes.Reserved words.Label)) ∷ parts.Scope ∷ []; action = Tells (codes "a label of several modules: write a procedure, PUBLIC and EXTERNAL") }
    ∷ record { parts = (parts.Is (classes.Reserved words.Declare)) ∷ parts.Names ∷ (parts.Is (classes.Reserved words.Label)) ∷ (parts.Is (classes.Mark marks.Semicolon)) ∷ []; action = Writes [] }
    ∷ record { parts = (parts.Is (classes.Reserved words.Declare)) ∷ parts.Names ∷ (parts.Is (classes.Reserved words.Label)) ∷ (parts.Is (classes.Mark marks.Comma)) ∷ parts.Names ∷ (parts.Is (classes.Reserved words.Label)) ∷ (parts.Is (classes.Mark marks.Semicolon)) ∷ []; action = Writes [] }
    ∷ record { parts = (parts.Is (classes.Mark marks.Comma)) ∷ parts.Names ∷ (parts.Is (classes.Reserved words.Label)) ∷ []; action = Writes [] }
    ∷ record { parts = (parts.Is classes.Name) ∷ (parts.Is (classes.Reserved words.Label)) ∷ (parts.Is (classes.Mark marks.Comma)) ∷ []; action = Writes [] }
    ∷ record { parts = parts.List ∷ (parts.Is (classes.Reserved words.Label)) ∷ (parts.Is (classes.Mark marks.Comma)) ∷ []; action = Writes [] }
    ∷ record { parts = parts.Scope ∷ (parts.Is (classes.Reserved words.Reentrant)) ∷ parts.Type ∷ []; action = Writes ((PutsCopy 2) ∷ (PutsText (codes " ")) ∷ (PutsCopy 0) ∷ (PutsText (codes " ")) ∷ (PutsCopy 1) ∷ []) }
    ∷ record { parts = (parts.Is (classes.Reserved words.Reentrant)) ∷ parts.Type ∷ parts.Scope ∷ []; action = Writes ((PutsCopy 1) ∷ (PutsText (codes " ")) ∷ (PutsCopy 2) ∷ (PutsText (codes " ")) ∷ (PutsCopy 0) ∷ []) }
    ∷ record { parts = (parts.Is (classes.Reserved words.Reentrant)) ∷ parts.Scope ∷ parts.Type ∷ []; action = Writes ((PutsCopy 2) ∷ (PutsText (codes " ")) ∷ (PutsCopy 1) ∷ (PutsText (codes " ")) ∷ (PutsCopy 0) ∷ []) }
    ∷ record { parts = (parts.Is (classes.Reserved words.Reentrant)) ∷ parts.Type ∷ []; action = Writes ((PutsCopy 1) ∷ (PutsText (codes " ")) ∷ (PutsCopy 0) ∷ []) }
    ∷ record { parts = (parts.Is (classes.Reserved words.Reentrant)) ∷ parts.Scope ∷ []; action = Writes ((PutsCopy 1) ∷ (PutsText (codes " ")) ∷ (PutsCopy 0) ∷ []) }
    ∷ record { parts = parts.Scope ∷ parts.Type ∷ []; action = Writes ((PutsCopy 1) ∷ (PutsText (codes " ")) ∷ (PutsCopy 0) ∷ []) }
    ∷ record { parts = (parts.Is (classes.Reserved words.External)) ∷ (parts.Is (classes.Reserved words.Data)) ∷ parts.Group ∷ []; action = Writes ((PutsCopy 0) ∷ []) }
    ∷ record { parts = (parts.Is (classes.Reserved words.External)) ∷ (parts.Is (classes.Reserved words.Data)) ∷ []; action = Writes ((PutsCopy 0) ∷ []) }
    ∷ record { parts = (parts.Is (classes.Reserved words.External)) ∷ (parts.Is (classes.Reserved words.Initial)) ∷ []; action = Tells (codes "EXTERNAL with INITIAL: write the values where the name is PUBLIC") }
    ∷ record { parts = (parts.Is (classes.Reserved words.Initial)) ∷ parts.Group ∷ (parts.Is (classes.Reserved words.External)) ∷ []; action = Tells (codes "EXTERNAL with INITIAL: write the values where the name is PUBLIC") }
    ∷ record { parts = (parts.Is classes.Name) ∷ (parts.Is (classes.Reserved words.Data)) ∷ parts.Group ∷ (parts.Is (classes.Reserved words.Public)) ∷ []; action = Writes ((PutsCopy 0) ∷ (PutsText (codes "(*) BYTE ")) ∷ (PutsCopy 3) ∷ (PutsText (codes " ")) ∷ (PutsCopy 1) ∷ (PutsText (codes " ")) ∷ (PutsCopy 2) ∷ []) }
    ∷ record { parts = (parts.Is classes.Name) ∷ (parts.Is (classes.Reserved words.Data)) ∷ []; action = Writes ((PutsCopy 0) ∷ (PutsText (codes "(*) BYTE ")) ∷ (PutsCopy 1) ∷ []) }
    ∷ record { parts = parts.BasedOne ∷ []; action = Writes ((PutsInner 0) ∷ []) }
    ∷ record { parts = parts.BasedList ∷ parts.Type ∷ parts.Attribute ∷ []; action = Tells (codes "a list with BASED: write each name with its own attributes") }
    ∷ record { parts = parts.BasedList ∷ parts.Type ∷ []; action = Writes ((PutsEach 1 1 values.Nothing) ∷ []) }
    ∷ record { parts = parts.BasedList ∷ (parts.Is (classes.Reserved words.Structure)) ∷ parts.Group ∷ parts.Attribute ∷ []; action = Tells (codes "a list with BASED: write each name with its own attributes") }
    ∷ record { parts = parts.BasedList ∷ (parts.Is (classes.Reserved words.Structure)) ∷ parts.Group ∷ []; action = Writes ((PutsEach 1 2 values.Nothing) ∷ []) }
    ∷ record { parts = parts.BasedList ∷ parts.Group ∷ parts.Type ∷ parts.Attribute ∷ []; action = Tells (codes "a list with BASED: write each name with its own attributes") }
    ∷ record { parts = parts.BasedList ∷ parts.Group ∷ parts.Type ∷ []; action = Writes ((PutsEach 1 2 values.Nothing) ∷ []) }
    ∷ record { parts = parts.BasedList ∷ parts.Group ∷ (parts.Is (classes.Reserved words.Structure)) ∷ parts.Group ∷ parts.Attribute ∷ []; action = Tells (codes "a list with BASED: write each name with its own attributes") }
    ∷ record { parts = parts.BasedList ∷ parts.Group ∷ (parts.Is (classes.Reserved words.Structure)) ∷ parts.Group ∷ []; action = Writes ((PutsEach 1 3 values.Nothing) ∷ []) }
    ∷ record { parts = parts.List ∷ parts.Type ∷ parts.Values ∷ parts.Group ∷ parts.Scope ∷ []; action = Tells (codes "values for several names: write each name with its own, after PUBLIC") }
    ∷ record { parts = parts.List ∷ parts.Type ∷ (parts.Is (classes.Reserved words.Public)) ∷ parts.Values ∷ parts.ItemsFor ∷ []; action = Writes ((PutsEach 1 3 (values.Item 4)) ∷ []) }
    ∷ record { parts = parts.List ∷ parts.Type ∷ parts.Values ∷ parts.ItemsFor ∷ []; action = Writes ((PutsEach 1 2 (values.Item 3)) ∷ []) }
    ∷ record { parts = parts.List ∷ parts.Type ∷ (parts.Is (classes.Reserved words.At)) ∷ parts.Group ∷ parts.Scope ∷ []; action = Tells (codes "AT for several names: write PUBLIC or EXTERNAL before AT") }
    ∷ record { parts = parts.List ∷ parts.Type ∷ (parts.Is (classes.Reserved words.At)) ∷ parts.Group ∷ parts.Values ∷ []; action = Tells (codes "AT with a value: write an assignment at the beginning of the program") }
    ∷ record { parts = parts.List ∷ parts.Type ∷ parts.Scope ∷ (parts.Is (classes.Reserved words.At)) ∷ parts.Group ∷ parts.Values ∷ []; action = Tells (codes "AT with a value: write an assignment at the beginning of the program") }
    ∷ record { parts = parts.List ∷ (parts.Is (classes.Reserved words.Byte)) ∷ (parts.Is (classes.Reserved words.At)) ∷ parts.Group ∷ []; action = Writes ((PutsEach 1 2 (values.Address 3 1)) ∷ []) }
    ∷ record { parts = parts.List ∷ (parts.Is (classes.Reserved words.Byte)) ∷ parts.Scope ∷ (parts.Is (classes.Reserved words.At)) ∷ parts.Group ∷ []; action = Writes ((PutsEach 1 3 (values.Address 4 1)) ∷ []) }
    ∷ record { parts = parts.List ∷ (parts.Is (classes.Reserved words.Address)) ∷ (parts.Is (classes.Reserved words.At)) ∷ parts.Group ∷ []; action = Writes ((PutsEach 1 2 (values.Address 3 2)) ∷ []) }
    ∷ record { parts = parts.List ∷ (parts.Is (classes.Reserved words.Address)) ∷ parts.Scope ∷ (parts.Is (classes.Reserved words.At)) ∷ parts.Group ∷ []; action = Writes ((PutsEach 1 3 (values.Address 4 2)) ∷ []) }
    ∷ record { parts = parts.List ∷ parts.Type ∷ parts.Values ∷ []; action = Tells (codes "values for several names: write each name with its own") }
    ∷ record { parts = parts.List ∷ parts.Type ∷ (parts.Is (classes.Reserved words.Public)) ∷ parts.Values ∷ []; action = Tells (codes "values for several names: write each name with its own") }
    ∷ record { parts = parts.List ∷ parts.Group ∷ parts.Type ∷ parts.Values ∷ []; action = Tells (codes "values for several arrays: write each array with its own") }
    ∷ record { parts = parts.List ∷ parts.Group ∷ parts.Type ∷ (parts.Is (classes.Reserved words.Public)) ∷ parts.Values ∷ []; action = Tells (codes "values for several arrays: write each array with its own") }
    ∷ record { parts = parts.List ∷ parts.Group ∷ parts.Type ∷ (parts.Is (classes.Reserved words.At)) ∷ []; action = Tells (codes "AT for several arrays: write each array with its own") }
    ∷ record { parts = parts.List ∷ parts.Group ∷ parts.Type ∷ parts.Scope ∷ (parts.Is (classes.Reserved words.At)) ∷ []; action = Tells (codes "AT for several arrays: write each array with its own") }
    ∷ record { parts = parts.List ∷ (parts.Is (classes.Reserved words.Structure)) ∷ parts.Group ∷ parts.Values ∷ []; action = Tells (codes "values for several structures: write each structure with its own") }
    ∷ record { parts = parts.List ∷ (parts.Is (classes.Reserved words.Structure)) ∷ parts.Group ∷ (parts.Is (classes.Reserved words.Public)) ∷ parts.Values ∷ []; action = Tells (codes "values for several structures: write each structure with its own") }
    ∷ record { parts = parts.List ∷ parts.Group ∷ (parts.Is (classes.Reserved words.Structure)) ∷ parts.Group ∷ parts.Values ∷ []; action = Tells (codes "values for several structures: write each structure with its own") }
    ∷ record { parts = parts.List ∷ parts.Group ∷ (parts.Is (classes.Reserved words.Structure)) ∷ parts.Group ∷ (parts.Is (classes.Reserved words.Public)) ∷ parts.Values ∷ []; action = Tells (codes "values for several structures: write each structure with its own") }
    ∷ record { parts = parts.List ∷ (parts.Is (classes.Reserved words.Structure)) ∷ parts.Group ∷ (parts.Is (classes.Reserved words.At)) ∷ []; action = Tells (codes "AT for several structures: write each structure with its own") }
    ∷ record { parts = parts.List ∷ (parts.Is (classes.Reserved words.Structure)) ∷ parts.Group ∷ parts.Scope ∷ (parts.Is (classes.Reserved words.At)) ∷ []; action = Tells (codes "AT for several structures: write each structure with its own") }
    ∷ record { parts = parts.List ∷ parts.Group ∷ (parts.Is (classes.Reserved words.Structure)) ∷ parts.Group ∷ (parts.Is (classes.Reserved words.At)) ∷ []; action = Tells (codes "AT for several structures: write each structure with its own") }
    ∷ record { parts = parts.List ∷ parts.Group ∷ (parts.Is (classes.Reserved words.Structure)) ∷ parts.Group ∷ parts.Scope ∷ (parts.Is (classes.Reserved words.At)) ∷ []; action = Tells (codes "AT for several structures: write each structure with its own") }
    ∷ record { parts = (parts.Is (classes.Reserved words.At)) ∷ parts.Group ∷ parts.Values ∷ []; action = Tells (codes "AT with a value: write an assignment at the beginning of the program") }
    ∷ record { parts = parts.Values ∷ parts.Group ∷ parts.Scope ∷ []; action = Writes ((PutsCopy 2) ∷ (PutsText (codes " ")) ∷ (PutsCopy 0) ∷ (PutsText (codes " ")) ∷ (PutsCopy 1) ∷ []) }
    ∷ record { parts = (parts.Is (classes.Reserved words.At)) ∷ parts.Group ∷ parts.Scope ∷ []; action = Writes ((PutsCopy 2) ∷ (PutsText (codes " ")) ∷ (PutsCopy 0) ∷ (PutsText (codes " ")) ∷ (PutsCopy 1) ∷ []) }
    ∷ record { parts = (parts.Is (classes.Reserved words.Interrupt)) ∷ []; action = Tells (codes "INTERRUPT: poll a status port in a loop, or link an object that calls the procedure") }
    ∷ record { parts = (parts.Is (classes.Reserved words.Enable)) ∷ (parts.Is (classes.Mark marks.Semicolon)) ∷ []; action = Tells (codes "ENABLE: delete it, or CALL an object that has EI") }
    ∷ record { parts = (parts.Is (classes.Reserved words.Disable)) ∷ (parts.Is (classes.Mark marks.Semicolon)) ∷ []; action = Tells (codes "DISABLE: delete it, or CALL an object that has DI") }
    ∷ record { parts = (parts.Is (classes.Reserved words.Plus)) ∷ []; action = Tells (codes "A PLUS B: write ADC(A, B) of examples/arithmetic, for the + of the byte before too, after CARRY = 0; in DEC( ) DEC$ADC(A, B)") }
    ∷ record { parts = (parts.Is (classes.Reserved words.Minus)) ∷ []; action = Tells (codes "A MINUS B: write SBB(A, B) of examples/arithmetic, for the - of the byte before too, after CARRY = 0; in DEC( ) DEC$SBB(A, B)") }
    ∷ []
