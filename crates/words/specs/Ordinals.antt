-- Numbers of marks and of reserved words, by which they are compared.
use Rattle.std.specs.Prelude.{ℕ}
use Rattle.words.specs.declared.vocabulary.Mark.{Mark}
use Rattle.words.specs.declared.vocabulary.Mark.TheVariants as marks
use Rattle.words.specs.declared.vocabulary.ReservedWord.{ReservedWord}
use Rattle.words.specs.declared.vocabulary.ReservedWord.TheVariants as words

-- a number for each mark
abbrev pub mark_number : Mark → ℕ
mark_number marks.EqualSign = 0
mark_number marks.LessSign = 1
mark_number marks.GreaterSign = 2
mark_number marks.LessEqualSign = 3
mark_number marks.GreaterEqualSign = 4
mark_number marks.UnequalSign = 5
mark_number marks.PlusSign = 6
mark_number marks.MinusSign = 7
mark_number marks.Asterisk = 8
mark_number marks.Slash = 9
mark_number marks.LeftParenthesis = 10
mark_number marks.RightParenthesis = 11
mark_number marks.Comma = 12
mark_number marks.Semicolon = 13
mark_number marks.Colon = 14
mark_number marks.Period = 15
mark_number marks.AssignSign = 16

-- a number for each reserved word
abbrev pub word_number : ReservedWord → ℕ
word_number words.Address = 0
word_number words.And = 1
word_number words.At = 2
word_number words.Based = 3
word_number words.By = 4
word_number words.Byte = 5
word_number words.Call = 6
word_number words.Case = 7
word_number words.Data = 8
word_number words.Declare = 9
word_number words.Disable = 10
word_number words.Do = 11
word_number words.Else = 12
word_number words.Enable = 13
word_number words.End = 14
word_number words.Eof = 15
word_number words.External = 16
word_number words.Go = 17
word_number words.Goto = 18
word_number words.Halt = 19
word_number words.If = 20
word_number words.Initial = 21
word_number words.Interrupt = 22
word_number words.Label = 23
word_number words.Literally = 24
word_number words.Minus = 25
word_number words.Mod = 26
word_number words.Not = 27
word_number words.Or = 28
word_number words.Plus = 29
word_number words.Procedure = 30
word_number words.Public = 31
word_number words.Reentrant = 32
word_number words.Return = 33
word_number words.Structure = 34
word_number words.Then = 35
word_number words.To = 36
word_number words.While = 37
word_number words.Xor = 38
