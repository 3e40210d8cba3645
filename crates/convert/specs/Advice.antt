-- What is told of lines.
use Rattle.std.specs.Prelude.{ℕ, List, codes}
use Rattle.convert.specs.declared.advice.Advice.{Advice}

-- the texts, without where their bytes lie in memory
pub record AdviceView : Type 0 where
  pub goes_on : List ℕ
  pub no_line : List ℕ
  pub no_name : List ℕ
  pub no_file : List ℕ
  pub too_deep : List ℕ
  pub not_looked_for : List ℕ
  pub no_condition : List ℕ
  pub no_if : List ℕ
  pub no_end : List ℕ
  pub no_names : List ℕ
  pub no_switch : List ℕ
  pub no_feed : List ℕ
  pub inner_comment : List ℕ

abbrev pub advice_view : Advice → AdviceView
advice_view advice = record {
  goes_on = advice.goes_on.now;
  no_line = advice.no_line.now;
  no_name = advice.no_name.now;
  no_file = advice.no_file.now;
  too_deep = advice.too_deep.now;
  not_looked_for = advice.not_looked_for.now;
  no_condition = advice.no_condition.now;
  no_if = advice.no_if.now;
  no_end = advice.no_end.now;
  no_names = advice.no_names.now;
  no_switch = advice.no_switch.now;
  no_feed = advice.no_feed.now;
  inner_comment = advice.inner_comment.now;
}

abbrev pub usual_advice : AdviceView
usual_advice = record {
  goes_on = codes "a line that goes on: write it at the end of the line before";
  no_line = codes "no line of a listing: delete it, or leave what is source";
  no_name = codes "INCLUDE: no name of a file: write the text of the file here";
  no_file = codes "INCLUDE: no such file: give its folder by --folder, or write the text of the file here";
  too_deep = codes "INCLUDE: files more than 8 deep: write the text of the file here";
  not_looked_for =
      codes "INCLUDE: no file is looked for, after 255 names or in a listing: write its text here, if it is not here";
  no_condition = codes "IF: a condition of other than names, NOT, AND and OR: delete the lines, up to its ENDIF, that are not wanted";
  no_if = codes "ELSEIF, ELSE or ENDIF: no IF for it in its file: delete it, or write the IF";
  no_end = codes "IF: no ENDIF for it in its file: write one";
  no_names = codes "SET or RESET: other than names: write names with commas between them";
  no_switch = codes "--set: no name of a switch: give a letter, and then letters, digits, $ and _";
  no_feed = codes "CR without any LF, so that all is one line: write LF in place of each CR";
  inner_comment = codes "/* in a comment: write */ where that comment should end, or delete the /*";
}
