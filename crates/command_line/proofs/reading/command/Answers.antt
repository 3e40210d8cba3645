use Rattle.command_line.proofs.{Prelude.{◌≡◌, ◌∙◌, [], ap, sym, subst, ◌<◌, length, option_and_then, option_map, texts, is_simple_and_free, HasKind, App, fault_of, is_simple, subcommand_of, subcommand_rows_of, IsFaultOf, Orders, named_in, plm_app, wanted_by, wanted_in, wanted_of_match, Order}, CommandLemmas.{fault_among, gives_none, out_of_memory, tells_none, wants_any}, Given.{compile_failed, compile_ordered, convert_failed, convert_ordered, execute_failed, execute_ordered, execute_text_failed, execute_text_ordered, explain_failed, explain_ordered, files_failed, files_ordered, link_failed, link_ordered, map_failed, map_ordered, jump_failed, jump_ordered, need_failed, need_ordered, place_failed, place_ordered, place_text_failed, place_text_ordered, text_failed, text_ordered, watch_failed, watch_ordered, execute_watch_failed, execute_watch_ordered}, PlmWords.{order_is_there, some_files, plm_is_free, plm_is_simple}, reading.command.Goals.{In-Ok}}
use Rattle.command_line.proofs.reading.command.Goals as goal

no_fault : (c : In-Ok) → fault_of plm_app (texts c.args.words.now) ≡ []
no_fault c =
    let plm_is = c.in_ok-plm.ensures.0 in
    subst (λ (a : App). fault_of a (texts c.args.words.now) ≡ []) plm_is
    (c.in-Ok.ensures.kinds (ap is_simple_and_free plm_is ∙ plm_is_free))

found : (c : In-Ok) → option_and_then wanted_of_match (subcommand_rows_of c.in-Ok.matches)
    ≡ wanted_by (texts c.args.words.now)
found c =
    let plm_is = c.in_ok-plm.ensures.0 in
    ap (option_and_then wanted_of_match)
    ((c.in-Ok.ensures.matches (ap is_simple plm_is ∙ plm_is_simple)).1
    ∙ ap (λ (a : App). subcommand_of a (texts c.args.words.now)) plm_is)

pub unreachable-requires : goal.unreachable-requires
unreachable-requires c =
    let at = (goal.at.unreachable-requires c).In-Ok in
    order_is_there (texts c.args.words.now) (no_fault at)
    (sym (sym (ap (option_map wanted_in) c.in-None.is) ∙ c.in_ok-order.ensures ∙ found at))

pub returns : goal.returns
returns c =
    let at = (goal.at.returns c).In-Ok in
    let order = sym (found at) ∙ sym c.in_ok-order.ensures ∙ ap (option_map wanted_in) c.in-Some.is in
    record {
      files = files_ordered (texts c.args.words.now) c.in-Some.order order;
      option = text_ordered (texts c.args.words.now) c.in-Some.order order;
      map = map_ordered (texts c.args.words.now) c.in-Some.order order;
      watch = watch_ordered (texts c.args.words.now) c.in-Some.order order;
      compile = compile_ordered (texts c.args.words.now) c.in-Some.order order;
      link = link_ordered (texts c.args.words.now) c.in-Some.order order;
      place = place_ordered (texts c.args.words.now) c.in-Some.order order;
      place_option = place_text_ordered (texts c.args.words.now) c.in-Some.order order;
      jump = jump_ordered (texts c.args.words.now) c.in-Some.order order;
      need = need_ordered (texts c.args.words.now) c.in-Some.order order;
      execute = execute_ordered (texts c.args.words.now) c.in-Some.order order;
      execute_option = execute_text_ordered (texts c.args.words.now) c.in-Some.order order;
      execute_watch = execute_watch_ordered (texts c.args.words.now) c.in-Some.order order;
      explain = explain_ordered (texts c.args.words.now) c.in-Some.order order;
      convert = convert_ordered (texts c.args.words.now) c.in-Some.order order;
      order = order;
      some = some_files (texts c.args.words.now) (wanted_in c.in-Some.order) (no_fault at) order;
      ok = no_fault at;
      fault = tt;
    }

has_kind : (c : goal.After-failure_of) → HasKind (fault_of plm_app (texts c.args.words.now)) c.in-Err.error
has_kind c =
    let plm_is = c.in_ok-plm.ensures.0 in
    subst (λ (a : App). HasKind (fault_of a (texts c.args.words.now)) c.in-Err.error) plm_is
    (c.in-Err.ensures.kinds (ap is_simple_and_free plm_is ∙ plm_is_free))

pub returns-in-Err : goal.returns-in-Err
returns-in-Err c = record {
  files = files_failed (texts c.args.words.now) c.in-Err.error c.failure_of.result (has_kind c)
      c.failure_of.ensures;
  option =
      text_failed (texts c.args.words.now) c.in-Err.error c.failure_of.result (has_kind c)
      c.failure_of.ensures;
  map = map_failed (texts c.args.words.now) c.in-Err.error c.failure_of.result (has_kind c)
      c.failure_of.ensures;
  watch = watch_failed (texts c.args.words.now) c.in-Err.error c.failure_of.result (has_kind c)
      c.failure_of.ensures;
  compile =
      compile_failed (texts c.args.words.now) c.in-Err.error c.failure_of.result (has_kind c)
      c.failure_of.ensures;
  link = link_failed (texts c.args.words.now) c.in-Err.error c.failure_of.result (has_kind c)
      c.failure_of.ensures;
  place = place_failed (texts c.args.words.now) c.in-Err.error c.failure_of.result (has_kind c)
      c.failure_of.ensures;
  place_option =
      place_text_failed (texts c.args.words.now) c.in-Err.error c.failure_of.result (has_kind c)
      c.failure_of.ensures;
  jump = jump_failed (texts c.args.words.now) c.in-Err.error c.failure_of.result (has_kind c)
      c.failure_of.ensures;
  need = need_failed (texts c.args.words.now) c.in-Err.error c.failure_of.result (has_kind c)
      c.failure_of.ensures;
  execute =
      execute_failed (texts c.args.words.now) c.in-Err.error c.failure_of.result (has_kind c)
      c.failure_of.ensures;
  execute_option =
      execute_text_failed (texts c.args.words.now) c.in-Err.error c.failure_of.result (has_kind c)
      c.failure_of.ensures;
  execute_watch =
      execute_watch_failed (texts c.args.words.now) c.in-Err.error c.failure_of.result (has_kind c)
      c.failure_of.ensures;
  explain =
      explain_failed (texts c.args.words.now) c.in-Err.error c.failure_of.result (has_kind c)
      c.failure_of.ensures;
  convert =
      convert_failed (texts c.args.words.now) c.in-Err.error c.failure_of.result (has_kind c)
      c.failure_of.ensures;
  order = tt;
  some = tt;
  ok = tt;
  fault = fault_among Order c.in-Err.error c.failure_of.result (fault_of plm_app (texts c.args.words.now))
      (has_kind c) c.failure_of.ensures;
}

pub returns-in_err-plm : goal.returns-in_err-plm
returns-in_err-plm c =
    let words = texts c.args.words.now in
    let answer = c.from_residual.result in
    let is = out_of_memory answer c.from_residual.ensures.1 in
    record {
      files = λ name action files given. wants_any _ answer is;
      option = λ name action files option text bare given. wants_any _ answer is;
      map = λ name action files given. wants_any _ answer is;
      watch = λ name action files option given. wants_any _ answer is;
      compile = λ name source object bare given. wants_any _ answer is;
      link = λ name out files bare given. wants_any _ answer is;
      place = λ name action files given. wants_any _ answer is;
      place_option = λ name action files option text bare given. wants_any _ answer is;
      jump = λ name files text bare given. wants_any _ answer is;
      need = λ name files given. wants_any _ answer is;
      execute = λ name files given. wants_any _ answer is;
      execute_option = λ name files option text bare given. wants_any _ answer is;
      execute_watch = λ name files option given. wants_any _ answer is;
      explain = λ name number given. wants_any _ answer is;
      convert = λ name file listing cards given. wants_any _ answer is;
      order = gives_none (Orders words) answer is;
      some = gives_none (λ order. 0 < length (named_in (wanted_in order))) answer is;
      ok = gives_none (λ order. fault_of plm_app words ≡ []) answer is;
      fault = tells_none (IsFaultOf (fault_of plm_app words)) answer is;
    }

pub returns-in_err-order : goal.returns-in_err-order
returns-in_err-order c =
    let words = texts c.args.words.now in
    let answer = c.from_residual-in_err-order.result in
    let is = out_of_memory answer c.from_residual-in_err-order.ensures.1 in
    record {
      files = λ name action files given. wants_any _ answer is;
      option = λ name action files option text bare given. wants_any _ answer is;
      map = λ name action files given. wants_any _ answer is;
      watch = λ name action files option given. wants_any _ answer is;
      compile = λ name source object bare given. wants_any _ answer is;
      link = λ name out files bare given. wants_any _ answer is;
      place = λ name action files given. wants_any _ answer is;
      place_option = λ name action files option text bare given. wants_any _ answer is;
      jump = λ name files text bare given. wants_any _ answer is;
      need = λ name files given. wants_any _ answer is;
      execute = λ name files given. wants_any _ answer is;
      execute_option = λ name files option text bare given. wants_any _ answer is;
      execute_watch = λ name files option given. wants_any _ answer is;
      explain = λ name number given. wants_any _ answer is;
      convert = λ name file listing cards given. wants_any _ answer is;
      order = gives_none (Orders words) answer is;
      some = gives_none (λ order. 0 < length (named_in (wanted_in order))) answer is;
      ok = gives_none (λ order. fault_of plm_app words ≡ []) answer is;
      fault = tells_none (IsFaultOf (fault_of plm_app words)) answer is;
    }
