-- The ends of the module and of the file are judged as the rules say.
use Rattle.object_reading.proofs.Prelude.{◌≡◌, ℕ, ◌+◌, ◌*◌, ◌==◌, Bool, true, false, ◌&&◌, cond, List, [], ◌∷◌, ◌++◌, reverse, Option, Some, None, Ok, Err, refl, ap, ◌∙◌, filter_map, option_map_or, WrongBody, may_follow, Part, ModuleEndPart, EndOfFilePart, module_end_in, end_of_file_in, first_in, start_of_end, start_in, State, end_taken, last_taken, false≢true}
use Rattle.omf80.specs.declared.kind.RecordKind.TheVariants as kinds
use Rattle.object_reading.proofs.Knowing.{Knows, Accepted, Verdict, is_early, header_stays, start_stays, filtered, plain_fault}

-- the start of the one end of a module
one_start : (start : Option ℕ) → first_in (filter_map start_of_end (ModuleEndPart start ∷ [])) ≡ start
one_start None = refl
one_start (Some offset) = refl

start_known :
    (before : List Part) (start : Option ℕ) → filter_map start_of_end (reverse before) ≡ []
    → start_in (reverse (ModuleEndPart start ∷ before)) ≡ start
start_known before start none =
    ap first_in (filtered start_of_end (ModuleEndPart start) before)
    ∙ ap (λ l. first_in (l ++ filter_map start_of_end (ModuleEndPart start ∷ []))) none
    ∙ one_start start

end_accepted :
    (before : List Part) (state : State) (start : Option ℕ) → Knows before state → is_early 3 before ≡ true
    → Accepted before kinds.ModuleEnd (Some (ModuleEndPart start)) (record state { start = start })
end_accepted before state start k early = record {
  part = ModuleEndPart start;
  of_kind = refl;
  read = refl;
  no_fault = plain_fault before (ModuleEndPart start) refl refl (λ own. refl);
  knows = record {
    header = header_stays before (ModuleEndPart start) state.name state.extents k.header refl refl;
    names = k.names;
    externals = k.externals;
    counted = λ h. absurd (false≢true h);
    code_end = k.code_end;
    data_end = k.data_end;
    content = λ h. absurd (false≢true h);
    start = start_known before start (k.no_start early);
    no_start = λ h. absurd (false≢true h);
  };
}

start_judged :
    (before : List Part) (state : State) (offset : ℕ) → Knows before state → is_early 3 before ≡ true
    → (none main : Bool)
    → Verdict before kinds.ModuleEnd
    (cond none (Some (ModuleEndPart None)) (cond main (Some (ModuleEndPart (Some offset))) None))
    (option_map_or (λ (start : Option ℕ). Ok (record state { start = start }))
    (cond none (Some None) (cond main (Some (Some offset)) None)) (Err WrongBody))
start_judged before state offset k early true main = end_accepted before state None k early
start_judged before state offset k early false true = end_accepted before state (Some offset) k early
start_judged before state offset k early false false = refl

end_follows : (before : List Part) → may_follow before kinds.ModuleEnd ≡ true → is_early 3 before ≡ true
end_follows [] follows = absurd (false≢true follows)
end_follows (latest ∷ others) follows = follows

pub end_verdict :
    (before : List Part) (state : State) (body : List ℕ) → Knows before state
    → may_follow before kinds.ModuleEnd ≡ true
    → Verdict before kinds.ModuleEnd (module_end_in body) (end_taken state body)
end_verdict before state [] k follows = refl
end_verdict before state (a ∷ []) k follows = refl
end_verdict before state (a ∷ b ∷ []) k follows = refl
end_verdict before state (a ∷ b ∷ c ∷ []) k follows = refl
end_verdict before state (flag ∷ segment ∷ low ∷ high ∷ []) k follows =
    start_judged before state (low + 256 * high) k (end_follows before follows)
    (flag == 0 && segment == 0 && low + 256 * high == 0) (flag == 1 && segment == 1)
end_verdict before state (a ∷ b ∷ c ∷ d ∷ e ∷ rest) k follows = refl

pub last_verdict :
    (before : List Part) (state : State) (body : List ℕ) → Knows before state
    → Verdict before kinds.EndOfFile (end_of_file_in body) (last_taken state body)
last_verdict before state [] k = record {
  part = EndOfFilePart;
  of_kind = refl;
  read = refl;
  no_fault = plain_fault before EndOfFilePart refl refl (λ own. refl);
  knows = record {
    header = header_stays before EndOfFilePart state.name state.extents k.header refl refl;
    names = k.names;
    externals = k.externals;
    counted = λ h. absurd (false≢true h);
    code_end = k.code_end;
    data_end = k.data_end;
    content = λ h. absurd (false≢true h);
    start = start_stays before EndOfFilePart state.start k.start refl;
    no_start = λ h. absurd (false≢true h);
  };
}
last_verdict before state (byte ∷ others) k = refl
