-- A piece of a module, run by run, is the piece that is made of all its runs and fixes.
use Rattle.link_laws.proofs.Prelude.{◌≡◌, ℕ, Bool, true, false, cond, nat_lt, ◌||◌, List, [], ◌∷◌, ◌++◌, filter_map, refl, ap, sym, ◌∙◌, list_any, append_assoc, append-nil, list_any-append, filter_map-append, Fix, Segment, Code, Data, start_of, is_empty, Public, ObjectModule, fixes_in, runs_of, Run, fix_kept, fixes_below, fixes_past, run_end, run_fixed, runs_fixed, with_run, with_runs, HaveTheirFixes, Grown, Resolved, gain_by, grown_from, grown_over, grown_with, kept_by, moves_by, or-false, or_assoc}
use Rattle.link_laws.proofs.PieceGrown.{parts_same}

-- fixes are those before a place and those from it on
parted : (end : ℕ) (fixes : List Fix) → fixes_below end fixes ++ fixes_past end fixes ≡ fixes
parted end [] = refl
parted end (fix ∷ others) = go (nat_lt fix.offset end) (parted end others)
  where
    go : (b : Bool) → fixes_below end others ++ fixes_past end others ≡ others
        → cond b (fix ∷ fixes_below end others) [] ++ cond b (fixes_past end others) (fix ∷ others)
        ≡ fix ∷ others
    go true later = ap (λ f. fix ∷ f) later
    go false later = refl

module _ (resolved : Resolved) (segment : Segment) where
  abbrev keep : List Fix → List Fix
  keep fixes = filter_map (fix_kept (start_of resolved.start segment) (kept_by resolved)) fixes

  abbrev moved : List Fix → List (Run ℕ) → List (Run ℕ)
  moved fixes runs = runs_fixed (start_of resolved.start segment) (gain_by resolved) fixes runs

  by_runs :
      (grown : Grown) (size : ℕ) (fixes : List Fix) (runs : List (Run ℕ)) → HaveTheirFixes size fixes runs
      → grown_over resolved segment grown fixes runs
      ≡ record {
        runs = with_runs grown.runs (moved fixes runs);
        fixes = grown.fixes ++ keep fixes;
        moves = grown.moves || list_any (moves_by resolved) fixes;
      }
  by_runs grown size fixes [] none =
      let nothing : [] ≡ fixes = sym none in
      let kept : grown.fixes ≡ grown.fixes ++ keep fixes =
      sym (append-nil grown.fixes) ∙ ap (λ f. grown.fixes ++ keep f) nothing in
      let moves : grown.moves ≡ (grown.moves || list_any (moves_by resolved) fixes) =
      sym (or-false grown.moves) ∙ ap (λ f. grown.moves || list_any (moves_by resolved) f) nothing in
      parts_same grown.runs grown.runs _ _ _ _ refl kept moves
  by_runs grown size fixes (run ∷ others) theirs =
      let own : List Fix = fixes_below (run_end run) fixes in
      let left : List Fix = fixes_past (run_end run) fixes in
      let both : own ++ left ≡ fixes = parted (run_end run) fixes in
      let next : Run ℕ = run_fixed (start_of resolved.start segment) (gain_by resolved) own run in
      let runs :
      with_runs (cond (is_empty run.items) grown.runs (with_run grown.runs next)) (moved left others)
      ≡ with_runs (with_run grown.runs next) (moved left others) =
      ap (λ b. with_runs (cond b grown.runs (with_run grown.runs next)) (moved left others)) theirs.1 in
      let kept : (grown.fixes ++ keep own) ++ keep left ≡ grown.fixes ++ keep fixes =
      append_assoc grown.fixes (keep own) (keep left)
      ∙ ap (λ f. grown.fixes ++ f)
      (sym (filter_map-append (fix_kept (start_of resolved.start segment) (kept_by resolved)) own left)
      ∙ ap keep both) in
      let moves :
      ((grown.moves || list_any (moves_by resolved) own) || list_any (moves_by resolved) left)
      ≡ (grown.moves || list_any (moves_by resolved) fixes) =
      or_assoc grown.moves (list_any (moves_by resolved) own) (list_any (moves_by resolved) left)
      ∙ ap (λ m. grown.moves || m)
      (sym (list_any-append (moves_by resolved) own left) ∙ ap (list_any (moves_by resolved)) both) in
      by_runs (grown_with resolved segment grown run.offset run.items own) size left others theirs.3
      ∙ parts_same _ _ _ _ _ _ runs kept moves

  -- the runs and the fixes of a segment of a module
  pub runs_grown_over :
      (grown : Grown) (size : ℕ) (object : ObjectModule) (fixes : List Fix) (runs : List (Run ℕ))
      → HaveTheirFixes size fixes runs → fixes ≡ fixes_in object segment → runs ≡ runs_of object segment
      → grown_over resolved segment grown fixes runs ≡ grown_from resolved segment grown object
  runs_grown_over grown size object fixes runs theirs of_these made =
      by_runs grown size fixes runs theirs
      ∙ parts_same _ _ _ _ _ _
      (ap (λ f. with_runs grown.runs (moved f runs)) of_these
      ∙ ap (λ r. with_runs grown.runs (moved (fixes_in object segment) r)) made)
      (ap (λ f. grown.fixes ++ keep f) of_these)
      (ap (λ f. grown.moves || list_any (moves_by resolved) f) of_these)

-- and those of a module with other names
module _ (resolved : Resolved) (grown : Grown) (object : ObjectModule) (publics : List Public)
    (externals : List (List ℕ)) where
  pub code_kept :
      grown_from resolved Code grown object
      ≡ grown_from resolved Code grown (record object { publics = publics; externals = externals })
  unfolding runs_of fixes_in
  code_kept = refl

  pub data_kept :
      grown_from resolved Data grown object
      ≡ grown_from resolved Data grown (record object { publics = publics; externals = externals })
  unfolding runs_of fixes_in
  data_kept = refl
