-- A piece of a module, content by content, is the piece that is made of its runs and its fixes.
use Rattle.link_laws.proofs.Prelude.{◌≡◌, ℕ, ◌%◌, ◌==◌, Bool, true, false, cond, not, ◌||◌, List, [], ◌∷◌, ◌++◌, map, filter, filter_map, flat_map, slice_get, Option, Some, None, option_map, refl, ap, sym, ◌∙◌, list_any, option_map_or, option_and_then, option_flatten, append_assoc, append-nil, list_any-append, filter_map-append, slice_get-map, Fix, FixKind, Low, High, Both, Segment, Code, Data, Target, InSegment, External, Linked, displacement_in, gain_in, public_named, start_of, target_kept, target_of_public, Public, ObjectModule, fixes_in, runs_of, FixedContent, Run, Walking, module_by, fix_kept, runs_fixed, with_runs, gains_part, high_byte_moves, target_if_high, AllFit, ContentsFit, Placed, fixes_by_place, is_in, runs_kept, Grown, Resolved, gain_by, grown_by, grown_from, grown_in, kept_by, moves_by, part_moves, resolved_in, with_content, or-false, or_assoc}
use Rattle.link_laws.proofs.ModuleTold.{code_fixes, code_runs, data_fixes, data_runs}
use Rattle.link_laws.proofs.RunsByContents.{runs_by_contents, runs_grown}

-- What the external names of a module stand for.
flat_named :
    {A B : Type 0} (f : A → Option B) (found : Option A)
    → option_flatten (option_map f found) ≡ option_and_then f found
flat_named f None = refl
flat_named f (Some x) = refl

module _ (publics : List Public) (one : Linked) where
  meant_same :
      (number : ℕ)
      → option_flatten (slice_get (map (public_named publics) (one.object).externals) number)
      ≡ option_and_then (public_named publics) (slice_get (one.object).externals number)
  meant_same number =
      ap option_flatten (slice_get-map (public_named publics) (one.object).externals number)
      ∙ flat_named (public_named publics) (slice_get (one.object).externals number)

  gain_at : (target : Target) → gain_by (resolved_in publics one) target ≡ gain_in publics one target
  gain_at (InSegment segment) = refl
  gain_at (External number) =
      ap (λ (found : Option Public). option_map_or (λ (public : Public). public.offset) found 0)
      (meant_same number)

  kept_at : (target : Target) → kept_by (resolved_in publics one) target ≡ target_kept publics one target
  kept_at (InSegment segment) = refl
  kept_at (External number) = ap (option_and_then target_of_public) (meant_same number)

  pub gain_same : gain_by (resolved_in publics one) ≡ gain_in publics one
  gain_same = λ i target. gain_at target i

  pub kept_same : kept_by (resolved_in publics one) ≡ target_kept publics one
  kept_same = λ i target. kept_at target i

  part_at :
      (kind : FixKind) (target : Target)
      → part_moves (resolved_in publics one) kind target
      ≡ option_map_or (gains_part publics one) (target_if_high kind target) false
  part_at Low target = refl
  part_at High target = ap (λ n. not (n % 256 == 0)) (gain_at target)
  part_at Both target = refl

  pub moves_same : moves_by (resolved_in publics one) ≡ high_byte_moves publics one
  moves_same = λ i fix. part_at fix.kind fix.target i

-- Contents of one segment, one after another.
module _ (resolved : Resolved) (segment : Segment) where
  abbrev grown_each : Grown → List FixedContent → Grown
  grown_each grown [] = grown
  grown_each grown (fixed ∷ others) = grown_each (with_content resolved segment grown fixed) others

  grown_own :
      (grown : Grown) (contents : List FixedContent)
      → grown_in resolved segment grown contents ≡ grown_each grown (filter (is_in segment) contents)
  grown_own grown [] = refl
  grown_own grown (fixed ∷ others) = go (is_in segment fixed) (λ g. grown_own g others)
    where
      go : (b : Bool)
          → ((g : Grown) → grown_in resolved segment g others ≡ grown_each g (filter (is_in segment) others))
          → grown_in resolved segment (cond b (with_content resolved segment grown fixed) grown) others
          ≡ grown_each grown (cond b (fixed ∷ filter (is_in segment) others) (filter (is_in segment) others))
      go true later = later (with_content resolved segment grown fixed)
      go false later = later grown

  abbrev start_here : ℕ
  start_here = start_of resolved.start segment

  -- what contents make of a segment, part by part
  abbrev grown_parts : Grown → List FixedContent → Grown
  grown_parts grown contents = record {
    runs = runs_grown start_here (gain_by resolved) grown.runs contents;
    fixes = grown.fixes ++ filter_map (fix_kept start_here (kept_by resolved))
        (flat_map fixes_by_place contents);
    moves = grown.moves || list_any (moves_by resolved) (flat_map fixes_by_place contents);
  }

  grown_in_parts : (grown : Grown) (contents : List FixedContent)
      → grown_each grown contents ≡ grown_parts grown contents
  grown_in_parts grown [] =
      ap (λ fixes. record { runs = grown.runs; fixes = fixes; moves = grown.moves })
      (sym (append-nil grown.fixes))
      ∙ ap (λ moves. record { runs = grown.runs; fixes = grown.fixes ++ []; moves = moves })
      (sym (or-false grown.moves))
  grown_in_parts grown (fixed ∷ others) =
      let own : List Fix = fixes_by_place fixed in
      let later : List Fix = flat_map fixes_by_place others in
      let runs : List (Run ℕ) =
      runs_grown start_here (gain_by resolved) (with_content resolved segment grown fixed).runs others in
      let keep = filter_map (fix_kept start_here (kept_by resolved)) in
      grown_in_parts (with_content resolved segment grown fixed) others
      ∙ ap (λ fixes. record {
        runs = runs;
        fixes = fixes;
        moves = (grown.moves || list_any (moves_by resolved) own) || list_any (moves_by resolved) later;
      })
      (append_assoc grown.fixes (keep own) (keep later)
      ∙ ap (λ f. grown.fixes ++ f) (sym (kept_both own later)))
      ∙ ap (λ moves. record { runs = runs; fixes = grown.fixes ++ keep (own ++ later); moves = moves })
      (or_assoc grown.moves (list_any (moves_by resolved) own) (list_any (moves_by resolved) later)
      ∙ ap (λ m. grown.moves || m) (sym (list_any-append (moves_by resolved) own later)))
    where
      kept_both :
          (xs ys : List Fix)
          → filter_map (fix_kept start_here (kept_by resolved)) (xs ++ ys)
          ≡ filter_map (fix_kept start_here (kept_by resolved)) xs
          ++ filter_map (fix_kept start_here (kept_by resolved)) ys
      kept_both xs ys = filter_map-append (fix_kept start_here (kept_by resolved)) xs ys

-- a segment so far, by its parts
pub parts_same :
    (runs new_runs : List (Run ℕ)) (fixes new_fixes : List Fix) (moves new_moves : Bool)
    → runs ≡ new_runs → fixes ≡ new_fixes → moves ≡ new_moves
    → ◌≡◌ {A = Grown} (record { runs = runs; fixes = fixes; moves = moves })
    (record { runs = new_runs; fixes = new_fixes; moves = new_moves })
parts_same runs new_runs fixes new_fixes moves new_moves p q r =
    λ i. record { runs = p i; fixes = q i; moves = r i }

-- Together they are the piece that is made of the runs and the fixes of the segment.
piece_is :
    (resolved : Resolved) (segment : Segment) (object : ObjectModule) (grown : Grown) (size : ℕ)
    (own : List FixedContent)
    → Placed size 0 own → AllFit own → runs_of object segment ≡ runs_kept own
    → fixes_in object segment ≡ flat_map fixes_by_place own
    → grown_parts resolved segment grown own ≡ grown_from resolved segment grown object
piece_is resolved segment object grown size own placed fit runs fixes =
    let by : ℕ = start_of resolved.start segment in
    let listed : List Fix = flat_map fixes_by_place own in
    let these_fixes : listed ≡ fixes_in object segment = sym fixes in
    let these_runs :
    runs_grown by (gain_by resolved) grown.runs own
    ≡ with_runs grown.runs
    (runs_fixed by (gain_by resolved) (fixes_in object segment) (runs_of object segment)) =
    sym (runs_by_contents by (gain_by resolved) grown.runs size 0 own placed fit)
    ∙ ap (λ r. with_runs grown.runs (runs_fixed by (gain_by resolved) listed r)) (sym runs)
    ∙ ap (λ f. with_runs grown.runs (runs_fixed by (gain_by resolved) f (runs_of object segment)))
    these_fixes in
    parts_same _ _ _ _ _ _ these_runs
    (ap (λ f. grown.fixes ++ filter_map (fix_kept by (kept_by resolved)) f) these_fixes)
    (ap (λ f. grown.moves || list_any (moves_by resolved) f) these_fixes)

module _ (resolved : Resolved) (walking : Walking) (fits : ContentsFit walking) where
  pub code_grown :
      (grown : Grown)
      → grown_in resolved Code grown walking.contents ≡ grown_from resolved Code grown (module_by walking)
  code_grown grown =
      let own : List FixedContent = filter (is_in Code) walking.contents in
      grown_own resolved Code grown walking.contents
      ∙ grown_in_parts resolved Code grown own
      ∙ piece_is resolved Code (module_by walking) grown walking.code_length own
      fits.code.placed fits.code.fit
      (code_runs walking fits) (code_fixes walking fits)

  pub data_grown :
      (grown : Grown)
      → grown_in resolved Data grown walking.contents ≡ grown_from resolved Data grown (module_by walking)
  data_grown grown =
      let own : List FixedContent = filter (is_in Data) walking.contents in
      grown_own resolved Data grown walking.contents
      ∙ grown_in_parts resolved Data grown own
      ∙ piece_is resolved Data (module_by walking) grown walking.data_length own fits.data_bytes.placed
      fits.data_bytes.fit (data_runs walking fits) (data_fixes walking fits)

-- The same where the targets are resolved by the publics of the merge.
pub piece_grown :
    (publics : List Public) (segment : Segment) (one : Linked) (object : ObjectModule) (resolved : Resolved)
    (grown : Grown)
    → object ≡ one.object → resolved ≡ resolved_in publics one
    → grown_from resolved segment grown object ≡ grown_by publics segment grown one
piece_grown publics segment one object resolved grown same is =
    let by : ℕ = displacement_in one segment in
    let fixes : List Fix = fixes_in one.object segment in
    ap (grown_from resolved segment grown) same
    ∙ ap (λ r. grown_from r segment grown one.object) is
    ∙ parts_same _ _ _ _ _ _
    (ap (λ gain. with_runs grown.runs (runs_fixed by gain fixes (runs_of one.object segment)))
    (gain_same publics one))
    (ap (λ kept. grown.fixes ++ filter_map (fix_kept by kept) fixes) (kept_same publics one))
    (ap (λ moves. grown.moves || list_any moves fixes) (moves_same publics one))
