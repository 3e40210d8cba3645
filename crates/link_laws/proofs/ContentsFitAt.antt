-- The contents of a file end within their segments at their places, and their fixes are within them.
use Rattle.link_laws.proofs.Prelude.{◌≡◌, ℕ, ◌+◌, ◌≤◌, Bool, true, false, cond, List, [], ◌∷◌, length, filter, subst, arith, Fix, Segment, Code, Data, content_end, same_segment, start_of, length_of, FixedContent, Walking, module_by, AreWithin, AllFit, ContentsFit, Placed, fix_table, is_in, listed, AllFitAt, FitsAt, Resolved}
use Rattle.link_laws.proofs.FixesByPlace.{own_within}
use Rattle.link_laws.proofs.ModuleTold.{length_told}

module _ (resolved : Resolved) (segment : Segment) where
  fit_at :
      (size end : ℕ) (contents : List FixedContent) → start_of resolved.start segment + size ≤ 65535
      → Placed size end (filter (is_in segment) contents) → AllFit (filter (is_in segment) contents)
      → AllFitAt resolved segment contents
  fit_at size end [] room placed fit = tt
  fit_at size end (fixed ∷ others) room placed fit =
      go (is_in segment fixed) (λ after. fit_at size after others room) placed fit
    where
      go : (b : Bool)
          → ((after : ℕ) → Placed size after (filter (is_in segment) others)
          → AllFit (filter (is_in segment) others)
          → AllFitAt resolved segment others)
          → Placed size end (cond b (fixed ∷ filter (is_in segment) others) (filter (is_in segment) others))
          → AllFit (cond b (fixed ∷ filter (is_in segment) others) (filter (is_in segment) others))
          → (b ≡ true → FitsAt resolved segment fixed) × AllFitAt resolved segment others
      go true later put own =
          let ends : content_end fixed.content ≤ size = put.1 in
          (λ e. record { room = omega (arith, ends, room); within = own.0 }, later (content_end fixed.content) put.2 own.2)
      go false later put own = (λ e. absurd (let bad : false ≡ true = e in cc), later end put own)

  -- one content less
  pub later_fit :
      (contents others : List FixedContent) (fixed : FixedContent) → AllFitAt resolved segment contents
      → contents ≡ fixed ∷ others → AllFitAt resolved segment others
  later_fit contents others fixed fit is = (subst (AllFitAt resolved segment) is fit).1

  pub first_fits :
      (contents others : List FixedContent) (fixed : FixedContent) → AllFitAt resolved segment contents
      → contents ≡ fixed ∷ others → is_in segment fixed ≡ true → FitsAt resolved segment fixed
  first_fits contents others fixed fit is here = (subst (AllFitAt resolved segment) is fit).0 here

  pub first_room :
      (offset : ℕ) (bytes : List ℕ) (fixes : List Fix) (contents others : List FixedContent) (own : Segment)
      → AllFitAt resolved segment contents
      → contents
      ≡ record { content = record { segment = own; offset = offset; bytes = bytes }; fixes = fixes }
      ∷ others
      → same_segment own segment ≡ true → start_of resolved.start segment + offset + length bytes ≤ 65535
  first_room offset bytes fixes contents others own fit is here =
      let fixed : FixedContent =
      record { content = record { segment = own; offset = offset; bytes = bytes }; fixes = fixes } in
      let room : start_of resolved.start segment + (offset + length bytes) ≤ 65535 =
      (first_fits contents others fixed fit is here).room in
      omega (arith, room)

  pub first_within :
      (offset : ℕ) (bytes : List ℕ) (fixes : List Fix) (contents others : List FixedContent) (own : Segment)
      → AllFitAt resolved segment contents
      → contents
      ≡ record { content = record { segment = own; offset = offset; bytes = bytes }; fixes = fixes }
      ∷ others
      → same_segment own segment ≡ true
      → AreWithin offset (length bytes) (listed (fix_table fixes offset (length bytes)))
  first_within offset bytes fixes contents others own fit is here =
      let fixed : FixedContent =
      record { content = record { segment = own; offset = offset; bytes = bytes }; fixes = fixes } in
      own_within fixed (first_fits contents others fixed fit is here).within

pub code_fits :
    (resolved : Resolved) (walking : Walking) → ContentsFit walking
    → start_of resolved.start Code + length_of (module_by walking) Code ≤ 65535
    → AllFitAt resolved Code walking.contents
code_fits resolved walking fits room =
    let same : walking.code_length ≡ length_of (module_by walking) Code = length_told walking Code in
    fit_at resolved Code walking.code_length 0 walking.contents (omega (arith, same, room)) fits.code.placed
    fits.code.fit

pub data_fits :
    (resolved : Resolved) (walking : Walking) → ContentsFit walking
    → start_of resolved.start Data + length_of (module_by walking) Data ≤ 65535
    → AllFitAt resolved Data walking.contents
data_fits resolved walking fits room =
    let same : walking.data_length ≡ length_of (module_by walking) Data = length_told walking Data in
    fit_at resolved Data walking.data_length 0 walking.contents (omega (arith, same, room))
    fits.data_bytes.placed
    fits.data_bytes.fit
