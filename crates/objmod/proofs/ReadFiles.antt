-- The module that a walk over a file tells is the one that the file spells.
use Rattle.objmod.proofs.Prelude.{◌≡◌, ℕ, suc, ◌<◌, ◌^◌, List, [], ◌∷◌, ◌++◌, slice_index_or, Fits, w8, ap, sym, subst, ◌∙◌, arith, IsBytes, IsObjectModule, ObjectModule, Spells, text_of, with_publics_in_order, Walking, WalksOver, module_by, spelled_is_object, module_is, more_not_read, written_read, ContentsFit}
use Rattle.objmod.proofs.ContentsFit.{contents_fit}

-- what the code has as bytes
all_bytes : (bytes : List ℕ) → ((i : ℕ) → Fits w8 (slice_index_or bytes i 0)) → IsBytes bytes
all_bytes [] fit = tt
all_bytes (byte ∷ others) fit =
    let here : byte < 2 ^ 8 = (fit 0).fits in
    (omega (arith, here), all_bytes others (λ i. fit (suc i)))

walk_spells : (bytes : List ℕ) (walking : Walking) → WalksOver bytes walking
    → Spells bytes (module_by walking)
walk_spells bytes walking over = record {
  parts = over.parts;
  file = over.file;
  said = ap module_by over.from_the_front ∙ sym (module_is over.parts);
}

-- a walk over a file can be put together
pub walk_valid :
    (bytes : List ℕ) (walking : Walking) → ((i : ℕ) → Fits w8 (slice_index_or bytes i 0))
    → WalksOver bytes walking → IsObjectModule (module_by walking)
walk_valid bytes walking fit over =
    spelled_is_object bytes (all_bytes bytes fit) (module_by walking) (walk_spells bytes walking over)

pub walk_fits :
    (bytes : List ℕ) (walking : Walking) → ((i : ℕ) → Fits w8 (slice_index_or bytes i 0))
    → WalksOver bytes walking → ContentsFit walking
walk_fits bytes walking fit over = contents_fit bytes walking (all_bytes bytes fit) over

-- what is put together of it
pub told_spells :
    (bytes : List ℕ) (walking : Walking) (object : ObjectModule) → WalksOver bytes walking
    → object ≡ module_by walking → Spells bytes object
told_spells bytes walking object over is = subst (Spells bytes) (sym is) (walk_spells bytes walking over)

pub told_written :
    (bytes : List ℕ) (walking : Walking) (read object : ObjectModule) → WalksOver bytes walking
    → read ≡ module_by walking → IsObjectModule object → bytes ≡ text_of object
    → read ≡ with_publics_in_order object
told_written bytes walking read object over is valid text =
    written_read bytes read object (told_spells bytes walking read over is) valid text

pub told_ended :
    (bytes : List ℕ) (walking : Walking) (read object : ObjectModule) (first : ℕ) (rest : List ℕ)
    → WalksOver bytes walking → read ≡ module_by walking → IsObjectModule object
    → bytes ≡ text_of object ++ first ∷ rest → ⊥
told_ended bytes walking read object first rest over is valid text =
    more_not_read bytes read object first rest (told_spells bytes walking read over is) valid text
