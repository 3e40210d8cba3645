-- The segments of object modules begin where the placement of their program has them.
use Rattle.image_laws.proofs.Prelude.{◌≡◌, ℕ, ◌+◌, List, [], ◌∷◌, length, map, refl, ap, ◌∙◌, arith, TypedModule, Bases, PlacingPlan, bases_from, data_bytes, Linked, code_end, data_end, linked_after, linked_from, start_after, ObjectModule, IsObjectOf, AreObjectsOf, BasesAgree, bases_of, code_lengths_of}

-- segments that ask for no page begin where those before them end, and end so much later
pub record Follows (code data_before : ℕ) (typed : TypedModule) (object : ObjectModule) : Type 0 where
  pub code_start : ((linked_after code data_before object).start).code ≡ code
  pub data_start : ((linked_after code data_before object).start).data_start ≡ data_before
  pub code_ends : code_end (linked_after code data_before object) ≡ code + length object.code.places
  pub data_ends : data_end (linked_after code data_before object) ≡ data_before + data_bytes typed.objects

pub follows :
    (code data_before : ℕ) (typed : TypedModule) (object : ObjectModule) → IsObjectOf typed object
    → Follows code data_before typed object
follows code data_before typed object is =
    let first : start_after code object.code.alignment ≡ code = ap (start_after code) is.code_alignment in
    let second : start_after data_before object.data_places.alignment ≡ data_before =
    ap (start_after data_before) is.data_alignment in
    record {
      code_start = first;
      data_start = second;
      code_ends = ap (λ n. n + length object.code.places) first;
      data_ends =
          ap (λ n. n + length object.data_places.places) second ∙ ap (λ n. data_before + n) is.data_size;
    }

abbrev bases_at : (code data_base : ℕ) → Bases
bases_at code data_base = record { code_base = code; data_base = data_base }

-- the bases of the modules from one on, after what ends at these offsets
bases_agree_from :
    (plan : PlacingPlan) (code data_before : ℕ) (modules : List TypedModule) (objects : List ObjectModule)
    → AreObjectsOf modules objects
    → map (bases_of plan) (linked_from code data_before objects)
    ≡ bases_from (plan.code_base + code) (plan.data_base + data_before) modules (code_lengths_of objects)
bases_agree_from plan code data_before [] [] all = refl
bases_agree_from plan code data_before [] (object ∷ objects) all = absurd all
bases_agree_from plan code data_before (typed ∷ others) [] all = absurd all
bases_agree_from plan code data_before (typed ∷ others) (object ∷ objects) all =
    let f = follows code data_before typed object all.0 in
    let one : Linked = linked_after code data_before object in
    let start = f.code_start in
    let data_start = f.data_start in
    let code_ends = f.code_ends in
    let data_ends = f.data_ends in
    let next_code : plan.code_base + code_end one ≡ (plan.code_base + code) + length object.code.places =
    omega (arith, code_ends) in
    let next_data :
    plan.data_base + data_end one ≡ (plan.data_base + data_before) + data_bytes typed.objects =
    omega (arith, data_ends) in
    let rest : List Bases =
    bases_from (plan.code_base + code_end one) (plan.data_base + data_end one) others
    (code_lengths_of objects) in
    ap (λ bases. bases_of plan one ∷ bases)
    (bases_agree_from plan (code_end one) (data_end one) others objects all.1)
    ∙ ap (λ n. bases_at (plan.code_base + n) (plan.data_base + (one.start).data_start) ∷ rest) start
    ∙ ap (λ n. bases_at (plan.code_base + code) (plan.data_base + n) ∷ rest) data_start
    ∙ ap (λ n.
    bases_at (plan.code_base + code) (plan.data_base + data_before)
    ∷ bases_from n (plan.data_base + data_end one) others (code_lengths_of objects)) next_code
    ∙ ap (λ n.
    bases_at (plan.code_base + code) (plan.data_base + data_before)
    ∷ bases_from ((plan.code_base + code) + length object.code.places) n others (code_lengths_of objects))
    next_data

pub bases_agree : BasesAgree
bases_agree plan modules objects all =
    let code : plan.code_base + 0 ≡ plan.code_base = omega arith in
    let data_start : plan.data_base + 0 ≡ plan.data_base = omega arith in
    bases_agree_from plan 0 0 modules objects all
    ∙ ap (λ n. bases_from n (plan.data_base + 0) modules (code_lengths_of objects)) code
    ∙ ap (λ n. bases_from plan.code_base n modules (code_lengths_of objects)) data_start
