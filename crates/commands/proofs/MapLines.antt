-- The lines of a map.
use Rattle.commands.proofs.Prelude.{◌≡◌, ℕ, ◌-◌, ◌^◌, ◌<◌, ◌≤◌, true, List, [], ◌∷◌, ◌++◌, length, get_or, drop, map, zip, Option, Some, Result, OnOk, IfSome, codes, decimal, refl, sym, ap, subst, ◌∙◌, append_assoc, append-nil, arith, ◌++?◌, digits, format_spec, digits_output, styled_digits_output, flat_map, Appends, Typed, module_view, ModulePlacement, Placement, Joined, modules_of, CodeModulePlacement, CodePlacement, module_placement_view, placement_view, address_digits, hole_is, program_modules, Construction, map_line, map_of, map_text}

five_parts : (a b c d e : List ℕ) → a ++ (b ++ (c ++ (d ++ e))) ≡ a ++ b ++ c ++ d ++ e
five_parts a b c d e = sym (append_assoc (a ++ b ++ c) d e ∙ append_assoc (a ++ b) c (d ++ e) ∙ append_assoc a b (c ++ (d ++ e)))

-- a line as it was appended
pub line_written : {E : Type 0} (result : Result (Unit {0}) E) (d : _) (spec : _) (of_module name : List ℕ) (n size : ℕ) (old new : List ℕ)
    → digits_output d ≡ Some (digits 16 true n) → spec ≡ format_spec 32 0 4 4 (2 ^ 64 - 1) → n < 65536
    → OnOk result (IfSome (Some (codes "MAP ") ++? Some of_module ++? Some (32 ∷ []) ++? Some name ++? Some (32 ∷ []) ++? styled_digits_output d spec ++? Some (32 ∷ (decimal size ++ 10 ∷ []))) (Appends (Some old) (Some new)))
    → OnOk result (new ≡ old ++ map_line of_module name n size)
line_written result d spec of_module name n size old new shown is small wrote =
    let address : List ℕ = address_digits n in
    let grouped : codes "MAP " ++ (of_module ++ (32 ∷ (name ++ (32 ∷ (address ++ (32 ∷ (decimal size ++ 10 ∷ []))))))) ≡ map_line of_module name n size =
    ap (λ (l : List ℕ). codes "MAP " ++ l) (five_parts of_module (32 ∷ name) (32 ∷ address) (32 ∷ decimal size) (10 ∷ [])) in
    subst (λ (line : List ℕ). OnOk result (new ≡ old ++ line)) grouped
    (subst (λ (o : Option (List ℕ)). OnOk result (IfSome (Some (codes "MAP ") ++? Some of_module ++? Some (32 ∷ []) ++? Some name ++? Some (32 ∷ []) ++? o ++? Some (32 ∷ (decimal size ++ 10 ∷ []))) (Appends (Some old) (Some new))))
    (hole_is d spec n shown is small) wrote)

-- nothing was added
pub none_added : (old : List ℕ) → old ≡ old ++ []
none_added old = sym (append-nil old)

-- what was added for pairs, and then what the pairs that are left add, is all
module _ {V W C : Type 0} (f : V × W → List C) (total made new : List C) where
  pair_added : (v : V) (w : W) (vs : List V) (ws : List W) → made ++ flat_map f (zip (v ∷ vs) (w ∷ ws)) ≡ total → new ≡ made ++ f (v, w) → new ++ flat_map f (zip vs ws) ≡ total
  pair_added v w vs ws rest added =
      ap (λ (n : List C). n ++ flat_map f (zip vs ws)) added ∙ append_assoc made (f (v, w)) (flat_map f (zip vs ws)) ∙ rest

  -- an item that is seen, with another as it is
  pub seen_added : {A : Type 0} (see : A → V) (xs : List A) (ws : List W) (x : A) (w : W) → 1 ≤ length xs → 1 ≤ length ws → x ≡ get_or xs 0 x → w ≡ get_or ws 0 w
      → made ++ flat_map f (zip (map see xs) ws) ≡ total → new ≡ made ++ f (see x, w) → new ++ flat_map f (zip (map see (drop 1 xs)) (drop 1 ws)) ≡ total
  seen_added see [] ws x w some others is other rest added = absurd (omega arith)
  seen_added see (a ∷ xs) [] x w some others is other rest added = absurd (omega arith)
  seen_added see (a ∷ xs) (b ∷ ws) x w some others is other rest added = pair_added (see a) b (map see xs) ws rest (rw (sym is, sym other) added)

  -- two items that are seen
  pub both_added : {A B : Type 0} (see : A → V) (look : B → W) (xs : List A) (ys : List B) (x : A) (y : B) → 1 ≤ length xs → 1 ≤ length ys → x ≡ get_or xs 0 x → y ≡ get_or ys 0 y
      → made ++ flat_map f (zip (map see xs) (map look ys)) ≡ total → new ≡ made ++ f (see x, look y) → new ++ flat_map f (zip (map see (drop 1 xs)) (map look (drop 1 ys))) ≡ total
  both_added see look [] ys x y some others is other rest added = absurd (omega arith)
  both_added see look (a ∷ xs) [] x y some others is other rest added = absurd (omega arith)
  both_added see look (a ∷ xs) (b ∷ ys) x y some others is other rest added = pair_added (see a) (look b) (map see xs) (map look ys) rest (rw (sym is, sym other) added)

module _ {V W C : Type 0} (f : V × W → List C) (total made : List C) where
  -- nothing is left on one side
  pub firsts_ended : {A : Type 0} (see : A → V) (xs : List A) (ws : List W) → length xs < 1 → made ++ flat_map f (zip (map see xs) ws) ≡ total → made ≡ total
  firsts_ended see [] ws none rest = sym (append-nil made) ∙ rest
  firsts_ended see (a ∷ xs) ws none rest = absurd (omega arith)

  no_pairs : (vs : List V) (ws : List W) → ws ≡ [] → zip vs ws ≡ []
  no_pairs [] ws none = refl
  no_pairs (v ∷ vs) ws none = rw none refl

  pub seconds_ended : (vs : List V) (ws : List W) → length ws < 1 → made ++ flat_map f (zip vs ws) ≡ total → made ≡ total
  seconds_ended vs [] none rest = sym (append-nil made) ∙ ap (λ (pairs : List (V × W)). made ++ flat_map f pairs) (sym (no_pairs vs [] refl)) ∙ rest
  seconds_ended vs (w ∷ ws) none rest = absurd (omega arith)

  pub looks_ended : {B : Type 0} (look : B → W) (vs : List V) (ys : List B) → length ys < 1 → made ++ flat_map f (zip vs (map look ys)) ≡ total → made ≡ total
  looks_ended look vs [] none rest = seconds_ended vs [] none rest
  looks_ended look vs (y ∷ ys) none rest = absurd (omega arith)

-- the lines of the modules of a program that was built are its map
pub lines_are : (built : Construction) (joined : Joined) (placement : CodePlacement) (modules : List Typed) (placed : List CodeModulePlacement) (lines : List ℕ) → joined ≡ built.program
    → modules ≡ modules_of joined → placement_view placement ≡ built.placement → map module_placement_view placed ≡ (placement_view placement).modules
    → lines ≡ [] ++ map_text (map module_view modules) (map module_placement_view placed) → lines ≡ map_of built
lines_are built joined placement modules placed lines same its at places written =
    written ∙ ap (λ (l : List Typed). map_text (map module_view l) (map module_placement_view placed)) (its ∙ ap modules_of same)
    ∙ ap (λ (ps : List ModulePlacement). map_text (program_modules built.program) ps) (places ∙ ap (λ (p : Placement). p.modules) at)
