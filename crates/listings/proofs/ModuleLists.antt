-- The listing of a module.
use Rattle.listings.proofs.{Prelude.{◌≡◌, ◌+◌, ℕ, List, [], ◌++◌, map, refl, ap, ◌∙◌, append_assoc, Piece, range_at, fixes_in, Code, constant_bytes, cells_in, lines_of, parts_in, parts_text, sizes_text, Named, Part, ModuleView, Adds, code_text, AddsParts, IsLone, lined, IsPartOfCode, ListsView, code_size, data_size, object_of, text_of, typed_of, name_at, named_view}, Shown.{bytes_are_shown, cells_added, cells_lined, each_added, none_left_out, parts_beside_lines, parts_shown}}

-- what was added for a module is its listing
pub module_listed : (names : List Named) (pieces : List Piece) (view : ModuleView)
    (old coded shown new : List ℕ) (code bytes : List Part)
    → AddsParts (IsPartOfCode pieces view) (cells_in pieces view.code_base (code_size view)) [] code
    → coded ≡ old ++ code_text (name_at names) (lines_of (text_of view)) (map (lined (name_at names)) code)
    → AddsParts IsLone (cells_in pieces view.data_base (data_size view)) [] bytes
    → shown ≡ coded ++ parts_text (name_at names) (parts_in 0 (map (lined (name_at names)) bytes))
    → new ≡ shown ++ sizes_text (typed_of view).name (range_at view.code_base (code_size view))
    (range_at view.data_base (data_size view))
    → Adds (ListsView (map named_view names) pieces view) old new
module_listed names pieces view old coded shown new code bytes code_adds with_code data_adds
    with_data with_sizes =
    let in_code : List ℕ =
    code_text (name_at names) (lines_of (text_of view)) (map (lined (name_at names)) code) in
    let in_data : List ℕ = parts_text (name_at names) (map (lined (name_at names)) bytes) in
    let sizes : List ℕ =
    sizes_text (typed_of view).name (range_at view.code_base (code_size view))
    (range_at view.data_base (data_size view)) in
    let in_order =
    each_added (IsPartOfCode pieces view)
    (cells_in pieces view.code_base (code_size view)) code code_adds in
    let lone = each_added IsLone (cells_in pieces view.data_base (data_size view)) bytes data_adds in
    record {
      text = in_code ++ in_data ++ sizes;
      holds = record {
        code_parts = map (lined (name_at names)) code;
        data_parts = map (lined (name_at names)) bytes;
        code_is =
            cells_lined (name_at names) code
            ∙ cells_added (IsPartOfCode pieces view)
            (cells_in pieces view.code_base (code_size view)) code code_adds;
        data_is =
            cells_lined (name_at names) bytes
            ∙ cells_added IsLone (cells_in pieces view.data_base (data_size view)) bytes data_adds;
        code_shown =
            parts_shown (name_at names) pieces (fixes_in (object_of view) Code) view.code_base
            (view.code_base + constant_bytes (typed_of view)) (view.code_base + code_size view) code in_order;
        constants_beside =
            parts_beside_lines (name_at names) pieces (fixes_in (object_of view) Code) view.code_base
            (view.code_base + constant_bytes (typed_of view)) (view.code_base + code_size view) code in_order;
        data_shown = bytes_are_shown (name_at names) bytes lone;
        text_is = refl;
      };
      added =
          with_sizes
          ∙ ap (λ (l : List ℕ). l ++ sizes)
          (with_data ∙ ap (λ parts. coded ++ parts_text (name_at names) parts)
          (none_left_out (name_at names) bytes lone)
          ∙ ap (λ (l : List ℕ). l ++ in_data) with_code ∙ append_assoc old in_code in_data)
          ∙ append_assoc old (in_code ++ in_data) sizes;
    }
