-- Parts of modules that are kept.
use Rattle.codegen8080.proofs.Prelude.{◌≡◌, ℕ, ◌<◌, List, length, map, sym, subst, ap, ◌∙◌, arith, IfSome, IsTrue, is_name, ModuleParts, Code, Data, Public, is_valid_segment, places_stored, AreKept, owned_public_view, IsLinkage, Linkage, IsKept}
use Rattle.mem80.specs.declared.memory.TheConstants.{MEMORY_SIZE}

pub parts_kept :
    (parts : ModuleParts) (linkage : Linkage) (count : ℕ)
    → parts.externals.items ≡ linkage.externals
    → map owned_public_view parts.publics.items ≡ linkage.publics
    → IsLinkage linkage
    → count ≡ length linkage.externals
    → IsKept count parts.code
    → IsKept count parts.data_bytes
    → IsTrue (is_name parts.name)
    → parts.stack_length ≡ 0
    → IfSome parts.start (λ offset. offset < MEMORY_SIZE)
    → AreKept parts
parts_kept parts linkage count externals publics is counted code variables name stack start =
    let same : count ≡ length parts.externals.items = counted ∙ ap length (sym externals) in
    let as_linkage : Linkage = record {
      externals = parts.externals.items;
      publics = map owned_public_view parts.publics.items;
    } in
    let equal : linkage ≡ as_linkage =
    ap (λ (e : List (List ℕ)). record { externals = e; publics = linkage.publics }) (sym externals)
    ∙ ap (λ (p : List Public). record { externals = parts.externals.items; publics = p }) (sym publics) in
    let linked : IsLinkage as_linkage = subst IsLinkage equal is in
    record {
      code = code.as_code;
      data_places = variables.as_data;
      object = record {
        name = name;
        code = subst (λ n. IsTrue (is_valid_segment n (places_stored Code parts.code))) same code.valid_code;
        data_places =
            subst (λ n. IsTrue (is_valid_segment n (places_stored Data parts.data_bytes))) same
            variables.valid_data;
        stack = omega (arith, stack);
        publics = linked.publics;
        names = linked.names;
        different = linked.different;
        start = start;
      };
    }
