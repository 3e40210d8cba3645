-- The typing of a module, in two steps.
use Rattle.types.proofs.Prelude.{◌≡◌, Option, Ok, Err, ap, refl, sym, subst, ◌∙◌, ModuleTree, TypedList, TypedModule, Fault, Checked, ◌>>=◌, Progress, list_of, at_the_beginning, declarations, module_block, module_with, statements, typing_of, FailsBy, module_body, fails_more}

in_two : {A B C : Type 0} (first : Checked A) (second : A → Checked B) (next : B → Checked C)
    → (first >>= (λ a. second a >>= next)) ≡ ((first >>= second) >>= next)
in_two (Ok a) second next = refl
in_two (Err fault) second next = refl

abbrev body_of : ModuleTree → Checked (TypedList × Progress)
body_of tree = module_body tree.declarations tree.statements at_the_beginning

abbrev typed_with : ModuleTree → TypedList × Progress → Checked TypedModule
typed_with tree made = Ok (module_with tree.name.name made.0 made.1)

typing_is : (tree : ModuleTree) → typing_of tree ≡ (body_of tree >>= typed_with tree)
unfolding typing_of
typing_is tree =
    in_two (declarations module_block tree.declarations at_the_beginning)
    (λ declared. list_of tree.statements (λ label. statements module_block tree.statements label) declared)
    (typed_with tree)

pub typing_given : (tree : ModuleTree) (start : Progress) (body : TypedList) (now : Progress)
    → start ≡ at_the_beginning
    → module_body tree.declarations tree.statements start ≡ Ok (body, now)
    → typing_of tree ≡ Ok (module_with tree.name.name body now)
typing_given tree start body now begins given =
    typing_is tree
    ∙ ap (λ progress. module_body tree.declarations tree.statements progress >>= typed_with tree) (sym begins)
    ∙ ap (λ made. made >>= typed_with tree) given

pub typing_fails : (tree : ModuleTree) (start : Progress) (fault : Option Fault) → start ≡ at_the_beginning
    → FailsBy fault (module_body tree.declarations tree.statements start) → FailsBy fault (typing_of tree)
typing_fails tree start fault begins fails =
    subst (FailsBy fault)
    (sym (typing_is tree ∙ ap (λ progress. module_body tree.declarations tree.statements progress
    >>= typed_with tree) (sym begins)))
    (fails_more fault (module_body tree.declarations tree.statements start) (typed_with tree) fails)
