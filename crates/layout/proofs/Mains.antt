-- Joined modules have one main module.
use Rattle.layout.proofs.Prelude.{◌≡◌, Bool, true, false, List, None, Some, sym, refl, eqb-true, option_or, none-some, TypedModule, both_are_none}
use Rattle.std.proofs.Common.{◌==◌, count_by, if◌then◌else◌}
use Rattle.layout.specs.Joined.{IsJoined, NotOneMain, declared_otherwise, is_main, join_refusal, not_one_main, public_twice, without_public}

-- where no refusal says that there is none or another, one module is the main module
pub one_is_main : (modules : List TypedModule) → not_one_main modules ≡ None → count_by is_main modules ≡ 1
one_is_main modules none = by (count_by is_main modules == 1) refl none
  where
    by : (one : Bool) → (count_by is_main modules == 1) ≡ one → (if one then None else Some NotOneMain) ≡ None
        → count_by is_main modules ≡ 1
    by true e none = eqb-true (count_by is_main modules) 1 e
    by false e none = absurd (none-some NotOneMain (sym none))

pub main_counted : (modules : List TypedModule) → IsJoined modules → count_by is_main modules ≡ 1
unfolding join_refusal
main_counted modules joined =
    let first = both_are_none (without_public modules)
    (option_or (public_twice modules) (option_or (declared_otherwise modules) (not_one_main modules)))
    joined in
    let second =
    both_are_none (public_twice modules) (option_or (declared_otherwise modules) (not_one_main modules))
    first.1 in
    one_is_main modules (both_are_none (declared_otherwise modules) (not_one_main modules) second.1).1
