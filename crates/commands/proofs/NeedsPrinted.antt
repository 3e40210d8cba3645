-- The need of sources, printed or not.
use Rattle.commands.proofs.Prelude.{◌≡◌, ℕ, List, Option, inl, inr, subst, Appends, AppendsBeginning, Tells, memory_line, output_line, HasCause, IsNeedText, NeedFault, PrintsNeed, StopsNeed, TellsNoNeed, Keeps-refl}
use Rattle.commands.specs.NeedFaults.{fault_line}

pub prints_need : (texts : List (List ℕ)) (line written : List ℕ) (old new : Option (List ℕ)) → IsNeedText texts line → written ≡ line → Appends old new written → PrintsNeed texts old new
prints_need texts line written old new need is printed = record { line = line; need = need; printed = subst (λ (l : List ℕ). Appends old new l) is printed }

pub begins_need : (texts : List (List ℕ)) (line written : List ℕ) (old new : Option (List ℕ)) → IsNeedText texts line → written ≡ line → AppendsBeginning old new written → StopsNeed texts old new
begins_need texts line written old new need is printed = inr (record { line = line; need = need; printed = subst (λ (l : List ℕ). AppendsBeginning old new l) is printed })

pub no_need : (texts : List (List ℕ)) (known : Option (List ℕ)) → StopsNeed texts known known
no_need texts known = inl (Keeps-refl known)

pub tells_cause : (names texts : List (List ℕ)) (fault : NeedFault) (old new : Option (List ℕ)) → HasCause fault texts → Tells (fault_line names fault) old new → TellsNoNeed names texts old new
tells_cause names texts fault old new cause told = inl (record { fault = fault; cause = cause; told = told })

pub tells_memory : (names texts : List (List ℕ)) (old new : Option (List ℕ)) → Tells memory_line old new → TellsNoNeed names texts old new
tells_memory names texts old new told = inr (inl told)

pub tells_output : (names texts : List (List ℕ)) (line : List ℕ) (old new : Option (List ℕ)) → IsNeedText texts line → Tells output_line old new → TellsNoNeed names texts old new
tells_output names texts line old new need told = inr (inr (record { line = line; need = need; told = told }))
