-- The need of sources, printed or not.
use Rattle.commands.proofs.Prelude.{◌≡◌, ◌⊎◌, ℕ, List, Bor, Err, Ok, Option, codes, inl, inr, map, subst, texts, Directory, HasFiles, Tells, refusal_line, Ending, Done, Refused, WrongLine, NeedWanted, wants_need, plan_read, Plan, PrintsNeed, StopsNeed, TellsNoNeed, RefusesFor, PrintsNeedWanted, RefusesNeed, TellsText, PrintsNeedOf, RefusesNeedOf}

pub done_or_refused : (ending : Ending) → (ending ≡ Done) ⊎ (ending ≡ Refused) → ending ≡ WrongLine → ⊥
done_or_refused ending (inl done) wrong = cc
done_or_refused ending (inr refused) wrong = cc

pub is_done : (ending : Ending) → (ending ≡ Done) ⊎ (ending ≡ Refused) → (ending ≡ Refused → ⊥) → ending ≡ Done
is_done ending (inl done) not = done
is_done ending (inr refused) not = absurd (not refused)

pub refused_not_done : (ending : Ending) → ending ≡ Refused → ending ≡ Done → ⊥
refused_not_done ending refused done = cc

-- a text of the plan
pub tells_plan : (need : NeedWanted) (text : List ℕ) (old new : Option (List ℕ)) → plan_read need.plan ≡ Err text → Tells (refusal_line (codes "U4") text 0) old new → TellsText (wants_need need) old new
tells_plan need text old new refused told = record { text = text; refused = refused; told = told }

-- what was printed of texts that are those of files
pub prints_need_of : (files : Option Directory) (names read texts : List (List ℕ)) (old new : Option (List ℕ)) → HasFiles files names read → texts ≡ read → PrintsNeed texts old new
    → PrintsNeedOf files names old new
prints_need_of files names read texts old new has are printed = record { texts = read; read = has; printed = subst (λ (l : List (List ℕ)). PrintsNeed l old new) are printed }

-- names that are those of an order
pub prints_by : (files : Option Directory) (names order : List (Bor (List ℕ))) (old new : Option (List ℕ)) → names ≡ order → PrintsNeedOf files (map (λ n. n.now) names) old new
    → PrintsNeedOf files (texts order) old new
prints_by files names order old new e printed = subst (λ (l : List (Bor (List ℕ))). PrintsNeedOf files (map (λ n. n.now) l) old new) e printed

-- names that are those of an order, of whose texts the need was not printed
pub no_need_by : (names order : List (Bor (List ℕ))) (sources : List (List ℕ)) (old new : Option (List ℕ)) → names ≡ order → TellsNoNeed (map (λ n. n.now) names) sources old new
    → TellsNoNeed (texts order) sources old new
no_need_by names order sources old new e told = subst (λ (l : List (Bor (List ℕ))). TellsNoNeed (map (λ n. n.now) l) sources old new) e told

pub refuses_need_of : (files : Option Directory) (names order : List (Bor (List ℕ))) (read used : List (List ℕ)) (old new out now : Option (List ℕ)) → names ≡ order
    → HasFiles files (map (λ n. n.now) names) read → used ≡ read → TellsNoNeed (texts order) used old new → StopsNeed used out now → RefusesNeedOf files (texts order) old new out now
refuses_need_of files names order read used old new out now same has are told printed = record {
  texts = read;
  read = subst (λ (l : List (Bor (List ℕ))). HasFiles files (map (λ n. n.now) l) read) same has;
  told = subst (λ (l : List (List ℕ)). TellsNoNeed (texts order) l old new) are told;
  printed = subst (λ (l : List (List ℕ)). StopsNeed l out now) are printed;
}

-- the plan is one
pub prints_wanted : (need : NeedWanted) (plan : Plan) (files : Option Directory) (old new : Option (List ℕ)) → plan_read need.plan ≡ Ok plan
    → PrintsNeedOf files need.files old new → PrintsNeedWanted need files old new
prints_wanted need plan files old new planned printed = record { plan = plan; planned = planned; printed = printed }

pub refuses_need : (need : NeedWanted) (plan : Plan) (files : Option Directory) (before after : ℕ) (old new out now : Option (List ℕ)) → plan_read need.plan ≡ Ok plan
    → RefusesFor (RefusesNeedOf files need.files old new out now) files need.files before after old new out now → RefusesNeed need files before after old new out now
refuses_need need plan files before after old new out now planned refused = record { plan = plan; planned = planned; refused = refused }
