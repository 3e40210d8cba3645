-- A machine that does what each run of a source does agrees with the source, and ends with its memory.
use Rattle.program_laws.proofs.Prelude.{◌≡◌, ◌≢◌, ℕ, ◌+◌, ◌-◌, ◌≤◌, ◌<◌, ◌⊎◌, inl, inr, List, refl, sym, ap, ◌∙◌, subst, arith, ⊎_elim, cases_lt, IsBeginning, Status, Halted, Illegal, Running, State, state_after, Flow, Gave, Outcome, SourceState, Stop, Stopped, Ended, More, Outside, EndsIn, NeverOutside, Run, run_of, Decides-declared, writable_told, Loaded, MayChange, IsHalted, Agrees, EndsAlike, HoldsAtEnd, MayBeChanged, ComesTo, Performs, begins_itself}
use Rattle.isa8080.proofs.{Endings.{stays_state, state_after_sum}, Growing.{run_adds}}

-- the run of an outcome that ends in a state
ended_run : (outcome : Outcome Flow) (t : SourceState) → EndsIn outcome t
    → run_of outcome ≡ record { end = Ended; events = t.events }
ended_run (Gave flow s) t is = ap (λ (one : SourceState). run_of (Gave flow one)) is
ended_run (Stopped Ended s) t is = ap (λ (one : SourceState). run_of (Stopped Ended one)) is
ended_run (Stopped More s) t is = absurd is
ended_run (Stopped (Outside reason) s) t is = absurd is

-- and the state in which a run ended
end_of : (outcome : Outcome Flow) → (run_of outcome).end ≡ Ended → (t : SourceState) × EndsIn outcome t
end_of (Gave flow s) is = (s, refl)
end_of (Stopped Ended s) is = (s, refl)
end_of (Stopped More s) is = let bad : More ≡ Ended = is in absurd cc
end_of (Stopped (Outside reason) s) is = let bad : Outside reason ≡ Ended = is in absurd cc

module _ (script : List (List ℕ)) (start : State) where
  abbrev after : ℕ → State
  after k = state_after script k start

  -- a machine that stopped stays as it is
  stays_from :
      (j k : ℕ) (status : Status) → j ≤ k → (after j).status ≡ status → status ≢ Running → after k ≡ after j
  stays_from j k status le is stopped =
      let split : k ≡ (k - j) + j = omega (arith, le) in
      ap after split ∙ state_after_sum script (k - j) j start
      ∙ stays_state script (k - j) (after j) status is stopped

  -- and it ran until then
  ran_before :
      (j k : ℕ) → j ≤ k → (after k).status ≡ Running → (after j).status ≢ Halted
  ran_before j k le runs halted =
      let same = stays_from j k Halted le halted (λ e. let bad : Halted ≡ Running = e in cc) in
      let bad : Halted ≡ Running = sym halted ∙ (sym (ap (λ (s : State). s.status) same) ∙ runs) in
      cc

  legal_before :
      (j k : ℕ) (status : Status) → j ≤ k → (after k).status ≡ status → status ≢ Illegal
      → (after j).status ≢ Illegal
  legal_before j k status le is legal illegal =
      let same = stays_from j k Illegal le illegal (λ e. let bad : Illegal ≡ Running = e in cc) in
      legal (sym is ∙ (ap (λ (s : State). s.status) same ∙ illegal))

  -- events are only added
  begins_before : (j k : ℕ) → j ≤ k → IsBeginning (after j).events (after k).events
  begins_before j k le =
      let split : k ≡ (k - j) + j = omega (arith, le) in
      subst (λ (s : State). IsBeginning (after j).events s.events)
      (sym (ap after split ∙ state_after_sum script (k - j) j start))
      (run_adds script (k - j) (after j))

  -- events at any step are a beginning of those of a machine that halts
  begins_halted :
      (j k : ℕ) → (after k).status ≡ Halted → IsBeginning (after j).events (after k).events
  begins_halted j k halted =
      ⊎_elim
      (λ (before : j < k). begins_before j k (omega (arith, before)))
      (λ (later : k ≤ j).
      subst (λ (s : State). IsBeginning (after j).events s.events)
      (stays_from k j Halted later halted (λ e. let bad : Halted ≡ Running = e in cc))
      (begins_itself (after j).events))
      (cases_lt j k)

  legal_halted : (j k : ℕ) → (after k).status ≡ Halted → (after j).status ≢ Illegal
  legal_halted j k halted =
      ⊎_elim
      (λ (before : j < k).
      legal_before j k Halted (omega (arith, before)) halted (λ e. let bad : Halted ≡ Illegal = e in cc))
      (λ (later : k ≤ j) illegal.
      let same = stays_from k j Halted later halted (λ e. let bad : Halted ≡ Running = e in cc) in
      let bad : Halted ≡ Illegal = sym halted ∙ (sym (ap (λ (s : State). s.status) same) ∙ illegal) in
      cc)
      (cases_lt j k)

  -- the state in which a machine is halted is one
  halted_once : (j k : ℕ) → (after j).status ≡ Halted → (after k).status ≡ Halted → after k ≡ after j
  halted_once j k one other =
      ⊎_elim
      (λ (before : j < k).
      stays_from j k Halted (omega (arith, before)) one (λ e. let bad : Halted ≡ Running = e in cc))
      (λ (later : k ≤ j).
      sym (stays_from k j Halted later other (λ e. let bad : Halted ≡ Running = e in cc)))
      (cases_lt j k)

-- the bytes of a program that may change are variables and those of the stack
may_be_changed :
    (loaded : Loaded) (address : ℕ)
    → MayChange loaded.program address
    → MayBeChanged loaded.program.modules loaded.program.placement address
may_be_changed loaded address (inl variable) =
    inl (writable_told loaded.program.modules loaded.program.placement address variable.0 variable.1)
may_be_changed loaded address (inr of_stack) = inr of_stack

-- what memory holds where the machine halted
holds_at_end :
    (loaded : Loaded) (t : SourceState) (end : State)
    → IsHalted loaded t end
    → HoldsAtEnd loaded.program.modules loaded.program.placement loaded.image t.memory end.memory
holds_at_end loaded t end halted = record {
  is_memory = halted.shares.is_memory;
  declared = λ address is.
      halted.shares.declared address
      ((Decides-declared loaded.program.modules loaded.program.placement address).1 is);
  others = λ address outside.
      halted.shares.others.bytes address (λ may. outside (may_be_changed loaded address may));
}

module _
    (loaded : Loaded) (start : State) (source : ℕ → Outcome Flow)
    (performs : (n : ℕ) → Performs loaded start n (source n))
    (never : NeverOutside (λ (n : ℕ). run_of (source n)))
  where
    abbrev runs : ℕ → Run
    runs n = run_of (source n)

    abbrev script : List (List ℕ)
    script = loaded.program.script

    abbrev machine : ℕ → State
    machine k = after script start k

    -- a machine that halts with the events of a run that ended
    halts : (n : ℕ) → (runs n).end ≡ Ended → ComesTo script start 0 Halted (runs n).events
    halts n is =
        let found = end_of (source n) is in
        let comes = (performs n).ended found.0 found.1 in
        let end = comes.is_halted.left in
        record {
          count = comes.count;
          enough = omega arith;
          status_is = end.status_is;
          events_are =
              end.events_are
              ∙ sym (ap (λ (run : Run). run.events) (ended_run (source n) found.0 found.1));
        }

    -- a run that never goes outside ended, or wants more
    by_end :
        {A : Type 0} (n : ℕ)
        → ((runs n).end ≡ Ended → ComesTo script start 0 Halted (runs n).events → A)
        → ((runs n).end ≡ More → ComesTo script start n Running (runs n).events → A)
        → A
    by_end {A = A} n ended more = by (runs n).end refl
      where
        by : (end : Stop) → (runs n).end ≡ end → A
        by Ended is = ended is (halts n is)
        by More is = more is ((performs n).more is)
        by (Outside reason) is = absurd (never n reason is)

    pub agrees : Agrees runs machine
    agrees = record {
      keeps_up =
          λ n. by_end n (λ is comes. (comes.count, comes.events_are))
          (λ is comes. (comes.count, comes.events_are));
      runs_no_further = λ k. (
        k,
        by_end k
            (λ is comes. subst (IsBeginning (machine k).events) comes.events_are
            (begins_halted script start k comes.count comes.status_is))
            (λ is comes. subst (IsBeginning (machine k).events) comes.events_are
            (begins_before script start k comes.count comes.enough)),
      );
      halts_when_ended =
          λ n is. let comes = halts n is in (comes.count, comes.status_is, comes.events_are);
      ended_when_halted = λ k halted. (
        k,
        by_end k
            (λ is comes. is)
            (λ is comes. absurd (ran_before script start k comes.count comes.enough comes.status_is halted)),
      );
      never_illegal = λ k.
          by_end k
          (λ is comes. legal_halted script start k comes.count comes.status_is)
          (λ is comes.
          legal_before script start k comes.count Running comes.enough comes.status_is
          (λ e. let bad : Running ≡ Illegal = e in cc));
    }

    abbrev Holds : (source ended : List ℕ) → Type 0
    Holds source ended =
        HoldsAtEnd loaded.program.modules loaded.program.placement (machine 0).memory source ended

    -- The machine ends with the memory of the source.
    pub ends_alike :
        start.memory ≡ loaded.image
        → EndsAlike loaded.program.modules loaded.program.placement source machine
    unfolding state_after
    ends_alike same =
        let holds : (t : SourceState) (end : State) → IsHalted loaded t end → Holds t.memory end.memory =
        λ t end halted.
        subst (λ (started : List ℕ).
        HoldsAtEnd loaded.program.modules loaded.program.placement started t.memory end.memory) (sym same)
        (holds_at_end loaded t end halted) in
        record {
          when_ended = λ n t is.
              let comes = (performs n).ended t is in (
                comes.count,
                comes.is_halted.left.status_is,
                comes.is_halted.left.events_are,
                holds t (machine comes.count) comes.is_halted,
              );
          when_halted = λ k halted.
              let ended = agrees.ended_when_halted k halted in
              let found = end_of (source ended.0) ended.1 in
              let comes = (performs ended.0).ended found.0 found.1 in
              let end = comes.is_halted.left in
              let one : machine comes.count ≡ machine k =
              halted_once script start k comes.count halted end.status_is in
              let is : IsHalted loaded found.0 (machine k) =
              subst (IsHalted loaded found.0) one comes.is_halted in
              (ended.0, found.0, found.1, is.left.events_are, holds found.0 (machine k) is);
        }
