-- A module whose objects get their homes, one by one.
use Rattle.treecode.proofs.Prelude.{◌≡◌, List, [], ◌∷◌, ◌++◌, sym, ap, ◌∙◌, Home, TreeModule, Heading, PlacedSoFar, headings_of, placed_in}
use Rattle.treecode.proofs.SameTraits.{same_of_both}

module _ (old between new : TreeModule)
    (first : between ≡ record old { procedures = between.procedures })
    (second : new ≡ record between { homes = new.homes; homes_are_words = new.homes_are_words })
  where
    -- the frames get a variable, and then the homes get one more
    pub home_kept :
        new
        ≡ record old {
          homes = new.homes;
          procedures = new.procedures;
          homes_are_words = new.homes_are_words;
        }
    home_kept =
        second
        ∙ ap (λ (tree : TreeModule). record tree { homes = new.homes; homes_are_words = new.homes_are_words })
        first
        ∙ ap
        (λ procedures.
        record old {
          homes = new.homes;
          procedures = procedures;
          homes_are_words = new.homes_are_words;
        })
        (sym (ap (λ (tree : TreeModule). tree.procedures) second))

    pub home_placed :
        (home at : Home) (headings : List Heading)
        → new.homes.items ≡ between.homes.items ++ home ∷ []
        → home ≡ at
        → headings_of between ≡ headings
        → placed_in new ≡ record { homes = old.homes.items ++ at ∷ []; headings = headings }
    home_placed home at headings more is are =
        let make : List Home → List Heading → PlacedSoFar =
        λ homes headings. record { homes = homes; headings = headings } in
        same_of_both make
        (more
        ∙ ap (λ (tree : TreeModule). tree.homes.items ++ home ∷ []) first
        ∙ ap (λ last. old.homes.items ++ last ∷ []) is)
        (ap headings_of second ∙ are)

-- homes and frames are added, and then more of them
pub kept_again :
    (first second third : TreeModule)
    → second
    ≡ record first {
      homes = second.homes;
      procedures = second.procedures;
      homes_are_words = second.homes_are_words;
    }
    → third
    ≡ record second {
      homes = third.homes;
      procedures = third.procedures;
      homes_are_words = third.homes_are_words;
    }
    → third
    ≡ record first {
      homes = third.homes;
      procedures = third.procedures;
      homes_are_words = third.homes_are_words;
    }
kept_again first second third one two =
    two
    ∙ ap
    (λ (tree : TreeModule).
    record tree {
      homes = third.homes;
      procedures = third.procedures;
      homes_are_words = third.homes_are_words;
    })
    one
