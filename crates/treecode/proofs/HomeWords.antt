-- The numbers of homes have 16 bits: of none, and after one more.
use Rattle.treecode.proofs.Prelude.{◌≡◌, zero, suc, List, [], ◌∷◌, ◌++◌, sym, subst, arith, Home, HomeIsWord, HomesAreWords}

pub no_homes : (homes : List Home) → homes ≡ [] → HomesAreWords homes
no_homes homes empty = subst HomesAreWords (sym empty) (λ object number is. subst HomeIsWord is (omega arith))

module _ (home : Home) (word : HomeIsWord home) where
  grown : (homes : List Home) → HomesAreWords homes → HomesAreWords (homes ++ home ∷ [])
  grown [] words zero number is = subst HomeIsWord is word
  grown [] words (suc object) number is = subst HomeIsWord is (omega arith)
  grown (first ∷ others) words zero number is = words zero number is
  grown (first ∷ others) words (suc object) number is =
      grown others (λ other of_other same. words (suc other) of_other same) object number is

pub one_home_more : (old new : List Home) (home : Home)
    → HomesAreWords old
    → HomeIsWord home
    → new ≡ old ++ home ∷ []
    → HomesAreWords new
one_home_more old new home words word is = subst HomesAreWords (sym is) (grown home word old words)
