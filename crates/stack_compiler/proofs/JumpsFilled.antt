-- Jumps that are filled in after the code that they pass over.
use Rattle.stack_compiler.proofs.Prelude.{◌≡◌, ℕ, suc, ◌+◌, ◌-◌, List, [], ◌∷◌, ◌++◌, length, set, None, Some, ap, sym, ◌∙◌, arith, append-nil, append_assoc, length-append, set-append_seam, refl, Instruction, Drop, Jump, JumpUnless, LoopBack, Step, TypedHead, TypedIteration, TypedList, LoopStatement, Site, ToRead, ToWrite, choice_code, first_code, list_code, loop_code, statement_code, step_code, test_code, value_or, variable_code, passing}
use Rattle.typed_trees.specs.TypedTrees.{CountHead}
use Rattle.stack_compiler.specs.internal.Loops.{stepping_code, turn_ended, turned_back}

after_hole : (front body : List Instruction) (hole : Instruction) (at : ℕ) → at ≡ length front
    → length (front ++ (hole ∷ body)) - (at + 1) ≡ length body
after_hole front body hole at is = omega (arith, length-append front (hole ∷ body))

-- a hole after some code is filled with a jump over the code after it
pub filled : (make : ℕ → Instruction) (front body all new : List Instruction) (hole : Instruction) (at : ℕ)
    → at ≡ length front
    → all ≡ front ++ (hole ∷ body) → new ≡ set all at (make (length all - (at + 1)))
    → new ≡ front ++ (make (length body) ∷ body)
filled make front body all new hole at is given made =
    made
    ∙ ap (λ code. set code at (make (length code - (at + 1)))) given
    ∙ ap (λ count. set (front ++ (hole ∷ body)) at (make count)) (after_hole front body hole at is)
    ∙ ap (λ place. set (front ++ (hole ∷ body)) place (make (length body))) is
    ∙ set-append_seam front hole body (make (length body))

with_hole : (front a b body : List Instruction) (hole : Instruction) → a ≡ front ++ (hole ∷ [])
    → b ≡ a ++ body → b ≡ front ++ (hole ∷ body)
with_hole front a b body hole one two =
    two ∙ ap (λ code. code ++ body) one ∙ append_assoc front (hole ∷ []) body

pub if_without : (old a b c new condition body : List Instruction) (choice : ℕ) → a ≡ old ++ condition
    → choice ≡ length a → b ≡ a ++ (JumpUnless 0 ∷ []) → c ≡ b ++ body
    → new ≡ set c choice (JumpUnless (length c - (choice + 1)))
    → new ≡ old ++ (condition ++ choice_code body None)
if_without old a b c new condition body choice one at two three four =
    filled JumpUnless a body c new (JumpUnless 0) choice at
    (with_hole a b c body (JumpUnless 0) two three) four
    ∙ ap (λ code. code ++ (JumpUnless (length body) ∷ body)) one
    ∙ append_assoc old condition (JumpUnless (length body) ∷ body)

-- the length of code with one instruction more
one_more : (body : List Instruction) (last : Instruction) → length (body ++ (last ∷ [])) ≡ length body + 1
one_more body last = length-append body (last ∷ [])

module _ (old a b c d e f new condition body other : List Instruction) (choice end : ℕ)
    (one : a ≡ old ++ condition) (at : choice ≡ length a) (two : b ≡ a ++ (JumpUnless 0 ∷ []))
    (three : c ≡ b ++ body)
    (at_end : end ≡ length c) (four : d ≡ c ++ (Jump 0 ∷ []))
    (five : e ≡ set d choice (JumpUnless (length d - (choice + 1))))
    (six : f ≡ e ++ other) (seven : new ≡ set f end (Jump (length f - (end + 1)))) where
  abbrev chosen : List Instruction
  chosen = a ++ (JumpUnless (length body + 1) ∷ body)

  d_is : d ≡ a ++ (JumpUnless 0 ∷ (body ++ (Jump 0 ∷ [])))
  d_is = four ∙ ap (λ code. code ++ (Jump 0 ∷ [])) (with_hole a b c body (JumpUnless 0) two three)
      ∙ append_assoc a (JumpUnless 0 ∷ body) (Jump 0 ∷ [])

  e_is : e ≡ chosen ++ (Jump 0 ∷ [])
  e_is =
      filled JumpUnless a (body ++ (Jump 0 ∷ [])) d e (JumpUnless 0) choice at d_is five
      ∙ ap (λ count. a ++ (JumpUnless count ∷ (body ++ (Jump 0 ∷ [])))) (one_more body (Jump 0))
      ∙ sym (append_assoc a (JumpUnless (length body + 1) ∷ body) (Jump 0 ∷ []))

  c_length : end ≡ length chosen
  c_length =
      at_end ∙ ap length (with_hole a b c body (JumpUnless 0) two three)
      ∙ length-append a (JumpUnless 0 ∷ body) ∙ sym (length-append a (JumpUnless (length body + 1) ∷ body))

  pub if_with : new ≡ old ++ (condition ++ choice_code body (Some other))
  if_with =
      filled Jump chosen other f new (Jump 0) end c_length
      (with_hole chosen e f other (Jump 0) e_is six) seven
      ∙ append_assoc a (JumpUnless (length body + 1) ∷ body) (Jump (length other) ∷ other)
      ∙ ap (λ code. code ++ (JumpUnless (length body + 1) ∷ (body ++ (Jump (length other) ∷ other)))) one
      ∙ append_assoc old condition (JumpUnless (length body + 1) ∷ (body ++ (Jump (length other) ∷ other)))

module _ (old a b c d new body test : List Instruction) (start count : ℕ) (at : start ≡ length old)
    (one : a ≡ old ++ (Jump 0 ∷ [])) (two : b ≡ a ++ body)
    (three : c ≡ set b start (Jump (length b - (start + 1)))) (four : d ≡ c ++ test)
    (five : count ≡ length d - (start + 1)) (six : new ≡ d ++ (LoopBack count ∷ [])) where
  tested_d : d ≡ old ++ (Jump (length body) ∷ (body ++ test))
  tested_d =
      four
      ∙ ap (λ code. code ++ test)
      (filled Jump old body b c (Jump 0) start at (with_hole old a b body (Jump 0) one two) three)
      ∙ append_assoc old (Jump (length body) ∷ body) test

  tested_count : count ≡ length body + length test
  tested_count =
      five ∙ ap (λ code. length code - (start + 1)) tested_d
      ∙ after_hole old (body ++ test) (Jump (length body)) start at ∙ length-append body test

  tested_made : new ≡ old ++ (Jump (length body) ∷ loop_code body test)
  tested_made =
      six
      ∙ ap (λ code. code ++ (LoopBack count ∷ [])) tested_d
      ∙ append_assoc old (Jump (length body) ∷ (body ++ test)) (LoopBack count ∷ [])
      ∙ ap (λ code. old ++ (Jump (length body) ∷ code)) (append_assoc body test (LoopBack count ∷ []))
      ∙ ap (λ passed. old ++ (Jump (length body) ∷ (body ++ (test ++ (LoopBack passed ∷ []))))) tested_count

module _ (old a b c d e f g h new first body stepping last : List Instruction) (start leave count : ℕ)
    (one : a ≡ old ++ first) (at : start ≡ length a) (two : b ≡ a ++ (Jump 0 ∷ [])) (three : c ≡ b ++ body)
    (four : d ≡ c ++ stepping)
    (at_leave : leave ≡ length d) (five : e ≡ d ++ (JumpUnless 0 ∷ []))
    (six : f ≡ set e start (Jump (length e - (start + 1)))) (seven : g ≡ f ++ last)
    (counted : count ≡ length g - (start + 1)) (eight : h ≡ g ++ (LoopBack count ∷ []))
    (nine : new ≡ set h leave (JumpUnless (length h - (leave + 1)))) where
  abbrev turn : List Instruction
  turn = body ++ stepping

  -- the step with its jump
  abbrev step_with : (passed : ℕ) → List Instruction
  step_with passed = stepping ++ (JumpUnless passed ∷ [])

  d_turn : d ≡ a ++ (Jump 0 ∷ turn)
  d_turn =
      four ∙ ap (λ code. code ++ stepping) (with_hole a b c body (Jump 0) two three)
      ∙ append_assoc a (Jump 0 ∷ body) stepping

  e_turn : e ≡ a ++ (Jump 0 ∷ (turn ++ (JumpUnless 0 ∷ [])))
  e_turn =
      five ∙ ap (λ code. code ++ (JumpUnless 0 ∷ [])) d_turn
      ∙ append_assoc a (Jump 0 ∷ turn) (JumpUnless 0 ∷ [])

  abbrev front : List Instruction
  front = a ++ (Jump (length turn + 1) ∷ turn)

  f_turn : f ≡ front ++ (JumpUnless 0 ∷ [])
  f_turn =
      filled Jump a (turn ++ (JumpUnless 0 ∷ [])) e f (Jump 0) start at e_turn six
      ∙ ap (λ passed. a ++ (Jump passed ∷ (turn ++ (JumpUnless 0 ∷ [])))) (one_more turn (JumpUnless 0))
      ∙ sym (append_assoc a (Jump (length turn + 1) ∷ turn) (JumpUnless 0 ∷ []))

  g_turn : g ≡ front ++ (JumpUnless 0 ∷ last)
  g_turn = with_hole front f g last (JumpUnless 0) f_turn seven

  h_turn : h ≡ front ++ (JumpUnless 0 ∷ (last ++ (LoopBack count ∷ [])))
  h_turn =
      eight ∙ ap (λ code. code ++ (LoopBack count ∷ [])) g_turn
      ∙ append_assoc front (JumpUnless 0 ∷ last) (LoopBack count ∷ [])

  leave_is : leave ≡ length front
  leave_is =
      at_leave ∙ ap length d_turn ∙ length-append a (Jump 0 ∷ turn)
      ∙ sym (length-append a (Jump (length turn + 1) ∷ turn))

  new_turn : new ≡ front ++ (JumpUnless (length last + 1) ∷ (last ++ (LoopBack count ∷ [])))
  new_turn =
      filled JumpUnless front (last ++ (LoopBack count ∷ [])) h new (JumpUnless 0) leave leave_is h_turn nine
      ∙ ap (λ passed. front ++ (JumpUnless passed ∷ (last ++ (LoopBack count ∷ []))))
      (one_more last (LoopBack count))

  abbrev stepped : List Instruction
  stepped = step_with (length last + 1)

  turn_stepped : (passed : ℕ) → turn ++ (JumpUnless passed ∷ []) ≡ body ++ step_with passed
  turn_stepped passed = append_assoc body stepping (JumpUnless passed ∷ [])

  turn_length : length turn + 1 ≡ length (body ++ stepped)
  turn_length =
      sym (one_more turn (JumpUnless (length last + 1))) ∙ ap length (turn_stepped (length last + 1))

  count_is : count ≡ length (body ++ stepped) + length last
  count_is =
      counted ∙ ap (λ code. length code - (start + 1))
      (g_turn ∙ append_assoc a (Jump (length turn + 1) ∷ turn) (JumpUnless 0 ∷ last))
      ∙ after_hole a (turn ++ (JumpUnless 0 ∷ last)) (Jump (length turn + 1)) start at
      ∙ length-append turn (JumpUnless 0 ∷ last)
      ∙ sum_is (length turn) (length last) (length (body ++ stepped)) turn_length
    where
      sum_is : (m n k : ℕ) → m + 1 ≡ k → m + suc n ≡ k + n
      sum_is m n k is = omega arith

  iterate_code : new
      ≡ old ++ (first ++ (Jump (length (body ++ stepped)) ∷ loop_code (body ++ stepped) last))
  iterate_code =
      new_turn
      ∙ append_assoc a (Jump (length turn + 1) ∷ turn)
      (JumpUnless (length last + 1) ∷ (last ++ (LoopBack count ∷ [])))
      ∙ ap (λ code. a ++ (Jump (length turn + 1) ∷ code))
      (sym (append_assoc turn (JumpUnless (length last + 1) ∷ []) (last ++ (LoopBack count ∷ [])))
      ∙ ap (λ code. code ++ (last ++ (LoopBack count ∷ []))) (turn_stepped (length last + 1)))
      ∙ ap (λ passed. a ++ (Jump passed ∷ ((body ++ stepped) ++ (last ++ (LoopBack count ∷ []))))) turn_length
      ∙ ap (λ passed. a ++ (Jump (length (body ++ stepped))
      ∷ ((body ++ stepped) ++ (last ++ (LoopBack passed ∷ []))))) count_is
      ∙ ap (λ code. code ++ (Jump (length (body ++ stepped)) ∷ loop_code (body ++ stepped) last)) one
      ∙ append_assoc old first (Jump (length (body ++ stepped)) ∷ loop_code (body ++ stepped) last)

-- the step with its jump
stepped_is : (site : Site) (head : TypedIteration)
    → stepping_code site head ++ (JumpUnless (length (test_code site (CountHead head)) + 1) ∷ [])
    ≡ step_code site head
stepped_is site head =
    append_assoc (value_or site 1 head.step)
    (variable_code site (ToRead head.scalar) head.variable ∷ Step head.scalar
    ∷ variable_code site (ToWrite head.scalar) head.variable ∷ Drop ∷ [])
    (JumpUnless (length (test_code site (CountHead head)) + 1) ∷ [])

pub loop_made : (site : Site) (head : TypedHead) (body : TypedList) (old a b c : List Instruction) (start : ℕ)
    → a ≡ old ++ first_code site head → start ≡ length a → b ≡ a ++ (Jump 0 ∷ [])
    → c ≡ b ++ list_code site body
    → turn_ended site head c start ≡ old ++ statement_code site (LoopStatement head body)
loop_made site (CountHead head) body old a b c start one at two three =
    let test : List Instruction = test_code site (CountHead head) in
    let d : List Instruction = c ++ stepping_code site head in
    let e : List Instruction = d ++ (JumpUnless 0 ∷ []) in
    let g : List Instruction = passing e start ++ test in
    iterate_code old a b c d e (passing e start) g (turned_back g start)
    (turn_ended site (CountHead head) c start) (first_code site (CountHead head)) (list_code site body)
    (stepping_code site head) test start (length d) (length g - (start + 1)) one at two three
    refl refl refl refl refl refl refl refl
    ∙ ap (λ step. old ++ (first_code site (CountHead head)
    ++ (Jump (length (list_code site body ++ step)) ∷ loop_code (list_code site body ++ step) test)))
    (stepped_is site head)
loop_made site head body old a b c start one at two three =
    let test : List Instruction = test_code site head in
    let d : List Instruction = passing c start ++ test in
    tested_made a b c (passing c start) d (turned_back d start) (list_code site body) test start
    (length d - (start + 1)) at two three refl refl refl refl
    ∙ ap (λ code. code ++ (Jump (length (list_code site body)) ∷ loop_code (list_code site body) test))
    (one ∙ append-nil old)
