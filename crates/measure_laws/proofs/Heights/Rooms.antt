-- Items that find room, one after another.
use Rattle.measure_laws.proofs.Prelude.{ℕ, List, ◌++◌, sym, subst, append_assoc, Item, TreeModule, module_call_items, BranchThere, ByteDropped, BytesDropped, CallThere, FindsRoom, HaltThere, InstructionThere, JumpThere, LabelThere, NothingThere, PopThere, PushThere, ReturnThere, RoutineThere, TableJumpThere, WordThere}

-- items after others
pub room_joined :
    {tree : TreeModule} {level free middle after : ℕ} {first more : List Item}
    → FindsRoom tree level free first middle
    → FindsRoom tree level middle more after
    → FindsRoom tree level free (first ++ more) after
room_joined NothingThere two = two
room_joined (PushThere enough one) two = PushThere enough (room_joined one two)
room_joined (PopThere one) two = PopThere (room_joined one two)
room_joined {tree = tree} {level = level} {free = free} {after = after} {more = more}
    (CallThere {others = others} procedure enough one) two =
    subst (λ (list : List Item). FindsRoom tree level free list after)
    (sym (append_assoc (module_call_items tree procedure) others more))
    (CallThere procedure enough (room_joined one two))
room_joined (RoutineThere routine enough one) two = RoutineThere routine enough (room_joined one two)
room_joined (ByteDropped one) two = ByteDropped (room_joined one two)
room_joined (BytesDropped small one) two = BytesDropped small (room_joined one two)
room_joined (InstructionThere kept one) two = InstructionThere kept (room_joined one two)
room_joined (WordThere kept one) two = WordThere kept (room_joined one two)
room_joined (JumpThere enough one) two = JumpThere enough (room_joined one two)
room_joined (BranchThere enough one) two = BranchThere enough (room_joined one two)
room_joined (TableJumpThere enough one) two = TableJumpThere enough (room_joined one two)
room_joined (ReturnThere one) two = ReturnThere (room_joined one two)
room_joined (HaltThere one) two = HaltThere (room_joined one two)
room_joined (LabelThere enough one) two = LabelThere enough (room_joined one two)
