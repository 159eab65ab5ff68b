-- What an event changes in a node, one register, stack or cell at a time: what each change leaves of the node as the F18A
-- Technology Reference (DB001) describes it.
use Rattle.std.specs.Prelude.{ℕ, ◌+◌, Bool, List, [], ◌∷◌, min, slice_set}
use Rattle.ga_stacks.specs.Ring.{words_after_push, data_stack_after_pop, return_stack_after_pop, words_with_top}
use Rattle.ga_node.specs.Record.{NodeRecord}
use Rattle.ga_node.specs.declared.wait.Wait.{Wait}

pub data NodeChange : Type 0 where
  PushData : ℕ → NodeChange
  PopData : NodeChange
  -- T gets this word
  SetTop : ℕ → NodeChange
  -- the data stack is popped, and then T gets this word
  PopThenSetTop : ℕ → NodeChange
  PushReturn : ℕ → NodeChange
  PopReturn : NodeChange
  -- R gets this word
  SetTopReturn : ℕ → NodeChange
  SetP : ℕ → NodeChange
  SetA : ℕ → NodeChange
  SetB : ℕ → NodeChange
  SetI : ℕ → NodeChange
  SetIo : ℕ → NodeChange
  SetCarry : Bool → NodeChange
  -- a cell of RAM gets a word
  SetRam : ℕ → ℕ → NodeChange
  -- slot 0 to 2 becomes the next, 3 becomes 4, and 4 stays
  AdvanceSlot : NodeChange
  -- the rest of the word is passed over
  SkipRestOfWord : NodeChange
  -- back to the first slot
  ReturnToFirstSlot : NodeChange
  SetWait : Wait → NodeChange
  SetStop : ℕ → NodeChange

-- the node after a change
abbrev pub node_after_change : NodeChange → NodeRecord → NodeRecord
node_after_change (PushData word) n = record n { d = words_after_push word n.d }
node_after_change PopData n = record n { d = data_stack_after_pop n.d }
node_after_change (SetTop word) n = record n { d = words_with_top word n.d }
node_after_change (PopThenSetTop word) n = record n { d = words_with_top word (data_stack_after_pop n.d) }
node_after_change (PushReturn word) n = record n { r = words_after_push word n.r }
node_after_change PopReturn n = record n { r = return_stack_after_pop n.r }
node_after_change (SetTopReturn word) n = record n { r = words_with_top word n.r }
node_after_change (SetP address) n = record n { p = address }
node_after_change (SetA word) n = record n { a = word }
node_after_change (SetB address) n = record n { b = address }
node_after_change (SetI word) n = record n { i = word }
node_after_change (SetIo word) n = record n { io = word }
node_after_change (SetCarry bit) n = record n { carry = bit }
node_after_change (SetRam cell word) n = record n { ram = slice_set n.ram cell word }
node_after_change AdvanceSlot n = record n { slot = min (n.slot + 1) 4 }
node_after_change SkipRestOfWord n = record n { slot = 4 }
node_after_change ReturnToFirstSlot n = record n { slot = 0 }
node_after_change (SetWait wait) n = record n { wait = wait }
node_after_change (SetStop code) n = record n { stop = code }

-- the node after some changes, the first of them first
abbrev pub node_after_changes : List NodeChange → NodeRecord → NodeRecord
node_after_changes [] n = n
node_after_changes (change ∷ rest) n = node_after_changes rest (node_after_change change n)
