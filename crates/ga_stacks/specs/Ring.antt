-- The stacks of the F18A Technology Reference (DB001): as they are stored, in registers, eight cells in a ring and a pointer,
-- and as lists of words, the top first: ten words of data, nine of returns.
use Rattle.std.specs.Prelude.{ℕ, List, [], ◌∷◌, ◌++◌, take, drop, slice_index, length, replicate}

-- The newest of the cells is the one at the pointer, and the older ones follow it around the ring.
pub record StackRing : Type 0 where
  pub registers : List ℕ
  pub cells : List ℕ
  pub pointer : ℕ

-- a stack's words, the top first
abbrev pub words_of_stack : StackRing → List ℕ
words_of_stack ring = ring.registers ++ drop ring.pointer ring.cells ++ take ring.pointer ring.cells

-- the list after a push: the word in front, and the last word dropped
abbrev pub words_after_push : ℕ → List ℕ → List ℕ
words_after_push word words = take (length words) (word ∷ words)

-- the list after a pop that copies the word at a place: the first removed, and that word appended
abbrev pub words_after_pop : ℕ → List ℕ → List ℕ
words_after_pop copied words = drop 1 words ++ slice_index words copied ∷ []

-- the data stack after a pop: the word that was third comes last
abbrev pub data_stack_after_pop : List ℕ → List ℕ
data_stack_after_pop = words_after_pop 2

-- the return stack after a pop: the word that was second comes last
abbrev pub return_stack_after_pop : List ℕ → List ℕ
return_stack_after_pop = words_after_pop 1

-- the list with another first word
abbrev pub words_with_top : ℕ → List ℕ → List ℕ
words_with_top word words = word ∷ drop 1 words

-- what each word of a stack is before anything is pushed
abbrev pub initial_stack_word : ℕ
initial_stack_word = 0x15555

-- a stack with this number of registers before anything is pushed
abbrev pub initial_stack_ring : ℕ → StackRing
initial_stack_ring registers = record { registers = replicate registers initial_stack_word; cells = replicate 8 initial_stack_word; pointer = 0 }
