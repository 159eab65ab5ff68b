-- What flows into each part of a node in an event.
use Rattle.std.proofs.Common.{◌≡◌, ℕ, ◌+◌, ◌-◌, ◌/◌, ◌%◌, ◌^◌, ◌==◌, Bool, true, false, cond, List, [], ◌∷◌, ◌++◌, nat_le, refl, sym, ap, ◌∙◌, subst, bit_and, bit_xor}
use Rattle.ga_word.specs.Word.{word_modulus, carry_value, doubled_word, halved_word, multiply_step_sum, multiply_step_t, multiply_step_a}
use Rattle.ga_slots.specs.Slots.{target, opcode}
use Rattle.ga_slots.specs.Codes.{code_of_opcode}
use Rattle.ga_slots.specs.declared.op.Op.{Op}
use Rattle.ga_slots.specs.declared.op.Op.TheVariants as op
use Rattle.ga_ports.specs.Address.{address_target, advanced_address, is_single_side_set, side_of_single_set}
use Rattle.ga_ports.specs.declared.address.AddressTarget.{AddressTarget}
use Rattle.ga_ports.specs.declared.address.AddressTarget.TheVariants.{Ram, Rom, Io, Ports, Bad}
use Rattle.ga_node.specs.Record.{NodeRecord, HasValidListSizes}
use Rattle.ga_node.specs.Io.{io_word}
use Rattle.ga_node.specs.Changes.{NodeChange, node_after_changes}
use Rattle.ga_node.specs.Changes as change
use Rattle.ga_node.specs.Table.{register_t, register_r, wait_effect, stop_effect, target_read_result, target_write_result, access_with_following_changes, own_event_after_access, changes_or_event_of_opcode, has_extended_arithmetic, next_action_of_node, event_kind_and_changes_of_action, own_event, own, sent, taken, take_changes}
use Rattle.ga_event.specs.Flow.{ValueFlow, CopiedFromPart, From, FlowChange, top_data_part, second_data_part, top_return_part, node_part_value, IsNodePartInRange, flows_after_changes, flow_from_part, read_flow_changes, write_flow_changes, opcode_flow_changes, action_flow_changes, take_flow_changes, flow_of_own_event, flow_after_send, flow_after_take, deciding_test_or_target, deciding_target, deciding_test_holds, HaveSameNextAction, AreBothValuesFromFlow, deciding_parts, AreNodesAlikeAtParts}
use Rattle.ga_event.specs.declared.flow.part.NodePart.{NodePart}
use Rattle.ga_event.specs.declared.flow.part.NodePart.TheVariants.{Ram as OfRam, Rom as OfRom, A as OfA, P as OfP, I as OfI, Carry as OfCarry, Slot as OfSlot, OutsideWord}
use Rattle.ga_event.specs.Flow as move
use Rattle.ga_node.specs.declared.seen.SeenNeighbours.{SeenNeighbours}
use Rattle.ga_node.specs.declared.kind.OwnEventKind.{OwnEventKind}
use Rattle.ga_node.specs.declared.kind.OwnEventKind.TheVariants as kind
use Rattle.ga_node.specs.declared.due.NextAction.{NextAction}
use Rattle.ga_node.specs.declared.due.NextAction.TheVariants as due
use Rattle.ga_node.specs.declared.wait.Wait.{Wait}
use Rattle.ga_node.specs.declared.wait.Wait.TheVariants as wait
use Rattle.ga_node.specs.declared.wait.ReadKind.{ReadKind}
use Rattle.ga_node.specs.declared.wait.ReadKind.TheVariants.{Instruction, Stack}
use Rattle.ga_event.proofs.Tracks.{push_data, pop_data, set_top, pop_to, push_return, pop_return, set_top_return, set_p, set_a, set_b, set_i, set_io, set_carry, set_ram, go_on, skip, start_again, set_wait, set_stop, AreMoves, none, then, comes_after, sizes_after}
use Rattle.ga_event.specs.declared.flow.choice.DecidingTestOrTarget.TheVariants.{TestResult, TargetChoice}

abbrev posts_to : ℕ → OwnEventKind × List NodeChange
posts_to sides = wait_effect (wait.Write (side_of_single_set sides))

module _ (seen other : SeenNeighbours) (n m : NodeRecord) where
  -- what comes from there at the start of an event of both nodes
  abbrev Source : ValueFlow → ℕ → ℕ → Type 0
  Source flow x y = AreBothValuesFromFlow (io_word seen) n (io_word other) m flow x y

  abbrev at_n : NodePart → ℕ
  at_n = node_part_value (io_word seen) n

  abbrev at_m : NodePart → ℕ
  at_m = node_part_value (io_word other) m

  -- the moves of two changes, the same in both
  abbrev Rows : List FlowChange → List NodeChange → List NodeChange → Type 0
  Rows = AreMoves (io_word seen) n (io_word other) m

  -- two events of one kind with these moves
  abbrev IsRow : List FlowChange → OwnEventKind × List NodeChange → OwnEventKind × List NodeChange → Type 0
  IsRow mvs x y = (x.0 ≡ y.0) × Rows mvs x.1 y.1

  from_one : (g : ℕ → ℕ) (a : NodePart) → Source (flow_from_part a) (g (at_n a)) (g (at_m a))
  from_one g a agree = ap g agree.0

  from_two : (g : ℕ → ℕ → ℕ) (a b : NodePart) → Source (From (a ∷ b ∷ [])) (g (at_n a) (at_n b)) (g (at_m a) (at_m b))
  from_two g a b agree = ap (λ v. g v (at_n b)) agree.0 ∙ ap (g (at_m a)) agree.1.0

  from_three : (g : ℕ → ℕ → ℕ → ℕ) (a b c : NodePart) → Source (From (a ∷ b ∷ c ∷ [])) (g (at_n a) (at_n b) (at_n c)) (g (at_m a) (at_m b) (at_m c))
  from_three g a b c agree = ap (λ v. g v (at_n b) (at_n c)) agree.0 ∙ ap (λ v. g (at_m a) v (at_n c)) agree.1.0 ∙ ap (g (at_m a) (at_m b)) agree.1.1.0

  -- the last change of most opcodes
  goes_on : Rows (move.AdvanceSlot ∷ []) (change.AdvanceSlot ∷ []) (change.AdvanceSlot ∷ [])
  goes_on = then go_on none

  skips : Rows (move.SkipRestOfWord ∷ []) (change.SkipRestOfWord ∷ []) (change.SkipRestOfWord ∷ [])
  skips = then skip none

  jump_row : Rows move.jump_flow_changes (change.SetP (target n.p n.i n.slot) ∷ change.SkipRestOfWord ∷ []) (change.SetP (target m.p m.i m.slot) ∷ change.SkipRestOfWord ∷ [])
  jump_row = then (set_p (from_three target OfP OfI OfSlot)) skips

  either : (b c : Bool) (p q : List FlowChange) (x x' y y' : List NodeChange) → b ≡ c → Rows p x y → Rows q x' y' → Rows (cond b p q) (cond b x x') (cond c y y')
  either b c p q x x' y y' e where_so else_so = subst (λ c. Rows (cond b p q) (cond b x x') (cond c y y')) e (same b)
    where
      same : (b : Bool) → Rows (cond b p q) (cond b x x') (cond b y y')
      same true = where_so
      same false = else_so

  read_row : (a b : AddressTarget) (reader : ReadKind) (k : OwnEventKind) (mvs : ValueFlow → List FlowChange) (xs ys : ℕ → List NodeChange) → a ≡ b
      → ((flow : ValueFlow) (x y : ℕ) → Source flow x y → Rows (mvs flow) (xs x) (ys y))
      → IsRow (read_flow_changes a mvs) (own_event_after_access k (access_with_following_changes (target_read_result a reader seen n) xs)) (own_event_after_access k (access_with_following_changes (target_read_result b reader other m) ys))
  unfolding target_read_result access_with_following_changes
  read_row a b reader k mvs xs ys e rows = subst (λ b. IsRow (read_flow_changes a mvs) (own_event_after_access k (access_with_following_changes (target_read_result a reader seen n) xs)) (own_event_after_access k (access_with_following_changes (target_read_result b reader other m) ys))) e (same a)
    where
      same : (a : AddressTarget) → IsRow (read_flow_changes a mvs) (own_event_after_access k (access_with_following_changes (target_read_result a reader seen n) xs)) (own_event_after_access k (access_with_following_changes (target_read_result a reader other m) ys))
      same (Ram cell) = (refl, rows (CopiedFromPart (OfRam cell)) _ _ (refl, refl))
      same (Rom cell) = (refl, rows (CopiedFromPart (OfRom cell)) _ _ (refl, refl))
      same Io = (refl, rows (CopiedFromPart OutsideWord) _ _ (refl, refl))
      same (Ports sides) = (refl, then set_wait none)
      same Bad = (refl, then set_stop none)

  write_row : (a b : AddressTarget) (k : OwnEventKind) (mvs : List FlowChange) (xs ys : List NodeChange) → a ≡ b → Rows mvs xs ys
      → IsRow (write_flow_changes a mvs) (own_event_after_access k (access_with_following_changes (target_write_result a n) (λ changes. changes ++ xs))) (own_event_after_access k (access_with_following_changes (target_write_result b m) (λ changes. changes ++ ys)))
  unfolding target_write_result access_with_following_changes
  write_row a b k mvs xs ys e rows = subst (λ b. IsRow (write_flow_changes a mvs) (own_event_after_access k (access_with_following_changes (target_write_result a n) (λ changes. changes ++ xs))) (own_event_after_access k (access_with_following_changes (target_write_result b m) (λ changes. changes ++ ys)))) e (same a)
    where
      ended : (single : Bool) (sides : ℕ) → IsRow (cond single (move.SetWait ∷ []) (move.SetStop ∷ [])) (cond single (posts_to sides) (stop_effect 1)) (cond single (posts_to sides) (stop_effect 1))
      ended true sides = (refl, then set_wait none)
      ended false sides = (refl, then set_stop none)

      same : (a : AddressTarget) → IsRow (write_flow_changes a mvs) (own_event_after_access k (access_with_following_changes (target_write_result a n) (λ changes. changes ++ xs))) (own_event_after_access k (access_with_following_changes (target_write_result a m) (λ changes. changes ++ ys)))
      same (Ram cell) = (refl, then (set_ram (refl, refl)) rows)
      same (Rom cell) = (refl, rows)
      same Io = (refl, then (set_io (refl, refl)) rows)
      same (Ports sides) = ended (is_single_side_set sides) sides
      same Bad = (refl, then set_stop none)

  effect_row : (op : Op) → deciding_test_or_target (due.Run op) n ≡ deciding_test_or_target (due.Run op) m → (k : OwnEventKind) → IsRow (opcode_flow_changes op n) (own_event_after_access k (changes_or_event_of_opcode op seen n)) (own_event_after_access k (changes_or_event_of_opcode op other m))
  effect_row op.Return e k = (refl, then (set_p (from_one (λ v. v % 2 ^ 10) top_return_part)) (then pop_return skips))
  effect_row op.Execute e k = (refl, then (set_p (from_one (λ v. v % 2 ^ 10) top_return_part)) (then (set_top_return (refl, refl)) skips))
  effect_row op.Jump e k = (refl, jump_row)
  effect_row op.Call e k = (refl, then (push_return (refl, refl)) jump_row)
  effect_row op.Unext e k = (refl, either (register_r n == 0) (register_r m == 0) _ _ _ _ _ _ (ap deciding_test_holds e) (then pop_return goes_on) (then (set_top_return (from_one (λ v. v - 1) top_return_part)) (then start_again none)))
  effect_row op.Next e k = (refl, either (register_r n == 0) (register_r m == 0) _ _ _ _ _ _ (ap deciding_test_holds e) (then pop_return skips) (then (set_top_return (from_one (λ v. v - 1) top_return_part)) jump_row))
  effect_row op.If e k = (refl, either (register_t n == 0) (register_t m == 0) _ _ _ _ _ _ (ap deciding_test_holds e) jump_row skips)
  effect_row op.MinusIf e k = (refl, either (register_t n / 2 ^ 17 == 0) (register_t m / 2 ^ 17 == 0) _ _ _ _ _ _ (ap deciding_test_holds e) jump_row skips)
  effect_row op.FetchP e k = read_row (address_target n.p) (address_target m.p) Stack k _ _ _ (ap deciding_target e) (λ flow x y comes. then (push_data comes) (then (set_p (from_one advanced_address OfP)) goes_on))
  effect_row op.FetchPlus e k = read_row (address_target n.a) (address_target m.a) Stack k _ _ _ (ap deciding_target e) (λ flow x y comes. then (push_data comes) (then (set_a (from_one advanced_address OfA)) goes_on))
  effect_row op.FetchB e k = read_row (address_target n.b) (address_target m.b) Stack k _ _ _ (ap deciding_target e) (λ flow x y comes. then (push_data comes) goes_on)
  effect_row op.Fetch e k = read_row (address_target n.a) (address_target m.a) Stack k _ _ _ (ap deciding_target e) (λ flow x y comes. then (push_data comes) goes_on)
  effect_row op.StoreP e k = write_row (address_target n.p) (address_target m.p) k _ _ _ (ap deciding_target e) (then pop_data (then (set_p (from_one advanced_address OfP)) goes_on))
  effect_row op.StorePlus e k = write_row (address_target n.a) (address_target m.a) k _ _ _ (ap deciding_target e) (then pop_data (then (set_a (from_one advanced_address OfA)) goes_on))
  effect_row op.StoreB e k = write_row (address_target n.b) (address_target m.b) k _ _ _ (ap deciding_target e) (then pop_data goes_on)
  effect_row op.Store e k = write_row (address_target n.a) (address_target m.a) k _ _ _ (ap deciding_target e) (then pop_data goes_on)
  effect_row op.MultiplyStep e k =
      (refl, then (set_a (from_three (λ t s a. multiply_step_a (multiply_step_sum t s a) a) top_data_part second_data_part OfA)) (then (set_top (from_three (λ t s a. multiply_step_t (multiply_step_sum t s a)) top_data_part second_data_part OfA)) goes_on))
  effect_row op.TwoStar e k = (refl, then (set_top (from_one doubled_word top_data_part)) goes_on)
  effect_row op.TwoSlash e k = (refl, then (set_top (from_one halved_word top_data_part)) goes_on)
  effect_row op.Invert e k = (refl, then (set_top (from_one (λ v. 0x3ffff - v) top_data_part)) goes_on)
  effect_row op.Plus e k = (
    refl,
    either (has_extended_arithmetic n) (has_extended_arithmetic m) _ _ _ _ _ _ (ap deciding_test_holds e)
        (then (set_carry (from_three (λ t s c. carry_value (nat_le word_modulus (t + s + c))) top_data_part second_data_part OfCarry)) (then (pop_to (from_three (λ t s c. (t + s + c) % word_modulus) top_data_part second_data_part OfCarry)) goes_on))
        (then (pop_to (from_two (λ t s. (t + s) % word_modulus) top_data_part second_data_part)) goes_on),
  )
  effect_row op.And e k = (refl, then (pop_to (from_two bit_and top_data_part second_data_part)) goes_on)
  effect_row op.Or e k = (refl, then (pop_to (from_two bit_xor top_data_part second_data_part)) goes_on)
  effect_row op.Drop e k = (refl, then pop_data goes_on)
  effect_row op.Dup e k = (refl, then (push_data (refl, refl)) goes_on)
  effect_row op.Pop e k = (refl, then (push_data (refl, refl)) (then pop_return goes_on))
  effect_row op.Over e k = (refl, then (push_data (refl, refl)) goes_on)
  effect_row op.A e k = (refl, then (push_data (refl, refl)) goes_on)
  effect_row op.Nop e k = (refl, goes_on)
  effect_row op.Push e k = (refl, then (push_return (refl, refl)) (then pop_data goes_on))
  effect_row op.BStore e k = (refl, then (set_b (from_one (λ v. v % 2 ^ 9) top_data_part)) (then pop_data goes_on))
  effect_row op.AStore e k = (refl, then (set_a (refl, refl)) (then pop_data goes_on))

  due_row : (d : NextAction) → deciding_test_or_target d n ≡ deciding_test_or_target d m → IsRow (action_flow_changes d n) (event_kind_and_changes_of_action d seen n) (event_kind_and_changes_of_action d other m)
  due_row due.Fetch e = read_row (address_target n.p) (address_target m.p) Instruction kind.Fetch _ _ _ (ap deciding_target e) (λ flow x y comes. then (set_i comes) (then (set_p (from_one advanced_address OfP)) (then start_again none)))
  due_row (due.Run op) e = effect_row op e (kind.Run (code_of_opcode op))

  own_row : HaveSameNextAction n m → IsRow (action_flow_changes (next_action_of_node n) n) (own_event seen n) (own_event other m)
  unfolding own_event
  own_row alike =
      subst (λ d. IsRow (action_flow_changes (next_action_of_node n) n) (event_kind_and_changes_of_action (next_action_of_node n) seen n) (event_kind_and_changes_of_action d other m)) alike.due
      (due_row (next_action_of_node n) (alike.choice ∙ ap (λ d. deciding_test_or_target d m) (sym alike.due)))

  pub own_flows : HaveSameNextAction n m → HasValidListSizes n → HasValidListSizes m → (part : NodePart) → IsNodePartInRange part → Source (flow_of_own_event n part) (node_part_value (io_word seen) (own seen n).1 part) (node_part_value (io_word other) (own other m).1 part)
  unfolding own flow_of_own_event
  own_flows alike = comes_after (io_word seen) n (io_word other) m (own_row alike).1

  pub own_sizes : HaveSameNextAction n m → HasValidListSizes n → HasValidListSizes m → HasValidListSizes (own seen n).1 × HasValidListSizes (own other m).1
  unfolding own
  own_sizes alike = sizes_after (io_word seen) n (io_word other) m (own_row alike).1

  pub own_kinds : HaveSameNextAction n m → (own seen n).0 ≡ (own other m).0
  unfolding own
  own_kinds alike = (own_row alike).0

-- ---- the halves of a transfer

module _ (word : ℕ) (n : NodeRecord) (other : ℕ) (m : NodeRecord) where
  pub sent_flows : HasValidListSizes n → HasValidListSizes m → (part : NodePart) → IsNodePartInRange part → AreBothValuesFromFlow word n other m (flow_after_send part) (node_part_value word (sent n) part) (node_part_value other (sent m) part)
  unfolding sent flow_after_send
  sent_flows = comes_after word n other m (then (set_wait {w = wait.Nothing}) (then pop_data (then go_on none)))

  pub sent_sizes : HasValidListSizes n → HasValidListSizes m → HasValidListSizes (sent n) × HasValidListSizes (sent m)
  unfolding sent
  sent_sizes = sizes_after word n other m (then (set_wait {w = wait.Nothing}) (then pop_data (then go_on none)))

  take_row : (w : Wait) → AreMoves word n other m (take_flow_changes w) (take_changes w word) (take_changes w other)
  take_row (wait.Fetch sides) = then set_wait (then (set_i (refl, refl)) (then start_again none))
  take_row (wait.Read sides) = then set_wait (then (push_data (refl, refl)) (then go_on none))
  take_row wait.Nothing = none
  take_row (wait.Write side) = none

  pub taken_flows : HasValidListSizes n → HasValidListSizes m → n.wait ≡ m.wait → (part : NodePart) → IsNodePartInRange part → AreBothValuesFromFlow word n other m (flow_after_take n.wait part) (node_part_value word (taken word n) part) (node_part_value other (taken other m) part)
  unfolding taken flow_after_take
  taken_flows left right same part is =
      subst (λ w. AreBothValuesFromFlow word n other m (flows_after_changes (take_flow_changes n.wait) CopiedFromPart part) (node_part_value word (node_after_changes (take_changes n.wait word) n) part) (node_part_value other (node_after_changes (take_changes w other) m) part)) same
      (comes_after word n other m (take_row n.wait) left right part is)

  pub taken_sizes : HasValidListSizes n → HasValidListSizes m → n.wait ≡ m.wait → HasValidListSizes (taken word n) × HasValidListSizes (taken other m)
  unfolding taken
  taken_sizes left right same =
      subst (λ w. HasValidListSizes (node_after_changes (take_changes n.wait word) n) × HasValidListSizes (node_after_changes (take_changes w other) m)) same (sizes_after word n other m (take_row n.wait) left right)

-- ---- the same is decided in two nodes that hold the same in the parts by which an event is decided

module _ (n m : NodeRecord) where
  due_same : n.i ≡ m.i → n.slot ≡ m.slot → next_action_of_node n ≡ next_action_of_node m
  due_same word slot = ap (λ i. by_slot i n.slot) word ∙ ap (by_slot m.i) slot
    where
      by_slot : ℕ → ℕ → NextAction
      by_slot i slot = cond (slot == 4) due.Fetch (due.Run (opcode i slot))

  chosen : (d : NextAction) → AreNodesAlikeAtParts 0 n 0 m (deciding_parts d) → deciding_test_or_target d n ≡ deciding_test_or_target d m
  chosen due.Fetch agree = ap (λ p. TargetChoice (address_target p)) agree.0
  chosen (due.Run op.Unext) agree = ap (λ v. TestResult (v == 0)) agree.0
  chosen (due.Run op.Next) agree = ap (λ v. TestResult (v == 0)) agree.0
  chosen (due.Run op.If) agree = ap (λ v. TestResult (v == 0)) agree.0
  chosen (due.Run op.MinusIf) agree = ap (λ v. TestResult (v / 2 ^ 17 == 0)) agree.0
  chosen (due.Run op.Plus) agree = ap (λ p. TestResult (p / 2 ^ 9 % 2 == 1)) agree.0
  chosen (due.Run op.FetchP) agree = ap (λ v. TargetChoice (address_target v)) agree.0
  chosen (due.Run op.FetchPlus) agree = ap (λ v. TargetChoice (address_target v)) agree.0
  chosen (due.Run op.FetchB) agree = ap (λ v. TargetChoice (address_target v)) agree.0
  chosen (due.Run op.Fetch) agree = ap (λ v. TargetChoice (address_target v)) agree.0
  chosen (due.Run op.StoreP) agree = ap (λ v. TargetChoice (address_target v)) agree.0
  chosen (due.Run op.StorePlus) agree = ap (λ v. TargetChoice (address_target v)) agree.0
  chosen (due.Run op.StoreB) agree = ap (λ v. TargetChoice (address_target v)) agree.0
  chosen (due.Run op.Store) agree = ap (λ v. TargetChoice (address_target v)) agree.0
  chosen (due.Run op.Return) agree = refl
  chosen (due.Run op.Execute) agree = refl
  chosen (due.Run op.Jump) agree = refl
  chosen (due.Run op.Call) agree = refl
  chosen (due.Run op.MultiplyStep) agree = refl
  chosen (due.Run op.TwoStar) agree = refl
  chosen (due.Run op.TwoSlash) agree = refl
  chosen (due.Run op.Invert) agree = refl
  chosen (due.Run op.And) agree = refl
  chosen (due.Run op.Or) agree = refl
  chosen (due.Run op.Drop) agree = refl
  chosen (due.Run op.Dup) agree = refl
  chosen (due.Run op.Pop) agree = refl
  chosen (due.Run op.Over) agree = refl
  chosen (due.Run op.A) agree = refl
  chosen (due.Run op.Nop) agree = refl
  chosen (due.Run op.Push) agree = refl
  chosen (due.Run op.BStore) agree = refl
  chosen (due.Run op.AStore) agree = refl

  pub alike : AreNodesAlikeAtParts 0 n 0 m (OfI ∷ OfSlot ∷ []) → AreNodesAlikeAtParts 0 n 0 m (deciding_parts (next_action_of_node n)) → HaveSameNextAction n m
  alike word computed_flow = record {
    due = due_same word.0 word.1.0;
    choice = chosen (next_action_of_node n) computed_flow ∙ ap (λ d. deciding_test_or_target d m) (due_same word.0 word.1.0);
  }
