-- What each part of a node comes from, change by change, in two runs of an event.
use Rattle.ga_node.specs.Changes as change
use Rattle.ga_event.specs.Flow as move
use Rattle.std.proofs.Common.{◌≡◌, ◌≢◌, ℕ, zero, suc, ◌+◌, ◌-◌, ◌<◌, List, [], ◌∷◌, length, drop, slice_index, refl, ap, ◌∙◌, arith, get_or-take, get_or-drop, length-drop, length-take, slice_set, ◌==◌, Bool, cond, min, sym, subst}
use Rattle.std.proofs.lemmas.List.{get_or_append_left, get_or_at, get_or-set_same, length-append, get_or-set_other, length-set}
use Rattle.ga_stacks.specs.Ring.{words_after_pop, words_after_push as pushed_list, words_with_top as topped_list}
use Rattle.std.proofs.lemmas.Bool.{eqb-true, eqb-false, cond_both}
use Rattle.ga_word.specs.Word.{carry_value}
use Rattle.ga_node.specs.Record.{NodeRecord, HasValidListSizes}
use Rattle.ga_node.specs.State.{wait_code}
use Rattle.ga_node.specs.Changes.{NodeChange, node_after_change, node_after_changes}
use Rattle.ga_event.specs.Flow.{ValueFlow, CopiedFromPart, From, FlowChange, PartFlows, node_part_value, IsNodePartInRange, computed_flow, flows_after_change, flows_after_changes, AreBothValuesFromFlow}
use Rattle.ga_event.specs.declared.flow.part.NodePart.{NodePart}
use Rattle.ga_event.specs.declared.flow.part.NodePart.TheVariants.{Data as OfD, Return as OfR, Ram as OfRam, Rom as OfRom, A as OfA, B as OfB, P as OfP, I as OfI, Io as OfIo, Carry as OfCarry, Slot as OfSlot, Wait as OfWait, Stop as OfStop, OutsideWord}
use Rattle.ga_node.specs.declared.wait.Wait.{Wait}

-- ---- A word of a list after a push, after a pop, and under another top

pub pushed_top : (w : ℕ) (xs : List ℕ) (k : ℕ) → k ≡ 0 → k < length xs → slice_index (pushed_list w xs) k ≡ w
pushed_top w xs k e h = get_or-take (length xs) (w ∷ xs) k 0 h ∙ ap (slice_index (w ∷ xs)) e

pub pushed_below : (w : ℕ) (xs : List ℕ) (k : ℕ) → k ≢ 0 → k < length xs → slice_index (pushed_list w xs) k ≡ slice_index xs (k - 1)
pushed_below w xs zero ne h = absurd (ne refl)
pushed_below w xs (suc j) ne h = get_or-take (length xs) (w ∷ xs) (suc j) 0 h ∙ ap (slice_index xs) (omega arith)

pub popped_last : (copied : ℕ) (xs : List ℕ) (last k : ℕ) → k ≡ last → length xs ≡ last + 1 → slice_index (words_after_pop copied xs) k ≡ slice_index xs copied
popped_last copied xs last k e size = get_or_at (drop 1 xs) (slice_index xs copied) [] 0 k (length-drop 1 xs ∙ omega arith)

pub popped_above : (copied : ℕ) (xs : List ℕ) (last k : ℕ) → k ≢ last → k < last + 1 → length xs ≡ last + 1 → slice_index (words_after_pop copied xs) k ≡ slice_index xs (k + 1)
popped_above copied xs last k ne h size =
    let short : length (drop 1 xs) ≡ last = length-drop 1 xs ∙ omega arith in
    get_or_append_left (drop 1 xs) (slice_index xs copied ∷ []) 0 k (omega arith) ∙ get_or-drop 1 xs k 0 ∙ ap (slice_index xs) (omega arith)

pub topped_top : (w : ℕ) (xs : List ℕ) (k : ℕ) → k ≡ 0 → slice_index (topped_list w xs) k ≡ w
topped_top w xs k e = ap (slice_index (w ∷ drop 1 xs)) e

pub topped_below : (w : ℕ) (xs : List ℕ) (k : ℕ) → k ≢ 0 → slice_index (topped_list w xs) k ≡ slice_index xs k
topped_below w xs zero ne = absurd (ne refl)
topped_below w xs (suc j) ne = get_or-drop 1 xs j 0 ∙ ap (slice_index xs) (omega arith)

pub pushed_size : (w : ℕ) (xs : List ℕ) → length (pushed_list w xs) ≡ length xs
pushed_size w xs = length-take (length xs) (w ∷ xs) ∙ omega arith

pub popped_size : (copied : ℕ) (xs : List ℕ) (last : ℕ) → length xs ≡ last + 1 → length (words_after_pop copied xs) ≡ last + 1
popped_size copied xs last size = length-append (drop 1 xs) (slice_index xs copied ∷ []) ∙ ap (λ n. n + 1) (length-drop 1 xs) ∙ omega arith

pub topped_size : (w : ℕ) (xs : List ℕ) (last : ℕ) → length xs ≡ last + 1 → length (topped_list w xs) ≡ last + 1
topped_size w xs last size = ap suc (length-drop 1 xs) ∙ omega arith

pub stored_here : (w : ℕ) (xs : List ℕ) (k cell : ℕ) → cell ≡ k → k < length xs → slice_index (slice_set xs cell w) k ≡ w
stored_here w xs k cell at h = ap (λ i. slice_index (slice_set xs i w) k) at ∙ get_or-set_same xs k w 0 h

-- the flows of a list after a push, a pop, another first word and another cell
abbrev words_after_push : ValueFlow → (ℕ → ValueFlow) → ℕ → ValueFlow
words_after_push flow words k = cond (k == 0) flow (words (k - 1))

abbrev popped_flows : ℕ → ℕ → (ℕ → ValueFlow) → ℕ → ValueFlow
popped_flows last copied words k = cond (k == last) (words copied) (words (k + 1))

abbrev words_with_top : ValueFlow → (ℕ → ValueFlow) → ℕ → ValueFlow
words_with_top flow words k = cond (k == 0) flow (words k)

abbrev stored_at : ℕ → ValueFlow → (ℕ → ValueFlow) → ℕ → ValueFlow
stored_at cell flow words k = cond (k == cell) flow (words k)

module _ (word : ℕ) (n : NodeRecord) (other : ℕ) (m : NodeRecord) where
  comes_as : (flow : ValueFlow) (x y x' y' : ℕ) → x' ≡ x → y' ≡ y → AreBothValuesFromFlow word n other m flow x y → AreBothValuesFromFlow word n other m flow x' y'
  comes_as flow x y x' y' e e' comes = subst (λ v. AreBothValuesFromFlow word n other m flow v y') (sym e) (subst (λ v. AreBothValuesFromFlow word n other m flow x v) (sym e') comes)

  by_comes : (g : ℕ → ℕ) (flow : ValueFlow) (x y : ℕ) → AreBothValuesFromFlow word n other m flow x y → AreBothValuesFromFlow word n other m (computed_flow flow) (g x) (g y)
  by_comes g (CopiedFromPart part) x y comes = λ agree. ap g (comes.0 ∙ agree.0 ∙ sym comes.1)
  by_comes g (From parts) x y comes = λ agree. ap g (comes agree)

  -- two lists of `size` words, each of which comes from its flow
  record Words (flows : ℕ → ValueFlow) (size : ℕ) (xs ys : List ℕ) : Type 0 where
    each : (k : ℕ) → k < size → AreBothValuesFromFlow word n other m (flows k) (slice_index xs k) (slice_index ys k)
    left : length xs ≡ size
    right : length ys ≡ size

  pushed_words : (flow : ValueFlow) (flows : ℕ → ValueFlow) (size x y : ℕ) (xs ys : List ℕ) → AreBothValuesFromFlow word n other m flow x y → Words flows size xs ys → Words (words_after_push flow flows) size (pushed_list x xs) (pushed_list y ys)
  pushed_words flow flows size x y xs ys comes all = record {
    each = λ k h. cond_both (k == 0) flow (flows (k - 1)) (λ f. AreBothValuesFromFlow word n other m f (slice_index (pushed_list x xs) k) (slice_index (pushed_list y ys) k))
        (λ e. comes_as flow x y _ _ (pushed_top x xs k (eqb-true k 0 e) (omega (arith, all.left))) (pushed_top y ys k (eqb-true k 0 e) (omega (arith, all.right))) comes)
        (λ e. comes_as (flows (k - 1)) _ _ _ _ (pushed_below x xs k (eqb-false k 0 e) (omega (arith, all.left))) (pushed_below y ys k (eqb-false k 0 e) (omega (arith, all.right))) (all.each (k - 1) (omega arith)));
    left = pushed_size x xs ∙ all.left;
    right = pushed_size y ys ∙ all.right;
  }

  popped_words : (flows : ℕ → ValueFlow) (last copied : ℕ) (xs ys : List ℕ) → copied < last + 1 → Words flows (last + 1) xs ys → Words (popped_flows last copied flows) (last + 1) (words_after_pop copied xs) (words_after_pop copied ys)
  popped_words flows last copied xs ys within all = record {
    each = λ k h. cond_both (k == last) (flows copied) (flows (k + 1)) (λ f. AreBothValuesFromFlow word n other m f (slice_index (words_after_pop copied xs) k) (slice_index (words_after_pop copied ys) k))
        (λ e. comes_as (flows copied) _ _ _ _ (popped_last copied xs last k (eqb-true k last e) all.left) (popped_last copied ys last k (eqb-true k last e) all.right) (all.each copied within))
        (λ e. let ne : k ≢ last = eqb-false k last e in
        comes_as (flows (k + 1)) _ _ _ _ (popped_above copied xs last k ne h all.left) (popped_above copied ys last k ne h all.right) (all.each (k + 1) (omega arith)));
    left = popped_size copied xs last all.left;
    right = popped_size copied ys last all.right;
  }

  topped_words : (flow : ValueFlow) (flows : ℕ → ValueFlow) (last x y : ℕ) (xs ys : List ℕ) → AreBothValuesFromFlow word n other m flow x y → Words flows (last + 1) xs ys → Words (words_with_top flow flows) (last + 1) (topped_list x xs) (topped_list y ys)
  topped_words flow flows last x y xs ys comes all = record {
    each = λ k h. cond_both (k == 0) flow (flows k) (λ f. AreBothValuesFromFlow word n other m f (slice_index (topped_list x xs) k) (slice_index (topped_list y ys) k))
        (λ e. comes_as flow x y _ _ (topped_top x xs k (eqb-true k 0 e)) (topped_top y ys k (eqb-true k 0 e)) comes)
        (λ e. comes_as (flows k) _ _ _ _ (topped_below x xs k (eqb-false k 0 e)) (topped_below y ys k (eqb-false k 0 e)) (all.each k h));
    left = topped_size x xs last all.left;
    right = topped_size y ys last all.right;
  }

  stored_words : (cell : ℕ) (flow : ValueFlow) (flows : ℕ → ValueFlow) (size x y : ℕ) (xs ys : List ℕ) → AreBothValuesFromFlow word n other m flow x y → Words flows size xs ys → Words (stored_at cell flow flows) size (slice_set xs cell x) (slice_set ys cell y)
  stored_words cell flow flows size x y xs ys comes all = record {
    each = λ k h. cond_both (k == cell) flow (flows k) (λ f. AreBothValuesFromFlow word n other m f (slice_index (slice_set xs cell x) k) (slice_index (slice_set ys cell y) k))
        (λ e. let at : cell ≡ k = sym (eqb-true k cell e) in
        comes_as flow x y _ _ (stored_here x xs k cell at (omega (arith, all.left))) (stored_here y ys k cell at (omega (arith, all.right))) comes)
        (λ e. comes_as (flows k) _ _ _ _ (get_or-set_other xs cell k x 0 (eqb-false k cell e)) (get_or-set_other ys cell k y 0 (eqb-false k cell e)) (all.each k h));
    left = length-set xs cell x ∙ all.left;
    right = length-set ys cell y ∙ all.right;
  }

  -- what each part comes from, in the node as it is in both runs: the stacks, the memories, the registers and the rest
  abbrev Lists : PartFlows → NodeRecord → NodeRecord → Type 0
  Lists f x y = Words (λ k. f (OfD k)) 10 x.d y.d × Words (λ k. f (OfR k)) 9 x.r y.r × Words (λ k. f (OfRam k)) 64 x.ram y.ram × Words (λ k. f (OfRom k)) 64 x.rom y.rom

  abbrev Registers : PartFlows → NodeRecord → NodeRecord → Type 0
  Registers f x y = AreBothValuesFromFlow word n other m (f OfA) x.a y.a × AreBothValuesFromFlow word n other m (f OfB) x.b y.b × AreBothValuesFromFlow word n other m (f OfP) x.p y.p × AreBothValuesFromFlow word n other m (f OfI) x.i y.i
      × AreBothValuesFromFlow word n other m (f OfIo) x.io y.io × AreBothValuesFromFlow word n other m (f OfCarry) (carry_value x.carry) (carry_value y.carry)

  abbrev States : PartFlows → NodeRecord → NodeRecord → Type 0
  States f x y = AreBothValuesFromFlow word n other m (f OfSlot) x.slot y.slot × AreBothValuesFromFlow word n other m (f OfWait) (wait_code x.wait) (wait_code y.wait) × AreBothValuesFromFlow word n other m (f OfStop) x.stop y.stop

  abbrev Tracks : PartFlows → NodeRecord → NodeRecord → Type 0
  Tracks f x y = Lists f x y × Registers f x y × States f x y

  -- a change is this move in both runs
  pub data IsMove : FlowChange → NodeChange → NodeChange → Type 0 where
    push_data : {flow : ValueFlow} {x y : ℕ} → AreBothValuesFromFlow word n other m flow x y → IsMove (move.PushData flow) (change.PushData x) (change.PushData y)
    pop_data : IsMove move.PopData change.PopData change.PopData
    set_top : {flow : ValueFlow} {x y : ℕ} → AreBothValuesFromFlow word n other m flow x y → IsMove (move.SetTop flow) (change.SetTop x) (change.SetTop y)
    pop_to : {flow : ValueFlow} {x y : ℕ} → AreBothValuesFromFlow word n other m flow x y → IsMove (move.PopThenSetTop flow) (change.PopThenSetTop x) (change.PopThenSetTop y)
    push_return : {flow : ValueFlow} {x y : ℕ} → AreBothValuesFromFlow word n other m flow x y → IsMove (move.PushReturn flow) (change.PushReturn x) (change.PushReturn y)
    pop_return : IsMove move.PopReturn change.PopReturn change.PopReturn
    set_top_return : {flow : ValueFlow} {x y : ℕ} → AreBothValuesFromFlow word n other m flow x y → IsMove (move.SetTopReturn flow) (change.SetTopReturn x) (change.SetTopReturn y)
    set_p : {flow : ValueFlow} {x y : ℕ} → AreBothValuesFromFlow word n other m flow x y → IsMove (move.SetP flow) (change.SetP x) (change.SetP y)
    set_a : {flow : ValueFlow} {x y : ℕ} → AreBothValuesFromFlow word n other m flow x y → IsMove (move.SetA flow) (change.SetA x) (change.SetA y)
    set_b : {flow : ValueFlow} {x y : ℕ} → AreBothValuesFromFlow word n other m flow x y → IsMove (move.SetB flow) (change.SetB x) (change.SetB y)
    set_i : {flow : ValueFlow} {x y : ℕ} → AreBothValuesFromFlow word n other m flow x y → IsMove (move.SetI flow) (change.SetI x) (change.SetI y)
    set_io : {flow : ValueFlow} {x y : ℕ} → AreBothValuesFromFlow word n other m flow x y → IsMove (move.SetIo flow) (change.SetIo x) (change.SetIo y)
    set_carry : {flow : ValueFlow} {x y : Bool} → AreBothValuesFromFlow word n other m flow (carry_value x) (carry_value y) → IsMove (move.SetCarry flow) (change.SetCarry x) (change.SetCarry y)
    set_ram : {cell : ℕ} {flow : ValueFlow} {x y : ℕ} → AreBothValuesFromFlow word n other m flow x y → IsMove (move.SetRam cell flow) (change.SetRam cell x) (change.SetRam cell y)
    go_on : IsMove move.AdvanceSlot change.AdvanceSlot change.AdvanceSlot
    skip : IsMove move.SkipRestOfWord change.SkipRestOfWord change.SkipRestOfWord
    start_again : IsMove move.ReturnToFirstSlot change.ReturnToFirstSlot change.ReturnToFirstSlot
    set_wait : {w : Wait} → IsMove move.SetWait (change.SetWait w) (change.SetWait w)
    set_stop : {code : ℕ} → IsMove move.SetStop (change.SetStop code) (change.SetStop code)

  pub data AreMoves : List FlowChange → List NodeChange → List NodeChange → Type 0 where
    none : AreMoves [] [] []
    then : {mv : FlowChange} {c e : NodeChange} {mvs : List FlowChange} {cs es : List NodeChange} → IsMove mv c e → AreMoves mvs cs es → AreMoves (mv ∷ mvs) (c ∷ cs) (e ∷ es)

  -- a move
  step : {mv : FlowChange} {c e : NodeChange} → IsMove mv c e → (f : PartFlows) (x y : NodeRecord) → Tracks f x y → Tracks (flows_after_change mv f) (node_after_change c x) (node_after_change e y)
  step (push_data {flow = flow} {x = v} {y = w} comes) f x y (l, g, s) = ((pushed_words flow (λ k. f (OfD k)) 10 v w x.d y.d comes l.0, l.1, l.2, l.3), g, s)
  step pop_data f x y (l, g, s) = ((popped_words (λ k. f (OfD k)) 9 2 x.d y.d (omega arith) l.0, l.1, l.2, l.3), g, s)
  step (set_top {flow = flow} {x = v} {y = w} comes) f x y (l, g, s) = ((topped_words flow (λ k. f (OfD k)) 9 v w x.d y.d comes l.0, l.1, l.2, l.3), g, s)
  step (pop_to {flow = flow} {x = v} {y = w} comes) f x y (l, g, s) =
      ((topped_words flow (popped_flows 9 2 (λ k. f (OfD k))) 9 v w (words_after_pop 2 x.d) (words_after_pop 2 y.d) comes (popped_words (λ k. f (OfD k)) 9 2 x.d y.d (omega arith) l.0), l.1, l.2, l.3), g, s)
  step (push_return {flow = flow} {x = v} {y = w} comes) f x y (l, g, s) = ((l.0, pushed_words flow (λ k. f (OfR k)) 9 v w x.r y.r comes l.1, l.2, l.3), g, s)
  step pop_return f x y (l, g, s) = ((l.0, popped_words (λ k. f (OfR k)) 8 1 x.r y.r (omega arith) l.1, l.2, l.3), g, s)
  step (set_top_return {flow = flow} {x = v} {y = w} comes) f x y (l, g, s) = ((l.0, topped_words flow (λ k. f (OfR k)) 8 v w x.r y.r comes l.1, l.2, l.3), g, s)
  step (set_p comes) f x y (l, g, s) = (l, (g.0, g.1, comes, g.3, g.4, g.5), s)
  step (set_a comes) f x y (l, g, s) = (l, (comes, g.1, g.2, g.3, g.4, g.5), s)
  step (set_b comes) f x y (l, g, s) = (l, (g.0, comes, g.2, g.3, g.4, g.5), s)
  step (set_i comes) f x y (l, g, s) = (l, (g.0, g.1, g.2, comes, g.4, g.5), s)
  step (set_io comes) f x y (l, g, s) = (l, (g.0, g.1, g.2, g.3, comes, g.5), s)
  step (set_carry comes) f x y (l, g, s) = (l, (g.0, g.1, g.2, g.3, g.4, comes), s)
  step (set_ram {cell = cell} {flow = flow} {x = v} {y = w} comes) f x y (l, g, s) = ((l.0, l.1, stored_words cell flow (λ k. f (OfRam k)) 64 v w x.ram y.ram comes l.2, l.3), g, s)
  step go_on f x y (l, g, s) = (l, g, (by_comes (λ slot. min (slot + 1) 4) (f OfSlot) x.slot y.slot s.0, s.1, s.2))
  step skip f x y (l, g, s) = (l, g, (λ agree. refl, s.1, s.2))
  step start_again f x y (l, g, s) = (l, g, (λ agree. refl, s.1, s.2))
  step set_wait f x y (l, g, s) = (l, g, (s.0, λ agree. refl, s.2))
  step set_stop f x y (l, g, s) = (l, g, (s.0, s.1, λ agree. refl))

  steps : {mvs : List FlowChange} {cs es : List NodeChange} → AreMoves mvs cs es → (f : PartFlows) (x y : NodeRecord) → Tracks f x y → Tracks (flows_after_changes mvs f) (node_after_changes cs x) (node_after_changes es y)
  steps none f x y tracks = tracks
  steps (then {mv = mv} {c = c} {e = e} one rest) f x y tracks = steps rest (flows_after_change mv f) (node_after_change c x) (node_after_change e y) (step one f x y tracks)

  start : HasValidListSizes n → HasValidListSizes m → Tracks CopiedFromPart n m
  start left right = (
    (
      record { each = λ k h. (refl, refl); left = left.d; right = right.d },
      record { each = λ k h. (refl, refl); left = left.r; right = right.r },
      record { each = λ k h. (refl, refl); left = left.ram; right = right.ram },
      record { each = λ k h. (refl, refl); left = left.rom; right = right.rom },
    ),
    ((refl, refl), (refl, refl), (refl, refl), (refl, refl), (refl, refl), (refl, refl)),
    ((refl, refl), (refl, refl), (refl, refl)),
  )

  told : (f : PartFlows) (x y : NodeRecord) → Tracks f x y → (part : NodePart) → IsNodePartInRange part → AreBothValuesFromFlow word n other m (f part) (node_part_value word x part) (node_part_value other y part)
  told f x y (l, g, s) (OfD k) h = l.0.each k h
  told f x y (l, g, s) (OfR k) h = l.1.each k h
  told f x y (l, g, s) (OfRam k) h = l.2.each k h
  told f x y (l, g, s) (OfRom k) h = l.3.each k h
  told f x y (l, g, s) OfA h = g.0
  told f x y (l, g, s) OfB h = g.1
  told f x y (l, g, s) OfP h = g.2
  told f x y (l, g, s) OfI h = g.3
  told f x y (l, g, s) OfIo h = g.4
  told f x y (l, g, s) OfCarry h = g.5
  told f x y (l, g, s) OfSlot h = s.0
  told f x y (l, g, s) OfWait h = s.1
  told f x y (l, g, s) OfStop h = s.2
  told f x y (l, g, s) OutsideWord h = absurd h

  pub comes_after : {mvs : List FlowChange} {cs es : List NodeChange} → AreMoves mvs cs es → HasValidListSizes n → HasValidListSizes m → (part : NodePart) → IsNodePartInRange part
      → AreBothValuesFromFlow word n other m (flows_after_changes mvs CopiedFromPart part) (node_part_value word (node_after_changes cs n) part) (node_part_value other (node_after_changes es m) part)
  comes_after {mvs = mvs} {cs = cs} {es = es} rows left right = told (flows_after_changes mvs CopiedFromPart) (node_after_changes cs n) (node_after_changes es m) (steps rows CopiedFromPart n m (start left right))

  pub sizes_after : {mvs : List FlowChange} {cs es : List NodeChange} → AreMoves mvs cs es → HasValidListSizes n → HasValidListSizes m → HasValidListSizes (node_after_changes cs n) × HasValidListSizes (node_after_changes es m)
  sizes_after {mvs = mvs} {cs = cs} {es = es} rows left right =
      let all : Lists (flows_after_changes mvs CopiedFromPart) (node_after_changes cs n) (node_after_changes es m) = (steps rows CopiedFromPart n m (start left right)).0 in (
        record { d = all.0.left; r = all.1.left; ram = all.2.left; rom = all.3.left },
        record { d = all.0.right; r = all.1.right; ram = all.2.right; rom = all.3.right },
      )
