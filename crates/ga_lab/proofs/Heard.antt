-- What a node's history and the words that its looks read make of it.
use Rattle.std.proofs.Common.{◌≡◌, ℕ, ◌<◌, Bool, true, false, cond, inl, inr, List, [], ◌∷◌, ◌++◌, length, Option, Some, None, refl, sym, ◌∙◌, ap, subst, arith, ext_get_or, ◌≤◌, ◌==◌, eqb-true}
use Rattle.std.specs.Prelude.{option_to_list}
use Rattle.std.specs.List.{flat_map}
use Rattle.std.proofs.lemmas.Bool.{cases_lt, or_cases, both_ways, cond-false}
use Rattle.std.proofs.lemmas.List.{get_or_past}
use Rattle.std.proofs.lemmas.Option.{same_Some}
use Rattle.ga_ports.specs.declared.side.Side.TheVariants.{Right}
use Rattle.ga_node.specs.Io.{io_word}
use Rattle.ga_node.specs.Record.{NodeRecord, record_of_node, node_at_load_defaults}
use Rattle.ga_node.specs.Table.{reads_io_next}
use Rattle.ga_grid.specs.Chip.{default_node, node_record_at}
use Rattle.ga_event.specs.declared.event.Event.{Event}
use Rattle.ga_event.specs.declared.event.EventWithLook.{EventWithLook}
use Rattle.ga_event.specs.Touches.{touches}
use Rattle.ga_event.specs.Apply.{MadeEventOutcome, event_result, apply, event_with_look_on_chip, run_events, neighbour_states, is_look}
use Rattle.ga_causal.specs.Words.{outside_word_of_event, local_history_with_outside_words, word_read_by_look, io_words_read}
use Rattle.ga_causal.proofs.Runs.{first_of_run, keeps_of, causes}
use Rattle.ga_causal.proofs.Words.{Becomes, becomes_one, becomes_of, after_is, same_size}
use Rattle.ga_event.specs.declared.made.MadeEvent.{MadeEvent}
use Rattle.ga_event.specs.Told.{made_event_after, made_events_of_node_after, made_events_of_node}
use Rattle.ga_lab.specs.Machine.{MachineState, initial_state, chip_of_machine, history_of_node, machine_events_with_looks}
use Rattle.ga_lab.specs.Calls.{MachineCall, state_after_machine_calls}
use Rattle.ga_lab.proofs.Called.{Runs, told_is, chip_is, first_runs, calls_load, causes_is}
use Rattle.ga_causal.specs.Dependence.{HasNoLooks}
use Rattle.ga_causal.proofs.Equivalences.{touched_of}
use Rattle.ga_event.specs.declared.event.Event.TheVariants as event
use Rattle.ga_event.specs.declared.made.MadeEvent.TheVariants as made

-- the event that was made, except for the side of a pass, which shows in neither of its nodes
abbrev pub event_in : MadeEvent → Event
event_in (made.Own node k kind) = event.Own node
event_in (made.Pass w k r j word) = event.Pass w r Right

-- its word: that of a pass, or the first of the words that looks read, if it is a look
abbrev pub Takes : MadeEvent → List ℕ → Option ℕ → List ℕ → Type 0
Takes (made.Own node k kind) ws word vs = ws ≡ option_to_list word ++ vs
Takes (made.Pass w k r j told) ws word vs = (word ≡ Some told) × (ws ≡ vs)

-- what a history and words make of a node
abbrev pub Traced : ℕ → NodeRecord → List MadeEvent → List ℕ → NodeRecord → Type 0
Traced n x [] ws y = (x ≡ y) × (ws ≡ [])
Traced n x (m ∷ ms) ws y = (z : NodeRecord) × (word : Option ℕ) × (vs : List ℕ) × Becomes n x (event_in m) word z × Takes m ws word vs × Traced n z ms vs y

Agrees : Option ℕ → Option ℕ → List ℕ → List ℕ → Type 0
Agrees word other vs us = (word ≡ other) × (vs ≡ us)

own_takes : (b : Bool) (i j : ℕ) (word other : Option ℕ) (ws vs us : List ℕ) → word ≡ cond b (Some i) None → other ≡ cond b (Some j) None
    → ws ≡ option_to_list word ++ vs → ws ≡ option_to_list other ++ us → Agrees word other vs us
unfolding Agrees
own_takes true i j word other ws vs us p q t u =
    let h : ◌≡◌ {A = List ℕ} (i ∷ vs) (j ∷ us) = ap (λ o. option_to_list o ++ vs) (sym p) ∙ sym t ∙ u ∙ ap (λ o. option_to_list o ++ us) q in
    let head : i ≡ j = cc in
    let tail : vs ≡ us = cc in
    (p ∙ ap (λ (z : ℕ). Some z) head ∙ sym q, tail)
own_takes false i j word other ws vs us p q t u =
    (p ∙ sym q, ap (λ o. option_to_list o ++ vs) (sym p) ∙ sym t ∙ u ∙ ap (λ o. option_to_list o ++ us) q)

takes_one : (m : MadeEvent) (n : ℕ) (x y z : NodeRecord) (word other : Option ℕ) (ws vs us : List ℕ) → Becomes n x (event_in m) word y → Becomes n x (event_in m) other z
    → Takes m ws word vs → Takes m ws other us → Agrees word other vs us
unfolding Agrees
takes_one (made.Own node k kind) n x y z word other ws vs us (seen, p, q) (scene, u, v) t w = own_takes (reads_io_next x) (io_word seen) (io_word scene) word other ws vs us q v t w
takes_one (made.Pass w k r j told) n x y z word other ws vs us p q (t, a) (u, b) = (t ∙ sym u, sym a ∙ b)

-- they make one thing of it
traced_one : (n : ℕ) (x : NodeRecord) (ms : List MadeEvent) (ws : List ℕ) (y z : NodeRecord) → Traced n x ms ws y → Traced n x ms ws z → y ≡ z
unfolding Agrees
traced_one n x [] ws y z p q = sym p.0 ∙ q.0
traced_one n x (m ∷ ms) ws y z (u, word, vs, b, t, l) (v, other, us, c, w, k) =
    let same = takes_one m n x u v word other ws vs us b c t w in
    let at : u ≡ v = becomes_one n x (event_in m) other u v (subst (λ o. Becomes n x (event_in m) o u) same.0 b) c in
    traced_one n v ms us y z (subst (λ o. Traced n v ms o y) same.1 (subst (λ o. Traced n o ms vs y) at l)) k

-- an event as made, with its word
made_traced : (n : ℕ) (c mid : List NodeRecord) (e : Event) (before : List Event) (y : NodeRecord) (ms : List MadeEvent) (ws : List ℕ)
    → Becomes n (node_record_at c n) e (outside_word_of_event c e) (node_record_at mid n) → Traced n (node_record_at mid n) ms ws y
    → Traced n (node_record_at c n) (option_to_list (made_event_after before e (event_result c e).1) ++ ms) (word_read_by_look e (outside_word_of_event c e) ++ ws) y
made_traced n c mid (event.Own node) before y ms ws b later = (node_record_at mid n, outside_word_of_event c (event.Own node), ws, b, refl, later)
made_traced n c mid (event.Pass w r side) before y ms ws b later = (node_record_at mid n, outside_word_of_event c (event.Pass w r side), ws, b, (refl, refl), later)

traced_more : (n : ℕ) (c mid : List NodeRecord) (e : Event) (told : MadeEventOutcome) (before : List Event) (y : NodeRecord) (ms : List MadeEvent) (rest : List (Event × Option ℕ)) → n < length c
    → apply c e ≡ Some (mid, told) → Traced n (node_record_at mid n) ms (flat_map (λ x. word_read_by_look x.0 x.1) rest) y → (b : Bool) → touches e n ≡ b
    → Traced n (node_record_at c n) (cond b (option_to_list (made_event_after before e told)) [] ++ ms) (flat_map (λ x. word_read_by_look x.0 x.1) (cond b ((e, outside_word_of_event c e) ∷ rest) rest)) y
traced_more n c mid e told before y ms rest l h later true is =
    subst (λ z. Traced n (node_record_at c n) (option_to_list (made_event_after before e z) ++ ms) (word_read_by_look e (outside_word_of_event c e) ++ flat_map (λ x. word_read_by_look x.0 x.1) rest) y) (ap (λ z. z.1) (after_is c mid e told h))
    (made_traced n c mid e before y ms (flat_map (λ x. word_read_by_look x.0 x.1) rest) (becomes_of n c mid e told l h is) later)
traced_more n c mid e told before y ms rest l h later false is =
    subst (λ z. Traced n z ms (flat_map (λ x. word_read_by_look x.0 x.1) rest) y) (sym ((keeps_of c e mid told h).same n is)) later

pub traced : (n : ℕ) (c last : List NodeRecord) (es : List Event) (ts : List (EventWithLook × MadeEventOutcome)) (before : List Event) → n < length c → run_events c es ≡ Some (last, ts)
    → Traced n (node_record_at c n) (made_events_of_node_after before ts n) (io_words_read n c es) (node_record_at last n)
traced n c last [] ts before l h =
    subst (λ (z : List NodeRecord × List (EventWithLook × MadeEventOutcome)). Traced n (node_record_at c n) (made_events_of_node_after before z.1 n) [] (node_record_at z.0 n)) (same_Some (c, []) (last, ts) h) (refl, refl)
traced n c last (e ∷ es) ts before l h =
    let m = first_of_run c e es last ts h in
    let size : length c ≡ length m.mid = (keeps_of c e m.mid m.told m.first).size in
    let later = traced n m.mid last es m.others (before ++ e ∷ []) (omega (arith, l, size)) m.then in
    subst (λ (z : List (EventWithLook × MadeEventOutcome)). Traced n (node_record_at c n) (made_events_of_node_after before z n) (io_words_read n c (e ∷ es)) (node_record_at last n)) (sym m.all)
    (subst (λ d. Traced n (node_record_at c n) (made_events_of_node_after before ((event_with_look_on_chip c e, m.told) ∷ m.others) n) (flat_map (λ x. word_read_by_look x.0 x.1) (cond (touches e n) ((e, outside_word_of_event c e) ∷ local_history_with_outside_words n d es) (local_history_with_outside_words n d es))) (node_record_at last n))
    (sym (ap (λ z. z.0) (after_is c m.mid e m.told m.first)))
    (traced_more n c m.mid e m.told before (node_record_at last n) (made_events_of_node_after (before ++ e ∷ []) m.others n) (local_history_with_outside_words n m.mid es) l m.first later (touches e n) refl))

-- machines with one load, in which a node has the same history and its looks read the same words
node_alike : (s z : MachineState) (n : ℕ) → Runs s → Runs z → s.load ≡ z.load → history_of_node s n ≡ history_of_node z n → io_words_read n s.load s.kept ≡ io_words_read n z.load z.kept
    → node_record_at (chip_of_machine s) n ≡ node_record_at (chip_of_machine z) n
node_alike s z n r q load told words =
    let here : length s.load ≡ length r.last = same_size s.load r.last s.kept r.told r.run_is in
    let there : length z.load ≡ length q.last = same_size z.load q.last z.kept q.told q.run_is in
    let size : length s.load ≡ length z.load = ap length load in
    let same : made_events_of_node r.told n ≡ made_events_of_node q.told n = ap (λ x. made_events_of_node x n) (sym (told_is s r)) ∙ told ∙ ap (λ x. made_events_of_node x n) (told_is z q) in
    let last : node_record_at r.last n ≡ node_record_at q.last n = elim (cases_lt n (length s.load)) [
      | inl l ↦ traced_one n (node_record_at s.load n) (made_events_of_node r.told n) (io_words_read n s.load s.kept) (node_record_at r.last n) (node_record_at q.last n)
          (traced n s.load r.last s.kept r.told [] l r.run_is)
          (subst (λ x. Traced n (node_record_at s.load n) (made_events_of_node r.told n) x (node_record_at q.last n)) (sym words)
          (subst (λ x. Traced n (node_record_at s.load n) x (io_words_read n z.load z.kept) (node_record_at q.last n)) (sym same)
          (subst (λ c. Traced n (node_record_at c n) (made_events_of_node q.told n) (io_words_read n z.load z.kept) (node_record_at q.last n)) (sym load)
          (traced n z.load q.last z.kept q.told [] (omega (arith, l, size)) q.run_is))))
      | inr l ↦ get_or_past r.last n (record_of_node default_node) (omega (arith, l, here)) ∙ sym (get_or_past q.last n (record_of_node default_node) (omega (arith, l, size, there)))
    ] in
    ap (λ c. node_record_at c n) (chip_is s r) ∙ last ∙ sym (ap (λ c. node_record_at c n) (chip_is z q))

pub same_node : (load : List NodeRecord) (limit bound : ℕ) (calls others : List MachineCall) (n : ℕ)
    → history_of_node (state_after_machine_calls (initial_state load limit) calls) n ≡ history_of_node (state_after_machine_calls (initial_state load bound) others) n
    → io_words_read n load (state_after_machine_calls (initial_state load limit) calls).kept ≡ io_words_read n load (state_after_machine_calls (initial_state load bound) others).kept
    → node_record_at (chip_of_machine (state_after_machine_calls (initial_state load limit) calls)) n ≡ node_record_at (chip_of_machine (state_after_machine_calls (initial_state load bound) others)) n
same_node load limit bound calls others n told words =
    let s = state_after_machine_calls (initial_state load limit) calls in
    let z = state_after_machine_calls (initial_state load bound) others in
    let at : s.load ≡ load = calls_load (initial_state load limit) calls in
    let to : z.load ≡ load = calls_load (initial_state load bound) others in
    node_alike s z n (first_runs load limit calls) (first_runs load bound others) (at ∙ sym to) told
    (ap (λ c. io_words_read n c s.kept) at ∙ words ∙ sym (ap (λ c. io_words_read n c z.kept) to))

pub same_chip : (load : List NodeRecord) (limit bound : ℕ) (calls others : List MachineCall)
    → ((n : ℕ) → history_of_node (state_after_machine_calls (initial_state load limit) calls) n ≡ history_of_node (state_after_machine_calls (initial_state load bound) others) n)
    → ((n : ℕ) → io_words_read n load (state_after_machine_calls (initial_state load limit) calls).kept ≡ io_words_read n load (state_after_machine_calls (initial_state load bound) others).kept)
    → chip_of_machine (state_after_machine_calls (initial_state load limit) calls) ≡ chip_of_machine (state_after_machine_calls (initial_state load bound) others)
same_chip load limit bound calls others told words =
    let s = state_after_machine_calls (initial_state load limit) calls in
    let z = state_after_machine_calls (initial_state load bound) others in
    let r : Runs s = first_runs load limit calls in
    let q : Runs z = first_runs load bound others in
    let here : length load ≡ length (chip_of_machine s) = ap length (sym (calls_load (initial_state load limit) calls)) ∙ same_size s.load r.last s.kept r.told r.run_is ∙ ap length (sym (chip_is s r)) in
    let there : length load ≡ length (chip_of_machine z) = ap length (sym (calls_load (initial_state load bound) others)) ∙ same_size z.load q.last z.kept q.told q.run_is ∙ ap length (sym (chip_is z q)) in
    ext_get_or (record_of_node default_node) (chip_of_machine s) (chip_of_machine z) (sym here ∙ there) (λ n l. same_node load limit bound calls others n (told n) (words n))

-- ---- if no event of a machine looks, none does in another with the same histories

-- if the same history has no words in one machine, it has none in the other
Silent : Option ℕ → Option ℕ → List ℕ → List ℕ → List ℕ → Type 0
Silent word other vs ws us = (word ≡ other) × (vs ≡ []) × (ws ≡ us)

own_silent : (b : Bool) (i j : ℕ) (word other : Option ℕ) (vs ws us : List ℕ) → word ≡ cond b (Some i) None → other ≡ cond b (Some j) None
    → [] ≡ option_to_list word ++ vs → ws ≡ option_to_list other ++ us → Silent word other vs ws us
unfolding Silent
own_silent true i j word other vs ws us p q t u =
    let h : ◌≡◌ {A = List ℕ} [] (i ∷ vs) = t ∙ ap (λ o. option_to_list o ++ vs) p in
    absurd (cc)
own_silent false i j word other vs ws us p q t u =
    (p ∙ sym q, sym (t ∙ ap (λ o. option_to_list o ++ vs) p), u ∙ ap (λ o. option_to_list o ++ us) q)

takes_silent : (m : MadeEvent) (n : ℕ) (x y z : NodeRecord) (word other : Option ℕ) (vs ws us : List ℕ) → Becomes n x (event_in m) word y → Becomes n x (event_in m) other z
    → Takes m [] word vs → Takes m ws other us → Silent word other vs ws us
unfolding Silent
takes_silent (made.Own node k kind) n x y z word other vs ws us (seen, p, q) (scene, u, v) t w = own_silent (reads_io_next x) (io_word seen) (io_word scene) word other vs ws us q v t w
takes_silent (made.Pass w k r j told) n x y z word other vs ws us p q (t, a) (u, b) = (t ∙ sym u, sym a, b)

traced_silent : (n : ℕ) (x : NodeRecord) (ms : List MadeEvent) (ws : List ℕ) (y z : NodeRecord) → Traced n x ms [] y → Traced n x ms ws z → ws ≡ []
unfolding Silent
traced_silent n x [] ws y z p q = q.1
traced_silent n x (m ∷ ms) ws y z (u, word, vs, b, t, l) (v, other, us, c, w, k) =
    let same = takes_silent m n x u v word other vs ws us b c t w in
    let at : u ≡ v = becomes_one n x (event_in m) other u v (subst (λ o. Becomes n x (event_in m) o u) same.0 b) c in
    same.2 ∙ traced_silent n v ms us y z (subst (λ o. Traced n v ms o y) same.1 (subst (λ o. Traced n o ms vs y) at l)) k

-- past the end of a chip nobody looks
blind_nowhere : reads_io_next (record_of_node default_node) ≡ false
unfolding reads_io_next record_of_node node_at_load_defaults
blind_nowhere = refl

blind_past : (c : List NodeRecord) (n : ℕ) → length c ≤ n → reads_io_next (node_record_at c n) ≡ false
blind_past c n l = ap (λ z. reads_io_next z) (get_or_past c n (record_of_node default_node) l) ∙ blind_nowhere

no_word : (c : List NodeRecord) (e : Event) → is_look c e ≡ false → word_read_by_look e (outside_word_of_event c e) ≡ []
no_word c (event.Own node) h = ap option_to_list (cond-false (reads_io_next (node_record_at c node.number)) (Some (io_word (neighbour_states c node.number))) None h)
no_word c (event.Pass w r side) h = refl

no_look : (c : List NodeRecord) (e : Event) → word_read_by_look e (outside_word_of_event c e) ≡ [] → is_look c e ≡ false
no_look c (event.Own node) h = go (reads_io_next (node_record_at c node.number)) h
  where
    go : (b : Bool) → option_to_list (cond b (Some (io_word (neighbour_states c node.number))) None) ≡ [] → b ≡ false
    go true k = absurd (cc)
    go false k = refl
no_look c (event.Pass w r side) h = refl

abbrev read : List (Event × Option ℕ) → List ℕ
read xs = flat_map (λ x. word_read_by_look x.0 x.1) xs

one_less : (b : Bool) (x : Event × Option ℕ) (xs : List (Event × Option ℕ)) → (b ≡ true → word_read_by_look x.0 x.1 ≡ []) → read xs ≡ [] → read (cond b (x ∷ xs) xs) ≡ []
one_less true x xs h k = ap (λ z. z ++ read xs) (h refl) ∙ k
one_less false x xs h k = k

-- no words where nobody looks
words_blind : (n : ℕ) (c last : List NodeRecord) (es : List Event) (ts : List (EventWithLook × MadeEventOutcome)) → run_events c es ≡ Some (last, ts) → HasNoLooks (causes ts) → io_words_read n c es ≡ []
words_blind n c last [] ts h none = refl
words_blind n c last (e ∷ es) ts h none =
    let m = first_of_run c e es last ts h in
    let look : HasNoLooks (event_with_look_on_chip c e ∷ causes m.others) = subst (λ (z : List (EventWithLook × MadeEventOutcome)). HasNoLooks (causes z)) m.all none in
    one_less (touches e n) (e, outside_word_of_event c e) (local_history_with_outside_words n (event_result c e).0 es) (λ t. no_word c e look.0)
    (ap (λ (q : List NodeRecord × MadeEventOutcome). io_words_read n q.0 es) (after_is c m.mid e m.told m.first) ∙ words_blind n m.mid last es m.others m.then look.1)

past_word : (c : List NodeRecord) (e : Event) (n : ℕ) → length c ≤ n → touches e n ≡ true → word_read_by_look e (outside_word_of_event c e) ≡ []
past_word c (event.Own node) n l t =
    let at : node.number ≡ n = elim (or_cases (node.number == n) false t) [ inl q ↦ eqb-true node.number n q | inr q ↦ absurd (both_ways false refl q) ] in
    no_word c (event.Own node) (blind_past c node.number (omega (arith, l, at)))
past_word c (event.Pass w r side) n l t = refl

words_past : (n : ℕ) (c last : List NodeRecord) (es : List Event) (ts : List (EventWithLook × MadeEventOutcome)) → length c ≤ n → run_events c es ≡ Some (last, ts) → io_words_read n c es ≡ []
words_past n c last [] ts l h = refl
words_past n c last (e ∷ es) ts l h =
    let m = first_of_run c e es last ts h in
    let size : length c ≡ length m.mid = (keeps_of c e m.mid m.told m.first).size in
    one_less (touches e n) (e, outside_word_of_event c e) (local_history_with_outside_words n (event_result c e).0 es) (λ t. past_word c e n l t)
    (ap (λ (q : List NodeRecord × MadeEventOutcome). io_words_read n q.0 es) (after_is c m.mid e m.told m.first) ∙ words_past n m.mid last es m.others (omega (arith, l, size)) m.then)

first_none : (b : Bool) (x : Event × Option ℕ) (xs : List (Event × Option ℕ)) → b ≡ true → read (cond b (x ∷ xs) xs) ≡ [] → word_read_by_look x.0 x.1 ≡ []
first_none true x xs t h = go (word_read_by_look x.0 x.1) h
  where
    go : (ws : List ℕ) → ws ++ read xs ≡ [] → ws ≡ []
    go [] k = refl
    go (w ∷ ws) k = absurd (cc)
first_none false x xs t h = absurd (cc)

rest_none : (b : Bool) (x : Event × Option ℕ) (xs : List (Event × Option ℕ)) → read (cond b (x ∷ xs) xs) ≡ [] → read xs ≡ []
rest_none true x xs h = go (word_read_by_look x.0 x.1) h
  where
    go : (ws : List ℕ) → ws ++ read xs ≡ [] → read xs ≡ []
    go [] k = k
    go (w ∷ ws) k = absurd (cc)
rest_none false x xs h = h

-- nobody looks where there are no words
blind_words : (c last : List NodeRecord) (es : List Event) (ts : List (EventWithLook × MadeEventOutcome)) → run_events c es ≡ Some (last, ts) → ((n : ℕ) → io_words_read n c es ≡ []) → HasNoLooks (causes ts)
blind_words c last [] ts h none = subst (λ (z : List NodeRecord × List (EventWithLook × MadeEventOutcome)). HasNoLooks (causes z.1)) (same_Some (c, []) (last, ts) h) tt
blind_words c last (e ∷ es) ts h none =
    let m = first_of_run c e es last ts h in
    let t = touched_of e in
    subst (λ (z : List (EventWithLook × MadeEventOutcome)). HasNoLooks (causes z)) (sym m.all) (
      no_look c e (first_none (touches e t.node) (e, outside_word_of_event c e) (local_history_with_outside_words t.node (event_result c e).0 es) t.is (none t.node)),
      blind_words m.mid last es m.others m.then (λ n. sym (ap (λ (q : List NodeRecord × MadeEventOutcome). io_words_read n q.0 es) (after_is c m.mid e m.told m.first)) ∙ rest_none (touches e n) (e, outside_word_of_event c e) (local_history_with_outside_words n (event_result c e).0 es) (none n)),
    )

pub none_looks : (s z : MachineState) → Runs s → Runs z → s.load ≡ z.load → HasNoLooks (machine_events_with_looks s) → ((n : ℕ) → history_of_node s n ≡ history_of_node z n) → HasNoLooks (machine_events_with_looks z)
none_looks s z r q load none told = subst HasNoLooks (sym (causes_is z q)) (blind_words z.load q.last z.kept q.told q.run_is (λ n. each n))
  where
    each : (n : ℕ) → io_words_read n z.load z.kept ≡ []
    each n = elim (cases_lt n (length z.load)) [
      | inl l ↦ (let size : length s.load ≡ length z.load = ap length load in
          let same : made_events_of_node r.told n ≡ made_events_of_node q.told n = ap (λ x. made_events_of_node x n) (sym (told_is s r)) ∙ told n ∙ ap (λ x. made_events_of_node x n) (told_is z q) in
          traced_silent n (node_record_at z.load n) (made_events_of_node q.told n) (io_words_read n z.load z.kept) (node_record_at r.last n) (node_record_at q.last n)
          (subst (λ c. Traced n (node_record_at c n) (made_events_of_node q.told n) [] (node_record_at r.last n)) load
          (subst (λ x. Traced n (node_record_at s.load n) x [] (node_record_at r.last n)) same
          (subst (λ x. Traced n (node_record_at s.load n) (made_events_of_node r.told n) x (node_record_at r.last n)) (words_blind n s.load r.last s.kept r.told r.run_is (subst HasNoLooks (causes_is s r) none))
          (traced n s.load r.last s.kept r.told [] (omega (arith, l, size)) r.run_is))))
          (traced n z.load q.last z.kept q.told [] l q.run_is))
      | inr l ↦ words_past n z.load q.last z.kept q.told l q.run_is
    ]
